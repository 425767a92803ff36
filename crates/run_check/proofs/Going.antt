-- What may follow the lines of a run that is legal so far.
use Rattle.std.proofs.Common.{◌≡◌, ◌∙◌, ◌+◌, ◌++◌, ◌≤◌, List, [], ◌∷◌, length, map, Bool, false, refl, sym, ap, subst, arith, ◌⊎◌, inl, inr, ⊎_elim}
use Rattle.std.{proofs.Common.{Some, None, append_assoc, length-append}, specs.List.{AllByRecursion}}
use Rattle.zr_kinds.specs.{declared.event.Event.{Event}, Setting.{most_events, IsSetting, Setting}, Holders.{Holdings, after, all_after, no_holdings}}
use Rattle.zr_kinds.{specs.{LegalRun.{HasSmallNumbers, IsLegalRun}, RunText.{RecordText, last_line, line_of, lines_of, run_line}}, proofs.Following.{some_from}}
use Rattle.run_check.{specs.{Judged.{BeginARun}, Reading.{event_of, setting_of}}, proofs.LineText.{event_of-line_of, last_line-no_event}}
use Rattle.run_check.proofs.SettingText.{setting_of-run_line}

-- the events of a run so far
pub record IsLegalSoFar (s : Setting) (events : List Event) (h : Holdings) : Type 0 where
  pub sound : IsSetting s
  pub most : length events ≤ most_events
  pub small : AllByRecursion HasSmallNumbers events
  pub reached : all_after s no_holdings events ≡ Some h

-- an event that may come next
pub record IsNextEvent (s : Setting) (events : List Event) (h : Holdings) (line : RecordText) : Type 0 where
  pub e : Event
  pub small : HasSmallNumbers e
  pub told : line ≡ line_of e
  pub then : Holdings
  pub follows : after s h e ≡ Some then
  pub room : length events + 1 ≤ most_events

-- a last line that may come next
pub record IsNextEnd (s : Setting) (events : List Event) (line : RecordText) : Type 0 where
  pub whole : Bool
  pub told : line ≡ last_line whole
  pub legal : IsLegalRun s events whole

abbrev pub MayFollow : Setting → List Event → Holdings → RecordText → Type 0
MayFollow s events h line = IsNextEvent s events h line ⊎ IsNextEnd s events line

-- a beginning that is legal so far goes on to a legal run
pub goes_on : (s : Setting) (events : List Event) (h : Holdings) → IsLegalSoFar s events h → BeginARun (run_line s ∷ map line_of events)
goes_on s events h far = (
  last_line false ∷ [],
  record {
    setting = s;
    events = events;
    whole = false;
    legal = record { sound = far.sound; most = far.most; small = far.small; holdings = h; reached = far.reached; ended = λ t. cc };
    told = refl;
  },
)

-- ---- two lists of lines that begin alike

pub not_last : (e : Event) (whole : Bool) → HasSmallNumbers e → line_of e ≡ last_line whole → ⊥
not_last e whole small same =
    let read : Some e ≡ None = sym (event_of-line_of e small) ∙ ap event_of same ∙ last_line-no_event whole in
    cc

pub same_event : (e f : Event) → HasSmallNumbers e → HasSmallNumbers f → line_of e ≡ line_of f → e ≡ f
same_event e f small_e small_f same =
    let read : Some e ≡ Some f = sym (event_of-line_of e small_e) ∙ ap event_of same ∙ event_of-line_of f small_f in
    cc

-- where one ends, or what is next in it
abbrev EndsHere : List Event → List Event → RecordText → List RecordText → Bool → Type 0
EndsHere events others line behind whole = (others ≡ events) × (line ≡ last_line whole) × (behind ≡ [])

abbrev GoesOn : List Event → List Event → RecordText → Type 0
GoesOn events others line = (e : Event) × (more : List Event) × (others ≡ events ++ e ∷ more) × (line ≡ line_of e)

compared : (events others : List Event) (line : RecordText) (behind : List RecordText) (whole : Bool) → AllByRecursion HasSmallNumbers events
    → AllByRecursion HasSmallNumbers others → map line_of events ++ line ∷ behind ≡ map line_of others ++ last_line whole ∷ []
    → EndsHere events others line behind whole ⊎ GoesOn events others line
compared [] [] line behind whole small others_small same = inl (refl, cc, cc)
compared [] (f ∷ others) line behind whole small others_small same = inr (f, others, refl, cc)
compared (e ∷ events) [] line behind whole small others_small same =
    let first : line_of e ≡ last_line whole = cc in absurd (not_last e whole small.0 first)
compared (e ∷ events) (f ∷ others) line behind whole small others_small same =
    let first : line_of e ≡ line_of f = cc in
    let equal : f ≡ e = sym (same_event e f small.0 others_small.0 first) in
    let rest : map line_of events ++ line ∷ behind ≡ map line_of others ++ last_line whole ∷ [] = cc in
    ⊎_elim (λ ends. let same_rest : others ≡ events = ends.0 in inl (cc, ends.1, ends.2))
    (λ goes. let same_rest : others ≡ events ++ goes.0 ∷ goes.1 = goes.2 in inr (goes.0, goes.1, cc, goes.3))
    (compared events others line behind whole small.1 others_small.1 rest)

-- ---- the event that is next in a legal run

next_after : (s : Setting) (start h end : Holdings) (events : List Event) (e : Event) (more : List Event) → all_after s start events ≡ Some h
    → all_after s start (events ++ e ∷ more) ≡ Some end → (then : Holdings) × (after s h e ≡ Some then)
next_after s start h end [] e more reached whole =
    let step = some_from (after s start e) (λ now. all_after s now more) end whole in
    let same : start ≡ h = cc in
    (step.0, ap (λ k. after s k e) (sym same) ∙ step.1)
next_after s start h end (f ∷ events) e more reached whole =
    let first = some_from (after s start f) (λ now. all_after s now events) h reached in
    let other = some_from (after s start f) (λ now. all_after s now (events ++ e ∷ more)) end whole in
    let same : Some other.0 ≡ Some first.0 = sym other.1 ∙ first.1 in
    let equal : other.0 ≡ first.0 = cc in
    next_after s first.0 h end events e more first.2 (ap (λ k. all_after s k (events ++ e ∷ more)) (sym equal) ∙ other.2)

same_setting : (s t : Setting) → IsSetting s → IsSetting t → run_line s ≡ run_line t → s ≡ t
same_setting s t sound_s sound_t same =
    let read : Some s ≡ Some t = sym (setting_of-run_line s sound_s) ∙ ap setting_of same ∙ setting_of-run_line t sound_t in
    cc

pub followed : (s : Setting) (events : List Event) (h : Holdings) (line : RecordText) → IsLegalSoFar s events h
    → BeginARun ((run_line s ∷ map line_of events) ++ line ∷ []) → MayFollow s events h line
followed s events h line far (behind, run) =
    let told : run_line s ∷ ((map line_of events ++ line ∷ []) ++ behind) ≡ run_line run.setting ∷ (map line_of run.events ++ last_line run.whole ∷ []) = run.told in
    let heads : run_line s ≡ run_line run.setting = cc in
    let setting : run.setting ≡ s = sym (same_setting s run.setting far.sound run.legal.sound heads) in
    let tails : (map line_of events ++ line ∷ []) ++ behind ≡ map line_of run.events ++ last_line run.whole ∷ [] = cc in
    let legal : IsLegalRun s run.events run.whole = subst (λ t. IsLegalRun t run.events run.whole) setting run.legal in
    ⊎_elim (λ ends. inr (record { whole = run.whole; told = ends.1; legal = subst (λ es. IsLegalRun s es run.whole) ends.0 legal }))
    (λ goes.
    let whole : all_after s no_holdings (events ++ goes.0 ∷ goes.1) ≡ Some legal.holdings = ap (all_after s no_holdings) (sym goes.2) ∙ legal.reached in
    let next = next_after s no_holdings h legal.holdings events goes.0 goes.1 far.reached whole in
    let sizes : length run.events ≡ length (events ++ goes.0 ∷ goes.1) = ap length goes.2 in
    inl (record {
      e = goes.0;
      small = small_at events goes.0 goes.1 (subst (AllByRecursion HasSmallNumbers) goes.2 legal.small);
      told = goes.3;
      then = next.0;
      follows = next.1;
      room = omega (arith, sizes, length-append events (goes.0 ∷ goes.1), legal.most);
    }))
    (compared events run.events line behind run.whole far.small legal.small (sym (append_assoc (map line_of events) (line ∷ []) behind) ∙ tails))
  where
    small_at : (before : List Event) (e : Event) (more : List Event) → AllByRecursion HasSmallNumbers (before ++ e ∷ more) → HasSmallNumbers e
    small_at [] e more small = small.0
    small_at (f ∷ before) e more small = small_at before e more small.1

-- nothing follows a last line
pub nothing_follows : (s : Setting) (events : List Event) (h : Holdings) (whole : Bool) (line : RecordText) → IsLegalSoFar s events h
    → BeginARun (lines_of s events whole ++ line ∷ []) → ⊥
nothing_follows s events h whole line far (behind, run) =
    let told : run_line s ∷ (((map line_of events ++ last_line whole ∷ []) ++ line ∷ []) ++ behind)
    ≡ run_line run.setting ∷ (map line_of run.events ++ last_line run.whole ∷ []) = run.told in
    let tails : ((map line_of events ++ last_line whole ∷ []) ++ line ∷ []) ++ behind ≡ map line_of run.events ++ last_line run.whole ∷ [] = cc in
    let parts : map line_of events ++ (last_line whole ∷ line ∷ behind) ≡ map line_of run.events ++ last_line run.whole ∷ [] =
    sym (append_assoc (map line_of events) (last_line whole ∷ []) (line ∷ behind))
    ∙ sym (append_assoc (map line_of events ++ last_line whole ∷ []) (line ∷ []) behind) ∙ tails in
    ⊎_elim (λ ends. let none : line ∷ behind ≡ [] = ends.2 in cc)
    (λ goes. not_last goes.0 whole (small_at events goes.0 goes.1 (subst (AllByRecursion HasSmallNumbers) goes.2 run.legal.small)) (sym goes.3))
    (compared events run.events (last_line whole) (line ∷ behind) run.whole far.small run.legal.small parts)
  where
    small_at : (before : List Event) (e : Event) (more : List Event) → AllByRecursion HasSmallNumbers (before ++ e ∷ more) → HasSmallNumbers e
    small_at [] e more small = small.0
    small_at (f ∷ before) e more small = small_at before e more small.1
