-- How the reading of a record's lines goes on and ends.
use Rattle.std.proofs.Common.{◌≡◌, ◌∙◌, ℕ, ◌+◌, ◌++◌, ◌≤◌, List, [], ◌∷◌, length, map, All, Bool, true, false, refl, sym, ap, subst, arith, ◌⊎◌, ⊎_elim}
use Rattle.std.proofs.Common.{Some, None, IsTrue, append_assoc, append-nil, length-append, zero, suc}
use Rattle.zr_kinds.specs.{declared.event.Event.{Event}, Setting.{most_events, IsRunArea, IsSetting, Setting}, Holders.{Holdings, after, all_after, no_holdings}}
use Rattle.zr_kinds.{specs.{LegalRun.{IsLegalRun}, RunText.{RecordText, last_line, line_of, run_line, text_of_lines}}, proofs.Following.{all_after-more, small-more}}
use Rattle.run_check.specs.{declared.checking.Checked.TheVariants.{Yes, No}, Coming.{HasNoLine, IsOneLine}, Judged.{BeginARun, IsWhy, Judges}, Reading.{event_of}, Unfit.{IsUnfit}}
use Rattle.run_check.specs.declared.unfit.Unfit.{Unfit}
use Rattle.run_check.specs.declared.unfit.Unfit.TheVariants as unfit
use Rattle.run_check.proofs.{Going.{IsLegalSoFar, MayFollow, not_last, same_event}, Lacking.{lack_none}, Judging.{bad_line, more_behind, no_run, same_line, whole_run}}
use Rattle.run_check.proofs.{LineText.{event_of-line_of, line_of-event_of}, Short.{last_line-short, line_of-short}}

-- so many events were read of the bytes behind the first line, and these are the holders after them
pub record HasCome (s : Setting) (start rest : List ℕ) (h : Holdings) (count : ℕ) : Type 0 where
  pub events : List Event
  pub number : length events ≡ count
  pub far : IsLegalSoFar s events h
  pub text : start ≡ text_of_lines (map line_of events) ++ rest

abbrev pub behind_first : Setting → List ℕ → List ℕ
behind_first s start = text_of_lines (run_line s ∷ []) ++ start

first_then : (s : Setting) (lines : List RecordText) (rest start : List ℕ) → start ≡ text_of_lines lines ++ rest
    → behind_first s start ≡ text_of_lines (run_line s ∷ lines) ++ rest
first_then s lines rest start text =
    ap (λ t. t ++ start) (append-nil (run_line s ++ 10 ∷ [])) ∙ ap (λ t. (run_line s ++ 10 ∷ []) ++ t) text
    ∙ sym (append_assoc (run_line s ++ 10 ∷ []) (text_of_lines lines) rest)

-- ---- at first, and one event more

pub come_first : (s : Setting) (start : List ℕ) → IsSetting s → HasCome s start start no_holdings 0
come_first s start sound = record {
  events = [];
  number = refl;
  far = record { sound = sound; most = omega arith; small = tt; reached = refl };
  text = refl;
}

text_more : (events : List Event) (e : Event) (rest : List ℕ)
    → text_of_lines (map line_of events) ++ ((line_of e ++ 10 ∷ []) ++ rest) ≡ text_of_lines (map line_of (events ++ e ∷ [])) ++ rest
text_more [] e rest = ap (λ t. t ++ rest) (sym (append-nil (line_of e ++ 10 ∷ [])))
text_more (f ∷ events) e rest =
    append_assoc (line_of f ++ 10 ∷ []) (text_of_lines (map line_of events)) ((line_of e ++ 10 ∷ []) ++ rest)
    ∙ ap (λ t. (line_of f ++ 10 ∷ []) ++ t) (text_more events e rest)
    ∙ sym (append_assoc (line_of f ++ 10 ∷ []) (text_of_lines (map line_of (events ++ e ∷ []))) rest)

pub come_more : (s : Setting) (start rest later : List ℕ) (h now : Holdings) (count : ℕ) (line : RecordText) (e : Event) → HasCome s start rest h count
    → count + 1 ≤ most_events → rest ≡ (line ++ 10 ∷ []) ++ later → event_of line ≡ Some e → after s h e ≡ Some now → HasCome s start later now (count + 1)
come_more s start rest later h now count line e come room took read follows =
    let own = line_of-event_of line e read in
    record {
      events = come.events ++ e ∷ [];
      number = omega (arith, length-append come.events (e ∷ []), come.number);
      far = record {
        sound = come.far.sound;
        most = omega (arith, length-append come.events (e ∷ []), come.number);
        small = small-more come.events e come.far.small own.1;
        reached = all_after-more s no_holdings h now come.events e come.far.reached follows;
      };
      text = come.text ∙ ap (λ r. text_of_lines (map line_of come.events) ++ r) (took ∙ ap (λ l. (l ++ 10 ∷ []) ++ later) own.0) ∙ text_more come.events e later;
    }

-- ---- the ends

-- no line comes
pub no_line : (s : Setting) (start rest : List ℕ) (h : Holdings) (count : ℕ) → HasCome s start rest h count → HasNoLine rest
    → Judges (behind_first s start) (No (count + 2) unfit.NoLine)
no_line s start rest h count come none =
    subst (λ n. Judges (behind_first s start) (No (n + 2) unfit.NoLine)) come.number
    (bad_line s come.events h (behind_first s start) rest come.far (first_then s (map line_of come.events) rest start come.text)
    (λ line behind same one. ⊎_elim
    (λ next. let long = none line behind same one in
    absurd (omega (arith, long, line_of-short next.e next.small, ap length next.told)))
    (λ end. let long = none line behind same one in
    absurd (omega (arith, long, last_line-short end.whole, ap length end.told))))
    unfit.NoLine none)

-- what is unfit may not follow
unfit_follows : (s : Setting) (events : List Event) (h : Holdings) (line : RecordText) (why : Unfit) → IsUnfit s (length events) h line why
    → IsLegalSoFar s events h → MayFollow s events h line → ⊥
unfit_follows s events h line unfit.NoLine is far may = is
unfit_follows s events h line unfit.NoSetting is far may = is
unfit_follows s events h line unfit.Behind is far may = is
unfit_follows s events h line unfit.NoEvent (last, none) far may =
    ⊎_elim (λ next. none next.e next.small next.told) (λ end. last end.whole end.told) may
unfit_follows s events h line unfit.TooMany (last, full) far may =
    ⊎_elim (λ next. omega (arith, full, next.room)) (λ end. last end.whole end.told) may
unfit_follows s events h line unfit.Held (told, some) far may =
    ⊎_elim (λ next. not_last next.e true next.small (sym next.told ∙ told)) (λ end. ended end.whole (sym told ∙ end.told) end.legal) may
  where
    ended : (whole : Bool) → last_line true ≡ last_line whole → IsLegalRun s events whole → ⊥
    ended false told legal = cc
    ended true told legal =
        let same : Some h ≡ Some legal.holdings = sym far.reached ∙ legal.reached in
        let equal : legal.holdings ≡ h = cc in
        some (λ b. ap (λ k. k b) (sym equal) ∙ legal.ended refl b)
unfit_follows s events h line (unfit.Event e l) (told, small, lack) far may =
    ⊎_elim
    (λ next. let same : e ≡ next.e = same_event e next.e small next.small (sym told ∙ next.told) in
    let none : after s h next.e ≡ None = subst (λ f. after s h f ≡ None) same (lack_none s h e l lack) in
    let fit : after s h next.e ≡ Some next.then = next.follows in cc)
    (λ end. not_last e end.whole small (sym told ∙ end.told)) may

why_unfit : (before : List RecordText) (rest : List ℕ) (s : Setting) (events : List Event) (h : Holdings) (line : RecordText) (behind : List ℕ) (why : Unfit)
    → before ≡ run_line s ∷ map line_of events → all_after s no_holdings events ≡ Some h → rest ≡ line ++ 10 ∷ behind → IsOneLine line
    → IsUnfit s (length events) h line why → IsWhy before rest why
why_unfit before rest s events h line behind unfit.NoLine told reached next one is = absurd is
why_unfit before rest s events h line behind unfit.NoSetting told reached next one is = absurd is
why_unfit before rest s events h line behind unfit.Behind told reached next one is = absurd is
why_unfit before rest s events h line behind unfit.NoEvent told reached next one is =
    record { setting = s; events = events; holdings = h; told = told; reached = reached; line = line; behind = behind; next = next; one = one; is_unfit = is }
why_unfit before rest s events h line behind unfit.TooMany told reached next one is =
    record { setting = s; events = events; holdings = h; told = told; reached = reached; line = line; behind = behind; next = next; one = one; is_unfit = is }
why_unfit before rest s events h line behind unfit.Held told reached next one is =
    record { setting = s; events = events; holdings = h; told = told; reached = reached; line = line; behind = behind; next = next; one = one; is_unfit = is }
why_unfit before rest s events h line behind (unfit.Event e l) told reached next one is =
    record { setting = s; events = events; holdings = h; told = told; reached = reached; line = line; behind = behind; next = next; one = one; is_unfit = is }

-- the line that comes is unfit
pub unfit_line : (s : Setting) (start rest later : List ℕ) (h : Holdings) (count : ℕ) (line : RecordText) (why : Unfit) → HasCome s start rest h count
    → rest ≡ (line ++ 10 ∷ []) ++ later → IsOneLine line → IsUnfit s count h line why → Judges (behind_first s start) (No (count + 2) why)
unfit_line s start rest later h count line why come took one is =
    let here : IsUnfit s (length come.events) h line why = subst (λ n. IsUnfit s n h line why) (sym come.number) is in
    let next : rest ≡ line ++ 10 ∷ later = took ∙ append_assoc line (10 ∷ []) later in
    subst (λ n. Judges (behind_first s start) (No (n + 2) why)) come.number
    (bad_line s come.events h (behind_first s start) rest come.far (first_then s (map line_of come.events) rest start come.text)
    (λ other behind same other_one may.
    let lines = same_line other line behind later other_one one (sym same ∙ next) in
    unfit_follows s come.events h line why here come.far (subst (MayFollow s come.events h) lines.0 may))
    why (why_unfit (run_line s ∷ map line_of come.events) rest s come.events h line later why refl come.far.reached next one here))

-- it is a last line that may come: what is said goes by whether something follows
legal_here : (s : Setting) (events : List Event) (h : Holdings) (whole : Bool) → IsLegalSoFar s events h → (IsTrue whole → (b : ℕ) → h b ≡ [])
    → IsLegalRun s events whole
legal_here s events h whole far none =
    record { sound = far.sound; most = far.most; small = far.small; holdings = h; reached = far.reached; ended = none }

pub told_whole : (s : Setting) (start rest : List ℕ) (h : Holdings) (count : ℕ) (whole : Bool) → HasCome s start rest h count
    → (IsTrue whole → (b : ℕ) → h b ≡ []) → rest ≡ (last_line whole ++ 10 ∷ []) ++ [] → Judges (behind_first s start) (Yes (count + 2))
told_whole s start rest h count whole come none took =
    subst (λ n. Judges (behind_first s start) (Yes (n + 2))) come.number
    (whole_run s come.events whole (behind_first s start) (legal_here s come.events h whole come.far none)
    (first_then s (map line_of come.events) rest start come.text
    ∙ ap (λ t. text_of_lines (run_line s ∷ map line_of come.events) ++ t) (took ∙ append_assoc (last_line whole) (10 ∷ []) [])))

pub told_more : (s : Setting) (start rest later : List ℕ) (h : Holdings) (count : ℕ) (whole : Bool) → HasCome s start rest h count
    → (IsTrue whole → (b : ℕ) → h b ≡ []) → rest ≡ (last_line whole ++ 10 ∷ []) ++ later → (later ≡ [] → ⊥)
    → Judges (behind_first s start) (No (count + 3) unfit.Behind)
told_more s start rest later h count whole come none took some =
    subst (λ n. Judges (behind_first s start) (No (n + 3) unfit.Behind)) come.number
    (more_behind s come.events h whole (behind_first s start) later come.far (legal_here s come.events h whole come.far none)
    (first_then s (map line_of come.events) rest start come.text
    ∙ ap (λ t. text_of_lines (run_line s ∷ map line_of come.events) ++ t) (took ∙ append_assoc (last_line whole) (10 ∷ []) later)) some)

abbrev smallest : Setting
smallest = record { areas = (1, 1024) ∷ []; apps = 1 }

one_area : All IsRunArea smallest.areas
one_area zero d lt = record { buffers = (omega arith, omega arith); size = record { power = (10, refl); least = omega arith; most = omega arith } }
one_area (suc k) d lt = absurd (omega arith)

smallest_sound : IsSetting smallest
smallest_sound = record {
  areas = record { some = omega arith; most = omega arith; each = one_area; buffers = omega arith; bytes = omega arith };
  apps = (omega arith, omega arith);
}

first_run : BeginARun []
first_run = (
  run_line smallest ∷ last_line false ∷ [],
  record {
    setting = smallest;
    events = [];
    whole = false;
    legal = record { sound = smallest_sound; most = omega arith; small = tt; holdings = no_holdings; reached = refl; ended = λ t. cc };
    told = refl;
  },
)

-- the first line isn't one that a run may have
pub bad_first : (bytes : List ℕ) → ((line : RecordText) (behind : List ℕ) → bytes ≡ line ++ 10 ∷ behind → IsOneLine line
    → (s : Setting) → IsSetting s → line ≡ run_line s → ⊥) → (why : Unfit) → IsWhy [] bytes why → Judges bytes (No 1 why)
bad_first bytes bad why is_why =
    let ends : (line : RecordText) (behind : List ℕ) → bytes ≡ line ++ 10 ∷ behind → IsOneLine line → BeginARun ([] ++ line ∷ []) → ⊥ =
    λ line behind same one begun. let run = begun.1 in
    let told : line ∷ begun.0 ≡ run_line run.setting ∷ (map line_of run.events ++ last_line run.whole ∷ []) = run.told in
    let first : line ≡ run_line run.setting = cc in
    bad line behind same one run.setting run.legal.sound first in (
      record {
        before = [];
        rest = bytes;
        parted = refl;
        counted = refl;
        begun = first_run;
        ends = ends;
        cause = is_why;
      },
      no_run [] bytes bytes tt refl ends (λ nothing run. let told : [] ≡ run_line run.setting ∷ (map line_of run.events ++ last_line run.whole ∷ []) = run.told in cc),
    )
