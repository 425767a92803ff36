-- A log goes on to tell of a board where its buffers' holders and its tallies changed as the event says.
use Rattle.std.proofs.Common.{◌≡◌, ◌∙◌, ℕ, ◌+◌, ◌≤◌, true, false, List, [], ◌∷◌, ◌++◌, length, eqb, Some, refl, sym, ap, subst, arith, ⊎_elim}
use Rattle.std.{specs.{Prelude.{count_by}, List.{AllByRecursion, list_any}}, proofs.lemmas.Bool.{eq-eqb, Decides.{eqb_tells}}}
use Rattle.zr_kinds.specs.{declared.{event.Event.{Event}, holding.Holding.{Holding}}, Setting.{most_events, Setting}}
use Rattle.zr_kinds.specs.Holders.{Holdings, after, all_after, no_holdings, buffer_of_event, changed, has_counts, is_in_range, is_same, is_user, with_holders}
use Rattle.zr_kinds.{specs.LegalRun.{HasSmallNumbers}, proofs.{Following.{all_after-more, small-more}, Weighing.{Moves, one_if, weight-count, weight-length}}}
use Rattle.board_face.specs.Laws.{AllSides, pool_of, user_of}
use Rattle.plain_board.specs.{IsLogged.{IsLogged, KeepsLog, Logs, NoneReturns, setting_of_sides}, Logs.{KeptEvents, log_of, logged}, Plain.{AreHoldersOf, plain_holders}}
use Rattle.plain_board.{specs.{Plain.{weight}, Tallies.{AreTallied}}, proofs.{FirstEvents.{first-events}, Parts.{here}, EventCounting.{pool-weight, user-weight}}}
use Rattle.plain_board.proofs.{Tallying.{KeepsTallies, Tallies}, Weighing.{any-some}}

-- ---- one event more

-- what the holders of each buffer weigh
abbrev pub Weights : Type 0
Weights = ℕ → (Holding → ℕ) → ℕ

abbrev pub Weigh : Holdings → Weights → Type 0
Weigh h weights = (b : ℕ) (f : Holding → ℕ) → weight f (h b) ≡ weights b f

abbrev pub weights_of : AllSides → Weights
weights_of s b f = weight f (plain_holders s b)

-- All events lead to holders that weigh as much, and their tallies are these. The log has the first of them. So it tells of a
-- board where these are the weights of the board's holders, and its tallies.
pub record Tells (run : Setting) (weights : Weights) (tallied : List Event → Type 0) (kept : KeptEvents) : Type 0 where
  pub most : kept.room ≤ most_events
  pub all : List Event
  pub log_is : kept ≡ log_of kept.room all
  pub small : AllByRecursion HasSmallNumbers all
  pub holdings : Holdings
  pub reached : all_after run no_holdings all ≡ Some holdings
  pub same : Weigh holdings weights
  pub tallies : tallied all

pub tells-of : (s : AllSides) (kept : KeptEvents) → IsLogged s kept → Tells (setting_of_sides s) (weights_of s) (AreTallied s) kept
tells-of s kept was = record {
  most = was.most;
  all = was.all;
  log_is = was.log_is;
  small = was.small;
  holdings = was.holdings;
  reached = was.reached;
  same = was.same;
  tallies = was.tallied;
}

pub tells-as : (run : Setting) (weights others : Weights) (tallied : List Event → Type 0) (kept : KeptEvents)
    → ((b : ℕ) (f : Holding → ℕ) → weights b f ≡ others b f) → Tells run weights tallied kept → Tells run others tallied kept
tells-as run weights others tallied kept same tells = record {
  most = tells.most;
  all = tells.all;
  log_is = tells.log_is;
  small = tells.small;
  holdings = tells.holdings;
  reached = tells.reached;
  same = λ b f. tells.same b f ∙ same b f;
  tallies = tells.tallies;
}

-- in the setting of these sides, with what their holders weigh, and with their tallies
pub logged-of : (run : Setting) (weights : Weights) (tallied : List Event → Type 0) (s : AllSides) (kept : KeptEvents) → setting_of_sides s ≡ run
    → ((b : ℕ) (f : Holding → ℕ) → weights b f ≡ weights_of s b f) → ((events : List Event) → tallied events → AreTallied s events)
    → Tells run weights tallied kept → IsLogged s kept
logged-of run weights tallied s kept one same counts tells = record {
  most = tells.most;
  all = tells.all;
  log_is = tells.log_is;
  small = tells.small;
  holdings = tells.holdings;
  reached = ap (λ r. all_after r no_holdings tells.all) one ∙ tells.reached;
  same = λ b f. tells.same b f ∙ same b f;
  tallied = counts tells.all tells.tallies;
}

-- the holders after the event weigh as much as these
abbrev pub Leads : Setting → Event → Weights → Weights → Type 0
Leads run e old new = (h : Holdings) → Weigh h old → (now : Holdings) × (after run h e ≡ Some now) × Weigh now new

-- the holders after the event are those of the new sides
abbrev pub Follows : Event → AllSides → AllSides → Type 0
Follows e old new = Leads (setting_of_sides old) e (weights_of old) (weights_of new)

pub tells-more : (run : Setting) (e : Event) (old new : Weights) (before after : List Event → Type 0) (kept : KeptEvents) → Tells run old before kept
    → HasSmallNumbers e → Leads run e old new → ((events : List Event) → before events → after (events ++ e ∷ []))
    → Tells run new after (logged kept e)
tells-more run e old new before after kept was small leads counts =
    let all = was.all ++ e ∷ [] in
    let next = leads was.holdings was.same in
    let is : logged kept e ≡ log_of kept.room all = ap (λ k. logged k e) was.log_is ∙ first-events kept.room was.all e in
    subst (Tells run new after) (sym is) (record {
      most = was.most;
      all = all;
      log_is = refl;
      small = small-more was.all e was.small small;
      holdings = next.0;
      reached = all_after-more run no_holdings was.holdings next.0 was.all e was.reached next.1;
      same = next.2;
      tallies = counts was.all was.tallies;
    })

pub logs-by : (e : Event) (old new : AllSides) → setting_of_sides new ≡ setting_of_sides old → Follows e old new → Tallies e old new → Logs e old new
logs-by e old new one follows counts kept small was =
    logged-of (setting_of_sides old) (weights_of new) (AreTallied new) new (logged kept e) one (λ b f. refl) (λ events are. are)
    (tells-more (setting_of_sides old) e (weights_of old) (weights_of new) (AreTallied old) (AreTallied new) kept (tells-of old kept was) small follows counts)

-- where no holder changed and nothing is logged
pub logged-same : (old new : AllSides) → setting_of_sides new ≡ setting_of_sides old → ((b : ℕ) (f : Holding → ℕ) → weights_of new b f ≡ weights_of old b f)
    → KeepsTallies old new → KeepsLog old new
logged-same old new one same counts kept was =
    logged-of (setting_of_sides old) (weights_of old) (AreTallied old) new kept one (λ b f. sym (same b f)) counts (tells-of old kept was)

-- ---- the holders of one buffer change

-- these holders of the buffer end and those begin
abbrev pub Shifts : ℕ → List Holding → List Holding → AllSides → AllSides → Type 0
Shifts buffer olds news old new =
    (b : ℕ) (f : Holding → ℕ)
    → weight f (plain_holders new b) + here b buffer (weight f olds) ≡ weight f (plain_holders old b) + here b buffer (weight f news)

pub here-itself : (b n : ℕ) → here b b n ≡ n
here-itself b n = rw (eq-eqb b b refl) refl

pub here-other : (b c n : ℕ) → eqb c b ≡ false → here b c n ≡ 0
here-other b c n other = rw other refl

pub shift-there : (buffer : ℕ) (olds news : List Holding) (old new : AllSides) → Shifts buffer olds news old new → (f : Holding → ℕ)
    → weight f (plain_holders new buffer) + weight f olds ≡ weight f (plain_holders old buffer) + weight f news
shift-there buffer olds news old new shifts f =
    omega (arith, shifts buffer f, here-itself buffer (weight f olds), here-itself buffer (weight f news))

-- the counts that the event says are those of the buffer
abbrev pub Counts : Event → ℕ → AllSides → Type 0
Counts e buffer s =
    (held : List Holding) → length held ≡ pool_of s buffer → ((a : ℕ) → count_by (is_user a) held ≡ user_of s a buffer) → has_counts held e ≡ true

-- where the event finds in the buffer's holders what it needs, these become
abbrev pub Becomes : Event → ℕ → List Holding → List Holding → AllSides → Type 0
Becomes e buffer olds news s =
    (h : Holdings) → AreHoldersOf h s → (is_in_range (setting_of_sides s) e ≡ true)
    × ((later : List Holding) × (changed (setting_of_sides s) (h buffer) e ≡ Some later) × Moves (h buffer) olds news later)

pub after-is : (s : Setting) (h : Holdings) (e : Event) (b : ℕ) (later : List Holding) → is_in_range s e ≡ true → buffer_of_event e ≡ Some b
    → changed s (h b) e ≡ Some later → has_counts later e ≡ true → after s h e ≡ Some (with_holders h b later)
unfolding after
after-is s h e b later range buffer is counts = rw (range, buffer, is, counts) refl

pub follows-by : (e : Event) (buffer : ℕ) (olds news : List Holding) (old new : AllSides) → buffer_of_event e ≡ Some buffer → NoneReturns new
    → Shifts buffer olds news old new → Counts e buffer new → Becomes e buffer olds news old → Follows e old new
follows-by e buffer olds news old new names none shifts counts becoming h same =
    let (range, became) = becoming h same in
    let (later, is, moves) = became in
    let now : (f : Holding → ℕ) → weight f later ≡ weight f (plain_holders new buffer) = λ f.
    let shift : weight f (plain_holders new buffer) + weight f olds ≡ weight f (plain_holders old buffer) + weight f news =
    shift-there buffer olds news old new shifts f in
    omega (arith, shift, moves f, same buffer f) in
    let pool : length later ≡ pool_of new buffer = sym (weight-length later) ∙ now (λ k. 1) ∙ pool-weight new none buffer in
    let users = λ (a : ℕ). sym (weight-count (is_user a) later) ∙ now (one_if (is_user a)) ∙ user-weight new a buffer in (
      with_holders h buffer later,
      after-is (setting_of_sides old) h e buffer later range names is (counts later pool users),
      λ b f.
          ⊎_elim
          (λ t. let e : b ≡ buffer = t.1 in rw t.0 (now f ∙ ap (λ c. weight f (plain_holders new c)) (sym e)))
          (λ t.
          let other : eqb buffer b ≡ false = ⊎_elim (λ u. absurd (t.1 (sym u.1))) (λ u. u.0) (eqb_tells buffer b) in
          let shift : weight f (plain_holders new b) ≡ weight f (plain_holders old b) =
          omega (arith, shifts b f, here-other b buffer (weight f olds) other, here-other b buffer (weight f news) other) in
          rw t.0 (omega (arith, shift, same b f)))
          (eqb_tells b buffer),
    )

-- the holder that ends is there, since it isn't among those that begin
pub was-there : (buffer : ℕ) (one : Holding) (news : List Holding) (old new : AllSides) → Shifts buffer (one ∷ []) news old new
    → is_same one one ≡ true → weight (one_if (is_same one)) news ≡ 0 → (h : Holdings) → AreHoldersOf h old
    → list_any (is_same one) (h buffer) ≡ true
was-there buffer one news old new shifts self none h same =
    let f = one_if (is_same one) in
    let shift : weight f (plain_holders new buffer) + weight f (one ∷ []) ≡ weight f (plain_holders old buffer) + weight f news =
    shift-there buffer (one ∷ []) news old new shifts f in
    let itself : f one ≡ 1 = rw self refl in
    any-some (is_same one) (h buffer) (omega (arith, shift, itself, none, same buffer f))
