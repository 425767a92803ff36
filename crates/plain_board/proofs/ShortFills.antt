-- Spares are filled with few bytes.
use Rattle.std.{proofs.Common.{ℕ, ◌≤◌, Bool, true, false, cond, List, [], ◌∷◌, length, subst, sym, arith}, specs.Prelude.{All}}
use Rattle.std.proofs.lemmas.List.Elements.{All-nil, All-head, All-tail, All-get_or, All-push, All-set}
use Rattle.board_face.specs.{AppEvents.{own_bytes}, Lists.{at_first}, NicCalls.{apps_of}, NicEvents.{fresh}, Sides.{IsApp}, Tokens.{filled_by, same_filling}}
use Rattle.board_face.{specs.declared.views.{parts.Filling.{Filling}, app.{SpareOwn.{SpareOwn}, AppSide.{AppSide}}}, proofs.ListLemmas.{All-without}}
use Rattle.board_face.{proofs.OpenedLemmas.{All-new}, specs.{BoardSteps.{AppStep, app, apply, spares, fills, lends_own}, Laws.{AllSides}, Sides.{side_in}}}
use Rattle.plain_board.specs.{Fills.{AreShort, FillsLaw, HasShortFills}, StepEvents.{MayTell}}

abbrev IsShort : SpareOwn → Type 0
IsShort s = length s.bytes ≤ 256

own-short : (apps : List AppSide) (a : ℕ) (x : AppSide) → IsApp apps a x → AreShort apps → All IsShort x.view.owns
own-short apps a x at short = subst HasShortFills at.is (All-get_or HasShortFills apps a x at.there short)

pub fills-law : FillsLaw
fills-law = record {
  opened = λ setting. All-new HasShortFills setting 0 (apps_of setting) (λ a. All-nil IsShort);
  same = λ apps a x now at same short. All-set HasShortFills apps a now (subst (All IsShort) (sym same) (own-short apps a x at short)) short;
}

-- no step fills a spare with more
pub step-short : (step : AppStep) (s : AllSides) (a : ℕ) → IsApp s.apps a (side_in s.apps a) → MayTell (app a step) s → AreShort s.apps
    → AreShort (apply (app a step) s).apps
step-short (spares b) s a at may short =
    let v = (side_in s.apps a).view in
    All-set HasShortFills s.apps a _
    (All-push IsShort v.owns (record { own = fresh v.setting b; bytes = [] }) (own-short s.apps a _ at short) (omega arith)) short
step-short (fills own bytes) s a at may short =
    All-set HasShortFills s.apps a _
    (All-push IsShort _ (record { own = filled_by own (length bytes); bytes = bytes })
    (All-without IsShort (λ x. same_filling own x.own) (side_in s.apps a).view.owns (own-short s.apps a _ at short)) may) short
step-short (lends_own own) s a at may short =
    All-set HasShortFills s.apps a _
    (All-without IsShort (λ x. same_filling own x.own) (side_in s.apps a).view.owns (own-short s.apps a _ at short)) short
step-short step s a at may short = All-set HasShortFills s.apps a _ (own-short s.apps a _ at short) short

-- ---- the bytes of one spare

bytes-case : (c : Bool) (one other : List ℕ) → length one ≤ 256 → length other ≤ 256 → length (cond c one other) ≤ 256
bytes-case true one other here there = here
bytes-case false one other here there = there

first-short : (test : SpareOwn → Bool) (owns : List SpareOwn) → All IsShort owns → length (at_first test (λ s. s.bytes) [] owns) ≤ 256
first-short test [] short = omega arith
first-short test (s ∷ owns) short =
    bytes-case (test s) s.bytes (at_first test (λ x. x.bytes) [] owns) (All-head IsShort s owns short)
    (first-short test owns (All-tail IsShort s owns short))

pub own_bytes-short : (apps : List AppSide) (a : ℕ) (x : AppSide) → IsApp apps a x → AreShort apps → (own : Filling)
    → length (own_bytes x.view own) ≤ 256
own_bytes-short apps a x at short own = first-short (λ s. same_filling own s.own) x.view.owns (own-short apps a x at short)
