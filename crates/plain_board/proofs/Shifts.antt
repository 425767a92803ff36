-- Which holders of the record end and begin by a step, from the exchange of holdings.
use Rattle.std.proofs.Common.{◌≡◌, ℕ, ◌+◌, Bool, true, false, List, [], ◌∷◌, map, set, if◌then◌else◌, refl, sym, ap, arith, ◌∙◌}
use Rattle.std.specs.{Prelude.{◌==◌}, List.{AllByRecursion, filter_map}}
use Rattle.zr_kinds.{specs.declared.holding.Holding.{Holding}, proofs.Booleans.{if-none}}
use Rattle.board_face.specs.{BoardSteps.{Step, Can, apply}, Holders.{holders_of}, Laws.{AllSides}, Sides.{IsApp}, declared.views.app.AppSide.{AppSide}}
use Rattle.board_face.specs.Holdings.{Hold, buffer_of, kind_of, ends_by, begins_by, weight_in as hold_weight}
use Rattle.board_face.proofs.{Exchanging.{exchange}, Weighing.{kinds-weigh}, Tallies.{total, total-set}, Sums.{total-map}}
use Rattle.plain_board.{specs.Plain.{plain, plain_holders, weight}, proofs.{Following.{Shifts}, Parts.{app_weight, here, kind_weight, weight-kinds, weight-parts}}}

-- what a holding weighs in the record
abbrev pub recorded : (Holding → ℕ) → Hold → ℕ
recorded f h = kind_weight f (kind_of h)

shifts : (step : Step) (s : AllSides) → Can step s → (b : ℕ) (f : Holding → ℕ)
    → weight f (plain_holders (apply step s) b) + hold_weight (recorded f) b (ends_by step s)
    ≡ weight f (plain_holders s b) + hold_weight (recorded f) b (begins_by step s)
shifts step s can b f =
    let now = apply step s in
    omega (
      arith,
      exchange step s can (recorded f) b,
      kinds-weigh (kind_weight f) b s,
      kinds-weigh (kind_weight f) b now,
      weight-kinds f (holders_of b s.nic s.apps),
      weight-kinds f (holders_of b now.nic now.apps),
    )

-- ---- holdings of one buffer

abbrev pub plains : List Hold → List Holding
plains holds = filter_map plain (map kind_of holds)

abbrev pub LieIn : ℕ → List Hold → Type 0
LieIn buffer holds = AllByRecursion (λ h. buffer_of h ≡ buffer) holds

more-case : (c : Bool) (m n : ℕ) → (if c then m + n else 0) ≡ (if c then m else 0) + (if c then n else 0)
more-case true m n = refl
more-case false m n = refl

pub here-more : (b c m n : ℕ) → here b c (m + n) ≡ here b c m + here b c n
here-more b c m n = more-case (c == b) m n

all-here : (f : Holding → ℕ) (b buffer : ℕ) (holds : List Hold) → LieIn buffer holds
    → hold_weight (recorded f) b holds ≡ here b buffer (total (recorded f) holds)
all-here f b buffer [] lie = omega (arith, if-none (buffer == b) 0 refl)
all-here f b buffer (h ∷ holds) lie =
    omega (
      arith,
      ap (λ c. here b c (recorded f h)) lie.0,
      all-here f b buffer holds lie.1,
      here-more b buffer (recorded f h) (total (recorded f) holds),
    )

holds-weigh : (f : Holding → ℕ) (b buffer : ℕ) (holds : List Hold) → LieIn buffer holds
    → hold_weight (recorded f) b holds ≡ here b buffer (weight f (plains holds))
holds-weigh f b buffer holds lie =
    all-here f b buffer holds lie
    ∙ ap (here b buffer) (sym (weight-kinds f (map kind_of holds) ∙ total-map (kind_weight f) kind_of holds))

-- Where those that end and those that begin lie in one buffer, they are what changes.
pub step-shifts : (step : Step) (s : AllSides) → Can step s → (buffer : ℕ) → LieIn buffer (ends_by step s) → LieIn buffer (begins_by step s)
    → Shifts buffer (plains (ends_by step s)) (plains (begins_by step s)) s (apply step s)
step-shifts step s can buffer ends begins b f =
    omega (
      arith,
      shifts step s can b f,
      holds-weigh f b buffer (ends_by step s) ends,
      holds-weigh f b buffer (begins_by step s) begins,
    )

-- where they weigh the same, nothing does
pub step-same : (step : Step) (s : AllSides) → Can step s
    → ((b : ℕ) (f : Holding → ℕ) → hold_weight (recorded f) b (ends_by step s) ≡ hold_weight (recorded f) b (begins_by step s))
    → (b : ℕ) (f : Holding → ℕ) → weight f (plain_holders (apply step s) b) ≡ weight f (plain_holders s b)
step-same step s can same b f = omega (arith, shifts step s can b f, same b f)

-- ---- the sum where one application's side changes

pub side-shift : (s : AllSides) (a : ℕ) (app now : AppSide) → IsApp s.apps a app → (b : ℕ) (f : Holding → ℕ)
    → weight f (plain_holders (record { nic = s.nic; apps = set s.apps a now }) b) + app_weight f b s.nic app
    ≡ weight f (plain_holders s b) + app_weight f b s.nic now
side-shift s a app now at b f =
    omega (
      arith,
      weight-parts f b s.nic (set s.apps a now),
      weight-parts f b s.nic s.apps,
      total-set (app_weight f b s.nic) s.apps a app now at.there at.is,
    )
