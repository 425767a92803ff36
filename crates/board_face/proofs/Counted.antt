-- What every step does to the pool count and to the user counts of each buffer.
use Rattle.board_face.specs.Lists.{one_if as one}
use Rattle.std.{proofs.Common.{Bool, true, false, refl, List, ◌≡◌, ℕ, ◌+◌, arith, sym, ◌∙◌}, specs.Prelude.{◌==◌, ◌&&◌, if◌then◌else◌}}
use Rattle.board_face.{specs.{Holdings.{here}, Laws.{one_user}, FineSteps.{FineCountsLaw, fine_apply}}, proofs.FineExchange.{fine-exchange}}
use Rattle.board_face.specs.{Counts.{is_user_kind}, Holders.{app_holders}, Laws.{AllSides}, Sides.{app_at}, BoardSteps.{AppStep, apply, AppCan, app_view}}
use Rattle.board_face.specs.Holdings.{Hold, CountsBy, CountsLaw, ends_by, begins_by, used, weight_in, weigh, app_weight, app_ends, app_begins}
use Rattle.board_face.{specs.declared.views.{nic.NicSide.{NicSide}, app.AppSide.{AppSide}}, proofs.Parts.{app_count, length-app_holders}}
use Rattle.board_face.proofs.{AppExchange.{app-exchange}, Exchanging.{exchange}, Weighing.{pool-weigh, kinds-counted, app-parts, total-ones}}

pub counted : (s new : AllSides) (ends begins : List Hold)
    → ((w : Hold → ℕ) (b : ℕ) → weigh w b new + weight_in w b ends ≡ weigh w b s + weight_in w b begins) → CountsBy ends begins s new
counted s new ends begins exchanged = record {
  pool = λ b. omega (arith, exchanged (λ h. 1) b, pool-weigh b s, pool-weigh b new);
  users = λ a b. omega (arith, exchanged (used a) b, kinds-counted (is_user_kind a) b s, kinds-counted (is_user_kind a) b new);
}

pub counts : CountsLaw
counts step s can = counted s (apply step s) (ends_by step s) (begins_by step s) (exchange step s can)

pub fine-counts : FineCountsLaw
fine-counts step s can = record {
  pool = λ b. omega (arith, fine-exchange step s can (λ h. 1) b, pool-weigh b s, pool-weigh b (fine_apply step s));
  users = λ a b. omega (arith, fine-exchange step s can (used a) b, kinds-counted (is_user_kind a) b s, kinds-counted (is_user_kind a) b (fine_apply step s));
}

-- ---- the part of one application

pub app-pool : (b : ℕ) (nic : NicSide) (x : AppSide) → app_count b nic x ≡ app_weight (λ h. 1) b nic x
app-pool b nic x = sym (length-app_holders b nic x) ∙ total-ones (app_holders b nic x) ∙ app-parts (λ k. 1) b nic x

pub app-counts : (step : AppStep) (b : ℕ) (nic : NicSide) (x : AppSide) → AppCan step nic x
    → app_count b nic (app_at x (app_view step x.view)) + weight_in (λ h. 1) b (app_ends x.view.app step x.view)
    ≡ app_count b nic x + weight_in (λ h. 1) b (app_begins x.view.app step x.view)
app-counts step b nic x can =
    omega (arith, app-exchange step nic x can (λ h. 1) b, app-pool b nic x, app-pool b nic (app_at x (app_view step x.view)))

-- what a user weighs in a buffer
pub user-here : (a x buffer b : ℕ) → here b buffer (one (a == x)) ≡ one_user a buffer x b
user-here a x buffer b = here-case (a == x) (buffer == b)
  where
    here-case : (c d : Bool) → (if d then one c else 0) ≡ (if c && d then 1 else 0)
    here-case true d = refl
    here-case false true = refl
    here-case false false = refl
