-- The sides after a call of an application.
use Rattle.std.proofs.Common.{◌≡◌, ℕ, zero, suc, ◌<◌, List, [], ◌∷◌, length, get_or, set, refl, ap, arith}
use Rattle.board_face.specs.{Blank.{blank_app}, Laws.{AllSides}, declared.views.{nic.NicSide.{NicSide}, app.AppSide.{AppSide}}}
use Rattle.plain_board.specs.SideLaw.{OneSideLaw}

-- lists that are one but for this element
set-through : {A : Type 0} (xs ys : List A) (i : ℕ) (z w : A) → set xs i z ≡ set ys i z → i < length xs → get_or xs i z ≡ w → xs ≡ set ys i w
set-through [] ys i z w same within is = absurd (omega arith)
set-through (x ∷ xs) [] zero z w same within is = cc
set-through (x ∷ xs) [] (suc i) z w same within is = cc
set-through (x ∷ xs) (y ∷ ys) zero z w same within is = let rest : xs ≡ ys = cc in rw (is, rest) refl
set-through (x ∷ xs) (y ∷ ys) (suc i) z w same within is =
    let first : x ≡ y = cc in
    let rest : set xs i z ≡ set ys i z = cc in
    rw first (ap (λ zs. y ∷ zs) (set-through xs ys i z w rest (omega arith) is))

abbrev sides : NicSide → List AppSide → AllSides
sides nic apps = record { nic = nic; apps = apps }

sides-are : (nic other : NicSide) (apps others : List AppSide) → nic ≡ other → apps ≡ others → sides nic apps ≡ sides other others
sides-are nic other apps others e d = rw (e, d) refl

pub one_side-law : OneSideLaw
one_side-law old new a now card others within is = sides-are new.nic old.nic new.apps (set old.apps a now) card
    (set-through new.apps old.apps a blank_app now others within is)
