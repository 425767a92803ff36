-- One application more.
use Rattle.std.proofs.Common.{◌≡◌, ℕ, zero, suc, ◌+◌, [], ◌∷◌, ◌++◌, refl, ap, arith, add-zero}
use Rattle.board_face.specs.{Opened.{new_app}, declared.views.parts.Setting.{Setting}}
use Rattle.board_parts.specs.Opened.{new_apps}

pub new_apps-push : (s : Setting) (first n : ℕ) → new_apps s first (suc n) ≡ new_apps s first n ++ new_app s (first + n) ∷ []
new_apps-push s first zero = rw (add-zero first) refl
new_apps-push s first (suc n) = let next : first + suc n ≡ suc first + n = omega arith in rw next
    (ap (λ apps. new_app s first ∷ apps) (new_apps-push s (suc first) n))
