-- The lines of the applications, by their places.
use Rattle.std.{proofs.Common.{◌≡◌, ℕ, zero, suc, List, [], ◌∷◌, length, map, Option, None, Some, refl, sym, ap, subst, ◌∙◌, arith}, specs.List.{slice_get}}
use Rattle.zr_kinds.specs.declared.outcome.AppLine.{AppLine}
use Rattle.flow_queues.specs.Ends.{AppEnd}
use Rattle.run_account.specs.Ran.{There, app_line_of, app_lines_of}

pub one-value : {A : Type 0} {x y : A} → Some x ≡ Some y → x ≡ y
one-value e = cc

-- it is there, and so holds of it
pub is-there : {A : Type 0} (o : Option A) (x : A) (P : A → Type 0) → o ≡ Some x → P x → There o P
is-there {A = A} o x P is holds = subst (λ (p : Option A). There p P) (sym is) holds

-- what is there, and holds
pub found-there : {A : Type 0} (o : Option A) (P : A → Type 0) → There o P → (value : A) × (o ≡ Some value) × P value
found-there None P is = absurd is
found-there (Some value) P is = (value, refl, is)

pub line-at : (ports : List ℕ) (ends : List AppEnd) (a port : ℕ) (end : AppEnd) → slice_get ports a ≡ Some port → slice_get ends a ≡ Some end
    → slice_get (app_lines_of ports ends) a ≡ Some (app_line_of port end)
line-at [] ends a port end first second = absurd (cc)
line-at (p ∷ ports) [] a port end first second = absurd (cc)
line-at (p ∷ ports) (e ∷ ends) zero port end first second =
    let same : p ≡ port = one-value first in
    let own : e ≡ end = one-value second in
    ap (λ q. Some (app_line_of q e)) same ∙ ap (λ u. Some (app_line_of port u)) own
line-at (p ∷ ports) (e ∷ ends) (suc a) port end first second = line-at ports ends a port end first second

pub many-lines : (ports : List ℕ) (ends : List AppEnd) → length ends ≡ length ports → length (app_lines_of ports ends) ≡ length ports
many-lines [] ends many = refl
many-lines (p ∷ ports) [] many = absurd (omega (arith, many))
many-lines (p ∷ ports) (end ∷ ends) many = ap suc (many-lines ports ends (omega (arith, many)))

pub ports-of-lines : (ports : List ℕ) (ends : List AppEnd) → length ends ≡ length ports
    → map (λ (app : AppLine). app.port) (app_lines_of ports ends) ≡ ports
ports-of-lines [] ends many = refl
ports-of-lines (p ∷ ports) [] many = absurd (omega (arith, many))
ports-of-lines (p ∷ ports) (end ∷ ends) many = ap (λ ps. p ∷ ps) (ports-of-lines ports ends (omega (arith, many)))
