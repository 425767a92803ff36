-- Two facts of each element.
use Rattle.std.proofs.Common.{List, [], ◌∷◌}
use Rattle.flow_queues.specs.Core.{Each}

pub each-both : {A : Type 0} (P Q : A → Type 0) (xs : List A) → Each P xs → Each Q xs → Each (λ x. P x × Q x) xs
each-both P Q [] first second = tt
each-both P Q (x ∷ xs) first second = ((first.0, second.0), each-both P Q xs first.1 second.1)
