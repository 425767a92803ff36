-- The ports differ.
use Rattle.std.{proofs.Common.{◌∷◌, [], refl, sym, subst}, specs.{Prelude.{nat_eq}, List.{IsDistinct}}}
use Rattle.capture_runs.proofs.runs.ports_of.Goals as goal

one-port : IsDistinct nat_eq (9000 ∷ [])
unfolding IsDistinct
one-port = (tt, tt)

two-ports : IsDistinct nat_eq (9000 ∷ 9001 ∷ [])
unfolding IsDistinct
two-ports = ((refl, tt), (tt, tt))

pub returns-then-both-clause-distinct : goal.returns-then-both-clause-distinct
returns-then-both-clause-distinct c = subst (IsDistinct nat_eq) (sym c.in_ok-vec.ensures.items) two-ports

pub returns-clause-distinct : goal.returns-clause-distinct
returns-clause-distinct c = subst (IsDistinct nat_eq) (sym c.in_ok-vec-2.ensures.items) one-port
