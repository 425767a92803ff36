-- The first loans have other tags.
use Rattle.std.{proofs.Common.{◌≡◌, nat_eq, take, None}, specs.Map.{lookup}}
use Rattle.zc_forward.specs.Sending.{tags_of}
use Rattle.zc_forward.proofs.sent.place_of.Given as goal

abbrev pub invariant-loop-i : goal.invariant-loop-i
invariant-loop-i l = lookup (nat_eq l.tag) (tags_of (take l.i l.out)) ≡ None
