-- Each of the first tags is that of a loan.
use Rattle.std.proofs.Common.{◌≤◌}
use Rattle.zc_forward.proofs.Sents.{lower}
use Rattle.zc_forward.proofs.sent.free_tag.Given as goal

abbrev pub invariant-loop-tag : goal.invariant-loop-tag
invariant-loop-tag l = l.tag ≤ lower l.tag l.out
