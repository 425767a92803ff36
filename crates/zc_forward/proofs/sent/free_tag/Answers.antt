use Rattle.std.{proofs.Common.{rules, ◌≡◌, true, arith}, specs.Prelude.{is_some}}
use Rattle.zc_forward.proofs.Sents.{lower-most, taken-lower}
use Rattle.zc_forward.proofs.sent.free_tag.Goals as goal

pub loop-tag-preserved : goal.loop-tag-preserved
loop-tag-preserved c =
    let some : is_some c.place_of.result ≡ true = search rules in
    taken-lower c.loop-tag.tag c.args.out.now _ _ c.place_of.result c.place_of.ensures some c.loop-tag.invariant

pub unreachable-requires : goal.unreachable-requires
unreachable-requires c = omega (arith, lower-most c.loop-tag.tag c.args.out.now, c.loop-tag.invariant, c.loop-tag-test.false, c.requires)
