use Rattle.std.proofs.Common.{sym, ◌∙◌}
use Rattle.tcp_reorder.proofs.Lookups.{none_from, next_from}
use Rattle.tcp_reorder.proofs.piece.next_kept.Goals as goal

pub returns-in_err-begin : goal.returns-in_err-begin
returns-in_err-begin g c =
    rw c.from_residual.ensures
    (none_from c.args.free c.args.pieces.now.entries (sym (c.range.ensures.between tt) ∙ c.in_err-begin.ensures.steps.0) c.requires.is_free)

pub returns : goal.returns
returns g c =
    let next = next_from c.args.free c.args.pieces.now.entries c.next.new.self _ c.requires.apart
    (sym (c.range.ensures.between tt) ∙ c.in_ok-begin.ensures.steps) c.requires.is_free in
    (next.above, next.kept, next.before)
