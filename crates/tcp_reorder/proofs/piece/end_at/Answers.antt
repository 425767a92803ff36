use Rattle.std.proofs.Common.{◌+◌, ◌≤◌, sym, ◌∙◌, arith, ◌^◌}
use Rattle.tcp_reorder.proofs.Lookups.{none_until, last_until}
use Rattle.tcp_reorder.proofs.piece.end_at.Goals as goal

pub returns-in_err-begin : goal.returns-in_err-begin
returns-in_err-begin g c =
    rw c.from_residual.ensures (none_until c.args.position c.args.pieces.now.entries (sym (c.range.ensures.between tt) ∙ c.in_err-begin.ensures.steps.0))

pub overflow_add-end : goal.overflow_add-end
overflow_add-end g c =
    let last = last_until c.args.position c.args.pieces.now.entries c.next_back.new.self (c.in_ok-begin.begin.now, c.in_ok-begin.piece.now) c.requires.apart
    (sym (c.range.ensures.between tt) ∙ c.in_ok-begin.ensures.steps) in
    let ends : c.in_ok-begin.begin.now + c.in_ok-begin.piece.now.len ≤ 2 ^ 62 = last.ends _ c.requires.in_stream in
    omega arith

pub returns-then-position-end : goal.returns-then-position-end
returns-then-position-end g c =
    let last = last_until c.args.position c.args.pieces.now.entries c.next_back.new.self (c.in_ok-begin.begin.now, c.in_ok-begin.piece.now) c.requires.apart
    (sym (c.range.ensures.between tt) ∙ c.in_ok-begin.ensures.steps) in
    let ends : c.in_ok-begin.begin.now + c.in_ok-begin.piece.now.len ≤ 2 ^ 62 = last.ends _ c.requires.in_stream in
    let begins : c.in_ok-begin.begin.now ≤ c.args.position = last.begins in
    (c.if-position-end.true, omega arith, λ p from until. last.within p (omega arith) (omega arith))

pub returns-else-position-end : goal.returns-else-position-end
returns-else-position-end g c =
    let last = last_until c.args.position c.args.pieces.now.entries c.next_back.new.self (c.in_ok-begin.begin.now, c.in_ok-begin.piece.now) c.requires.apart
    (sym (c.range.ensures.between tt) ∙ c.in_ok-begin.ensures.steps) in
    last.behind (omega arith)
