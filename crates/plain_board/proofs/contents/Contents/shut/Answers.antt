-- The buffer of a token has a holder, so its count can be lowered.
use Rattle.std.{proofs.Common.{ap, ◌∙◌, refl, arith}, specs.Prelude.{◌==◌}}
use Rattle.plain_board.proofs.{Shutting.{of_pool, is_held, came-zero, came-code, IsSound-shut}, Seeing.{NicTold-shut}}
use Rattle.plain_board.proofs.contents.Contents.shut.Goals as goal

pub lower-last-requires-clause-some : goal.lower-last-requires-clause-some
lower-last-requires-clause-some c =
    let out = rw (← c.self.view_is) at c.requires.out in
    rw c.buffer-buffer.ensures (is_held _ c.args.own c.self.invariant.0 out)

pub invariant_of-self : goal.invariant_of-self
invariant_of-self c =
    let asked = rw (← c.self.view_is) at c.requires in
    let left = rw c.buffer-buffer.ensures at c.lower-last.ensures.left in
    let last = ap (λ n. n == 0) left in
    let sound = IsSound-shut _ c.args.own c.self.invariant.0 asked.out asked.open _ (c.lower-last.result == 0) refl
    (came-zero _ c.args.own c.self.invariant.0 asked.out (c.lower-last.result == 0) _ last) in
    let free = rw c.buffer-buffer.ensures at c.came_free-free.ensures in
    let came = free ∙ came-code _ c.args.own c.self.invariant.0 asked.out (c.lower-last.result == 0) in
    rw (c.note.ensures, c.free_if.ensures.cache, c.free_if.ensures.listed, c.lower-last.ensures.counts, c.buffer-buffer.ensures, came)
    (sound, c.self.invariant.1)

pub returns-clause-told : goal.returns-clause-told
returns-clause-told c =
    let out = rw (← c.self.view_is) at c.requires.out in
    let left = rw c.buffer-buffer.ensures at c.lower-last.ensures.left in
    let p = of_pool _ c.args.own c.self.invariant.0 out in
    rw (← c.self.view_is, c.note.ensures) (NicTold-shut _ c.self.invariant.0 c.args.own c.lower-last.result (omega arith)
    (is_held _ c.args.own c.self.invariant.0 out) left)

pub returns-clause-only : goal.returns-clause-only
returns-clause-only c = record { apps = rw (← c.self.view_is) refl; sound = (invariant_of-self c).0 }
