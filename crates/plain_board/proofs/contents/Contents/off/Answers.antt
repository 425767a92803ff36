-- A held piece and a loan lie in a buffer of the area.
use Rattle.std.proofs.Common.{⊎_elim}
use Rattle.plain_board.proofs.{AppFrames.{here-of}, TokensLie.{held-lies, loan-lies}}
use Rattle.plain_board.proofs.contents.Contents.off.Goals as goal

pub off_of-requires : goal.off_of-requires
off_of-requires c =
    let asked = rw (← c.self.view_is) at c.requires in
    let here = here-of _ c.args.app c.self.invariant.0 asked.app in
    ⊎_elim (λ held. (held-lies _ c.args.app _ c.self.invariant.0 here c.args.p.now held).0)
    (λ loan. (loan-lies _ c.args.app _ c.self.invariant.0 here c.args.p.now loan).0) asked.out
