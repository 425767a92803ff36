use Rattle.std.proofs.Common.{refl}
use Rattle.zc_poll.{specs.DeskOf.{desk_of}, proofs.Keeping.{stands-abandoned}}
use Rattle.zc_poll.proofs.stream.LoanStream.abandon.Goals as goal

pub returns-clause-stays : goal.returns-clause-stays
returns-clause-stays g c =
    let stands = rw (← c.self.view_is) at c.requires.holds.stands in
    let out = rw (← c.self.view_is) at c.requires.holds.out in
    rw (← c.self.view_is) (record {
      stands = stands-abandoned (desk_of c.self.inside.state) (g.F.AppFace.seen c.self.inside.face) c.args.loan stands out
          (g.F.AppFace.seen c.abandon.new.self) c.abandon.ensures.view;
      desk = refl;
    })
