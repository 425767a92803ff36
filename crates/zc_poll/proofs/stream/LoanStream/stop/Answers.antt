use Rattle.zc_poll.{specs.{DeskOf.{desk_of}, Steps.{Unlent}}, proofs.Released.{stopped-stands, stopped-unlent}}
use Rattle.zc_poll.proofs.stream.LoanStream.stop.Goals as goal

pub returns-clause-stays : goal.returns-clause-stays
returns-clause-stays g c =
    let stands = rw (← c.self.view_is) at c.requires.stands in record {
      stands = stopped-stands (desk_of c.self.inside.state) (desk_of c.stop.new.st) (g.F.AppFace.seen c.self.inside.face)
          (g.F.AppFace.seen c.stop.new.face) c.stop.ensures.stopped stands.common;
      desk = rw (← c.self.view_is) c.stop.ensures.stopped.same;
    }

pub returns-clause-items : goal.returns-clause-items
returns-clause-items g c =
    let unlent : Unlent (desk_of c.self.inside.state) (desk_of c.stop.new.st) (g.F.AppFace.seen c.self.inside.face) (g.F.AppFace.seen c.stop.new.face) =
    stopped-unlent (desk_of c.self.inside.state) (desk_of c.stop.new.st) (g.F.AppFace.seen c.self.inside.face) (g.F.AppFace.seen c.stop.new.face)
    c.stop.ensures.stopped in
    rw (← c.self.view_is) unlent.items
