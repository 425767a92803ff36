use Rattle.flow_queues.specs.declared.queues.Lending.{Lending}
use Rattle.zc_poll.{specs.DeskOf.{desk_of}, proofs.Keeping.{read-stands, read-text}}
use Rattle.std.proofs.Common.{rules, ◌+◌, ◌≤◌, length, refl}
use Rattle.zc_poll.proofs.stream.LoanStream.read.Goals as goal

pub returns-clause-stays : goal.returns-clause-stays
returns-clause-stays g c =
    let stands = rw (← c.self.view_is) at c.requires.holds.stands in
    rw (← c.self.view_is) (record {
      stands = read-stands (desk_of c.self.inside.state) (g.F.AppFace.seen c.self.inside.face) (g.F.AppFace.seen c.read.new.self) _ c.read.ensures.view stands;
      desk = refl;
    })

pub returns-clause-reads : goal.returns-clause-reads
returns-clause-reads g c =
    let stands = rw (← c.self.view_is) at c.requires.holds.stands in
    let within : c.args.from + length c.read.new.into ≤ c.args.loan.now.len = search rules in
    let text = λ (lending : Lending).
    read-text (g.F.AppFace.seen c.self.inside.face) (g.F.AppFace.seen c.read.new.self) stands.common.apart lending c.args.loan.now c.args.from c.read.new.into in
    rw (← c.self.view_is) (record {
      view = c.read.ensures.view;
      copied = c.read.ensures.copied;
      text = λ lending same known out. text lending same known out c.read.ensures.copied within c.read.ensures.view;
    })
