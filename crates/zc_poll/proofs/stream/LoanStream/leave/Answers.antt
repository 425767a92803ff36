-- Nothing is held once no note comes any more.
use Rattle.std.proofs.Common.{◌∙◌, inr}
use Rattle.zc_poll.{specs.DeskOf.{desk_of}, proofs.Keeping.{left-of}}
use Rattle.zc_poll.proofs.stream.LoanStream.leave.Goals as goal

pub leave-requires : goal.leave-requires
leave-requires g c =
    let may = rw (← c.self.view_is) at c.requires.may in
    let common = may.stands.common in
    record {
      may = record {
        scrub = record { here = common.here; loans = may.none; known = common.counted };
        helds = may.stands.released (inr may.ended);
        owns = common.owns;
        ended = common.ended ∙ may.ended;
      };
    }

pub returns-clause-left : goal.returns-clause-left
returns-clause-left g c =
    let may = rw (← c.self.view_is) at c.requires.may in
    rw (← c.self.view_is) (left-of (desk_of c.self.inside.state) (g.F.AppFace.seen c.self.inside.face) (g.F.AppFace.seen c.leave.new.face) may.stands
    c.leave.new.scrubbed c.leave.result c.leave.ensures.leaves)
