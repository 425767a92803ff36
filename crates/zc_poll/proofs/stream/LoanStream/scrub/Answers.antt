-- A stopped stream of which no loan is out stands behind a scrub.
use Rattle.zc_poll.{specs.DeskOf.{desk_of}, proofs.Keeping.{scrubs-of, stands-scrubbed}}
use Rattle.zc_poll.proofs.stream.LoanStream.scrub.Goals as goal

pub scrub-requires : goal.scrub-requires
scrub-requires g c =
    let still = rw (← c.self.view_is) at c.requires.still in
    record { may = record { here = still.0.common.here; loans = still.2; known = still.0.common.counted } }

pub returns-clause-stands : goal.returns-clause-stands
returns-clause-stands g c =
    let still = rw (← c.self.view_is) at c.requires.still in
    stands-scrubbed (desk_of c.self.inside.state) (g.F.AppFace.seen c.self.inside.face) (g.F.AppFace.seen c.scrub.new.face) still.0
    c.scrub.new.scrubbed still.1 still.2 c.scrub.result c.scrub.ensures.scrubs

pub returns-clause-scrubs : goal.returns-clause-scrubs
returns-clause-scrubs g c =
    let still = rw (← c.self.view_is) at c.requires.still in
    rw (← c.self.view_is) (scrubs-of (desk_of c.self.inside.state) (g.F.AppFace.seen c.self.inside.face) (g.F.AppFace.seen c.scrub.new.face)
    still.0 c.scrub.new.scrubbed c.scrub.result c.scrub.ensures.scrubs)
