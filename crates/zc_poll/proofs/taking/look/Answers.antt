use Rattle.std.proofs.Common.{rules}
use Rattle.flow_queues.specs.KeptOf.{queue_state}
use Rattle.zc_poll.{specs.DeskOf.{desk_of}, proofs.{FlowsKept.{work-of}, Noted.{looks-on, looks-past}}}
use Rattle.zc_poll.proofs.taking.look.Goals as goal

pub returns-then-st-clause-looks : goal.returns-then-st-clause-looks
returns-then-st-clause-looks g c = looks-past (desk_of c.args.st.now) (g.F.AppFace.seen c.args.face.now) (g.F.AppFace.seen c.pass_note.new.face)
    c.requires.may.stands c.requires.may.more (search rules) c.pass_note.result c.pass_note.ensures.passes

pub take_note-requires-clause-work : goal.take_note-requires-clause-work
take_note-requires-clause-work g c =
    let stands = c.requires.may.stands in
    work-of (desk_of c.args.st.now) (g.F.AppFace.seen c.args.face.now) stands.common.here (stands.going (search rules) c.requires.may.more)

pub returns-clause-looks : goal.returns-clause-looks
returns-clause-looks g c = looks-on (desk_of c.args.st.now) (g.F.AppFace.seen c.args.face.now) (g.F.AppFace.seen c.take_note.new.face)
    c.requires.may.stands c.requires.may.more (search rules) (queue_state c.take_note.new.st) c.take_note.result c.take_note.ensures.takes
