-- What the note brought is given up at once.
use Rattle.std.proofs.Common.{length}
use Rattle.board_face.specs.declared.views.app.AppView.{AppView}
use Rattle.flow_queues.{specs.{Core.{held_piece}, Pieces.{whole_piece}}, proofs.{Tokens.{in-contains}, NoteTaken.{past-it, piece-past}}}
use Rattle.flow_queues.proofs.noting.pass_note.Goals as goal

pub release-requires-clause-out : goal.release-requires-clause-out
release-requires-clause-out g c =
    let old : AppView = g.F.AppFace.seen c.args.face.now in
    let mid : AppView = g.F.AppFace.seen c.poll.new.self in
    in-contains (λ h. h.place) (held_piece (whole_piece (length old.taken) c.in-Note.held)) mid.helds
    (past-it old mid c.in-Note.field-0 c.in-Note.held c.in-Note.ensures.view c.requires.holds.apart).out

pub returns-in-Note-clause-passes : goal.returns-in-Note-clause-passes
returns-in-Note-clause-passes g c = (
  _,
  piece-past (g.F.AppFace.seen c.args.face.now) (g.F.AppFace.seen c.poll.new.self) c.in-Note.field-0 c.in-Note.held c.in-Note.ensures.view
      c.requires.holds.apart (g.F.AppFace.seen c.release.new.self) c.requires.none c.release.ensures.view,
)

pub returns-in-Linear-clause-passes : goal.returns-in-Linear-clause-passes
returns-in-Linear-clause-passes g c = (_, c.in-Linear.ensures.view.event)
