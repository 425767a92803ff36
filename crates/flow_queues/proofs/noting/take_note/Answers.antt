-- What was out before the note came is out with it.
use Rattle.std.proofs.Common.{rules, ◌≡◌, ◌+◌, false}
use Rattle.board_face.specs.{AppCalls.{TookNote}}
use Rattle.flow_queues.specs.{Core.{held_piece}, Pieces.{whole_piece}, KeptOf.{queue_state}}
use Rattle.flow_queues.proofs.{Tokens.{in-contains}, Took.{Took}, NoteTaken.{took-it, piece-released, piece-lost, piece-entered}, noting.take_note.Goals.{In-Note}}
use Rattle.flow_queues.proofs.noting.take_note.Goals as goal

pub returns-in-Linear-clause-takes : goal.returns-in-Linear-clause-takes
returns-in-Linear-clause-takes g c = c.take_short.ensures.takes (g.F.AppFace.seen c.args.face.now) (g.F.AppFace.seen c.poll.new.self) c.requires.work.out
    c.in-Linear.ensures.view c.requires.work.stand c.requires.rest

-- the piece came
took : (g : _) (c : In-Note g) → Took (g.F.AppFace.seen c.args.face.now) (g.F.AppFace.seen c.poll.new.self) c.in-Note.note c.args.st.now.notes c.in-Note.held
took g c = took-it (queue_state c.args.st.now) c.requires.work.out (g.F.AppFace.seen c.args.face.now) (g.F.AppFace.seen c.poll.new.self) c.in-Note.note
    c.in-Note.held c.in-Note.ensures.view c.requires.work.stand

pub release-requires-clause-out : goal.release-requires-clause-out
release-requires-clause-out g c =
    in-contains (λ h. h.place) (held_piece (whole_piece c.args.st.now.notes c.in-Note.held)) (g.F.AppFace.seen c.poll.new.self).helds
    (took g (goal.at.release-requires-clause-out g c).In-Note).out

pub returns-in_default-clause-takes : goal.returns-in_default-clause-takes
returns-in_default-clause-takes g c =
    piece-released (queue_state c.args.st.now) c.requires.work.out (g.F.AppFace.seen c.args.face.now) (g.F.AppFace.seen c.poll.new.self) c.in-Note.note
    c.in-Note.held c.in-Note.ensures.view c.requires.work.stand (g.F.AppFace.seen c.release.new.self) c.release.ensures.view

pub take_piece-taken-requires-clause-came : goal.take_piece-taken-requires-clause-came
take_piece-taken-requires-clause-came g c =
    let note : TookNote (g.F.AppFace.seen c.args.face.now) (g.F.AppFace.seen c.poll.new.self) c.in-Note.note c.in-Note.held = c.in-Note.ensures.view in
    let here : (g.F.AppFace.seen c.poll.new.self).left ≡ false = search rules in
    let piece = took g (goal.at.take_piece-taken-requires-clause-came g c).In-Note in
    record { holds = record { here = here; apart = piece.apart }; fields = note.fields; place = note.place; out = piece.out }

pub returns-in_default-taken-clause-takes : goal.returns-in_default-taken-clause-takes
returns-in_default-taken-clause-takes g c =
    piece-lost (queue_state c.args.st.now) c.requires.work.out (g.F.AppFace.seen c.args.face.now) (g.F.AppFace.seen c.poll.new.self) c.in-Note.note
    c.in-Note.held c.in-Note.ensures.view c.requires.work.stand (g.F.AppFace.seen c.take_piece-taken.new.face) c.take_piece-taken.new.flows.items
    c.take_piece-taken.new.index.entries (search rules)
    (λ o k. c.in_default-taken.ensures.stands (g.F.AppFace.seen c.args.face.now) o.unread o.read c.in-Note.ensures.view k.stands)

pub returns-clause-takes : goal.returns-clause-takes
returns-clause-takes g c =
    let count : c.in-Some.notes ≡ c.args.st.now.notes + 1 = search rules in
    piece-entered (queue_state c.args.st.now) c.requires.work.out (g.F.AppFace.seen c.args.face.now) (g.F.AppFace.seen c.poll.new.self) c.in-Note.note
    c.in-Note.held c.in-Note.ensures.view c.requires.work.stand (g.F.AppFace.seen c.take_piece-taken.new.face) c.take_piece-taken.new.flows.items
    c.take_piece-taken.new.index.entries c.in-Ok.i c.in-Some.notes c.in-Ok.ensures.takes count c.requires.rest
    (λ o k. c.in-Ok.ensures.stands (g.F.AppFace.seen c.args.face.now) o.unread o.read c.in-Note.ensures.view k.stands)
