use Rattle.std.proofs.Common.{◌∙◌, ap, map, true}
use Rattle.flow_queues.specs.Flows.{facts_of}
use Rattle.board_face.specs.declared.views.app.AppLook.TheVariants.{NoNote as no_note}
use Rattle.zc_poll.{specs.{Standing.{Desk}, DeskOf.{desk_of}, declared.step.Waits.TheVariants.{NoNote}}, proofs.{Passing.{saw-stepped}, Released.{may-end, memory-stepped, ended-stepped}}}
use Rattle.zc_poll.proofs.taking.next_note.Goals as goal

pub returns-in-NoNote-clause-takes : goal.returns-in-NoNote-clause-takes
returns-in-NoNote-clause-takes g c = (
  saw-stepped (desk_of c.args.st.now) (desk_of c.look.new.st) (g.F.AppFace.seen c.args.face.now) (g.F.AppFace.seen c.look.new.face) no_note NoNote
      c.requires.may.stands c.requires.may.more c.in-NoNote.ensures.looks.0 c.in-NoNote.ensures.looks.1.event (c.in-NoNote.ensures.looks.1.rose, c.requires.may.rest),
  tt,
)

pub returns-in-Memory-clause-takes : goal.returns-in-Memory-clause-takes
returns-in-Memory-clause-takes g c = (
  memory-stepped (desk_of c.args.st.now) (desk_of c.look.new.st) (desk_of c.stop.new.st) (g.F.AppFace.seen c.args.face.now) (g.F.AppFace.seen c.look.new.face)
      (g.F.AppFace.seen c.stop.new.face) c.in-Memory.ensures.looks c.stop.ensures.stopped,
  tt,
)

pub release-requires-clause-may : goal.release-requires-clause-may
release-requires-clause-may g c = may-end (desk_of c.args.st.now) (desk_of c.look.new.st) (g.F.AppFace.seen c.args.face.now) (g.F.AppFace.seen c.look.new.face)
    c.requires.may.stands c.in-Ended.ensures.looks.0 c.in-Ended.ensures.looks.1

pub returns-in-Ended-clause-takes : goal.returns-in-Ended-clause-takes
returns-in-Ended-clause-takes g c =
    let looks = c.in-Ended.ensures.looks in
    let released = c.release.ensures.released in (
      ended-stepped (desk_of c.args.st.now) _ (g.F.AppFace.seen c.args.face.now) (g.F.AppFace.seen c.look.new.face) (g.F.AppFace.seen c.release.new.face)
          c.requires.may.stands c.requires.may.rest c.requires.may.more looks.1 released.view
          (ap (λ (d : Desk). record d { ended = true }) released.same
          ∙ ap (λ (d : Desk). record d { flows = c.release.new.st.queues.flows.items; ended = true }) looks.0)
          (released.facts ∙ ap (λ (d : Desk). map facts_of d.flows) looks.0),
      tt,
    )
