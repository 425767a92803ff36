use Rattle.app_worker.{specs.{State.{State}, StateOf.{state_of}}, proofs.Pushing.{push-left}}
use Rattle.app_worker.proofs.straying.push_left.Goals as goal

pub returns : goal.returns
returns g c =
    let st : State = state_of c.args.st.now in
    let pushed = push-left st c.push_strays.new.stray (g.F.AppFace.seen c.args.face.now) (g.F.AppFace.seen c.push_strays.new.face) c.push_strays.result
    c.push_strays.ensures.pushes c.requires.works.working c.requires.works.common in
    assumption pushed
