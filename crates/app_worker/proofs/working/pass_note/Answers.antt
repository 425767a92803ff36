-- What a note brings is given up at once.
use Rattle.app_worker.proofs.BareLemmas.{bare-note, bare-empty}
use Rattle.app_worker.proofs.working.pass_note.Goals as goal

pub returns-in-Did-clause-passes : goal.returns-in-Did-clause-passes
returns-in-Did-clause-passes g c = λ st kept faults bare is_bare common more.
    bare-note st (g.F.AppFace.seen c.args.face.now) bare is_bare common (g.F.AppFace.seen c.pass_note.new.face) c.in-Did.ensures.passes.0 kept faults more
    c.in-Did.ensures.passes.1

pub returns-in-NoNote-clause-passes : goal.returns-in-NoNote-clause-passes
returns-in-NoNote-clause-passes g c = λ st kept faults bare is_bare common more.
    bare-empty st (g.F.AppFace.seen c.args.face.now) bare is_bare common (g.F.AppFace.seen c.pass_note.new.face) kept faults more
    c.in-NoNote.ensures.passes
