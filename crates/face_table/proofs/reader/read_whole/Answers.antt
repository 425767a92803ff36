use Rattle.std.proofs.Common.{◌≡◌, ◌+◌, length, arith, sym, ◌∙◌, length-take, length-drop, length-append}
use Rattle.face_table.{specs.Reader.{ReadsOf}, proofs.Serving.{ReadsOf-more}}
use Rattle.face_table.proofs.reader.read_whole.Goals as goal

pub loop-from-preserved : goal.loop-from-preserved
loop-from-preserved g c =
    let count : length c.read.new.into ≡ c.min-count.result = c.read.auto.into ∙ simp length-take (omega arith) in
    let more : ReadsOf (g.F.AppFace.seen c.args.face.now) (g.F.AppFace.seen c.read.new.self) c.args.loan.now (c.loop-from.from + length c.read.new.into) =
    rw c.read.ensures.view (ReadsOf-more _ _ _ _ _ c.loop-from.invariant.reads) in
    record { reads = rw (sym count) more; within = omega arith; room = simp (length-append, length-drop) (omega arith); beside = cc }
