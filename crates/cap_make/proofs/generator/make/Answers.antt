use Rattle.std.{proofs.{Common.{◌≡◌, suc, ap, ◌∙◌, subst, ◌++◌, add-one, arith}, lemmas.Result.{err_from_is_err_and}}, specs.Io.KnownBytes.{Appends}}
use Rattle.cap_make.{specs.GeneratedCapture.{file_header, generated_records, drawn, drawn_after}, proofs.Records.{header_breaks, record_breaks, record_goes}}
use Rattle.cap_make.proofs.generator.make.Goals as goal

pub returns-in_err-write_all-clause-bytes : goal.returns-in_err-write_all-clause-bytes
returns-in_err-write_all-clause-bytes g c =
    let (n, out) = c.in_err-write_all.ensures.bytes in
    let p = err_from_is_err_and c.from_residual.result c.from_residual.ensures.1 in
    rw p.1 (header_breaks _ _ c.args.seed c.args.frames n out)

pub returns-in_err-write_record-clause-bytes : goal.returns-in_err-write_record-clause-bytes
returns-in_err-write_record-clause-bytes g c =
    let (n, next) = c.in_err-write_record.ensures.bytes in
    let x : c.draw-x.result ≡ drawn c.args.seed (suc c.loop-k.k) = c.draw-x.ensures ∙ ap drawn_after c.loop-k.invariant.0 in
    let p = err_from_is_err_and c.from_residual-in_err-write_record.result c.from_residual-in_err-write_record.ensures.1 in
    rw p.1
    (record_breaks _ _ _ c.args.seed c.args.frames c.loop-k.k n c.loop-k-test.true c.loop-k.invariant.2 (rw x at next))

pub loop-k-preserved : goal.loop-k-preserved
loop-k-preserved g c =
    let x : c.draw-x.result ≡ drawn c.args.seed (suc c.loop-k.k) = c.draw-x.ensures ∙ ap drawn_after c.loop-k.invariant.0 in
    rw (add-one c.loop-k.k) (
      x,
      c.in_ok-write_record.ensures.cause.still ∙ c.loop-k.invariant.1,
      record_goes _ _ _ c.args.seed c.loop-k.k c.loop-k.invariant.2 (rw x at c.in_ok-write_record.ensures.bytes),
    )

pub returns-clause-bytes : goal.returns-clause-bytes
returns-clause-bytes g c =
    let all : c.loop-k.k ≡ c.args.frames = omega arith in
    subst (λ k. Appends (g.O.Sink.sent c.args.out.now) (g.O.Sink.sent c.loop-k.out) (file_header ++ generated_records c.args.seed k)) all c.loop-k.invariant.2
