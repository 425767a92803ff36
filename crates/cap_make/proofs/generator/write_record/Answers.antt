use Rattle.std.proofs.Common.{◌≡◌, ap, ◌∙◌, sym, subst, ◌+◌, ◌++◌}
use Rattle.zr_io.specs.Moved.{AddsPiece}
use Rattle.cap_make.{specs.GeneratedCapture.{piece_of, frame_of_piece, record_header, record_of}, proofs.Payload.{length-frame_of}}
use Rattle.cap_make.proofs.generator.write_record.Goals as goal

pub returns-clause-bytes : goal.returns-clause-bytes
returns-clause-bytes g c =
    let piece = piece_of c.args.k c.args.x in
    let whole : c.as_slice.result.now ≡ record_of c.args.seed c.args.k c.args.x =
    c.as_slice.ensures.value ∙ c.put_record.ensures
    ∙ ap (λ p. record_header c.args.k (54 + p.count) ++ frame_of_piece c.args.seed p) c.piece_at.ensures.value
    ∙ ap (λ n. record_header c.args.k n ++ frame_of_piece c.args.seed piece) (sym (length-frame_of c.args.seed piece))
    in
    subst (λ bytes. AddsPiece (g.O.Sink.sent c.args.out.now) (g.O.Sink.sent c.write_all.new.self) c.write_all.result bytes) whole c.write_all.ensures.bytes
