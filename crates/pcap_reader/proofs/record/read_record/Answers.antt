-- A header that is cut or states too many bytes.
use Rattle.std.proofs.{Common.{◌≡◌, length, arith}, lemmas.Result.{err_from_is_err_and}}
use Rattle.pcap_reader.proofs.{RecordLaws.{number_in}, Joined.{Stops-headless, Stops-cut, Stops-long}}
use Rattle.pcap_reader.proofs.record.read_record.Goals as goal

pub returns-in_err-filled-clause-takes : goal.returns-in_err-filled-clause-takes
returns-in_err-filled-clause-takes g c =
    let p = err_from_is_err_and c.from_residual.result c.from_residual.ensures.1 in
    let fills = c.in_err-filled.ensures.fills in
    rw (p.1, p.2) (Stops-headless c.args.order _ _ _ _ (omega arith) fills.0 fills.1)

pub returns-then-filled-lt-HEADER_LEN-clause-takes :
    goal.returns-then-filled-lt-HEADER_LEN-clause-takes
returns-then-filled-lt-HEADER_LEN-clause-takes g c =
    let fills = c.in_ok-filled.ensures.fills in
    Stops-cut c.args.order _ _ c.fill.new.into c.in_ok-filled.filled (omega arith) (omega arith) fills.0 fills.1 (fills.2 (omega arith))

pub returns-then-record-gt-LONGEST_RECORD-clause-takes :
    goal.returns-then-record-gt-LONGEST_RECORD-clause-takes
returns-then-record-gt-LONGEST_RECORD-clause-takes g c =
    let fills = c.in_ok-filled.ensures.fills in
    let whole : length c.fill.new.into ≡ 16 = omega arith in
    let stated = number_in c.args.order 8 8 c.fill.new.into c.number32.result whole c.number32.ensures in
    Stops-long c.args.order _ _ c.fill.new.into c.in_ok-filled.filled whole (omega arith) (omega arith) fills.1

pub returns-in_err-filled-clause-no_memory : goal.returns-in_err-filled-clause-no_memory
returns-in_err-filled-clause-no_memory g c =
    let p = err_from_is_err_and c.from_residual.result c.from_residual.ensures.1 in
    let fills = c.in_err-filled.ensures.fills in
    let read = fills.0 in
    rw p.1 (λ same. cc (p.2, read))
