-- The first four bytes of a file header, and what is behind them.
use Rattle.std.proofs.{Common.{arith}, lemmas.Result.{err_from_is_err_and}}
use Rattle.pcap_reader.{specs.Records.{header_fault}, proofs.{HeaderLaws.{header_fault-cut}, Joined.{HeaderStops-broken, Opens-behind}}}
use Rattle.pcap_reader.proofs.capture.Capture.open.Goals as goal

pub returns-in_err-fill_whole-clause-opens : goal.returns-in_err-fill_whole-clause-opens
returns-in_err-fill_whole-clause-opens g c =
    let p = err_from_is_err_and c.from_residual.result c.from_residual.ensures.1 in
    rw (p.1, p.2) (HeaderStops-broken header_fault _ _ _ _ (λ xs short. header_fault-cut xs (omega arith)) c.in_err-fill_whole.ensures.fills)

pub returns-clause-opens : goal.returns-clause-opens
returns-clause-opens g c = Opens-behind _ _ _ c.fill_whole.new.into _ (omega arith) c.in_ok-fill_whole.ensures.fills c.open_rest.ensures.opens
