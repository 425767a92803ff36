use Rattle.std.proofs.Common.{rules}
use Rattle.flow_queues.proofs.GivenBack.{fresh_given, fresh_front}
use Rattle.app_worker.proofs.{Written.{fresh_blocks}, Origins.{fresh_origins}, ReadWhole.{fresh_whole}}
use Rattle.app_worker.proofs.state.AppState.new.Goals as goal

pub returns-clause-stands : goal.returns-clause-stands
returns-clause-stands g c = search (rules, fresh_blocks, fresh_given, fresh_front, fresh_origins, fresh_whole)
