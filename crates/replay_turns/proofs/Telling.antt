-- What was told of the lists that `tell` was given is told of the run.
use Rattle.std.proofs.Common.{◌≡◌, ℕ, List, subst}
use Rattle.card_feed.specs.declared.outcome.Outcome.{Outcome}
use Rattle.run_account.specs.{Ran.{TellsOf, TellsOfEnds}, Running.{ends_of}, declared.run.{Run.{Run}, Worker.{Worker}}}

pub told : (run : Run) (workers : List Worker) (ports its_ports : List ℕ) (outcome : Outcome) → workers ≡ run.workers.items → ports ≡ its_ports
    → TellsOfEnds run.feed (ends_of workers) ports outcome → TellsOf run its_ports outcome
told run workers ports its_ports outcome same same_ports tells =
    subst (λ l. TellsOfEnds run.feed (ends_of run.workers.items) l outcome) same_ports
    (subst (λ ws. TellsOfEnds run.feed (ends_of ws) ports outcome) same tells)
