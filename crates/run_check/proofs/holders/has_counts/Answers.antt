-- Four events say both counts.
use Rattle.std.proofs.Common.{◌∙◌, sym, ap, ⊎_elim}
use Rattle.zr_kinds.specs.Holders.{has_counts}
use Rattle.run_check.proofs.holders.has_counts.Goals as goal

pub returns-in-Lend : goal.returns-in-Lend
returns-in-Lend c =
    c.are_counts.ensures
    ∙ ⊎_elim (λ lend. sym (ap (has_counts c.args.held.now) lend.3))
    (⊎_elim (λ honour. sym (ap (has_counts c.args.held.now) honour.1))
    (⊎_elim (λ own. sym (ap (has_counts c.args.held.now) own.2)) (λ scrub. sym (ap (has_counts c.args.held.now) scrub.1))))
    c.in-Lend.is
