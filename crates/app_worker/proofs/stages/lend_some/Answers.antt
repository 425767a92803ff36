use Rattle.std.proofs.Common.{◌∙◌, refl}
use Rattle.app_worker.{specs.StateOf.{state_of}, proofs.LentSoFar.{lent-none, lent-more, lent-further, lent-end}}
use Rattle.app_worker.proofs.stages.lend_some.Goals as goal

pub loop-did-init : goal.loop-did-init
loop-did-init g c = (lent-none (state_of c.args.st.now) (g.F.AppFace.seen c.args.face.now) c.requires.works.working c.requires.works.common, refl)

pub loop-did-preserved : goal.loop-did-preserved
loop-did-preserved g c = (
  lent-more
      c.loop-did.invariant.0 c.deliver_one.ensures.works.working c.deliver_one.ensures.works.common c.deliver_one.ensures.works.goes c.in-Did.ensures.lends,
  c.deliver_one.ensures.beside ∙ c.loop-did.invariant.1,
)

pub loop-did-smaller : goal.loop-did-smaller
loop-did-smaller g c = lent-further
    c.loop-did.invariant.0 c.deliver_one.ensures.works.working c.deliver_one.ensures.works.common c.in-Did.ensures.lends

pub returns-in_default : goal.returns-in_default
returns-in_default g c = record {
  lends = lent-end c.deliver_one.result
      c.loop-did.invariant.0 c.in_default.not-Did c.deliver_one.ensures.works.working c.deliver_one.ensures.works.common c.deliver_one.ensures.works.goes
      c.deliver_one.ensures.lends;
  told = c.deliver_one.ensures.told;
  beside = c.deliver_one.ensures.beside ∙ c.loop-did.invariant.1;
}
