use Rattle.area_layout.proofs.Words.{few_bytes}
use Rattle.area_layout.proofs.layout.Layout.bytes.Goals as goal

pub returns-clause-within : goal.returns-clause-within
returns-clause-within c = rw (c.begin_of.ensures.value, c.total.ensures.value) (few_bytes c.args.self.now c.begin_of.ensures.sound)
