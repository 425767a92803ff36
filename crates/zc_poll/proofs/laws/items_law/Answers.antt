use Rattle.zc_poll.proofs.Whole.{items-front, items-whole}
use Rattle.zc_poll.proofs.laws.items_law.Goals as goal

pub returns-clause-fronts : goal.returns-clause-fronts
returns-clause-fronts g c = λ items given whole flow.
    items-front c.args.stream.now.desk.flows (g.F.AppFace.seen c.args.stream.now.face).taken items c.requires.common.found given whole flow

pub returns-clause-whole : goal.returns-clause-whole
returns-clause-whole g c = λ ended on items given whole flow.
    items-whole c.args.stream.now.desk (g.F.AppFace.seen c.args.stream.now.face) items c.requires.common.found (c.requires.whole ended on) given whole flow
