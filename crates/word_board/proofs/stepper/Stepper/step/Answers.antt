use Rattle.word_board.proofs.Stepping.{asked, stepped}
use Rattle.word_board.proofs.stepper.Stepper.step.Goals as goal

pub step_as-requires-clause-allows : goal.step_as-requires-clause-allows
step_as-requires-clause-allows g c =
    let me = c.self.inside in
    let words = me.words.now in
    (asked c.requires.may _ _ _ _ _ _ c.self.invariant.0 words.keyed words.wide me.seat.me c.self.invariant.1 c.self.view_is c.requires.word).2

pub invariant_of-self : goal.invariant_of-self
invariant_of-self g c =
    let me = c.self.inside in
    let role = g.R.Role in
    let map = me.words.now.map in
    (stepped c.requires.may role.side_of role.back (role.knows me.role map) (role.still_knows me.role map) c.step_as.result map _ _ _ me.seat.me
    c.step_as.new.seat.me c.self.invariant.0 c.self.invariant.1 c.self.invariant.2 c.self.view_is c.step_as.ensures.table c.step_as.ensures.me).0

pub returns-clause-event : goal.returns-clause-event
returns-clause-event g c =
    let me = c.self.inside in
    let role = g.R.Role in
    let map = me.words.now.map in
    (stepped c.requires.may role.side_of role.back (role.knows me.role map) (role.still_knows me.role map) c.step_as.result map _ _ _ me.seat.me
    c.step_as.new.seat.me c.self.invariant.0 c.self.invariant.1 c.self.invariant.2 c.self.view_is c.step_as.ensures.table c.step_as.ensures.me).1
