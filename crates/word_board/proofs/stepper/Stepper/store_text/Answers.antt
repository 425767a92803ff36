use Rattle.std.proofs.Common.{refl, ◌∙◌}
use Rattle.word_board.{specs.Lines.{held}, proofs.Taking.{asked-take, asked-give}}
use Rattle.word_board.proofs.stepper.Stepper.store_text.Goals as goal

pub take_as-requires-clause-allows : goal.take_as-requires-clause-allows
take_as-requires-clause-allows g c =
    let me = c.self.inside in
    let words = me.words.now in
    asked-take c.args.self.now _ _ _ words.keyed _ _ c.self.view_is c.requires.takes _ refl _ c.requires.lines.0 me.seat.me c.self.invariant.1

pub give_as-requires-clause-allows : goal.give_as-requires-clause-allows
give_as-requires-clause-allows g c =
    let me = c.self.inside in
    let words = me.words.now in
    let took = c.take_as.ensures.took in
    let wrote = c.write_lines.ensures in
    asked-give c.args.self.now _ _ _ words.keyed _ _ c.self.view_is
    (c.requires.gives (held c.take_as.new.seat.me) (held c.write_lines.new.seat.me) took.told wrote.text) _ c.phase.ensures.value _
    (wrote.view ∙ took.view) wrote.has.slots
