use Rattle.std.proofs.Common.{ap, sym, ◌∙◌, subst}
use Rattle.word_board.{specs.Lines.{numbered, held, TookLines}, proofs.Taking.{at-phase, asked-take, asked-give}}
use Rattle.word_board.proofs.stepper.Stepper.read_text.Goals as goal

pub take_as-requires-clause-allows : goal.take_as-requires-clause-allows
take_as-requires-clause-allows g c =
    let me = c.self.inside in
    let words = me.words.now in
    asked-take c.args.self.now _ _ _ words.keyed _ _ c.self.view_is c.requires.takes _
    (at-phase c.args.self.now _ _ _ c.self.view_is _ c.phase-word.ensures.value) _ c.requires.lines.0 me.seat.me
    c.self.invariant.1

pub give_as-requires-clause-allows : goal.give_as-requires-clause-allows
give_as-requires-clause-allows g c =
    let me = c.self.inside in
    let words = me.words.now in
    let took = subst (TookLines _ _ _ _) (sym c.read_lines.ensures.same.me) c.take_as.ensures.took in
    let lines = held c.read_lines.new.seat.me in
    asked-give c.args.self.now _ _ _ words.keyed _ _ c.self.view_is (c.requires.gives lines took.told took.has.many took.has.wide) _
    c.phase-word.ensures.value _ took.view (took.has.slots ∙ ap (λ k. numbered k lines) c.requires.lines.0)
