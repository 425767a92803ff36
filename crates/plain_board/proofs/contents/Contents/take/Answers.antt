-- A buffer that stands last in the cache has no holder, so its count can be raised.
use Rattle.std.proofs.Common.{sym, ◌∙◌, arith, refl, rules}
use Rattle.board_face.proofs.TokenLemmas.{FitsBuffer-fresh}
use Rattle.plain_board.proofs.Taking.{is_spare, IsSound-took, TookBuffer-took}
use Rattle.plain_board.proofs.contents.Contents.take.Goals as goal

pub raise-requires-clause-there : goal.raise-requires-clause-there
raise-requires-clause-there c = (is_spare _ c.in-Some.buffer c.self.invariant.0 (sym c.pop.ensures.value ∙ c.in-Some.is)).there

pub raise-requires-clause-fits : goal.raise-requires-clause-fits
raise-requires-clause-fits c = omega (arith, (is_spare _ c.in-Some.buffer c.self.invariant.0 (sym c.pop.ensures.value ∙ c.in-Some.is)).count)

pub size_of-size-requires : goal.size_of-size-requires
size_of-size-requires c = let spare = is_spare _ c.in-Some.buffer c.self.invariant.0
    (sym c.pop.ensures.value ∙ c.in-Some.is) in let inside = spare.of_pool in omega arith

pub new-requires : goal.new-requires
new-requires c = rw c.size_of-size.ensures.value (FitsBuffer-fresh
    (record { layout = c.self.inside.layout; places = 0 }) c.in-Some.buffer c.self.invariant.0.sizes.layout)

pub invariant_of-self : goal.invariant_of-self
invariant_of-self c = search rules

pub returns-in_default-clause-only : goal.returns-in_default-clause-only
returns-in_default-clause-only c = record { apps = rw (← c.self.view_is) refl; sound = (invariant_of-self c).0 }

pub invariant_of-self-2 : goal.invariant_of-self-2
invariant_of-self-2 c =
    let sound = c.self.invariant.0 in
    let found = sym c.pop.ensures.value ∙ c.in-Some.is in
    let running = rw (← c.self.view_is) at c.requires in
    rw (c.note-2.ensures, c.pop.ensures.rest, c.raise.ensures) (IsSound-took _ c.in-Some.buffer sound found running, c.self.invariant.1)

pub returns-clause-view : goal.returns-clause-view
returns-clause-view c =
    let found = sym c.pop.ensures.value ∙ c.in-Some.is in
    rw (← c.self.view_is, c.note-2.ensures, c.new.ensures, c.size_of-size.ensures.value) (TookBuffer-took _ c.in-Some.buffer c.self.invariant.0 found)

pub returns-clause-unheld : goal.returns-clause-unheld
returns-clause-unheld c = rw (← c.self.view_is, c.new.ensures) (is_spare _ c.in-Some.buffer c.self.invariant.0 (sym c.pop.ensures.value ∙ c.in-Some.is)).none

pub returns-clause-only : goal.returns-clause-only
returns-clause-only c = record { apps = rw (← c.self.view_is) refl; sound = (invariant_of-self-2 c).0 }
