-- An event out of range, one of no buffer, one whose buffer isn't as it needs, and the others.
use Rattle.std.proofs.Common.{◌≡◌, ◌<◌, ◌∙◌, sym, ap, refl, subst, Some, length, arith, true, false}
use Rattle.zr_kinds.specs.Holders.{buffer_of_event, changed, is_in_range}
use Rattle.run_check.specs.{Holding.{Changes, holdings_of}, Unfit.{IsLack}}
use Rattle.run_check.proofs.{Events.{after_nowhere, buffer_below, held_here, small_app}, Lacking.{counted_right, miscounted}}
use Rattle.run_check.proofs.holders.Holders.change.Goals as goal

pub change-requires-clause-few : goal.change-requires-clause-few
change-requires-clause-few c =
    let ranged : is_in_range c.args.setting.now c.args.event ≡ true = sym c.is_in_range.ensures.value ∙ c.if-not-is_in_range.false in
    let at : Some c.in-Some.buffer ≡ buffer_of_event c.args.event = sym c.in-Some.is ∙ c.buffer_of.ensures in
    let lt : c.in-Some.buffer < length c.args.self.now.buffers.items =
    omega (arith, c.requires.total, buffer_below c.args.setting.now c.args.event c.in-Some.buffer ranged at) in
    let here = held_here c.args.self.now.buffers.items c.in-Some.buffer c.index_mut-held.result.now c.index_mut-held.ensures.value lt in
    omega (arith, c.requires.few c.in-Some.buffer, ap length here)

pub has_counts-requires : goal.has_counts-requires
has_counts-requires c = small_app c.args.setting.now c.args.event c.is_in_range.ensures.sound (sym c.is_in_range.ensures.value ∙ c.if-not-is_in_range.false)

pub returns-then-not-is_in_range-clause-changes : goal.returns-then-not-is_in_range-clause-changes
returns-then-not-is_in_range-clause-changes c = sym c.is_in_range.ensures.value ∙ c.if-not-is_in_range.true

pub returns-in_default-clause-changes : goal.returns-in_default-clause-changes
returns-in_default-clause-changes c = (
  holdings_of c.args.self.now.buffers.items,
  after_nowhere _ _ _ (sym c.is_in_range.ensures.value ∙ c.if-not-is_in_range.false) (sym c.in_default.is ∙ c.buffer_of.ensures),
  λ b f. refl,
)

pub returns-then-not-branch-clause-changes : goal.returns-then-not-branch-clause-changes
returns-then-not-branch-clause-changes c =
    let ranged : is_in_range c.args.setting.now c.args.event ≡ true = sym c.is_in_range.ensures.value ∙ c.if-not-is_in_range.false in
    let at : Some c.in-Some.buffer ≡ buffer_of_event c.args.event = sym c.in-Some.is ∙ c.buffer_of.ensures in
    let lt : c.in-Some.buffer < length c.args.self.now.buffers.items =
    omega (arith, c.requires.total, buffer_below c.args.setting.now c.args.event c.in-Some.buffer ranged at) in
    let here = held_here c.args.self.now.buffers.items c.in-Some.buffer c.index_mut-held.result.now c.index_mut-held.ensures.value lt in
    let unfit : Changes (changed c.args.setting.now c.index_mut-held.result.now c.args.event) c.change.new.held false =
    subst (Changes (changed c.args.setting.now c.index_mut-held.result.now c.args.event) c.change.new.held) c.if-not-branch.true c.in_ok-change.ensures in
    (c.in-Some.buffer, ranged, at, ap (λ held. changed c.args.setting.now held c.args.event) here ∙ unfit)

pub returns-then-has_counts-clause-changes : goal.returns-then-has_counts-clause-changes
returns-then-has_counts-clause-changes c =
    let ranged : is_in_range c.args.setting.now c.args.event ≡ true = sym c.is_in_range.ensures.value ∙ c.if-not-is_in_range.false in
    let at : Some c.in-Some.buffer ≡ buffer_of_event c.args.event = sym c.in-Some.is ∙ c.buffer_of.ensures in
    let lt : c.in-Some.buffer < length c.args.self.now.buffers.items =
    omega (arith, c.requires.total, buffer_below c.args.setting.now c.args.event c.in-Some.buffer ranged at) in
    let here = held_here c.args.self.now.buffers.items c.in-Some.buffer c.index_mut-held.result.now c.index_mut-held.ensures.value lt in
    let fit : Changes (changed c.args.setting.now c.index_mut-held.result.now c.args.event) c.change.new.held true =
    subst (Changes (changed c.args.setting.now c.index_mut-held.result.now c.args.event) c.change.new.held) c.if-not-branch.false c.in_ok-change.ensures in
    counted_right c.args.setting.now c.args.self.now.buffers.items c.args.event c.in-Some.buffer c.change.new.held ranged at lt
    (subst (λ held. Changes (changed c.args.setting.now held c.args.event) c.change.new.held true) (sym here) fit)
    (sym c.has_counts.ensures ∙ c.if-has_counts.true)

pub returns-else-has_counts-clause-changes : goal.returns-else-has_counts-clause-changes
returns-else-has_counts-clause-changes c =
    let ranged : is_in_range c.args.setting.now c.args.event ≡ true = sym c.is_in_range.ensures.value ∙ c.if-not-is_in_range.false in
    let at : Some c.in-Some.buffer ≡ buffer_of_event c.args.event = sym c.in-Some.is ∙ c.buffer_of.ensures in
    let lt : c.in-Some.buffer < length c.args.self.now.buffers.items =
    omega (arith, c.requires.total, buffer_below c.args.setting.now c.args.event c.in-Some.buffer ranged at) in
    let here = held_here c.args.self.now.buffers.items c.in-Some.buffer c.index_mut-held.result.now c.index_mut-held.ensures.value lt in
    let fit : Changes (changed c.args.setting.now c.index_mut-held.result.now c.args.event) c.change.new.held true =
    subst (Changes (changed c.args.setting.now c.index_mut-held.result.now c.args.event) c.change.new.held) c.if-not-branch.false c.in_ok-change.ensures in
    subst (IsLack c.args.setting.now (holdings_of c.args.self.now.buffers.items) c.args.event) (sym c.counts_of.ensures)
    (miscounted c.args.setting.now c.args.self.now.buffers.items c.args.event c.in-Some.buffer c.change.new.held ranged at
    (subst (λ held. Changes (changed c.args.setting.now held c.args.event) c.change.new.held true) (sym here) fit)
    (sym c.has_counts.ensures ∙ c.if-has_counts.false))
