use Rattle.std.proofs.Common.{◌≡◌, ℕ, ◌^◌, ◌<◌, ◌≤◌, List, [], length, ◌∙◌, sym, subst, arith, refl, true}
use Rattle.tcp_reorder.specs.{Queue.{Kept, is_kept, next_of, with_kept, AreApart, EndWithin}, Pieces.{all_kept, with_first, queue_of}}
use Rattle.tcp_reorder.proofs.{Positions.{EndWithin-with_kept}, Sound.{no_entry, next_of-low, apart_with_kept, taken_is_at}}
use Rattle.tcp_reorder.proofs.Rest.{first_end, first_end-low, rest_kept, rest_apart, rest_within}
use Rattle.tcp_reorder.proofs.Taking.{IsTake, queue, one, place_is, may, kept_then, nothing_there, alone}
use Rattle.tcp_reorder.proofs.queue.RecvQueue.take.Goals as goal

pub unreachable-requires : goal.unreachable-requires
unreachable-requires g c =
    let call : IsTake c.self.inside.base c.self.inside.popped c.self.inside.first c.self.inside.pieces.entries c.args.self.now c.args.seq
    c.self.inside.next c.lead.result c.args.len =
    record {
      view_is = c.self.view_is;
      sound = c.self.invariant.0;
      next_is = c.self.invariant.1;
      ahead_is = c.lead.ensures.exact;
      accepted = c.requires.accepted;
      some = c.requires.some;
      small = c.ranges.len.fits;
      wanted = c.requires.wanted;
    } in
    let empty : c.self.inside.pieces.entries ≡ [] =
    no_entry c.self.inside.pieces.entries (λ more. let none : length c.self.inside.pieces.entries ≡ 0 = c.if-is_empty.ensures.0 refl in omega arith) in
    let lone = alone _ _ _ _ _ _ _ _ _ c.args.piece call c.if-position-self.true empty in
    absurd (c.in_default.not-None (c.replace-before.ensures.value ∙ lone.none))

pub invariant_of-self : goal.invariant_of-self
invariant_of-self g c =
    let call : IsTake c.self.inside.base c.self.inside.popped c.self.inside.first c.self.inside.pieces.entries c.args.self.now c.args.seq
    c.self.inside.next c.lead.result c.args.len =
    record {
      view_is = c.self.view_is;
      sound = c.self.invariant.0;
      next_is = c.self.invariant.1;
      ahead_is = c.lead.ensures.exact;
      accepted = c.requires.accepted;
      some = c.requires.some;
      small = c.ranges.len.fits;
      wanted = c.requires.wanted;
    } in
    let empty : c.self.inside.pieces.entries ≡ [] =
    no_entry c.self.inside.pieces.entries (λ more. let none : length c.self.inside.pieces.entries ≡ 0 = c.if-is_empty.ensures.0 refl in omega arith) in
    let lone = alone _ _ _ _ _ _ _ _ _ c.args.piece call c.if-position-self.true empty in
    rw (c.from.ensures, c.replace-before.ensures.after) (lone.at.sound, lone.at.next)

pub first_free-self-inside-requires-clause-apart : goal.first_free-self-inside-requires-clause-apart
first_free-self-inside-requires-clause-apart g c =
    let call : IsTake c.self.inside.base c.self.inside.popped c.self.inside.first c.self.inside.pieces.entries c.args.self.now c.args.seq
    c.self.inside.next c.lead.result c.args.len =
    record {
      view_is = c.self.view_is;
      sound = c.self.invariant.0;
      next_is = c.self.invariant.1;
      ahead_is = c.lead.ensures.exact;
      accepted = c.requires.accepted;
      some = c.requires.some;
      small = c.ranges.len.fits;
      wanted = c.requires.wanted;
    } in
    let kept : all_kept (with_first c.self.inside.popped c.self.inside.first c.insert.new.self.entries)
    ≡ with_kept (all_kept (with_first c.self.inside.popped c.self.inside.first c.self.inside.pieces.entries)) (one _ _ _ _ _ _ _ _ _ c.args.piece call) =
    kept_then _ _ _ _ _ _ _ _ _ c.args.piece call c.insert.new.self.entries c.in-Ok-None.ensures.entries in
    rest_apart 0 c.self.inside.popped c.self.inside.first c.insert.new.self.entries (subst (AreApart 0) (sym kept)
    (apart_with_kept (queue _ _ _ _ _ _ _ _ _ c.args.piece call) (one _ _ _ _ _ _ _ _ _ c.args.piece call) c.self.invariant.0
    (may _ _ _ _ _ _ _ _ _ c.args.piece call)))

pub first_free-self-inside-requires-clause-in_stream : goal.first_free-self-inside-requires-clause-in_stream
first_free-self-inside-requires-clause-in_stream g c =
    let call : IsTake c.self.inside.base c.self.inside.popped c.self.inside.first c.self.inside.pieces.entries c.args.self.now c.args.seq
    c.self.inside.next c.lead.result c.args.len =
    record {
      view_is = c.self.view_is;
      sound = c.self.invariant.0;
      next_is = c.self.invariant.1;
      ahead_is = c.lead.ensures.exact;
      accepted = c.requires.accepted;
      some = c.requires.some;
      small = c.ranges.len.fits;
      wanted = c.requires.wanted;
    } in
    let kept : all_kept (with_first c.self.inside.popped c.self.inside.first c.insert.new.self.entries)
    ≡ with_kept (all_kept (with_first c.self.inside.popped c.self.inside.first c.self.inside.pieces.entries)) (one _ _ _ _ _ _ _ _ _ c.args.piece call) =
    kept_then _ _ _ _ _ _ _ _ _ c.args.piece call c.insert.new.self.entries c.in-Ok-None.ensures.entries in
    rest_within (2 ^ 62) c.self.inside.popped c.self.inside.first c.insert.new.self.entries (subst (EndWithin (2 ^ 62)) (sym kept)
    (EndWithin-with_kept (2 ^ 62) (all_kept (with_first c.self.inside.popped c.self.inside.first c.self.inside.pieces.entries)) (one _ _ _ _ _ _ _ _ _ c.args.piece call) c.self.invariant.0.in_stream
    (may _ _ _ _ _ _ _ _ _ c.args.piece call).low))

pub first_free-self-inside-requires-clause-low : goal.first_free-self-inside-requires-clause-low
first_free-self-inside-requires-clause-low g c =
    let queue = queue_of c.self.inside.base c.self.inside.popped c.self.inside.first c.self.inside.pieces.entries in
    let low : next_of queue ≤ 2 ^ 62 = next_of-low queue c.self.invariant.0 in
    omega (arith, c.self.invariant.1)

pub invariant_of-self-in-Ok-None : goal.invariant_of-self-in-Ok-None
invariant_of-self-in-Ok-None g c =
    let call : IsTake c.self.inside.base c.self.inside.popped c.self.inside.first c.self.inside.pieces.entries c.args.self.now c.args.seq
    c.self.inside.next c.lead.result c.args.len =
    record {
      view_is = c.self.view_is;
      sound = c.self.invariant.0;
      next_is = c.self.invariant.1;
      ahead_is = c.lead.ensures.exact;
      accepted = c.requires.accepted;
      some = c.requires.some;
      small = c.ranges.len.fits;
      wanted = c.requires.wanted;
    } in
    let kept : all_kept (with_first c.self.inside.popped c.self.inside.first c.insert.new.self.entries)
    ≡ with_kept (all_kept (with_first c.self.inside.popped c.self.inside.first c.self.inside.pieces.entries)) (one _ _ _ _ _ _ _ _ _ c.args.piece call) =
    kept_then _ _ _ _ _ _ _ _ _ c.args.piece call c.insert.new.self.entries c.in-Ok-None.ensures.entries in
    let behind : first_end c.self.inside.popped c.self.inside.first ≤ next_of (queue _ _ _ _ _ _ _ _ _ c.args.piece call) =
    first_end-low c.self.inside.base c.self.inside.popped c.self.inside.first c.self.inside.pieces.entries c.self.invariant.0 in
    let kept_on : (p : ℕ) → next_of (queue _ _ _ _ _ _ _ _ _ c.args.piece call) ≤ p → p < c.first_free-self-inside.result
    → is_kept (with_kept (all_kept (with_first c.self.inside.popped c.self.inside.first c.self.inside.pieces.entries)) (one _ _ _ _ _ _ _ _ _ c.args.piece call)) p ≡ true =
    λ p from until. subst (λ (all : List (Kept _)). is_kept all p ≡ true) kept
    (rest_kept c.self.inside.popped c.self.inside.first c.insert.new.self.entries p (omega arith)
    ∙ c.first_free-self-inside.ensures.kept p (omega arith) until) in
    let above = rw c.self.invariant.1 at c.first_free-self-inside.ensures.above in
    let free = rw kept at (rest_kept c.self.inside.popped c.self.inside.first c.insert.new.self.entries c.first_free-self-inside.result
    (omega (arith, above, behind)) ∙ c.first_free-self-inside.ensures.free (omega arith)) in
    let at = taken_is_at (queue _ _ _ _ _ _ _ _ _ c.args.piece call) (one _ _ _ _ _ _ _ _ _ c.args.piece call) c.first_free-self-inside.result c.self.invariant.0
    (may _ _ _ _ _ _ _ _ _ c.args.piece call) above kept_on free in
    rw kept (at.sound, at.next)

pub returns-in-Ok-None-clause-ok : goal.returns-in-Ok-None-clause-ok
returns-in-Ok-None-clause-ok g c =
    let call : IsTake c.self.inside.base c.self.inside.popped c.self.inside.first c.self.inside.pieces.entries c.args.self.now c.args.seq
    c.self.inside.next c.lead.result c.args.len =
    record {
      view_is = c.self.view_is;
      sound = c.self.invariant.0;
      next_is = c.self.invariant.1;
      ahead_is = c.lead.ensures.exact;
      accepted = c.requires.accepted;
      some = c.requires.some;
      small = c.ranges.len.fits;
      wanted = c.requires.wanted;
    } in
    let kept : all_kept (with_first c.self.inside.popped c.self.inside.first c.insert.new.self.entries)
    ≡ with_kept (all_kept (with_first c.self.inside.popped c.self.inside.first c.self.inside.pieces.entries)) (one _ _ _ _ _ _ _ _ _ c.args.piece call) =
    kept_then _ _ _ _ _ _ _ _ _ c.args.piece call c.insert.new.self.entries c.in-Ok-None.ensures.entries in
    let first = place_is _ _ _ _ _ _ _ _ _ c.args.piece call in
    rw (← c.self.view_is, kept, first) refl

pub invariant_of-self-in-Ok-Some : goal.invariant_of-self-in-Ok-Some
invariant_of-self-in-Ok-Some g c =
    let call : IsTake c.self.inside.base c.self.inside.popped c.self.inside.first c.self.inside.pieces.entries c.args.self.now c.args.seq
    c.self.inside.next c.lead.result c.args.len =
    record {
      view_is = c.self.view_is;
      sound = c.self.invariant.0;
      next_is = c.self.invariant.1;
      ahead_is = c.lead.ensures.exact;
      accepted = c.requires.accepted;
      some = c.requires.some;
      small = c.ranges.len.fits;
      wanted = c.requires.wanted;
    } in
    absurd (nothing_there _ _ _ _ _ _ _ _ _ c.args.piece call c.in-Ok-Some.before (sym c.in-Ok-Some.field-0-is ∙ c.in-Ok-Some.ensures.old))

pub returns-in-Ok-Some-clause-given_back : goal.returns-in-Ok-Some-clause-given_back
returns-in-Ok-Some-clause-given_back g c =
    let call : IsTake c.self.inside.base c.self.inside.popped c.self.inside.first c.self.inside.pieces.entries c.args.self.now c.args.seq
    c.self.inside.next c.lead.result c.args.len =
    record {
      view_is = c.self.view_is;
      sound = c.self.invariant.0;
      next_is = c.self.invariant.1;
      ahead_is = c.lead.ensures.exact;
      accepted = c.requires.accepted;
      some = c.requires.some;
      small = c.ranges.len.fits;
      wanted = c.requires.wanted;
    } in
    absurd (nothing_there _ _ _ _ _ _ _ _ _ c.args.piece call c.in-Ok-Some.before (sym c.in-Ok-Some.field-0-is ∙ c.in-Ok-Some.ensures.old))

pub returns-in-Ok-Some-clause-err : goal.returns-in-Ok-Some-clause-err
returns-in-Ok-Some-clause-err g c =
    let call : IsTake c.self.inside.base c.self.inside.popped c.self.inside.first c.self.inside.pieces.entries c.args.self.now c.args.seq
    c.self.inside.next c.lead.result c.args.len =
    record {
      view_is = c.self.view_is;
      sound = c.self.invariant.0;
      next_is = c.self.invariant.1;
      ahead_is = c.lead.ensures.exact;
      accepted = c.requires.accepted;
      some = c.requires.some;
      small = c.ranges.len.fits;
      wanted = c.requires.wanted;
    } in
    absurd (nothing_there _ _ _ _ _ _ _ _ _ c.args.piece call c.in-Ok-Some.before (sym c.in-Ok-Some.field-0-is ∙ c.in-Ok-Some.ensures.old))
