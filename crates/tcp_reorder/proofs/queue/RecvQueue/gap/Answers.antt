use Rattle.std.proofs.{Common.{◌≡◌, ℕ, ◌+◌, ◌^◌, ◌<◌, ◌≤◌, false, min, refl, sym, subst, ◌∙◌, arith}, lemmas.Bool.{both_ways}}
use Rattle.tcp_reorder.{specs.{Queue.{Queue, next_of}, Gaps.{origin, wants, IsFirstGap}, Pieces.{queue_of}, declared.places.Gap.{Gap}}, proofs.Judging.{accepted}}
use Rattle.tcp_reorder.proofs.{Sound.{next_of-low}, Rest.{first_end, first_end-low, rest_kept, rest_apart, rest_within}}
use Rattle.tcp_reorder.proofs.Gapping.{IsThereUntil, IsMissingUntil, there_until, origin-is, unwanted_until, missing_to_next, missing_to_limit, first_gap}
use Rattle.tcp_reorder.proofs.queue.RecvQueue.gap.Goals.{in-Some, in-None}
use Rattle.tcp_reorder.proofs.queue.RecvQueue.gap.Goals as goal

pub first_free-start-requires-clause-apart : goal.first_free-start-requires-clause-apart
first_free-start-requires-clause-apart g c = rest_apart c.self.inside.popped c.self.inside.popped c.self.inside.first c.self.inside.pieces.entries c.self.invariant.0.apart

pub first_free-start-requires-clause-in_stream : goal.first_free-start-requires-clause-in_stream
first_free-start-requires-clause-in_stream g c = rest_within (2 ^ 62) c.self.inside.popped c.self.inside.first c.self.inside.pieces.entries c.self.invariant.0.in_stream

pub first_free-start-requires-clause-low : goal.first_free-start-requires-clause-low
first_free-start-requires-clause-low g c =
    let queue = queue_of c.self.inside.base c.self.inside.popped c.self.inside.first c.self.inside.pieces.entries in
    let low : next_of queue ≤ 2 ^ 62 = next_of-low queue c.self.invariant.0 in
    let first : c.self.inside.next + c.lead.result ≡ origin queue c.args.seq =
    origin-is queue c.args.seq c.self.inside.next c.lead.result c.self.invariant.1 c.lead.ensures.exact in
    let within = accepted queue.base (next_of queue) c.args.seq c.args.len (rw (← c.self.view_is) at c.requires) in
    omega (arith, within.1)

pub returns-then-start-limit-clause-none : goal.returns-then-start-limit-clause-none
returns-then-start-limit-clause-none g c =
    let queue = queue_of c.self.inside.base c.self.inside.popped c.self.inside.first c.self.inside.pieces.entries in
    let first : c.self.inside.next + c.lead.result ≡ origin queue c.args.seq =
    origin-is queue c.args.seq c.self.inside.next c.lead.result c.self.invariant.1 c.lead.ensures.exact in
    let behind : first_end c.self.inside.popped c.self.inside.first ≤ next_of queue =
    first_end-low c.self.inside.base c.self.inside.popped c.self.inside.first c.self.inside.pieces.entries c.self.invariant.0 in
    let there : IsThereUntil queue c.args.seq c.first_free-start.result =
    there_until queue c.args.seq c.self.inside.next
    (c.self.inside.next + c.lead.result) c.max-from.result c.first_free-start.result c.self.invariant.1 first
    (omega arith) c.first_free-start.ensures.above
    (λ p from until. rest_kept c.self.inside.popped c.self.inside.first c.self.inside.pieces.entries p (omega arith) ∙ c.first_free-start.ensures.kept p from until) in
    rw (← c.self.view_is) ((λ none place below. unwanted_until queue c.args.seq c.first_free-start.result place there (omega arith)), λ all. refl)

pub next_kept-requires-clause-apart : goal.next_kept-requires-clause-apart
next_kept-requires-clause-apart g c = rest_apart c.self.inside.popped c.self.inside.popped c.self.inside.first c.self.inside.pieces.entries c.self.invariant.0.apart

some_wanted : {H : Type 0} (queue : Queue H) (seq len : ℕ) (gap : Gap) → IsFirstGap queue seq len gap
    → ((place : ℕ) → place < len → wants queue seq place ≡ false) → ⊥
some_wanted queue seq len gap first none =
    let some : 0 < gap.len = first.some in
    let within : gap.skip + gap.len ≤ len = first.within in
    both_ways _ (none gap.skip (omega arith)) (first.wanted gap.skip (omega arith) (omega arith))

pub returns-clause-first : goal.returns-clause-first
returns-clause-first g c =
    let queue = queue_of c.self.inside.base c.self.inside.popped c.self.inside.first c.self.inside.pieces.entries in
    let first : c.self.inside.next + c.lead.result ≡ origin queue c.args.seq =
    origin-is queue c.args.seq c.self.inside.next c.lead.result c.self.invariant.1 c.lead.ensures.exact in
    let behind : first_end c.self.inside.popped c.self.inside.first ≤ next_of queue =
    first_end-low c.self.inside.base c.self.inside.popped c.self.inside.first c.self.inside.pieces.entries c.self.invariant.0 in
    let there : IsThereUntil queue c.args.seq c.first_free-start.result =
    there_until queue c.args.seq c.self.inside.next
    (c.self.inside.next + c.lead.result) c.max-from.result c.first_free-start.result c.self.invariant.1 first
    (omega arith) c.first_free-start.ensures.above
    (λ p from until. rest_kept c.self.inside.popped c.self.inside.first c.self.inside.pieces.entries p (omega arith) ∙ c.first_free-start.ensures.kept p from until) in
    let missing : IsMissingUntil queue c.args.seq c.first_free-start.result c.match-next_kept.end c.saturating_sub-limit.result =
    elim c.match-next_kept.branch [
      | in-Some w ↦
          let same : min w.in-Some.kept c.saturating_sub-limit.result ≡ c.match-next_kept.end = omega arith in
          subst (λ (e : ℕ). IsMissingUntil queue c.args.seq c.first_free-start.result e c.saturating_sub-limit.result) same
          (missing_to_next queue c.args.seq c.first_free-start.result c.saturating_sub-limit.result w.in-Some.kept
          (omega arith) w.in-Some.ensures.0
          (rest_kept c.self.inside.popped c.self.inside.first c.self.inside.pieces.entries w.in-Some.kept (omega (arith, w.in-Some.ensures.0)) ∙ w.in-Some.ensures.1)
          (λ p from until. rest_kept c.self.inside.popped c.self.inside.first c.self.inside.pieces.entries p (omega arith) ∙ w.in-Some.ensures.2 p from until))
      | in-None w ↦
          subst (λ (e : ℕ). IsMissingUntil queue c.args.seq c.first_free-start.result e c.saturating_sub-limit.result) (sym w.end-is)
          (missing_to_limit queue c.args.seq c.first_free-start.result c.saturating_sub-limit.result (omega arith)
          (λ p from. rest_kept c.self.inside.popped c.self.inside.first c.self.inside.pieces.entries p (omega arith) ∙ w.in-None.ensures p from))
    ] in
    let gap = first_gap queue c.args.seq c.args.len c.first_free-start.result c.match-next_kept.end c.saturating_sub-limit.result (omega arith) there missing in
    rw (← c.self.view_is, first) gap

pub returns-clause-none : goal.returns-clause-none
returns-clause-none g c = ((λ never. cc), λ none. absurd (some_wanted c.args.self.now c.args.seq c.args.len _ (returns-clause-first g c) none))
