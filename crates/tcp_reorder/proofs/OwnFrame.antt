-- Why a frame that was accepted is judged alike after its own bytes were taken, and after pops.
use Rattle.std.proofs.Common.{◌≡◌, ℕ, ◌+◌, ◌-◌, ◌%◌, ◌^◌, ◌<◌, ◌≤◌, nat_lt, true, false, refl, sym, ap, subst, ◌∙◌, ⊎_elim, arith}
use Rattle.std.proofs.lemmas.Bool.{or_parts, le-ltb, both_ways, or_cases}
use Rattle.zr_kinds.specs.CopyingReceiver.{lead, accepts}
use Rattle.tcp_reorder.specs.{declared.places.Span.{Span}, Queue.{Kept, Queue, is_kept, end_of, next_of, with_kept, IsSound}, Gaps.{origin, kept_at, LosesFirst}}
use Rattle.tcp_reorder.{specs.Entering.{CameBy, nothing, took, popped, StaysAccepted}, proofs.Positions.{EndWithin-with_kept}}
use Rattle.tcp_reorder.proofs.{Least.{has-next, has-before, next_of-popped, next_of-with_kept, next_of-within}, Judging.{judged_alike, parts_accepted}}
use Rattle.tcp_reorder.proofs.{Sound.{IsAt, MayBeKept, behind-next, taken_is_at, popped_is_at}, Taking.{may_be_kept}, Gapping.{wanted_behind}}

module _ {H : Type 0} where
  pub sound-taken : (queue : Queue H) (one : Kept H) → IsSound queue → MayBeKept queue one → IsSound (record queue { kept = with_kept queue.kept one })
  sound-taken queue one sound may =
      let later : Queue H = record queue { kept = with_kept queue.kept one } in
      let low : queue.popped ≤ next_of queue = next_of-popped queue in
      let is_at : IsAt later (next_of later) = taken_is_at queue one (next_of later) sound may (next_of-with_kept queue one)
      (λ p from until. ⊎_elim (λ early. absurd (both_ways _ (le-ltb p queue.popped (omega arith)) early)) (λ kept. kept)
      (or_cases (nat_lt p queue.popped) (is_kept later.kept p) (has-before later p until)))
      (free later) in
      is_at.sound
    where
      free : (q : Queue H) → is_kept q.kept (next_of q) ≡ false
      free q = (or_parts (nat_lt (next_of q) q.popped) (is_kept q.kept (next_of q)) (has-next q)).1

  -- a piece of an accepted frame was taken
  pub record IsStill (was now : Queue H) (seq total : ℕ) : Type 0 where
    pub accepted : accepts now.base (next_of now) seq total ≡ true
    pub same_origin : origin now seq ≡ origin was seq

  pub own-take : (queue : Queue H) (one : Kept H) (seq total : ℕ) → IsSound queue → MayBeKept queue one
      → accepts queue.base (next_of queue) seq total ≡ true
      → total ≤ 2 ^ 30 → end_of one + 2 ^ 31 ≤ origin queue seq + total → IsStill queue (record queue { kept = with_kept queue.kept one }) seq total
  own-take queue one seq total sound may accepted small within =
      let n : ℕ = next_of queue in
      let later : Queue H = record queue { kept = with_kept queue.kept one } in
      let behind : n ≤ one.position = behind-next queue one may in
      let some : 0 < one.len = may.some in
      let low : queue.popped ≤ n = next_of-popped queue in
      let rises : n ≤ next_of later = next_of-with_kept queue one in
      let near : next_of later ≤ n + 2 ^ 30 =
      next_of-within later (n + 2 ^ 30) (omega arith) (EndWithin-with_kept (n + 2 ^ 30) queue.kept one sound.in_window may.near) in
      let alike = judged_alike queue.base n (next_of later) seq total small accepted (omega arith) rises near in
      record { accepted = alike.0; same_origin = alike.1 }

  queue-is : (queue : Queue H) (one : Queue H) → queue.base ≡ one.base → queue.popped ≡ one.popped → queue.kept ≡ one.kept → queue ≡ one
  queue-is queue one base front kept =
      ap (λ b. record queue { base = b }) base ∙ ap (λ p. record queue { base = one.base; popped = p }) front ∙ ap (λ k. record one { kept = k }) kept

  -- the piece that is next in the stream was popped
  pub own-pop : (old new : Queue H) (piece : H) (span : Span) → IsSound old → LosesFirst old new piece span → span.position ≡ old.popped
      → IsAt new (next_of old)
  own-pop old new piece span sound loses begins =
      let is : new ≡ record { base = old.base; popped = span.position + span.len; kept = new.kept } =
      queue-is new (record { base = old.base; popped = span.position + span.len; kept = new.kept }) loses.base loses.popped refl in
      subst (λ q. IsAt q (next_of old)) (sym is) (popped_is_at old (kept_at span piece) new.kept sound loses.first begins)

  record IsSoundStill (was now : Queue H) (seq total : ℕ) : Type 0 where
    sound : IsSound now
    still : IsStill was now seq total

  came-still : (seq total : ℕ) (was : Queue H) → IsSound was → accepts was.base (next_of was) seq total ≡ true → total ≤ 2 ^ 30 → {now : Queue H}
      → CameBy seq total was now → IsSoundStill was now seq total
  came-still seq total was sound accepted small nothing = record { sound = sound; still = record { accepted = accepted; same_origin = refl } }
  came-still seq total was sound accepted small (took {now} came skip len piece some within wanted) =
      let before = came-still seq total was sound accepted small came in
      let from : ℕ = (seq + skip) % 2 ^ 32 in
      let one : Kept H = record { position = origin now from - 2 ^ 31; len = len; piece = piece } in
      let part = parts_accepted now.base (next_of now) seq total skip len before.still.accepted within in
      let may : MayBeKept now one = may_be_kept now from one (record { position = refl; near = part.0; some = some; small = omega arith; wanted = wanted }) in
      let behind = wanted_behind now from (wanted 0 some) in
      let after = own-take now one seq total before.sound may before.still.accepted small (omega (arith, part.1, behind.0, within)) in
      record {
        sound = sound-taken now one before.sound may;
        still = record { accepted = after.accepted; same_origin = after.same_origin ∙ before.still.same_origin };
      }
  came-still seq total was sound accepted small (popped {old} {new} came piece span loses begins) =
      let before = came-still seq total was sound accepted small came in
      let is_at = own-pop old new piece span before.sound loses begins in
      record {
        sound = is_at.sound;
        still = record {
          accepted = ap (λ b. accepts b (next_of new) seq total) loses.base ∙ ap (λ n. accepts old.base n seq total) (sym is_at.next)
              ∙ before.still.accepted;
          same_origin = ap (λ b. next_of new + lead b (next_of new) seq) loses.base ∙ ap (λ n. n + lead old.base n seq) (sym is_at.next)
              ∙ before.still.same_origin;
        };
      }

pub stays_accepted : (H : Type 0) → StaysAccepted H
stays_accepted H seq total was now sound accepted small came = let is = came-still seq total was sound accepted small came in
    (is.still.accepted, is.still.same_origin)
