-- The first missing position.
use Rattle.std.proofs.Common.{◌≡◌, ℕ, ◌<◌, ◌≤◌, nat_lt, Bool, true, false, None, IsSome, is_some, refl, ap, ◌∙◌, ⊎_elim, arith}
use Rattle.std.proofs.lemmas.Bool.{or_from, or_left, or_right, or_cases, or_parts, le-ltb, ltb-false, cases_lt, cases_order, both_ways}
use Rattle.zr_kinds.{specs.ReceiverLaws.{IsLeastMissing}, proofs.LeastMissing.{next_missing-least}}
use Rattle.tcp_reorder.specs.Queue.{Kept, Queue, covers, is_kept, present, has, top_of, positions_of, next_of, with_kept, EndWithin}
use Rattle.tcp_reorder.proofs.Positions.{top_of-above, is_kept-past, is_kept-behind, is_kept-with_kept}

there_if : (b : Bool) → IsSome (present b) → b ≡ true
there_if true there = refl
there_if false there = cc

missing_if : (b : Bool) → present b ≡ None → b ≡ false
missing_if true missing = cc
missing_if false missing = refl

pub is_some-present : (b : Bool) → is_some (present b) ≡ b
is_some-present true = refl
is_some-present false = refl

module _ {H : Type 0} (queue : Queue H) where
  pub has-past : (p : ℕ) → top_of queue.popped queue.kept ≤ p → has queue p ≡ false
  has-past p past =
      let above : queue.popped ≤ top_of queue.popped queue.kept = top_of-above queue.popped queue.kept in
      or_from _ _ (le-ltb p queue.popped (omega arith)) (is_kept-past queue.popped queue.kept p past)

  positions-past : (p : ℕ) → top_of queue.popped queue.kept ≤ p → (positions_of queue).at p ≡ None
  positions-past p past = ap present (has-past p past)

  pub next_of-least : IsLeastMissing (positions_of queue) (next_of queue)
  next_of-least = next_missing-least (positions_of queue) (record { past = positions-past })

  -- everything before the first missing position is there, and it isn't
  pub has-next : has queue (next_of queue) ≡ false
  has-next = missing_if (has queue (next_of queue)) next_of-least.missing

  pub has-before : (p : ℕ) → p < next_of queue → has queue p ≡ true
  has-before p below = there_if (has queue p) (next_of-least.before p below)

  pub next_of-is : (n : ℕ) → has queue n ≡ false → ((p : ℕ) → p < n → has queue p ≡ true) → next_of queue ≡ n
  next_of-is n missing before = ⊎_elim
      (λ equal. equal)
      (λ unequal. ⊎_elim
      (λ (below : next_of queue < n). absurd (both_ways _ has-next (before (next_of queue) below)))
      (λ (above : n < next_of queue). absurd (both_ways _ missing (has-before n above)))
      unequal)
      (cases_order (next_of queue) n)

  pub next_of-popped : queue.popped ≤ next_of queue
  next_of-popped = ltb-false _ _ (or_parts _ _ has-next).0

  pub next_of-within : (limit : ℕ) → queue.popped ≤ limit → EndWithin limit queue.kept → next_of queue ≤ limit
  next_of-within limit popped within = ⊎_elim
      (λ (above : limit < next_of queue). absurd
      (both_ways _ (or_from _ _ (le-ltb limit queue.popped popped) (is_kept-behind limit queue.kept limit within (omega arith))) (has-before limit above)))
      (λ below. below)
      (cases_lt limit (next_of queue))

  pub has-with_kept : (one : Kept H) (p : ℕ) → has queue p ≡ true → has (record queue { kept = with_kept queue.kept one }) p ≡ true
  has-with_kept one p there = ⊎_elim
      (λ popped. or_left (nat_lt p queue.popped) (is_kept (with_kept queue.kept one) p) popped)
      (λ kept. or_right (nat_lt p queue.popped) (is_kept (with_kept queue.kept one) p)
      (is_kept-with_kept queue.kept one p ∙ or_right (covers one p) (is_kept queue.kept p) kept))
      (or_cases (nat_lt p queue.popped) (is_kept queue.kept p) there)

pub next_of-with_kept : {H : Type 0} (queue : Queue H) (one : Kept H) → next_of queue ≤ next_of (record queue { kept = with_kept queue.kept one })
next_of-with_kept queue one =
    let more : Queue _ = record queue { kept = with_kept queue.kept one } in
    ⊎_elim
    (λ (below : next_of more < next_of queue). absurd
    (both_ways _ (has-next more) (has-with_kept queue one (next_of more) (has-before queue (next_of more) below))))
    (λ above. above)
    (cases_lt (next_of more) (next_of queue))
