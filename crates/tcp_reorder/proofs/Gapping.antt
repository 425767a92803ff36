-- Which bytes of a frame are wanted.
use Rattle.std.proofs.Common.{◌≡◌, ℕ, ◌+◌, ◌-◌, ◌^◌, ◌<◌, ◌≤◌, nat_lt, max, min, true, false, sym, ap, ◌∙◌, ⊎_elim, arith}
use Rattle.std.proofs.lemmas.Bool.{and_from, and_left, and_right, and_parts, or_from, or_right, or_parts, not-true, not_from_true, not_from_false, le-leb}
use Rattle.std.proofs.lemmas.Bool.{lt-leb, leb-true, le-ltb, ltb-false, cases_lt}
use Rattle.zr_kinds.specs.CopyingReceiver.{lead}
use Rattle.tcp_reorder.{specs.{Queue.{Kept, Queue, is_kept, has, next_of}, Gaps.{origin, wants, IsFirstGap}}, proofs.Positions.{IsFree}}
use Rattle.tcp_reorder.proofs.Least.{has-before, next_of-popped}

module _ {H : Type 0} (queue : Queue H) (seq : ℕ) where
  pub wanted : (place : ℕ) → wants queue seq place ≡ true → (2 ^ 31 ≤ origin queue seq + place)
      × (has queue (origin queue seq + place - 2 ^ 31) ≡ false)
  wanted place wants_it = let parts = and_parts _ _ wants_it in (leb-true _ _ parts.0, not-true _ parts.1)

  pub wants-true : (place : ℕ) → 2 ^ 31 ≤ origin queue seq + place → has queue (origin queue seq + place - 2 ^ 31) ≡ false
      → wants queue seq place ≡ true
  wants-true place within missing = and_from _ _ (le-leb _ _ within) (not_from_false _ missing)

  pub wants-before : (place : ℕ) → origin queue seq + place < 2 ^ 31 → wants queue seq place ≡ false
  wants-before place before = and_left _ _ (lt-leb _ _ before)

  pub wants-there : (place : ℕ) → has queue (origin queue seq + place - 2 ^ 31) ≡ true → wants queue seq place ≡ false
  wants-there place there = and_right _ _ (not_from_true _ there)

  -- everything up to `start` is there
  pub record IsThereUntil (start : ℕ) : Type 0 where
    pub above : next_of queue ≤ start
    pub reaches : origin queue seq ≤ start + 2 ^ 31
    pub kept : (p : ℕ) → origin queue seq - 2 ^ 31 ≤ p → next_of queue ≤ p → p < start → is_kept queue.kept p ≡ true

  pub there_until : (next first from start : ℕ) → next ≡ next_of queue → first ≡ origin queue seq → from ≡ max (first - 2 ^ 31) next
      → from ≤ start → ((p : ℕ) → from ≤ p → p < start → is_kept queue.kept p ≡ true) → IsThereUntil start
  there_until next first from start next_is first_is from_is above kept = record {
    above = omega arith;
    reaches = omega arith;
    kept = λ p behind after until. kept p (omega arith) until;
  }

  pub origin-is : (next ahead : ℕ) → next ≡ next_of queue → ahead ≡ lead queue.base next seq → next + ahead ≡ origin queue seq
  origin-is next ahead next_is ahead_is = ap (λ a. next + a) ahead_is ∙ ap (λ n. n + lead queue.base n seq) next_is

  pub unwanted_until : (start place : ℕ) → IsThereUntil start → origin queue seq + place < start + 2 ^ 31 → wants queue seq place ≡ false
  unwanted_until start place there before = ⊎_elim
      (λ (early : origin queue seq + place < 2 ^ 31). wants-before place early)
      (λ (within : 2 ^ 31 ≤ origin queue seq + place). wants-there place (⊎_elim
      (λ below. has-before queue (origin queue seq + place - 2 ^ 31) below)
      (λ from. or_right (nat_lt (origin queue seq + place - 2 ^ 31) queue.popped) (is_kept queue.kept (origin queue seq + place - 2 ^ 31))
      (there.kept (origin queue seq + place - 2 ^ 31) (omega arith) from (omega arith)))
      (cases_lt (origin queue seq + place - 2 ^ 31) (next_of queue))))
      (cases_lt (origin queue seq + place) (2 ^ 31))

  -- from `start` on nothing is there, up to `end`
  pub record IsMissingUntil (start end limit : ℕ) : Type 0 where
    pub some : start < end
    pub within : end ≤ limit
    pub free : (p : ℕ) → start ≤ p → p < end → is_kept queue.kept p ≡ false
    pub stops : end < limit → is_kept queue.kept end ≡ true

  pub missing_to_next : (start limit : ℕ) (next : ℕ) → start < limit → start < next → is_kept queue.kept next ≡ true
      → ((p : ℕ) → start ≤ p → p < next → is_kept queue.kept p ≡ false) → IsMissingUntil start (min next limit) limit
  missing_to_next start limit next some above there free = record {
    some = omega arith;
    within = omega arith;
    free = λ p from until. free p from (omega arith);
    stops = λ early. let same : min next limit ≡ next = omega arith in ap (is_kept queue.kept) same ∙ there;
  }

  pub missing_to_limit : (start limit : ℕ) → start < limit → ((p : ℕ) → start ≤ p → is_kept queue.kept p ≡ false)
      → IsMissingUntil start limit limit
  missing_to_limit start limit some free = record {
    some = some;
    within = omega arith;
    free = λ p from until. free p from;
    stops = λ early. absurd (omega arith);
  }

  pub first_gap : (len start end limit : ℕ) → limit ≡ origin queue seq + len - 2 ^ 31 → IsThereUntil start → IsMissingUntil start end limit
      → IsFirstGap queue seq len (record { skip = start + 2 ^ 31 - origin queue seq; len = end - start })
  first_gap len start end limit is there missing =
      let reaches : origin queue seq ≤ start + 2 ^ 31 = there.reaches in
      let above : next_of queue ≤ start = there.above in
      let some : start < end = missing.some in
      let within : end ≤ limit = missing.within in
      let popped : queue.popped ≤ next_of queue = next_of-popped queue in
      record {
        some = omega arith;
        within = omega arith;
        before = λ place early. unwanted_until start place there (omega arith);
        wanted = λ place from until. wants-true place (omega arith)
            (or_from (nat_lt (origin queue seq + place - 2 ^ 31) queue.popped) (is_kept queue.kept (origin queue seq + place - 2 ^ 31))
            (le-ltb (origin queue seq + place - 2 ^ 31) queue.popped (omega arith))
            (missing.free (origin queue seq + place - 2 ^ 31) (omega arith) (omega arith)));
        whole = λ more.
            let same : origin queue seq + (start + 2 ^ 31 - origin queue seq + (end - start)) - 2 ^ 31 ≡ end = omega arith in
            wants-there (start + 2 ^ 31 - origin queue seq + (end - start))
            (or_right (nat_lt (origin queue seq + (start + 2 ^ 31 - origin queue seq + (end - start)) - 2 ^ 31) queue.popped)
            (is_kept queue.kept (origin queue seq + (start + 2 ^ 31 - origin queue seq + (end - start)) - 2 ^ 31))
            (ap (is_kept queue.kept) same ∙ missing.stops (omega arith)));
      }

  -- what is wanted altogether is free
  pub wanted_free : (one : Kept H) → one.position ≡ origin queue seq - 2 ^ 31 → 2 ^ 31 ≤ origin queue seq
      → ((place : ℕ) → place < one.len → wants queue seq place ≡ true) → IsFree queue.kept one
  wanted_free one is within all = record {
    free = λ p from until.
        let there = wanted (p - one.position) (all (p - one.position) (omega arith)) in
        let same : origin queue seq + (p - one.position) - 2 ^ 31 ≡ p = omega arith in
        (or_parts (nat_lt p queue.popped) (is_kept queue.kept p) (ap (has queue) (sym same) ∙ there.1)).1;
  }

  pub wanted_behind : wants queue seq 0 ≡ true → (2 ^ 31 ≤ origin queue seq) × (queue.popped ≤ origin queue seq - 2 ^ 31)
      × (is_kept queue.kept (origin queue seq - 2 ^ 31) ≡ false)
  wanted_behind first =
      let there = wanted 0 first in
      let same : origin queue seq + 0 - 2 ^ 31 ≡ origin queue seq - 2 ^ 31 = omega arith in
      let parts = or_parts (nat_lt (origin queue seq - 2 ^ 31) queue.popped) (is_kept queue.kept (origin queue seq - 2 ^ 31))
      (ap (has queue) (sym same) ∙ there.1) in
      (omega arith, ltb-false _ _ parts.0, parts.1)
