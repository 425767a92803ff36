-- A gap of a frame meets the conditions of `take`, at its own sequence number.
use Rattle.std.proofs.Common.{◌≡◌, ℕ, ◌+◌, ◌-◌, ◌%◌, ◌^◌, ◌<◌, ◌≤◌, nat_le, not, true, ◌&&◌, ap, ◌∙◌, arith}
use Rattle.zr_kinds.specs.CopyingReceiver.{accepts}
use Rattle.tcp_reorder.{specs.{declared.places.Gap.{Gap}, Queue.{Queue, has, next_of}, Gaps.{origin, wants, IsFirstGap}}, proofs.Judging.{parts_accepted}}

module _ {H : Type 0} (queue : Queue H) (seq len : ℕ) (near : accepts queue.base (next_of queue) seq len ≡ true) where
  -- a part of the frame begins at its place
  pub origin-part : (skip part : ℕ) → skip + part ≤ len → origin queue ((seq + skip) % 2 ^ 32) ≡ origin queue seq + skip
  origin-part skip part fits =
      let same = parts_accepted queue.base (next_of queue) seq len skip part near fits in
      omega (arith, same.1)

  pub wants-part : (skip part place : ℕ) → skip + part ≤ len → wants queue ((seq + skip) % 2 ^ 32) place ≡ wants queue seq (skip + place)
  wants-part skip part place fits =
      let same : origin queue ((seq + skip) % 2 ^ 32) + place ≡ origin queue seq + (skip + place) = omega (arith, origin-part skip part fits) in
      ap (λ position. nat_le (2 ^ 31) position && not (has queue (position - 2 ^ 31))) same

  -- what `take` asks of a gap
  pub record MayBeTaken (gap : Gap) : Type 0 where
    pub accepted : accepts queue.base (next_of queue) ((seq + gap.skip) % 2 ^ 32) gap.len ≡ true
    pub some : 0 < gap.len
    pub wanted : (place : ℕ) → place < gap.len → wants queue ((seq + gap.skip) % 2 ^ 32) place ≡ true

  pub may_be_taken : (gap : Gap) → IsFirstGap queue seq len gap → MayBeTaken gap
  may_be_taken gap first =
      let fits : gap.skip + gap.len ≤ len = first.within in
      record {
        accepted = (parts_accepted queue.base (next_of queue) seq len gap.skip gap.len near fits).0;
        some = first.some;
        wanted = λ place below. wants-part gap.skip gap.len place fits ∙ first.wanted (gap.skip + place) (omega arith) (omega arith);
      }
