-- How the values of a part of a frame enter a queue, gap after gap.
use Rattle.std.proofs.Common.{◌≡◌, ℕ, ◌+◌, ◌-◌, ◌%◌, ◌^◌, ◌<◌, ◌≤◌, List, length, take, drop, nat_le, not, true, false, ◌&&◌, refl, sym, ap, subst, ◌∙◌}
use Rattle.std.proofs.{Common.{⊎_elim, inl, inr, length-take-le, add-zero, arith}, lemmas.{Bool.{cases_lt, le-leb, not-false}, List.{length-drop}}}
use Rattle.zr_kinds.specs.CopyingReceiver.{Placed, next_missing, lead, accepts, first_of, filled_by_values, received, received_part}
use Rattle.zr_kinds.proofs.InOrder.{first_of-nothing}
use Rattle.tcp_reorder.specs.{declared.places.Gap.{Gap}, Queue.{Kept, Queue, has, next_of, with_kept, IsSound}, Gaps.{origin, wants, IsFirstGap, AreUnwanted}}
use Rattle.tcp_reorder.specs.{Values.{Holds}, Entering.{HasEntered, HoldsWhatCame}}
use Rattle.tcp_reorder.proofs.Holding.{brought-before, brought-past, Holds-nothing, Holds-same, Holds-with_kept, Holds-popped, is_some-held, next_missing-held}
use Rattle.tcp_reorder.proofs.{Parts.{origin-part, may_be_taken}, Sound.{MayBeKept}, Taking.{may_be_kept}, Gapping.{wanted_behind}, Judging.{parts_accepted}}
use Rattle.tcp_reorder.proofs.{GapByGap.{IsPast, filled-past, gap-filled, all-filled}, OwnFrame.{IsStill, own-take}}

-- a whole frame is a part of itself
pub received-whole : {A : Type 0} (base : ℕ) (placed : Placed A) (seq : ℕ) (part : List A)
    → received_part base placed seq (length part) 0 part ≡ received base placed seq part
unfolding received received_part
received-whole base placed seq part = rw (add-zero (next_missing placed + lead base (next_missing placed) seq)) refl

module _ {A H : Type 0} (values : H → List A) where
  -- ---- by what the queue answers of a frame

  module _ (queue : Queue H) (placed : Placed A) (seq total at : ℕ) (part : List A) (holds : Holds values queue placed) where
    -- it is received where the queue accepts it
    pub received-accepted : accepts queue.base (next_of queue) seq total ≡ true
        → received_part queue.base placed seq total at part ≡ filled_by_values placed (origin queue seq + at) part
    unfolding received_part
    received-accepted agreed =
        let next : next_missing placed ≡ next_of queue = next_missing-held values queue placed holds in
        let test : accepts queue.base (next_missing placed) seq total ≡ true = ap (λ n. accepts queue.base n seq total) next ∙ agreed in
        rw test (ap (λ n. filled_by_values placed (n + lead queue.base n seq + at) part) next)

    pub received-refused : accepts queue.base (next_of queue) seq total ≡ false → received_part queue.base placed seq total at part ≡ placed
    unfolding received_part
    received-refused refused =
        let next : next_missing placed ≡ next_of queue = next_missing-held values queue placed holds in
        let test : accepts queue.base (next_missing placed) seq total ≡ false = ap (λ n. accepts queue.base n seq total) next ∙ refused in
        rw test refl

  -- what isn't wanted is past
  pub past-unwanted : (queue : Queue H) (placed : Placed A) (seq k : ℕ) → Holds values queue placed → wants queue seq k ≡ false
      → IsPast placed (origin queue seq + k)
  past-unwanted queue placed seq k holds unwanted = ⊎_elim
      (λ (low : origin queue seq + k < 2 ^ 31). inl low)
      (λ (from : 2 ^ 31 ≤ origin queue seq + k).
      let position : ℕ = origin queue seq + k - 2 ^ 31 in
      let test : nat_le (2 ^ 31) (origin queue seq + k) ≡ true = le-leb (2 ^ 31) (origin queue seq + k) from in
      let opened : (nat_le (2 ^ 31) (origin queue seq + k) && not (has queue position)) ≡ false = unwanted in
      let there : not (has queue position) ≡ false = (rw test at opened) in
      inr (is_some-held values queue placed holds position ∙ not-false (has queue position) there))
      (cases_lt (origin queue seq + k) (2 ^ 31))

  -- ---- nothing of the part is there yet

  pub holds-none : (queue : Queue H) (placed : Placed A) (part : List A) (from : ℕ) → Holds values queue placed
      → Holds values queue (filled_by_values placed from (take 0 part))
  holds-none queue placed part from holds =
      Holds-same values queue placed (filled_by_values placed from (take 0 part)) holds
      (λ p. ap (first_of (placed.at p))
      (⊎_elim (brought-before (take 0 part) from p) (λ (above : from ≤ p + 2 ^ 31). brought-past (take 0 part) from p (omega arith))
      (cases_lt (p + 2 ^ 31) from))
      ∙ first_of-nothing (placed.at p))
      (filled-past placed from (take 0 part) holds.past)

  entered-none : (queue : Queue H) (seq total at : ℕ) (part : List A) → accepts queue.base (next_of queue) seq total ≡ true → total ≤ 2 ^ 30
      → at + length part ≤ total
      → HasEntered values queue queue seq total at part 0
  entered-none queue seq total at part accepted small within = record {
    small = small;
    within = within;
    some = omega arith;
    accepted = accepted;
    still_accepted = accepted;
    same_origin = refl;
    same_base = refl;
    same_popped = refl;
    holds = λ placed holds. subst (Holds values queue) (sym (received-accepted queue placed seq total at (take 0 part) holds accepted))
        (holds-none queue placed part (origin queue seq + at) holds);
  }

  -- ---- the rest of the part

  module _ (was now : Queue H) (seq total at : ℕ) (part : List A) (done from : ℕ) (entered : HasEntered values was now seq total at part done)
      (from_is : from ≡ (seq + (at + done)) % 2 ^ 32) where
    record IsRest : Type 0 where
      accepted : accepts now.base (next_of now) from (length part - done) ≡ true
      origin_is : origin now from ≡ origin was seq + at + done

    is-rest : IsRest
    is-rest =
        let within : at + length part ≤ total = entered.within in
        let some : done ≤ length part = entered.some in
        let rest = parts_accepted now.base (next_of now) seq total (at + done) (length part - done) entered.still_accepted (omega arith) in
        let same : origin now seq ≡ origin was seq = entered.same_origin in
        let here : origin now from ≡ origin now ((seq + (at + done)) % 2 ^ 32) = ap (origin now) from_is in
        record {
          accepted = subst (λ n. accepts now.base (next_of now) n (length part - done) ≡ true) (sym from_is) rest.0;
          origin_is = here ∙ omega (arith, rest.1, same);
        }

    -- the receiver has so much of it
    before-rest : (placed : Placed A) → Holds values was placed → Holds values now (filled_by_values placed (origin was seq + at) (take done part))
    before-rest placed holds =
        subst (Holds values now) (received-accepted was placed seq total at (take done part) holds entered.accepted) (entered.holds placed holds)

    -- what of the rest isn't wanted is past
    past-rest : (placed : Placed A) → Holds values was placed → (k : ℕ) → done ≤ k → wants now from (k - done) ≡ false
        → IsPast (filled_by_values placed (origin was seq + at) (take done part)) (origin was seq + at + k)
    past-rest placed holds k above unwanted =
        let place : origin now from + (k - done) ≡ origin was seq + at + k = (let is = is-rest.origin_is in omega (arith, is)) in
        subst (IsPast (filled_by_values placed (origin was seq + at) (take done part))) place
        (past-unwanted now (filled_by_values placed (origin was seq + at) (take done part)) from (k - done) (before-rest placed holds) unwanted)

    entered-all : AreUnwanted now from (length part - done) → (placed : Placed A) → Holds values was placed
        → Holds values now (received_part was.base placed seq total at part)
    entered-all unwanted placed holds =
        let some : done ≤ length part = entered.some in
        subst (Holds values now) (sym (received-accepted was placed seq total at part holds entered.accepted))
        (Holds-same values now (filled_by_values placed (origin was seq + at) (take done part)) (filled_by_values placed (origin was seq + at) part)
        (before-rest placed holds)
        (all-filled placed part (origin was seq + at) done some (λ k above until. past-rest placed holds k above (unwanted (k - done) (omega arith))))
        (filled-past placed (origin was seq + at) part holds.past))

    -- a gap is taken
    module _ (gap : Gap) (piece : H) (sound : IsSound now) (first : IsFirstGap now from (length part - done) gap)
        (values_are : values piece ≡ take gap.len (drop (done + gap.skip) part)) where
      abbrev of_gap : Kept H
      of_gap = record { position = origin now ((from + gap.skip) % 2 ^ 32) - 2 ^ 31; len = gap.len; piece = piece }

      abbrev later : Queue H
      later = record now { kept = with_kept now.kept of_gap }

      record IsGap : Type 0 where
        may : MayBeKept now of_gap
        place : of_gap.position + 2 ^ 31 ≡ origin was seq + at + (done + gap.skip)

      is-gap : IsGap
      is-gap =
          let within : gap.skip + gap.len ≤ length part - done = first.within in
          let part_within : at + length part ≤ total = entered.within in
          let small : total ≤ 2 ^ 30 = entered.small in
          let taken = may_be_taken now from (length part - done) is-rest.accepted gap first in
          let behind = wanted_behind now ((from + gap.skip) % 2 ^ 32) (taken.wanted 0 taken.some) in
          let place = origin-part now from (length part - done) is-rest.accepted gap.skip gap.len within in
          let rest = is-rest.origin_is in
          record {
            may = may_be_kept now ((from + gap.skip) % 2 ^ 32) of_gap
                (record { position = refl; near = taken.accepted; some = taken.some; small = omega arith; wanted = taken.wanted });
            place = omega (arith, behind.0, place, rest);
          }

      holds-later : (placed : Placed A) → Holds values was placed
          → Holds values later (filled_by_values placed (origin was seq + at) (take (done + gap.skip + gap.len) part))
      holds-later placed holds =
          let F : ℕ = origin was seq + at in
          let so_far : Placed A = filled_by_values placed F (take done part) in
          let b : ℕ = done + gap.skip + gap.len in
          let v : List A = take (b - (done + gap.skip)) (drop (done + gap.skip) part) in
          let within : gap.skip + gap.len ≤ length part - done = first.within in
          let some : done ≤ length part = entered.some in
          let long : gap.len ≤ length (drop (done + gap.skip) part) =
          (let left : length (drop (done + gap.skip) part) ≡ length part - (done + gap.skip) = length-drop (done + gap.skip) part in omega arith) in
          let size : length (values piece) ≡ gap.len = ap length values_are ∙ length-take-le gap.len (drop (done + gap.skip) part) long in
          let taken : Holds values later (filled_by_values so_far (of_gap.position + 2 ^ 31) (values piece)) =
          Holds-with_kept values now so_far of_gap (before-rest placed holds) is-gap.may.free size is-gap.may.from in
          let len_is : gap.len ≡ b - (done + gap.skip) = omega arith in
          let there : Holds values later (filled_by_values so_far (F + (done + gap.skip)) v) =
          subst (λ n. Holds values later (filled_by_values so_far n v)) is-gap.place
          (subst (λ vs. Holds values later (filled_by_values so_far (of_gap.position + 2 ^ 31) vs))
          (values_are ∙ ap (λ n. take n (drop (done + gap.skip) part)) len_is) taken) in
          Holds-same values later (filled_by_values so_far (F + (done + gap.skip)) v) (filled_by_values placed F (take b part)) there
          (gap-filled placed part F done (done + gap.skip) b (omega arith) (omega arith) (omega arith)
          (λ k above until. past-rest placed holds k above (first.before (k - done) (omega arith))))
          (filled-past placed F (take b part) holds.past)

      entered-gap : HasEntered values was later seq total at part (done + gap.skip + gap.len)
      entered-gap =
          let within : gap.skip + gap.len ≤ length part - done = first.within in
          let some : done ≤ length part = entered.some in
          let part_within : at + length part ≤ total = entered.within in
          let place = is-gap.place in
          let same : origin now seq ≡ origin was seq = entered.same_origin in
          let still : IsStill now later seq total =
          own-take now of_gap seq total sound is-gap.may entered.still_accepted entered.small (omega (arith, place, same)) in
          record {
            small = entered.small;
            within = entered.within;
            some = omega arith;
            accepted = entered.accepted;
            still_accepted = still.accepted;
            same_origin = still.same_origin ∙ same;
            same_base = entered.same_base;
            same_popped = entered.same_popped;
            holds = λ placed holds. subst (Holds values later)
                (sym (received-accepted was placed seq total at (take (done + gap.skip + gap.len) part) holds entered.accepted)) (holds-later placed holds);
          }

pub holds_what_came : (A H : Type 0) → HoldsWhatCame A H
unfolding is-rest
holds_what_came A H = record {
  new = λ values base. Holds-nothing values base;
  next = λ values queue placed holds. sym (next_missing-held values queue placed holds);
  refused = λ values queue placed seq total at part refused holds. subst (Holds values queue)
      (sym (received-refused values queue placed seq total at part holds refused)) holds;
  begun = λ values queue seq total at part. entered-none values queue seq total at part;
  rest = λ values was now seq total at part done from entered from_is. (is-rest values was now seq total at part done from entered from_is).accepted;
  may_be_taken = λ queue from len gap near first. let may = may_be_taken queue from len near gap first in (may.accepted, may.wanted);
  taken = λ values was now seq total at part done from gap piece sound entered from_is first values_are.
      entered-gap values was now seq total at part done from entered from_is gap piece sound first values_are;
  ended = λ values was now seq total at part done from placed entered from_is unwanted holds. entered-all values was now seq total at part done from entered
      from_is unwanted placed holds;
  whole = λ base placed seq part. received-whole base placed seq part;
  popped = λ values old new placed piece span holds loses begins. let is = Holds-popped values old new placed piece span holds loses begins in
      (is.holds, is.values_are);
}
