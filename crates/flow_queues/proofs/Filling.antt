-- How a piece fills in, a gap after the other: for any values and any pieces.
use Rattle.std.proofs.Common.{◌≡◌, ℕ, ◌+◌, ◌-◌, ◌%◌, ◌^◌, ◌<◌, ◌≤◌, List, length, take, drop, true, false, None, refl, sym, ap, subst, ◌∙◌, ⊎_elim}
use Rattle.std.proofs.{Common.{length-take-le, arith}, lemmas.{Bool.{cases_lt}, List.{length-drop}}}
use Rattle.zr_kinds.specs.CopyingReceiver.{Placed, lead, accepts, filled_by_values}
use Rattle.tcp_reorder.specs.{Queue.{Kept, Queue, has, next_of, end_of, with_kept, IsSound}, declared.places.Gap.{Gap}, Gaps.{origin, wants, IsFirstGap}}
use Rattle.tcp_reorder.{specs.Values.{Holds}, proofs.{Holding.{Holds-same, Holds-with_kept}, Positions.{IsFree}, Parts.{origin-part, MayBeTaken, may_be_taken}}}
use Rattle.tcp_reorder.proofs.{Sound.{MayBeKept}, Taking.{may_be_kept}, Gapping.{wanted}, Least.{has-before, next_of-popped, next_of-with_kept}}
use Rattle.tcp_reorder.proofs.{Judging.{judged_alike, parts_accepted, accepted, goes_on}, GapByGap.{IsPast, filled-past, gap-filled, all-filled}}
use Rattle.tcp_reorder.proofs.Entering.{past-unwanted}

module _ {A H : Type 0} (values : H → List A) where
  -- ---- what a queue holds

  module _ (queue : Queue H) (placed : Placed A) (payload : List A) (from : ℕ) where
    -- all of it is there that is wanted
    pub holds-all : (done : ℕ) → ((p : ℕ) → placed.top ≤ p → placed.at p ≡ None) → Holds values queue (filled_by_values placed from (take done payload))
        → done ≤ length payload → ((k : ℕ) → done ≤ k → k < length payload → IsPast (filled_by_values placed from (take done payload)) (from + k))
        → Holds values queue (filled_by_values placed from payload)
    holds-all done none holds within past =
        Holds-same values queue (filled_by_values placed from (take done payload)) (filled_by_values placed from payload) holds
        (all-filled placed payload from done within past) (filled-past placed from payload none)

    -- a gap is taken
    pub holds-gap : (done a b : ℕ) (one : Kept H) → ((p : ℕ) → placed.top ≤ p → placed.at p ≡ None)
        → Holds values queue (filled_by_values placed from (take done payload)) → IsFree queue.kept one → length (values one.piece) ≡ one.len
        → queue.popped ≤ one.position
        → one.position + 2 ^ 31 ≡ from + a → values one.piece ≡ take (b - a) (drop a payload) → done ≤ a → a ≤ b → b ≤ length payload
        → ((k : ℕ) → done ≤ k → k < a → IsPast (filled_by_values placed from (take done payload)) (from + k))
        → Holds values (record queue { kept = with_kept queue.kept one }) (filled_by_values placed from (take b payload))
    holds-gap done a b one none holds free size popped place items from_done to_b within past =
        let later : Queue H = record queue { kept = with_kept queue.kept one } in
        let so_far : Placed A = filled_by_values placed from (take done payload) in
        let taken : Holds values later (filled_by_values so_far (one.position + 2 ^ 31)
        (values one.piece)) = Holds-with_kept values queue so_far one holds free size popped in
        let there : Holds values later (filled_by_values so_far (from + a) (take (b - a) (drop a payload))) = subst
        (λ n. Holds values later (filled_by_values so_far n (take (b - a) (drop a payload)))) place
        (subst (λ v. Holds values later (filled_by_values so_far (one.position + 2 ^ 31) v)) items taken) in
        Holds-same values later (filled_by_values so_far (from + a) (take (b - a) (drop a payload))) (filled_by_values placed from (take b payload)) there
        (gap-filled placed payload from done a b from_done to_b within past) (filled-past placed from (take b payload) none)

  -- ---- a copy was taken of one gap

  -- behind the first `done` bytes of a payload, whose first byte is at `from`, everything goes on so
  pub record GoesOnFrom (queue : Queue H) (seq total done from : ℕ) : Type 0 where
    pub near : accepts queue.base (next_of queue) ((seq + done) % 2 ^ 32) (total - done) ≡ true
    pub place : origin queue ((seq + done) % 2 ^ 32) ≡ from + done

  module _ (queue : Queue H) (sound : IsSound queue) (seq total done from : ℕ) (fits : total ≤ 2 ^ 30) (before : done < total)
      (goes : GoesOnFrom queue seq total done from)
      (gap : Gap) (first : IsFirstGap queue ((seq + done) % 2 ^ 32) (total - done) gap) (one : Kept H) (one_len : one.len ≡ gap.len)
      (one_place : one.position ≡ origin queue (((seq + done) % 2 ^ 32 + gap.skip) % 2 ^ 32) - 2 ^ 31) where
    abbrev pub part : ℕ
    part = (seq + done) % 2 ^ 32

    abbrev pub later : Queue H
    later = record queue { kept = with_kept queue.kept one }

    pub gap_place : origin queue ((part + gap.skip) % 2 ^ 32) ≡ from + (done + gap.skip)
    gap_place =
        let fits_part : gap.skip + gap.len ≤ total - done = first.within in
        origin-part queue part (total - done) goes.near gap.skip gap.len fits_part ∙ (let place = goes.place in omega (arith, place))

    wanted_place : (2 ^ 31 ≤ origin queue part + gap.skip) × (next_of queue ≤ origin queue part + gap.skip - 2 ^ 31)
    wanted_place =
        let some : 0 < gap.len = first.some in
        let missing = wanted queue part gap.skip (first.wanted gap.skip (omega arith) (omega arith)) in (
          missing.0,
          ⊎_elim
              (λ (under : origin queue part + gap.skip - 2 ^ 31 < next_of queue). absurd
              (let there : has queue (origin queue part + gap.skip - 2 ^ 31)
              ≡ true = has-before queue (origin queue part + gap.skip - 2 ^ 31) under in cc))
              (λ (from_next : next_of queue ≤ origin queue part + gap.skip - 2 ^ 31). from_next)
              (cases_lt (origin queue part + gap.skip - 2 ^ 31) (next_of queue)),
        )

    pub goes-on-later : GoesOnFrom later seq total (done + gap.skip + gap.len) from
    goes-on-later =
        let n : ℕ = next_of queue in
        let ahead : ℕ = lead queue.base n part in
        let fits_part : gap.skip + gap.len ≤ total - done = first.within in
        let some : 0 < gap.len = first.some in
        let near : (ahead + (total - done) ≤ 2 ^ 30 + 2 ^ 31)
        × (n + ahead + (total - done) ≤ 2 ^ 62 + 2 ^ 31) = accepted queue.base n part (total - done) goes.near in
        let place : n + ahead ≡ from + done = goes.place in
        let is_wanted : (2 ^ 31 ≤ n + ahead + gap.skip) × (n ≤ n + ahead + gap.skip - 2 ^ 31) = wanted_place in
        let rises : n ≤ next_of later = next_of-with_kept queue one in
        let end : end_of one ≤ n + 2 ^ 30 = omega (arith, one_len, one_place, gap_place, place, near.0, fits_part) in
        let popped : queue.popped ≤ n = next_of-popped queue in
        let within : next_of later ≤ n + 2 ^ 30 = (goes_on H).within later (n + 2 ^ 30) (omega arith)
        ((goes_on H).still_within queue one (n + 2 ^ 30) sound.in_window end) in
        let alike : (accepts queue.base (next_of later) part (total - done) ≡ true) × (next_of later + lead queue.base (next_of later) part ≡ n + ahead) =
        judged_alike queue.base n (next_of later) part (total - done) (omega arith) goes.near (omega (arith, is_wanted.0, is_wanted.1)) rises within in
        let size : ℕ = gap.skip + gap.len in
        let rest : ℕ = total - (done + gap.skip + gap.len) in
        let parts : (accepts queue.base (next_of later) ((part + size) % 2 ^ 32) rest ≡ true)
        × (lead queue.base (next_of later) ((part + size) % 2 ^ 32) ≡ lead queue.base (next_of later) part + size) =
        parts_accepted queue.base (next_of later) part (total - done) size rest alike.0 (omega arith) in
        let same : (part + size) % 2 ^ 32 ≡ (seq + (done + gap.skip + gap.len)) % 2 ^ 32 = omega arith in
        record {
          near = subst (λ s. accepts queue.base (next_of later) s rest ≡ true) same parts.0;
          place = subst (λ s. next_of later + lead queue.base (next_of later) s ≡ from + (done + gap.skip + gap.len)) same
              (omega (arith, parts.1, alike.1, place));
        }

  -- what the queue holds then
  module _ (queue : Queue H) (sound : IsSound queue) (seq : ℕ) (payload : List A) (done from : ℕ) (fits : length payload ≤ 2 ^ 30)
      (before : done < length payload) (goes : GoesOnFrom queue seq (length payload) done from)
      (gap : Gap) (first : IsFirstGap queue ((seq + done) % 2 ^ 32) (length payload - done) gap) (copy : H)
      (items : values copy ≡ take gap.len (drop (done + gap.skip) payload)) where
    abbrev pub copied : Kept H
    copied = record { position = origin queue (((seq + done) % 2 ^ 32 + gap.skip) % 2 ^ 32) - 2 ^ 31; len = gap.len; piece = copy }

    may : MayBeKept queue copied
    may =
        let within : gap.skip + gap.len ≤ length payload - done = first.within in
        let taken : MayBeTaken queue ((seq + done) % 2 ^ 32) (length payload - done) goes.near gap = may_be_taken queue ((seq + done) % 2 ^ 32)
        (length payload - done) goes.near gap first in
        may_be_kept queue (((seq + done) % 2 ^ 32 + gap.skip) % 2 ^ 32) copied
        (record { position = refl; near = taken.accepted; some = taken.some; small = omega arith; wanted = taken.wanted })

    pub copy-goes-on : GoesOnFrom (record queue { kept = with_kept queue.kept copied }) seq (length payload) (done + gap.skip + gap.len) from
    copy-goes-on = goes-on-later queue sound seq (length payload) done from fits before goes gap first copied refl refl

    pub copy-held : (placed : Placed A) → ((p : ℕ) → placed.top ≤ p → placed.at p ≡ None)
        → Holds values queue (filled_by_values placed from (take done payload))
        → Holds values (record queue { kept = with_kept queue.kept copied }) (filled_by_values placed from (take (done + gap.skip + gap.len) payload))
    unfolding may
    copy-held placed none holds =
        let within : gap.skip + gap.len ≤ length payload - done = first.within in
        let some : 0 < gap.len = first.some in
        let place_is : origin queue (((seq + done) % 2 ^ 32 + gap.skip) % 2 ^ 32)
        ≡ from + (done + gap.skip) = gap_place queue sound seq (length payload) done from fits before goes gap first copied refl refl in
        let behind : 2 ^ 31 ≤ from + (done + gap.skip) = (let missing = wanted queue ((seq + done) % 2 ^ 32) gap.skip
        (first.wanted gap.skip (omega arith) (omega arith)) in omega (arith, missing.0, goes.place)) in
        let place : copied.position + 2 ^ 31 ≡ from + (done + gap.skip) = omega (arith, place_is, behind) in
        let long : gap.len ≤ length (drop (done + gap.skip) payload) =
        (let left : length (drop (done + gap.skip) payload)
        ≡ length payload - (done + gap.skip) = length-drop (done + gap.skip) payload in omega arith) in
        let size : length (values copy) ≡ gap.len = ap length items ∙ length-take-le gap.len (drop (done + gap.skip) payload) long in
        let part_is : done + gap.skip + gap.len - (done + gap.skip) ≡ gap.len = omega arith in
        holds-gap queue placed payload from done (done + gap.skip) (done + gap.skip + gap.len) copied none holds may.free size may.from place
        (items ∙ ap (λ n. take n (drop (done + gap.skip) payload)) (sym part_is)) (omega arith) (omega arith) (omega arith)
        (λ k above until.
        let here : origin queue ((seq + done) % 2 ^ 32) + (k - done) ≡ from + k = omega (arith, goes.place) in
        let unwanted : wants queue ((seq + done) % 2 ^ 32) (k - done) ≡ false = first.before (k - done) (omega arith) in
        subst (λ n. IsPast (filled_by_values placed from (take done payload)) n) here
        (past-unwanted values queue (filled_by_values placed from (take done payload)) ((seq + done) % 2 ^ 32) (k - done) holds unwanted))
