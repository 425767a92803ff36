-- Whether the card has ended, what it has seen, what it dealt with, and what it has in hand, are all that changes, and by that no more was
-- ended than before.
use Rattle.std.proofs.Common.{◌≡◌, ℕ, ◌+◌, ◌-◌, ◌≤◌, List, length, drop, get_or, refl, ap, sym, ◌∙◌, arith, subst}
use Rattle.std.{specs.Prelude.{◌==◌, if◌then◌else◌, Some, Contains, All}, proofs.lemmas.List.Elements.{All-contains}}
use Rattle.board_face.specs.{AppEvents.{reserve_of}, Holders.{ended_in, returning_count, returned_in, owed_in}, Counts.{pool_count, user_count, EndedWereReturned}}
use Rattle.board_face.specs.{Judged.{IsHonouredAsNamed}, Returns.{AreReturns}, Sides.{IsApp}, declared.views.{parts.Setting.{Setting}, nic.EntryInHand.{EntryInHand}}}
use Rattle.board_face.{specs.declared.views.{nic.NicSide.{NicSide}, app.AppSide.{AppSide}}, proofs.Tallies.{total-agree}}
use Rattle.board_face.proofs.Parts.{user_part, user_count-parts, pool_count-parts, app_count, owed_count, returning_in_count, loans_in, came_back_in}
use Rattle.board_face.proofs.{ArePlacedLemmas.{ArePlaced-stretch}, MadeLastLemmas.{IsMadeLast-stretch}, IsFilledByOneLemmas.{IsFilledByOne-fewer}}
use Rattle.ref_words.specs.{Words.{Words, listed_bit}, Sides.{SidesRule, IsInHand, IsDealtInOrder}, Rule.{RefRule}}
use Rattle.ref_words.proofs.{CardSteps.{IsScrubbedSoFar-owed, HasNoneOwed-owed}, RingSteps.{AllRings}, SlotSteps.{DifferInSlots, RefRule-slot}, Frees.{AreKept-card}}
use Rattle.ref_words.proofs.LineLemmas.{AreByLine-stretch}

-- the card's side with no other change
abbrev pub like-of : NicSide → NicSide → NicSide
like-of nic now = record {
  view = record nic.view { ended = now.view.ended; gone = now.view.gone; looks = now.view.looks; dealt = now.view.dealt };
  inside = record nic.inside { entry = now.inside.entry; note_slots = now.inside.note_slots; refill_slots = now.inside.refill_slots };
}

module _ (setting : Setting) (words : Words) (nic : NicSide) (apps : List AppSide) (rule : RefRule setting words nic apps) (now : NicSide)
    (same : now ≡ like-of nic now)
    (notes : length now.inside.note_slots ≡ length nic.inside.note_slots)
    (refills : length now.inside.refill_slots ≡ length nic.inside.refill_slots)
    (ends : (c : ℕ) (x : AppSide) → ended_in c (like-of nic now) x ≡ ended_in c nic x)
    (returns-same : (c : ℕ) (x : AppSide) → returning_count c (like-of nic now) x ≡ returning_count c nic x) where
  abbrev like : NicSide
  like = like-of nic now

  pools : (c : ℕ) → pool_count c like apps ≡ pool_count c nic apps
  pools c =
      let each : (x : AppSide) → app_count c like x ≡ app_count c nic x = λ x.
      let p : owed_count c like x ≡ owed_count c nic x = omega (arith, ends c x) in
      let q : returning_in_count c like x ≡ returning_in_count c nic x = omega (arith, ends c x, returns-same c x) in
      omega (arith, p, q) in
      omega (arith, pool_count-parts c like apps, pool_count-parts c nic apps, total-agree (app_count c like) (app_count c nic) each apps)

  users : (x c : ℕ) → user_count x c like apps ≡ user_count x c nic apps
  users x c =
      let each : (y : AppSide) → user_part x c like y ≡ user_part x c nic y = λ y.
      ap (λ h. if y.view.app == x then loans_in c y + (came_back_in c y - h) else 0) (ends c y) in
      omega (arith, user_count-parts x c like apps, user_count-parts x c nic apps, total-agree (user_part x c like) (user_part x c nic) each apps)

  owed : (x : AppSide) (c : ℕ) → length (owed_in c like x) ≤ length (owed_in c nic x)
  owed x c = omega (arith, ap (λ h. length (drop h (returned_in c x))) (ends c x))

  small : (c : ℕ) (x : AppSide) → Contains apps x → returning_count c nic x ≤ ended_in c nic x
  small c x has = (All-contains (EndedWereReturned c nic) apps x (rule.sides.returned c) has).returning

  small-now : (c : ℕ) (x : AppSide) → Contains apps x → returning_count c like x ≤ ended_in c like x
  small-now c x has = omega (arith, small c x has, ends c x, returns-same c x)

  later : (c : ℕ) (x : AppSide) → Contains apps x → ended_in c nic x + returning_count c like x ≤ ended_in c like x + returning_count c nic x
  later c x has = omega (arith, ends c x, returns-same c x)

  sides-like : ((k : ℕ) (x : AppSide) → IsApp apps k x → AreReturns like x) → ((k : ℕ) (x : AppSide) → IsApp apps k x → IsDealtInOrder like x)
      → All (IsHonouredAsNamed setting.layout) now.view.dealt
      → ((it : EntryInHand) → now.inside.entry ≡ Some it → IsInHand like apps it) → SidesRule setting like apps
  sides-like returning order honoured hand = record {
    set = assumption rule.sides.set;
    lists = rule.sides.lists;
    placed = λ c. ArePlaced-stretch c nic like apps refl refl refl refl refl (small c) (small-now c) (later c) (rule.sides.placed c);
    lines = λ c. AreByLine-stretch c nic like apps refl refl refl (small c) (small-now c) (later c) (rule.sides.lines c);
    by_one = λ c. IsFilledByOne-fewer c nic like apps apps refl (omega arith) (omega arith) (omega (arith, pools c)) (rule.sides.by_one c);
    fit = assumption rule.sides.fit;
    made = IsMadeLast-stretch nic like apps refl refl refl small small-now later rule.sides.made;
    returned = λ c k d less. let r = rule.sides.returned c k d less in let x = get_or apps k d in
        record { ended = omega (arith, ends c x, r.ended); returning = omega (arith, ends c x, returns-same c x, r.returning) };
    reserves = λ k x here. record { unheld = λ free. pools (reserve_of x.view) ∙ (rule.sides.reserves k x here).unheld free };
    few = rule.sides.few;
    returns = returning;
    dealt = order;
    honoured = honoured;
    slots = record { notes = omega (arith, notes, rule.sides.slots.notes); refills = omega (arith, refills, rule.sides.slots.refills) };
    entries = rule.sides.entries;
    notes = rule.sides.notes;
    taken = λ k x here. assumption (rule.sides.taken k x here);
    proper = rule.sides.proper;
    hand = hand;
    scrub = λ k x here. IsScrubbedSoFar-owed nic like x (owed x) (rule.sides.scrub k x here);
    scrubbed = λ k x here done. HasNoneOwed-owed nic like x (owed x) (rule.sides.scrubbed k x here done);
  }

  pub RefRule-ended : (words' : Words) → DifferInSlots setting words words'
      → ((k : ℕ) (x : AppSide) → IsApp apps k x → AreReturns like x) → ((k : ℕ) (x : AppSide) → IsApp apps k x → IsDealtInOrder like x)
      → All (IsHonouredAsNamed setting.layout) now.view.dealt
      → ((it : EntryInHand) → now.inside.entry ≡ Some it → IsInHand like apps it) → AllRings setting words' like apps
      → RefRule setting words' now apps
  RefRule-ended words' differ returning order honoured hand rings =
      subst (λ x. RefRule setting words' x apps) (sym same) (RefRule-slot setting words words' nic like apps apps rule differ (record {
        sides = sides-like returning order honoured hand;
        pool = pools;
        users = users;
        free = λ c. refl;
        kept = AreKept-card (listed_bit words) nic like apps refl refl refl (λ c. omega arith) rule.kept;
        rings = rings;
      }))
