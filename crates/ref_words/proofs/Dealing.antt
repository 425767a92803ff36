-- The card hands a refill slot over: the entry in hand was dealt with.
use Rattle.std.proofs.Common.{◌≡◌, ⊎_elim, ℕ, zero, suc, ◌+◌, ◌<◌, ◌≤◌, true, add-one, List, [], ◌∷◌, ◌++◌, length, map, take, drop}
use Rattle.std.{proofs.Common.{get_or, refl, ap, sym, ◌∙◌, arith, subst, mod-lt}, specs.{Prelude.{◌≢◌, ◌==◌, if◌then◌else◌, filter, count_by}, List.{zip}}}
use Rattle.std.proofs.lemmas.{Bool.Decides.{eqb_tells}, List.{length-set, length_push, map-append, Elements.{All-push, All-tail, All-weaker}}}
use Rattle.zr_kinds.{specs.declared.ring.Rqe.{Rqe}, proofs.Lists.{drop-after}}
use Rattle.area_layout.specs.Layout.{Shape}
use Rattle.board_face.specs.{NicCalls.{apps_of}, Holders.{is_honoured_for, lowered_in_hand, returning_in_hand, ended_in, returning_count, returned_in, owed_in}}
use Rattle.board_face.specs.{Judged.{IsHonouredAsNamed}, Relay.{dealt_entries, IsNoLoanStray}}
use Rattle.board_face.specs.{Returns.{AreReturns, IsNamed, IsOfLoan, returns, abandoned_in, entries_on_way}, Opened.{unseen, new_app}, Sides.{IsApp}}
use Rattle.board_face.specs.{SlotSteps.{next_slot, side_dealt}, declared.views.{parts.Setting.{Setting}, nic.{Dealt.{Dealt}, Fate.{Fate}, NicSide.{NicSide}}}}
use Rattle.board_face.{specs.declared.views.app.{WrittenEntry.{WrittenEntry}, AppSide.{AppSide}}, proofs.{ListLemmas.{not-eqb}, SideLemmas.{IsApp-at}}}
use Rattle.board_face.proofs.{DealtLemmas.{length-mapped, dealt-more, dealt-same, zip-push}, Parts.{count-tally}, Tallies.{one_if, tally-push}}
use Rattle.ref_words.specs.{Words.{Words, with_refill}, Rings.{IsFreeSlot, takes_entry_at}, Sides.{IsFirst, IsDealtInOrder}, Rule.{RefRule}}
use Rattle.ref_words.proofs.{RingSteps.{AllRings}, RingMoves.{slot-here, slot-other, rings-parts}, SlotWords.{ring-here, ring-other, differ-refill}}
use Rattle.ref_words.proofs.{SlotSteps.{DifferInSlots}, CardEnds.{RefRule-ended}}
use Rattle.ref_words.proofs.Ringing as ringing

pub take-next : {A B : Type 0} (f : A → B) (n : ℕ) (xs : List A) (x : A) (rest : List A) → drop n xs ≡ x ∷ rest
    → take (suc n) (map f xs) ≡ take n (map f xs) ++ f x ∷ []
take-next f zero xs x rest e = rw e refl
take-next f (suc n) [] x rest e = absurd (let none : ⊥ = cc in none)
take-next f (suc n) (y ∷ xs) x rest e = ap (λ ys. f y ∷ ys) (take-next f n xs x rest e)

-- What is to be known: w c is how often the user count for the buffer c was lowered for the entry in hand, which is as often as it counts as
-- honoured for c; and what its application still owes.
pub record IsDealing (nic : NicSide) (apps : List AppSide) (layout : Shape) (a : ℕ) (entry : Rqe) (fate : Fate) (w : ℕ → ℕ) : Type 0 where
  pub lowered : (x c : ℕ) → lowered_in_hand x c nic.inside.entry ≡ (if a == x then w c else 0)
  pub counted : (x c : ℕ) → one_if (is_honoured_for x c (record { app = a; entry = entry; fate = fate })) ≡ (if a == x then w c else 0)
  pub returning : (x c : ℕ) → returning_in_hand x c nic.inside.entry ≡ 0
  pub first : (app : AppSide) → IsApp apps a app → IsFirst entry (entries_on_way nic app)
  pub honoured : IsHonouredAsNamed layout (record { app = a; entry = entry; fate = fate })
  -- where the first entry gives a reference back it was lowered for that, and only then, but for a raw one, behind which is none
  pub still : (app : AppSide) (here : IsApp apps a app) (c : ℕ)
      → count_by (returns app.view.setting.layout c) (first app here).others ≤ length (owed_in c nic app)
  pub rest : (app : AppSide) (here : IsApp apps a app) (c : ℕ)
      → length (owed_in c nic app) ≤ count_by (returns app.view.setting.layout c) (first app here).others + abandoned_in c app
  pub stray : (app : AppSide) (here : IsApp apps a app) → IsNoLoanStray ((first app here).first, record { app = a; entry = entry; fate = fate })

module _ (setting : Setting) (words : Words) (nic : NicSide) (apps : List AppSide) (a : ℕ) (entry : Rqe) (fate : Fate) (w : ℕ → ℕ)
    (rule : RefRule setting words nic apps) (is_app : a < apps_of setting) (dealing : IsDealing nic apps setting.layout a entry fate w)
    (saw : (next_slot nic.inside.refill_slots a).seen ≡ true) where
  abbrev now : NicSide
  now = side_dealt nic a entry fate

  abbrev d : Dealt
  d = record { app = a; entry = entry; fate = fate }

  abbrev s : ℕ
  s = takes_entry_at setting nic a

  abbrev words' : Words
  words' = with_refill words a s 0 0

  ends : (c : ℕ) (x : AppSide) → ended_in c now x ≡ ended_in c nic x
  ends c x = omega (
    arith,
    count-tally (is_honoured_for x.view.app c) (nic.view.dealt ++ d ∷ []),
    count-tally (is_honoured_for x.view.app c) nic.view.dealt,
    tally-push (is_honoured_for x.view.app c) nic.view.dealt d,
    dealing.lowered x.view.app c,
    dealing.counted x.view.app c,
  )

  returns-same : (c : ℕ) (x : AppSide) → returning_count c now x ≡ returning_count c nic x
  returns-same c x = omega (arith, dealing.returning x.view.app c)

  owed-same : (c : ℕ) (x : AppSide) → owed_in c now x ≡ owed_in c nic x
  owed-same c x = ap (λ h. drop h (returned_in c x)) (ends c x)

  -- ---- the application whose entry it is

  module _ (x : AppSide) (here : IsApp apps a x) where
    abbrev front : IsFirst entry (entries_on_way nic x)
    front = dealing.first x here

    one-more-dealt : dealt_entries a now ≡ dealt_entries a nic ++ entry ∷ []
    one-more-dealt = ap (map (λ (y : Dealt). y.entry)) (dealt-more nic now.view a d refl refl)
        ∙ map-append (λ (y : Dealt). y.entry) (filter (λ (y : Dealt). y.app == a) nic.view.dealt) (d ∷ [])

    dealt-here : dealt_entries x.view.app now ≡ dealt_entries x.view.app nic ++ entry ∷ []
    dealt-here = subst (λ k. dealt_entries k now ≡ dealt_entries k nic ++ entry ∷ []) (sym here.number) one-more-dealt

    way-then : entries_on_way now x ≡ front.others
    way-then = rw (dealt-here, length_push (dealt_entries x.view.app nic) entry, add-one (length (dealt_entries x.view.app nic)))
        (drop-after (length (dealt_entries x.view.app nic)) x.view.written front.first front.others front.is)

    returns-mine : AreReturns now x
    returns-mine =
        let h = rule.sides.returns a x here in
        let before = filter (λ (y : Dealt). y.app == x.view.app) nic.view.dealt in
        record {
          written = h.written;
          owed = λ c. rw (way-then, owed-same c x) (omega (arith, dealing.still x here c));
          no_more = λ c. rw (way-then, owed-same c x) (omega (arith, dealing.rest x here c));
          clear = λ c. rw way-then ((rw front.is at (h.clear c)).1);
          named = rw way-then (All-tail (IsNamed x.view.setting.layout) front.first front.others (rw front.is at h.named));
          settled = λ e. rw way-then (All-tail IsOfLoan front.first front.others (rw front.is at (h.settled e)));
          quiet = λ e. absurd (let empty : front.first ∷ front.others ≡ [] = sym front.is ∙ h.quiet e in let none : ⊥ = cc in none);
          scrubbed = λ e. absurd (let empty : front.first ∷ front.others ≡ [] = sym front.is ∙ h.scrubbed e in let none : ⊥ = cc in none);
          strays = rw (
            dealt-more nic now.view x.view.app d refl (sym here.number),
            zip-push x.view.written before d front.first front.others (rw (length-mapped (λ (y : Dealt). y.entry) before) at front.is),
          )
              (All-push IsNoLoanStray (zip x.view.written before) (front.first, d) h.strays (dealing.stray x here));
        }

    order-mine : IsDealtInOrder now x
    order-mine = record {
      order = rw (dealt-here, length_push (dealt_entries x.view.app nic) entry, add-one (length (dealt_entries x.view.app nic)))
          (take-next (λ (y : WrittenEntry). y.entry) (length (dealt_entries x.view.app nic)) x.view.written front.first front.others front.is
          ∙ (ap (λ ys. ys ++ front.first.entry ∷ []) (rule.sides.dealt a x here).order
          ∙ ap (λ y. dealt_entries x.view.app nic ++ y ∷ []) front.same));
    }

  -- ---- the others

  module _ (k : ℕ) (x : AppSide) (here : IsApp apps k x) (ne : k ≢ a) where
    other : a ≢ x.view.app
    other e = ne (sym here.number ∙ sym e)

    dealt-others : filter (λ (y : Dealt). y.app == x.view.app) now.view.dealt ≡ filter (λ (y : Dealt). y.app == x.view.app) nic.view.dealt
    dealt-others = dealt-same nic now.view x.view.app d refl other

    returns-other : AreReturns now x
    returns-other =
        let h = rule.sides.returns k x here in
        let none : (c : ℕ) → lowered_in_hand x.view.app c nic.inside.entry ≡ 0 = λ c.
        dealing.lowered x.view.app c ∙ ap (λ z. if z then w c else 0) (not-eqb a x.view.app other) in
        record {
          written = h.written;
          owed = λ c. rw (dealt-others, owed-same c x) (let m = none c in let o = h.owed c in omega arith);
          no_more = λ c. rw (dealt-others, owed-same c x) (let m = none c in let o = h.no_more c in omega arith);
          clear = λ c. rw dealt-others (h.clear c);
          named = rw dealt-others h.named;
          settled = λ e. rw dealt-others (h.settled e);
          quiet = λ e. rw dealt-others (h.quiet e);
          scrubbed = λ e. rw dealt-others (h.scrubbed e);
          strays = rw dealt-others h.strays;
        }

    order-other : IsDealtInOrder now x
    order-other = record { order = rw dealt-others (rule.sides.dealt k x here).order }

  -- ---- all

  rings-then : AllRings setting words' now apps
  rings-then =
      let there : a < length words.refills = omega (arith, is_app, rule.sizes.refills) in
      let slot_there : a < length nic.inside.refill_slots = omega (arith, is_app, rule.sides.slots.refills) in
      rings-parts setting words' now apps a
      (λ x is. let all = rule.rings a x is in let ring = rw is.number at all.refills.ring in record {
        refills = rw (
          is.number,
          ring-here words.refills a s 0 0 there,
          one-more-dealt x is,
          length_push (dealt_entries a nic) entry,
          add-one (length (dealt_entries a nic)),
          slot-here nic.inside.refill_slots a unseen slot_there,
        ) (record {
          ring = ringing.frees _ _ _ _ _ _ _ _ ring saw;
          free_slots = All-weaker (IsFreeSlot setting.places (get_or words.refills a [])) (IsFreeSlot setting.places _)
              (λ k f. record {
                within = f.within;
                flag = ringing.flag-freed _ _ _ _ _ _ _ _ ring (length (dealt_entries a nic)) k f.flag;
              })
              x.inside.free_slots (rw is.number at all.refills.free_slots);
          raw_slot = all.refills.raw_slot;
          none_raw = all.refills.none_raw;
        });
        notes = all.notes;
        left = all.left;
      })
      (λ k x is ne. let all = rule.rings k x is in let apart : x.view.app ≢ a = λ e. ne (sym is.number ∙ e) in record {
        refills = rw (
          ring-other words.refills a s 0 0 x.view.app apart,
          dealt-others k x is ne,
          slot-other nic.inside.refill_slots a unseen x.view.app apart,
        ) all.refills;
        notes = all.notes;
        left = all.left;
      })

  places_some : 0 < setting.places
  places_some =
      let x : AppSide = get_or apps a (new_app setting a) in
      (rule.rings a x (IsApp-at apps a (new_app setting a) rule.sides.set.numbers (omega (arith, is_app, rule.sides.set.many)))).notes.some

  pub RefRule-dealt : RefRule setting words' now apps
  RefRule-dealt =
      let differ : DifferInSlots setting words words' =
      differ-refill setting words rule.sizes a s 0 0 is_app (mod-lt (length (dealt_entries a nic)) places_some) in
      RefRule-ended setting words nic apps rule now refl refl (length-set nic.inside.refill_slots a unseen) ends returns-same words' differ
      (λ k x here. ⊎_elim (λ t. let e : k ≡ a = t.1 in returns-mine x (subst (λ n. IsApp apps n x) e here))
      (λ t. let ne : k ≢ a = t.1 in returns-other k x here ne) (eqb_tells k a))
      (λ k x here. ⊎_elim (λ t. let e : k ≡ a = t.1 in order-mine x (subst (λ n. IsApp apps n x) e here))
      (λ t. let ne : k ≢ a = t.1 in order-other k x here ne) (eqb_tells k a))
      (All-push (IsHonouredAsNamed setting.layout) nic.view.dealt d rule.sides.honoured dealing.honoured)
      (λ it e. absurd (let none : ⊥ = cc in none)) rings-then
