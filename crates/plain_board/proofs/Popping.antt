-- An entry leaves its slot.
use Rattle.std.{proofs.Common.{◌≡◌, ℕ, ◌-◌, ◌<◌, List, [], ◌∷◌, ◌++◌, length, map, drop, set, get_or, refl, ap, sym, ◌∙◌, subst, arith, ⊎_elim}, specs.Prelude.{◌≢◌}}
use Rattle.std.proofs.lemmas.{List.{set-get_or, get_or_default, get_or-set_same, get_or-set_other, Elements.{All-set}}, Bool.Decides.{eqb_tells}}
use Rattle.circular_buffer.specs.Buffer.{Buffer, buffer}
use Rattle.zr_kinds.specs.declared.ring.Rqe.{Rqe}
use Rattle.board_face.specs.{Sides.{nic_at, IsApp}, Relay.{Relayed}, declared.views.{nic.{Dealt.{Dealt}, NicView.{NicView}}, app.AppSide.{AppSide}}}
use Rattle.board_face.proofs.RelayLemmas.{Relayed-dealt, Relayed-dealt_other}
use Rattle.plain_board.{specs.{Stand.{Arrays, Stand}, Returns.{entries_on_way, reach_of}}, proofs.RingSlots.{IsRing-popped}}
use Rattle.plain_board.specs.Sound.{IsRing, IsSound, AreRelayed, AreBooked, refills_of, notes_of, taken_of}
use Rattle.plain_board.proofs.Dealing.{HasFront, dealt-same, way-after, reach-popped}
use Rattle.board_parts.specs.Rings.{popped}

pub same-app : (apps : List AppSide) (a : ℕ) (x y : AppSide) → IsApp apps a x → IsApp apps a y → y ≡ x
same-app apps a x y one other = sym other.is ∙ (get_or_default apps a y x one.there ∙ one.is)

pub other-number : (apps : List AppSide) (a k : ℕ) (y : AppSide) → IsApp apps k y → k ≢ a → y.view.app ≢ a
other-number apps a k y it ne e = ne (sym it.number ∙ e)

-- the ring without the entry
abbrev pub ring_then : Stand → ℕ → Buffer Rqe
ring_then board a = popped (get_or board.arrays.refills a (buffer [] 0))

module _ (board : Stand) (a : ℕ) (x : AppSide) (e : Rqe) (es : List Rqe) (sound : IsSound board) (here : IsApp board.apps a x)
    (found : refills_of board.arrays a ≡ e ∷ es)
    (v : NicView) (d : Dealt) (sents : v.sent ≡ board.nic.view.sent) (deals : v.dealt ≡ board.nic.view.dealt ++ d ∷ []) (mine : d.app ≡ a)
    (its : d.entry ≡ e) where
  ring_there : a < length board.arrays.refills
  ring_there = let h = here.there in let many = sound.set.many in let size = sound.sizes.refills in omega arith

  pub AreRelayed-popped : (now : Arrays) → now.notes ≡ board.arrays.notes → now.places ≡ board.arrays.places
      → now.refills ≡ set board.arrays.refills a (ring_then board a) → AreRelayed now (nic_at board.nic v) board.apps
  AreRelayed-popped now notes places refills = record {
    relayed = λ k y it. ⊎_elim
        (λ t. let same : k ≡ a = t.1 in
        let is : y ≡ x = same-app board.apps a x y here (subst (λ n. IsApp board.apps n y) same it) in
        let rest : refills_of now k ≡ es =
        ap (λ (rings : List (Buffer Rqe)). (get_or rings k (buffer [] 0)).items) refills
        ∙ (ap (λ (n : ℕ). (get_or (set board.arrays.refills a (ring_then board a)) n (buffer [] 0)).items) same
        ∙ (ap (λ (r : Buffer Rqe). r.items) (get_or-set_same board.arrays.refills a (ring_then board a) (buffer [] 0) ring_there)
        ∙ ap (λ (es : List Rqe). drop 1 es) found)) in
        let slots : notes_of now k ≡ notes_of board.arrays a = rw (notes, same) refl in
        subst (λ app. Relayed (nic_at board.nic v) app (map taken_of (notes_of now k)) (refills_of now k)) (sym is)
        (rw (rest, slots) (Relayed-dealt board.nic v x d _ es sents deals (mine ∙ sym here.number) (rw its (rw found at (sound.relayed.relayed a x here))))))
        (λ t. let ne : k ≢ a = t.1 in
        let rest : refills_of now k ≡ refills_of board.arrays k =
        ap (λ (rings : List (Buffer Rqe)). (get_or rings k (buffer [] 0)).items) refills
        ∙ ap (λ (r : Buffer Rqe). r.items) (get_or-set_other board.arrays.refills a k (ring_then board a) (buffer [] 0) ne) in
        let slots : notes_of now k ≡ notes_of board.arrays k = rw notes refl in
        rw (rest, slots) (Relayed-dealt_other board.nic v y d _ _ sents deals (λ same. other-number board.apps a k y it ne (sym same ∙ mine))
        (sound.relayed.relayed k y it)))
        (eqb_tells k a);
    notes = rw (notes, places) sound.relayed.notes;
    refills = rw (refills, places) (All-set (IsRing board.arrays.places) board.arrays.refills a (ring_then board a)
        (IsRing-popped board.arrays.places (get_or board.arrays.refills a (buffer [] 0))
        (sound.relayed.refills a (buffer [] 0) ring_there)) sound.relayed.refills);
  }

  raw_there : a < length board.arrays.raw
  raw_there = let h = here.there in let many = sound.set.many in let size = sound.sizes.raw in omega arith

  -- the last raw entry lies one less far back
  pub AreBooked-popped : (now : Arrays) → now.layout ≡ board.arrays.layout → now.loans ≡ board.arrays.loans → now.filled ≡ board.arrays.filled
      → now.raw ≡ set board.arrays.raw a (get_or board.arrays.raw a 0 - 1) → HasFront board.nic x d.entry
      → AreBooked now (nic_at board.nic v) board.apps
  AreBooked-popped now layout loans filled raw front = record {
    loans = λ k b app it within. rw (loans, layout) (sound.booked.loans k b app it (rw (← layout) within));
    filled = λ k app it. rw filled (sound.booked.filled k app it);
    raw = λ k y it. ⊎_elim
        (λ t. let same : k ≡ a = t.1 in
        let is : y ≡ x = same-app board.apps a x y here (subst (λ n. IsApp board.apps n y) same it) in
        let less : get_or now.raw k 0 ≡ get_or board.arrays.raw a 0 - 1 =
        ap (λ counts. get_or counts k 0) raw
        ∙ (ap (λ n. get_or (set board.arrays.raw a (get_or board.arrays.raw a 0 - 1)) n 0) same
        ∙ get_or-set_same board.arrays.raw a (get_or board.arrays.raw a 0 - 1) 0 raw_there) in
        let was : get_or board.arrays.raw a 0 ≡ reach_of (front.first ∷ front.others) = sound.booked.raw a x here ∙ ap reach_of front.way in
        subst (λ app. get_or now.raw k 0 ≡ reach_of (entries_on_way (nic_at board.nic v) app)) (sym is)
        (less ∙ (ap (λ n. n - 1) was ∙ (reach-popped front.first front.others
        ∙ sym (ap reach_of (way-after board.nic v x d deals front (mine ∙ sym here.number)))))))
        (λ t. let ne : k ≢ a = t.1 in
        let rest : get_or now.raw k 0 ≡ get_or board.arrays.raw k 0 = ap (λ counts. get_or counts k 0) raw
        ∙ get_or-set_other board.arrays.raw a k (get_or board.arrays.raw a 0 - 1) 0 ne in
        let others = dealt-same board.nic v y.view.app d deals (λ same. other-number board.apps a k y it ne (sym same ∙ mine)) in
        rest ∙ rw others (sound.booked.raw k y it))
        (eqb_tells k a);
  }

-- ---- the front of a ring

-- nothing leaves an empty ring
pub rings-same : {A : Type 0} (rings : List (Buffer A)) (a : ℕ) → (get_or rings a (buffer [] 0)).items ≡ []
    → set rings a (popped (get_or rings a (buffer [] 0))) ≡ rings
rings-same {A} rings a empty =
    let n = (get_or rings a (buffer [] 0)).capacity in
    ap (λ (xs : List A). set rings a (buffer (drop 1 xs) n)) empty
    ∙ (ap (λ (xs : List A). set rings a (buffer xs n)) (sym empty) ∙ set-get_or rings a (buffer [] 0))
