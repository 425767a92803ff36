-- Where the pieces of each frame stand together among all notes, they do so among those of a flow.
use Rattle.std.{proofs.Common.{◌≡◌, ◌≢◌, ℕ, List, [], ◌∷◌, true, false, refl, sym, subst, ◌∙◌, ⊎_elim, inl, inr, arith}, specs.Prelude.{◌==◌, ◌⊎◌}}
use Rattle.std.proofs.lemmas.Bool.{cases_Bool, cases_eq, eqb-true, Decides.{nat_tests}}
use Rattle.zr_kinds.specs.CopyingReceiver.{nothing_placed}
use Rattle.board_face.specs.declared.views.app.TakenNote.{TakenNote}
use Rattle.flow_queues.specs.declared.queues.FlowQueue.{FlowQueue}
use Rattle.flow_queues.specs.Marks.{NumberedNote, notes_of_flow, base_of, frames_of_notes, received_frames, placed_marks, AreOfOthers, FollowsNote, LiesInFrame}
use Rattle.flow_queues.{specs.{Marks.{AllStand}, Core.{received_notes, own_notes, placed_of, BeginAt}}, proofs.{Bridge.{StandOn, notes-are-frames}, InParts.{AreSame}}}

abbrev pub StandWhole : List NumberedNote → Type 0
StandWhole [] = Unit {0}
StandWhole (n ∷ ns) = (n.note.at ≡ 0) × StandOn n ns

not-eq : (a b : ℕ) → (a == b) ≡ false → a ≢ b
not-eq a b e = grind (arith, nat_tests)

module _ (flow : ℕ) where
  -- m is the last of the flow, and y the last of all before the rest
  abbrev IsLast : NumberedNote → NumberedNote → List NumberedNote → Type 0
  IsLast m y rest = (y ≡ m) ⊎ ((y.note.flow ≢ flow) × AreOfOthers m.note.frame rest)

  next-follows : (m y n : NumberedNote) (ns : List NumberedNote) → IsLast m y (n ∷ ns) → FollowsNote y.note n.note → n.note.flow ≡ flow
      → FollowsNote m.note n.note
  next-follows m y n ns (inl is) follows own = subst (λ (z : NumberedNote). FollowsNote z.note n.note) is follows
  next-follows m y n ns (inr (other, apart)) follows own = record {
    same = λ e. absurd (apart.0 e);
    next = λ ne. ⊎_elim
        (λ (goes : n.note.frame ≡ y.note.frame). absurd (other (sym (follows.same goes).flow ∙ own)))
        follows.next
        (cases_eq n.note.frame y.note.frame);
  }

  passed-by : (m y n : NumberedNote) (ns : List NumberedNote) → m.note.flow ≡ flow → IsLast m y (n ∷ ns) → FollowsNote y.note n.note
      → (n.note.frame ≢ y.note.frame → AreOfOthers y.note.frame ns) → n.note.flow ≢ flow → IsLast m n ns
  passed-by m y n ns own (inl is) follows apart other = ⊎_elim
      (λ (goes : n.note.frame ≡ y.note.frame). absurd (other ((follows.same goes).flow ∙ subst (λ (z : NumberedNote). z.note.flow ≡ flow) (sym is) own)))
      (λ begins. inr (other, subst (λ (z : NumberedNote). AreOfOthers z.note.frame ns) is (apart begins)))
      (cases_eq n.note.frame y.note.frame)
  passed-by m y n ns own (inr (away, behind)) follows apart other = inr (other, behind.1)

  first-fits : (n : NumberedNote) (ns : List NumberedNote) → AllStand n ns → LiesInFrame n
  first-fits n [] all = all
  first-fits n (k ∷ ks) all = all.0

  own-stand : (m y : NumberedNote) (ns : List NumberedNote) → m.note.flow ≡ flow → LiesInFrame m → IsLast m y ns → AllStand y ns
      → StandOn m (notes_of_flow flow ns)
  own-stand m y [] own fits last all = fits
  own-stand m y (n ∷ ns) own fits last all = ⊎_elim
      (λ (yes : (n.note.flow == flow) ≡ true).
      let is : n.note.flow ≡ flow = eqb-true n.note.flow flow yes in
      rw yes (fits, next-follows m y n ns last all.1 is, own-stand n n ns is (first-fits n ns all.3) (inl refl) all.3))
      (λ (no : (n.note.flow == flow) ≡ false).
      rw no (own-stand m n ns own fits (passed-by m y n ns own last all.1 all.2 (not-eq n.note.flow flow no)) all.3))
      (cases_Bool (n.note.flow == flow))

  -- before the first of the flow
  first-own : (y : NumberedNote) (ns : List NumberedNote) → y.note.flow ≢ flow → AllStand y ns → StandWhole (notes_of_flow flow ns)
  first-own y [] other all = tt
  first-own y (n ∷ ns) other all = ⊎_elim
      (λ (yes : (n.note.flow == flow) ≡ true).
      let is : n.note.flow ≡ flow = eqb-true n.note.flow flow yes in
      let starts : n.note.at ≡ 0 = ⊎_elim
      (λ (goes : n.note.frame ≡ y.note.frame). absurd (other (sym (all.1.same goes).flow ∙ is)))
      all.1.next
      (cases_eq n.note.frame y.note.frame) in
      rw yes (starts, own-stand n n ns is (first-fits n ns all.3) (inl refl) all.3))
      (λ (no : (n.note.flow == flow) ≡ false). rw no (first-own n ns (not-eq n.note.flow flow no) all.3))
      (cases_Bool (n.note.flow == flow))

  pub whole-own : (n : NumberedNote) (ns : List NumberedNote) → n.note.at ≡ 0 → AllStand n ns → StandWhole (notes_of_flow flow (n ∷ ns))
  whole-own n ns starts all = ⊎_elim
      (λ (yes : (n.note.flow == flow) ≡ true). rw yes (starts, own-stand n n ns (eqb-true n.note.flow flow yes) (first-fits n ns all) (inl refl) all))
      (λ (no : (n.note.flow == flow) ≡ false). rw no (first-own n ns (not-eq n.note.flow flow no) all))
      (cases_Bool (n.note.flow == flow))

as-frames : (base : ℕ) (ns : List NumberedNote) → BeginAt base ns → StandWhole ns
    → AreSame (received_notes base nothing_placed ns) (received_frames (base_of ns) nothing_placed (frames_of_notes ns))
as-frames base [] begun whole = absurd begun
as-frames base (n ∷ ns) begun whole =
    subst (λ b. AreSame (received_notes base nothing_placed (n ∷ ns)) (received_frames b nothing_placed (frames_of_notes (n ∷ ns)))) (sym begun)
    (notes-are-frames base n ns whole.1 whole.0)

-- what a queue holds is what stands at the marks of the frames
pub placed-same : (flow : FlowQueue) (taken : List TakenNote) → BeginAt flow.queue.base (own_notes flow.number taken)
    → StandWhole (own_notes flow.number taken) → AreSame (placed_of flow taken) (placed_marks flow.number taken)
placed-same flow taken begun whole = as-frames flow.queue.base (own_notes flow.number taken) begun whole
