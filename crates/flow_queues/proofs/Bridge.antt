-- Pieces that are judged one by one are received as their frames are.
use Rattle.std.proofs.Common.{◌≡◌, ◌≢◌, ℕ, ◌+◌, List, [], ◌∷◌, ◌++◌, length, length-append, true}
use Rattle.std.{proofs.Common.{false, if◌then◌else◌, refl, sym, ap, subst, ◌∙◌, ⊎_elim, arith, append_assoc}, specs.Prelude.{◌==◌}}
use Rattle.std.proofs.lemmas.Bool.{cases_Bool, cases_eq, eq-eqb, eqb-true}
use Rattle.board_face.proofs.ListLemmas.{not-eqb}
use Rattle.zr_kinds.specs.CopyingReceiver.{Placed, nothing_placed, next_missing, lead, received_part}
use Rattle.flow_queues.specs.Marks.{Mark, NumberedNote, Frame, frame_from, frames_with_note, frames_of_notes, received_frame, received_frames, marks_of_note}
use Rattle.flow_queues.specs.Marks.{FollowsNote, LiesInFrame}
use Rattle.flow_queues.{specs.Core.{received_note, received_notes}, proofs.{InParts.{IsReceived, AreSame, parts, in_parts}, Entering.{marks-length}}}

-- ---- frames

frame-part : (base : ℕ) (placed : Placed Mark) (f : Frame) → received_frame base placed f ≡ received_part base placed f.seq f.total 0 f.marks
unfolding received_part
frame-part base placed f =
    let e : next_missing placed + lead base (next_missing placed) f.seq + 0 ≡ next_missing placed + lead base (next_missing placed) f.seq = omega arith in
    rw e refl

-- the frames, where these marks come before them
abbrev pub with_front : Frame → List Frame → List Frame
with_front f [] = f ∷ []
with_front f (g ∷ gs) = if g.number == f.number then record g { marks = f.marks ++ g.marks } ∷ gs else f ∷ g ∷ gs

as-front : (n : NumberedNote) (fs : List Frame) → frames_with_note n fs ≡ with_front (frame_from n) fs
as-front n [] = refl
as-front n (f ∷ fs) = refl

abbrev pub begun_frame : NumberedNote → List Mark → Frame
begun_frame m xs = record (frame_from m) { marks = xs }

joined : (m n : NumberedNote) (xs : List Mark) (fs : List Frame) → n.note.frame ≡ m.note.frame
    → with_front (begun_frame m xs) (frames_with_note n fs) ≡ with_front (begun_frame n (xs ++ marks_of_note n)) fs
joined m n xs [] same = let yes : (n.note.frame == m.note.frame) ≡ true = eq-eqb n.note.frame m.note.frame same in rw yes refl
joined m n xs (g ∷ gs) same = ⊎_elim
    (λ (yes : (g.number == n.note.frame) ≡ true).
    let yes_m : (g.number == m.note.frame) ≡ true = subst (λ k. (g.number == k) ≡ true) same yes in
    rw (yes, yes_m) (ap (λ ms. record g { marks = ms } ∷ gs) (sym (append_assoc xs (marks_of_note n) g.marks))))
    (λ (no : (g.number == n.note.frame) ≡ false).
    let yes_m : (n.note.frame == m.note.frame) ≡ true = eq-eqb n.note.frame m.note.frame same in
    rw (no, yes_m) refl)
    (cases_Bool (g.number == n.note.frame))

apart_frames : (m n : NumberedNote) (xs : List Mark) (fs : List Frame) → n.note.frame ≢ m.note.frame
    → with_front (begun_frame m xs) (frames_with_note n fs) ≡ begun_frame m xs ∷ frames_with_note n fs
apart_frames m n xs [] other = let no : (n.note.frame == m.note.frame) ≡ false = not-eqb n.note.frame m.note.frame other in rw no refl
apart_frames m n xs (g ∷ gs) other = ⊎_elim
    (λ (yes : (g.number == n.note.frame) ≡ true).
    let no : (g.number == m.note.frame) ≡ false = not-eqb g.number m.note.frame (λ e. other (sym (eqb-true g.number n.note.frame yes) ∙ e)) in
    rw (yes, no) refl)
    (λ (no : (g.number == n.note.frame) ≡ false).
    let no_m : (n.note.frame == m.note.frame) ≡ false = not-eqb n.note.frame m.note.frame other in
    rw (no, no_m) refl)
    (cases_Bool (g.number == n.note.frame))

abbrev pub StandOn : NumberedNote → List NumberedNote → Type 0
StandOn m [] = LiesInFrame m
StandOn m (n ∷ ns) = LiesInFrame m × FollowsNote m.note n.note × StandOn n ns

fits-first : (m : NumberedNote) (ns : List NumberedNote) → StandOn m ns → LiesInFrame m
fits-first m [] stand = stand
fits-first m (n ∷ ns) stand = stand.0

-- what was received of a frame so far, and what comes then
pub pieces-are-frames : (base : ℕ) (ns : List NumberedNote) (m : NumberedNote) (xs : List Mark) (placed later : Placed Mark) → IsReceived placed
    → IsReceived later → StandOn m ns → length xs ≡ m.note.at + m.note.place.len
    → AreSame later (received_part base placed m.note.seq m.note.total 0 xs)
    → AreSame (received_notes base later ns) (received_frames base placed (with_front (begun_frame m xs) (frames_of_notes ns)))
unfolding received_part
pieces-are-frames base [] m xs placed later is is_later stand size same = λ p. same p
    ∙ sym (ap (λ (r : Placed Mark). r.at p) (frame-part base placed (begun_frame m xs)))
pieces-are-frames base (n ∷ ns) m xs placed later is is_later stand size same = ⊎_elim
    (λ (goes : n.note.frame ≡ m.note.frame).
    let on = stand.1.same goes in
    let at : length xs ≡ n.note.at = size ∙ sym on.at in
    let n_len : length (marks_of_note n) ≡ n.note.place.len = marks-length n.number 0 n.note.place.len in
    let of_m : AreSame later (received_part base placed n.note.seq n.note.total 0 xs) = subst
    (λ t. AreSame later (received_part base placed n.note.seq t 0 xs)) (sym on.total)
    (subst (λ s. AreSame later (received_part base placed s m.note.total 0 xs)) (sym on.seq) same) in
    let then-same : AreSame (received_part base later n.note.seq n.note.total n.note.at (marks_of_note n))
    (received_part base placed n.note.seq n.note.total 0 (xs ++ marks_of_note n)) =
    subst (λ k. AreSame (received_part base later n.note.seq n.note.total k (marks_of_note n))
    (received_part base placed n.note.seq n.note.total 0 (xs ++ marks_of_note n))) at
    (in_parts base n.note.seq n.note.total placed later xs (marks_of_note n) is is_later (omega (arith, fits.bounded))
    (omega (arith, at, n_len, fits.within)) of_m) in
    subst (λ fs. AreSame (received_notes base (received_note base later n) ns) (received_frames base placed fs)) (sym (joined m n xs (frames_of_notes ns) goes))
    (pieces-are-frames base ns n (xs ++ marks_of_note n) placed (received_note base later n) is next_is stand.2
    (length-append xs (marks_of_note n) ∙ (omega (arith, at, n_len))) then-same))
    (λ (begins : n.note.frame ≢ m.note.frame).
    let starts : n.note.at ≡ 0 = stand.1.next begins in
    let placed2 : Placed Mark = received_part base placed m.note.seq m.note.total 0 xs in
    let is2 : IsReceived placed2 = parts.received base placed m.note.seq m.note.total 0 xs is (omega (arith, size, stand.0.within)) in
    let next-same : AreSame (received_note base later n) (received_part base placed2 n.note.seq n.note.total 0 (marks_of_note n)) =
    subst (λ k. AreSame (received_part base later n.note.seq n.note.total n.note.at (marks_of_note n))
    (received_part base placed2 n.note.seq n.note.total k (marks_of_note n))) starts
    (parts.alike base later placed2 n.note.seq n.note.total n.note.at (marks_of_note n) is_later is2 same) in
    let n_len : length (marks_of_note n) ≡ n.note.place.len = marks-length n.number 0 n.note.place.len in
    let tail = pieces-are-frames base ns n (marks_of_note n) placed2 (received_note base later n) is2 next_is stand.2
    (omega (arith, n_len, starts)) next-same in
    subst (λ fs. AreSame (received_notes base (received_note base later n) ns) (received_frames base placed fs))
    (sym (apart_frames m n xs (frames_of_notes ns) begins))
    (subst (λ (q : Placed Mark). AreSame (received_notes base (received_note base later n) ns)
    (received_frames base q (frames_with_note n (frames_of_notes ns))))
    (sym (frame-part base placed (begun_frame m xs)))
    (subst (λ fs. AreSame (received_notes base (received_note base later n) ns) (received_frames base placed2 fs)) (sym (as-front n (frames_of_notes ns)))
    tail)))
    (cases_eq n.note.frame m.note.frame)
  where
    fits : LiesInFrame n
    fits = fits-first n ns stand.2

    next_is : IsReceived (received_note base later n)
    next_is = parts.received base later n.note.seq n.note.total n.note.at (marks_of_note n) is_later
        (let n_len : length (marks_of_note n) ≡ n.note.place.len = marks-length n.number 0 n.note.place.len in omega (arith, n_len, fits.within))

-- all pieces of a flow, from its first on
pub notes-are-frames : (base : ℕ) (n : NumberedNote) (ns : List NumberedNote) → StandOn n ns → n.note.at ≡ 0
    → AreSame (received_notes base nothing_placed (n ∷ ns)) (received_frames base nothing_placed (frames_of_notes (n ∷ ns)))
unfolding received_part
notes-are-frames base n ns stand starts =
    let fits : LiesInFrame n = fits-first n ns stand in
    let n_len : length (marks_of_note n) ≡ n.note.place.len = marks-length n.number 0 n.note.place.len in
    let first_is : IsReceived (received_note base nothing_placed n) = parts.received base nothing_placed n.note.seq n.note.total n.note.at
    (marks_of_note n) parts.nothing (omega (arith, n_len, fits.within)) in
    let same : AreSame (received_note base nothing_placed n) (received_part base nothing_placed n.note.seq n.note.total 0 (marks_of_note n)) =
    subst (λ k. AreSame (received_note base nothing_placed n) (received_part base nothing_placed n.note.seq n.note.total k (marks_of_note n))) starts
    (λ p. refl) in
    subst (λ fs. AreSame (received_notes base (received_note base nothing_placed n) ns) (received_frames base nothing_placed fs))
    (sym (as-front n (frames_of_notes ns)))
    (pieces-are-frames base ns n (marks_of_note n) nothing_placed (received_note base nothing_placed n) parts.nothing first_is stand
    (omega (arith, n_len, starts)) same)
