-- What stands at a flow's marks is what the copying receiver has of the flow's frames.
use Rattle.std.proofs.Common.{◌≡◌, ℕ, zero, suc, ◌+◌, ◌-◌, ◌<◌, List, [], ◌∷◌, ◌++◌, length, map, filter, take, drop}
use Rattle.std.{proofs.Common.{length-append, get_or, refl, sym, ap, subst, ◌∙◌, ⊎_elim, arith, true, false, ◌==◌, Some, None}, specs.{Prelude.{All}, List.{slice_get}}}
use Rattle.std.proofs.lemmas.{Bool.{cases_Bool}, List.{map-append, length-map, Elements.{All-head, All-tail}}, Option.{slice_get_within, get_or_from_slice_get}}
use Rattle.zr_kinds.{specs.CopyingReceiver.{Placed, nothing_placed, value_at, received, front_of}, proofs.LeastMissing.{IsBounded-nothing}}
use Rattle.zr_kinds.proofs.Mapped.{MapsPlaced, received-map, front_of-map}
use Rattle.board_face.specs.{Shown.{bytes_sent, origin_bytes}, Relay.{as_taken, IsAsSent}, declared.views.{nic.SentNote.{SentNote}, app.TakenNote.{TakenNote}}}
use Rattle.board_face.specs.declared.views.app.{Reading.{Reading}, AppView.{AppView}}
use Rattle.app_worker.specs.{Marks.{Mark, Frame, received_frame, received_frames, base_of, marks_of}, Core.{IsReadAt, IsIn, IsByteAt, AreReadAt}}
use Rattle.flow_queues.{specs.Streams.{IsFront}, proofs.ReadLemmas.{are-many}}
use Rattle.page_pool.specs.Frames.{Offered, ShowFrames}
use Rattle.card_feed.proofs.NotesShown.{byte_or, byte_at, Shown, shown_by, shown_of, flow_notes, frames_shown, Ascend, HaveBytes}

-- what the copying receiver has of these frames
abbrev pub received_offered : ℕ → Placed ℕ → List Offered → Placed ℕ
received_offered base placed [] = placed
received_offered base placed (o ∷ os) = received_offered base (received base placed o.seq o.payload) os

same_head : {a b : Shown} {xs ys : List Shown} → a ∷ xs ≡ b ∷ ys → a ≡ b
same_head same = cc

same_tail : {a b : Shown} {xs ys : List Shown} → a ∷ xs ≡ b ∷ ys → xs ≡ ys
same_tail same = cc

-- a frame of which all is there is received as any list of values
whole_frame : (base : ℕ) (placed : Placed Mark) (f : Frame) → f.total ≡ length f.marks
    → received_frame base placed f ≡ received base placed f.seq f.marks
unfolding received
whole_frame base placed f whole = rw whole refl

mapped_frames : (all : List SentNote) (base : ℕ) (fs : List Frame) (os : List Offered) (placed : Placed Mark) (bytes : Placed ℕ) → map
    (shown_by all) fs ≡ map shown_of os → MapsPlaced (byte_at all) placed bytes
    → MapsPlaced (byte_at all) (received_frames base placed fs) (received_offered base bytes os)
mapped_frames all base [] [] placed bytes same is = is
mapped_frames all base [] (o ∷ os) placed bytes same is = absurd (grind (arith, ap length same))
mapped_frames all base (f ∷ fs) [] placed bytes same is = absurd (grind (arith, ap length same))
mapped_frames all base (f ∷ fs) (o ∷ os) placed bytes same is =
    let one : shown_by all f ≡ shown_of o = same_head same in
    let seq : f.seq ≡ o.seq = ap (λ (s : Shown). s.seq) one in
    let values : map (byte_at all) f.marks ≡ o.payload = ap (λ (s : Shown). s.bytes) one in
    let size : length (map (byte_at all) f.marks) ≡ length f.marks = simp length-map refl in
    let total : f.total ≡ length f.marks = ap (λ (s : Shown). s.total) one ∙ ap length (sym values) ∙ size in
    let received_one : MapsPlaced (byte_at all) (received_frame base placed f) (received base bytes o.seq o.payload) =
    rw (whole_frame base placed f total, sym values, sym seq) (received-map (byte_at all) base placed bytes f.seq f.marks is) in
    mapped_frames all base fs os (received_frame base placed f) (received base bytes o.seq o.payload) (same_tail same) received_one

pub marks_streamed : (split flow : ℕ) (os : List Offered) (notes : List SentNote) → ShowFrames split os notes → Ascend os → HaveBytes os
    → map (byte_at notes) (marks_of flow (map as_taken notes)) ≡ front_of
    (received_offered (base_of (flow_notes flow 0 notes)) nothing_placed (filter (λ o. o.flow == flow) os))
marks_streamed split flow os notes shows ascend some =
    let frames = frames_shown split flow os notes [] notes refl shows ascend some in
    sym (front_of-map (byte_at notes) _ _ (mapped_frames notes (base_of (flow_notes flow 0 notes)) _ _ nothing_placed nothing_placed frames
    (record { at = λ p. refl; bounded = IsBounded-nothing; mapped_bounded = IsBounded-nothing })))

-- ---- what was read are the bytes that were sent

value_at-take : (xs : List ℕ) (n k : ℕ) → k < n → value_at (take n xs) k ≡ value_at xs k
value_at-take xs zero k below = absurd (omega arith)
value_at-take [] (suc n) k below = refl
value_at-take (x ∷ xs) (suc n) zero below = refl
value_at-take (x ∷ xs) (suc n) (suc k) below = value_at-take xs n k (omega arith)

value_at-drop : (xs : List ℕ) (n k : ℕ) → value_at (drop n xs) k ≡ value_at xs (n + k)
value_at-drop xs zero k = ap (value_at xs) (omega arith)
value_at-drop [] (suc n) k = refl
value_at-drop (x ∷ xs) (suc n) k = (let more : suc (n + k) ≡ suc n + k = omega arith in value_at-drop xs n k ∙ ap (value_at (x ∷ xs)) more)

value_at-none : (xs : List ℕ) (k b : ℕ) → value_at xs k ≡ Some b → k < length xs
value_at-none [] k b is = absurd (none_some is)
  where
    none_some : None ≡ Some b → ⊥
    none_some same = grind arith
value_at-none (x ∷ xs) zero b is = omega arith
value_at-none (x ∷ xs) (suc k) b is = let less = value_at-none xs k b is in omega (arith, less)

record IsTakenOf (notes : List SentNote) (k : ℕ) (t : TakenNote) : Type 0 where
  note : SentNote
  is : t ≡ as_taken note
  bytes : bytes_sent k notes ≡ note.bytes

record IsNoteAt (notes : List SentNote) (k : ℕ) : Type 0 where
  note : SentNote
  is : (d : TakenNote) → get_or (map as_taken notes) k d ≡ as_taken note
  bytes : bytes_sent k notes ≡ note.bytes

note_at : (notes : List SentNote) (k : ℕ) → k < length notes → IsNoteAt notes k
note_at [] k within = absurd (omega arith)
note_at (s ∷ notes) zero within = record { note = s; is = λ d. refl; bytes = refl }
note_at (s ∷ notes) (suc k) within = let later = note_at notes k (omega arith) in record { note = later.note; is = later.is; bytes = later.bytes }

taken_of : (notes : List SentNote) (k : ℕ) (t : TakenNote) → slice_get (map as_taken notes) k ≡ Some t → IsTakenOf notes k t
taken_of notes k t there =
    let size : length (map as_taken notes) ≡ length notes = simp length-map refl in
    let within = slice_get_within (map as_taken notes) k t there in
    let at = note_at notes k (omega (arith, size, within)) in
    record { note = at.note; is = sym (get_or_from_slice_get (map as_taken notes) k t t there) ∙ at.is t; bytes = at.bytes }

reading_sent : (notes : List SentNote) (reads : List Reading) (r : Reading) → All (IsAsSent notes) reads → IsIn r reads → IsAsSent notes r
reading_sent notes [] r sent there = absurd there
reading_sent notes (q ∷ reads) r sent there = ⊎_elim
    (λ (is : q ≡ r). subst (IsAsSent notes) is (All-head (IsAsSent notes) q reads sent))
    (λ later. reading_sent notes reads r (All-tail (IsAsSent notes) q reads sent) later)
    there

read_byte : (notes : List SentNote) (v : AppView) (m : Mark) (b : ℕ) → v.taken ≡ map as_taken notes → All (IsAsSent notes) v.reads
    → IsByteAt v.taken v.reads m b → b ≡ byte_at notes m
read_byte notes v m b taken reads is =
    let t_of = taken_of notes m.note is.note (rw taken at is.is) in
    let split : is.note.note.split ≡ t_of.note.note.split = ap (λ (t : TakenNote). t.note.split) t_of.is in
    ⊎_elim
    (λ (in_area : is.note.note.split ≡ true).
    let read : IsReadAt v.reads m b = rw in_area at is.stands in
    let r : Reading = read.reading in
    let sent : IsAsSent notes r = reading_sent notes v.reads r reads read.read in
    let there : value_at r.bytes (m.place - read.from) ≡ Some b = read.is in
    let less : m.place - read.from < length r.bytes = value_at-none r.bytes (m.place - read.from) b there in
    let whole : value_at r.bytes (m.place - read.from) ≡ value_at (take (length r.bytes) (drop read.from (bytes_sent m.note notes))) (m.place - read.from) =
    ap (λ bs. value_at bs (m.place - read.from)) (sent ∙ ap (λ origin. origin_bytes notes origin (length r.bytes)) read.origin) in
    let back : read.from + (m.place - read.from) ≡ m.place = omega (arith, read.at_or_behind) in
    ap byte_or (sym there ∙ whole ∙ value_at-take _ (length r.bytes) (m.place - read.from) less ∙ value_at-drop (bytes_sent m.note notes) read.from
    (m.place - read.from)
    ∙ ap (value_at (bytes_sent m.note notes)) back))
    (λ (with_note : is.note.note.split ≡ false).
    let there : value_at is.note.bytes m.place ≡ Some b = rw with_note at is.stands in
    let own : t_of.note.note.split ≡ false = sym split ∙ with_note in
    let bytes : is.note.bytes ≡ bytes_sent m.note notes = ap (λ (t : TakenNote). t.bytes) t_of.is ∙ rw own (sym t_of.bytes) in
    ap byte_or (sym there ∙ ap (λ bs. value_at bs m.place) bytes))
    (cases_Bool is.note.note.split)

read_bytes : (notes : List SentNote) (v : AppView) (ms : List Mark) (bs : List ℕ) → v.taken ≡ map as_taken notes → All (IsAsSent notes) v.reads
    → AreReadAt v.taken v.reads ms bs → bs ≡ map (byte_at notes) ms
read_bytes notes v [] [] taken reads are = refl
read_bytes notes v (m ∷ ms) (b ∷ bs) taken reads are = let one = read_byte notes v m b taken reads are.0 in rw one
    (ap (λ others. byte_at notes m ∷ others) (read_bytes notes v ms bs taken reads are.1))
read_bytes notes v [] (b ∷ bs) taken reads are = absurd are
read_bytes notes v (m ∷ ms) [] taken reads are = absurd are

no_rest : (f : Mark → ℕ) (read rest all : List Mark) → all ≡ read ++ rest → length read ≡ length all → map f rest ≡ []
no_rest f read [] all parts whole = refl
no_rest f read (m ∷ rest) all parts whole = absurd (let many = ap length parts in omega (arith, many, whole, length-append read (m ∷ rest)))

-- The bytes at the first marks of a flow are a front of what the copying receiver has of its frames, and those at all marks
-- are all of it.
pub front_streamed : (split flow : ℕ) (os : List Offered) (notes : List SentNote) (v : AppView) (bytes : List ℕ) → ShowFrames split os notes
    → Ascend os → HaveBytes os
    → v.taken ≡ map as_taken notes → All (IsAsSent notes) v.reads → IsFront v.taken v.reads (marks_of flow v.taken) bytes
    → (rest : List ℕ) × (front_of (received_offered (base_of (flow_notes flow 0 notes)) nothing_placed (filter (λ o. o.flow == flow) os)) ≡ bytes
    ++ rest)
    × (length bytes ≡ length (marks_of flow v.taken) → rest ≡ [])
front_streamed split flow os notes v bytes shows ascend some taken reads front =
    let streamed = marks_streamed split flow os notes shows ascend some in
    let parts : marks_of flow (map as_taken notes) ≡ front.read ++ front.rest = rw taken at front.parts in
    let many = are-many v.taken v.reads front.read bytes front.are in (
      map (byte_at notes) front.rest,
      sym streamed ∙ ap (map (byte_at notes)) parts ∙ map-append (byte_at notes) front.read front.rest
          ∙ ap (λ bs. bs ++ map (byte_at notes) front.rest) (sym (read_bytes notes v front.read bytes taken reads front.are)),
      λ whole. no_rest (byte_at notes) front.read front.rest (marks_of flow v.taken) front.parts (omega (arith, many, whole)),
    )
