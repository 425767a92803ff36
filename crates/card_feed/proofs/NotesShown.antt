-- Notes that show frames have these frames' marks.
use Rattle.std.proofs.Common.{◌≡◌, ◌≢◌, ℕ, zero, suc, ◌+◌, ◌<◌, ◌≤◌, List, [], ◌∷◌, ◌++◌, length, map, filter, take}
use Rattle.std.proofs.Common.{drop, append_assoc, length-append, refl, sym, ap, subst, ◌∙◌, ⊎_elim, arith, Bool, true, false, ◌==◌, Option, Some, None}
use Rattle.std.proofs.lemmas.Bool.{eq-eqb, ne_eqb, eqb-true, eqb-false, cases_Bool, cases_lt}
use Rattle.std.proofs.{lemmas.List.{append-nil, map-append, take-append-drop, length-take, length-drop}, Math.Seq.{drop-nil, drop-length}}
use Rattle.board_face.specs.{Shown.{bytes_sent}, Relay.{as_taken}, declared.views.nic.SentNote.{SentNote}}
use Rattle.zr_kinds.specs.CopyingReceiver.{value_at}
use Rattle.app_worker.specs.Marks.{Mark, Frame, NumberedNote, marks_from, numbered_notes, notes_of_flow, frames_with_note, frames_of_notes}
use Rattle.page_pool.specs.Frames.{Offered, IsNoteOf, ShowRest, ShowsWhole, ShowsFrame, ShowFrames}

-- the byte at a mark, of the notes that were sent
abbrev pub byte_or : Option ℕ → ℕ
byte_or None = 0
byte_or (Some byte) = byte

abbrev pub byte_at : List SentNote → Mark → ℕ
byte_at notes m = byte_or (value_at (bytes_sent m.note notes) m.place)

-- ---- bytes

value_at-here : (pre : List ℕ) (b : ℕ) (bs : List ℕ) → value_at (pre ++ b ∷ bs) (length pre) ≡ Some b
value_at-here [] b bs = refl
value_at-here (p ∷ pre) b bs = value_at-here pre b bs

marks-bytes : (all : List SentNote) (k : ℕ) (pre bs : List ℕ) → bytes_sent k all ≡ pre ++ bs → map (byte_at all)
    (marks_from k (length pre) (length bs)) ≡ bs
marks-bytes all k pre [] full = refl
marks-bytes all k pre (b ∷ bs) full =
    let here : byte_at all (record { note = k; place = length pre }) ≡ b = rw (full, value_at-here pre b bs) refl in
    let longer : suc (length pre) ≡ length (pre ++ b ∷ []) = simp length-append (omega arith) in
    let more : bytes_sent k all ≡ (pre ++ b ∷ []) ++ bs = full ∙ sym (append_assoc pre (b ∷ []) bs) in
    rw (here, longer) (ap (λ others. b ∷ others) (marks-bytes all k (pre ++ b ∷ []) bs more))

sent-here : (before rest : List SentNote) (s : SentNote) → bytes_sent (length before) (before ++ s ∷ rest) ≡ s.bytes
sent-here [] rest s = refl
sent-here (t ∷ before) rest s = sent-here before rest s

-- the marks of notes, the first of which is the k-th
abbrev pub marks_in : ℕ → List SentNote → List Mark
marks_in k [] = []
marks_in k (s ∷ ss) = marks_from k 0 s.note.place.len ++ marks_in (suc k) ss

drop-more : (n at : ℕ) (xs : List ℕ) → drop (at + n) xs ≡ drop n (drop at xs)
drop-more n zero xs = let e : 0 + n ≡ n = omega arith in rw e refl
drop-more n (suc at) [] = let e : suc at + n ≡ suc (at + n) = omega arith in rw (e, drop-nil n) refl
drop-more n (suc at) (x ∷ xs) = let e : suc at + n ≡ suc (at + n) = omega arith in rw e (drop-more n at xs)

take-drop-more : (n at : ℕ) (xs : List ℕ) → take n (drop at xs) ++ drop (at + n) xs ≡ drop at xs
take-drop-more n at xs = rw (drop-more n at xs) (take-append-drop n (drop at xs))

rest-bytes : (o : Offered) (at : ℕ) (before mine rest all : List SentNote) → all ≡ before ++ (mine ++ rest) → ShowRest o at mine → map (byte_at all)
    (marks_in (length before) mine) ≡ drop at o.payload
rest-bytes o at before [] rest all is show = rw show (sym (drop-length o.payload))
rest-bytes o at before (s ∷ ss) rest all is show =
    let len : ℕ = s.note.place.len in
    let bytes : bytes_sent (length before) all ≡ s.bytes = rw is (sent-here before (ss ++ rest) s) in
    let within : at + len ≤ length o.payload = show.0.within in
    let size : length s.bytes ≡ len = rw show.0.bytes (simp (length-take, length-drop) (omega (arith, within))) in
    let first : map (byte_at all) (marks_from (length before) 0 len) ≡ s.bytes = rw (sym size) (marks-bytes all (length before) [] s.bytes bytes) in
    let next : suc (length before) ≡ length (before ++ s ∷ []) = simp length-append (omega arith) in
    let all_is : all ≡ (before ++ s ∷ []) ++ (ss ++ rest) = is ∙ sym (append_assoc before (s ∷ []) (ss ++ rest)) in
    let others : map (byte_at all) (marks_in (suc (length before)) ss) ≡ drop (at + len) o.payload = rw next
    (rest-bytes o (at + len) (before ++ s ∷ []) ss rest all all_is show.1) in
    map-append (byte_at all) (marks_from (length before) 0 len) (marks_in (suc (length before)) ss) ∙ ap
    (λ xs. xs ++ map (byte_at all) (marks_in (suc (length before)) ss)) (first ∙ show.0.bytes) ∙ ap
    (λ xs. take len (drop at o.payload) ++ xs) others ∙ take-drop-more len at o.payload

-- ---- frames

-- all of these are notes of the frame
abbrev pub AreOf : Offered → List SentNote → Type 0
AreOf o [] = Unit {0}
AreOf o (s ∷ ss) = IsNoteOf o s × AreOf o ss

pub rest-of : (o : Offered) (at : ℕ) (mine : List SentNote) → ShowRest o at mine → AreOf o mine
rest-of o at [] show = tt
rest-of o at (s ∷ ss) show = (show.0.of_frame, rest-of o (at + s.note.place.len) ss show.1)

-- the first frame isn't this one
abbrev pub IsNotFirst : ℕ → List Frame → Type 0
IsNotFirst number [] = Unit {0}
IsNotFirst number (f ∷ fs) = f.number ≢ number

abbrev pub frame_of : Offered → List Mark → Frame
frame_of o marks = record { number = o.frame; seq = o.seq; total = length o.payload; marks = marks }

begins : (o : Offered) (s : SentNote) (k : ℕ) (fs : List Frame) → IsNoteOf o s → IsNotFirst o.frame fs
    → frames_with_note (record { number = k; note = s.note }) fs ≡ frame_of o (marks_from k 0 s.note.place.len) ∷ fs
begins o s k [] of_o none = rw (of_o.frame, of_o.seq, of_o.total) refl
begins o s k (f ∷ fs) of_o other = let test = ne_eqb f.number o.frame other in rw (of_o.frame, test, of_o.seq, of_o.total) refl

goes_on : (o : Offered) (s : SentNote) (k : ℕ) (marks : List Mark) (fs : List Frame) → IsNoteOf o s
    → frames_with_note (record { number = k; note = s.note }) (frame_of o marks ∷ fs) ≡ frame_of o (marks_from k 0 s.note.place.len ++ marks) ∷ fs
goes_on o s k marks fs of_o = let test = eq-eqb o.frame o.frame refl in rw (of_o.frame, test) refl

-- the notes of a flow among those that were sent, the first of which is the k-th
abbrev pub flow_notes : ℕ → ℕ → List SentNote → List NumberedNote
flow_notes flow k notes = notes_of_flow flow (numbered_notes k (map as_taken notes))

pub of_flow-mine : (o : Offered) (s : SentNote) (k : ℕ) (notes : List SentNote) → IsNoteOf o s → flow_notes o.flow k
    (s ∷ notes) ≡ record { number = k; note = s.note } ∷ flow_notes o.flow (suc k) notes
of_flow-mine o s k notes of_o = let mine = eq-eqb s.note.flow o.flow of_o.flow in rw mine refl

merged : (o : Offered) (s : SentNote) (ss rest : List SentNote) (k : ℕ) → AreOf o (s ∷ ss) → IsNotFirst o.frame
    (frames_of_notes (flow_notes o.flow (k + length (s ∷ ss)) rest))
    → frames_of_notes (flow_notes o.flow k ((s ∷ ss) ++ rest)) ≡ frame_of o (marks_in k (s ∷ ss)) ∷ frames_of_notes
    (flow_notes o.flow (k + length (s ∷ ss)) rest)
merged o s [] rest k of_o other =
    let next : k + 1 ≡ suc k = omega arith in
    let none : IsNotFirst o.frame (frames_of_notes (flow_notes o.flow (suc k) rest)) = rw next at other in
    ap frames_of_notes (of_flow-mine o s k rest of_o.0) ∙ begins o s k (frames_of_notes (flow_notes o.flow (suc k) rest)) of_o.0 none
    ∙ rw (next, append-nil) refl
merged o s (t ∷ ts) rest k of_o other =
    let next : k + suc (suc (length ts)) ≡ suc k + suc (length ts) = omega arith in
    let later = merged o t ts rest (suc k) of_o.1 (rw next at other) in
    ap frames_of_notes (of_flow-mine o s k ((t ∷ ts) ++ rest) of_o.0) ∙ ap (frames_with_note (record { number = k; note = s.note })) later
    ∙ goes_on o s k (marks_in (suc k) (t ∷ ts)) (frames_of_notes (flow_notes o.flow (suc k + length (t ∷ ts)) rest)) of_o.0 ∙ rw next refl

-- the notes of another flow don't count
pub passed : (o : Offered) (flow : ℕ) (mine rest : List SentNote) (k : ℕ) → AreOf o mine → o.flow ≢ flow → flow_notes flow k
    (mine ++ rest) ≡ flow_notes flow (k + length mine) rest
passed o flow [] rest k of_o other = let e : k + 0 ≡ k = omega arith in rw e refl
passed o flow (s ∷ ss) rest k of_o other =
    let not_mine = ne_eqb s.note.flow flow (λ same. other (sym of_o.0.flow ∙ same)) in
    let next : k + suc (length ss) ≡ suc k + length ss = omega arith in
    rw (not_mine, next) (passed o flow ss rest (suc k) of_o.1 other)

-- ---- a frame that is shown

pub record Shown : Type 0 where
  pub number : ℕ
  pub seq : ℕ
  pub total : ℕ
  pub bytes : List ℕ

abbrev pub shown_by : List SentNote → Frame → Shown
shown_by all f = record { number = f.number; seq = f.seq; total = f.total; bytes = map (byte_at all) f.marks }

abbrev pub shown_of : Offered → Shown
shown_of o = record { number = o.frame; seq = o.seq; total = length o.payload; bytes = o.payload }

-- its notes, the first of which is the k-th
pub record IsShownBy (o : Offered) (k : ℕ) (mine all : List SentNote) : Type 0 where
  pub first : SentNote
  pub others : List SentNote
  pub are : mine ≡ first ∷ others
  pub of_frame : AreOf o mine
  pub bytes : map (byte_at all) (marks_in k mine) ≡ o.payload

by_rest : (o : Offered) (before mine rest all : List SentNote) → all ≡ before ++ (mine ++ rest) → 0 < length o.payload → ShowRest o 0 mine
    → IsShownBy o (length before) mine all
by_rest o before [] rest all is some show = absurd (omega (arith, show))
by_rest o before (s ∷ ss) rest all is some show = record {
  first = s;
  others = ss;
  are = refl;
  of_frame = rest-of o 0 (s ∷ ss) show;
  bytes = rest-bytes o 0 before (s ∷ ss) rest all is show;
}

by_short : (o : Offered) (before mine rest all : List SentNote) (s : SentNote) → all ≡ before ++ (mine ++ rest) → mine ≡ s ∷ [] → ShowsWhole o s
    → IsShownBy o (length before) mine all
by_short o before mine rest all s is one short =
    let there : all ≡ before ++ s ∷ rest = rw one at is in
    let sent : bytes_sent (length before) all ≡ o.payload = rw there (sent-here before rest s) ∙ short.bytes in
    rw one (record {
      first = s;
      others = [];
      are = refl;
      of_frame = (short.of_frame, tt);
      bytes = rw (append-nil, short.len) (marks-bytes all (length before) [] o.payload sent);
    })

pub is_shown : (split : ℕ) (o : Offered) (before mine rest all : List SentNote) → all ≡ before ++ (mine ++ rest) → 0 < length o.payload
    → ShowsFrame split o mine → IsShownBy o (length before) mine all
is_shown split o before mine rest all is some shows = ⊎_elim
    (λ (long : split < length o.payload). by_rest o before mine rest all is some (shows.long long))
    (λ (short : length o.payload ≤ split). let one = shows.short short in by_short o before mine rest all one.0 is one.1 one.2)
    (cases_lt split (length o.payload))

-- ---- frames in the order of their numbers

abbrev pub AreAbove : ℕ → List Offered → Type 0
AreAbove n [] = Unit {0}
AreAbove n (o ∷ os) = (n < o.frame) × AreAbove n os

abbrev pub Ascend : List Offered → Type 0
Ascend [] = Unit {0}
Ascend (o ∷ os) = AreAbove o.frame os × Ascend os

abbrev pub HaveBytes : List Offered → Type 0
HaveBytes [] = Unit {0}
HaveBytes (o ∷ os) = (0 < length o.payload) × HaveBytes os

above-filter : (p : Offered → Bool) (n : ℕ) (os : List Offered) → AreAbove n os → AreAbove n (filter p os)
above-filter p n [] above = tt
above-filter p n (o ∷ os) above = ⊎_elim
    (λ (is : p o ≡ true). rw is (above.0, above-filter p n os above.1))
    (λ (not : p o ≡ false). rw not (above-filter p n os above.1))
    (cases_Bool (p o))

not-first : (all : List SentNote) (n : ℕ) (fs : List Frame) (os : List Offered) → AreAbove n os → map (shown_by all) fs ≡ map shown_of os
    → IsNotFirst n fs
not-first all n [] os above same = tt
not-first all n (f ∷ fs) [] above same = absurd (grind (arith, ap length same))
not-first all n (f ∷ fs) (o ∷ os) above same = λ first.
    let number : f.number ≡ o.frame = first_same same in omega (arith, number, first, above.0)
  where
    first_same : {a b : Shown} {xs ys : List Shown} → a ∷ xs ≡ b ∷ ys → a.number ≡ b.number
    first_same same = cc

-- a frame of this flow comes first
frame_first : (o : Offered) (os : List Offered) (all mine rest : List SentNote) (k : ℕ) → IsShownBy o k mine all → AreAbove o.frame os
    → map (shown_by all) (frames_of_notes (flow_notes o.flow (k + length mine) rest)) ≡ map shown_of (filter (λ p. p.flow == o.flow) os)
    → map (shown_by all) (frames_of_notes (flow_notes o.flow k (mine ++ rest))) ≡ shown_of o ∷ map shown_of (filter (λ p. p.flow == o.flow) os)
frame_first o os all mine rest k shown above later =
    let s : SentNote = shown.first in
    let ss : List SentNote = shown.others in
    let are : mine ≡ s ∷ ss = shown.are in
    let of_frame : AreOf o (s ∷ ss) = rw are at shown.of_frame in
    let bytes : map (byte_at all) (marks_in k (s ∷ ss)) ≡ o.payload = rw are at shown.bytes in
    let there = rw are at later in
    let other : IsNotFirst o.frame (frames_of_notes (flow_notes o.flow (k + length (s ∷ ss)) rest)) =
    not-first all o.frame _ (filter (λ p. p.flow == o.flow) os) (above-filter (λ p. p.flow == o.flow) o.frame os above) there in
    rw are
    (ap (λ fs. map (shown_by all) fs) (merged o s ss rest k of_frame other)
    ∙ ap (λ bs. record { number = o.frame; seq = o.seq; total = length o.payload; bytes = bs } ∷ map (shown_by all)
    (frames_of_notes (flow_notes o.flow (k + length (s ∷ ss)) rest))) bytes
    ∙ ap (λ others. shown_of o ∷ others) there)

-- Notes that show frames have, of each flow, the frames of that flow, with their bytes.
pub frames_shown : (split flow : ℕ) (os : List Offered) (all before notes : List SentNote) → all ≡ before ++ notes → ShowFrames split os notes
    → Ascend os → HaveBytes os
    → map (shown_by all) (frames_of_notes (flow_notes flow (length before) notes)) ≡ map shown_of (filter (λ o. o.flow == flow) os)
frames_shown split flow [] all before notes is shows ascend some = rw shows refl
frames_shown split flow (o ∷ os) all before notes is shows ascend some =
    let mine : List SentNote = shows.0 in
    let rest : List SentNote = shows.1 in
    let parts : notes ≡ mine ++ rest = shows.2 in
    let is_here : all ≡ before ++ (mine ++ rest) = is ∙ ap (λ ns. before ++ ns) parts in
    let shown = is_shown split o before mine rest all is_here some.0 shows.3 in
    let is_later : all ≡ (before ++ mine) ++ rest = is_here ∙ sym (append_assoc before mine rest) in
    let later = rw (length-append before mine) at (frames_shown split flow os all (before ++ mine) rest is_later shows.4 ascend.1 some.1) in
    rw parts (⊎_elim
    (λ (is_mine : (o.flow == flow) ≡ true).
    let same : flow ≡ o.flow = sym (eqb-true o.flow flow is_mine) in
    rw is_mine (subst (λ f. map (shown_by all) (frames_of_notes (flow_notes f (length before + length mine) rest)) ≡ map shown_of (filter (λ p. p.flow == f) os)
    → map (shown_by all) (frames_of_notes (flow_notes f (length before) (mine ++ rest))) ≡ shown_of o ∷ map shown_of (filter (λ p. p.flow == f) os))
    (sym same) (frame_first o os all mine rest (length before) shown ascend.0) later))
    (λ (not_mine : (o.flow == flow) ≡ false).
    rw (not_mine, passed o flow mine rest (length before) shown.of_frame (λ same. eqb-false o.flow flow not_mine same)) later)
    (cases_Bool (o.flow == flow)))
