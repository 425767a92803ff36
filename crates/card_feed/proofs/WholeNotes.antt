-- Notes that show frames are taken as whole frames.
use Rattle.std.proofs.Common.{◌≡◌, ◌≢◌, ℕ, suc, ◌+◌, ◌<◌, ◌≤◌, List, [], ◌∷◌, ◌++◌, length, map, true, false, refl, sym, ap, subst, ◌∙◌, ⊎_elim, arith, All}
use Rattle.std.proofs.lemmas.{Bool.{cases_Bool, cases_lt, cases_eq}, List.Elements.{All-head, All-tail}}
use Rattle.zr_kinds.specs.declared.place.Place.{Place}
use Rattle.board_face.specs.{Relay.{as_taken, IsProper}, declared.views.{nic.SentNote.{SentNote}, app.TakenNote.{TakenNote}}}
use Rattle.flow_queues.specs.Marks.{NumberedNote, numbered_notes, AreOfOthers, FollowsNote, LiesInFrame, AllStand, FramesStandTogether}
use Rattle.page_pool.specs.Frames.{Offered, IsNoteOf, ShowRest, ShowsFrame, ShowFrames}
use Rattle.card_feed.{specs.Sent.{FirstFramesStandTogether}, proofs.NotesShown.{AreAbove, Ascend, HaveBytes}}

-- ---- each note follows the one before it

-- the second goes on with the frame of the first, or begins one with a higher number
pub record FollowsInOrder (m n : NumberedNote) : Type 0 where
  pub follows : FollowsNote m.note n.note
  pub rises : n.note.frame ≢ m.note.frame → m.note.frame < n.note.frame

abbrev at_number : ℕ → SentNote → NumberedNote
at_number k s = record { number = k; note = s.note }

-- all of these follow each other, from the one before them on
abbrev pub AreLinked : NumberedNote → List NumberedNote → Type 0
AreLinked y [] = Unit {0}
AreLinked y (n ∷ ns) = FollowsInOrder y n × AreLinked n ns

abbrev pub LinkTogether : List NumberedNote → Type 0
LinkTogether [] = Unit {0}
LinkTogether (n ∷ ns) = (n.note.at ≡ 0) × AreLinked n ns

goes_on : (o : Offered) (k j : ℕ) (y s : SentNote) → IsNoteOf o y → IsNoteOf o s → s.note.at ≡ y.note.at + y.note.place.len
    → FollowsInOrder (at_number k y) (at_number j s)
goes_on o k j y s of_y of_s begin = record {
  follows = record {
    same = λ _. record {
      flow = of_s.flow ∙ sym of_y.flow;
      base = of_s.base ∙ sym of_y.base;
      seq = of_s.seq ∙ sym of_y.seq;
      total = of_s.total ∙ sym of_y.total;
      at = begin;
    };
    next = λ other. absurd (other (of_s.frame ∙ sym of_y.frame));
  };
  rises = λ other. absurd (other (of_s.frame ∙ sym of_y.frame));
}

begins_next : (k j : ℕ) (y s : SentNote) → y.note.frame < s.note.frame → s.note.at ≡ 0 → FollowsInOrder (at_number k y) (at_number j s)
begins_next k j y s above begin = record {
  follows = record {
    same = λ same. absurd (omega (arith, same, above));
    next = λ _. begin;
  };
  rises = λ _. above;
}

-- the notes of a frame: the first begins it, and the others go on to its end
record Leads (o : Offered) (mine : List SentNote) : Type 0 where
  first : SentNote
  others : List SentNote
  are : mine ≡ first ∷ others
  of_frame : IsNoteOf o first
  begin : first.note.at ≡ 0
  rest : ShowRest o first.note.place.len others

leads : (split : ℕ) (o : Offered) (mine : List SentNote) → 0 < length o.payload → ShowsFrame split o mine → Leads o mine
leads split o mine some shows = ⊎_elim
    (λ (long : split < length o.payload). by_rest mine (shows.long long))
    (λ (short : length o.payload ≤ split). let one = shows.short short in
    record { first = one.0; others = []; are = one.1; of_frame = one.2.of_frame; begin = one.2.begin; rest = one.2.len })
    (cases_lt split (length o.payload))
  where
    by_rest : (notes : List SentNote) → ShowRest o 0 notes → Leads o notes
    by_rest [] show = absurd (omega (arith, show, some))
    by_rest (s ∷ ss) show = let next : 0 + s.note.place.len ≡ s.note.place.len = omega arith in
        record { first = s; others = ss; are = refl; of_frame = show.0.of_frame; begin = show.0.begin; rest = subst (λ n. ShowRest o n ss) next show.1 }

-- the notes of one frame, from one of them on, and then those of later frames
frame-linked : (o : Offered) (from k : ℕ) (y : SentNote) (mine rest : List SentNote) → IsNoteOf o y → y.note.at + y.note.place.len ≡ from
    → ShowRest o from mine
    → ((z : SentNote) (j : ℕ) → IsNoteOf o z → AreLinked (at_number j z) (numbered_notes (suc j) (map as_taken rest)))
    → AreLinked (at_number k y) (numbered_notes (suc k) (map as_taken (mine ++ rest)))
frame-linked o from k y [] rest of_y ends show later = later y k of_y
frame-linked o from k y (s ∷ mine) rest of_y ends show later = (
  goes_on o k (suc k) y s of_y show.0.of_frame (show.0.begin ∙ sym ends),
  frame-linked o (from + s.note.place.len) (suc k) s mine rest show.0.of_frame (ap (λ n. n + s.note.place.len) show.0.begin) show.1 later,
)

-- the notes of later frames, behind the last of a frame
later-linked : (split : ℕ) (os : List Offered) (k : ℕ) (y : SentNote) (notes : List SentNote) → ShowFrames split os notes → AreAbove y.note.frame os
    → Ascend os → HaveBytes os → AreLinked (at_number k y) (numbered_notes (suc k) (map as_taken notes))
later-linked split [] k y notes shows above ascend some = rw shows tt
later-linked split (o ∷ os) k y notes shows above ascend some =
    let lead = leads split o shows.0 some.0 shows.3 in
    let are : notes ≡ lead.first ∷ (lead.others ++ shows.1) = shows.2 ∙ ap (λ ns. ns ++ shows.1) lead.are in
    subst (λ ns. AreLinked (at_number k y) (numbered_notes (suc k) (map as_taken ns))) (sym are) (
      begins_next k (suc k) y lead.first (omega (arith, above.0, lead.of_frame.frame)) lead.begin,
      frame-linked o lead.first.note.place.len (suc k) lead.first lead.others shows.1 lead.of_frame (omega (arith, lead.begin)) lead.rest
          (λ z j of_z. later-linked split os j z shows.1 shows.4 (subst (λ n. AreAbove n os) (sym of_z.frame) ascend.0) ascend.1 some.1),
    )

pub shown-linked : (split : ℕ) (os : List Offered) (notes : List SentNote) → ShowFrames split os notes → Ascend os → HaveBytes os
    → LinkTogether (numbered_notes 0 (map as_taken notes))
shown-linked split [] notes shows ascend some = rw shows tt
shown-linked split (o ∷ os) notes shows ascend some =
    let lead = leads split o shows.0 some.0 shows.3 in
    let are : notes ≡ lead.first ∷ (lead.others ++ shows.1) = shows.2 ∙ ap (λ ns. ns ++ shows.1) lead.are in
    subst (λ ns. LinkTogether (numbered_notes 0 (map as_taken ns))) (sym are) (
      lead.begin,
      frame-linked o lead.first.note.place.len 0 lead.first lead.others shows.1 lead.of_frame (omega (arith, lead.begin)) lead.rest
          (λ z j of_z. later-linked split os j z shows.1 shows.4 (subst (λ n. AreAbove n os) (sym of_z.frame) ascend.0) ascend.1 some.1),
    )

-- ---- the first of them

linked-first : (k : ℕ) (y : NumberedNote) (taken later : List TakenNote) → AreLinked y (numbered_notes k (taken ++ later))
    → AreLinked y (numbered_notes k taken)
linked-first k y [] later linked = tt
linked-first k y (t ∷ taken) later linked = (linked.0, linked-first (suc k) _ taken later linked.1)

pub first-linked : (taken later : List TakenNote) → LinkTogether (numbered_notes 0 (taken ++ later)) → LinkTogether (numbered_notes 0 taken)
first-linked [] later linked = tt
first-linked (t ∷ taken) later linked = (linked.0, linked-first 1 _ taken later linked.1)

first_fits : (y : NumberedNote) (ns : List NumberedNote) → AllStand y ns → LiesInFrame y
first_fits y [] all = all
first_fits y (n ∷ ns) all = all.0

others-first : (frame k : ℕ) (taken later : List TakenNote) → AreOfOthers frame (numbered_notes k (taken ++ later)) → AreOfOthers frame (numbered_notes k taken)
others-first frame k [] later others = tt
others-first frame k (t ∷ taken) later others = (others.0, others-first frame (suc k) taken later others.1)

stand-first : (k : ℕ) (y : NumberedNote) (taken later : List TakenNote) → AllStand y (numbered_notes k (taken ++ later)) → AllStand y (numbered_notes k taken)
stand-first k y [] later all = first_fits y (numbered_notes k later) all
stand-first k y (t ∷ taken) later all = (
  all.0,
  all.1,
  λ next. others-first y.note.frame (suc k) taken later (all.2 next),
  stand-first (suc k) _ taken later all.3,
)

pub first-whole : FirstFramesStandTogether
first-whole [] later whole = tt
first-whole (t ∷ taken) later whole = (whole.0, stand-first 1 _ taken later whole.1)

-- ---- notes that may be sent

proper-fits : (k : ℕ) (s : SentNote) → IsProper s → LiesInFrame (at_number k s)
proper-fits k s proper = ⊎_elim
    (λ (split : s.note.split ≡ true). let is = proper.split split in record { within = is.within; bounded = is.bounded })
    (λ (linear : s.note.split ≡ false).
    let is = (proper.linear linear).0 in
    let len : s.note.place.len ≡ s.note.total = ap (λ (p : Place). p.len) is.place in
    record { within = omega (arith, is.from_begin, len); bounded = omega (arith, is.few_bytes) })
    (cases_Bool s.note.split)

-- the frames of all that follow are higher
others-above : (frame : ℕ) (y : NumberedNote) (ns : List NumberedNote) → frame < y.note.frame → AreLinked y ns → AreOfOthers frame ns
others-above frame y [] above linked = tt
others-above frame y (n ∷ ns) above linked =
    let higher : frame < n.note.frame = ⊎_elim
    (λ (goes : n.note.frame ≡ y.note.frame). omega (arith, goes, above))
    (λ begins. omega (arith, linked.0.rises begins, above))
    (cases_eq n.note.frame y.note.frame) in
    (λ same. absurd (omega (arith, same, higher)), others-above frame n ns higher linked.1)

proper-stand : (k : ℕ) (y : SentNote) (notes : List SentNote) → IsProper y → All IsProper notes
    → AreLinked (at_number k y) (numbered_notes (suc k) (map as_taken notes)) → AllStand (at_number k y) (numbered_notes (suc k) (map as_taken notes))
proper-stand k y [] proper others linked = proper-fits k y proper
proper-stand k y (s ∷ notes) proper others linked = (
  proper-fits k y proper,
  linked.0.follows,
  λ next. others-above y.note.frame (at_number (suc k) s) _ (linked.0.rises next) linked.1,
  proper-stand (suc k) s notes (All-head IsProper s notes others) (All-tail IsProper s notes others) linked.1,
)

pub proper-whole : (notes : List SentNote) → All IsProper notes → LinkTogether (numbered_notes 0 (map as_taken notes))
    → FramesStandTogether (map as_taken notes)
proper-whole [] proper linked = tt
proper-whole (s ∷ notes) proper linked =
    (linked.0, proper-stand 0 s notes (All-head IsProper s notes proper) (All-tail IsProper s notes proper) linked.1)
