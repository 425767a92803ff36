-- The bytes that one read of a loan gives are those at its marks.
use Rattle.std.proofs.Common.{◌≡◌, ℕ, zero, suc, ◌+◌, ◌-◌, ◌<◌, ◌≤◌, true, false, List, [], ◌∷◌, ◌++◌, Some, length, take, drop, refl}
use Rattle.std.{proofs.{Common.{sym, ap, subst, ◌∙◌, arith, ⊎_elim, inl, append_assoc, length-append}, lemmas.Bool.{cases_Bool}}, specs.Prelude.{MatchBool, slice_get}}
use Rattle.zr_kinds.specs.CopyingReceiver.{value_at}
use Rattle.board_face.specs.{Texts.{further}, AppEvents.{has_read, loan_origin, reads_with}, declared.views.app.{Origin.{Origin}, Reading.{Reading}, AppView.{AppView}}}
use Rattle.board_face.specs.{declared.views.app.{Origin.TheVariants.{Note as of_note, Copied as of_copy}, TakenNote.{TakenNote}}, AppCalls.{ShowsCopy}}
use Rattle.flow_queues.specs.{declared.queues.Lending.{Lending}, Marks.{Mark, marks_from}, Core.{IsIn, LieApart, lent_piece, origin_in, IsReadAt, AreReadAt}}
use Rattle.flow_queues.proofs.{Tokens.{in-right, loan-origin}, NotesStay.{note-there}}

pub value_at-middle : (xs : List ℕ) (y : ℕ) (ys : List ℕ) → value_at (xs ++ y ∷ ys) (length xs) ≡ Some y
value_at-middle [] y ys = refl
value_at-middle (x ∷ xs) y ys = value_at-middle xs y ys

-- ---- of a note that tells of a piece in the area

module _ (taken : List TakenNote) (note : ℕ) (t : TakenNote) (is_note : slice_get taken note ≡ Some t) where
  -- a text that was read from a place of a note on
  text-read : t.note.split ≡ true → (reads : List Reading) (at : ℕ) (before text : List ℕ)
      → IsIn (record { origin = of_note note at; bytes = before ++ text }) reads
      → AreReadAt taken reads (marks_from note (at + length before) (length text)) text
  text-read split reads at before [] is = tt
  text-read split reads at before (b ∷ bs) is =
      let place : at + length before - at ≡ length before = omega arith in
      let next : before ++ b ∷ bs ≡ (before ++ b ∷ []) ++ bs = sym (append_assoc before (b ∷ []) bs) in
      let longer : at + length (before ++ b ∷ []) ≡ suc (at + length before) =
      (let l : length (before ++ b ∷ []) ≡ length before + 1 = length-append before (b ∷ []) in omega arith) in
      let mark : Mark = record { note = note; place = at + length before } in
      let read : IsReadAt reads mark b = record {
        reading = record { origin = of_note note at; bytes = before ++ b ∷ bs };
        read = is;
        from = at;
        origin = refl;
        at_or_behind = omega arith;
        is = ap (value_at (before ++ b ∷ bs)) place ∙ value_at-middle before b bs;
      } in (
        record {
          note = t;
          is = is_note;
          stands = subst (λ b1. MatchBool b1 (IsReadAt reads mark b) (value_at t.bytes mark.place ≡ Some b)) (sym split) read;
        },
        subst (λ p. AreReadAt taken reads (marks_from note p (length bs)) bs) longer
            (text-read split reads at (before ++ b ∷ []) bs
            (subst (λ (ys : List ℕ). IsIn (record { origin = of_note note at; bytes = ys }) reads) next is)),
      )

  with-reads : t.note.split ≡ true → (reads : List Reading) (at : ℕ) (text : List ℕ)
      → AreReadAt taken (reads_with reads (of_note note at) text) (marks_from note at (length text)) text
  with-reads split reads at [] = tt
  with-reads split reads at (b ∷ bs) =
      let place : at + 0 ≡ at = omega arith in
      let all : List Reading = reads ++ record { origin = of_note note at; bytes = b ∷ bs } ∷ [] in
      subst (λ p. AreReadAt taken all (marks_from note p (length (b ∷ bs))) (b ∷ bs)) place
      (text-read split all at [] (b ∷ bs) (in-right (record { origin = of_note note at; bytes = b ∷ bs }) reads
      (record { origin = of_note note at; bytes = b ∷ bs } ∷ []) (inl refl)))

  -- ---- of one in which its bytes travelled

  -- the first of these bytes, and the others
  front-value : (bs : List ℕ) (at x : ℕ) (xs : List ℕ) (n : ℕ) → x ∷ xs ≡ take (suc n) (drop at bs)
      → (value_at bs at ≡ Some x) × (xs ≡ take n (drop (suc at) bs))
  front-value [] zero x xs n is = absurd (cc)
  front-value [] (suc at) x xs n is = absurd (cc)
  front-value (b ∷ bs) zero x xs n is = let head : b ≡ x = cc in let tail : xs ≡ take n bs = cc in (ap (λ y. Some y) head, tail)
  front-value (b ∷ bs) (suc at) x xs n is = front-value bs at x xs n is

  short-read : t.note.split ≡ false → (reads : List Reading) (at : ℕ) (text : List ℕ) → text ≡ take (length text) (drop at t.bytes)
      → AreReadAt taken reads (marks_from note at (length text)) text
  short-read split reads at [] is = tt
  short-read split reads at (b ∷ bs) is =
      let mark : Mark = record { note = note; place = at } in
      let (here, rest) = front-value t.bytes at b bs (length bs) is in (
        record {
          note = t;
          is = is_note;
          stands = subst (λ b1. MatchBool b1 (IsReadAt reads mark b) (value_at t.bytes at ≡ Some b)) (sym split) here;
        },
        short-read split reads (suc at) bs rest,
      )

take-less : (k len : ℕ) (ys : List ℕ) → k ≤ len → take k (take len ys) ≡ take k ys
take-less zero len ys within = refl
take-less (suc k) zero ys within = absurd (omega arith)
take-less (suc k) (suc len) [] within = refl
take-less (suc k) (suc len) (y ∷ ys) within = ap (λ zs. y ∷ zs) (take-less k len ys (omega arith))

part-of-part : (from k len : ℕ) (ys : List ℕ) → from + k ≤ len → take k (drop from (take len ys)) ≡ take k (drop from ys)
part-of-part zero k len ys within = take-less k len ys (omega arith)
part-of-part (suc from) k zero ys within = absurd (omega arith)
part-of-part (suc from) k (suc len) [] within = refl
part-of-part (suc from) k (suc len) (y ∷ ys) within = part-of-part from k len ys (omega arith)

drop-both : (a b : ℕ) (ys : List ℕ) → drop b (drop a ys) ≡ drop (a + b) ys
drop-both zero b ys = let e : b ≡ 0 + b = omega arith in ap (λ n. drop n ys) e
drop-both (suc a) zero [] = let e : suc (a + 0) ≡ suc a + 0 = omega arith in ap (λ n. drop n []) e
drop-both (suc a) (suc b) [] = let e : suc (a + suc b) ≡ suc a + suc b = omega arith in ap (λ n. drop n []) e
drop-both (suc a) b (y ∷ ys) = let e : suc (a + b) ≡ suc a + b = omega arith in drop-both a b ys ∙ ap (λ n. drop n (y ∷ ys)) e

-- what one read gives
pub read-there : (taken : List TakenNote) (v : AppView) (lie : LieApart v) (l : Lending) (from : ℕ) (text : List ℕ) → IsIn (lent_piece taken l) v.loans
    → l.note < length taken → ShowsCopy (loan_origin v l.loan) from text → from + length text ≤ l.loan.len
    → AreReadAt taken (has_read v l.loan from text).reads (marks_from l.note (l.at + from) (length text)) text
read-there taken v lie l from text out known shows fits =
    let (t, is) = note-there taken l.note known in
    let origin : loan_origin v l.loan ≡ origin_in (slice_get taken l.note) l.note l.at l.loan.len = loan-origin v lie (lent_piece taken l) out in
    ⊎_elim
    (λ (yes : t.note.split ≡ true).
    let split : loan_origin v l.loan ≡ of_note l.note l.at = origin ∙ (rw (is, yes) refl) in
    subst (λ (o : Origin). AreReadAt taken (reads_with v.reads (further o from) text) (marks_from l.note (l.at + from) (length text)) text) (sym split)
    (with-reads taken l.note t is yes v.reads (l.at + from) text))
    (λ (no : t.note.split ≡ false).
    let copy : loan_origin v l.loan ≡ of_copy (take l.loan.len (drop l.at t.bytes)) = origin ∙ (rw (is, no) refl) in
    let shown : text ≡ take (length text) (drop from (take l.loan.len (drop l.at t.bytes))) = subst (λ (o : Origin). ShowsCopy o from text) copy shows in
    let same : text ≡ take (length text) (drop (l.at + from) t.bytes) = shown ∙ part-of-part from (length text) l.loan.len (drop l.at t.bytes) fits
    ∙ ap (take (length text)) (drop-both l.at from t.bytes) in
    short-read taken l.note t is no (has_read v l.loan from text).reads (l.at + from) text same)
    (cases_Bool t.note.split)
