-- Of a loan that was read whole there are the bytes at its marks.
use Rattle.std.proofs.Common.{◌≡◌, ℕ, zero, suc, ◌+◌, ◌-◌, ◌<◌, true, false, List, [], ◌∷◌, Some, length, take, drop, refl, sym, ap, subst, ◌∙◌, arith, ⊎_elim}
use Rattle.std.{proofs.lemmas.{Bool.{cases_Bool}, List.{length-take, length-drop}}, specs.Prelude.{MatchBool}}
use Rattle.zr_kinds.specs.CopyingReceiver.{value_at}
use Rattle.board_face.specs.{AppCalls.{ShowsCopy}, Texts.{further}, declared.views.app.{LentPiece.{LentPiece}, Origin.{Origin}}}
use Rattle.board_face.specs.declared.views.app.{Origin.TheVariants.{Note as of_note, Copied as of_copy}, Reading.{Reading}, TakenNote.{TakenNote}, AppView.{AppView}}
use Rattle.flow_queues.specs.{declared.queues.Lending.{Lending}, Marks.{Mark, marks_from}, Core.{Each, IsOfTaken, IsReadAt, IsByteAt, AreReadAt, lent_piece}}
use Rattle.flow_queues.{specs.Totals.{loan_entries}, proofs.{NotesStay.{note-there}, Standing.{each-map}}}
use Rattle.app_worker.{specs.{ReadWhole.{IsByteRead, IsReadWhole, HasBytes, GivesRead}, State.{State, AppStands}}, proofs.EachBoth.{each-both}}

value-there : (xs : List ℕ) (k : ℕ) → k < length xs → (x : ℕ) × (value_at xs k ≡ Some x)
value-there [] k below = absurd (omega arith)
value-there (x ∷ xs) zero below = (x, refl)
value-there (x ∷ xs) (suc k) below = value-there xs k (omega arith)

-- ---- one byte

abbrev mark_at : Lending → ℕ → Mark
mark_at l byte = record { note = l.note; place = l.at + byte }

-- of a note that tells of a piece in the area
by-piece : (reads : List Reading) (l : Lending) (byte : ℕ) (loan : LentPiece) → loan.origin ≡ of_note l.note l.at → IsByteRead reads loan byte
    → (x : ℕ) × IsReadAt reads (mark_at l byte) x
by-piece reads l byte loan origin read =
    let place : l.at + byte - (l.at + read.from) ≡ byte - read.from = omega arith in
    let (x, is) = value-there read.reading.bytes (byte - read.from) (omega (arith, read.at_or_behind, read.within)) in (
      x,
      record {
        reading = read.reading;
        read = read.read;
        from = l.at + read.from;
        origin = read.origin ∙ ap (λ (o : Origin). further o read.from) origin;
        at_or_behind = omega (arith, read.at_or_behind);
        is = ap (value_at read.reading.bytes) place ∙ is;
      },
    )

-- of one in which its bytes travelled
by-copy : (reads : List Reading) (l : Lending) (byte : ℕ) (loan : LentPiece) (text : List ℕ)
    → loan.origin ≡ of_copy (take l.loan.len (drop l.at text)) → IsByteRead reads loan byte → (x : ℕ) × (value_at text (l.at + byte) ≡ Some x)
by-copy reads l byte loan text origin read =
    let copy : List ℕ = take l.loan.len (drop l.at text) in
    let shows : read.reading.bytes ≡ take (length read.reading.bytes) (drop read.from copy) = subst
    (λ (o : Origin). ShowsCopy o read.from read.reading.bytes) origin read.shows in
    value-there text (l.at + byte) (omega (
      arith,
      ap length shows,
      length-take (length read.reading.bytes) (drop read.from copy),
      length-drop read.from copy,
      length-take l.loan.len (drop l.at text),
      length-drop l.at text,
      read.at_or_behind,
      read.within,
    ))

byte-there : (taken : List TakenNote) (reads : List Reading) (l : Lending) → l.note < length taken → (byte : ℕ)
    → IsByteRead reads (lent_piece taken l) byte → (x : ℕ) × IsByteAt taken reads (mark_at l byte) x
byte-there taken reads l known byte read =
    let (t, is) = note-there taken l.note known in
    ⊎_elim
    (λ (yes : t.note.split ≡ true).
    let (x, at) = by-piece reads l byte (lent_piece taken l) (rw (is, yes) refl) read in (
      x,
      record {
        note = t;
        is = is;
        stands = subst (λ b. MatchBool b (IsReadAt reads (mark_at l byte) x) (value_at t.bytes (l.at + byte) ≡ Some x)) (sym yes) at;
      },
    ))
    (λ (no : t.note.split ≡ false).
    let (x, at) = by-copy reads l byte (lent_piece taken l) t.bytes (rw (is, no) refl) read in (
      x,
      record {
        note = t;
        is = is;
        stands = subst (λ b. MatchBool b (IsReadAt reads (mark_at l byte) x) (value_at t.bytes (l.at + byte) ≡ Some x)) (sym no) at;
      },
    ))
    (cases_Bool t.note.split)

-- ---- all of them

all-there : (taken : List TakenNote) (reads : List Reading) (note at n : ℕ)
    → ((byte : ℕ) → byte < n → (x : ℕ) × IsByteAt taken reads (record { note = note; place = at + byte }) x)
    → (bytes : List ℕ) × AreReadAt taken reads (marks_from note at n) bytes
all-there taken reads note at zero each = ([], tt)
all-there taken reads note at (suc n) each =
    let first : at + 0 ≡ at = omega arith in
    let (x, here) = each 0 (omega arith) in
    let (xs, rest) = all-there taken reads note (suc at) n (λ byte below.
    let next : at + suc byte ≡ suc at + byte = omega arith in
    subst (λ p. (y : ℕ) × IsByteAt taken reads (record { note = note; place = p }) y) next (each (suc byte) (omega (arith, below)))) in
    (x ∷ xs, (subst (λ p. IsByteAt taken reads (record { note = note; place = p }) x) first here, rest))

whole-bytes : (v : AppView) (loan : LentPiece) → IsOfTaken v.taken loan → IsReadWhole v.reads loan → HasBytes v loan
whole-bytes v loan of whole =
    let l : Lending = of.lending in
    let own : IsReadWhole v.reads (lent_piece v.taken l) = subst (IsReadWhole v.reads) of.is whole in
    let (bytes, are) = all-there v.taken v.reads l.note l.at l.loan.len
    (λ byte below. byte-there v.taken v.reads l of.known byte (own byte below)) in
    record { lending = l; known = of.known; is = of.is; bytes = bytes; are = are }

each-first : {A : Type 0} (P : A → Type 0) (n : ℕ) (xs : List A) → Each P xs → Each P (take n xs)
each-first P zero xs each = tt
each-first P (suc n) [] each = tt
each-first P (suc n) (x ∷ xs) each = (each.0, each-first P n xs each.1)

pub given-read : (st : State) (v : AppView) → AppStands st v → GivesRead v
given-read st v stands =
    let given : List LentPiece = take (loan_entries v) v.returned in
    each-map (λ x. IsOfTaken v.taken x × IsReadWhole v.reads x) (HasBytes v) given (λ x _ p. whole-bytes v x p.0 p.1)
    (each-both (IsOfTaken v.taken) (IsReadWhole v.reads) given
    (each-first (IsOfTaken v.taken) (loan_entries v) v.returned stands.common.origins) stands.common.gives_whole)
