-- What was read of a loan, and which loans were read whole, as more is read, taken and given back.
use Rattle.std.proofs.Common.{◌≡◌, ℕ, zero, suc, ◌+◌, ◌<◌, ◌≤◌, List, [], ◌∷◌, ◌++◌, length, take, refl, sym, ap, subst, ◌∙◌, arith, ⊎_elim, inl, take_all}
use Rattle.std.proofs.lemmas.Bool.{cases_lt}
use Rattle.board_face.specs.{AppCalls.{ShowsCopy}, Texts.{further}, AppEvents.{has_read, loan_origin}, declared.views.app.{LentPiece.{LentPiece}, Origin.{Origin}}}
use Rattle.board_face.specs.declared.views.app.{Reading.{Reading}, TakenNote.{TakenNote}, AppView.{AppView}}
use Rattle.flow_queues.specs.{declared.queues.Lending.{Lending}, Core.{Each, IsIn, LieApart, OnlyReads, lent_piece}, Entries.{GivesAll}, Totals.{loan_entries}}
use Rattle.flow_queues.proofs.{Tokens.{in-left, in-right, loan-origin}, Standing.{each-map, each-join}, NotesStay.{lent-still}, GivenBack.{gives-count}}
use Rattle.app_worker.specs.ReadWhole.{IsByteRead, IsReadUpTo, IsReadWhole, AreReadWhole, GivesWhole}

-- ---- more is read

byte-grows : (reads more : List Reading) (loan : LentPiece) (byte : ℕ) → IsByteRead reads loan byte → IsByteRead (reads ++ more) loan byte
byte-grows reads more loan byte at = record {
  reading = at.reading;
  read = in-left at.reading reads more at.read;
  from = at.from;
  origin = at.origin;
  at_or_behind = at.at_or_behind;
  within = at.within;
  shows = at.shows;
}

whole-grows : (reads more : List Reading) (loan : LentPiece) → IsReadWhole reads loan → IsReadWhole (reads ++ more) loan
whole-grows reads more loan whole byte below = byte-grows reads more loan byte (whole byte below)

-- the next bytes of a loan are read
pub read-on : (taken : List TakenNote) (v : AppView) (lie : LieApart v) (l : Lending) (done : ℕ) (text : List ℕ) → IsIn (lent_piece taken l) v.loans
    → ShowsCopy (loan_origin v l.loan) done text → IsReadUpTo v.reads (lent_piece taken l) done
    → IsReadUpTo (has_read v l.loan done text).reads (lent_piece taken l) (done + length text)
read-on taken v lie l done [] out shows read byte below = read byte (omega (arith, below))
read-on taken v lie l done (b ∷ bs) out shows read byte below =
    let one : Reading = record { origin = further (loan_origin v l.loan) done; bytes = b ∷ bs } in
    let own : loan_origin v l.loan ≡ (lent_piece taken l).origin = loan-origin v lie (lent_piece taken l) out in
    ⊎_elim
    (λ (before : byte < done). byte-grows v.reads (one ∷ []) (lent_piece taken l) byte (read byte before))
    (λ (behind : done ≤ byte). record {
      reading = one;
      read = in-right one v.reads (one ∷ []) (inl refl);
      from = done;
      origin = ap (λ (o : Origin). further o done) own;
      at_or_behind = behind;
      within = below;
      shows = subst (λ (o : Origin). ShowsCopy o done (b ∷ bs)) own shows;
    })
    (cases_lt byte done)

-- ---- those that wait to be given back

pub read-more : (old new : AppView) (loans : List Lending) → OnlyReads old new → AreReadWhole old loans → AreReadWhole new loans
read-more old new loans only are =
    let taken : new.taken ≡ old.taken = ap (λ (v : AppView). v.taken) only.view in
    subst (λ ts. Each (λ l. IsReadWhole new.reads (lent_piece ts l)) loans) (sym taken)
    (subst (λ rs. Each (λ l. IsReadWhole rs (lent_piece old.taken l)) loans) (sym only.are)
    (each-map (λ l. IsReadWhole old.reads (lent_piece old.taken l)) (λ l. IsReadWhole (old.reads ++ only.more) (lent_piece old.taken l)) loans
    (λ l _ whole. whole-grows old.reads only.more (lent_piece old.taken l) whole) are))

-- one more note was taken
still-read : (reads : List Reading) (taken : List TakenNote) (t : TakenNote) (loans : List Lending) → Each (λ l. l.note < length taken) loans
    → Each (λ l. IsReadWhole reads (lent_piece taken l)) loans → Each (λ l. IsReadWhole reads (lent_piece (taken ++ t ∷ []) l)) loans
still-read reads taken t [] known are = tt
still-read reads taken t (l ∷ ls) known are =
    (subst (IsReadWhole reads) (sym (lent-still taken t l known.0)) are.0, still-read reads taken t ls known.1 are.1)

pub read-noted : (old new : AppView) (t : TakenNote) (loans : List Lending) → new.reads ≡ old.reads → new.taken ≡ old.taken ++ t ∷ []
    → Each (λ l. l.note < length old.taken) loans → AreReadWhole old loans → AreReadWhole new loans
read-noted old new t loans reads taken known are = subst (λ ts. Each (λ l. IsReadWhole new.reads (lent_piece ts l)) loans) (sym taken)
    (subst (λ rs. Each (λ l. IsReadWhole rs (lent_piece (old.taken ++ t ∷ []) l)) loans) (sym reads)
    (still-read old.reads old.taken t loans known are))

-- ---- those that entries gave back

-- the loans of which there are entries
abbrev pub given_of : AppView → List LentPiece
given_of v = take (loan_entries v) v.returned

pub gives-still : (old new : AppView) → new.reads ≡ old.reads → given_of new ≡ given_of old → GivesWhole old → GivesWhole new
gives-still old new reads given whole = subst (Each (IsReadWhole new.reads)) (sym given)
    (subst (λ rs. Each (IsReadWhole rs) (given_of old)) (sym reads) whole)

pub gives-more : (old new : AppView) → OnlyReads old new → GivesWhole old → GivesWhole new
gives-more old new only whole = subst (Each (IsReadWhole new.reads)) (sym (ap given_of only.view))
    (subst (λ rs. Each (IsReadWhole rs) (given_of old)) (sym only.are)
    (each-map (IsReadWhole old.reads) (IsReadWhole (old.reads ++ only.more)) (given_of old) (λ x _. whole-grows old.reads only.more x) whole))

-- where entries gave back all that went
pub given-all : (v : AppView) → GivesAll v v.returned → given_of v ≡ v.returned
given-all v gives = take_all (loan_entries v) v.returned (omega (arith, gives-count v v.returned gives))

-- one more is given back, which was read whole
pub gives-one : (old new : AppView) (x : LentPiece) → new.reads ≡ old.reads → new.returned ≡ old.returned ++ x ∷ [] → GivesAll old old.returned
    → GivesAll new new.returned → IsReadWhole old.reads x → GivesWhole old → GivesWhole new
gives-one old new x reads returned before after one whole = subst (Each (IsReadWhole new.reads)) (sym (given-all new after ∙ returned))
    (subst (λ rs. Each (IsReadWhole rs) (old.returned ++ x ∷ [])) (sym reads)
    (each-join (IsReadWhole old.reads) old.returned (x ∷ []) (subst (Each (IsReadWhole old.reads)) (given-all old before) whole) (one, tt)))

pub fresh_whole : (v : AppView) → v.returned ≡ [] → GivesWhole v
fresh_whole v returned = subst (λ ls. Each (IsReadWhole v.reads) (take (loan_entries v) ls)) (sym returned) (nothing (loan_entries v))
  where
    nothing : (n : ℕ) → Each (IsReadWhole v.reads) (take n [])
    nothing zero = tt
    nothing (suc n) = tt
