-- What is read through a loan stands at its marks.
use Rattle.std.proofs.Common.{◌≡◌, ℕ, zero, suc, ◌+◌, ◌<◌, ◌≤◌, Bool, true, false, List, [], ◌∷◌, ◌++◌, Option, Some, length, take, refl}
use Rattle.std.proofs.{Common.{sym, ap, subst, ◌∙◌, arith, ⊎_elim, append_assoc, append-nil, length-append, length-take-le, take_all}, lemmas.Bool.{cases_lt}}
use Rattle.std.specs.{Prelude.{MatchBool}, Io.KnownBytes.{Appends}}
use Rattle.zr_kinds.specs.CopyingReceiver.{value_at}
use Rattle.zr_io.{specs.Moved.{Gained}, proofs.Moved.{Gained-added, Gained-then}}
use Rattle.board_face.specs.{Texts.{further}, AppEvents.{has_read, loan_origin, reads_with}, declared.views.app.Origin.{Origin}, AppCalls.{ShowsCopy}}
use Rattle.board_face.specs.declared.views.app.{TakenNote.{TakenNote}, Reading.{Reading}, LentPiece.{LentPiece}, AppView.{AppView}}
use Rattle.flow_queues.specs.{declared.queues.Lending.{Lending}, Marks.{Mark, marks_from}}
use Rattle.flow_queues.{specs.Core.{IsIn, LieApart, lent_piece, IsReadAt, IsByteAt, AreReadAt, OnlyReads, IsReadOf, most_at_once}, proofs.Tokens.{in-left}}
use Rattle.flow_queues.proofs.{NotesStay.{taken-still}, Reading.{read-there}}

-- a byte is read at each mark
pub are-many : (taken : List TakenNote) (reads : List Reading) (marks : List Mark) (bytes : List ℕ) → AreReadAt taken reads marks bytes
    → length bytes ≡ length marks
are-many taken reads [] [] are = refl
are-many taken reads (m ∷ ms) (b ∷ bs) are = ap suc (are-many taken reads ms bs are.1)
are-many taken reads [] (b ∷ bs) are = absurd are
are-many taken reads (m ∷ ms) [] are = absurd are

read-grows : (reads more : List Reading) (mark : Mark) (byte : ℕ) → IsReadAt reads mark byte → IsReadAt (reads ++ more) mark byte
read-grows reads more mark byte at = record {
  reading = at.reading;
  read = in-left at.reading reads more at.read;
  from = at.from;
  origin = at.origin;
  at_or_behind = at.at_or_behind;
  is = at.is;
}

by-split : (b : Bool) (P Q R : Type 0) → (P → Q) → MatchBool b P R → MatchBool b Q R
by-split true P Q R step is = step is
by-split false P Q R step is = is

byte-grows : (taken : List TakenNote) (reads more : List Reading) (mark : Mark) (byte : ℕ) → IsByteAt taken reads mark byte
    → IsByteAt taken (reads ++ more) mark byte
byte-grows taken reads more mark byte at = record {
  note = at.note;
  is = at.is;
  stands = by-split at.note.note.split (IsReadAt reads mark byte) (IsReadAt (reads ++ more) mark byte) (value_at at.note.bytes mark.place ≡ Some byte)
      (read-grows reads more mark byte) at.stands;
}

pub all-grow : (taken : List TakenNote) (reads more : List Reading) (marks : List Mark) (bytes : List ℕ) → AreReadAt taken reads marks bytes
    → AreReadAt taken (reads ++ more) marks bytes
all-grow taken reads more [] [] are = tt
all-grow taken reads more (m ∷ ms) (b ∷ bs) are = (byte-grows taken reads more m b are.0, all-grow taken reads more ms bs are.1)
all-grow taken reads more [] (b ∷ bs) are = absurd are
all-grow taken reads more (m ∷ ms) [] are = absurd are

-- a note that was taken is the same among more
-- and so is what stands at marks
pub all-noted : (taken : List TakenNote) (t : TakenNote) (reads : List Reading) (marks : List Mark) (bytes : List ℕ) → AreReadAt taken reads marks bytes
    → AreReadAt (taken ++ t ∷ []) reads marks bytes
all-noted taken t reads [] [] are = tt
all-noted taken t reads (m ∷ ms) (b ∷ bs) are = (
  record { note = are.0.note; is = taken-still taken t are.0.note m.note are.0.is; stands = are.0.stands },
  all-noted taken t reads ms bs are.1,
)
all-noted taken t reads [] (b ∷ bs) are = absurd are
all-noted taken t reads (m ∷ ms) [] are = absurd are

pub read-append : (taken : List TakenNote) (reads : List Reading) (ms ns : List Mark) (bs cs : List ℕ) → AreReadAt taken reads ms bs
    → AreReadAt taken reads ns cs → AreReadAt taken reads (ms ++ ns) (bs ++ cs)
read-append taken reads [] ns [] cs first second = second
read-append taken reads (m ∷ ms) ns (b ∷ bs) cs first second = (first.0, read-append taken reads ms ns bs cs first.1 second)
read-append taken reads [] ns (b ∷ bs) cs first second = absurd first
read-append taken reads (m ∷ ms) ns [] cs first second = absurd first

pub marks-split : (note at k m : ℕ) → marks_from note at (k + m) ≡ marks_from note at k ++ marks_from note (at + k) m
marks-split note at zero m = let a : at ≡ at + 0 = omega arith in let b : 0 + m ≡ m = omega arith in ap (marks_from note at) b
    ∙ ap (λ p. marks_from note p m) a
marks-split note at (suc k) m =
    let steps : suc k + m ≡ suc (k + m) = omega arith in
    let place : suc at + k ≡ at + suc k = omega arith in
    rw steps (ap (λ ms. record { note = note; place = at } ∷ ms)
    (marks-split note (suc at) k m ∙ ap (λ p. marks_from note (suc at) k ++ marks_from note p m) place))

pub only-none : (v : AppView) → OnlyReads v v
only-none v = record { view = refl; more = []; are = sym (append-nil v.reads) }

grown : (reads : List Reading) (origin : Origin) (text : List ℕ) → (more : List Reading) × (reads_with reads origin text ≡ reads ++ more)
grown reads origin [] = ([], sym (append-nil reads))
grown reads origin (b ∷ bs) = (record { origin = origin; bytes = b ∷ bs } ∷ [], refl)

pub only-then : (u v w : AppView) → OnlyReads u v → OnlyReads v w → OnlyReads u w
only-then u v w first second = record {
  view = second.view ∙ ap (λ (x : AppView). record x { reads = w.reads }) first.view;
  more = first.more ++ second.more;
  are = second.are ∙ ap (λ rs. rs ++ second.more) first.are ∙ append_assoc u.reads first.more second.more;
}

pub only-read : (v : AppView) (l : Lending) (from : ℕ) (text : List ℕ) → OnlyReads v (has_read v l.loan from text)
only-read v l from text = let (more, are) = grown v.reads (further (loan_origin v l.loan) from) text in record { view = refl; more = more; are = are }

-- tokens stay where only reads came
pub still-apart : (v w : AppView) → OnlyReads v w → LieApart v → LieApart w
still-apart v w only lie = rw only.view (record { once = lie.once; some = lie.some })

pub still-out : (v w : AppView) (l : LentPiece) → OnlyReads v w → IsIn l v.loans → IsIn l w.loans
still-out v w l only out = rw only.view out

-- ---- what was gained

-- exactly so many bytes
pub record IsReadTo (taken : List TakenNote) (reads : List Reading) (l : Lending) (done : ℕ) (bytes : List ℕ) : Type 0 where
  pub are : AreReadAt taken reads (marks_from l.note l.at done) bytes
  pub size : length bytes ≡ done

pub one-more : (taken : List TakenNote) (a b c : Option (List ℕ)) (v : AppView) (lie : LieApart v) (l : Lending) (done : ℕ) (text piece : List ℕ)
    → IsIn (lent_piece taken l) v.loans → l.note < length taken → ShowsCopy (loan_origin v l.loan) done text → done + length text ≤ l.loan.len
    → piece ≡ text
    → Gained a b (IsReadTo taken v.reads l done) → Appends b c piece
    → Gained a c (IsReadTo taken (has_read v l.loan done text).reads l (done + length text))
one-more taken a b c v lie l done text piece out known shows fits same before added =
    let w : AppView = has_read v l.loan done text in
    let only = only-read v l done text in
    Gained-then a b c (IsReadTo taken v.reads l done) (λ bytes. bytes ≡ text) (IsReadTo taken w.reads l (done + length text))
    (λ xs ys was is.
    let grow : AreReadAt taken w.reads (marks_from l.note l.at done) xs = subst (λ rs. AreReadAt taken rs (marks_from l.note l.at done) xs) (sym only.are)
    (all-grow taken v.reads only.more (marks_from l.note l.at done) xs was.are) in
    let more : AreReadAt taken w.reads (marks_from l.note (l.at + done) (length text)) ys = subst
    (AreReadAt taken w.reads (marks_from l.note (l.at + done) (length text)))
    (sym is) (read-there taken v lie l done text out known shows fits) in
    let both = read-append taken w.reads (marks_from l.note l.at done) (marks_from l.note (l.at + done) (length text)) xs ys grow more in
    record {
      are = subst (λ ms. AreReadAt taken w.reads ms (xs ++ ys)) (sym (marks-split l.note l.at done (length text))) both;
      size = length-append xs ys ∙ ap (λ n. n + length ys) was.size ∙ ap (λ zs. done + length zs) is;
    })
    before (Gained-added b c piece (λ bytes. bytes ≡ text) added same)

-- the shelf failed, and took a front of it
pub some-more : (taken : List TakenNote) (a b c : Option (List ℕ)) (v : AppView) (lie : LieApart v) (l : Lending) (done most n : ℕ)
    (text piece : List ℕ) → IsIn (lent_piece taken l) v.loans → l.note < length taken → ShowsCopy (loan_origin v l.loan) done text
    → most ≤ l.loan.len → done + length text ≤ most → length text ≤ most_at_once → piece ≡ text
    → Gained a b (IsReadTo taken v.reads l done) → Appends b c (take n piece)
    → Gained a c (IsReadOf taken (has_read v l.loan done text).reads l done most)
some-more taken a b c v lie l done most n text piece out known shows part fits once same before added =
    let w : AppView = has_read v l.loan done text in
    let only = only-read v l done text in
    Gained-then a b c (IsReadTo taken v.reads l done) (λ bytes. bytes ≡ take n text) (IsReadOf taken w.reads l done most)
    (λ xs ys was is.
    let few : length ys ≤ length text = ⊎_elim
    (λ (less : n < length text). let e : length (take n text) ≡ n = length-take-le n text (omega arith) in let f : length ys
    ≡ length (take n text) = ap length is in omega arith)
    (λ (all : length text ≤ n). let e : take n text ≡ text = take_all n text all in let f : length ys ≡ length text = ap length is
    ∙ ap length e in omega arith)
    (cases_lt n (length text)) in
    let there : AreReadAt taken w.reads (marks_from l.note (l.at + done) (length text)) text = read-there taken v lie l done text out known shows
    (omega (arith, fits, part)) in
    let front : AreReadAt taken w.reads (marks_from l.note (l.at + done) (length ys)) ys =
    subst (λ zs. AreReadAt taken w.reads (marks_from l.note (l.at + done) (length zs)) zs) (sym is) (front-read w.reads l.note (l.at + done) n text there) in
    let grow : AreReadAt taken w.reads (marks_from l.note l.at done) xs = subst (λ rs. AreReadAt taken rs (marks_from l.note l.at done) xs) (sym only.are)
    (all-grow taken v.reads only.more (marks_from l.note l.at done) xs was.are) in
    let both = read-append taken w.reads (marks_from l.note l.at done) (marks_from l.note (l.at + done) (length ys)) xs ys grow front in
    let size : length (xs ++ ys) ≡ done + length ys = length-append xs ys ∙ ap (λ k. k + length ys) was.size in
    record {
      are = subst (λ k. AreReadAt taken w.reads (marks_from l.note l.at k) (xs ++ ys)) (sym size)
          (subst (λ ms. AreReadAt taken w.reads ms (xs ++ ys)) (sym (marks-split l.note l.at done (length ys))) both);
      at_least = omega (arith, size);
      at_most = omega (arith, size, few, fits);
      at_once = omega (arith, size, few, once);
    })
    before (Gained-added b c (take n piece) (λ bytes. bytes ≡ take n text) added (ap (take n) same))
  where
    front-read : (reads : List Reading) (note at n : ℕ) (text : List ℕ) → AreReadAt taken reads (marks_from note at (length text)) text
        → AreReadAt taken reads (marks_from note at (length (take n text))) (take n text)
    front-read reads note at zero text are = tt
    front-read reads note at (suc n) [] are = tt
    front-read reads note at (suc n) (b ∷ bs) are = (are.0, front-read reads note (suc at) n bs are.1)

pub read-of : (taken : List TakenNote) (reads : List Reading) (l : Lending) (done most : ℕ) (bytes : List ℕ) → done ≤ most
    → IsReadTo taken reads l done bytes
    → IsReadOf taken reads l done most bytes
read-of taken reads l done most bytes within to = record {
  are = subst (λ k. AreReadAt taken reads (marks_from l.note l.at k) bytes) (sym to.size) to.are;
  at_least = omega (arith, to.size);
  at_most = omega (arith, to.size, within);
  at_once = omega (arith, to.size);
}
