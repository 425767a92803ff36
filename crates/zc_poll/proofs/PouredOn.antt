-- What was poured stays so as notes come, bytes are read, and loans go.
use Rattle.std.proofs.Common.{◌≡◌, ℕ, ◌+◌, ◌≤◌, List, [], ◌∷◌, ◌++◌, length, take, drop, sym, subst, arith, append_assoc, append-nil, length-append, length-take}
use Rattle.board_face.specs.declared.views.app.{LentPiece.{LentPiece}, Reading.{Reading}, TakenNote.{TakenNote}, AppView.{AppView}}
use Rattle.flow_queues.{specs.{Marks.{Mark}, Core.{IsIn, AreReadAt}, Shelves.{AreOfOneLoan, kept_loans}}, proofs.NotesStay.{lent-still}}
use Rattle.flow_queues.proofs.ReadLemmas.{all-grow, all-noted, are-many}
use Rattle.zc_poll.specs.Pouring.{IsPoured}

-- ---- as notes come

pub all-noted-more : (taken more : List TakenNote) (reads : List Reading) (marks : List Mark) (bytes : List ℕ) → AreReadAt taken reads marks bytes
    → AreReadAt (taken ++ more) reads marks bytes
all-noted-more taken [] reads marks bytes are = subst (λ (ts : List TakenNote). AreReadAt ts reads marks bytes) (sym (append-nil taken)) are
all-noted-more taken (t ∷ more) reads marks bytes are =
    subst (λ (ts : List TakenNote). AreReadAt ts reads marks bytes) (append_assoc taken (t ∷ []) more)
    (all-noted-more (taken ++ t ∷ []) more reads marks bytes (all-noted taken t reads marks bytes are))

one-noted : (taken : List TakenNote) (t : TakenNote) (lent : List LentPiece) (marks : List Mark) → AreOfOneLoan taken lent marks
    → AreOfOneLoan (taken ++ t ∷ []) lent marks
one-noted taken t lent marks one = record {
  lending = one.lending;
  known = (let l : length (taken ++ t ∷ []) ≡ length taken + 1 = length-append taken (t ∷ []) in omega (arith, l, one.known));
  out = subst (λ p. IsIn p lent) (sym (lent-still taken t one.lending one.known)) one.out;
  from = one.from;
  within = one.within;
  are = one.are;
}

one-noted-more : (taken more : List TakenNote) (lent : List LentPiece) (marks : List Mark) → AreOfOneLoan taken lent marks
    → AreOfOneLoan (taken ++ more) lent marks
one-noted-more taken [] lent marks one = subst (λ (ts : List TakenNote). AreOfOneLoan ts lent marks) (sym (append-nil taken)) one
one-noted-more taken (t ∷ more) lent marks one =
    subst (λ (ts : List TakenNote). AreOfOneLoan ts lent marks) (append_assoc taken (t ∷ []) more)
    (one-noted-more (taken ++ t ∷ []) more lent marks (one-noted taken t lent marks one))

-- what a face has seen went on by these notes and reads
pub record SeesOn (v w : AppView) : Type 0 where
  pub notes : List TakenNote
  pub taken : w.taken ≡ v.taken ++ notes
  pub more : List Reading
  pub reads : w.reads ≡ v.reads ++ more

pub read-on : (v w : AppView) → SeesOn v w → (marks : List Mark) (bytes : List ℕ) → AreReadAt v.taken v.reads marks bytes
    → AreReadAt w.taken w.reads marks bytes
read-on v w on marks bytes are =
    subst (λ (ts : List TakenNote). AreReadAt ts w.reads marks bytes) (sym on.taken)
    (subst (λ (rs : List Reading). AreReadAt (v.taken ++ on.notes) rs marks bytes) (sym on.reads)
    (all-grow (v.taken ++ on.notes) v.reads on.more marks bytes (all-noted-more v.taken on.notes v.reads marks bytes are)))

pub one-on : (v w : AppView) → SeesOn v w → (lent : List LentPiece) (marks : List Mark) → AreOfOneLoan v.taken lent marks → AreOfOneLoan w.taken lent marks
one-on v w on lent marks one = subst (λ (ts : List TakenNote). AreOfOneLoan ts lent marks) (sym on.taken) (one-noted-more v.taken on.notes lent marks one)

-- there are no more bytes than marks
pub poured-within : (P : Type 0) (v : AppView) (marks : List Mark) (count : ℕ) (bytes : List ℕ) → IsPoured P v marks count bytes
    → length bytes ≤ length marks
poured-within P v marks count bytes is =
    let many = are-many v.taken v.reads (take (length bytes) marks) bytes is.are in
    let front = length-take (length bytes) marks in
    omega (arith, many, front)

-- the loans that no entry gave back are the same
pub poured-on : (P Q : Type 0) (v w : AppView) → SeesOn v w → kept_loans w ≡ kept_loans v → (P → Q) → (marks : List Mark) (count : ℕ) (bytes : List ℕ)
    → IsPoured P v marks count bytes → IsPoured Q w marks count bytes
poured-on P Q v w on same implies marks count bytes is = record {
  are = read-on v w on (take (length bytes) marks) bytes is.are;
  at_least = is.at_least;
  at_once = is.at_once;
  exact = λ no. is.exact (λ p. no (implies p));
  beyond = λ less. subst (λ ls. AreOfOneLoan w.taken ls (drop count (take (length bytes) marks))) (sym same)
      (one-on v w on (kept_loans v) (drop count (take (length bytes) marks)) (is.beyond less));
}

-- all is counted
pub poured-exact : (P Q : Type 0) (v w : AppView) → SeesOn v w → (P → ⊥) → (marks : List Mark) (count : ℕ) (bytes : List ℕ)
    → IsPoured P v marks count bytes → IsPoured Q w marks count bytes
poured-exact P Q v w on none marks count bytes is = let same : count ≡ length bytes = is.exact none in record {
  are = read-on v w on (take (length bytes) marks) bytes is.are;
  at_least = is.at_least;
  at_once = is.at_once;
  exact = λ no. same;
  beyond = λ less. absurd (omega (arith, less, same));
}

pub sees-still : (v : AppView) → SeesOn v v
sees-still v = record { notes = []; taken = sym (append-nil v.taken); more = []; reads = sym (append-nil v.reads) }
