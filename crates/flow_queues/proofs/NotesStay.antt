-- What is kept stands once more notes are taken.
use Rattle.std.proofs.Common.{◌≡◌, ◌≢◌, ℕ, zero, suc, ◌-◌, ◌<◌, false, List, [], ◌∷◌, ◌++◌, Option, Some, length, refl, sym, ap, subst, ◌∙◌, arith, length-append}
use Rattle.std.{specs.Prelude.{◌==◌, slice_get}, proofs.lemmas.Bool.Decides.{nat_tests}}
use Rattle.zr_kinds.specs.{declared.ring.Completion.{Completion}, CopyingReceiver.{Placed, nothing_placed, values_from}}
use Rattle.tcp_reorder.specs.{Queue.{Queue}, Values.{Holds}}
use Rattle.board_face.specs.declared.views.app.{TakenNote.{TakenNote}, LentPiece.{LentPiece}}
use Rattle.flow_queues.specs.{declared.queues.{Waiting.{Waiting, TheVariants.{InArea, Copied}}, Lending.{Lending}, FlowQueue.{FlowQueue}}, Marks.{Mark, NumberedNote}}
use Rattle.flow_queues.specs.Core.{total, lent_piece, origin_in, over_read, IsOfNote, marks_of_waiting, received_note, received_notes, own_notes, BeginAt}
use Rattle.flow_queues.specs.Core.{lent_marks, placed_of, FlowStands, Each, many}
use Rattle.flow_queues.proofs.{Placing.{own-notes-other, own-notes-here, next_note, received-push, begin-push, values-stay}, Standing.{each-map}}

-- ---- notes

pub taken-still : (taken : List TakenNote) (t x : TakenNote) (k : ℕ) → slice_get taken k ≡ Some x → slice_get (taken ++ t ∷ []) k ≡ Some x
taken-still [] t x k is = absurd (cc)
taken-still (u ∷ us) t x zero is = is
taken-still (u ∷ us) t x (suc k) is = taken-still us t x k is

pub note-there : (taken : List TakenNote) (k : ℕ) → k < length taken → (t : TakenNote) × (slice_get taken k ≡ Some t)
note-there [] k below = absurd (omega arith)
note-there (t ∷ ts) zero below = (t, refl)
note-there (t ∷ ts) (suc k) below = note-there ts k (omega arith)

-- ---- more notes are taken

-- what is of a note is so among more
pub of-note-still : (taken : List TakenNote) (t : TakenNote) (w : Waiting) → IsOfNote taken w → IsOfNote (taken ++ t ∷ []) w
of-note-still taken t (InArea p) of = record { note = of.note; is = taken-still taken t of.note p.note of.is; split = of.split }
of-note-still taken t (Copied s) of =
    record { note = of.note; is = taken-still taken t of.note s.note of.is; split = of.split; bytes = of.bytes; few = of.few }

pub notes-still : (taken : List TakenNote) (t : TakenNote) (q : Queue Waiting) → Each (λ k. IsOfNote taken k.piece) q.kept
    → Each (λ k. IsOfNote (taken ++ t ∷ []) k.piece) q.kept
notes-still taken t q each = each-map (λ k. IsOfNote taken k.piece) (λ k. IsOfNote (taken ++ t ∷ []) k.piece) q.kept
    (λ k _ of. of-note-still taken t k.piece of) each

-- the note that comes is there
pub taken-last : (taken : List TakenNote) (t : TakenNote) → slice_get (taken ++ t ∷ []) (length taken) ≡ Some t
taken-last [] t = refl
taken-last (u ∷ us) t = taken-last us t

-- a loan has the origin that it had
get-still : (taken : List TakenNote) (t : TakenNote) (k : ℕ) → k < length taken → slice_get (taken ++ t ∷ []) k ≡ slice_get taken k
get-still taken t k below = let (x, is) = note-there taken k below in taken-still taken t x k is ∙ sym is

pub lent-still : (taken : List TakenNote) (t : TakenNote) (l : Lending) → l.note < length taken → lent_piece (taken ++ t ∷ []) l ≡ lent_piece taken l
lent-still taken t l below = ap (λ found. lent_from found) (get-still taken t l.note below)
  where
    lent_from : Option TakenNote → LentPiece
    lent_from found = record { place = l.loan; origin = origin_in found l.note l.at l.loan.len }

pub loans-still : (taken : List TakenNote) (t : TakenNote) (posted : List (Completion × Lending)) → Each (λ p. p.1.note < length taken) posted
    → (f : LentPiece → ℕ) → total (λ p. f (lent_piece (taken ++ t ∷ []) p.1)) posted ≡ total (λ p. f (lent_piece taken p.1)) posted
loans-still taken t [] each f = refl
loans-still taken t (p ∷ ps) each f = omega (arith, ap f (lent-still taken t p.1 each.0), loans-still taken t ps each.1 f)

pub due-still : (taken : List TakenNote) (t : TakenNote) (read : List Lending) → Each (λ l. l.note < length taken) read → (f : LentPiece → ℕ)
    → over_read (taken ++ t ∷ []) f read ≡ over_read taken f read
due-still taken t [] known f = refl
due-still taken t (l ∷ ls) known f = omega (arith, ap f (lent-still taken t l known.0), due-still taken t ls known.1 f)

pub due-known : (taken : List TakenNote) (t : TakenNote) (read : List Lending) → Each (λ l. l.note < length taken) read
    → Each (λ l. l.note < length (taken ++ t ∷ [])) read
due-known taken t [] known = tt
due-known taken t (l ∷ ls) known = (omega (arith, known.0, length-append taken (t ∷ [])), due-known taken t ls known.1)

-- ---- a note is taken

-- by another flow
pub flow-took-other : (taken : List TakenNote) (t : TakenNote) (posted : List (Completion × Lending)) (f : FlowQueue) → f.number ≢ t.note.flow
    → FlowStands taken posted f → FlowStands (taken ++ t ∷ []) posted f
flow-took-other taken t posted f other stands =
    let e : own_notes f.number (taken ++ t ∷ []) ≡ own_notes f.number taken = own-notes-other f.number taken t (λ is. other (sym is)) in
    record {
      begun = subst (BeginAt f.queue.base) (sym e) stands.begun;
      holds = subst (λ (ns : List NumberedNote). Holds marks_of_waiting f.queue (received_notes f.queue.base nothing_placed ns)) (sym e) stands.holds;
      notes = notes-still taken t f.queue stands.notes;
      counted = stands.counted;
      lent = stands.lent ∙ ap (λ (ns : List NumberedNote). values_from (received_notes f.queue.base nothing_placed ns).at (f.queue.popped - f.bytes) f.bytes)
          (sym e);
    }

-- by this one
pub flow-took : (taken : List TakenNote) (t : TakenNote) (posted : List (Completion × Lending)) (own : FlowQueue) (q : Queue Waiting)
    → own.number ≡ t.note.flow → q.base ≡ own.queue.base → q.popped ≡ own.queue.popped
    →
    ((placed : Placed Mark) → Holds marks_of_waiting own.queue placed
    → Holds marks_of_waiting q (received_note own.queue.base placed (next_note taken t)))
    → (Each (λ k. IsOfNote (taken ++ t ∷ []) k.piece) own.queue.kept → Each (λ k. IsOfNote (taken ++ t ∷ []) k.piece) q.kept)
    → FlowStands taken posted own → FlowStands (taken ++ t ∷ []) posted (record own { queue = q })
flow-took taken t posted own q number base popped enters keeps stands =
    let n : NumberedNote = next_note taken t in
    let e : own_notes own.number (taken ++ t ∷ []) ≡ own_notes own.number taken ++ n ∷ [] = own-notes-here own.number taken t (sym number) in
    let placed : Placed Mark = placed_of own taken in
    let same : placed_of (record own { queue = q }) (taken ++ t ∷ []) ≡ received_note own.queue.base placed n =
    ap (λ b. received_notes b nothing_placed (own_notes own.number (taken ++ t ∷ []))) base ∙ ap (received_notes own.queue.base nothing_placed) e
    ∙ received-push own.queue.base nothing_placed (own_notes own.number taken) n in
    record {
      begun = subst (λ b. BeginAt b (own_notes own.number (taken ++ t ∷ []))) (sym base)
          (subst (BeginAt own.queue.base) (sym e) (begin-push own.queue.base (own_notes own.number taken) n stands.begun));
      holds = subst (Holds marks_of_waiting q) (sym same) (enters placed stands.holds);
      notes = keeps (notes-still taken t own.queue stands.notes);
      counted = omega (arith, popped, stands.counted);
      lent = stands.lent ∙ sym (values-stay own.queue.base placed n (own.queue.popped - own.bytes) own.bytes
          (λ p below. stands.holds.popped p (omega (arith, stands.counted))))
          ∙ ap (λ k. values_from (received_note own.queue.base placed n).at (k - own.bytes) own.bytes) (sym popped)
          ∙ ap (λ (p : Placed Mark). values_from p.at (q.popped - own.bytes) own.bytes) (sym same);
    }

-- by a flow that begins
pub flow-begun : (taken : List TakenNote) (t : TakenNote) (posted : List (Completion × Lending)) (flows : List FlowQueue) (q : Queue Waiting)
    → many t.note.flow flows ≡ 0 → own_notes t.note.flow taken ≡ []
    → Each (λ p. many p.0.user_data flows ≡ 1) posted → q.base ≡ t.note.base → q.popped ≡ 0
    → Holds marks_of_waiting q (received_note t.note.base nothing_placed (next_note taken t))
    → Each (λ k. IsOfNote (taken ++ t ∷ []) k.piece) q.kept
    → FlowStands (taken ++ t ∷ []) posted (record { number = t.note.flow; queue = q; bytes = 0 })
flow-begun taken t posted flows q none no_notes known base popped holds notes =
    let n : NumberedNote = next_note taken t in
    let e : own_notes t.note.flow (taken ++ t ∷ []) ≡ n ∷ [] = own-notes-here t.note.flow taken t refl ∙ ap (λ ns. ns ++ n ∷ []) no_notes in
    let same : placed_of (record { number = t.note.flow; queue = q; bytes = 0 }) (taken ++ t ∷ []) ≡ received_note t.note.base nothing_placed n =
    ap (λ b. received_notes b nothing_placed (own_notes t.note.flow (taken ++ t ∷ []))) base ∙ ap (received_notes t.note.base nothing_placed) e in
    record {
      begun = subst (BeginAt q.base) (sym e) (sym base);
      holds = subst (Holds marks_of_waiting q) (sym same) holds;
      notes = notes;
      counted = omega arith;
      lent = nothing-lent posted known ∙ ap (λ k. values_from (placed_of (record { number = t.note.flow; queue = q; bytes = 0 }) (taken ++ t ∷ [])).at
          (k - 0) 0) (sym popped);
    }
  where
    nothing-lent : (posted : List (Completion × Lending)) → Each (λ p. many p.0.user_data flows ≡ 1) posted → lent_marks t.note.flow posted ≡ []
    nothing-lent [] each = refl
    nothing-lent (p ∷ ps) each =
        let away : p.0.user_data ≢ t.note.flow = λ is. absurd
        (let one : many t.note.flow flows ≡ 1 = subst (λ k. many k flows ≡ 1) is each.0 in omega (arith, one, none)) in
        let no : (p.0.user_data == t.note.flow) ≡ false = grind (arith, nat_tests) in
        rw no (nothing-lent ps each.1)
