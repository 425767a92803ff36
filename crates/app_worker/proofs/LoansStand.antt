-- How what is kept stands to what was seen: notes, reads and loans.
use Rattle.std.proofs.Common.{◌≡◌, ◌≢◌, ℕ, ◌+◌, ◌-◌, ◌≤◌, Bool, true, false, List, ◌∷◌, ◌++◌, Option, Some, None, length}
use Rattle.std.{proofs.{Common.{refl, sym, ap, subst, ◌∙◌, arith, length-append}, lemmas.Bool.{eq-eqb, Decides.{nat_tests}}}, specs.Prelude.{◌==◌, IfSome}}
use Rattle.std.specs.Io.KnownBytes.{Keeps}
use Rattle.zr_kinds.specs.{declared.ring.Completion.{Completion}, CopyingReceiver.{values_from}}
use Rattle.board_face.specs.declared.views.app.{AppLook.TheVariants.{RefillInUse}, TakenNote.{TakenNote}, LentPiece.{LentPiece}, AppView.{AppView}}
use Rattle.flow_queues.specs.{declared.queues.{Lending.{Lending}, FlowQueue.{FlowQueue}}, Marks.{Mark, marks_from}}
use Rattle.flow_queues.specs.Core.{total, IsIn, lent_piece, over_read, read_out, over_kept, marks_of_loan, lent_marks, placed_of}
use Rattle.flow_queues.{specs.Core.{FlowStands, many, HasTokens, Stands, OnlyReads, AreReadAt, IsReadOf}, proofs.Tokens.{is_that_loan, that-loan, is-lent-there}}
use Rattle.flow_queues.proofs.{Entering.{marks-length}, ReadLemmas.{marks-split}, Placing.{values-split, values-length}}
use Rattle.flow_queues.proofs.Standing.{each-map, each-right, parts-alike, total-changed, many-same, each-changed, stands-saw}
use Rattle.app_worker.specs.{declared.stack.Stray.{Stray}, Whole.{Appended}, Steps.{Gave, Given}}
use Rattle.zr_io.{specs.Moved.{Gained}, proofs.Moved.{Gained-weaker}}

-- ---- a loan was read

lent-front : (flow : ℕ) (p : Completion × Lending) (ps : List (Completion × Lending)) → p.0.user_data ≡ flow
    → lent_marks flow (p ∷ ps) ≡ marks_of_loan p.1 ++ lent_marks flow ps
lent-front flow p ps is = let yes : (p.0.user_data == flow) ≡ true = eq-eqb p.0.user_data flow is in rw yes refl

lent-behind : (flow : ℕ) (p : Completion × Lending) (ps : List (Completion × Lending)) → p.0.user_data ≢ flow
    → lent_marks flow (p ∷ ps) ≡ lent_marks flow ps
lent-behind flow p ps not = let no : (p.0.user_data == flow) ≡ false = grind (arith, nat_tests) in rw no refl

-- the marks of the oldest loan are those that come next
pub record IsNextRead (taken : List TakenNote) (own : FlowQueue) (l : Lending) (ps : List (Completion × Lending)) : Type 0 where
  pub within : own.bytes + l.loan.len ≤ own.queue.popped
  pub marks : marks_of_loan l ≡ values_from (placed_of own taken).at l.loan.len own.bytes
  pub others : lent_marks own.number ps ≡ values_from (placed_of own taken).at (own.queue.popped - (own.bytes + l.loan.len)) (own.bytes + l.loan.len)

pub is-next : (taken : List TakenNote) (p : Completion × Lending) (ps : List (Completion × Lending)) (own : FlowQueue) → p.0.user_data ≡ own.number
    → FlowStands taken (p ∷ ps) own → IsNextRead taken own p.1 ps
is-next taken p ps own number stands =
    let l : Lending = p.1 in
    let at : ℕ → Option Mark = (placed_of own taken).at in
    let n : ℕ = l.loan.len in
    let all : marks_of_loan l ++ lent_marks own.number ps ≡ values_from at (own.queue.popped - own.bytes) own.bytes = sym (lent-front own.number p ps number)
    ∙ stands.lent in
    let size : length (marks_of_loan l) ≡ n = marks-length l.note l.at n in
    let counted : own.bytes ≤ own.queue.popped = stands.counted in
    let long : length (values_from at (own.queue.popped - own.bytes) own.bytes)
    ≡ own.queue.popped - own.bytes = values-length at (own.queue.popped - own.bytes) own.bytes
    (λ q from until. stands.holds.popped q (omega (arith, counted))) in
    let both : length (marks_of_loan l ++ lent_marks own.number ps)
    ≡ length (marks_of_loan l) + length (lent_marks own.number ps) = length-append (marks_of_loan l) (lent_marks own.number ps) in
    let same : length (marks_of_loan l ++ lent_marks own.number ps) ≡ length (values_from at (own.queue.popped - own.bytes) own.bytes) = ap length all in
    let within : own.bytes + n ≤ own.queue.popped = omega (arith, size, long, both, same, counted) in
    let more : ℕ = own.queue.popped - (own.bytes + n) in
    let steps : own.queue.popped - own.bytes ≡ n + more = omega (arith, within) in
    let parts : values_from at (own.queue.popped - own.bytes) own.bytes ≡ values_from at n own.bytes ++ values_from at more (own.bytes + n) =
    ap (λ k. values_from at k own.bytes) steps ∙ values-split at n more own.bytes (λ q from until. stands.holds.popped q (omega (arith, within))) in
    let size2 : length (values_from at n own.bytes) ≡ n = values-length at n own.bytes (λ q from until. stands.holds.popped q (omega (arith, within))) in
    let (first, second) = parts-alike (marks_of_loan l) (lent_marks own.number ps) (values_from at n own.bytes) (values_from at more (own.bytes + n))
    (size ∙ sym size2) (all ∙ parts) in
    record { within = within; marks = first; others = second }

pub flow-read : (taken : List TakenNote) (p : Completion × Lending) (ps : List (Completion × Lending)) (own : FlowQueue) → p.0.user_data ≡ own.number
    → FlowStands taken (p ∷ ps) own → FlowStands taken ps (record own { bytes = own.bytes + p.1.loan.len })
flow-read taken p ps own number stands =
    let next : IsNextRead taken own p.1 ps = is-next taken p ps own number stands in
    record { begun = stands.begun; holds = stands.holds; notes = stands.notes; counted = next.within; lent = next.others }

pub flow-read-other : (taken : List TakenNote) (p : Completion × Lending) (ps : List (Completion × Lending)) (f : FlowQueue) → f.number ≢ p.0.user_data
    → FlowStands taken (p ∷ ps) f → FlowStands taken ps f
flow-read-other taken p ps f other stands = record {
  begun = stands.begun;
  holds = stands.holds;
  notes = stands.notes;
  counted = stands.counted;
  lent = sym (lent-behind f.number p ps (λ e. other (sym e))) ∙ stands.lent;
}

-- all that is kept, once the oldest loan was read and is due
pub stands-read : (count : ℕ) (before after : List FlowQueue) (own : FlowQueue) (p : Completion × Lending) (ps : List (Completion × Lending))
    (leaked : List Lending) (old new : AppView) → p.0.user_data ≡ own.number → OnlyReads old new
    → Stands count (before ++ own ∷ after) (p ∷ ps) leaked old
    → Stands count (before ++ record own { bytes = own.bytes + p.1.loan.len } ∷ after) ps (p.1 ∷ leaked) new
stands-read count before after own p ps leaked old new number only stands =
    let now : FlowQueue = record own { bytes = own.bytes + p.1.loan.len } in
    let same : (n : ℕ) → many n (before ++ now ∷ after) ≡ many n (before ++ own ∷ after) = many-same before after own now refl in
    rw only.view (record {
      tokens = record {
        apart = record { once = stands.tokens.apart.once; some = stands.tokens.apart.some };
        helds = λ f. stands.tokens.helds f ∙ (omega (arith, total-changed before after own now (λ flow. over_kept f flow.queue)));
        loans = λ f. omega (arith, stands.tokens.loans f);
      };
      notes = stands.notes;
      distinct = λ n. omega (arith, same n, stands.distinct n);
      flows = each-changed (FlowStands old.taken (p ∷ ps)) (FlowStands old.taken ps) before after own now (stands.distinct own.number) stands.flows
          (λ f other. flow-read-other old.taken p ps f (λ e. other (e ∙ number)))
          (flow-read old.taken p ps own number (each-right (FlowStands old.taken (p ∷ ps)) before (own ∷ after) stands.flows).0);
      known = λ n none. stands.known n (sym (same n) ∙ none);
      posted = each-map (λ p. many p.0.user_data (before ++ own ∷ after) ≡ 1) (λ p. many p.0.user_data (before ++ now ∷ after) ≡ 1) ps
          (λ q there one. same q.0.user_data ∙ one) stands.posted.1;
      lent = stands.lent.1;
      due_lent = (stands.lent.0, stands.due_lent);
      counted = stands.counted;
    })

-- ---- a loan was given back

pub stands-gave : (count : ℕ) (flows : List FlowQueue) (posted : List (Completion × Lending)) (l : Lending) (leaked : List Lending)
    (old new : AppView) → Stands count flows posted (l ∷ leaked) old → Gave old new l → Stands count flows posted leaked new
stands-gave count flows posted l leaked old new stands step =
    let view : new ≡ record old { loans = new.loans; returned = new.returned; written = new.written; quiet = new.quiet } = rw step.view refl in
    let loans : (f : LentPiece → ℕ) → total f new.loans
    ≡ total (λ p. f (lent_piece old.taken p.1)) posted + over_read old.taken f leaked = λ f. omega (arith, step.loans f, stands.tokens.loans f) in
    rw view (assumption (rw view at step.apart))

pub given-stands : (count : ℕ) (flows : List FlowQueue) (posted : List (Completion × Lending)) (due now : Option Lending)
    (leaked : List Lending) (most : ℕ) (stray stray_now : Stray) (old new : AppView) (given : Bool) → Stands count flows posted (read_out due leaked) old
    → Given most old new due now stray stray_now given → Stands count flows posted (read_out now leaked) new
given-stands count flows posted None now leaked most stray stray_now old new given stands step = rw (step.0, step.1) stands
given-stands count flows posted (Some l) now leaked most stray stray_now old new true stands step = rw step.1
    (stands-gave count flows posted l leaked old new stands step.0)
given-stands count flows posted (Some l) now leaked most stray stray_now old new false stands step = rw (step.0.event, step.1)
    (stands-saw count flows posted (l ∷ leaked) old RefillInUse stands)

-- ---- what is kept is out

pub due-out : (count : ℕ) (flows : List FlowQueue) (posted : List (Completion × Lending)) (due : Option Lending) (leaked : List Lending)
    (v : AppView) → Stands count flows posted (read_out due leaked) v → IfSome due (λ l. IsIn (lent_piece v.taken l) v.loans)
due-out count flows posted None leaked v stands = tt
due-out count flows posted (Some l) leaked v stands =
    let test : LentPiece → ℕ = is_that_loan (lent_piece v.taken l) in
    is-lent-there (lent_piece v.taken l) v.loans (omega (arith, stands.tokens.loans test, that-loan (lent_piece v.taken l)))

pub oldest-out : (count : ℕ) (flows : List FlowQueue) (p : Completion × Lending) (ps : List (Completion × Lending)) (due : List Lending) (v : AppView)
    → Stands count flows (p ∷ ps) due v → IsIn (lent_piece v.taken p.1) v.loans
oldest-out count flows p ps due v stands =
    let test : LentPiece → ℕ = is_that_loan (lent_piece v.taken p.1) in
    is-lent-there (lent_piece v.taken p.1) v.loans (omega (arith, stands.tokens.loans test, that-loan (lent_piece v.taken p.1)))

-- ---- reaping

pub tokens-read : (count : ℕ) (before after : List FlowQueue) (own : FlowQueue) (b : ℕ) (p : Completion × Lending) (ps : List (Completion × Lending))
    (leaked : List Lending) (old new : AppView) → OnlyReads old new → Stands count (before ++ own ∷ after) (p ∷ ps) leaked old
    → HasTokens (before ++ record own { bytes = b } ∷ after) ps (p.1 ∷ leaked) new
tokens-read count before after own b p ps leaked old new only stands =
    rw only.view (record {
      apart = record { once = stands.tokens.apart.once; some = stands.tokens.apart.some };
      helds = λ f. stands.tokens.helds f ∙ (omega (arith, total-changed before after own (record own { bytes = b }) (λ flow. over_kept f flow.queue)));
      loans = λ f. omega (arith, stands.tokens.loans f);
    })

-- the first marks of the oldest loan are those that come next
next-front : (taken : List TakenNote) (p : Completion × Lending) (ps : List (Completion × Lending)) (own : FlowQueue) (most : ℕ)
    → p.0.user_data ≡ own.number → FlowStands taken (p ∷ ps) own → most ≤ p.1.loan.len
    → marks_from p.1.note p.1.at most ≡ values_from (placed_of own taken).at most own.bytes
next-front taken p ps own most number stands part =
    let l : Lending = p.1 in
    let at : ℕ → Option Mark = (placed_of own taken).at in
    let next : IsNextRead taken own l ps = is-next taken p ps own number stands in
    let rest : ℕ = l.loan.len - most in
    let len : l.loan.len ≡ most + rest = omega (arith, part) in
    let marks : marks_of_loan l ≡ marks_from l.note l.at most ++ marks_from l.note (l.at + most) rest = ap (marks_from l.note l.at) len
    ∙ marks-split l.note l.at most rest in
    let values : values_from at l.loan.len own.bytes ≡ values_from at most own.bytes ++ values_from at rest (own.bytes + most) =
    ap (λ n. values_from at n own.bytes) len
    ∙ values-split at most rest own.bytes (λ q from until. stands.holds.popped q (omega (arith, next.within, part))) in
    let size : length (values_from at most own.bytes) ≡ most = values-length at most own.bytes
    (λ q from until. stands.holds.popped q (omega (arith, next.within, part))) in
    (parts-alike (marks_from l.note l.at most) (marks_from l.note (l.at + most) rest) (values_from at most own.bytes)
    (values_from at rest (own.bytes + most)) (marks-length l.note l.at most ∙ sym size) (sym marks ∙ next.marks ∙ values)).0

pub appended : (taken : List TakenNote) (p : Completion × Lending) (ps : List (Completion × Lending)) (own : FlowQueue) (most : ℕ) (new : AppView)
    (kept kept_now : ℕ → Option (List ℕ)) → p.0.user_data ≡ own.number → FlowStands taken (p ∷ ps) own → most ≤ p.1.loan.len
    → Gained (kept own.number) (kept_now own.number) (λ bytes. IsReadOf taken new.reads p.1 most most bytes)
    → ((other : ℕ) → other ≢ own.number → Keeps (kept other) (kept_now other)) → Appended own taken new most kept kept_now
appended taken p ps own most new kept kept_now number stands part gained others =
    let same = next-front taken p ps own most number stands part in
    record {
      gained = Gained-weaker (kept own.number) (kept_now own.number) (λ bytes. IsReadOf taken new.reads p.1 most most bytes)
          (λ bytes. AreReadAt taken new.reads (values_from (placed_of own taken).at most own.bytes) bytes)
          (λ bytes read.
          let size : length bytes ≡ most = omega (arith, read.at_least, read.at_most) in
          subst (λ ms. AreReadAt taken new.reads ms bytes) same (subst (λ n. AreReadAt taken new.reads (marks_from p.1.note p.1.at n) bytes) size read.are))
          gained;
      others = others;
    }

-- a flow among the others stands
pub own-stands : (count : ℕ) (before after : List FlowQueue) (own : FlowQueue) (posted : List (Completion × Lending)) (due : List Lending) (v : AppView)
    → Stands count (before ++ own ∷ after) posted due v → FlowStands v.taken posted own
own-stands count before after own posted due v stands = (each-right (FlowStands v.taken posted) before (own ∷ after) stands.flows).0
