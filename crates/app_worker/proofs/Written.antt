-- The entries that were written, once more were.
use Rattle.std.proofs.Common.{◌≡◌, ℕ, zero, suc, ◌+◌, ◌<◌, ◌≤◌, true, false, List, [], ◌∷◌, ◌++◌, drop, length, refl, sym, ap, subst, ◌∙◌, arith}
use Rattle.std.proofs.{Common.{append_assoc, append-nil, length-append}, lemmas.List.{drop-append-le}}
use Rattle.zr_kinds.specs.declared.ring.Rqe.{Rqe}
use Rattle.area_layout.specs.Layout.{Shape, judged}
use Rattle.board_face.specs.declared.views.{parts.Setting.{Setting}, app.{LentPiece.{LentPiece}, WrittenEntry.{WrittenEntry}, AppView.{AppView}}}
use Rattle.app_worker.specs.{declared.stack.Stray.{Stray}, Steps.{raw_copies}}
use Rattle.flow_queues.specs.{Entries.{loans_of, lies_in, WasLive, AreBlocks, none, loan, raw, dropped}, Core.{total}, Totals.{loan_entries}}
use Rattle.flow_queues.proofs.{GivenBack.{loans-append, loans-size, entries_of}, Tokens.{total-append}}

-- ---- those of loans, once raw ones were written

no-loans : (n : ℕ) (e : Rqe) → loans_of (raw_copies n e) ≡ []
no-loans zero e = refl
no-loans (suc n) e = no-loans n e

pub gives-raw : (layout : Shape) (ws now : List WrittenEntry) (n : ℕ) (e : Rqe) (loans : List LentPiece) → now ≡ ws ++ raw_copies n e
    → loans_of ws ≡ entries_of layout loans → loans_of now ≡ entries_of layout loans
gives-raw layout ws now n e loans is gives = ap loans_of is ∙ loans-append ws (raw_copies n e) ∙ ap (λ es. loans_of ws ++ es) (no-loans n e)
    ∙ append-nil (loans_of ws) ∙ gives

-- ---- what follows them

-- as many were given back as before, or more
more-given : (ws xs : List WrittenEntry) (k : ℕ) → length (loans_of (ws ++ xs)) ≤ k → length (loans_of ws) ≤ k
more-given ws xs k few = omega (arith, few, ap length (loans-append ws xs), length-append (loans_of ws) (loans_of xs))

-- what may be dropped then may be dropped now
blocks-by : (most : ℕ) (P Q : ℕ → Rqe → Type 0) (k : ℕ) → ((n : ℕ) (e : Rqe) → n ≤ k → P n e → Q n e)
    → (ws : List WrittenEntry) (e : Rqe) (left : ℕ) → length (loans_of ws) ≤ k → AreBlocks most P ws e left → AreBlocks most Q ws e left
blocks-by most P Q k step ws e left few (none _) = none e
blocks-by most P Q k step ws e left few (loan {written = xs} {last = last} blocks _) =
    loan (blocks-by most P Q k step xs last 0 (more-given xs (record { entry = e; of_loan = true } ∷ []) k few) blocks) e
blocks-by most P Q k step ws e left few (raw {written = xs} blocks) =
    raw (blocks-by most P Q k step xs e (suc left) (more-given xs (record { entry = e; of_loan = false } ∷ []) k few) blocks)
blocks-by most P Q k step ws e left few (dropped blocks may) =
    dropped (blocks-by most P Q k step ws e (suc left) few blocks) (step (length (loans_of ws)) e few may)

-- a loan that was out then is out, or went later
live-later : (old new : AppView) (more : List LentPiece) → new.setting ≡ old.setting → new.returned ≡ old.returned ++ more
    → ((f : LentPiece → ℕ) → total f old.loans ≤ total f new.loans + total f more) → (n : ℕ) (e : Rqe) → n ≤ length old.returned
    → WasLive old n e → WasLive new n e
live-later old new more setting returned loans n e few (buffer, names, some) =
    let rest : drop n new.returned ≡ drop n old.returned ++ more = ap (drop n) returned ∙ drop-append-le n old.returned more few in (
      buffer,
      ap (λ (s : Setting). judged s.layout e) setting ∙ names,
      omega (
        arith,
        some,
        loans (lies_in buffer),
        ap (total (lies_in buffer)) rest,
        total-append (lies_in buffer) (drop n old.returned) more,
      ),
    )

blocks-later : (most : ℕ) (old new : AppView) (more : List LentPiece) (e : Rqe) (left : ℕ) → new.setting ≡ old.setting
    → new.returned ≡ old.returned ++ more → ((f : LentPiece → ℕ) → total f old.loans ≤ total f new.loans + total f more)
    → loan_entries old ≤ length old.returned → AreBlocks most (WasLive old) old.written e left → AreBlocks most (WasLive new) old.written e left
blocks-later most old new more e left setting returned loans few blocks =
    blocks-by most (WasLive old) (WasLive new) (length old.returned) (live-later old new more setting returned loans) old.written e left
    (omega (arith, few, loans-size old.written)) blocks

-- nothing was written
pub blocks-moved : (most : ℕ) (old new : AppView) (stray : Stray) (more : List LentPiece) → new.written ≡ old.written → new.setting ≡ old.setting
    → new.returned ≡ old.returned ++ more → ((f : LentPiece → ℕ) → total f old.loans ≤ total f new.loans + total f more)
    → loan_entries old ≤ length old.returned → AreBlocks most (WasLive old) old.written stray.entry stray.left
    → AreBlocks most (WasLive new) new.written stray.entry stray.left
blocks-moved most old new stray more written setting returned loans few blocks =
    subst (λ ws. AreBlocks most (WasLive new) ws stray.entry stray.left) (sym written)
    (blocks-later most old new more stray.entry stray.left setting returned loans few blocks)

-- entries were dropped
drop-to : (most gone rest : ℕ) (P : ℕ → Rqe → Type 0) (ws : List WrittenEntry) (e : Rqe) → (0 < gone → P (length (loans_of ws)) e)
    → AreBlocks most P ws e (gone + rest) → AreBlocks most P ws e rest
drop-to most zero rest P ws e may blocks = let same : zero + rest ≡ rest = omega arith in subst (AreBlocks most P ws e) same blocks
drop-to most (suc gone) rest P ws e may blocks =
    let same : suc gone + rest ≡ suc (gone + rest) = omega arith in
    drop-to most gone rest P ws e (λ _. may (omega arith)) (dropped (subst (AreBlocks most P ws e) same blocks) (may (omega arith)))

-- and others written
raw-to : (most rest count : ℕ) (P : ℕ → Rqe → Type 0) (ws : List WrittenEntry) (e : Rqe) → AreBlocks most P ws e (count + rest)
    → AreBlocks most P (ws ++ raw_copies count e) e rest
raw-to most rest zero P ws e blocks =
    let same : zero + rest ≡ rest = omega arith in
    subst (λ xs. AreBlocks most P xs e rest) (sym (append-nil ws)) (subst (AreBlocks most P ws e) same blocks)
raw-to most rest (suc count) P ws e blocks =
    let same : suc count + rest ≡ suc (count + rest) = omega arith in
    subst (λ xs. AreBlocks most P xs e rest) (append_assoc ws (record { entry = e; of_loan = false } ∷ []) (raw_copies count e))
    (raw-to most rest count P (ws ++ record { entry = e; of_loan = false } ∷ []) e (raw (subst (AreBlocks most P ws e) same blocks)))

pub blocks-raw : (most left rest count gone : ℕ) (P : ℕ → Rqe → Type 0) (ws : List WrittenEntry) (e : Rqe) → count + gone + rest ≡ left
    → (0 < gone → P (length (loans_of ws)) e) → AreBlocks most P ws e left → AreBlocks most P (ws ++ raw_copies count e) e rest
blocks-raw most left rest count gone P ws e all may blocks =
    let same : left ≡ gone + (count + rest) = omega (arith, all) in
    raw-to most rest count P ws e (drop-to most gone (count + rest) P ws e may (subst (AreBlocks most P ws e) same blocks))

-- a loan was given back, once all that followed the last one was written or dropped
pub blocks-loan : (most : ℕ) (old new : AppView) (last e : Rqe) (stray : Stray) (x : LentPiece)
    → new.written ≡ old.written ++ record { entry = e; of_loan = true } ∷ [] → stray.entry ≡ e → stray.left ≡ most → new.setting ≡ old.setting
    → new.returned ≡ old.returned ++ x ∷ [] → ((f : LentPiece → ℕ) → total f new.loans + f x ≡ total f old.loans)
    → loan_entries old ≤ length old.returned → AreBlocks most (WasLive old) old.written last 0
    → AreBlocks most (WasLive new) new.written stray.entry stray.left
blocks-loan most old new last e stray x written entry count setting returned loans few blocks =
    let still : AreBlocks most (WasLive new) old.written last 0 = blocks-later most old new (x ∷ []) last 0 setting returned
    (λ f. omega (arith, loans f)) few blocks in
    subst (λ y. AreBlocks most (WasLive new) new.written y stray.left) (sym entry) (subst (AreBlocks most (WasLive new) new.written e) (sym count)
    (subst (λ ws. AreBlocks most (WasLive new) ws e most) (sym written) (loan still e)))

-- ---- before the first turn

pub fresh_blocks : (most : ℕ) (v : AppView) (e : Rqe) → v.written ≡ [] → AreBlocks most (WasLive v) v.written e 0
fresh_blocks most v e is = subst (λ ws. AreBlocks most (WasLive v) ws e 0) (sym is) (none e)
