-- Entries of the first loans that went, as more loans go.
use Rattle.std.proofs.Common.{◌≡◌, ℕ, ◌+◌, ◌≤◌, Bool, true, false, if◌then◌else◌, List, [], ◌∷◌, ◌++◌, take, length, refl, sym, ap, subst, ◌∙◌, arith}
use Rattle.std.proofs.{Common.{append_assoc, append-nil, length-append, take_all}, lemmas.List.{take-append-le}}
use Rattle.zr_kinds.specs.declared.ring.Rqe.{Rqe}
use Rattle.board_face.specs.{AppEvents.{entry_of}, declared.views.app.{LentPiece.{LentPiece}, WrittenEntry.{WrittenEntry}, AppView.{AppView}}}
use Rattle.flow_queues.specs.{Core.{total}, Entries.{GivesAll, AreBlocks, none, loan}, Totals.{lent_len, loan_entries, raw_entries}}
use Rattle.flow_queues.proofs.{GivenBack.{gives-same, gives-gave, fresh_front}, Tokens.{total-append}}
use Rattle.zc_poll.specs.Pouring.{GaveFirst}

-- more bytes are counted
pub first-more : (v : AppView) (n m : ℕ) → n ≤ m → GaveFirst v n → GaveFirst v m
first-more v n m more first = record { raw = first.raw; entries = first.entries; given = first.given; bytes = omega (arith, first.bytes, more) }

pub first-none : (v : AppView) → v.written ≡ [] → v.returned ≡ [] → GaveFirst v 0
first-none v written returned = let count : loan_entries v ≡ 0 = ap (total (λ (e : WrittenEntry). if e.of_loan then 1 else 0)) written in record {
  raw = ap (total (λ (e : WrittenEntry). if e.of_loan then 0 else 1)) written;
  entries = omega (arith, count);
  given = fresh_front v written returned;
  bytes = omega (arith, ap (λ n. total lent_len (take n v.returned)) count);
}

-- no entry was written, and these went without one
pub first-gone : (v w : AppView) (more : List LentPiece) (n : ℕ) → w.written ≡ v.written → w.setting ≡ v.setting → w.returned ≡ v.returned ++ more
    → GaveFirst v n → GaveFirst w n
first-gone v w more n written setting returned first =
    let count : loan_entries w ≡ loan_entries v = ap (λ ws. total (λ (e : WrittenEntry). if e.of_loan then 1 else 0) ws) written in
    let same : take (loan_entries w) w.returned ≡ take (loan_entries v) v.returned =
    ap (λ k. take k w.returned) count ∙ ap (take (loan_entries v)) returned ∙ take-append-le (loan_entries v) v.returned more first.entries in
    record {
      raw = ap (total (λ (e : WrittenEntry). if e.of_loan then 0 else 1)) written ∙ first.raw;
      entries = omega (arith, count, ap length returned, length-append v.returned more, first.entries);
      given = subst (GivesAll w) (sym same) (gives-same v w (take (loan_entries v) v.returned) written setting first.given);
      bytes = omega (arith, ap (total lent_len) same, first.bytes);
    }

pub first-same : (v w : AppView) (n : ℕ) → w.written ≡ v.written → w.setting ≡ v.setting → w.returned ≡ v.returned → GaveFirst v n → GaveFirst w n
first-same v w n written setting returned first = first-gone v w [] n written setting (returned ∙ sym (append-nil v.returned)) first

-- each that went was given back by an entry, and now one more is, which is counted too
pub first-gave : (v w : AppView) (l : LentPiece) (n : ℕ) → w.written ≡ v.written ++ record { entry = entry_of v.setting.layout l.place; of_loan = true } ∷ []
    → w.setting ≡ v.setting → w.returned ≡ v.returned ++ l ∷ [] → loan_entries v ≡ length v.returned → total lent_len v.returned + lent_len l ≤ n
    → GaveFirst v n → GaveFirst w n
first-gave v w l n written setting returned all counted first =
    let e : WrittenEntry = record { entry = entry_of v.setting.layout l.place; of_loan = true } in
    let raws : raw_entries w ≡ raw_entries v + 0 =
    ap (total (λ (e : WrittenEntry). if e.of_loan then 0 else 1)) written ∙ total-append (λ (e : WrittenEntry). if e.of_loan then 0 else 1) v.written (e ∷ []) in
    let loans : loan_entries w ≡ loan_entries v + 1 =
    ap (total (λ (e : WrittenEntry). if e.of_loan then 1 else 0)) written ∙ total-append (λ (e : WrittenEntry). if e.of_loan then 1 else 0) v.written (e ∷ []) in
    let many : loan_entries w ≡ length w.returned = omega (arith, loans, all, ap length returned, length-append v.returned (l ∷ [])) in
    let whole : take (loan_entries w) w.returned ≡ w.returned = take_all (loan_entries w) w.returned (omega (arith, many)) in
    let before : take (loan_entries v) v.returned ≡ v.returned = take_all (loan_entries v) v.returned (omega (arith, all)) in
    record {
      raw = omega (arith, raws, first.raw);
      entries = omega (arith, many);
      given = subst (GivesAll w) (sym whole) (gives-gave v w l written returned setting (subst (GivesAll v) before first.given));
      bytes = omega (arith, ap (total lent_len) whole, ap (total lent_len) returned, total-append lent_len v.returned (l ∷ []), counted);
    }

-- ---- nothing follows them

no-raw : (b : Bool) → ◌≡◌ {A = ℕ} (if b then 0 else 1) 0 → b ≡ true
no-raw true zero = refl
no-raw false zero = absurd (omega (arith, zero))

blocks-behind : (P : ℕ → Rqe → Type 0) (ws more : List WrittenEntry) (last : Rqe) → AreBlocks 0 P ws last 0
    → total (λ (e : WrittenEntry). if e.of_loan then 0 else 1) more ≡ 0 → (end : Rqe) × AreBlocks 0 P (ws ++ more) end 0
blocks-behind P ws [] last blocks alone = (last, subst (λ es. AreBlocks 0 P es last 0) (sym (append-nil ws)) blocks)
blocks-behind P ws (e ∷ more) last blocks alone =
    let of_loan : e.of_loan ≡ true = no-raw e.of_loan (omega (arith, alone)) in
    let same : e ≡ record { entry = e.entry; of_loan = true } = ap (λ b. record e { of_loan = b }) of_loan in
    let (end, all) = blocks-behind P (ws ++ record { entry = e.entry; of_loan = true } ∷ []) more e.entry (loan blocks e.entry) (omega (arith, alone)) in (
      end,
      subst (λ es. AreBlocks 0 P es end 0)
          (append_assoc ws (record { entry = e.entry; of_loan = true } ∷ []) more ∙ ap (λ (x : WrittenEntry). ws ++ x ∷ more) (sym same)) all,
    )

pub loans-alone : (P : ℕ → Rqe → Type 0) (v : AppView) → raw_entries v ≡ 0 → (last : Rqe) × AreBlocks 0 P v.written last 0
loans-alone P v alone = (let first : Rqe = record { off = 0; len = 0; pad = 0 } in blocks-behind P [] v.written first (none first) alone)
