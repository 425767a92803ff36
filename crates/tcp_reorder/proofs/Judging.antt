-- Why the pieces of a frame are judged alike.
use Rattle.std.proofs.{Common.{◌≡◌, ℕ, ◌+◌, ◌%◌, ◌^◌, ◌<◌, ◌≤◌, true, arith}, lemmas.Bool.{and_from, and_parts, le-leb, leb-true}}
use Rattle.zr_kinds.specs.CopyingReceiver.{lead, accepts}
use Rattle.tcp_reorder.{specs.Laws.{AreJudgedAlike, PartsAreAccepted, NextNeverFalls}, proofs.Positions.{EndWithin-with_kept}}
use Rattle.tcp_reorder.proofs.Least.{next_of-with_kept, next_of-within}

pub accepted : (base n seq total : ℕ) → accepts base n seq total ≡ true → (lead base n seq + total ≤ 2 ^ 30 + 2 ^ 31)
    × (n + lead base n seq + total ≤ 2 ^ 62 + 2 ^ 31)
accepted base n seq total agreed = let parts = and_parts _ _ agreed in (leb-true _ _ parts.0, leb-true _ _ parts.1)

pub accepts-from : (base n seq total : ℕ) → lead base n seq + total ≤ 2 ^ 30 + 2 ^ 31 → n + lead base n seq + total ≤ 2 ^ 62 + 2 ^ 31
    → accepts base n seq total ≡ true
accepts-from base n seq total near low = and_from _ _ (le-leb _ _ near) (le-leb _ _ low)

lead-later : (base n later seq : ℕ) → n ≤ later → later ≤ n + lead base n seq → later + lead base later seq ≡ n + lead base n seq
unfolding lead
lead-later base n later seq rises behind = omega arith

lead-part : (base n seq skip : ℕ) → lead base n seq + skip < 2 ^ 32 → lead base n ((seq + skip) % 2 ^ 32) ≡ lead base n seq + skip
unfolding lead
lead-part base n seq skip small = omega arith

pub judged_alike : AreJudgedAlike
judged_alike base n later seq total small agreed behind rises near =
    let parts = accepted base n seq total agreed in
    let same : later + lead base later seq ≡ n + lead base n seq = lead-later base n later seq rises (omega arith) in
    (accepts-from base later seq total (omega arith) (omega arith), same)

pub parts_accepted : PartsAreAccepted
parts_accepted base n seq total skip len agreed fits =
    let parts = accepted base n seq total agreed in
    let same : lead base n ((seq + skip) % 2 ^ 32) ≡ lead base n seq + skip = lead-part base n seq skip (omega arith) in
    (accepts-from base n _ len (omega arith) (omega arith), same)

pub goes_on : (H : Type 0) → NextNeverFalls H
goes_on H = record {
  rises = λ queue one. next_of-with_kept queue one;
  within = λ queue limit popped within. next_of-within queue limit popped within;
  still_within = λ queue one limit within end. EndWithin-with_kept limit queue.kept one within end;
}
