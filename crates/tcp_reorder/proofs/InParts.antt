-- A frame that is received part after part, each judged anew, is received as a whole.
use Rattle.std.proofs.Common.{◌≡◌, ℕ, zero, suc, ◌+◌, ◌-◌, ◌^◌, ◌<◌, ◌≤◌, List, [], ◌∷◌, ◌++◌, length, length-append, Bool, true, false, if◌then◌else◌}
use Rattle.std.proofs.{Common.{Option, Some, None, IsSome, is_some, refl, sym, ap, subst, ◌∙◌, ⊎_elim, arith}, lemmas.Bool.{cases_Bool, cases_lt, both_ways}}
use Rattle.zr_kinds.specs.CopyingReceiver.{Placed, next_missing, lead, accepts, value_at, brought, first_of, filled_by_values, received_part}
use Rattle.zr_kinds.proofs.{InOrder.{first_of-nothing}, LeastMissing.{value_at-past, next_missing-least, same_least}, ValuesFrom.{first_of-some}}
use Rattle.tcp_reorder.{specs.Parts.{IsReceived, AreSame, PartsMakeTheFrame}, proofs.Holding.{brought-at, brought-before, brought-past, first_of-there}}
use Rattle.tcp_reorder.proofs.{GapByGap.{filled-past}, Judging.{judged_alike, accepted}}

module _ {A : Type 0} where
  -- ---- one list behind another

  value_at-left : (xs ys : List A) (k : ℕ) → k < length xs → value_at (xs ++ ys) k ≡ value_at xs k
  value_at-left [] ys k within = absurd (omega arith)
  value_at-left (x ∷ xs) ys zero within = refl
  value_at-left (x ∷ xs) ys (suc k) within = value_at-left xs ys k (omega arith)

  value_at-right : (xs ys : List A) (k : ℕ) → length xs ≤ k → value_at (xs ++ ys) k ≡ value_at ys (k - length xs)
  value_at-right [] ys k within = let e : k - 0 ≡ k = omega arith in rw e refl
  value_at-right (x ∷ xs) ys zero within = absurd (omega arith)
  value_at-right (x ∷ xs) ys (suc k) within = let e : suc k - suc (length xs) ≡ k - length xs = omega arith in rw e (value_at-right xs ys k (omega arith))

  brought-append : (xs ys : List A) (from p : ℕ) → brought (xs ++ ys) from p ≡ first_of (brought xs from p) (brought ys (from + length xs) p)
  brought-append xs ys from p = ⊎_elim
      (λ (before : p + 2 ^ 31 < from).
      brought-before (xs ++ ys) from p before ∙ sym (ap (λ v. first_of v (brought ys (from + length xs) p)) (brought-before xs from p before)
      ∙ brought-before ys (from + length xs) p (omega arith)))
      (λ (at : from ≤ p + 2 ^ 31). ⊎_elim
      (λ (in_first : p + 2 ^ 31 - from < length xs).
      brought-at (xs ++ ys) from p at ∙ value_at-left xs ys (p + 2 ^ 31 - from) in_first
      ∙ sym (ap (first_of (brought xs from p)) (brought-before ys (from + length xs) p (omega arith)) ∙ first_of-nothing (brought xs from p)
      ∙ brought-at xs from p at))
      (λ (in_second : length xs ≤ p + 2 ^ 31 - from).
      let none = brought-at xs from p at ∙ value_at-past xs (p + 2 ^ 31 - from) in_second in
      let place : p + 2 ^ 31 - (from + length xs) ≡ p + 2 ^ 31 - from - length xs = omega arith in
      brought-at (xs ++ ys) from p at ∙ value_at-right xs ys (p + 2 ^ 31 - from) in_second
      ∙ sym (ap (λ v. first_of v (brought ys (from + length xs) p)) none ∙ brought-at ys (from + length xs) p (omega arith) ∙ ap (value_at ys) place))
      (cases_lt (p + 2 ^ 31 - from) (length xs)))
      (cases_lt (p + 2 ^ 31) from)

  first_of-three : (a b c : Option A) → first_of a (first_of b c) ≡ first_of (first_of a b) c
  first_of-three None b c = refl
  first_of-three (Some a) b c = refl

  filled-append : (placed : Placed A) (from : ℕ) (xs ys : List A)
      → AreSame (filled_by_values placed from (xs ++ ys)) (filled_by_values (filled_by_values placed from xs) (from + length xs) ys)
  filled-append placed from xs ys p =
      ap (first_of (placed.at p)) (brought-append xs ys from p) ∙ first_of-three (placed.at p) (brought xs from p) (brought ys (from + length xs) p)

  -- ---- the first missing position

  none_some : (value : Option A) → value ≡ None → IsSome value → ⊥
  none_some value none some = both_ways (is_some value) (ap is_some none) some

  pub same-next : (one other : Placed A) → IsReceived one → IsReceived other → AreSame one other → next_missing one ≡ next_missing other
  same-next one other is is_other same =
      same_least one other (next_missing one) (next_missing other) (next_missing-least one (record { past = is.past }))
      (next_missing-least other (record { past = is_other.past }))
      (λ p. ap is_some (same p))

  -- it doesn't fall
  filled-rises : (placed : Placed A) (from : ℕ) (values : List A) → IsReceived placed → next_missing placed ≤ next_missing (filled_by_values placed from values)
  filled-rises placed from values is =
      let later : Placed A = filled_by_values placed from values in
      let n_later : ℕ = next_missing later in
      let least = next_missing-least placed (record { past = is.past }) in
      let least_later = next_missing-least later (record { past = filled-past placed from values is.past }) in
      ⊎_elim
      (λ (fell : n_later < next_missing placed). absurd (none_some (later.at n_later) least_later.missing
      (first_of-there (placed.at n_later) (brought values from n_later) (least.before n_later fell))))
      (λ stays. stays)
      (cases_lt n_later (next_missing placed))

  module _ (placed : Placed A) (from : ℕ) (values : List A) (is : IsReceived placed)
      (within : from + length values ≤ next_missing placed + 2 ^ 30 + 2 ^ 31) where
    -- what is filled in within the window is received so again
    filled-received : IsReceived (filled_by_values placed from values)
    filled-received = record {
      past = filled-past placed from values is.past;
      window = λ p ahead.
          let rises = filled-rises placed from values is in
          ap (λ value. first_of value (brought values from p)) (is.window p (omega (arith, rises)))
          ∙ brought-past values from p (omega (arith, within, rises));
    }

    -- and it grows by 2^30 at most
    filled-grows : next_missing (filled_by_values placed from values) ≤ next_missing placed + 2 ^ 30
    filled-grows =
        let later : Placed A = filled_by_values placed from values in
        let far : ℕ = next_missing placed + 2 ^ 30 in
        let least_later = next_missing-least later (record { past = filled-past placed from values is.past }) in
        ⊎_elim
        (λ (beyond : far < next_missing later).
        let nothing : later.at far ≡ None = ap (λ v. first_of v (brought values from far)) (is.window far (omega arith))
        ∙ brought-past values from far (omega (arith, within)) in
        absurd (none_some (later.at far) nothing (least_later.before far beyond)))
        (λ near. near)
        (cases_lt far (next_missing later))

  -- nothing enters where all lies before it
  behind : (placed : Placed A) (from : ℕ) (values : List A) → IsReceived placed → from + length values ≤ next_missing placed + 2 ^ 31
      → AreSame (filled_by_values placed from values) placed
  behind placed from values is before p = ⊎_elim
      (λ (there : p < next_missing placed). first_of-some (placed.at p) (brought values from p)
      ((next_missing-least placed (record { past = is.past })).before p there))
      (λ (past : next_missing placed ≤ p). ap (first_of (placed.at p)) (brought-past values from p (omega (arith, before)))
      ∙ first_of-nothing (placed.at p))
      (cases_lt p (next_missing placed))

  -- ---- parts

  part_if : (base : ℕ) (placed : Placed A) (seq total at : ℕ) (part : List A) (b : Bool) → accepts base (next_missing placed) seq total ≡ b
      → received_part base placed seq total at
      part ≡ (if b then filled_by_values placed (next_missing placed + lead base (next_missing placed) seq + at) part else placed)
  unfolding received_part
  part_if base placed seq total at part b is = rw is refl

  -- at each position
  part_at : (base : ℕ) (placed : Placed A) (seq total at : ℕ) (part : List A) (b : Bool) → accepts base (next_missing placed) seq total ≡ b
      → AreSame (received_part base placed seq total at part)
      (if b then filled_by_values placed (next_missing placed + lead base (next_missing placed) seq + at) part else placed)
  part_at base placed seq total at part b is p = ap (λ (r : Placed A). r.at p) (part_if base placed seq total at part b is)

  received-again : (base : ℕ) (placed : Placed A) (seq total at : ℕ) (part : List A) → IsReceived placed → at + length part ≤ total
      → IsReceived (received_part base placed seq total at part)
  received-again base placed seq total at part is within = ⊎_elim
      (λ (agreed : accepts base (next_missing placed) seq total ≡ true). subst IsReceived (sym (part_if base placed seq total at part true agreed))
      (filled-received placed (next_missing placed + lead base (next_missing placed) seq + at) part is
      (let near = accepted base (next_missing placed) seq total agreed in omega (arith, near.0, within))))
      (λ (refused : accepts base (next_missing placed) seq total ≡ false). subst IsReceived (sym (part_if base placed seq total at part false refused)) is)
      (cases_Bool (accepts base (next_missing placed) seq total))

  received-alike : (base : ℕ) (one other : Placed A) (seq total at : ℕ) (part : List A) → IsReceived one → IsReceived other → AreSame one other
      → AreSame (received_part base one seq total at part) (received_part base other seq total at part)
  received-alike base one other seq total at part is is_other same p =
      let next : next_missing one ≡ next_missing other = same-next one other is is_other same in
      let next_other : ℕ = next_missing other in
      ⊎_elim
      (λ (agreed : accepts base (next_missing one) seq total ≡ true).
      part_at base one seq total at part true agreed p ∙ ap (λ n. first_of (one.at p) (brought part (n + lead base n seq + at) p)) next
      ∙ ap (λ v. first_of v (brought part (next_other + lead base next_other seq + at) p)) (same p)
      ∙ sym (part_at base other seq total at part true (subst (λ n. accepts base n seq total ≡ true) next agreed) p))
      (λ (refused : accepts base (next_missing one) seq total ≡ false).
      part_at base one seq total at part false refused p ∙ same p
      ∙ sym (part_at base other seq total at part false (subst (λ n. accepts base n seq total ≡ false) next refused) p))
      (cases_Bool (accepts base (next_missing one) seq total))

  module _ (base : ℕ) (placed : Placed A) (seq total at : ℕ) (first second : List A) (is : IsReceived placed) (small : total ≤ 2 ^ 30)
      (within : at + length first + length second ≤ total) where
    abbrev JoinAt : ℕ → Type 0
    JoinAt p =
        (received_part base (received_part base placed seq total at first) seq total (at + length first) second).at
        p ≡ (received_part base placed seq total at (first ++ second)).at p

    joined-refused : accepts base (next_missing placed) seq total ≡ false → (p : ℕ) → JoinAt p
    joined-refused refused p =
        let same : received_part base placed seq total at first ≡ placed = part_if base placed seq total at first false refused in
        ap (λ (q : Placed A). (received_part base q seq total (at + length first) second).at p) same
        ∙ part_at base placed seq total (at + length first) second false refused p
        ∙ sym (part_at base placed seq total at (first ++ second) false refused p)

    module _ (agreed : accepts base (next_missing placed) seq total ≡ true) where
      abbrev from : ℕ
      from = next_missing placed + lead base (next_missing placed) seq + at

      abbrev later : Placed A
      later = filled_by_values placed from first

      near : lead base (next_missing placed) seq + total ≤ 2 ^ 30 + 2 ^ 31
      near = (accepted base (next_missing placed) seq total agreed).0

      is-later : IsReceived later
      is-later = filled-received placed from first is (omega (arith, near, within))

      second-of-later : (p : ℕ) → (received_part base (received_part base placed seq total at first) seq total (at + length first) second).at p
          ≡ (received_part base later seq total (at + length first) second).at p
      second-of-later p = ap (λ (q : Placed A). (received_part base q seq total (at + length first) second).at p)
          (part_if base placed seq total at first true agreed)

      -- a byte of the frame may be wanted
      joined-ahead : 2 ^ 31 < lead base (next_missing placed) seq + total → (p : ℕ) → JoinAt p
      joined-ahead ahead p =
          let next : ℕ = next_missing later in
          let grows : next ≤ next_missing placed + 2 ^ 30 = filled-grows placed from first is (omega (arith, near, within)) in
          let alike = judged_alike base (next_missing placed) next seq total small agreed ahead (filled-rises placed from first is) grows in
          let begins : next + lead base next seq + (at + length first) ≡ from + length first = omega (arith, alike.1) in
          second-of-later p ∙ part_at base later seq total (at + length first) second true alike.0 p ∙ ap (λ k. (filled_by_values later k second).at p) begins
          ∙ sym (filled-append placed from first second p) ∙ sym (part_at base placed seq total at (first ++ second) true agreed p)

      -- none is
      joined-behind : lead base (next_missing placed) seq + total ≤ 2 ^ 31 → (p : ℕ) → JoinAt p
      joined-behind back p =
          let next : ℕ = next_missing later in
          let as_before : AreSame later placed = behind placed from first is (omega (arith, within, back)) in
          let same : next ≡ next_missing placed = same-next later placed is-later is as_before in
          let same_lead : lead base next seq ≡ lead base (next_missing placed) seq = ap (λ n. lead base n seq) same in
          let still : accepts base next seq total ≡ true = subst (λ n. accepts base n seq total ≡ true) (sym same) agreed in
          let both : length (first ++ second) ≡ length first + length second = length-append first second in
          second-of-later p ∙ part_at base later seq total (at + length first) second true still p
          ∙ behind later (next + lead base next seq + (at + length first)) second is-later (omega (arith, same_lead, within, back)) p ∙ as_before p
          ∙ sym (behind placed from (first ++ second) is (omega (arith, both, within, back)) p)
          ∙ sym (part_at base placed seq total at (first ++ second) true agreed p)

    joined-parts : (p : ℕ) → JoinAt p
    joined-parts p = ⊎_elim
        (λ (agreed : accepts base (next_missing placed) seq total ≡ true). ⊎_elim
        (λ ahead. joined-ahead agreed ahead p)
        (λ back. joined-behind agreed back p)
        (cases_lt (2 ^ 31) (lead base (next_missing placed) seq + total)))
        (λ refused. joined-refused refused p)
        (cases_Bool (accepts base (next_missing placed) seq total))

pub parts_make_the_frame : (A : Type 0) → PartsMakeTheFrame A
parts_make_the_frame A = record {
  nothing = record { past = λ p above. refl; window = λ p above. refl };
  received = λ base placed seq total at part is within. received-again base placed seq total at part is within;
  alike = λ base one other seq total at part is is_other same. received-alike base one other seq total at part is is_other same;
  joined = λ base placed seq total at first second is small within. joined-parts base placed seq total at first second is small within;
}
