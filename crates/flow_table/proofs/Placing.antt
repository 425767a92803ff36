-- A list of bytes at positions against the values placed by the definition.
use Rattle.std.proofs.Common.{◌≡◌, ℕ, suc, ◌+◌, ◌-◌, ◌^◌, ◌<◌, ◌≤◌, List, [], ◌∷◌, ◌++◌, length, take, get_or}
use Rattle.std.proofs.Common.{Option, Some, None, Bool, true, false, is_some, find, option_map, if◌then◌else◌, ◌==◌, refl, sym, ap, ◌∙◌}
use Rattle.std.proofs.{Common.{arith, length-take-le, append_assoc}, lemmas.{Bool.{cond-false, ne_eqb}, List.{take_more}}}
use Rattle.zr_kinds.{specs.CopyingReceiver.{Placed, missing_within, values_from, brought, first_of, front_of}, proofs.InOrder.{front_of-steps, first_of-nothing}}
use Rattle.zr_kinds.proofs.Pushed.{brought-push, same_position}
use Rattle.flow_table.specs.{declared.plain.placed.PlacedByte.{PlacedByte}, Plain.{byte_in}}

-- ---- going on by one position

there_is : (o : Option ℕ) → is_some o ≡ true → (value : ℕ) × (o ≡ Some value)
there_is None some = cc
there_is (Some value) some = (value, refl)

pub missing_within-more : (at : ℕ → Option ℕ) (top p : ℕ) → p < top → is_some (at p) ≡ true
    → missing_within at (top - p) p ≡ missing_within at (top - (p + 1)) (p + 1)
missing_within-more at top p below some =
    let (value, here) = there_is (at p) some in
    let steps : top - p ≡ suc (top - (p + 1)) = omega arith in
    let next : suc p ≡ p + 1 = omega arith in
    let opened : missing_within at (suc (top - (p + 1))) p ≡ missing_within at (top - (p + 1)) (suc p) = rw here refl in
    ap (λ n. missing_within at n p) steps ∙ opened ∙ ap (missing_within at (top - (p + 1))) next

values_from-more : (at : ℕ → Option ℕ) (top p : ℕ) (value : ℕ) → p < top → at p ≡ Some value
    → values_from at (top - p) p ≡ value ∷ values_from at (top - (p + 1)) (p + 1)
values_from-more at top p value below here =
    let steps : top - p ≡ suc (top - (p + 1)) = omega arith in
    let next : suc p ≡ p + 1 = omega arith in
    let opened : values_from at (suc (top - (p + 1))) p ≡ value ∷ values_from at (top - (p + 1)) (suc p) = rw here refl in
    ap (λ n. values_from at n p) steps ∙ opened ∙ ap (λ q. value ∷ values_from at (top - (p + 1)) q) next

pub front_begins : (placed : Placed ℕ) (items : List ℕ) → items ≡ [] → items ++ values_from placed.at (placed.top - 0) 0 ≡ front_of placed
front_begins placed items none =
    ap (λ xs. xs ++ values_from placed.at (placed.top - 0) 0) none ∙ ap (λ n. values_from placed.at n 0) (omega arith) ∙ sym (front_of-steps placed)

pub front_goes_on : (at : ℕ → Option ℕ) (top p : ℕ) (items more front : List ℕ) (value : ℕ) → p < top → Some value ≡ at p
    → more ≡ items ++ value ∷ [] → items ++ values_from at (top - p) p ≡ front → more ++ values_from at (top - (p + 1)) (p + 1) ≡ front
front_goes_on at top p items more front value below here pushed so_far =
    let rest : List ℕ = values_from at (top - (p + 1)) (p + 1) in
    ap (λ xs. xs ++ rest) pushed ∙ append_assoc items (value ∷ []) rest
    ∙ ap (λ xs. items ++ xs) (sym (values_from-more at top p value below (sym here))) ∙ so_far

-- ---- one value more

first_of-assoc : (a b c : Option ℕ) → first_of (first_of a b) c ≡ first_of a (first_of b c)
first_of-assoc None b c = refl
first_of-assoc (Some a) b c = refl

-- a byte more at the end of the list counts where no other stands
in_front : (b : Bool) (x : PlacedByte) (found more : Option PlacedByte) (last : Option ℕ)
    → option_map (λ b. b.byte) more ≡ first_of (option_map (λ b. b.byte) found) last
    → option_map (λ b. b.byte) (if b then Some x else more) ≡ first_of (option_map (λ b. b.byte) (if b then Some x else found)) last
in_front true x found more last same = refl
in_front false x found more last same = same

byte_in-push : (bytes : List PlacedByte) (b : PlacedByte) (p : ℕ) → byte_in (bytes ++ b ∷ []) p ≡ first_of (byte_in bytes p) (byte_in (b ∷ []) p)
byte_in-push [] b p = refl
byte_in-push (x ∷ bytes) b p =
    in_front (x.position == p) x (find (λ b. b.position == p) bytes) (find (λ b. b.position == p) (bytes ++ b ∷ [])) (byte_in (b ∷ []) p)
    (byte_in-push bytes b p)

brought-take_more : (values : List ℕ) (i d from p : ℕ) → i < length values
    → brought (take (i + 1) values) from p ≡ first_of (brought (take i values) from p) (if p + 2 ^ 31 == from + i then Some (get_or values i d) else None)
brought-take_more values i d from p below =
    ap (λ vs. brought vs from p) (take_more values i d below)
    ∙ brought-push (take i values) (get_or values i d) from p
    ∙ ap (λ n. first_of (brought (take i values) from p) (if p + 2 ^ 31 == from + n then Some (get_or values i d) else None))
    (length-take-le i values (omega arith))

one_byte : (b : Bool) (x : PlacedByte) → option_map (λ b. b.byte) (if b then Some x else None) ≡ (if b then Some x.byte else None)
one_byte true x = refl
one_byte false x = refl

module _ (old : ℕ → Option ℕ) (bytes : List PlacedByte) (values : List ℕ) (from i d : ℕ) (below : i < length values)
    (placed : (p : ℕ) → byte_in bytes p ≡ first_of (old p) (brought (take i values) from p)) where
  more : (p : ℕ) → first_of (byte_in bytes p) (if p + 2 ^ 31 == from + i then Some (get_or values i d) else None) ≡ first_of (old p)
      (brought (take (i + 1) values) from p)
  more p =
      ap (λ o. first_of o (if p + 2 ^ 31 == from + i then Some (get_or values i d) else None)) (placed p)
      ∙ first_of-assoc (old p) (brought (take i values) from p) (if p + 2 ^ 31 == from + i then Some (get_or values i d) else None)
      ∙ ap (first_of (old p)) (sym (brought-take_more values i d from p below))

  -- a value that is placed, and one before position 0
  pub placed_more : 2 ^ 31 ≤ from + i → (p : ℕ)
      → byte_in (bytes ++ record { position = from + i - 2 ^ 31; byte = get_or values i d } ∷ []) p ≡ first_of (old p)
      (brought (take (i + 1) values) from p)
  placed_more within p =
      let b : PlacedByte = record { position = from + i - 2 ^ 31; byte = get_or values i d } in
      byte_in-push bytes b p
      ∙ ap (first_of (byte_in bytes p))
      (one_byte (from + i - 2 ^ 31 == p) b ∙ ap (λ t. if t then Some (get_or values i d) else None) (same_position from i p within))
      ∙ more p

  pub passed_over : from + i < 2 ^ 31 → (p : ℕ) → byte_in bytes p ≡ first_of (old p) (brought (take (i + 1) values) from p)
  passed_over before p =
      sym (first_of-nothing (byte_in bytes p))
      ∙ ap (first_of (byte_in bytes p))
      (sym (cond-false (p + 2 ^ 31 == from + i) (Some (get_or values i d)) None (ne_eqb (p + 2 ^ 31) (from + i) (λ e. omega arith))))
      ∙ more p
