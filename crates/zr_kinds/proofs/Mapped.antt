-- The copying receiver looks at no value: if each value is mapped, what it has is mapped.
use Rattle.std.proofs.Common.{◌≡◌, ℕ, zero, suc, ◌+◌, ◌-◌, ◌^◌, List, [], ◌∷◌, length, map, Bool, true, false, nat_lt}
use Rattle.std.proofs.{Common.{if◌then◌else◌, Option, Some, None, is_some, option_map, refl, sym, ap, ◌∙◌, ⊎_elim}, lemmas.List.{length-map}}
use Rattle.zr_kinds.specs.CopyingReceiver.{Placed, nothing_placed, next_missing, lead, accepts, value_at, brought, first_of, filled_by_values, received, values_from}
use Rattle.zr_kinds.{specs.{CopyingReceiver.{front_of}, ReceiverLaws.{received_in_turn, mapped_pieces, IsMapped, LooksAtNoValue}}, proofs.InOrder.{cases_Option}}
use Rattle.zr_kinds.proofs.LeastMissing.{IsBounded, IsBounded-nothing, IsBounded-received, next_missing-least, same_least}

module _ {A B : Type 0} (f : A → B) where
  -- where the same stands, mapped, and none from the tops on
  pub record MapsPlaced (placed : Placed A) (mapped : Placed B) : Type 0 where
    pub at : (p : ℕ) → mapped.at p ≡ option_map f (placed.at p)
    pub bounded : IsBounded placed
    pub mapped_bounded : IsBounded mapped

  is_some-map : (value : Option A) → is_some (option_map f value) ≡ is_some value
  is_some-map None = refl
  is_some-map (Some value) = refl

  value_at-map : (values : List A) (place : ℕ) → value_at (map f values) place ≡ option_map f (value_at values place)
  value_at-map [] place = refl
  value_at-map (value ∷ values) zero = refl
  value_at-map (value ∷ values) (suc place) = value_at-map values place

  first_of-map : (value later : Option A) → first_of (option_map f value) (option_map f later) ≡ option_map f (first_of value later)
  first_of-map None later = refl
  first_of-map (Some value) later = refl

  brought_if : (before : Bool) (values : List A) (place : ℕ)
      → (if before then None else value_at (map f values) place) ≡ option_map f (if before then None else value_at values place)
  brought_if true values place = refl
  brought_if false values place = value_at-map values place

  brought-map : (values : List A) (from p : ℕ) → brought (map f values) from p ≡ option_map f (brought values from p)
  brought-map values from p = brought_if (nat_lt (p + 2 ^ 31) from) values (p + 2 ^ 31 - from)

  pub next_missing-map : (placed : Placed A) (mapped : Placed B) → MapsPlaced placed mapped → next_missing mapped ≡ next_missing placed
  next_missing-map placed mapped is =
      sym (same_least placed mapped (next_missing placed) (next_missing mapped) (next_missing-least placed is.bounded)
      (next_missing-least mapped is.mapped_bounded)
      (λ p. sym (ap is_some (is.at p) ∙ is_some-map (placed.at p))))

  filled-at : (placed : Placed A) (mapped : Placed B) (from : ℕ) (values : List A) → MapsPlaced placed mapped → (p : ℕ)
      → (filled_by_values mapped from (map f values)).at p ≡ option_map f ((filled_by_values placed from values).at p)
  filled-at placed mapped from values is p =
      ap (λ value. first_of value (brought (map f values) from p)) (is.at p) ∙ ap (first_of (option_map f (placed.at p))) (brought-map values from p)
      ∙ first_of-map (placed.at p) (brought values from p)

  received_if : (is_in into : Bool) (placed : Placed A) (mapped : Placed B) (from : ℕ) (values : List A) → into ≡ is_in → MapsPlaced placed mapped
      → (p : ℕ) → (if into then filled_by_values mapped from (map f values) else mapped).at p
      ≡ option_map f ((if is_in then filled_by_values placed from values else placed).at p)
  received_if true into placed mapped from values same is p = rw same (filled-at placed mapped from values is p)
  received_if false into placed mapped from values same is p = rw same (is.at p)

  received-at : (base : ℕ) (placed : Placed A) (mapped : Placed B) (s : ℕ) (values : List A) → MapsPlaced placed mapped → (p : ℕ)
      → (received base mapped s (map f values)).at p ≡ option_map f ((received base placed s values).at p)
  unfolding received
  received-at base placed mapped s values is =
      rw (next_missing-map placed mapped is)
      (received_if (accepts base (next_missing placed) s (length values)) (accepts base (next_missing placed) s (length (map f values))) placed mapped
      (next_missing placed + lead base (next_missing placed) s) values
      (rw length-map refl) is)

  pub received-map : (base : ℕ) (placed : Placed A) (mapped : Placed B) (s : ℕ) (values : List A) → MapsPlaced placed mapped
      → MapsPlaced (received base placed s values) (received base mapped s (map f values))
  received-map base placed mapped s values is = record {
    at = received-at base placed mapped s values is;
    bounded = IsBounded-received base placed s values is.bounded;
    mapped_bounded = IsBounded-received base mapped s (map f values) is.mapped_bounded;
  }

  pub values_from-map : (at : ℕ → Option A) (mapped : ℕ → Option B) (steps p : ℕ) → ((q : ℕ) → mapped q ≡ option_map f (at q))
      → values_from mapped steps p ≡ map f (values_from at steps p)
  values_from-map at mapped zero p same = refl
  values_from-map at mapped (suc steps) p same = ⊎_elim
      (λ (none : at p ≡ None). let too : mapped p ≡ None = same p ∙ ap (option_map f) none in rw (none, too) refl)
      (λ (there, some). let too : mapped p ≡ Some (f there) = same p
      ∙ ap (option_map f) some in rw (some, too) (ap (λ others. f there ∷ others) (values_from-map at mapped steps (suc p) same)))
      (cases_Option (at p))

  pub front_of-map : (placed : Placed A) (mapped : Placed B) → MapsPlaced placed mapped → front_of mapped ≡ map f (front_of placed)
  unfolding front_of
  front_of-map placed mapped is = rw (next_missing-map placed mapped is) (values_from-map placed.at mapped.at (next_missing placed) 0 is.at)

  pub in_turn-map : (base : ℕ) (placed : Placed A) (mapped : Placed B) (pieces : List (ℕ × List A)) → MapsPlaced placed mapped
      → MapsPlaced (received_in_turn base placed pieces) (received_in_turn base mapped (mapped_pieces f pieces))
  in_turn-map base placed mapped [] is = is
  in_turn-map base placed mapped (piece ∷ pieces) is =
      in_turn-map base (received base placed piece.0 piece.1) (received base mapped piece.0 (map f piece.1)) pieces
      (received-map base placed mapped piece.0 piece.1 is)

  pub IsMapped-from : (placed : Placed A) (mapped : Placed B) → MapsPlaced placed mapped → IsMapped f placed mapped
  IsMapped-from placed mapped is = record { at = is.at; next = next_missing-map placed mapped is; front = front_of-map placed mapped is }

pub looks_at_no_value : (A B : Type 0) → LooksAtNoValue A B
looks_at_no_value A B f base pieces =
    IsMapped-from f (received_in_turn base nothing_placed pieces) (received_in_turn base nothing_placed (mapped_pieces f pieces))
    (in_turn-map f base nothing_placed nothing_placed pieces (record { at = λ p. refl; bounded = IsBounded-nothing; mapped_bounded = IsBounded-nothing }))
