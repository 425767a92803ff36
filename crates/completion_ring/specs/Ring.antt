-- What a contract sees of a completion ring.
use Rattle.std.specs.{Prelude.{◌≡◌, ℕ, List, length, refl}, Coded.{Coded, code_by, coded×, coded_list, coded_ℕ}}

-- the entries, from the oldest on, and how many there may be
pub record Ring (X : Type 0) : Type 0 where
  pub entries : List X
  pub places : ℕ

module _ {X : Type 0} where
  abbrev pub ring : List X → ℕ → Ring X
  ring entries places = record { entries = entries; places = places }

  abbrev pub ring_code : Coded X → Coded (Ring X)
  ring_code c = code_by (List X × ℕ) (coded× (coded_list c) coded_ℕ) (λ r. (r.entries, r.places)) (λ p. ring p.0 p.1) (λ _. refl)

  abbrev pub IsFull : Ring X → Type 0
  IsFull r = length r.entries ≡ r.places
