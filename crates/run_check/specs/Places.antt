-- The places of a buffer, as the holders that they are.
use Rattle.std.specs.Prelude.{ℕ, ◌+◌, ◌<◌, ◌≤◌, ◌==◌, Bool, true, false, List, [], ◌∷◌, map}
use Rattle.zr_kinds.specs.declared.holding.Holding.{Holding}
use Rattle.zr_kinds.specs.declared.holding.Holding.TheVariants as holding
use Rattle.run_check.specs.declared.places.{Hand.{Hand}, OwnedPlace.{OwnedPlace}}
use Rattle.run_check.specs.declared.places.Hand.TheVariants as hand

abbrev pub held_by : Hand → ℕ → ℕ → Holding
held_by hand.Card offset len = holding.Piece offset len
held_by (hand.Sent app) offset len = holding.Sent app offset len
held_by (hand.App app) offset len = holding.Held app offset len
held_by (hand.Loan app) offset len = holding.Loan app offset len

abbrev pub is_same_hand : Hand → Hand → Bool
is_same_hand hand.Card hand.Card = true
is_same_hand (hand.Sent a) (hand.Sent b) = a == b
is_same_hand (hand.App a) (hand.App b) = a == b
is_same_hand (hand.Loan a) (hand.Loan b) = a == b
is_same_hand one other = false

-- a place with its offset
abbrev pub placed_holding : ℕ × OwnedPlace → Holding
placed_holding e = held_by e.1.hand e.0 e.1.len

abbrev pub all_placed : List (ℕ × OwnedPlace) → List Holding
all_placed entries = map placed_holding entries

-- from this byte on: each has bytes, and begins where the one before it ends or behind that
abbrev pub ArePlacesApart : ℕ → List (ℕ × OwnedPlace) → Type 0
ArePlacesApart from [] = Unit {0}
ArePlacesApart from (e ∷ entries) = (from ≤ e.0) × (0 < e.1.len) × ArePlacesApart (e.0 + e.1.len) entries

abbrev pub IsNoLoan : Hand → Type 0
IsNoLoan hand.Card = Unit {0}
IsNoLoan (hand.Sent app) = Unit {0}
IsNoLoan (hand.App app) = Unit {0}
IsNoLoan (hand.Loan app) = ⊥
