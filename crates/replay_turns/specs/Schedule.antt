-- The text of turns, and whose turn each of its characters asks for.
use Rattle.std.specs.Prelude.{◌≡◌, ℕ, ◌+◌, ◌-◌, ◌<◌, ◌≤◌, ◌⊎◌, ◌==◌, if◌then◌else◌, List, All}
use Rattle.replay_turns.specs.declared.role.Role.{Role, TheVariants.{Card, App}}

-- `n`
abbrev pub card_letter : ℕ
card_letter = 110

-- `0`
abbrev pub first_digit : ℕ
first_digit = 48

-- `n`, or the digit of one of so many applications
abbrev pub IsTurn : ℕ → ℕ → Type 0
IsTurn apps letter = (letter ≡ card_letter) ⊎ ((first_digit ≤ letter) × (letter < first_digit + apps))

abbrev pub AreTurns : ℕ → List ℕ → Type 0
AreTurns apps turns = All (IsTurn apps) turns

-- whose turn a letter asks for
abbrev pub role_of : ℕ → Role
role_of letter = if letter == card_letter then Card else App (letter - first_digit)

-- the card, or one of so many applications
abbrev pub IsRole : ℕ → Role → Type 0
IsRole apps Card = Unit {0}
IsRole apps (App app) = app < apps
