-- What is still to come of a source's bytes, byte by byte and line by line.
use Rattle.std.specs.Prelude.{◌≡◌, ◌≢◌, ℕ, ◌<◌, Bool, true, false, List, [], ◌∷◌, ◌++◌, length, All, Option, Some, None, option_map, IfSome}
use Rattle.std.specs.Io.KnownBytes.{Consumes, IsAtEnd}
use Rattle.zr_kinds.specs.RunText.{RecordText}

-- the bytes that were read and wait, and then those that the source has left, where it tells them
abbrev pub ahead : List ℕ → Option (List ℕ) → Option (List ℕ)
ahead waiting left = option_map (λ rest. waiting ++ rest) left

abbrev pub GivesByte : Option (List ℕ) → Option (List ℕ) → Option ℕ → Type 0
GivesByte old new (Some byte) = Consumes old new (byte ∷ [])
GivesByte old new None = IsAtEnd old

-- where no byte comes, nothing is left
abbrev pub IsLeftEmpty : Option (List ℕ) → Option ℕ → Type 0
IsLeftEmpty left (Some byte) = Unit {0}
IsLeftEmpty left None = IsAtEnd left

-- no byte is a line feed
abbrev pub IsOneLine : RecordText → Type 0
IsOneLine line = All (λ byte. byte ≢ 10) line

-- no line of at most 128 bytes comes first
abbrev pub HasNoLine : List ℕ → Type 0
HasNoLine bytes = (line : RecordText) (behind : List ℕ) → bytes ≡ line ++ 10 ∷ behind → IsOneLine line → 128 < length line

-- whether the next line was read
abbrev pub ReadsLine : Option (List ℕ) → Option (List ℕ) → RecordText → Bool → Type 0
ReadsLine old new line true = Consumes old new (line ++ 10 ∷ []) × IsOneLine line
ReadsLine old new line false = IfSome old HasNoLine

-- whether nothing is left
abbrev pub IsOver : Option (List ℕ) → Bool → Type 0
IsOver old true = IsAtEnd old
IsOver old false = IfSome old (λ bytes. bytes ≡ [] → ⊥)
