-- A text on its way to a sink through a block, where what waits goes out together.
use Rattle.std.specs.{Prelude.{◌≡◌, ℕ, List, ◌++◌, take, Option, Result, MatchResult}, Io.KnownBytes.{Appends}}

-- Some of it went out, and the rest waits in the block.
abbrev pub Waits : Option (List ℕ) → Option (List ℕ) → List ℕ → List ℕ → Type 0
Waits sent now text waiting = (gone : List ℕ) × (gone ++ waiting ≡ text) × Appends sent now gone

-- A text was put behind what waited in the block; where the sink failed, a front of both went out.
abbrev pub Gathers : {A E : Type 0} → Option (List ℕ) → Option (List ℕ) → List ℕ → List ℕ → Result A E → List ℕ → Type 0
Gathers sent now block block_now result text =
    MatchResult result (λ _. Waits sent now (block ++ text) block_now) (λ _. (n : ℕ) × Appends sent now (take n (block ++ text)))
