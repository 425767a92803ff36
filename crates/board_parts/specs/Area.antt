-- The bytes of an area.
use Rattle.std.specs.Prelude.{ℕ, ◌+◌, List, ◌++◌, length, take, drop}

-- the area with these bytes at a place
abbrev pub stored : List ℕ → ℕ → List ℕ → List ℕ
stored area at bytes = take at area ++ bytes ++ drop (at + length bytes) area

-- so many bytes from a place on
abbrev pub loaded : List ℕ → ℕ → ℕ → List ℕ
loaded area at len = take len (drop at area)
