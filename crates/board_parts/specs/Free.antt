-- The free list, once a buffer came to be free.
use Rattle.std.specs.Prelude.{◌≡◌, ◌<◌, ◌⊎◌, slice_index, ℕ, zero, suc, ◌+◌, ◌-◌, ◌*◌, min, Bool, true, false, slice_index_or, []}
use Rattle.std.specs.Prelude.{◌∷◌, ◌++◌, if◌then◌else◌, nat_lt, List, length, slice_set}
use Rattle.board_face.specs.NicEvents.{cache_room, word_bits}

-- whether a buffer is on the free list
abbrev pub listed_in : List Bool → ℕ → Bool
listed_in listed buffer = slice_index_or listed buffer false

-- it enters the free list where the cache was full
abbrev pub relisted : List ℕ → List Bool → ℕ → List Bool
relisted cache listed buffer = if nat_lt (length cache) cache_room then listed else slice_set listed buffer true

-- those of so many buffers from `first` on that are listed, the highest first
abbrev pub listed_from : List Bool → ℕ → ℕ → List ℕ
listed_from listed first zero = []
listed_from listed first (suc n) = (if slice_index_or listed (first + n) false then (first + n) ∷ [] else []) ++ listed_from listed first n

-- how many buffers a word has, 64 but for the last one
abbrev pub word_len : List Bool → ℕ → ℕ
word_len listed word = min word_bits (length listed - word_bits * word)

-- where a word ends
abbrev pub word_end : List Bool → ℕ → ℕ
word_end listed word = word_bits * word + word_len listed word

-- the listed buffers of a word, the highest first
abbrev pub listed_in_word : List Bool → ℕ → List ℕ
listed_in_word listed word = listed_from listed (word_bits * word) (word_len listed word)

-- the listed buffers below n, the lowest first
abbrev pub listed_below : List Bool → ℕ → List ℕ
listed_below listed zero = []
listed_below listed (suc n) = listed_below listed n ++ (if slice_index_or listed n false then n ∷ [] else [])

-- no buffer is listed
abbrev pub HasNoneListed : List Bool → Type 0
HasNoneListed listed = (b : ℕ) → listed_in listed b ≡ false

-- the buffer is the lowest that is listed
pub record IsLowest (listed : List Bool) (buffer : ℕ) : Type 0 where
  pub there : buffer < length listed
  pub is_listed : listed_in listed buffer ≡ true
  pub lowest : (b : ℕ) → b < buffer → listed_in listed b ≡ false

-- The buffer that is picked to copy into is the lowest listed one, which isn't listed then. Where none is listed it is the
-- reserve, which has no holder.
pub record IsPicked (listed listed' : List Bool) (pool : List ℕ) (reserve buffer : ℕ) : Type 0 where
  pub which : (IsLowest listed buffer × (listed' ≡ slice_set listed buffer false))
      ⊎ ((buffer ≡ reserve) × HasNoneListed listed × (slice_index pool reserve ≡ 0) × (listed' ≡ listed))
