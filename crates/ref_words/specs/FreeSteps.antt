-- Steps at the free list, on a board of words: the card sweeps a word, a role lists a buffer that it has in hand, and an application looks
-- at a word and picks a buffer whose bit it saw there.
use Rattle.std.specs.{Prelude.{◌≤◌, length, ℕ, zero, suc, ◌+◌, ◌*◌, Bool, if◌then◌else◌, List, [], ◌∷◌, ◌==◌, nat_eq}, Int.{bit_at}}
use Rattle.board_face.specs.{Lists.{without}, NicEvents.{word_bits, swept, cache_room}, NicCalls.{SweptWord, lost_of, sent_unsplit_bytes}, Sides.{nic_at}, Steps.{side_picked}, declared.views.nic.NicSide.{NicSide}}
use Rattle.board_face.specs.declared.views.app.AppSide.{AppSide}

-- the buffers of a word of the free list whose bits are set among the k lowest of n, the highest first
abbrev pub found_below : ℕ → ℕ → ℕ → List ℕ
found_below word n zero = []
found_below word n (suc k) = if bit_at n k == 1 then (word_bits * word + k) ∷ found_below word n k else found_below word n k

-- all that n lists there
abbrev pub all_listed_in : ℕ → ℕ → List ℕ
all_listed_in word n = found_below word n word_bits

-- ---- the card

-- it swept a word, where it found n
abbrev pub side_swept : NicSide → ℕ → ℕ → NicSide
side_swept nic word n = nic_at nic (swept nic.view word (all_listed_in word n))

-- What the card knows once it swept a word, where it found n: the buffers found are of the pool and of this word, the highest first, and
-- the cache has room for them. Buffers of swept words that are neither cached nor were taken were picked as spares, and each spare is for
-- a byte of an unsplit note.
pub record IsSwept (nic : NicSide) (j n : ℕ) : Type 0 where
  pub event : SweptWord nic.view (side_swept nic j n).view j (length (all_listed_in j n))
  pub room : length (side_swept nic j n).view.cache ≤ cache_room
  pub bound : lost_of (side_swept nic j n).view ≤ sent_unsplit_bytes nic.view

-- it listed a buffer that it had in hand
abbrev pub side_nic_listed : NicSide → ℕ → NicSide
side_nic_listed nic buffer = record nic { inside = record nic.inside { hands = without (nat_eq buffer) nic.inside.hands } }

-- ---- an application

-- so did an application
abbrev pub side_app_listed : AppSide → ℕ → AppSide
side_app_listed app buffer = record app { inside = record app.inside { hands = without (nat_eq buffer) app.inside.hands } }

-- in this search for a spare it saw a word 0, or lost a buffer there to another
abbrev pub side_word_without : AppSide → ℕ → AppSide
side_word_without app word = record app { inside = record app.inside { words_without = word ∷ app.inside.words_without } }

-- it looked at a word, which was 0 or not
abbrev pub side_word_looked : AppSide → ℕ → Bool → AppSide
side_word_looked app word none = if none then side_word_without app word else app

-- it cleared the bit of a buffer of a word: the buffer is picked where the bit was still set, and lost to another where it wasn't
abbrev pub side_bit_cleared : AppSide → ℕ → ℕ → Bool → AppSide
side_bit_cleared app word buffer listed = if listed then side_picked app buffer else side_word_without app word
