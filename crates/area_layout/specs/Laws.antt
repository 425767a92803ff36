-- What holds of every layout.
use Rattle.std.specs.Prelude.{◌≡◌, ℕ, ◌+◌, ◌*◌, ◌/◌, ◌%◌, ◌<◌, ◌≤◌, Some}
use Rattle.zr_kinds.specs.declared.place.Place.{Place}
use Rattle.area_layout.specs.Layout.{Shape, IsLayout, IsBufferSize, LiesIn, all_buffers, least_size, size_of, begin_of, first_word, area_words, off_of, judged}

-- Buffers lie one after another from byte 0 on, each as long as its size and no shorter than the least. The area ends where
-- a buffer behind the last would begin; numbers from there on have a size as well.
pub record HasBuffersInOrder (shape : Shape) : Type 0 where
  pub first : begin_of shape 0 ≡ 0
  pub next : (b : ℕ) → begin_of shape (b + 1) ≡ begin_of shape b + size_of shape b
  pub apart : (a b : ℕ) → a < b → begin_of shape a + size_of shape a ≤ begin_of shape b
  pub whole : (b : ℕ) → begin_of shape b % 8 ≡ 0
  pub least : (b : ℕ) → least_size shape ≤ size_of shape b
  pub some : IsBufferSize (least_size shape)

abbrev pub BuffersAreInOrder : Type 0
BuffersAreInOrder = (shape : Shape) → IsLayout shape → HasBuffersInOrder shape

-- A buffer has as many words as `size_of` by 8, from `first_word` on. They lie before those of the buffers behind it,
-- one buffer after another, and end where the words of the area do.
pub record HasWordsApart (shape : Shape) : Type 0 where
  pub apart : (a b : ℕ) → a < b → b < all_buffers shape → first_word shape a + size_of shape a / 8 ≤ first_word shape b
  pub inside : (b : ℕ) → b < all_buffers shape → first_word shape b + size_of shape b / 8 ≤ area_words shape
  pub next : (b : ℕ) → b < all_buffers shape → first_word shape (b + 1) ≡ first_word shape b + size_of shape b / 8
  pub size : (b : ℕ) → IsBufferSize (size_of shape b)
  pub whole : (b : ℕ) → 8 * (size_of shape b / 8) ≡ size_of shape b
  pub few : area_words shape ≤ 8454144

abbrev pub WordsAreApart : Type 0
WordsAreApart = (shape : Shape) → IsLayout shape → HasWordsApart shape

-- an entry with the offset of a place names the buffer in which the place begins
abbrev pub PlacesAreJudged : Type 0
PlacesAreJudged =
    (shape : Shape) (place : Place) (len : ℕ) → IsLayout shape → LiesIn shape place → place.offset < size_of shape place.buffer
    → judged shape (record { off = off_of shape place; len = len; pad = 0 }) ≡ Some place.buffer
