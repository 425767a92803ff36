-- The rule: what the words say of the roles' sides, between any two steps. It has three parts, each of which reads other words.
use Rattle.std.specs.Prelude.{◌≡◌, ℕ, ◌<◌, List}
use Rattle.area_layout.specs.Layout.{IsLayout, all_buffers}
use Rattle.board_face.specs.{NicCalls.{apps_of}, Counts.{pool_count, user_count}, FreeOnce.{AreFreeOnce}, Used.{AreKept}, Sides.{IsApp}}
use Rattle.board_face.specs.declared.views.{parts.Setting.{Setting}, nic.NicSide.{NicSide}, app.AppSide.{AppSide}}
use Rattle.ref_words.specs.{Words.{Words, WordsHaveSizes, listed_bit, pool_word_of, user_word_of}, Sides.{SidesRule}, Rings.{AreRings}, TextRule.{TextRule}}
use Rattle.ref_words.specs.PhaseRule.{PhaseRule}

-- Counts, the free list and the slots of the rings.
pub record RefRule (setting : Setting) (words : Words) (nic : NicSide) (apps : List AppSide) : Type 0 where
  pub layout : IsLayout setting.layout
  pub sizes : WordsHaveSizes setting words
  pub sides : SidesRule setting nic apps
  -- counts are holders
  pub pool : (b : ℕ) → b < all_buffers setting.layout → pool_word_of words b ≡ pool_count b nic apps
  pub users : (a b : ℕ) → a < apps_of setting → b < all_buffers setting.layout → user_word_of words a b ≡ user_count a b nic apps
  -- a pool buffer has a holder or stands in one free place, and one that nobody used is listed or cached
  pub free : AreFreeOnce (listed_bit words) nic apps
  pub kept : AreKept (listed_bit words) nic apps
  -- the entries and the notes on their way lie in the slots, in order, and what either end has seen of its next slot is so
  pub rings : (a : ℕ) (app : AppSide) → IsApp apps a app → AreRings setting words nic app

-- The whole rule.
pub record BoardRule (setting : Setting) (words : Words) (nic : NicSide) (apps : List AppSide) : Type 0 where
  -- the area has the texts, and what was read is what was sent
  pub texts : TextRule setting words nic apps
  -- counts are holders, each buffer is free once or held, and the slots have what is on its way
  pub refs : RefRule setting words nic apps
  -- who has ended and who has left
  pub phases : PhaseRule setting words nic apps
