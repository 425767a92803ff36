-- What holds of the desk between two calls, and what is known of the roles that went back to it.
use Rattle.std.specs.Prelude.{◌≡◌, ℕ, ◌<◌, List, [], ◌∷◌, length, map, drop, take, All, AllPairs, Contains, slice_index}
use mathlib.Core.Option.{some}
use lib.ListN.{get_elem?}
use Rattle.atomic_table.specs.Table.{State}
use Rattle.area_layout.specs.Layout.{all_buffers}
use Rattle.board_face.specs.{NicCalls.{apps_of}, Counts.{pool_count, user_count}, Ended.{IsServed}, Relay.{IsProper}, declared.views.parts.Setting.{Setting}}
use Rattle.board_face.specs.declared.views.nic.NicSide.{NicSide}
use Rattle.ref_words.specs.{declared.view.View.{View}, Seated.{both_sides}, Over.{CardIsOver, AppIsOver}, Words.{pool_at, user_word_at}}
use Rattle.word_board.specs.Board.{IsBoard, TheDesk, card_of_seat}

-- The roles that are back are over: the card ended, and the applications left, and none is in the middle of anything. No role is due.
pub record AreOver (v : View) : Type 0 where
  pub card : All CardIsOver v.nics
  pub apps : All AppIsOver v.apps
  pub due : v.due ≡ []

-- what each application did stands to what the card did
abbrev pub AreServed : View → Type 0
AreServed v = All (λ nic. All (IsServed nic) v.apps) v.nics

-- What is back is of one board: each side has its setting, and what the card sent could be sent.
pub record AreOfBoard (setting : Setting) (v : View) : Type 0 where
  pub card : All (λ nic. (nic.view.setting ≡ setting) × All IsProper nic.view.sent) v.nics
  pub apps : All (λ app. app.view.setting ≡ setting) v.apps

-- the cache of the card that is back
abbrev pub cache_back : List NicSide → List ℕ
cache_back [] = []
cache_back (nic ∷ nics) = nic.view.cache

-- the desk, once a seat with this view went back to it
abbrev pub took_back : TheDesk → View → TheDesk
took_back desk v = record desk { view = both_sides desk.view v }

-- every role went back
pub record AllAreBack (setting : Setting) (v : View) : Type 0 where
  pub card : length v.nics ≡ 1
  pub apps : (a : ℕ) → a < apps_of setting → Contains (map (λ app. app.view.app) v.apps) a

-- no buffer has a holder, and no application owes any
pub record HasNoHolders (v : View) : Type 0 where
  pub pool : (b : ℕ) → pool_count b (card_of_seat v) v.apps ≡ 0
  pub users : (a b : ℕ) → user_count a b (card_of_seat v) v.apps ≡ 0

-- Each word of counts is 0, those of the reserves too: the pool count of each buffer, and each application's user count for it.
pub record HaveNoCounts (setting : Setting) (words : List ℕ) : Type 0 where
  pub pool : (b : ℕ) → b < all_buffers setting.layout → slice_index words (pool_at setting b) ≡ 0
  pub users : (a b : ℕ) → a < apps_of setting → b < all_buffers setting.layout → slice_index words (user_word_at setting a b) ≡ 0

-- However the table stands by its rule while its first seat, the desk, has this view: each word of counts is 0.
abbrev pub CountsAreOver : Setting → View → Type 0
CountsAreOver setting v = (s : State (List ℕ) View) → IsBoard setting s → get_elem? s.views 0 ≡ some v → HaveNoCounts setting s.words

-- the words that a board was closed with
pub record TheWords : Type 0 where
  pub setting : Setting
  pub words : List ℕ

-- the cached buffers come first, in the order of the cache, and the others behind them from the lowest
pub record StandInOrder (cached free : List ℕ) : Type 0 where
  pub first : take (length cached) free ≡ cached
  pub rising : AllPairs (λ a b. a < b) (drop (length cached) free)
