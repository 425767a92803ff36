-- The board in a card.
use Rattle.std.specs.Prelude.{◌≡◌, ℕ, ⊤, List, All, Option, None}
use Rattle.area_layout.specs.Layout.{pool_buffers}
use Rattle.board_face.specs.{Ended.{IsEachOnce, IsServed}, declared.views.{nic.NicSide.{NicSide}, app.AppSide.{AppSide}}}
use Rattle.plain_board.specs.{Finish.{IsBoardOver, free_buffers_of, HasNoCounts}, Board.{sides_of, stand_of}, Recorded.{IsRecorded}, Sound.{IsSound}}
use Rattle.word_board.specs.{Board.{card_of_seat}, Desk.{AllAreBack, AreServed, CountsAreOver, HasNoHolders, StandInOrder}}
use Rattle.top_call.specs.declared.card.Card.{Card}

-- there is a board, and it is over
abbrev pub HasOver : Card → Type 0
HasOver Card.Blank = ⊥
HasOver (Card.Found found) = ⊥
HasOver (Card.Plain board) = IsBoardOver (stand_of board)
HasOver (Card.Words board desk) = (desk.board ≡ board) × AllAreBack board.setting desk.view

-- there is none, or one that is over
abbrev pub IsClosed : Card → Type 0
IsClosed Card.Blank = ⊤
IsClosed (Card.Found found) = ⊤
IsClosed card = HasOver card

-- All counts are 0, those of the reserves too: those of the board for one thread; on words the word of each count, however the words
-- stand by the board's rule now that every role is back at the desk.
abbrev pub IsUncounted : Card → Type 0
IsUncounted Card.Blank = ⊤
IsUncounted (Card.Found found) = ⊤
IsUncounted (Card.Plain board) = HasNoCounts (stand_of board)
IsUncounted (Card.Words board desk) = CountsAreOver board.setting desk.view

-- These are the board's free buffers: each of the pool stands there once, nobody has a buffer, and every application was served.
abbrev pub HasFreed : Card → List ℕ → Type 0
HasFreed Card.Blank free = ⊥
HasFreed (Card.Found found) free = ⊥
HasFreed (Card.Plain board) free =
    (free ≡ free_buffers_of board.arrays) × IsEachOnce (pool_buffers board.arrays.layout) free × HasNoCounts (stand_of board)
    × All (IsServed board.nic) board.apps
HasFreed (Card.Words board desk) free =
    StandInOrder (card_of_seat desk.view).view.cache free × IsEachOnce (pool_buffers board.setting.layout) free × HasNoHolders desk.view
    × AreServed desk.view

-- There is a board with the setting of its roles, and this is what they did.
abbrev pub HasSides : Card → NicSide → List AppSide → Type 0
HasSides Card.Blank nic apps = ⊥
HasSides (Card.Found found) nic apps = ⊥
HasSides (Card.Plain board) nic apps = (board.nic ≡ nic) × (board.apps ≡ apps)
HasSides (Card.Words board desk) nic apps = (card_of_seat desk.view ≡ nic) × (desk.view.apps ≡ apps) × (nic.view.setting ≡ board.setting)

-- With a text of turns it is the board for one thread, which is sound, and its log tells of it; without one it is that or the board on
-- words.
abbrev pub IsOfWay : Option (List ℕ) → Card → Type 0
IsOfWay turns (Card.Plain board) = IsSound (stand_of board) × IsRecorded (sides_of board) board.log
IsOfWay None (Card.Words board desk) = ⊤
IsOfWay turns card = ⊥
