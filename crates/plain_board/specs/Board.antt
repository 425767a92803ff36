-- The board for one thread as its callers see it: what it is made of, and the log of its events.
use Rattle.std.specs.Prelude.{ℕ, List, slice_set}
use Rattle.area_layout.specs.Layout.{Shape}
use Rattle.board_face.specs.{Blank.{blank_app}, Laws.{AllSides}, Sides.{side_in}, declared.views.{nic.NicSide.{NicSide}, app.{AppSide.{AppSide}, AppView.{AppView}}}}
use Rattle.plain_board.specs.{Logs.{KeptEvents}, RunLaws.{opened_log}}
use Rattle.plain_board.specs.{declared.{logged.Logged.{Logged}, others.{Applications.{Applications}, Others.{Others}}}, Stand.{Arrays, Stand, new_stand}}

pub record Board : Type 0 where
  pub arrays : Arrays
  pub nic : NicSide
  pub apps : List AppSide
  -- the events so far
  pub log : KeptEvents

abbrev pub board_of : Logged → Board
board_of logged = record {
  arrays = logged.contents.arrays;
  nic = logged.contents.nic;
  apps = logged.contents.apps;
  log = logged.log;
}

-- what it is made of
abbrev pub stand_of : Board → Stand
stand_of board = record { arrays = board.arrays; nic = board.nic; apps = board.apps }

abbrev pub sides_of : Board → AllSides
sides_of board = record { nic = board.nic; apps = board.apps }

-- the board as an application holds it
pub record Part : Type 0 where
  pub board : Board
  pub app : ℕ

-- the side of an application
abbrev pub side_of : Board → ℕ → AppSide
side_of board a = side_in board.apps a

-- what the application that has the part has done and knows
abbrev pub view_of : Part → AppView
view_of part = (side_of part.board part.app).view

-- what no call of the card changes: the sides of the applications, and for how many events the log has room
abbrev pub applications_of : Board → Applications
applications_of board = record { apps = board.apps; room = board.log.room }

-- what no call of an application changes: the card's side, those of the other applications, its own number, and the log's room
abbrev pub others_of : Board → ℕ → Others
others_of board a = record { card = board.nic; apps = slice_set board.apps a blank_app; number = a; room = board.log.room }

abbrev pub beside_of : Part → Others
beside_of part = others_of part.board part.app

-- a board that was just opened, whose log has room for so many events
abbrev pub new_board : Shape → ℕ → ℕ → Board
new_board layout places room =
    let stand = new_stand layout places in record { arrays = stand.arrays; nic = stand.nic; apps = stand.apps; log = opened_log room }
