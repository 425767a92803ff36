-- What always holds of a board as its callers see it.
use Rattle.std.specs.Prelude.{◌<◌}
pub use Rattle.plain_board.specs.StepLaw.{IsRecorded}
use Rattle.plain_board.specs.{Board.{Board, Part, sides_of, stand_of}, Sound.{IsSound}}

-- Its contents are sound, and its log tells of its sides.
pub record IsSoundAndRecorded (board : Board) : Type 0 where
  pub sound : IsSound (stand_of board)
  pub recorded : IsRecorded (sides_of board) board.log

-- The same of the board in the hands of an application, which is one of the board's.
pub record IsSoundPart (part : Part) : Type 0 where
  pub app : part.app < part.board.arrays.layout.reserves
  pub board : IsSoundAndRecorded part.board
