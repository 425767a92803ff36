-- The sides of the applications of a board on which nothing has happened.
pub use Rattle.board_face.specs.Opened.{new_apps}
