-- Refill entries on their way, as board_face has them, and how far back the last raw one lies.
use Rattle.std.specs.Prelude.{ℕ, suc, nat_lt, if◌then◌else◌, List, [], ◌∷◌}
use Rattle.board_face.specs.declared.views.app.WrittenEntry.{WrittenEntry}
pub use Rattle.board_face.specs.Returns.{entries_on_way, is_some_of, names, returns, loans_out, abandoned_in, is_raw, IsOfLoan, IsNamed, IsClear, AreReturns}

-- how many entries don't stand behind the last raw one
abbrev pub reach_of : List WrittenEntry → ℕ
reach_of [] = 0
reach_of (w ∷ ws) = if nat_lt 0 (reach_of ws) then suc (reach_of ws) else if w.of_loan then 0 else 1
