-- The words before this one have nothing for it.
use Rattle.std.specs.Prelude.{◌≡◌, ℕ, ◌<◌}
use Rattle.board_face.specs.AppEvents.{app_gist}
use Rattle.word_board.{specs.Told.{SawWithout}, proofs.Searching.{IsSearching}}
use Rattle.word_board.proofs.kinds.spares.pick_listed.Given as goal

abbrev pub invariant-loop-word : goal.invariant-loop-word
invariant-loop-word l =
    (l.app.board ≡ l.fn.app.board)
    × IsSearching l.fn.app.side l.app.side l.word
    × ((j : ℕ) → j < l.word → SawWithout l.fn.app.board.setting (app_gist l.fn.app.side.view) j)
