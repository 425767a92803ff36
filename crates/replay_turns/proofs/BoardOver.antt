-- Once the card was closed and every application has left, all is over at the board of a run.
use Rattle.std.proofs.Common.{◌≡◌, ℕ, ◌<◌, length, sym, ap, ◌∙◌, arith}
use Rattle.board_face.{specs.{Blank.{blank_app}, Ended.{HaveEnded}, Sides.{IsApp}, declared.views.parts.Setting.{Setting}}, proofs.SideLemmas.{IsApp-at}}
use Rattle.plain_board.{specs.Board.{Board, stand_of, side_of}, proofs.Ending.{boards-end_well}}
use Rattle.run_account.{specs.{Running.{IsRunOver}, declared.run.Run.{Run}}, proofs.Gone.{card-ended, all-left}}
use Rattle.replay_turns.specs.Running.{RunFits}

module _ (board : Board) (run : Run) (shelves : ℕ) (fits : RunFits board run shelves) where
  pub many-sides : length board.apps ≡ length run.workers.items
  many-sides = fits.sound.set.many ∙ sym fits.many

  pub side-is : (a : ℕ) → a < length run.workers.items → IsApp board.apps a (side_of board a)
  side-is a within = IsApp-at board.apps a blank_app fits.sound.set.numbers (omega (arith, within, many-sides))

  pub have-ended : IsRunOver run → HaveEnded board.nic board.apps
  have-ended over =
      let card = card-ended board.nic board.apps run fits.roles over in
      let left = all-left board.nic board.apps run fits.roles over many-sides in
      record {
        card = card;
        left = left;
        numbers = fits.sound.set.numbers;
        one_setting = record {
          same = λ k d within. fits.sound.set.roles k d within ∙ sym fits.sound.set.card;
          many = fits.sound.set.many ∙ ap (λ (s : Setting). s.layout.reserves) (sym fits.sound.set.card);
        };
        proper = fits.sound.notes;
        served = (boards-end_well (stand_of board) fits.sound (record { card = card; apps = left })).served;
      }
