-- What the rule says once all are back.
use Rattle.std.specs.Prelude.{◌≡◌, ℕ, ◌≤◌, nat_eq, count_by}
use Rattle.area_layout.specs.Layout.{pool_buffers}
use Rattle.word_board.specs.{Board.{card_of_seat}, Desk.{AreServed, HasNoHolders}}
use Rattle.word_board.proofs.kinds.desk_looks.look_unheld.Given as goal

abbrev pub ghosts-step_as : goal.ghosts-step_as
ghosts-step_as a = record {
  after = λ _. a.seat.now.me.0;
  told = λ _. HasNoHolders a.seat.now.me.0
      × ((b : ℕ) → pool_buffers a.words.now.shared.key.layout ≤ b → count_by (nat_eq b) (card_of_seat a.seat.now.me.0).view.cache ≡ 0)
      × AreServed a.seat.now.me.0;
}
