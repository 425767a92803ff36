-- The card's seat is new, and so is its hand.
use Rattle.std.proofs.Common.{rules, ◌≡◌, Some}
use Rattle.board_face.specs.Opened.{new_nic}
use Rattle.app_runs.proofs.words.seats.Goals as goal

pub invariant_of-result : goal.invariant_of-result
invariant_of-result c =
    let nic : c.nic.result ≡ Some c.in_ok-nic.nic = search rules in
    let is : c.in_ok-nic.nic ≡ record { board = c.args.board.now; side = new_nic c.args.board.now.setting } = (rw nic at c.nic.ensures.given).2 in
    record { fits = rw is (c.new-hand.ensures _) }
