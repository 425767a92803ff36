-- Hands with nothing are those of a board that was just opened.
use Rattle.std.proofs.Common.{rules, ◌≡◌, Some}
use Rattle.board_face.specs.Opened.{new_nic, new_app}
use Rattle.board_runs.proofs.spares.run_two.Goals as goal

pub face_rows-requires : goal.face_rows-requires
face_rows-requires g c =
    let nic : c.nic.result ≡ Some c.in_ok-nic.nic = search rules in
    let app : c.app.result ≡ Some c.in_ok-first.first = search rules in
    let card-new : c.in_ok-nic.nic ≡ record { board = c.in_ok-board.board; side = new_nic c.in_ok-board.board.setting } =
    (rw nic at c.nic.ensures.given).2 in
    let app-new : c.in_ok-first.first ≡ record { board = c.in_ok-board.board; side = new_app c.in_ok-board.board.setting 0 } =
    (rw app at c.app.ensures.given).2 in
    rw (card-new, app-new) record { card = c.new-card.ensures _; app = c.new-hand.ensures _ 0 }

pub face_rows-requires-2-clause-app : goal.face_rows-requires-2-clause-app
face_rows-requires-2-clause-app g c =
    let app : c.app-2.result ≡ Some c.in_ok-second.second = search rules in
    let app-new : c.in_ok-second.second ≡ record { board = c.in_ok-board.board; side = new_app c.in_ok-board.board.setting 1 } =
    (rw app at c.app-2.ensures.given).2 in
    rw app-new (c.new-other.ensures _ 1)
