use Rattle.std.proofs.Common.{◌≡◌, ap}
use Rattle.plain_board.specs.{Board.{applications_of}, declared.others.Applications.{Applications}}
use Rattle.replay_turns.proofs.Unread.{looked-later}
use Rattle.replay_turns.proofs.board_turns.card_keeps_up.Goals as goal

pub returns-clause-steps : goal.returns-clause-steps
returns-clause-steps c ports split frames knows = rw c.back.ensures.board
    (rw c.nic-face.ensures at (c.nic_step.ensures.steps ports split frames (rw c.nic-face.ensures knows)))

pub returns-clause-later : goal.returns-clause-later
returns-clause-later c = rw c.back.ensures.board
    (rw c.nic-face.ensures at (looked-later c.nic_step.result _ _ _ _ _ _ _ c.nic_step.ensures.answer))

pub returns-clause-apps : goal.returns-clause-apps
returns-clause-apps c =
    let beside : applications_of c.nic_step.new.face ≡ applications_of c.args.board = rw c.nic-face.ensures at c.nic_step.ensures.beside in
    rw c.back.ensures.board (ap (λ (b : Applications). b.apps) beside)

pub returns-clause-room : goal.returns-clause-room
returns-clause-room c =
    let beside : applications_of c.nic_step.new.face ≡ applications_of c.args.board = rw c.nic-face.ensures at c.nic_step.ensures.beside in
    rw c.back.ensures.board (ap (λ (b : Applications). b.room) beside)
