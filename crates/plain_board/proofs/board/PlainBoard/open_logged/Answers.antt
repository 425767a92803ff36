-- An empty log tells of a board on which nothing has happened.
use Rattle.board_face.specs.declared.views.parts.Setting.{Setting}
use Rattle.plain_board.proofs.{Runs.{opened-law}, ShortFills.{fills-law}}
use Rattle.plain_board.proofs.board.PlainBoard.open_logged.Goals as goal

pub invariant_of-result : goal.invariant_of-result
invariant_of-result c =
    let setting : Setting = record { layout = c.args.layout; places = c.args.places } in
    rw c.in_ok-board.ensures.ok (record {
      sound = c.in_ok-contents.ensures.sound;
      recorded = rw (c.in_ok-contents.ensures.stand, c.in_ok-log.ensures)
          (record { logged = opened-law setting c.args.events c.requires.room; short = fills-law.opened setting });
    })

pub returns-clause-sound : goal.returns-clause-sound
returns-clause-sound c = (invariant_of-result c).sound

pub returns-clause-log : goal.returns-clause-log
returns-clause-log c = (invariant_of-result c).recorded
