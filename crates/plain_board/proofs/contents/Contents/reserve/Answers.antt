-- An application's setting is the board's, and its number is where it stands.
use Rattle.std.proofs.Common.{ap, arith}
use Rattle.area_layout.specs.Layout.{pool_buffers}
use Rattle.board_face.specs.Blank.{blank_app}
use Rattle.plain_board.proofs.AppFrames.{here-of, has-setting}
use Rattle.plain_board.proofs.contents.Contents.reserve.Goals as goal

pub returns-clause-value : goal.returns-clause-value
returns-clause-value c =
    let app = rw (← c.self.view_is) at c.requires in
    let here = here-of _ c.args.app c.self.invariant.0 app in
    let setting = has-setting _ c.args.app _ blank_app c.self.invariant.0 here in
    rw (← c.self.view_is) (omega (arith, c.buffers.ensures.value, ap (λ s. pool_buffers s.layout) setting, here.number))
