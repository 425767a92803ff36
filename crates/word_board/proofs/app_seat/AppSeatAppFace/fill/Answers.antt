-- The text has room in the spare's buffer, and its length is kept.
use Rattle.std.proofs.Common.{rules, length, arith}
use Rattle.zr_kinds.specs.declared.place.Place.{Place}
use Rattle.board_face.specs.{AppCalls.{HasSpare}, AppEvents.{begin_place}}
use Rattle.word_board.proofs.SparesKept.{spare-room, text-lies, lengths-there, AppKeeps-filled}
use Rattle.word_board.proofs.app_seat.AppSeatAppFace.fill.Goals as goal

pub fill_text-requires-clause-lies : goal.fill_text-requires-clause-lies
fill_text-requires-clause-lies c =
    let out : HasSpare c.self.inside.app.side.view c.filling_of-filling.result = search rules in
    let place : Place = begin_place c.filling_of-filling.result.buffer (length c.args.bytes.now) in
    text-lies _ _ _ _ _ _ _ c.self.invariant _ out _ c.requires.few

pub put-requires : goal.put-requires
put-requires c =
    let out : HasSpare c.self.inside.app.side.view c.filling_of-filling.result = search rules in
    lengths-there _ _ _ _ _ _ _ c.self.invariant _ out

pub filled_up-requires : goal.filled_up-requires
filled_up-requires c =
    let out : HasSpare c.self.inside.app.side.view c.args.own.now = search rules in
    omega (arith, c.requires.empty, c.requires.few, spare-room _ _ _ _ _ _ _ c.self.invariant _ out)

pub invariant_of-self : goal.invariant_of-self
invariant_of-self c =
    let out : HasSpare c.self.inside.app.side.view c.filling_of-filling.result = search rules in
    let did = c.fill_text.ensures in rw (did, c.put.ensures) (AppKeeps-filled _ _ _ _ _ _ _ c.self.invariant _ c.args.bytes.now out c.requires.few)
