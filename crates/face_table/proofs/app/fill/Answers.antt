-- The spare that was filled was the only one.
use Rattle.std.proofs.Common.{rules, ◌≡◌, []}
use Rattle.board_face.specs.AppEvents.{owns_without}
use Rattle.face_table.proofs.Tokens.{owns-spare}
use Rattle.face_table.proofs.app.fill.Goals as goal

pub returns-clause-hand : goal.returns-clause-hand
returns-clause-hand g c =
    let gone : owns_without (g.F.AppFace.seen c.args.face.now) c.in-Some.own ≡ [] = owns-spare _ _ _ c.requires (search rules) in
    search (rules, gone)
