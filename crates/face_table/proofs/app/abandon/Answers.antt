-- The loan that was abandoned was the only one.
use Rattle.std.proofs.Common.{rules, ◌≡◌, [], map}
use Rattle.board_face.specs.AppEvents.{loans_without}
use Rattle.face_table.proofs.Tokens.{loans-loan}
use Rattle.face_table.proofs.app.abandon.Goals as goal

pub returns-clause-hand : goal.returns-clause-hand
returns-clause-hand g c =
    let gone : map (λ l. l.place) (loans_without (g.F.AppFace.seen c.args.face.now) c.in-Some.loan) ≡ [] = loans-loan _ _ c.requires _ (search rules) in
    search (rules, gone)
