-- The held piece that was given up was the first.
use Rattle.std.proofs.Common.{rules, ◌≡◌, map, option_to_list}
use Rattle.board_face.specs.AppEvents.{helds_without}
use Rattle.face_table.proofs.Tokens.{helds-front}
use Rattle.face_table.proofs.app.release.Goals as goal

pub returns-clause-hand : goal.returns-clause-hand
returns-clause-hand g c =
    let left : map (λ h. h.place) (helds_without (g.F.AppFace.seen c.args.face.now) c.in-Some.held)
    ≡ option_to_list c.args.hand.now.rest = helds-front _ _ c.requires _ (search rules) in
    search (rules, left)
