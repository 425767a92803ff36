-- The held piece that was cut was the only one.
use Rattle.std.proofs.Common.{rules, ◌≡◌, [], ◌∷◌, map}
use Rattle.board_face.specs.{AppEvents.{cut}, Texts.{front_place, rest_place}}
use Rattle.face_table.proofs.Tokens.{helds-cut}
use Rattle.face_table.proofs.app.cut.Goals as goal

pub returns-in-Some-clause-hand : goal.returns-in-Some-clause-hand
returns-in-Some-clause-hand g c =
    let held = c.in-Some.held in
    let both : map (λ h. h.place) (cut (g.F.AppFace.seen c.args.face.now) held c.args.at).helds
    ≡ front_place held c.args.at ∷ rest_place held c.args.at ∷ [] = helds-cut _ _ c.requires _ _ (search rules) (search rules) in
    search (rules, both)
