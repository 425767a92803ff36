-- Where the hand has no token, none is out.
use Rattle.std.proofs.Common.{rules, ◌≡◌, [], map}
use Rattle.face_table.proofs.card.end.Goals as goal
use Rattle.zr_kinds.proofs.Lists.{map-none}

pub end-requires : goal.end-requires
end-requires g c =
    let none : map (λ p. p.place) (g.F.NicFace.seen c.args.face.now).pieces ≡ [] = search rules in
    record { owns = search rules; pieces = map-none _ _ none }
