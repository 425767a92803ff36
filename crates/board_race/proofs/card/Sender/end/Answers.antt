-- The buffer that was closed was the only one, and no piece is out.
use Rattle.std.proofs.Common.{rules, ◌≡◌, [], map}
use Rattle.board_race.proofs.card.Sender.end.Goals as goal
use Rattle.zr_kinds.proofs.Lists.{map-none}

pub end-requires : goal.end-requires
end-requires g c =
    let bare : map (λ p. p.place) (g.F.NicFace.seen c.args.face.now).pieces ≡ [] = search rules in
    let none : (g.F.NicFace.seen c.args.face.now).pieces ≡ [] = map-none (λ p. p.place) _ bare in
    record { owns = search rules; pieces = search rules }
