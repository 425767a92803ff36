-- The piece that was sent was the only one.
use Rattle.std.proofs.Common.{rules, ◌≡◌, [], ◌∷◌, map}
use Rattle.board_face.proofs.ListLemmas.{places-without_first}
use Rattle.face_table.proofs.card.send.Goals as goal

pub returns-in-Ok-clause-hand : goal.returns-in-Ok-clause-hand
returns-in-Ok-clause-hand g c =
    let one : map (λ p. p.place) (g.F.NicFace.seen c.args.face.now).pieces ≡ c.args.note.place ∷ [] = search rules in
    record {
      owns = search rules;
      pieces = rw (c.in-Ok.ensures.view, c.take.ensures.after) (places-without_first (λ p. p.place) _ _ _ one);
      ended = search rules;
    }
