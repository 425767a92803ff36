-- The piece that was sent was the only one.
use Rattle.std.proofs.Common.{rules, ◌≡◌, [], ◌∷◌, map}
use Rattle.board_face.proofs.ListLemmas.{places-without_first}
use Rattle.board_race.proofs.card.Sender.send_next.Goals as goal

pub returns-in-Ok-clause-hand : goal.returns-in-Ok-clause-hand
returns-in-Ok-clause-hand g c =
    let one : map (λ p. p.place) (g.F.NicFace.seen c.if-is_none.face).pieces ≡ c.note_of.result.place ∷ [] = search rules in
    rw (c.in-Ok.ensures.view, c.take.ensures.after) (record {
      running = search rules;
      owns = search rules;
      pieces = places-without_first (λ p. p.place) _ _ _ one;
    })
