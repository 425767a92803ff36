-- The loan that was given back was the only one.
use Rattle.std.proofs.Common.{rules, ◌≡◌, [], ◌∷◌, map}
use Rattle.board_face.proofs.ListLemmas.{places-without_first}
use Rattle.board_race.proofs.app.Receiver.give_back.Goals as goal

pub returns-in-Ok-clause-hand : goal.returns-in-Ok-clause-hand
returns-in-Ok-clause-hand g c =
    let one : map (λ l. l.place) (g.F.AppFace.seen c.args.face.now).loans ≡ c.in-Some.loan ∷ [] = search rules in
    rw (c.in-Ok.ensures.view, c.take.ensures.after) (record {
      here = search rules;
      settled = search rules;
      counted = search rules;
      helds = search rules;
      owns = search rules;
      loans = places-without_first (λ l. l.place) _ _ _ one;
    })
