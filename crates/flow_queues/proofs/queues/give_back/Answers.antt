use Rattle.std.proofs.Common.{rules, ◌≡◌, subst}
use Rattle.flow_queues.{specs.{declared.queues.Waiting.TheVariants.{InArea}, Core.{IsIn, held_piece}, Pieces.{IsOut}}, proofs.Tokens.{in-contains}}
use Rattle.flow_queues.proofs.queues.give_back.Goals as goal

pub release-requires-clause-out : goal.release-requires-clause-out
release-requires-clause-out g c =
    let is : c.args.waiting ≡ InArea c.in-InArea.piece = search rules in
    let out : IsIn (held_piece c.in-InArea.piece)
    (g.F.AppFace.seen c.args.face.now).helds = subst (IsOut (g.F.AppFace.seen c.args.face.now)) is c.requires.out in
    in-contains (λ h. h.place) (held_piece c.in-InArea.piece) (g.F.AppFace.seen c.args.face.now).helds out
