-- The spare that was lent was the only one, and no loan was out.
use Rattle.std.proofs.Common.{rules, arith, ◌≡◌, [], length}
use Rattle.board_face.specs.AppEvents.{owns_without, own_bytes}
use Rattle.face_table.proofs.Tokens.{owns-spare, own_bytes-spare, loans-none}
use Rattle.face_table.proofs.app.lend_own.Goals as goal

pub lend_own-loan-requires-clause-filled : goal.lend_own-loan-requires-clause-filled
lend_own-loan-requires-clause-filled g c =
    let many : length (own_bytes (g.F.AppFace.seen c.args.face.now) c.in-Some.own)
    ≡ c.args.hand.now.filled = own_bytes-spare _ _ _ c.requires (search rules) in
    omega (arith, many)

pub returns-clause-hand : goal.returns-clause-hand
returns-clause-hand g c =
    let gone : owns_without (g.F.AppFace.seen c.args.face.now) c.in-Some.own ≡ [] = owns-spare _ _ _ c.requires (search rules) in
    let none : (g.F.AppFace.seen c.args.face.now).loans ≡ [] = loans-none _ _ c.requires (search rules) in
    search (rules, gone, none)
