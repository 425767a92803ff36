use Rattle.std.proofs.Common.{rules, ◌≡◌, ℕ, ◌≤◌, ◌+◌, Some, arith, ap}
use Rattle.board_face.specs.declared.views.app.{LentPiece.{LentPiece}, AppView.{AppView}}
use Rattle.flow_queues.{specs.{declared.queues.Lending.{Lending}, Core.{IsIn, lent_piece, over_due, total}}, proofs.Tokens.{in-contains}}
use Rattle.app_worker.proofs.LetGone.{AbandonsSome, abandons-none, abandons-one, first-lent, abandons-all}
use Rattle.app_worker.proofs.letting.abandon_due.Goals as goal

pub abandon-requires-clause-out : goal.abandon-requires-clause-out
abandon-requires-clause-out g c =
    let v : AppView = g.F.AppFace.seen c.args.face.now in
    let l : Lending = c.in-Some.lending in
    let is : c.args.due.now ≡ Some l = search rules in
    let out : (f : LentPiece → ℕ)
    → f (lent_piece v.taken l) + 0 ≤ total f v.loans = λ f. omega (arith, c.requires.out f, ap (over_due v.taken f) is) in
    in-contains (λ l. l.place) (lent_piece v.taken l) v.loans (first-lent v v (λ f. f (lent_piece v.taken l) + 0) (λ f. 0) v.taken l out
    (abandons-none v c.requires.apart (λ f. f (lent_piece v.taken l) + 0)))

pub returns-in-Some-clause-abandons : goal.returns-in-Some-clause-abandons
returns-in-Some-clause-abandons g c =
    let v : AppView = g.F.AppFace.seen c.args.face.now in
    let l : Lending = c.in-Some.lending in
    let is : c.args.due.now ≡ Some l = search rules in
    let out : (f : LentPiece → ℕ)
    → f (lent_piece v.taken l) + 0 ≤ total f v.loans = λ f. omega (arith, c.requires.out f, ap (over_due v.taken f) is) in
    let begin : AbandonsSome v v (λ f. f (lent_piece v.taken l) + 0)
    (λ f. f (lent_piece v.taken l) + 0) = abandons-none v c.requires.apart (λ f. f (lent_piece v.taken l) + 0) in
    let here : IsIn (lent_piece v.taken l) v.loans = first-lent v v (λ f. f (lent_piece v.taken l) + 0) (λ f. 0) v.taken l out begin in
    let all = abandons-all v _ (λ f. f (lent_piece v.taken l) + 0) (abandons-one v v (λ f. f (lent_piece v.taken l) + 0) (λ f. 0) v.taken l here begin) in
    rw (c.abandon.ensures.view, is) (record {
      only = all.only;
      helds = all.helds;
      loans = λ f. omega (arith, all.loans f);
      returned = omega (arith, all.returned);
      back = λ f. omega (arith, all.back f);
      behind = all.behind;
    })
