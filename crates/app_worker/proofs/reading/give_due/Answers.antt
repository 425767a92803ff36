use Rattle.std.{proofs.Common.{rules, ◌≡◌, ◌<◌, ℕ, ap, ◌∙◌, refl, sym, inr, subst, Some, None, arith}, specs.Prelude.{IfSome}}
use Rattle.area_layout.{specs.Layout.{LiesIn, size_of, off_of, judged}, proofs.Words.{place_judged}}
use Rattle.zr_kinds.specs.declared.{place.Place.{Place}, ring.Rqe.{Rqe}}
use Rattle.board_face.specs.{AppCalls.{HasPlace}, AppEvents.{gave}, declared.views.app.AppView.{AppView}}
use Rattle.app_worker.specs.{declared.stack.Stray.{Stray}, Steps.{Gave, IsToFollow}}
use Rattle.flow_queues.{specs.{declared.queues.Lending.{Lending}, Core.{IsIn, lent_piece}}, proofs.Tokens.{in-contains, is-given, loan-lies, loan-some}}
use Rattle.app_worker.proofs.reading.give_due.Goals as goal

pub give-requires-clause-out : goal.give-requires-clause-out
give-requires-clause-out g c =
    let v : AppView = g.F.AppFace.seen c.args.face.now in
    let is : c.args.due.now ≡ Some c.in-Some.lending = search rules in
    let out : IsIn (lent_piece v.taken c.in-Some.lending) v.loans = subst (λ o. IfSome o (λ l. IsIn (lent_piece v.taken l) v.loans)) is c.requires.out in
    in-contains (λ l. l.place) (lent_piece v.taken c.in-Some.lending) v.loans out

pub returns-in-Ok-clause-given : goal.returns-in-Ok-clause-given
returns-in-Ok-clause-given g c =
    let v : AppView = g.F.AppFace.seen c.args.face.now in
    let l : Lending = c.in-Some.lending in
    let is : c.args.due.now ≡ Some l = search rules in
    let then : c.take.new.self ≡ None = search rules in
    let out : IsIn (lent_piece v.taken l) v.loans = subst (λ o. IfSome o (λ l. IsIn (lent_piece v.taken l) v.loans)) is c.requires.out in
    let gives = is-given v c.requires.apart (lent_piece v.taken l) out in
    let view : g.F.AppFace.seen c.give.new.self ≡ gave v l.loan = c.in-Ok.ensures.view in
    let lies : LiesIn v.setting.layout l.loan = loan-lies v c.requires.apart (lent_piece v.taken l) out in
    let some : 0 < l.loan.len = loan-some v c.requires.apart (lent_piece v.taken l) out in
    let inside : l.loan.offset < size_of v.setting.layout l.loan.buffer = omega (arith, lies.bytes, some) in
    let step : Gave v (gave v l.loan) l = assumption in
    let sound = c.has_layout.ensures.layout in
    let off : c.off.result ≡ off_of v.setting.layout l.loan = search rules in
    let entry : ℕ → Rqe = λ n. record { off = n; len = l.loan.len; pad = 0 } in
    let stray : Stray = record { entry = entry c.off.result; buffer = l.loan.buffer; left = c.args.most } in
    let follow : IsToFollow v.setting.layout l c.args.most stray = record {
      is = ap (λ n. the_stray (entry n) l.loan.buffer c.args.most) off;
      names = ap (λ n. judged v.setting.layout (entry n)) off ∙ place_judged v.setting.layout l.loan l.loan.len sound lies inside;
    } in
    let place : c.place-place.result ≡ l.loan = search rules in
    rw (is, then, view) (
      step,
      refl,
      subst (λ (p : Place). IsToFollow v.setting.layout l c.args.most
          (record { entry = record { off = c.off.result; len = p.len; pad = 0 }; buffer = p.buffer; left = c.args.most })) (sym place) follow,
    )
  where
    the_stray : Rqe → ℕ → ℕ → Stray
    the_stray entry buffer left = record { entry = entry; buffer = buffer; left = left }

pub off-requires : goal.off-requires
off-requires g c =
    let v : AppView = g.F.AppFace.seen c.args.face.now in
    let l : Lending = c.in-Some.lending in
    let is : c.args.due.now ≡ Some l = search rules in
    let out : IsIn (lent_piece v.taken l) v.loans = subst (λ o. IfSome o (λ l. IsIn (lent_piece v.taken l) v.loans)) is c.requires.out in
    let place : c.place-place.result ≡ l.loan = search rules in
    subst (HasPlace v) (sym place) (inr (in-contains (λ l. l.place) (lent_piece v.taken l) v.loans out))
