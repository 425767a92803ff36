use Rattle.std.proofs.Common.{rules, ◌≡◌, ◌<◌, ◌⊎◌, ◌∙◌, arith, refl}
use Rattle.board_face.specs.{AppCalls.{AppOnlySaw, IsLive}, Looks.{AppRose}, AppEvents.{pushed_raw}, declared.views.app.AppLook.TheVariants.{RefillInUse}}
use Rattle.board_face.specs.declared.views.app.AppView.{AppView}
use Rattle.app_worker.proofs.{Pushing.{pushed-either, pushed-saw, pushed-none}, Moving.{rose-after}}
use Rattle.app_worker.proofs.reading.push_strays.Goals as goal

pub returns-then-did-clause-pushes : goal.returns-then-did-clause-pushes
returns-then-did-clause-pushes g c =
    let u : AppView = g.F.AppFace.seen c.args.face.now in
    let v : AppView = g.F.AppFace.seen c.loop-stray.face in
    let w : AppView = g.F.AppFace.seen c.push_stray.new.face in
    let saw : AppOnlySaw RefillInUse v w = search rules in
    let fewer : c.loop-stray.stray.left < c.args.stray.now.left = search rules in
    let rose : AppRose RefillInUse u w = rose-after c.loop-stray.invariant.0.looks saw.rose in
    (pushed-saw u v w c.args.stray.now c.loop-stray.stray c.loop-stray.invariant.0 saw, fewer, rose)

pub loop-stray-init : goal.loop-stray-init
loop-stray-init g c = (pushed-none (g.F.AppFace.seen c.args.face.now) c.args.stray.now, λ yes. absurd (cc), λ _. (refl, refl), refl)

pub loop-stray-preserved : goal.loop-stray-preserved
loop-stray-preserved g c =
    let u : AppView = g.F.AppFace.seen c.args.face.now in
    let v : AppView = g.F.AppFace.seen c.loop-stray.face in
    let w : AppView = g.F.AppFace.seen c.push_stray.new.face in
    let inv = c.loop-stray.invariant in
    let some : 0 < c.loop-stray.stray.left = search rules in
    let step : ((w ≡ v) × IsLive v c.loop-stray.stray.buffer) ⊎ (w ≡ pushed_raw v c.loop-stray.stray.entry) = search rules in (
      pushed-either u v w c.args.stray.now c.loop-stray.stray inv.0 some step,
      λ _. omega (arith, some, inv.0.all),
      λ no. absurd (cc),
      c.push_stray.ensures.beside ∙ inv.3,
    )
