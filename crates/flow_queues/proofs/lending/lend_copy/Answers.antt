use Rattle.std.proofs.Common.{rules, ◌≡◌, ◌<◌, ℕ, List, length, ap, subst, ◌∙◌}
use Rattle.tcp_reorder.specs.Gaps.{LosesFirst}
use Rattle.area_layout.specs.Layout.{LiesIn}
use Rattle.board_face.specs.{AppEvents.{got_spare, filled, lent_own, own_bytes, begin_place}, AppCalls.{GotSpare}, NicEvents.{fresh}, Tokens.{filled_by}}
use Rattle.board_face.specs.declared.views.{parts.Filling.{Filling}, app.AppView.{AppView}}
use Rattle.flow_queues.{specs.{declared.queues.{Short.{Short}, Waiting.{Waiting, TheVariants.{Copied}}}, Core.{IsShort, IsOfNote}}, proofs.Lends.{each-first}}
use Rattle.flow_queues.proofs.Copying.{own-lies, may-spare, filled_spare, copy_lent, bytes-are, copy-lent}
use Rattle.flow_queues.proofs.lending.lend_copy.Goals as goal

pub spare-requires-clause-due : goal.spare-requires-clause-due
spare-requires-clause-due g c = may-spare (g.F.AppFace.seen c.args.face.now) c.args.own.now.queue c.requires.next c.requires.backed.sized c.requires.backed.spare

pub returns-clause-lent : goal.returns-clause-lent
returns-clause-lent g c =
    let v : AppView = g.F.AppFace.seen c.args.face.now in
    let w : AppView = g.F.AppFace.seen c.lend_own-loan.new.self in
    let got : GotSpare v (g.F.AppFace.seen c.spare.new.self) c.in-Some.spare = c.in-Some.ensures.view in
    let b : ℕ = c.in-Some.spare.buffer in
    let s : Short = c.in-Copied.short in
    let bs : List ℕ = s.bytes.items in
    let is : c.in-Some-pop_front.waiting ≡ Copied s = search rules in
    let loses : LosesFirst c.args.own.now.queue c.pop_front.new.self (Copied s) c.in-Some-pop_front.field-0-1 = subst
    (λ (x : Waiting). LosesFirst c.args.own.now.queue c.pop_front.new.self x c.in-Some-pop_front.field-0-1) is c.in-Some-pop_front.ensures.popped in
    let of : IsShort v.taken s = (each-first (IsOfNote v.taken) c.args.own.now.queue c.pop_front.new.self (Copied s) c.in-Some-pop_front.field-0-1 loses
    c.requires.backed.notes).0 in
    let some : 0 < length bs = search rules in
    let e1 : g.F.AppFace.seen c.fill.new.self ≡ filled_spare v b bs c.requires.can.owns = c.fill.ensures.view
    ∙ ap (λ (x : AppView). filled x c.in-Some.spare c.deref.result.now) got.event
    ∙ ap (λ (o : Filling). filled (got_spare v b) o c.deref.result.now) got.fresh
    ∙ ap (λ (x : List ℕ). filled (got_spare v b) (fresh v.setting b) x) c.deref.ensures.value in
    let e2 : c.fill.new.own ≡ filled_by (fresh v.setting b) (length bs) = c.fill.ensures.own
    ∙ ap (λ (o : Filling). filled_by o (length c.deref.result.now)) got.fresh
    ∙ ap (λ (x : List ℕ). filled_by (fresh v.setting b) (length x)) c.deref.ensures.value in
    let e3 : w ≡ copy_lent v b bs c.requires.can.owns = c.lend_own-loan.ensures.view ∙ ap (λ (x : AppView). lent_own x c.fill.new.own) e1
    ∙ ap (λ (o : Filling). lent_own (filled_spare v b bs c.requires.can.owns) o) e2 in
    let place : c.lend_own-loan.result ≡ begin_place b (length bs) = c.lend_own-loan.ensures.place
    ∙ ap (λ (x : AppView). begin_place c.fill.new.own.buffer (length (own_bytes x c.fill.new.own))) e1
    ∙ ap (λ (o : Filling). begin_place o.buffer (length (own_bytes (filled_spare v b bs c.requires.can.owns) o))) e2
    ∙ ap (λ (x : List ℕ). begin_place b (length x)) (bytes-are v b bs c.requires.can.owns) in
    let lies : LiesIn v.setting.layout (begin_place b (length bs)) = own-lies v b (length bs) got.buffer c.has_reserve.ensures.within c.has_reserve.ensures.layout of.few in
    copy-lent v w c.args.own.now c.pop_front.new.self c.in-Some-pop_front.field-0-1 (search rules) c.requires.next.some c.requires.settled c.requires.can.holds.apart
    c.lend_own-loan.result s b c.requires.can.owns loses of got.apart lies some e3 place
