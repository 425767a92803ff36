-- A spare is given whose buffer holds nothing of the application.
use Rattle.std.proofs.Common.{arith, refl, ap, sym, subst}
use Rattle.area_layout.specs.Layout.{IsLayout}
use Rattle.board_face.{proofs.TokenLemmas.{FitsBuffer-fresh}, specs.{declared.views.app.AppSide.{AppSide}, AppCalls.{MaySpare}, AppEvents.{app_saw, app_gist}, Looks.{AppTold}}}
use Rattle.board_face.{specs.{NotNow.{HasUsedReserve}, declared.views.{parts.Setting.{Setting}, app.AppLook.TheVariants.{NoSpare}}}, proofs.LookLemmas.{AppTold-one}}
use Rattle.word_board.{specs.{Board.{TheApp}, Told.{AppTells}}, proofs.{SparesKept.{given-there, AppKeeps-got_spare}, AppKept.{kept-saw}, Implied.{used-reserve}}}
use Rattle.word_board.proofs.Telling.{told-spare, if-none}
use Rattle.word_board.proofs.app_seat.AppSeatAppFace.spare.Goals as goal

pub new-requires : goal.new-requires
new-requires c =
    let sound : IsLayout c.layout-layout.result = subst IsLayout (sym c.layout-layout.ensures.value) c.layout-layout.ensures.sound in
    rw c.size_of.ensures.value (FitsBuffer-fresh (record { layout = c.layout-layout.result; places = 0 }) _ sound)

pub put-requires : goal.put-requires
put-requires c =
    let got = c.in_ok-buffer.ensures.event.got in
    let same = ap (λ (s : Setting). s.layout) c.map.ensures in
    let sound : IsLayout c.self.inside.app.board.setting.layout = subst IsLayout same c.layout-layout.ensures.sound in
    given-there _ _ _ _ _ _ _ c.self.invariant c.in_ok-buffer.buffer got.apart got.buffer sound

pub invariant_of-self-2 : goal.invariant_of-self-2
invariant_of-self-2 c =
    let did = c.in_ok-buffer.ensures in
    let got = did.event.got in
    let same = ap (λ (s : Setting). s.layout) c.map.ensures in
    let sound : IsLayout c.self.inside.app.board.setting.layout = subst IsLayout same c.layout-layout.ensures.sound in
    rw (did.board, did.event.event, c.put.ensures) (AppKeeps-got_spare _ _ _ _ _ _ _ c.self.invariant c.in_ok-buffer.buffer got.apart got.buffer sound)

pub take_spare-requires-clause-bare : goal.take_spare-requires-clause-bare
take_spare-requires-clause-bare c = record { set = c.self.invariant.set; hands = c.self.invariant.rests.hands }

pub take_spare-requires-clause-reserve : goal.take_spare-requires-clause-reserve
take_spare-requires-clause-reserve c = record { within = grind arith; own = grind arith }

pub take_spare-requires-clause-may : goal.take_spare-requires-clause-may
take_spare-requires-clause-may c = record {
  sound = subst IsLayout (ap (λ (s : Setting). s.layout) c.map.ensures) c.layout-layout.ensures.sound;
  due = subst (λ (s : TheApp). MaySpare s.side.view) (sym c.self.view_is) c.requires.due;
  given = c.self.invariant.rests.given;
}

-- no spare is there

pub invariant_of-self : goal.invariant_of-self
invariant_of-self c =
    let did = c.in_err-buffer.ensures in
    let mine = c.self.inside.app.side in
    let hand = c.self.inside.hand in
    let setting = c.self.inside.app.board.setting in
    let keeps = kept-saw setting mine hand.note hand.entry hand.raw hand.loans.items hand.filled.items c.self.invariant NoSpare in
    let searched = ap {B = AppSide} (λ ws. record { view = app_saw mine.view NoSpare; inside = record mine.inside { words_without = ws } })
    (sym c.self.invariant.rests.searched.0) in
    rw (did.board, did.event.event, searched) keeps

pub returns-in_err-buffer-clause-held : goal.returns-in_err-buffer-clause-held
returns-in_err-buffer-clause-held c =
    if-none c.from_residual.result _
    (subst (λ (s : TheApp). HasUsedReserve s.side.view) c.self.view_is
    (used-reserve _ c.self.inside.app.side.view c.in_err-buffer.ensures.told.1))

pub returns-in_err-buffer-clause-told : goal.returns-in_err-buffer-clause-told
returns-in_err-buffer-clause-told c =
    let mine = c.self.inside.app.side in
    let did = c.in_err-buffer.ensures in
    subst (λ (s : TheApp). AppTold (λ look. AppTells look (app_gist s.side.view) s.board) s.side.view c.take_spare.new.app.side.view)
    c.self.view_is
    (AppTold-one (λ look. AppTells look (app_gist mine.view) c.self.inside.app.board) mine.view c.take_spare.new.app.side.view NoSpare
    (ap (λ (a : AppSide). a.view.looks) did.event.event)
    did.told)

-- a spare is told of

pub returns-clause-told : goal.returns-clause-told
returns-clause-told c =
    let mine = c.self.inside.app.side in
    let did = c.in_ok-buffer.ensures in
    subst (λ (s : TheApp). AppTold (λ look. AppTells look (app_gist s.side.view) s.board) s.side.view c.take_spare.new.app.side.view)
    c.self.view_is
    (told-spare c.self.inside.app.board.setting c.self.inside.app.board mine c.take_spare.new.app.side c.in_ok-buffer.buffer refl
    c.self.invariant.set did.event did.told)
