-- Hands with nothing are those of a board that was just opened, and at the end both seats are back.
use Rattle.std.{proofs.{Common.{rules, ◌≡◌, ℕ, List, [], ◌∷◌, Some, refl, sym, subst, ◌∙◌, arith}, lemmas.List.Elements.{Contains-push}}, specs.Prelude.{Contains}}
use Rattle.board_face.specs.{NicCalls.{apps_of}, Opened.{new_nic, new_app}, declared.views.{parts.Setting.{Setting}, nic.NicSide.{NicSide}, app.AppSide.{AppSide}}}
use Rattle.word_board.specs.{Board.{gave_role}, Desk.{AllAreBack}}
use Rattle.board_runs.proofs.tables.word_free.Goals as goal

-- the card and the only application are back
all-back : (setting : Setting) (nic : NicSide) (app : AppSide) (due dealt : List ℕ) → apps_of setting ≡ 1 → app.view.app ≡ 0
    → AllAreBack setting (record { nics = nic ∷ []; apps = app ∷ []; due = due; dealt = dealt })
all-back setting nic app due dealt one number = record {
  card = refl;
  apps = λ a less.
      let first : a ≡ 0 = omega (arith, less, one) in
      subst (Contains (app.view.app ∷ [])) (number ∙ sym first) (Contains-push [] app.view.app);
}

pub face_rows-requires : goal.face_rows-requires
face_rows-requires g c =
    let nic : c.nic.result ≡ Some c.in_ok-nic.nic = search rules in
    let app : c.app.result ≡ Some c.in_ok-seat.seat = search rules in
    let card-new : c.in_ok-nic.nic ≡ record { board = c.in_ok-board.board; side = new_nic c.in_ok-board.board.setting } =
    (rw nic at c.nic.ensures.given).2 in
    let app-new : c.in_ok-seat.seat ≡ record { board = c.in_ok-board.board; side = new_app c.in_ok-board.board.setting 0 } =
    (rw app at c.app.ensures.given).2 in
    rw (card-new, app-new) record { card = c.new-card.ensures _; app = c.new-app.ensures _ 0 }

pub closed_free-requires-clause-back : goal.closed_free-requires-clause-back
closed_free-requires-clause-back g c =
    let many : apps_of c.in_ok-board.board.setting ≡ 1 = rw c.in_ok-board.ensures.setting c.requires.one in
    let nic : c.nic.result ≡ Some c.in_ok-nic.nic = search rules in
    let app : c.app.result ≡ Some c.in_ok-seat.seat = search rules in
    let card-given : c.nic.new.desk ≡ gave_role c.in_ok-board.desk 0 = (rw nic at c.nic.ensures.given).1 in
    let app-given : c.app.new.desk ≡ gave_role c.nic.new.desk 1 = (rw app at c.app.ensures.given).1 in
    let app-new : c.in_ok-seat.seat ≡ record { board = c.in_ok-board.board; side = new_app c.in_ok-board.board.setting 0 } =
    (rw app at c.app.ensures.given).2 in
    let number : c.face_rows.new.seat.side.view.app ≡ 0 = c.face_rows.ensures.number ∙ rw app-new refl in
    rw (c.back-2.ensures.desk, c.back.ensures.desk, app-given, card-given, c.in_ok-board.ensures.desk)
    (all-back _ _ _ _ _ many number)
