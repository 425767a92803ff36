-- The desk has the seat's hand until it is given; its seat tells the same of the role.
use Rattle.std.proofs.Common.{◌≡◌, ℕ, ◌+◌, ◌<◌, Bool, true, false, List, ◌∷◌, length, map, set, get_or, ap, sym, ◌∙◌, arith, subst, Option, is_none, IfSome}
use Rattle.std.proofs.lemmas.List.{length-set, length-map}
use Rattle.atomic_table.specs.{Table.{Me}, Seated.{TableId}}
use Rattle.board_face.specs.{NicCalls.{apps_of}, Opened.{new_app}, declared.views.parts.Setting.{Setting}}
use Rattle.ref_words.specs.{declared.view.View.{View}, Seated.{dealt_out}}
use Rattle.word_board.{specs.{declared.hands.AppHand.{AppHand}, Board.{TheBoard, TheDesk, app_of_seat, gave_role}, Hands.{IsNew}}, proofs.Dealing.{HasDealt-given}}
use Rattle.word_board.proofs.{Dealing.{undealt}, HandsGiven.{given-set, given-before, none-left, at-some, not-given, rest-kept, AppKeeps-new}}
use Rattle.word_board.proofs.board.WordBoard.app.Goals as goal

-- the desk has a place for each application of the board
in-hands : (seen desk : TheDesk) (board : TheBoard) (many a : ℕ) → seen ≡ desk → desk.board ≡ board → many ≡ apps_of seen.board.setting
    → a < apps_of board.setting → a < many
in-hands seen desk board many a is at all few =
    omega (arith, all, few, ap (λ (d : TheDesk). apps_of d.board.setting) is, ap (λ (b : TheBoard). apps_of b.setting) at)

pub returns-in_err-hand : goal.returns-in_err-hand
returns-in_err-hand c =
    let desk = c.desk.inside in
    let a : ℕ = c.args.app in
    let hands : List (Option AppHand) = desk.hands.items in
    let there = in-hands _ _ _ _ _ c.desk.view_is c.requires.desk c.desk.invariant.3 c.requires.app in
    let none = sym c.take.ensures.value ∙ c.in_err-hand.was in
    let found = c.index_mut-kept.ensures.value in
    let made : List (Option AppHand) → TheDesk = λ hs. record {
      board = record { table = desk.seat.table_id; setting = desk.setting };
      given = desk.nic_given ∷ map is_none hs;
      view = desk.seat.me.0;
    } in
    record {
      given = rw c.from_residual.ensures (
        ap (λ (d : TheDesk). get_or d.given (1 + a) false) (sym c.desk.view_is) ∙ given-before desk.nic_given hands a _ found none there,
        ap made (none-left desk.nic_given hands a _ found none _ c.take.ensures.after) ∙ c.desk.view_is,
      );
    }

pub invariant_of-desk : goal.invariant_of-desk
invariant_of-desk c =
    let none = sym c.take.ensures.value ∙ c.in_err-hand.was in
    rw (none-left c.desk.inside.nic_given c.desk.inside.hands.items c.args.app _ c.index_mut-kept.ensures.value none _ c.take.ensures.after) c.desk.invariant

pub deal_role-seat-requires-clause-fresh : goal.deal_role-seat-requires-clause-fresh
deal_role-seat-requires-clause-fresh c =
    let desk = c.desk.inside in
    let a : ℕ = c.args.app in
    let hands : List (Option AppHand) = desk.hands.items in
    let there = in-hands _ _ _ _ _ c.desk.view_is c.requires.desk c.desk.invariant.3 c.requires.app in
    let some = sym c.take.ensures.value ∙ c.in_ok-hand.was in
    undealt (desk.nic_given ∷ map is_none hands) desk.seat.me.0 (1 + a) c.desk.invariant.2
    (not-given desk.nic_given hands a _ _ c.index_mut-kept.ensures.value some there)

pub new-requires-2 : goal.new-requires-2
new-requires-2 c =
    let desk = c.desk.inside in
    let a : ℕ = c.args.app in
    let hands : List (Option AppHand) = desk.hands.items in
    let setting : desk.setting ≡ c.args.self.now.setting = ap (λ (d : TheDesk). d.board.setting) c.desk.view_is ∙ ap (λ (b : TheBoard). b.setting) c.requires.desk in
    let there = in-hands _ _ _ _ _ c.desk.view_is c.requires.desk c.desk.invariant.3 c.requires.app in
    let some = sym c.take.ensures.value ∙ c.in_ok-hand.was in
    let IsOf : Setting → AppHand → Type 0 = λ s hand. IsNew s hand.note hand.entry hand.raw hand.loans.items hand.filled.items in
    let new : IsOf desk.setting c.in_ok-hand.hand = subst (λ (k : Option AppHand). IfSome k (IsOf desk.setting))
    (at-some desk.nic_given hands a _ _ c.index_mut-kept.ensures.value some there) (c.desk.invariant.4 a) in
    let own = ap (λ (b : TheBoard). b.setting) c.self.view_is in
    rw (c.new.ensures, c.take_app_role.ensures.me, own)
    (AppKeeps-new c.args.self.now.setting a _ _ _ _ _ c.requires.app (subst (λ s. IsOf s c.in_ok-hand.hand) setting new))

pub invariant_of-desk-2 : goal.invariant_of-desk-2
invariant_of-desk-2 c =
    let desk = c.desk.inside in
    let a : ℕ = c.args.app in
    let hands : List (Option AppHand) = desk.hands.items in
    let there = in-hands _ _ _ _ _ c.desk.view_is c.requires.desk c.desk.invariant.3 c.requires.app in
    let some = sym c.take.ensures.value ∙ c.in_ok-hand.was in
    let was = c.desk.invariant in
    let did = c.deal_role-seat.ensures in
    let given : List Bool = desk.nic_given ∷ map is_none hands in
    let role-there : 1 + a < length given = omega (arith, there, length-map hands is_none) in
    let view : c.deal_role-seat.new.desk.me.0 ≡ dealt_out (1 + a) desk.seat.me.0 = ap (λ (me : Me (List ℕ) View). me.0) did.desk in
    let IsOf : ℕ → AppHand → Type 0 = λ _ hand. IsNew desk.setting hand.note hand.entry hand.raw hand.loans.items hand.filled.items in (
      did.number ∙ was.0,
      ap (λ (me : Me (List ℕ) View). me.1) did.desk ∙ was.1,
      rw (c.take.ensures.after, view, given-set desk.nic_given hands a)
          (HasDealt-given given desk.seat.me.0 (1 + a) was.2 role-there (not-given desk.nic_given hands a _ _ c.index_mut-kept.ensures.value some there)),
      length-set hands a c.take.new.self ∙ was.3,
      rw c.take.ensures.after (rest-kept IsOf hands a was.4),
      rw view (record { card = was.5.card; apps = was.5.apps; due = was.5.due }),
      rw view was.6,
      was.7,
      was.8,
      was.9,
    )

pub returns : goal.returns
returns c =
    let desk = c.desk.inside in
    let a : ℕ = c.args.app in
    let hands : List (Option AppHand) = desk.hands.items in
    let there = in-hands _ _ _ _ _ c.desk.view_is c.requires.desk c.desk.invariant.3 c.requires.app in
    let some = sym c.take.ensures.value ∙ c.in_ok-hand.was in
    let did = c.deal_role-seat.ensures in
    let made : TableId → List Bool → View → TheDesk = λ table given view. record {
      board = record { table = table; setting = desk.setting };
      given = given;
      view = view;
    } in
    let then : List Bool = desk.nic_given ∷ map is_none (set hands a c.take.new.self) in
    let given : then ≡ set (desk.nic_given ∷ map is_none hands) (1 + a) true = rw c.take.ensures.after (given-set desk.nic_given hands a) in
    let sits = c.take_app_role.ensures.me in
    let board : TheBoard = record { table = c.self.inside.words.table.shared.table_id; setting = c.self.inside.words.map } in
    record {
      given = (
        ap (λ (d : TheDesk). get_or d.given (1 + a) false) (sym c.desk.view_is)
            ∙ not-given desk.nic_given hands a _ _ c.index_mut-kept.ensures.value some there,
        ap (λ t. made t then c.deal_role-seat.new.desk.me.0) did.table
            ∙ (ap (λ g. made desk.seat.table_id g c.deal_role-seat.new.desk.me.0) given
            ∙ (ap (λ (me : Me (List ℕ) View). made desk.seat.table_id (set (desk.nic_given ∷ map is_none hands) (1 + a) true) me.0) did.desk
            ∙ ap (λ (d : TheDesk). gave_role d (1 + a)) c.desk.view_is)),
        c.new-2.ensures ∙ (c.new.ensures ∙ (ap (λ (me : Me (List ℕ) View). record { board = board; side = app_of_seat me.0 }) sits
            ∙ ap (λ (b : TheBoard). record { board = b; side = new_app b.setting a }) c.self.view_is)),
      );
    }
