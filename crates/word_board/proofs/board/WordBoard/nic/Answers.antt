-- The desk's flag and its seat tell the same of the role that was given, and the rest of the desk is as it was.
use Rattle.std.{proofs.Common.{rules, ◌≡◌, true, false, ◌∷◌, map, ap, sym, ◌∙◌, arith, subst}, specs.Prelude.{is_none}}
use Rattle.word_board.{specs.{Board.{HasDealt}, Desk.{AreOver, cache_back}}, proofs.{LeftKept.{KnowsLeft-new}, Dealing.{HasDealt-given}}}
use Rattle.word_board.proofs.board.WordBoard.nic.Goals as goal

pub invariant_of-desk : goal.invariant_of-desk
invariant_of-desk c =
    let desk = c.desk.inside in
    let was = c.desk.invariant in
    let did = c.deal_role-seat.ensures in
    let fresh : desk.nic_given ≡ false = search rules in
    let view = ap (λ me. me.0) did.desk in (
      did.number ∙ was.0,
      ap (λ me. me.1) did.desk ∙ was.1,
      subst (HasDealt (true ∷ map is_none desk.hands.items)) (sym view) (HasDealt-given (desk.nic_given ∷ map is_none desk.hands.items) desk.seat.me.0 0 was.2 (omega arith) fresh),
      was.3,
      was.4,
      subst AreOver (sym view) (record { card = was.5.card; apps = was.5.apps; due = was.5.due }),
      was.6 ∙ ap (λ v. cache_back v.nics) (sym view),
      was.7,
      was.8,
      was.9,
    )

pub new-requires-3-clause-left : goal.new-requires-3-clause-left
new-requires-3-clause-left c =
    rw (c.new.ensures, c.take_card_role.ensures.me, c.new-2.ensures.filled) (KnowsLeft-new c.self.inside.words.map)
