-- The last lane's seat goes back, and its shelf and its worker come to the end of theirs.
use Rattle.std.{proofs.{Common.{rules, ◌≡◌, ◌++◌, ◌∷◌, [], map, Option, Some, sym, ap, subst, arith, ◌∙◌}, lemmas.List.{append-nil, map-append}}, specs.Prelude.{true, reverse, IfSome}}
use Rattle.std.proofs.lemmas.List.Elements.{All-pop}
use Rattle.word_board.specs.Board.{TheApp, TheDesk}
use Rattle.replay_threads.{specs.Seated.{end_of_seated, is_gone, left_end, seat_of, shelf_of}, proofs.Reversed.{given-one}}
use Rattle.replay_threads.proofs.seating.close_lanes.Goals as goal

-- what holds of the one that was popped
popped : {A : Type 0} (P : A → Type 0) {r : Option A} {x : A} → r ≡ Some x → IfSome r P → P x
popped P is holds = subst (λ r. IfSome r P) is holds

pub loop-lane-preserved : goal.loop-lane-preserved
loop-lane-preserved g c =
    let was = c.loop-lane.invariant in
    let lane = c.in-Some.lane in
    let lanes = c.loop-lane.lanes.items in
    let left = c.pop.new.self.items in
    let split : lanes ≡ left ++ lane ∷ [] = c.in-Some.ensures.items in
    let back = c.back.ensures in
    record {
      board = ap (λ (d : TheDesk). d.board) back.desk ∙ was.board;
      at = (All-pop (λ l. (seat_of l.seated).board ≡ c.args.desk.now.board) lanes left c.pop.result c.pop.ensures.items was.at).0;
      left = (All-pop (λ l. (seat_of l.seated).side.view.left ≡ true) lanes left c.pop.result c.pop.ensures.items was.left).0;
      gone = (All-pop (λ l. is_gone l.seated ≡ true) lanes left c.pop.result c.pop.ensures.items was.gone).0;
      nics = ap (λ (d : TheDesk). d.view.nics) back.desk ∙ (append-nil c.loop-lane.desk.view.nics ∙ was.nics);
      served = back.served;
      known = back.known;
      lefts_room = omega (arith, was.lefts_room, c.in-Some.ensures.cases, c.push_reserved.ensures.len, c.push_reserved.ensures.capacity);
      shelves_room = omega (arith, was.shelves_room, c.in-Some.ensures.cases, c.push_reserved-in-Some.ensures.len, c.push_reserved-in-Some.ensures.capacity);
      shelves_kept = c.push_reserved-in-Some.ensures.capacity ∙ was.shelves_kept;
      apps = given-one (λ l. (seat_of l.seated).side) c.loop-lane.desk.view.apps c.back.new.desk.view.apps _ lanes left lane split
          (ap (λ (d : TheDesk). d.view.apps) back.desk ∙ ap (λ (s : TheApp). c.loop-lane.desk.view.apps ++ s.side ∷ []) c.rise-seat.ensures.seat) was.apps;
      ends = given-one (λ l. end_of_seated l.seated) (map left_end c.loop-lane.lefts.items) (map left_end c.push_reserved.new.self.items) _ lanes left
          lane split
          (ap (map left_end) c.push_reserved.ensures.items ∙ (map-append left_end c.loop-lane.lefts.items (c.rise-seat.result.2 ∷ [])
          ∙ ap (λ e. map left_end c.loop-lane.lefts.items ++ e ∷ []) c.rise-seat.ensures.end)) was.ends;
      shelves = given-one (λ l. shelf_of l.seated) c.loop-lane.shelves.items c.push_reserved-in-Some.new.self.items _ lanes left lane split
          (c.push_reserved-in-Some.ensures.items ∙ ap (λ s. c.loop-lane.shelves.items ++ s ∷ []) c.rise-seat.ensures.shelf) was.shelves;
    }

pub back-requires-clause-desk : goal.back-requires-clause-desk
back-requires-clause-desk g c =
    let was = c.loop-lane.invariant in
    let lanes = c.loop-lane.lanes.items in
    let left = c.pop.new.self.items in
    let here = (All-pop (λ l. (seat_of l.seated).board ≡ c.args.desk.now.board) lanes left c.pop.result c.pop.ensures.items was.at).1 in
    let at : (seat_of c.in-Some.lane.seated).board ≡ c.args.desk.now.board = popped (λ l. (seat_of l.seated).board ≡ c.args.desk.now.board) c.in-Some.is here in
    was.board ∙ (sym at ∙ ap (λ (s : TheApp). s.board) (sym c.rise-seat.ensures.seat))

pub rise-seat-requires-clause-left : goal.rise-seat-requires-clause-left
rise-seat-requires-clause-left g c = popped (λ l. (seat_of l.seated).side.view.left ≡ true) c.in-Some.is
    (All-pop (λ l. (seat_of l.seated).side.view.left ≡ true) c.loop-lane.lanes.items c.pop.new.self.items c.pop.result c.pop.ensures.items
    c.loop-lane.invariant.left).1

pub rise-seat-requires-clause-gone : goal.rise-seat-requires-clause-gone
rise-seat-requires-clause-gone g c = popped (λ l. is_gone l.seated ≡ true) c.in-Some.is
    (All-pop (λ l. is_gone l.seated ≡ true) c.loop-lane.lanes.items c.pop.new.self.items c.pop.result c.pop.ensures.items c.loop-lane.invariant.gone).1

pub back-requires-clause-left : goal.back-requires-clause-left
back-requires-clause-left g c =
    ap (λ (s : TheApp). s.side.view.left) c.rise-seat.ensures.seat
    ∙ popped (λ l. (seat_of l.seated).side.view.left ≡ true) c.in-Some.is
    (All-pop (λ l. (seat_of l.seated).side.view.left ≡ true) c.loop-lane.lanes.items c.pop.new.self.items c.pop.result c.pop.ensures.items
    c.loop-lane.invariant.left).1

pub returns-clause-took : goal.returns-clause-took
returns-clause-took g c =
    let was = c.loop-lane.invariant in
    let none : c.loop-lane.lanes.items ≡ [] = search rules in
    let all : c.loop-lane.desk.view.apps ++ [] ≡ map (λ l. (seat_of l.seated).side) (reverse c.args.lanes.items) =
    subst (λ ls. c.loop-lane.desk.view.apps ++ map (λ l. (seat_of l.seated).side) (reverse ls)
    ≡ map (λ l. (seat_of l.seated).side) (reverse c.args.lanes.items)) none was.apps in
    record {
      board = was.board;
      nics = was.nics;
      apps = sym (append-nil c.loop-lane.desk.view.apps) ∙ all;
      order = record { served = was.served; known = was.known };
    }
