-- The lanes that are left, and what came of the others.
use Rattle.std.specs.Prelude.{◌≡◌, ◌+◌, ◌≤◌, ◌++◌, map, reverse, true, All, vec_len, vec_capacity}
use Rattle.word_board.specs.Desk.{AreOfBoard, AreServed}
use Rattle.replay_threads.specs.{Lanes.{AreAtBoard}, Seated.{end_of_seated, is_gone, left_end, seat_of, shelf_of}}
use Rattle.replay_threads.proofs.seating.close_lanes.Given as goal

abbrev pub invariant-loop-lane : goal.invariant-loop-lane
invariant-loop-lane g l = record {
  board : l.desk.board ≡ l.fn.desk.board;
  at : AreAtBoard l.fn.desk.board l.lanes.items;
  left : All (λ lane. (seat_of lane.seated).side.view.left ≡ true) l.lanes.items;
  gone : All (λ lane. is_gone lane.seated ≡ true) l.lanes.items;
  nics : l.desk.view.nics ≡ l.fn.desk.view.nics;
  served : AreServed l.desk.view;
  known : AreOfBoard l.desk.board.setting l.desk.view;
  lefts_room : vec_len l.lefts + vec_len l.lanes ≤ vec_capacity l.lefts;
  shelves_room : vec_len l.shelves + vec_len l.lanes ≤ vec_capacity l.shelves;
  shelves_kept : vec_capacity l.shelves ≡ vec_capacity l.fn.shelves;
  apps : l.desk.view.apps ++ map (λ lane. (seat_of lane.seated).side) (reverse l.lanes.items) ≡ map (λ lane. (seat_of lane.seated).side) (reverse l.fn.lanes.items);
  ends : map left_end l.lefts.items ++ map (λ lane. end_of_seated lane.seated) (reverse l.lanes.items)
      ≡ map (λ lane. end_of_seated lane.seated) (reverse l.fn.lanes.items);
  shelves : l.shelves.items ++ map (λ lane. shelf_of lane.seated) (reverse l.lanes.items) ≡ map (λ lane. shelf_of lane.seated) (reverse l.fn.lanes.items);
}

abbrev pub decreases-loop-lane : goal.decreases-loop-lane
decreases-loop-lane g l = vec_len l.lanes
