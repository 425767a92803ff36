-- The lanes so far are those of the last applications, and nobody was given the others' seats.
use Rattle.std.specs.Prelude.{◌≡◌, ℕ, ◌+◌, ◌<◌, ◌≤◌, ◌++◌, map, reverse, false, All, vec_len, vec_capacity}
use Rattle.board_face.specs.NicCalls.{apps_of}
use Rattle.word_board.specs.Board.{was_given}
use Rattle.card_feed.specs.declared.plan.Plan.{Plan}
use Rattle.replay_threads.{specs.{Lanes.{AreAtOpening}, Seated.{AreStarts, BeginsLane, shelf_of}}, proofs.Starts.{AreStartsSoFar}}
use Rattle.replay_threads.proofs.seating.open_lanes.Given as goal

abbrev pub invariant-loop-start : goal.invariant-loop-start
invariant-loop-start g l = record {
  desk : l.desk.board ≡ l.board;
  free : (a : ℕ) → a < vec_len l.starts → was_given l.desk (1 + a) ≡ false;
  nics : l.desk.view.nics ≡ l.fn.desk.view.nics;
  apps : l.desk.view.apps ≡ l.fn.desk.view.apps;
  few : vec_len l.starts ≤ apps_of l.board.setting;
  shelves : vec_len l.shelves ≡ vec_len l.starts;
  room : vec_len l.lanes + vec_len l.starts ≤ vec_capacity l.lanes;
  shelves_room : vec_capacity l.shelves ≡ vec_capacity l.fn.shelves;
  lanes : AreAtOpening l.board (vec_len l.starts) (reverse l.lanes.items);
  begin : (plan : Plan) → AreStarts plan l.fn.starts.items → AreStartsSoFar plan l.starts.items
      × All (λ lane. BeginsLane g.T.Shelf.kept g.T.Shelf.counts plan lane.seated) l.lanes.items;
  kept : l.shelves.items ++ map (λ lane. shelf_of lane.seated) (reverse l.lanes.items) ≡ l.fn.shelves.items;
}

abbrev pub decreases-loop-start : goal.decreases-loop-start
decreases-loop-start g l = vec_len l.starts
