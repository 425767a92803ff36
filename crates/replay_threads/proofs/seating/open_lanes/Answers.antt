-- One lane more: its application begins.
use Rattle.std.{proofs.{Common.{rules, ◌≡◌, suc, ◌++◌, ◌∷◌, [], sym, ap, ◌∙◌, subst, arith}, lemmas.List.Elements.{All-push}}, specs.Prelude.{All, reverse, vec_len}}
use Rattle.board_face.specs.Opened.{new_app}
use Rattle.replay_threads.{specs.{declared.lane.Lane.{Lane}, Lanes.{AreAtOpening}, Seated.{BeginsLane, shelf_of}}, proofs.Reversed.{reverse-last, taken-one}}
use Rattle.replay_threads.proofs.Starts.{first-starts, last-start}
use Rattle.replay_threads.proofs.seating.open_lanes.Goals as goal

pub loop-start-preserved : goal.loop-start-preserved
loop-start-preserved g c =
    let kept = g.T.Shelf.kept in
    let losses = g.T.Shelf.counts in
    let was = c.loop-start.invariant in
    let left = c.pop.new.self.items in
    let split : c.loop-start.starts.items ≡ left ++ c.in-Some.start ∷ [] = c.in-Some.ensures.items in
    let board = c.args.board.now in
    let next : vec_len c.loop-start.starts ≡ suc (vec_len c.pop.new.self) = search rules in
    let here : c.len-app.result ≡ vec_len c.pop.new.self = c.len-app.ensures in
    record {
      desk = search rules;
      free = search rules;
      nics = search rules;
      apps = search rules;
      few = search rules;
      shelves = search rules;
      room = search rules;
      shelves_room = search rules;
      lanes = subst (λ l. AreAtOpening board (vec_len c.pop.new.self) (reverse l)) (sym c.push_reserved.ensures.items)
          (subst (AreAtOpening board (vec_len c.pop.new.self)) (sym (reverse-last c.loop-start.lanes.items _)) (
            c.sit.ensures.seat ∙ (c.in-Some-app.ensures.given.2 ∙ ap (λ n. record { board = board; side = new_app board.setting n }) here),
            subst (λ n. AreAtOpening board n (reverse c.loop-start.lanes.items)) next was.lanes,
          ));
      begin = λ plan starts.
          let so_far = was.begin plan starts in (
            first-starts plan c.loop-start.starts.items left c.in-Some.start split so_far.0,
            subst (All (λ (lane : Lane _). BeginsLane kept losses plan lane.seated)) (sym c.push_reserved.ensures.items)
                (All-push (λ (lane : Lane _). BeginsLane kept losses plan lane.seated) c.loop-start.lanes.items _ so_far.1
                (c.sit.ensures.begins plan (last-start plan c.loop-start.starts.items left c.in-Some.start split so_far.0 _
                (omega (arith, c.len-app.ensures, c.pop.new.self.ok))))),
          );
      kept = taken-one (λ (lane : Lane _). shelf_of lane.seated) c.loop-start.shelves.items c.pop-in-Some.new.self.items c.args.shelves.now.items
          c.in-Some-pop.shelf c.loop-start.lanes.items c.push_reserved.new.self.items _ c.in-Some-pop.ensures.items c.sit.ensures.shelf
          c.push_reserved.ensures.items was.kept;
    }

pub sit-requires-clause-start : goal.sit-requires-clause-start
sit-requires-clause-start g c =
    let left = c.pop.new.self.items in
    let split : c.loop-start.starts.items ≡ left ++ c.in-Some.start ∷ [] = c.in-Some.ensures.items in
    let (plan, starts) = c.requires.starts in (
      plan,
      last-start plan c.loop-start.starts.items left c.in-Some.start split (c.loop-start.invariant.begin plan starts).0 _
          (omega (arith, c.len-app.ensures, c.pop.new.self.ok)),
    )
