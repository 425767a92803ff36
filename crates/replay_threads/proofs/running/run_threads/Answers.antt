-- A whole run: the shelves that were set aside stand behind the others again.
use Rattle.std.{proofs.{Common.{rules, ◌≡◌, Option, Some, ◌++◌, [], length, map, ap, ◌∙◌, subst, sym, arith}, lemmas.List.{length-map}}, specs.Prelude.{IfSome, reverse}}
use Rattle.run_account.specs.{Ran.{TellsOfEnds}, Views.{ends_at, streams}}
use Rattle.word_board.specs.{Board.{TheBoard, TheDesk}, Desk.{AllAreBack}}
use Rattle.replay_threads.{specs.Seated.{left_end}, proofs.{Reversed.{put-back, set-aside}, Told.{on-err, run-lacks, run-told}}}
use Rattle.replay_threads.proofs.running.run_threads.Goals as goal

-- what an option has, where it has some
laid-out : {A : Type 0} (r : Option A) (x y : A) → r ≡ Some x → IfSome r (λ l. l ≡ y) → x ≡ y
laid-out r x y is holds = subst (λ s. IfSome s (λ l. l ≡ y)) is holds

pub move_last-requires-clause-keep : goal.move_last-requires-clause-keep
move_last-requires-clause-keep g c = omega (arith, c.len-apps.ensures, c.requires.shelves)

pub play_seated-feed-requires-clause-board : goal.play_seated-feed-requires-clause-board
play_seated-feed-requires-clause-board g c κs within = record {
  desk_is = c.in_ok-board.ensures.desk;
  setting = subst (λ layout. c.in_ok-board.board.setting ≡ record { layout = layout; places = c.args.plan.now.options.ring })
      (laid-out _ _ _ c.unwrap-layout.ensures c.layout.ensures.value) c.in_ok-board.ensures.setting;
}

pub play_seated-feed-requires-clause-begun : goal.play_seated-feed-requires-clause-begun
play_seated-feed-requires-clause-begun g c κs within = record { new = c.in_ok-feed.ensures.value; ready = search rules; starts_are = search rules }

pub play_seated-feed-requires-clause-lefts : goal.play_seated-feed-requires-clause-lefts
play_seated-feed-requires-clause-lefts g c κs within =
    (c.in_ok-lefts.ensures.items, omega (arith, c.in_ok-lefts.ensures.capacity, c.len-apps.ensures))

pub play_seated-feed-requires-clause-shelves : goal.play_seated-feed-requires-clause-shelves
play_seated-feed-requires-clause-shelves g c κs within = c.move_last.ensures.kept ∙ (c.len-apps.ensures ∙ c.args.plan.now.ports.ok.0)

pub play_seated-feed-requires-clause-lanes : goal.play_seated-feed-requires-clause-lanes
play_seated-feed-requires-clause-lanes g c κs within =
    (c.in_ok-lanes.ensures.lanes.0, omega (arith, c.in_ok-lanes.ensures.lanes.1, c.len-apps.ensures))

pub move_last-requires-2-clause-room : goal.move_last-requires-2-clause-room
move_last-requires-2-clause-room g c =
    let moved = c.move_last.ensures in
    let played = c.play_seated-feed.ensures in
    omega (
      arith,
      moved.many,
      moved.kept,
      moved.room,
      played.shelves.0,
      played.shelves.1,
      c.args.shelves.now.ok,
      c.in_ok-lanes.aside.ok,
      ap length c.in_ok-lanes.ensures.aside.0,
    )

pub returns-clause-many : goal.returns-clause-many
returns-clause-many g c =
    let moved = c.move_last.ensures in
    omega (
      arith,
      moved.many,
      moved.kept,
      c.play_seated-feed.ensures.shelves.0,
      c.move_last-2.ensures.many,
      c.in_ok-lanes.aside.ok,
      ap length c.in_ok-lanes.ensures.aside.0,
    )

pub returns-in_err-outcome-clause-many : goal.returns-in_err-outcome-clause-many
returns-in_err-outcome-clause-many g c =
    let moved = c.move_last.ensures in
    omega (
      arith,
      moved.many,
      moved.kept,
      c.play_seated-feed.ensures.shelves.0,
      c.move_last-2.ensures.many,
      c.in_ok-lanes.aside.ok,
      ap length c.in_ok-lanes.ensures.aside.0,
    )

pub returns-clause-ran : goal.returns-clause-ran
returns-clause-ran g c =
    let aside = c.move_last.new.to.items in
    let first = set-aside c.args.shelves.now.items c.move_last.new.from.items aside
    (c.move_last.ensures.moved ∙ ap (λ l. l ++ reverse c.args.shelves.now.items) c.in_ok-lanes.ensures.aside.0) in
    let none : length c.move_last-2.new.from.items ≡ 0 = sym c.move_last-2.new.from.ok.0 ∙ c.move_last-2.ensures.kept in
    let last = put-back c.move_last-2.new.to.items c.play_seated-feed.new.shelves.items aside c.move_last-2.new.from.items c.move_last-2.ensures.moved none in
    let m = streams g.S.Source.left g.S.Source.faults g.T.Shelf.kept g.T.Shelf.counts in
    let at_desk : c.play_seated-feed.new.desk.board ≡ c.in_ok-board.board =
    c.play_seated-feed.ensures.board ∙ ap (λ (d : TheDesk). d.board) c.in_ok-board.ensures.desk in
    record {
      beside = run-told (ends_at m c.args.source.now c.args.shelves.now.items)
          (ends_at m c.play_seated-feed.new.source c.move_last-2.new.to.items) c.move_last.new.from.items c.play_seated-feed.new.shelves.items
          (reverse aside) c.args.plan.now c.play_seated-feed.new.desk c.play_seated-feed.result.0 (map left_end c.play_seated-feed.result.1.items)
          first last c.play_seated-feed.ensures.played c.runs_end_well.ensures c.in_ok-outcome.outcome
          (subst (λ ports. TellsOfEnds c.play_seated-feed.result.0 (map left_end c.play_seated-feed.result.1.items) ports c.in_ok-outcome.outcome)
          c.deref-2.ensures.value
          (subst (λ lefts. TellsOfEnds c.play_seated-feed.result.0 (map left_end lefts) c.deref-2.result.now c.in_ok-outcome.outcome)
          c.deref.ensures.value c.in_ok-outcome.ensures));
      setting = subst (λ layout. c.in_ok-board.board.setting ≡ record { layout = layout; places = c.args.plan.now.options.ring })
          (laid-out _ _ _ c.unwrap-layout.ensures c.layout.ensures.value) c.in_ok-board.ensures.setting;
      desk_is = at_desk;
      back = subst (λ (b : TheBoard). AllAreBack b.setting c.play_seated-feed.new.desk.view) at_desk c.play_seated-feed.ensures.played.back;
    }

pub returns-in_err-outcome-clause-lacks : goal.returns-in_err-outcome-clause-lacks
returns-in_err-outcome-clause-lacks g c =
    let aside = c.move_last.new.to.items in
    let first = set-aside c.args.shelves.now.items c.move_last.new.from.items aside
    (c.move_last.ensures.moved ∙ ap (λ l. l ++ reverse c.args.shelves.now.items) c.in_ok-lanes.ensures.aside.0) in
    let none : length c.move_last-2.new.from.items ≡ 0 = sym c.move_last-2.new.from.ok.0 ∙ c.move_last-2.ensures.kept in
    let last = put-back c.move_last-2.new.to.items c.play_seated-feed.new.shelves.items aside c.move_last-2.new.from.items c.move_last-2.ensures.moved none in
    let m = streams g.S.Source.left g.S.Source.faults g.T.Shelf.kept g.T.Shelf.counts in
    on-err _ _ (run-lacks (ends_at m c.args.source.now c.args.shelves.now.items)
    (ends_at m c.play_seated-feed.new.source c.move_last-2.new.to.items) c.move_last.new.from.items c.play_seated-feed.new.shelves.items
    (reverse aside) c.args.plan.now c.play_seated-feed.new.desk c.play_seated-feed.result.0 (map left_end c.play_seated-feed.result.1.items) first last
    c.play_seated-feed.ensures.played c.runs_are_told.ensures)

pub tell-requires-clause-many : goal.tell-requires-clause-many
tell-requires-clause-many g c =
    ap length c.deref.ensures.value
    ∙ (sym (length-map c.play_seated-feed.result.1.items left_end)
    ∙ ((c.play_seated-feed.ensures.played.runs []).many ∙ sym (ap length c.deref-2.ensures.value)))
