-- Nobody has taken a turn.
use Rattle.std.{proofs.{Common.{◌≡◌, length, Option, IfSome, [], refl, sym, ap, ◌∙◌, subst, arith, ◌<◌}, lemmas.List.Elements.{All-nil}}, specs.Prelude.{All}}
use Rattle.area_layout.specs.Layout.{Shape}
use Rattle.board_face.specs.declared.views.nic.Dealt.{Dealt}
use Rattle.card_feed.specs.{Feed.{FeedState}, Plan.{layout_of}}
use Rattle.plain_board.specs.Board.{Board, new_board}
use Rattle.run_account.{specs.Behind.{begins}, proofs.{NewWorkers.{new-fits, new-goes}, Places.{get-within}}}
use Rattle.replay_turns.proofs.News.{begun}
use Rattle.replay_turns.proofs.opening.open.Goals as goal

pub returns-clause-opened : goal.returns-clause-opened
returns-clause-opened g c =
    let layout_is : c.unwrap-layout.result ≡ layout_of c.args.plan.now =
    subst (λ (r : Option Shape). IfSome r (λ l. l ≡ layout_of c.args.plan.now)) c.unwrap-layout.ensures c.layout.ensures.value in
    record {
      board_is = c.in_ok-board.ensures.board
          ∙ ap (λ (l : Shape). new_board l c.args.plan.now.options.ring c.room.result) layout_is
          ∙ ap (new_board (layout_of c.args.plan.now) c.args.plan.now.options.ring) c.room.ensures.room;
      feed_is = c.in_ok-feed.ensures.value;
      workers = c.in_ok-workers.ensures;
    }

pub returns-clause-many : goal.returns-clause-many
returns-clause-many g c = c.in_ok-workers.ensures.many

pub returns-clause-fits : goal.returns-clause-fits
returns-clause-fits g c shelves enough =
    let layout_is : c.unwrap-layout.result ≡ layout_of c.args.plan.now =
    subst (λ (r : Option Shape). IfSome r (λ l. l ≡ layout_of c.args.plan.now)) c.unwrap-layout.ensures c.layout.ensures.value in
    let reserves : c.unwrap-layout.result.reserves ≡ length c.args.plan.now.ports.items = ap (λ (s : Shape). s.reserves) layout_is in
    let many = c.in_ok-workers.ensures.many in
    let board_reserves : c.in_ok-board.board.arrays.layout.reserves ≡ c.unwrap-layout.result.reserves =
    ap (λ (b : Board). b.arrays.layout.reserves) c.in_ok-board.ensures.board in
    record {
      sound = c.in_ok-board.ensures.sound;
      recorded = c.in_ok-board.ensures.log;
      roles = record {
        ready = rw c.in_ok-board.ensures.board (c.in_ok-feed.ensures.ready _ refl (record { owns = refl; pieces = refl }) (sym reserves));
        worker = λ a w is. let within = get-within c.in_ok-workers.workers.items a w is in
            new-fits c.args.plan.now _ a _ w (begun c.in_ok-board.board c.unwrap-layout.result c.args.plan.now.options.ring c.room.result a c.in_ok-board.ensures.board
            (omega (arith, within, many, reserves))) (c.in_ok-workers.ensures.each a w is);
      };
      many = many ∙ sym reserves ∙ sym board_reserves;
      shelves_enough = omega (arith, many, enough);
    }

pub returns-clause-runs : goal.returns-clause-runs
returns-clause-runs g c first enough =
    let layout_is : c.unwrap-layout.result ≡ layout_of c.args.plan.now =
    subst (λ (r : Option Shape). IfSome r (λ l. l ≡ layout_of c.args.plan.now)) c.unwrap-layout.ensures c.layout.ensures.value in
    let reserves : c.unwrap-layout.result.reserves ≡ length c.args.plan.now.ports.items = ap (λ (s : Shape). s.reserves) layout_is in
    let many = c.in_ok-workers.ensures.many in
    record {
      plan_is = c.requires.plan;
      by_turns = c.requires.turns_only;
      frames = [];
      feed = rw c.in_ok-feed.ensures.value (c.new_feeds_stand.ensures first.source c.args.plan.now.ports.items c.args.plan.now.options.split
          c.in_ok-board.board.nic.view (ap (λ (b : Board). b.nic.view.sent) c.in_ok-board.ensures.board)
          (ap (λ (b : Board). b.nic.view.dealt) c.in_ok-board.ensures.board)
          (ap (λ (b : Board). b.nic.view.used) c.in_ok-board.ensures.board));
      setting = rw c.in_ok-board.ensures.board (rw layout_is refl);
      many = many;
      turns = (c.in_ok-board.board.nic.view.setting, rw (c.in_ok-feed.ensures.value, c.in_ok-board.ensures.board) begins);
      worker = λ a w is. let within = get-within c.in_ok-workers.workers.items a w is in
          new-goes c.args.plan.now _ a _ w (begun c.in_ok-board.board c.unwrap-layout.result c.args.plan.now.options.ring c.room.result a c.in_ok-board.ensures.board
          (omega (arith, within, many, reserves))) (c.in_ok-workers.ensures.each a w is) c.requires.turns_only _ _;
      many_shelves = refl;
      beyond = refl;
      records = let none = ap (λ (f : FeedState). f.tally.records) c.in_ok-feed.ensures.value in omega (arith, none);
      dealt = subst (All (λ (d : Dealt). d.app < length c.args.plan.now.ports.items)) (sym (ap (λ (b : Board). b.nic.view.dealt) c.in_ok-board.ensures.board))
          (All-nil (λ (d : Dealt). d.app < length c.args.plan.now.ports.items));
    }
