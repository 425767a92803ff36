-- It has taken no turn.
use Rattle.std.proofs.Common.{rules, ◌≡◌, None, ap, ◌∙◌, sym, subst}
use Rattle.board_face.specs.{Opened.{new_app_view}, declared.views.app.AppSide.{AppSide}}
use Rattle.zc_poll.specs.Fresh.{new_stream_desk}
use Rattle.zc_forward.specs.Turns.{Stage}
use Rattle.run_account.specs.{Behind.{Behind, begins}, Ways.{ForwardTurns, first_stage}}
use Rattle.replay_threads.{specs.{declared.seated.Turning.{Turning}, Seated.{IsStart, stage_now}}, proofs.Beginnings.{turning-begins}}
use Rattle.replay_threads.specs.declared.seated.Start.TheVariants as start
use Rattle.replay_threads.proofs.seated.Seated.sit.Goals as goal

pub returns-in-Turning-clause-begins : goal.returns-in-Turning-clause-begins
returns-in-Turning-clause-begins g c = λ plan begun.
    let own : Turning _ = record { seat = c.args.seat; worker = c.in-Turning.worker; shelf = c.args.shelf } in
    turning-begins g.T.Shelf.kept g.T.Shelf.counts plan c.args.seat.board.setting c.args.app own c.requires.new
    (subst (IsStart plan c.args.app) c.in-Turning.is begun)

pub returns-in-Pouring-clause-begins : goal.returns-in-Pouring-clause-begins
returns-in-Pouring-clause-begins g c = λ plan begun.
    let so : IsStart plan c.args.app start.Pouring = subst (IsStart plan c.args.app) c.in-Pouring.is begun in
    let own = c.new-in-Pouring in
    let due : own.result.tally.due ≡ None = search rules in
    let desk : own.result.desk ≡ new_stream_desk c.args.app = search rules in
    let face : own.result.face ≡ c.args.seat = search rules in
    let view : own.result.face.side.view ≡ new_app_view c.args.seat.board.setting c.args.app =
    ap (λ f. f.side.view) face ∙ ap (λ (s : AppSide). s.view) c.requires.new in
    record {
      fits = search rules;
      runs = search rules;
      comes = (so.1, c.args.seat.board.setting, c.args.app, rw (due, desk, view) begins);
    }

pub returns-in-Forwarding-clause-begins : goal.returns-in-Forwarding-clause-begins
returns-in-Forwarding-clause-begins g c = λ plan begun.
    let so : IsStart plan c.args.app (start.Forwarding c.in-Forwarding.delay) = subst (IsStart plan c.args.app) c.in-Forwarding.is begun in
    let own = c.new-in-Forwarding-3 in
    let desk : own.result.desk ≡ new_stream_desk c.args.app = search rules in
    let face : own.result.face ≡ c.args.seat = search rules in
    let view : own.result.face.side.view ≡ new_app_view c.args.seat.board.setting c.args.app =
    ap (λ f. f.side.view) face ∙ ap (λ (s : AppSide). s.view) c.requires.new in
    let room = own.result.work.tally.room in
    let first : Stage = first_stage c.args.seat.board.setting c.args.app room c.in-Forwarding.delay in
    let begun : stage_now own.result ≡ first = search rules in
    record {
      fits = search rules;
      runs = search rules;
      comes = (
        c.args.seat.board.setting,
        c.args.app,
        room,
        c.in-Forwarding.delay,
        so.2,
        subst (λ stage. Behind ForwardTurns (record { stage = first; poured = None }) (record { stage = stage; poured = None })) (sym begun) begins,
      );
    }
