-- A segment goes to its flow, or it doesn't: for want of memory, or since it would begin a flow too many.
use Rattle.std.proofs.Common.{◌≡◌, ◌∙◌, ap, refl, Err, rules, arith}
use Rattle.frame_headers.specs.Seen.{shown}
use Rattle.card_feed.proofs.Steering.{no_flow, too_many, goes, apps_stay, counts-placed}
use Rattle.card_feed.proofs.receiving.steer.Goals.{else-not-has_room-via-then-not-has_room+else-may_be_refused, else-not-has_room-via-else-not-has_room}
use Rattle.card_feed.proofs.receiving.steer.Goals as goal

pub returns-in-Ok-Flow-clause-apps : goal.returns-in-Ok-Flow-clause-apps
returns-in-Ok-Flow-clause-apps c =
    apps_stay c.args.table.now (shown c.args.segment.now) c.args.frame c.place.new.self _ _ _ _ _ _
    (rw c.in-Ok-Flow.field-0-is at c.in-Ok-Flow.ensures.placed) c.place.ensures.ports c.requires.apps

pub returns-in-Ok-Flow-clause-steers : goal.returns-in-Ok-Flow-clause-steers
returns-in-Ok-Flow-clause-steers c =
    goes c.args.table.now (shown c.args.segment.now) c.args.frame c.args.split c.place.new.self _
    (rw c.in-Ok-Flow.field-0-is at c.in-Ok-Flow.ensures.placed) c.place.ensures.ports
    (λ last. absurd (let refused = (c.in-Ok-Flow.ensures.too_many c.args.frame).1 last in cc)) refl

pub returns-in-Ok-Flow-clause-room : goal.returns-in-Ok-Flow-clause-room
returns-in-Ok-Flow-clause-room c = λ long.
    elim c.else-not-has_room.branch [
      | else-not-has_room-via-then-not-has_room+else-may_be_refused w ↦
          let placed = rw c.in-Ok-Flow.field-0-is at c.in-Ok-Flow.ensures.placed in
          absurd (omega (
            arith,
            long,
            w.may_be_refused.ensures.short w.if-may_be_refused.false c.args.frame _
                (λ last. absurd (let refused = (c.in-Ok-Flow.ensures.too_many c.args.frame).1 last in cc))
                (counts-placed c.args.table.now (shown c.args.segment.now) c.args.frame c.place.new.self _ _ _ _ _ _ placed),
          ))
      | else-not-has_room-via-else-not-has_room w ↦ search (rules, arith)
    ]

pub returns-in-Err-Memory-clause-steers : goal.returns-in-Err-Memory-clause-steers
returns-in-Err-Memory-clause-steers c =
    let memory : c.place.result ≡ Err _ = c.in-Err-Memory.is ∙ ap Err c.in-Err-Memory.field-0-is in
    no_flow c.args.table.now (shown c.args.segment.now) c.args.frame c.args.split c.place.new.self
    (c.in-Err-Memory.ensures.memory c.args.frame (ap Err c.in-Err-Memory.field-0-is))
    (λ last. absurd (let refused = (c.in-Err-Memory.ensures.too_many c.args.frame).1 last in cc))
    c.in-Err-Memory.ensures.refused

pub returns-in-Err-TooManyFlows-clause-steers : goal.returns-in-Err-TooManyFlows-clause-steers
returns-in-Err-TooManyFlows-clause-steers c =
    too_many c.args.table.now (shown c.args.segment.now) c.args.frame c.args.split c.place.new.self
    ((c.in-Err-TooManyFlows.ensures.too_many c.args.frame).0 (ap Err c.in-Err-TooManyFlows.field-0-is)) c.in-Err-TooManyFlows.ensures.refused
