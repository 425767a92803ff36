-- The frame is counted, its flow sees it, and it is at hand where it is offered; or it ends the reading.
use Rattle.std.proofs.{Common.{◌≡◌, ◌∙◌, ap, refl}, lemmas.Result.{err_from_is_err_and}}
use Rattle.frame_headers.specs.{FrameClass.{class_of}, Seen.{class_seen}}
use Rattle.card_feed.proofs.Taking.{frame-taken, frame-ends, frame-limit}
use Rattle.card_feed.proofs.intake.Intake.take.Goals as goal

pub returns-then-is_full-clause-takes : goal.returns-then-is_full-clause-takes
returns-then-is_full-clause-takes c = λ ports frames knows. (
  frame-limit c.args.self.now.split ports frames c.args.self.now.bytes.items c.args.self.now knows (c.if-is_full.ensures.0 refl),
  record { tally = knows.tally; known = knows.known },
  c.requires.none,
)

pub returns-in_err-found-clause-takes : goal.returns-in_err-found-clause-takes
returns-in_err-found-clause-takes c = λ ports frames knows.
    let p = err_from_is_err_and c.from_residual.result c.from_residual.ensures.1 in
    let class : class_seen c.read_frame-seen.result ≡ class_of c.args.self.now.bytes.items = c.read_frame-seen.ensures.class
    ∙ ap class_of c.deref.ensures.value in
    let ends = frame-ends c.args.self.now.split ports frames c.args.self.now.bytes.items c.args.self.now knows c.read_frame-seen.result class
    (λ limit. absurd (let full = c.if-is_full.ensures.1 limit in cc)) c.in_err-found.field-0.0 c.steer_seen.new.table c.in_err-found.ensures.steers in
    rw (p.1, p.2) (ends.0, record { tally = knows.tally; known = ends.1 }, c.requires.none)

pub returns-clause-takes : goal.returns-clause-takes
returns-clause-takes c = λ ports frames knows.
    let class : class_seen c.read_frame-seen.result ≡ class_of c.args.self.now.bytes.items = c.read_frame-seen.ensures.class
    ∙ ap class_of c.deref.ensures.value in
    let taken = frame-taken c.args.self.now.split ports frames c.args.self.now.bytes.items c.args.self.now knows c.read_frame-seen.result class
    (λ limit. absurd
    (let full = c.if-is_full.ensures.1 limit in cc)) c.in_ok-found.found c.count.new.self.tally c.steer_seen.new.table c.in_ok-found.ensures.steers
    (rw c.is_some.ensures at c.count.ensures) in
    (taken.0, record { tally = taken.1.0; known = taken.1.1 }, rw c.with_payload-self.ensures taken.2)
