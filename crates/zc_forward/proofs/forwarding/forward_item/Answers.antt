use Rattle.std.{proofs.Common.{rules, inl, inr, false, ◌≡◌, ◌<◌, ◌∙◌, ◌++◌, ◌∷◌, [], ℕ, true, None, Some, nat_eq, refl, sym, ap, subst}, specs.Map.{lookup}}
use Rattle.zr_kinds.specs.declared.behaviour.Stopped.TheVariants as stop
use Rattle.board_face.specs.declared.views.app.{LentPiece.{LentPiece}, AppView.{AppView}}
use Rattle.flow_queues.specs.{Core.{total}, Counting.{TallyState, AddsTo, item_counted}, TallyOf.{tally_state_of}}
use Rattle.zc_poll.{specs.{Standing.{Desk, StreamStands, stopped_with}, Items.{HasGiven}}, proofs.{ItemPoured.{Roomy, is-roomy}, PourTurns.{only-reads-none}}}
use Rattle.zc_forward.specs.{declared.{outbox.Outbox.{Outbox as Kept}, sent.Sent.{Sent}}, OutboxOf.{outbox_of}, Sending.{of_sent}, Tags.{Tags}}
use Rattle.zc_forward.{specs.Forwarding.{ForwardStands}, proofs.{Items.{carries, fails, wants}, Live.{pushed-sum}}}
use Rattle.zc_forward.proofs.forwarding.forward_item.Goals as goal

pub returns-then-is_err-clause-gives : goal.returns-then-is_err-clause-gives
returns-then-is_err-clause-gives g c =
    let roomy : Roomy (item_counted (tally_state_of c.args.work.now.tally) c.args.lent.copied) (tally_state_of c.room_for.new.work.tally) =
    is-roomy c.args.work.now.tally c.count_item.new.self c.room_for.new.work.tally c.args.lent.copied c.count_item.ensures.tally c.room_for.ensures.same
    c.room_for.ensures.room in
    let adds : AddsTo c.args.lent.flow 0 c.args.work.now.tally.counts.entries c.room_for.new.work.tally.counts.entries =
    subst (λ es. AddsTo c.args.lent.flow 0 es c.room_for.new.work.tally.counts.entries) (ap (λ (t : TallyState). t.counts) c.count_item.ensures.tally)
    c.room_for.ensures.none in
    let k : Kept = record {
      tally = record c.room_for.new.work.tally { stopped = stop.Memory };
      out = c.room_for.new.work.out;
      uncarried = Some c.args.lent.loan;
      pressed = c.room_for.new.work.pressed;
    } in
    λ first losses st v before item only.
    wants first (g.C.Carrier.got c.args.carrier.now) losses (g.C.Carrier.counts c.args.carrier.now) (outbox_of c.args.work.now) st c.args.stream.now.desk
    (g.C.Carrier.tags c.args.carrier.now) v (g.F.AppFace.seen c.args.stream.now.face) before c.requires.can.due c.args.lent item only c.requires.can.holds.stands
    (tally_state_of c.room_for.new.work.tally) roomy adds (g.F.AppFace.seen c.stop.new.self.face) c.stop.new.self.desk (outbox_of k) c.stop.ensures.view
    c.stop.ensures.items c.stop.ensures.stays.stands (ap (λ (d : Desk). d.stopped) c.stop.ensures.stays.desk) (ap (λ (d : Desk). d.ended) c.stop.ensures.stays.desk) refl c.room_for.ensures.beside.0 refl c.requires.can.few

pub returns-then-is_err-clause-had : goal.returns-then-is_err-clause-had
returns-then-is_err-clause-had g c = λ st v pace later item only.
    let v1 : AppView = g.F.AppFace.seen c.args.stream.now.face in
    record {
      desk = c.args.stream.now.desk;
      view = v1;
      lent = c.args.lent;
      item = item;
      only = only;
      tally = record (tally_state_of c.room_for.new.work.tally) { stopped = stop.Memory };
      due = ap (λ (t : TallyState). t.due) (ap tally_state_of c.room_for.ensures.same) ∙ ap (λ (t : TallyState). t.due) c.count_item.ensures.tally;
      read = v1;
      reads = only-reads-none v1;
      went = inr (c.stop.ensures.stays.desk, inl (c.stop.ensures.view, refl, rw (c.room_for.ensures.beside.0, c.room_for.ensures.beside.2) refl, refl));
    }

pub returns-then-done-len-clause-had : goal.returns-then-done-len-clause-had
returns-then-done-len-clause-had g c = λ st v pace later item only.
    let call = c.send-done.ensures in
    let read = call.carries in
    let gone = c.fail.ensures in
    let desk : Desk = c.args.stream.now.desk in
    let uncarried = gone.work.2 ∙ c.room_for.ensures.beside.1 in
    let pressed = gone.work.3 ∙ c.room_for.ensures.beside.2 in
    record {
      desk = desk;
      view = g.F.AppFace.seen c.args.stream.now.face;
      lent = c.args.lent;
      item = item;
      only = only;
      tally = tally_state_of c.fail.new.work.tally;
      due = ap (λ (t : TallyState). t.due) (ap tally_state_of gone.work.0) ∙ ap (λ (t : TallyState). t.due) (ap tally_state_of c.count.ensures.same)
          ∙ ap (λ (t : TallyState). t.due) (ap tally_state_of c.room_for.ensures.same) ∙ ap (λ (t : TallyState). t.due) c.count_item.ensures.tally;
      read = g.F.AppFace.seen c.send-done.new.stream.face;
      reads = read.only;
      went = inr (
        subst (λ (d : Desk). c.fail.new.stream.desk ≡ stopped_with d c.fail.new.stream.desk.flows) call.stays.desk gone.stopped,
        inr (
          gone.halts.gave_up,
          gone.carrier.tags,
          rw (gone.work.1, uncarried, pressed) refl,
          ap (λ (t : TallyState). t.stopped) (ap tally_state_of gone.work.0),
        ),
      );
    }

pub returns-else-done-len-clause-had : goal.returns-else-done-len-clause-had
returns-else-done-len-clause-had g c = λ st v pace later item only.
    let call = c.send-done.ensures in
    let read = call.carries in
    let full : c.send-done.result ≡ c.args.lent.loan.len = search rules in
    let sent : Sent = record { tag = c.free_tag.result; flow = c.args.lent.flow; loan = c.args.lent.loan } in
    let out : c.push_reserved.new.self.items ≡ c.args.work.now.out.items ++ sent ∷ [] =
    c.push_reserved.ensures.items ∙ ap (λ ss. ss ++ sent ∷ []) c.room_for.ensures.beside.0 in
    let free : lookup (nat_eq c.free_tag.result) (g.C.Carrier.tags c.args.carrier.now) ≡ None = search rules in
    record {
      desk = c.args.stream.now.desk;
      view = g.F.AppFace.seen c.args.stream.now.face;
      lent = c.args.lent;
      item = item;
      only = only;
      tally = tally_state_of c.count.new.self;
      due = ap (λ (t : TallyState). t.due) (ap tally_state_of c.count.ensures.same)
          ∙ ap (λ (t : TallyState). t.due) (ap tally_state_of c.room_for.ensures.same) ∙ ap (λ (t : TallyState). t.due) c.count_item.ensures.tally;
      read = g.F.AppFace.seen c.send-done.new.stream.face;
      reads = read.only;
      went = inl (
        call.stays.desk,
        refl,
        c.free_tag.result,
        free,
        call.tags full,
        rw (out, c.room_for.ensures.beside.1, c.room_for.ensures.beside.2) refl,
        ap (λ (t : TallyState). t.stopped) (ap tally_state_of c.count.ensures.same)
            ∙ ap (λ (t : TallyState). t.stopped) (ap tally_state_of c.room_for.ensures.same) ∙ ap (λ (t : TallyState). t.stopped) c.count_item.ensures.tally,
      );
    }

pub fail-requires : goal.fail-requires
fail-requires g c =
    let sent : Sent = record { tag = c.free_tag.result; flow = c.args.lent.flow; loan = c.args.lent.loan } in
    let out : c.push_reserved.new.self.items ≡ c.args.work.now.out.items ++ sent ∷ [] =
    c.push_reserved.ensures.items ∙ ap (λ ss. ss ++ sent ∷ []) c.room_for.ensures.beside.0 in
    record {
      sent = record {
        stands = c.send-done.ensures.stays.stands;
        loans = λ f. ap (λ (k : AppView). total (λ (l : LentPiece). f l.place) k.loans) c.send-done.ensures.carries.only.view ∙ c.requires.can.loans f
            ∙ sym (ap (of_sent f) out ∙ pushed-sum f c.args.work.now.out.items sent);
      };
    }

pub returns-then-done-len-clause-gives : goal.returns-then-done-len-clause-gives
returns-then-done-len-clause-gives g c =
    let roomy : Roomy (item_counted (tally_state_of c.args.work.now.tally) c.args.lent.copied) (tally_state_of c.room_for.new.work.tally) =
    is-roomy c.args.work.now.tally c.count_item.new.self c.room_for.new.work.tally c.args.lent.copied c.count_item.ensures.tally c.room_for.ensures.same
    c.room_for.ensures.room in
    let adds : AddsTo c.args.lent.flow 0 c.args.work.now.tally.counts.entries c.room_for.new.work.tally.counts.entries =
    subst (λ es. AddsTo c.args.lent.flow 0 es c.room_for.new.work.tally.counts.entries) (ap (λ (t : TallyState). t.counts) c.count_item.ensures.tally)
    c.room_for.ensures.none in
    let call = c.send-done.ensures in
    let read = call.carries in
    let gone = c.fail.ensures in
    let part : c.send-done.result < c.args.lent.loan.len = search rules in
    let y : AppView = g.F.AppFace.seen c.send-done.new.stream.face in
    let none : g.C.Carrier.tags c.fail.new.carrier ≡ [] = gone.carrier.tags in
    λ first losses st v before item only.
    let stands : ForwardStands first losses (outbox_of c.fail.new.work) c.fail.new.stream.desk [] (g.C.Carrier.got c.fail.new.carrier)
    (g.C.Carrier.counts c.send-done.new.carrier) (g.F.AppFace.seen c.fail.new.stream.face) =
    fails first (g.C.Carrier.got c.args.carrier.now) losses (g.C.Carrier.counts c.args.carrier.now) (outbox_of c.args.work.now) st c.args.stream.now.desk
    (g.C.Carrier.tags c.args.carrier.now) v (g.F.AppFace.seen c.args.stream.now.face) before c.requires.can.due c.args.lent item only c.requires.can.holds.stands
    (tally_state_of c.room_for.new.work.tally) roomy adds (g.C.Carrier.got c.send-done.new.carrier) y (tally_state_of c.count.new.self) c.send-done.result
    read.only
    read.counted read.gained read.others (ap tally_state_of c.count.ensures.same) c.count.ensures.adds c.count.ensures.many (g.C.Carrier.got c.fail.new.carrier)
    (g.C.Carrier.counts c.send-done.new.carrier) gone.halts.gave_up.0 (g.F.AppFace.seen c.fail.new.stream.face) c.fail.new.stream.desk (outbox_of c.fail.new.work)
    gone.carrier.got gone.halts.gave_up.1 gone.halts.gave_up.3 gone.halts.still.2
    (λ items given. gone.items items (subst (λ (d : Desk). HasGiven items d.flows y.taken) (sym call.stays.desk) given))
    gone.halts.still.0 (ap (λ (d : Desk). d.stopped) gone.stopped) (ap tally_state_of gone.work.0) gone.work.1 (gone.work.2 ∙ c.room_for.ensures.beside.1)
    (λ ended. (let e : true ≡ false = sym ended ∙ ap (λ (d : Desk). d.ended) gone.stopped ∙ ap (λ (d : Desk). d.ended) call.stays.desk ∙ item.more in absurd (cc)))
    read.later (read.cause part) read.appended in
    subst (λ n. ForwardStands first losses (outbox_of c.fail.new.work) c.fail.new.stream.desk (g.C.Carrier.tags c.fail.new.carrier)
    (g.C.Carrier.got c.fail.new.carrier) n (g.F.AppFace.seen c.fail.new.stream.face)) (sym gone.carrier.counts)
    (subst (λ (ts : Tags). ForwardStands first losses (outbox_of c.fail.new.work) c.fail.new.stream.desk ts (g.C.Carrier.got c.fail.new.carrier)
    (g.C.Carrier.counts c.send-done.new.carrier) (g.F.AppFace.seen c.fail.new.stream.face)) (sym none) stands)

pub returns-else-done-len-clause-gives : goal.returns-else-done-len-clause-gives
returns-else-done-len-clause-gives g c =
    let roomy : Roomy (item_counted (tally_state_of c.args.work.now.tally) c.args.lent.copied) (tally_state_of c.room_for.new.work.tally) =
    is-roomy c.args.work.now.tally c.count_item.new.self c.room_for.new.work.tally c.args.lent.copied c.count_item.ensures.tally c.room_for.ensures.same
    c.room_for.ensures.room in
    let adds : AddsTo c.args.lent.flow 0 c.args.work.now.tally.counts.entries c.room_for.new.work.tally.counts.entries =
    subst (λ es. AddsTo c.args.lent.flow 0 es c.room_for.new.work.tally.counts.entries) (ap (λ (t : TallyState). t.counts) c.count_item.ensures.tally)
    c.room_for.ensures.none in
    let call = c.send-done.ensures in
    let read = call.carries in
    let full : c.send-done.result ≡ c.args.lent.loan.len = search rules in
    let y : AppView = g.F.AppFace.seen c.send-done.new.stream.face in
    let tag : ℕ = c.free_tag.result in
    let sent : Sent = record { tag = tag; flow = c.args.lent.flow; loan = c.args.lent.loan } in
    let out : c.push_reserved.new.self.items ≡ c.args.work.now.out.items ++ sent ∷ [] =
    c.push_reserved.ensures.items ∙ ap (λ ss. ss ++ sent ∷ []) c.room_for.ensures.beside.0 in
    let free : lookup (nat_eq tag) (g.C.Carrier.tags c.args.carrier.now) ≡ None = search rules in
    let k : Kept = record {
      tally = c.count.new.self;
      out = c.push_reserved.new.self;
      uncarried = c.room_for.new.work.uncarried;
      pressed = c.room_for.new.work.pressed;
    } in
    λ first losses st v before item only.
    let stands : ForwardStands first losses (outbox_of k) c.args.stream.now.desk (g.C.Carrier.tags c.args.carrier.now ++ (tag, c.args.lent.flow) ∷ [])
    (g.C.Carrier.got c.send-done.new.carrier) (g.C.Carrier.counts c.send-done.new.carrier) y =
    carries first (g.C.Carrier.got c.args.carrier.now) losses (g.C.Carrier.counts c.args.carrier.now) (outbox_of c.args.work.now) st c.args.stream.now.desk
    (g.C.Carrier.tags c.args.carrier.now) v (g.F.AppFace.seen c.args.stream.now.face) before c.requires.can.due c.args.lent item only c.requires.can.holds.stands
    (tally_state_of c.room_for.new.work.tally) roomy adds (g.C.Carrier.got c.send-done.new.carrier) y (tally_state_of c.count.new.self) c.send-done.result
    read.only
    read.counted read.gained read.others (ap tally_state_of c.count.ensures.same) c.count.ensures.adds c.count.ensures.many
    (g.C.Carrier.counts c.send-done.new.carrier) tag (outbox_of k) refl out c.room_for.ensures.beside.1 free c.requires.can.few full
    (subst (λ (d : Desk). StreamStands d y) call.stays.desk call.stays.stands) (read.still full) read.appended in
    subst (λ (ts : Tags). ForwardStands first losses (outbox_of k) c.send-done.new.stream.desk ts (g.C.Carrier.got c.send-done.new.carrier)
    (g.C.Carrier.counts c.send-done.new.carrier) y) (sym (call.tags full))
    (subst (λ (d : Desk). ForwardStands first losses (outbox_of k) d (g.C.Carrier.tags c.args.carrier.now ++ (tag, c.args.lent.flow) ∷ [])
    (g.C.Carrier.got c.send-done.new.carrier) (g.C.Carrier.counts c.send-done.new.carrier) y) (sym call.stays.desk) stands)
