use Rattle.std.{specs.Prelude.{None, Option}, proofs.Common.{rules, ◌≡◌, ◌<◌, Some, refl, sym, ap, subst}}
use Rattle.zr_kinds.specs.declared.place.Place.{Place}
use Rattle.zc_poll.specs.{Standing.{Desk, StreamStands}, Items.{HasGiven}, Pouring.{PourStands}}
use Rattle.flow_queues.specs.{Counting.{TallyState, AddsTo, item_counted}, TallyOf.{tally_state_of}}
use Rattle.zc_poll.proofs.{ItemPoured.{Roomy, is-roomy}, Pours.{wants, fails, wrote}, PourTurns.{only-reads-none}}
use Rattle.zc_poll.proofs.pouring.pour.Goals as goal

pub returns-then-is_err-clause-pours : goal.returns-then-is_err-clause-pours
returns-then-is_err-clause-pours g c =
    let roomy : Roomy (item_counted (tally_state_of c.args.work.now) c.args.lent.copied) (tally_state_of c.make_room.new.self) =
    is-roomy c.args.work.now c.count_item.new.self c.make_room.new.self c.args.lent.copied c.count_item.ensures.tally c.make_room.ensures.same
    c.make_room.ensures.room in
    let adds : AddsTo c.args.lent.flow 0 c.args.work.now.counts.entries c.make_room.new.self.counts.entries =
    subst (λ es. AddsTo c.args.lent.flow 0 es c.make_room.new.self.counts.entries) (ap (λ (t : TallyState). t.counts) c.count_item.ensures.tally)
    c.make_room.ensures.none in
    let none : c.give_up.new.work.due ≡ None = search rules in
    λ first losses st v before item only.
    subst (λ (d : Option Place). PourStands first losses (record (tally_state_of c.give_up.new.work) { due = d }) c.give_up.new.stream.desk
    (g.T.Shelf.kept c.args.shelf.now) (g.T.Shelf.counts c.args.shelf.now) (g.F.AppFace.seen c.give_up.new.stream.face)) none
    (wants first (g.T.Shelf.kept c.args.shelf.now) losses (g.T.Shelf.counts c.args.shelf.now) (tally_state_of c.args.work.now) st c.args.stream.now.desk v
    (g.F.AppFace.seen c.args.stream.now.face) before c.requires.none c.args.lent item only c.requires.holds.stands (tally_state_of c.make_room.new.self)
    roomy adds
    (g.F.AppFace.seen c.give_up.new.stream.face) c.give_up.new.stream.desk (tally_state_of c.give_up.new.work) c.give_up.ensures.view c.give_up.ensures.items
    c.give_up.ensures.stands (ap (λ (d : Desk). d.stopped) c.give_up.ensures.stopped) (ap tally_state_of c.give_up.ensures.work))

pub returns-then-done-place-clause-pours : goal.returns-then-done-place-clause-pours
returns-then-done-place-clause-pours g c =
    let roomy : Roomy (item_counted (tally_state_of c.args.work.now) c.args.lent.copied) (tally_state_of c.make_room.new.self) =
    is-roomy c.args.work.now c.count_item.new.self c.make_room.new.self c.args.lent.copied c.count_item.ensures.tally c.make_room.ensures.same
    c.make_room.ensures.room in
    let adds : AddsTo c.args.lent.flow 0 c.args.work.now.counts.entries c.make_room.new.self.counts.entries =
    subst (λ es. AddsTo c.args.lent.flow 0 es c.make_room.new.self.counts.entries) (ap (λ (t : TallyState). t.counts) c.count_item.ensures.tally)
    c.make_room.ensures.none in
    let read = c.append_loan-done.ensures in
    let gone = c.give_up-then-done-place.ensures in
    let part : c.append_loan-done.result < c.args.lent.loan.len = search rules in
    let none : c.give_up-then-done-place.new.work.due ≡ None = search rules in
    λ first losses st v before item only.
    subst (λ (d : Option Place). PourStands first losses (record (tally_state_of c.give_up-then-done-place.new.work) { due = d })
    c.give_up-then-done-place.new.stream.desk (g.T.Shelf.kept c.append_loan-done.new.shelf) (g.T.Shelf.counts c.append_loan-done.new.shelf)
    (g.F.AppFace.seen c.give_up-then-done-place.new.stream.face)) none
    (fails first (g.T.Shelf.kept c.args.shelf.now) losses (g.T.Shelf.counts c.args.shelf.now) (tally_state_of c.args.work.now) st c.args.stream.now.desk v
    (g.F.AppFace.seen c.args.stream.now.face) before c.requires.none c.args.lent item only c.requires.holds.stands (tally_state_of c.make_room.new.self)
    roomy adds
    (g.T.Shelf.kept c.append_loan-done.new.shelf) (g.T.Shelf.counts c.append_loan-done.new.shelf) (g.F.AppFace.seen c.append_loan-done.new.stream.face)
    (tally_state_of c.count.new.self) c.append_loan-done.result read.only read.appends.counted read.gains.gained read.gains.others
    (ap tally_state_of c.count.ensures.same)
    c.count.ensures.adds c.count.ensures.many read.stays.stands.common.apart read.appends.appended (g.F.AppFace.seen c.give_up-then-done-place.new.stream.face)
    c.give_up-then-done-place.new.stream.desk (tally_state_of c.give_up-then-done-place.new.work) gone.view
    (λ items given. gone.items items
    (subst (λ (d : Desk). HasGiven items d.flows (g.F.AppFace.seen c.append_loan-done.new.stream.face).taken) (sym read.stays.desk) given))
    gone.stands (ap (λ (d : Desk). d.stopped) gone.stopped) (ap tally_state_of gone.work) read.appends.later (read.appends.cause part))

pub returns-then-is_err-clause-read : goal.returns-then-is_err-clause-read
returns-then-is_err-clause-read g c = (c.give_up.ensures.stopped, g.F.AppFace.seen c.args.stream.now.face, only-reads-none (g.F.AppFace.seen c.args.stream.now.face), c.give_up.ensures.view)

pub returns-clause-pours : goal.returns-clause-pours
returns-clause-pours g c =
    let roomy : Roomy (item_counted (tally_state_of c.args.work.now) c.args.lent.copied) (tally_state_of c.make_room.new.self) =
    is-roomy c.args.work.now c.count_item.new.self c.make_room.new.self c.args.lent.copied c.count_item.ensures.tally c.make_room.ensures.same
    c.make_room.ensures.room in
    let adds : AddsTo c.args.lent.flow 0 c.args.work.now.counts.entries c.make_room.new.self.counts.entries =
    subst (λ es. AddsTo c.args.lent.flow 0 es c.make_room.new.self.counts.entries) (ap (λ (t : TallyState). t.counts) c.count_item.ensures.tally)
    c.make_room.ensures.none in
    let read = c.append_loan-done.ensures in
    let full : c.append_loan-done.result ≡ c.args.lent.loan.len = search rules in
    let due : TallyState = record (tally_state_of c.count.new.self) { due = Some c.args.lent.loan } in
    λ first losses st v before item only.
    subst (λ (d : Desk). PourStands first losses due d (g.T.Shelf.kept c.append_loan-done.new.shelf)
    (g.T.Shelf.counts c.append_loan-done.new.shelf) (g.F.AppFace.seen c.append_loan-done.new.stream.face)) (sym read.stays.desk)
    (wrote first (g.T.Shelf.kept c.args.shelf.now) losses (g.T.Shelf.counts c.args.shelf.now) (tally_state_of c.args.work.now) st c.args.stream.now.desk v
    (g.F.AppFace.seen c.args.stream.now.face) before c.requires.none c.args.lent item only c.requires.holds.stands (tally_state_of c.make_room.new.self)
    roomy adds
    (g.T.Shelf.kept c.append_loan-done.new.shelf) (g.T.Shelf.counts c.append_loan-done.new.shelf) (g.F.AppFace.seen c.append_loan-done.new.stream.face)
    (tally_state_of c.count.new.self) c.append_loan-done.result read.only read.appends.counted read.gains.gained read.gains.others
    (ap tally_state_of c.count.ensures.same)
    c.count.ensures.adds c.count.ensures.many read.stays.stands.common.apart read.appends.appended due refl full
    (subst (λ (d : Desk). StreamStands d (g.F.AppFace.seen c.append_loan-done.new.stream.face)) read.stays.desk read.stays.stands) (read.appends.still full))
