use Rattle.std.proofs.Common.{ℕ, true, List, Option, sym, ap, subst, ◌∙◌, refl}
use Rattle.board_face.specs.declared.views.app.AppView.{AppView}
use Rattle.flow_queues.specs.{Kept.{QueueState}, KeptOf.{queue_state}}
use Rattle.app_worker.specs.{State.{State, Working, Common}, StateOf.{state_of}, Turns.{MayPoll, Turns}}
use Rattle.app_worker.proofs.{InQueues.{with_queues, queues-work}, NoteTaken.{TookOne, TookNone, noted-none, noted-one}, TurnLemmas.{turns-saw}}
use Rattle.app_worker.proofs.Looking.{took-failed, took-did, ended-working, ended-common, turns-ended, turns-memory}
use Rattle.app_worker.{specs.declared.turn.Why.TheVariants.{NoNote}, proofs.{LentAll.{none-in-reserve, leaves-none}, working.look.Goals.{After-take_note, In-Did, In-Memory}}}
use Rattle.app_worker.proofs.working.look.Goals as goal

pub take_note-requires-clause-work : goal.take_note-requires-clause-work
take_note-requires-clause-work g c = queues-work c.requires.may.none.works

-- what the queues took is kept with all the rest
took : (g : _) (c : In-Did g) → TookOne (state_of c.args.st.now) (with_queues (state_of c.args.st.now) (queue_state c.take_note.new.st))
    (g.F.AppFace.seen c.args.face.now) (g.F.AppFace.seen c.take_note.new.face)
took g c = noted-one _ _ _ _ c.requires.may.none.works c.requires.rest c.requires.may.more c.in-Did.ensures.takes

none : (g : _) (c : In-Memory g) → TookNone (state_of c.args.st.now) (with_queues (state_of c.args.st.now) (queue_state c.take_note.new.st))
    (g.F.AppFace.seen c.args.face.now) (g.F.AppFace.seen c.take_note.new.face)
none g c = noted-none _ _ _ _ c.requires.may.none.works c.in-Memory.ensures.takes

pub lend_all-requires : goal.lend_all-requires
lend_all-requires g c =
    let may = c.requires.may in
    let one = took g (goal.at.lend_all-requires g c).In-Did in
    record {
      may = record {
        none = record {
          works = record { here = one.left ∙ may.none.works.here; working = one.working; common = one.common };
          due = may.none.due;
          pushed = may.none.pushed;
          reaped = may.none.reaped;
        };
        more = may.more;
        few = may.few;
        flush = may.flush;
      };
    }

pub let_go-requires : goal.let_go-requires
let_go-requires g c =
    let may = c.requires.may.none in
    let lost = none g (goal.at.let_go-requires g c).In-Memory in
    record {
      may = record {
        here = lost.left ∙ may.works.here;
        torn = lost.torn;
        common = lost.common;
        reaped = may.reaped;
        not_yet = may.works.working.live;
        pushed = may.pushed;
      };
    }

pub close-requires-clause-none : goal.close-requires-clause-none
close-requires-clause-none g c =
    let a : State = state_of c.args.st.now in
    let v : AppView = g.F.AppFace.seen c.take_note.new.face in
    let takes = c.in-Ended.ensures.takes in
    let none = c.requires.may.none in
    record {
      works = record {
        here = ap (λ (k : AppView). k.left) takes.1.event ∙ none.works.here;
        working = subst (λ (q : QueueState). Working (record (with_queues a q) { ended = true }) v) (sym takes.0)
            (ended-working a (g.F.AppFace.seen c.args.face.now) v none.works.working c.requires.rest takes.1);
        common = subst (λ (q : QueueState). Common (record (with_queues a q) { ended = true }) v) (sym takes.0)
            (ended-common a (g.F.AppFace.seen c.args.face.now) v none.works.common takes.1);
      };
      due = none.due;
      pushed = none.pushed;
      reaped = none.reaped;
    }

-- a note may be taken as it looks for one
may-poll : (g : _) (c : After-take_note g) → MayPoll (state_of c.args.st.now) (g.F.AppFace.seen c.args.face.now)
may-poll g c = record {
  in_order = c.requires.rest;
  given = c.requires.may.none.due;
  none_left = c.requires.may.none.pushed;
  posted = c.requires.may.none.reaped;
  unread = c.requires.may.few;
  reserve = none-in-reserve _ _ c.requires.may.none.works.working c.requires.may.none.reaped c.requires.may.flush;
}

pub returns-in-Failed-clause-turns : goal.returns-in-Failed-clause-turns
returns-in-Failed-clause-turns g c =
    let at = goal.at.returns-in-Failed-clause-turns g c in
    took-failed _ _ _ _ _ _ _ _ c.requires.may.none.works.working (may-poll g at.After-take_note) c.requires.may.flush c.requires.may.more (took g at.In-Did)
    _ _ c.in-Failed.ensures.lends

pub returns-in-Failed-clause-went : goal.returns-in-Failed-clause-went
returns-in-Failed-clause-went g c = record {
  later = c.lend_all.ensures.went.later;
  still = λ other. absurd (other refl);
  appended = c.lend_all.ensures.went.appended;
}

pub returns-in_default : goal.returns-in_default
returns-in_default g c =
    let at = goal.at.returns-in_default g c in
    record {
      turns = took-did _ _ _ _ _ _ _ _ c.requires.may.none.works.working (may-poll g at.After-take_note) c.requires.may.flush c.requires.may.more
          (took g at.In-Did) _ _ c.lend_all.result c.in_default.not-Failed c.requires.may.none.reaped c.lend_all.ensures.lends;
      told = λ why is. absurd (cc);
      went = record {
        later = c.lend_all.ensures.went.later;
        still = λ other. c.lend_all.ensures.went.still c.in_default.not-Failed;
        appended = c.lend_all.ensures.went.appended;
      };
      beside = c.lend_all.ensures.beside ∙ c.take_note.ensures.beside;
    }

pub returns-in-Ended-clause-turns : goal.returns-in-Ended-clause-turns
returns-in-Ended-clause-turns g c =
    let a : State = state_of c.args.st.now in
    let v : AppView = g.F.AppFace.seen c.take_note.new.face in
    let k : ℕ → Option (List ℕ) = g.T.Shelf.kept c.args.shelf.now in
    let f : ℕ = (g.T.Shelf.counts c.args.shelf.now).faults in
    let e : State = state_of c.close.new.st in
    let w : AppView = g.F.AppFace.seen c.close.new.face in
    let m : ℕ → Option (List ℕ) = g.T.Shelf.kept c.close.new.shelf in
    let f2 : ℕ = (g.T.Shelf.counts c.close.new.shelf).faults in
    let takes = c.in-Ended.ensures.takes in
    let works = c.requires.may.none.works in
    turns-ended a e (g.F.AppFace.seen c.args.face.now) v w k m f f2 c.close.result works.working works.common works.here c.requires.may.more takes.1
    c.close.ensures.busy
    (subst (λ (q : QueueState). Turns (record (with_queues a q) { ended = true }) e v w k m f f2 c.close.result) takes.0 c.close.ensures.turns)

pub returns-in-Memory-clause-turns : goal.returns-in-Memory-clause-turns
returns-in-Memory-clause-turns g c =
    let at = goal.at.returns-in-Memory-clause-turns g c in
    turns-memory _ _ _ _ _ _ _ _ c.requires.may.none.works.working (may-poll g at.After-take_note) (none g at.In-Memory) c.let_go.ensures.done

pub returns-in-NoNote-clause-turns : goal.returns-in-NoNote-clause-turns
returns-in-NoNote-clause-turns g c =
    let takes = c.in-NoNote.ensures.takes in
    turns-saw NoNote (ap (with_queues (state_of c.args.st.now)) takes.0) refl takes.1 c.requires.may.none.works.working c.requires.may.none.works.common
    c.requires.may.none.reaped (c.requires.may.more, λ _. may-poll g (goal.at.returns-in-NoNote-clause-turns g c).After-take_note)
    (leaves-none (state_of c.args.st.now) (g.F.AppFace.seen c.args.face.now) (g.F.AppFace.seen c.take_note.new.face) c.requires.may.none.due
    c.requires.may.none.pushed c.requires.may.flush)
