use Rattle.std.proofs.Common.{rules, ◌≡◌, ◌≢◌, ℕ, ◌<◌, ◌≤◌, true, false, List, [], Option, length, refl, sym, ap, ◌∙◌, arith, ⊎_elim, ◌⊎◌, inl, inr}
use Rattle.std.{specs.Prelude.{if◌then◌else◌}, proofs.lemmas.{Bool.{cases_Bool}, List.{nil_from_length}}}
use Rattle.app_worker.{specs.{State.{State}, StateOf.{state_of}, Whole.{ReadOne}, Stages.{kept_unread}}, proofs.{Pushing.{back-did}, Moving.{looks-trans, rose-after}}}
use Rattle.app_worker.proofs.Through.{write-stopped, write-later, read-did, through-none, through-then, through-read, through-gave, through-in-use}
use Rattle.app_worker.proofs.{Quitting.{has-quit, quit-later}, stages.drain.Goals.{After-give_back}}
use Rattle.zr_io.specs.Moved.{raised_by}
use Rattle.app_worker.proofs.stages.drain.Goals as goal

pub loop-face-init : goal.loop-face-init
loop-face-init g c = (
  through-none (state_of c.args.st.now) (g.F.AppFace.seen c.args.face.now) (g.T.Shelf.kept c.args.shelf.now) c.requires.none.works.working c.requires.none.works.common
      c.requires.none.reaped,
  c.requires.none.due,
  λ yes. absurd (cc),
  λ _. record { state = refl; view = refl; kept_is = refl },
  refl,
  refl,
  c.least_kept-least.ensures,
  λ yes. absurd (cc),
  λ on. (on, λ yes. absurd (cc)),
  λ off. inl off,
  c.requires.none.pushed,
  λ had is. is,
)

pub returns-in-Failed-clause-reads : goal.returns-in-Failed-clause-reads
returns-in-Failed-clause-reads g c =
    let inv = c.loop-face.invariant in
    write-later (omega (arith, inv.4)) inv.0
    (write-stopped inv.0.working.going inv.0.reaped c.in-Failed.ensures.reads c.let_go.ensures.done)

pub returns-in-Quit-clause-reads : goal.returns-in-Quit-clause-reads
returns-in-Quit-clause-reads g c =
    let inv = c.loop-face.invariant in
    quit-later inv.0 (has-quit inv.0.reaped c.in-Quit.ensures.reads c.let_go-in-Quit.ensures.done)

pub read_one-requires-clause-none : goal.read_one-requires-clause-none
read_one-requires-clause-none g c =
    let inv = c.loop-face.invariant in
    record {
      works = record { here = inv.0.left ∙ c.requires.none.works.here; working = inv.0.working; common = inv.0.common };
      due = inv.1;
      pushed = inv.10;
      reaped = inv.0.reaped;
    }

pub let_go-requires : goal.let_go-requires
let_go-requires g c =
    let inv = c.loop-face.invariant in
    let reads = c.in-Failed.ensures.reads in
    record {
      may = record {
        here = reads.left ∙ inv.0.left ∙ c.requires.none.works.here;
        torn = reads.torn;
        common = reads.common;
        reaped = ap (λ (s : State). s.posted.entries) reads.same ∙ inv.0.reaped;
        not_yet = ap (λ (s : State). s.bare) reads.same ∙ inv.0.working.live;
        pushed = ap (λ (s : State). s.stray.left) reads.same ∙ inv.10;
      };
    }

pub let_go-requires-in-Quit : goal.let_go-requires-in-Quit
let_go-requires-in-Quit g c =
    let inv = c.loop-face.invariant in
    let reads = c.in-Quit.ensures.reads in
    record {
      may = record {
        here = reads.left ∙ inv.0.left ∙ c.requires.none.works.here;
        torn = reads.torn;
        common = reads.common;
        reaped = ap (λ (s : State). s.posted.entries) reads.same ∙ inv.0.reaped;
        not_yet = ap (λ (s : State). s.bare) reads.same ∙ inv.0.working.live;
        pushed = ap (λ (s : State). s.stray.left) reads.same ∙ inv.10;
      };
    }

-- a loan was read
read-one : (g : _) (c : After-give_back g)
    → ReadOne (state_of c.loop-face.st) (state_of c.read_one.new.st) (g.F.AppFace.seen c.loop-face.face) (g.F.AppFace.seen c.read_one.new.face)
    (g.T.Shelf.kept c.loop-face.shelf) (g.T.Shelf.kept c.read_one.new.shelf)
read-one g c =
    let some : 0 < length c.loop-face.st.reader.unread.items = omega (arith, c.loop-face-test.true, c.len.ensures.len) in
    read-did _ _ _ _ _ _ _ _ c.read_one.result c.in_default.not-Failed c.in_default.not-Quit some c.read_one.ensures.reads

pub returns-in-Part-clause-reads : goal.returns-in-Part-clause-reads
returns-in-Part-clause-reads g c =
    let m : ℕ → Option (List ℕ) = g.T.Shelf.kept c.read_one.new.shelf in
    let inv = c.loop-face.invariant in
    let read = read-one g (goal.at.returns-in-Part-clause-reads g c).After-give_back in
    let first = through-read inv.0.reaped read in
    let gives = c.in-Part.ensures.gives in
    let second = through-gave first.reaped c.give_back.ensures.works.working c.give_back.ensures.works.common (c.give_back.ensures.works.goes m) gives.0 in (
      through-then inv.0 (through-then first second),
      omega (arith, inv.0.goes.moves.steps, read.steps, (c.give_back.ensures.works.goes m).moves.steps),
      omega (arith, inv.6, c.loop-face-test.true, c.len.ensures.len, read.unread, ap (λ (s : State). length s.unread) gives.0.same),
      rose-after (looks-trans inv.0.goes.moves.looks read.goes.moves.looks) gives.1,
    )

pub returns-in-InUse-clause-reads : goal.returns-in-InUse-clause-reads
returns-in-InUse-clause-reads g c =
    let m : ℕ → Option (List ℕ) = g.T.Shelf.kept c.read_one.new.shelf in
    let inv = c.loop-face.invariant in
    let read = read-one g (goal.at.returns-in-InUse-clause-reads g c).After-give_back in
    let first = through-read inv.0.reaped read in
    let gives = c.in-InUse.ensures.gives in
    let second = through-in-use first.reaped c.give_back.ensures.works.working c.give_back.ensures.works.common (c.give_back.ensures.works.goes m) gives.0 gives.1 in (
      through-then inv.0 (through-then first second),
      omega (arith, inv.0.goes.moves.steps, read.steps, (c.give_back.ensures.works.goes m).moves.steps),
      omega (arith, inv.6, c.loop-face-test.true, c.len.ensures.len, read.unread, ap (λ (s : State). length s.unread) gives.0),
      rose-after (looks-trans inv.0.goes.moves.looks read.goes.moves.looks) gives.1.rose,
    )

-- where not all is to be read, that was so, or nothing is unread
off-too : (a b d e : State) → d.flush ≡ false → e.unread ≡ d.unread → (b.flush ≡ false → (a.flush ≡ false) ⊎ (b.unread ≡ []))
    → (d.flush ≡ false → (b.flush ≡ false) ⊎ (d.unread ≡ [])) → b.unread ≢ [] → (a.flush ≡ false) ⊎ (e.unread ≡ [])
off-too a b d e off same before read some = ⊎_elim
    (λ (b_off : b.flush ≡ false). ⊎_elim
    (λ (a_off : a.flush ≡ false). inl a_off)
    (λ (none : b.unread ≡ []). absurd (some none))
    (before b_off))
    (λ (none : d.unread ≡ []). inr (same ∙ none))
    (read off)

more-than-kept : (a b : State) (keep least : ℕ) → (a.ended ≡ false → a.how.hold ≤ keep) → b.how ≡ a.how → b.ended ≡ a.ended
    → least ≡ kept_unread keep a
    → (b.flush ≡ false → (a.flush ≡ false) ⊎ (b.unread ≡ [])) → least < length b.unread
    → b.ended ≡ false → b.flush ≡ false → b.how.hold < length b.unread
more-than-kept a b keep least hold how ended is before more notes off = ⊎_elim
    (λ (a_off : a.flush ≡ false).
    let all : least ≡ keep = is ∙ ap (λ x. if x then 0 else keep) a_off in
    omega (arith, all, hold (sym ended ∙ notes), ap (λ h. h.hold) how, more))
    (λ (none : b.unread ≡ []). absurd (omega (arith, more, ap length none)))
    (before off)

pub read_one-requires-clause-more : goal.read_one-requires-clause-more
read_one-requires-clause-more g c =
    let a : State = state_of c.args.st.now in
    let b : State = state_of c.loop-face.st in
    let inv = c.loop-face.invariant in
    let more : c.least_kept-least.result < length b.unread = omega (arith, c.loop-face-test.true, c.len.ensures.len) in
    more-than-kept a b c.args.keep c.least_kept-least.result c.requires.keep inv.0.goes.moves.how.1 inv.0.ended inv.6 inv.9 more

pub loop-face-preserved : goal.loop-face-preserved
loop-face-preserved g c =
    let a : State = state_of c.args.st.now in
    let b : State = state_of c.loop-face.st in
    let d : State = state_of c.read_one.new.st in
    let e : State = state_of c.give_back.new.st in
    let m : ℕ → Option (List ℕ) = g.T.Shelf.kept c.read_one.new.shelf in
    let inv = c.loop-face.invariant in
    let read = read-one g (goal.at.loop-face-preserved g c).After-give_back in
    let first = through-read inv.0.reaped read in
    let gave = back-did d e (g.F.AppFace.seen c.read_one.new.face) (g.F.AppFace.seen c.give_back.new.face) c.give_back.result
    c.in_default-give_back.not-Part c.in_default-give_back.not-InUse read.due c.give_back.ensures.gives in
    let second = through-gave first.reaped c.give_back.ensures.works.working c.give_back.ensures.works.common (c.give_back.ensures.works.goes m) gave.0 in (
      through-then inv.0 (through-then first second),
      gave.1,
      λ _. omega (arith, inv.0.goes.moves.steps, read.steps, (c.give_back.ensures.works.goes m).moves.steps),
      λ no. absurd (cc),
      c.read_one.ensures.went.still c.in_default.not-Failed ∙ inv.4,
      c.give_back.ensures.beside ∙ c.read_one.ensures.beside ∙ inv.5,
      inv.6,
      λ _. omega (arith, c.loop-face-test.true, c.len.ensures.len, read.unread, ap (λ (s : State). length s.unread) gave.0.same),
      λ on. (
          let flushes : d.flush ≡ true = sym (ap (λ (s : State). s.flush) gave.0.same) ∙ on in
          let both = read.flush flushes in
          ((inv.8 both.0).0, λ _ none. both.1 (sym (ap (λ (s : State). s.unread) gave.0.same) ∙ none))),
      λ off. off-too a b d e (sym (ap (λ (s : State). s.flush) gave.0.same) ∙ off) (ap (λ (s : State). s.unread) gave.0.same) inv.9 read.flushed
          (λ none. absurd (omega (arith, c.loop-face-test.true, c.len.ensures.len, ap length none))),
      gave.2,
      λ had is. c.read_one.ensures.went.appended had (inv.11 had is) ∙ ap (raised_by had) (sym (ap (λ (s : State). s.written) gave.0.same)),
    )

-- all that was to be read was
done-flush : (least keep : ℕ) (was now : State) → least ≡ kept_unread keep was → length now.unread ≤ least
    → (now.flush ≡ true → (was.flush ≡ true) × (now.unread ≢ [])) → now.flush ≡ false
done-flush least keep was now is few flushes = ⊎_elim
    (λ (on : now.flush ≡ true).
    let both = flushes on in
    let none : least ≡ 0 = is ∙ ap (λ b. if b then 0 else keep) both.0 in
    absurd (both.1 (nil_from_length now.unread (omega (arith, few, none)))))
    (λ (off : now.flush ≡ false). off)
    (cases_Bool now.flush)

pub returns-then-did-clause-reads : goal.returns-then-did-clause-reads
returns-then-did-clause-reads g c =
    let a : State = state_of c.args.st.now in
    let b : State = state_of c.loop-face.st in
    let inv = c.loop-face.invariant in
    let did : c.loop-face.did ≡ true = search rules in
    let few : length b.unread ≤ c.least_kept-least.result = omega (arith, c.loop-face-test.false, c.len.ensures.len) in (
      inv.0,
      inv.2 did,
      inv.1,
      omega (arith, few, inv.7 did, inv.6),
      done-flush c.least_kept-least.result c.args.keep a b inv.6 few (λ on. ((inv.8 on).0, (inv.8 on).1 did)),
      inv.10,
    )

pub loop-face-smaller : goal.loop-face-smaller
loop-face-smaller g c =
    let read = read-one g (goal.at.loop-face-smaller g c).After-give_back in
    let gave = back-did (state_of c.read_one.new.st) (state_of c.give_back.new.st) (g.F.AppFace.seen c.read_one.new.face)
    (g.F.AppFace.seen c.give_back.new.face) c.give_back.result c.in_default-give_back.not-Part c.in_default-give_back.not-InUse read.due
    c.give_back.ensures.gives in
    omega (arith, read.unread, ap (λ (s : State). length s.unread) gave.0.same)

-- what is counted as appended is what was written
pub returns-in-Failed-clause-went : goal.returns-in-Failed-clause-went
returns-in-Failed-clause-went g c =
    let inv = c.loop-face.invariant in
    let went = c.read_one.ensures.went in
    record {
      later = omega (arith, inv.4, went.later);
      still = search rules;
      appended = λ had is. went.appended had (inv.11 had is) ∙ ap (raised_by had) (sym (ap (λ (s : State). s.written) c.let_go.ensures.done.same));
    }

pub returns-in-Quit-clause-went : goal.returns-in-Quit-clause-went
returns-in-Quit-clause-went g c =
    let inv = c.loop-face.invariant in
    let went = c.read_one.ensures.went in
    record {
      later = omega (arith, inv.4, went.later);
      still = search rules;
      appended = λ had is. went.appended had (inv.11 had is) ∙ ap (raised_by had) (sym (ap (λ (s : State). s.written) c.let_go-in-Quit.ensures.done.same));
    }

pub returns-in-Part-clause-went : goal.returns-in-Part-clause-went
returns-in-Part-clause-went g c =
    let inv = c.loop-face.invariant in
    let went = c.read_one.ensures.went in
    record {
      later = omega (arith, inv.4, went.later);
      still = λ _. went.still c.in_default.not-Failed ∙ inv.4;
      appended = λ had is. went.appended had (inv.11 had is) ∙ ap (raised_by had) (sym (ap (λ (s : State). s.written) c.in-Part.ensures.gives.0.same));
    }

pub returns-in-InUse-clause-went : goal.returns-in-InUse-clause-went
returns-in-InUse-clause-went g c =
    let inv = c.loop-face.invariant in
    let went = c.read_one.ensures.went in
    record {
      later = omega (arith, inv.4, went.later);
      still = λ _. went.still c.in_default.not-Failed ∙ inv.4;
      appended = λ had is. went.appended had (inv.11 had is) ∙ ap (raised_by had) (sym (ap (λ (s : State). s.written) c.in-InUse.ensures.gives.0));
    }
