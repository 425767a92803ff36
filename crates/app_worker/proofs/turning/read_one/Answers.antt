use Rattle.std.proofs.Common.{Bool, true, false, [], ◌⊎◌, rules, ◌≡◌, ◌≢◌, ◌<◌, ◌+◌, ◌-◌, ◌^◌, min, ℕ, List, drop, length, sym, ap, subst, ◌∙◌}
use Rattle.std.proofs.Common.{arith, ◌++◌, ◌∷◌, ◌≤◌, Some}
use Rattle.zr_kinds.specs.declared.ring.Completion.{Completion}
use Rattle.zr_io.specs.Moved.{Gained}
use Rattle.circular_buffer.specs.Buffer.{Buffer}
use Rattle.flow_queues.specs.{declared.queues.{Lending.{Lending}, FlowQueue.{FlowQueue}}, Core.{Stands, IsReadOf, lent_piece}, Totals.{Quits, wanted_of}}
use Rattle.flow_queues.proofs.Indexing.{found-at}
use Rattle.app_worker.{specs.{ReadWhole.{IsReadUpTo}, State.{State, read_of}, StateOf.{state_of}}, proofs.LoansStand.{oldest-out}}
use Rattle.app_worker.proofs.{Oldest.{front-of, oldest-read, oldest-quit, oldest-failed}, Quitting.{wanted-part, quits-short, quits-not, quits-now}}
use Rattle.app_worker.proofs.turning.read_one.Goals.{After-read_loan-result}
use Rattle.zr_kinds.specs.declared.behaviour.Stopped.TheVariants as stop
use Rattle.app_worker.proofs.turning.read_one.Goals as goal

pub read_loan-result-requires-clause-may : goal.read_loan-result-requires-clause-may
read_loan-result-requires-clause-may g c =
    let st : State = state_of c.args.st.now in
    let p : Completion × Lending = (c.in-Some.completion, c.in-Some.lending) in
    let rest : List (Completion × Lending) = drop 1 st.unread ++ st.posted.entries in
    let unread : st.unread ≡ p ∷ drop 1 st.unread = front-of st.unread p (search rules) in
    let stands : Stands st.notes st.flows (p ∷ rest) (read_of st) (g.F.AppFace.seen c.args.face.now) =
    subst (λ es. Stands st.notes st.flows (es ++ st.posted.entries) (read_of st) (g.F.AppFace.seen c.args.face.now)) unread
    c.requires.none.works.working.stands in
    record {
      here = c.requires.none.works.here;
      apart = stands.tokens.apart;
      out = oldest-out st.notes st.flows p rest (read_of st) (g.F.AppFace.seen c.args.face.now) stands;
      note = stands.lent.0;
    }

-- the flow of the oldest loan is found, and the others stay unread
record IsFound (st : State) (p : Completion × Lending) (own : FlowQueue) (i : ℕ) (rest : Buffer (Completion × Lending)) (flush : Bool) (most : ℕ)
    : Type 0 where
  unread : st.unread ≡ p ∷ drop 1 st.unread
  within : i < length st.flows
  number : p.0.user_data ≡ own.number
  items : rest.items ≡ drop 1 st.unread
  capacity : rest.capacity ≡ st.room
  flush_on : flush ≡ true → (st.flush ≡ true) × (drop 1 st.unread ≢ [])
  flush_off : flush ≡ false → (st.flush ≡ false) ⊎ (drop 1 st.unread ≡ [])
  is : most ≡ wanted_of st.how.quit st.written p.1.loan.len
  part : most ≤ p.1.loan.len
  going : Quits st.how.quit st.written stop.No

found-oldest : (g : _) (c : After-read_loan-result g) → IsFound (state_of c.args.st.now) (c.in-Some.completion, c.in-Some.lending)
    c.index_mut-own.result.now c.in-Some-find.i c.pop_front.new.self c.still_flushes-st.result c.wanted-most.result
found-oldest g c =
    let st : State = state_of c.args.st.now in
    let at_place = found-at st.index st.flows c.in-Some.completion.user_data c.in-Some-find.i (search rules) c.requires.none.works.working.index in
    let items : c.pop_front.new.self.items ≡ drop 1 st.unread = ap (λ (b : Buffer (Completion × Lending)). b.items) c.pop_front.ensures.items in
    let is : c.wanted-most.result ≡ wanted_of st.how.quit st.written c.in-Some.lending.loan.len = search rules in
    record {
      unread = front-of st.unread (c.in-Some.completion, c.in-Some.lending) (search rules);
      within = at_place.0;
      number = sym (ap (λ (f : FlowQueue). f.number) c.index_mut-own.ensures.value ∙ at_place.1 c.index_mut-own.result.now);
      items = items;
      capacity = ap (λ (b : Buffer (Completion × Lending)). b.capacity) c.pop_front.ensures.items;
      flush_on = subst (λ es. c.still_flushes-st.result ≡ true → (st.flush ≡ true) × (es ≢ [])) items c.still_flushes-st.ensures.on;
      flush_off = subst (λ es. c.still_flushes-st.result ≡ false → (st.flush ≡ false) ⊎ (es ≡ [])) items c.still_flushes-st.ensures.off;
      is = is;
      part = wanted-part st.how.quit st.written c.in-Some.lending.loan.len c.wanted-most.result is;
      going = subst (Quits st.how.quit st.written) c.requires.none.works.working.going c.requires.none.works.common.quits;
    }

pub returns-in-Err-clause-reads : goal.returns-in-Err-clause-reads
returns-in-Err-clause-reads g c =
    let st : State = state_of c.args.st.now in
    let p : Completion × Lending = (c.in-Some.completion, c.in-Some.lending) in
    let own : FlowQueue = c.index_mut-own.result.now in
    let most : ℕ = c.wanted-most.result in
    let found = found-oldest g (goal.at.returns-in-Err-clause-reads g c).After-read_loan-result in
    let count : c.saturating_add-st.result ≡ min (st.written + (c.read_loan-result.new.bytes - own.bytes)) (2 ^ 64 - 1) = omega arith in
    let counted = c.read_loan-result.ensures.counted.within in
    let short : c.read_loan-result.new.bytes < own.bytes + most = search rules in
    let quits : Quits st.how.quit c.saturating_add-st.result stop.No = quits-short st.how.quit st.written (c.read_loan-result.new.bytes - own.bytes)
    most c.saturating_add-st.result c.in-Some.lending.loan.len found.is (omega (arith, short, counted.0)) count found.going in
    rw (found.items, found.capacity) (oldest-failed st c.in-Some-find.i own p (drop 1 st.unread) (g.F.AppFace.seen c.args.face.now)
    (g.F.AppFace.seen c.read_loan-result.new.face) found.unread c.requires.none.due c.requires.none.pushed found.within
    c.index_mut-own.ensures.value found.number c.read_loan-result.ensures.reads.only c.requires.none.works.working c.requires.none.works.common c.requires.none.reaped
    c.still_flushes-st.result found.flush_on found.flush_off c.requires.more
    c.read_loan-result.new.bytes c.saturating_add-st.result most (g.T.Shelf.counts c.args.shelf.now).faults (g.T.Shelf.counts c.read_loan-result.new.shelf).faults
    (g.T.Shelf.kept c.args.shelf.now) (g.T.Shelf.kept c.read_loan-result.new.shelf) counted.0 found.part counted.1 count
    (subst (Quits st.how.quit c.saturating_add-st.result) (sym c.requires.none.works.working.going) quits)
    (search rules) c.read_loan-result.ensures.kept.gained c.read_loan-result.ensures.kept.others)

pub returns-then-eq-clause-reads : goal.returns-then-eq-clause-reads
returns-then-eq-clause-reads g c =
    let st : State = state_of c.args.st.now in
    let p : Completion × Lending = (c.in-Some.completion, c.in-Some.lending) in
    let own : FlowQueue = c.index_mut-own.result.now in
    let most : ℕ = c.wanted-most.result in
    let found = found-oldest g (goal.at.returns-then-eq-clause-reads g c).After-read_loan-result in
    let bytes : c.read_loan-result.new.bytes ≡ own.bytes + most = search rules in
    let count : c.saturating_add-st.result ≡ min (st.written + most) (2 ^ 64 - 1) = omega (arith, bytes) in
    let all : st.how.quit ≡ Some c.saturating_add-st.result = search rules in
    let exact : Gained (g.T.Shelf.kept c.args.shelf.now own.number) (g.T.Shelf.kept c.read_loan-result.new.shelf own.number)
    (λ (read : List ℕ). IsReadOf (g.F.AppFace.seen c.args.face.now).taken (g.F.AppFace.seen c.read_loan-result.new.face).reads c.in-Some.lending most most
    read) = search rules in
    rw (found.items, found.capacity) (oldest-quit st c.in-Some-find.i own p (drop 1 st.unread) (g.F.AppFace.seen c.args.face.now)
    (g.F.AppFace.seen c.read_loan-result.new.face) found.unread c.requires.none.due c.requires.none.pushed found.within
    c.index_mut-own.ensures.value found.number c.read_loan-result.ensures.reads.only c.requires.none.works.working c.requires.none.works.common c.requires.none.reaped
    c.still_flushes-st.result found.flush_on found.flush_off c.requires.more
    c.read_loan-result.new.bytes c.saturating_add-st.result most (g.T.Shelf.kept c.args.shelf.now)
    (g.T.Shelf.kept c.read_loan-result.new.shelf) found.part bytes count (quits-now st.how.quit st.written c.saturating_add-st.result all) exact
    c.read_loan-result.ensures.kept.others)

pub returns-clause-reads : goal.returns-clause-reads
returns-clause-reads g c =
    let st : State = state_of c.args.st.now in
    let p : Completion × Lending = (c.in-Some.completion, c.in-Some.lending) in
    let own : FlowQueue = c.index_mut-own.result.now in
    let most : ℕ = c.wanted-most.result in
    let found = found-oldest g (goal.at.returns-clause-reads g c).After-read_loan-result in
    let bytes : c.read_loan-result.new.bytes ≡ own.bytes + most = search rules in
    let count : c.saturating_add-st.result ≡ min (st.written + most) (2 ^ 64 - 1) = omega (arith, bytes) in
    let other : st.how.quit ≢ Some c.saturating_add-st.result = search rules in
    let not = quits-not st.how.quit st.written most c.saturating_add-st.result c.in-Some.lending.loan.len (search rules) found.is count other found.going in
    let whole : most ≡ c.in-Some.lending.loan.len = not.1 in
    let through : IsReadUpTo (g.F.AppFace.seen c.read_loan-result.new.face).reads
    (lent_piece (g.F.AppFace.seen c.args.face.now).taken c.in-Some.lending) most = search rules in
    let exact : Gained (g.T.Shelf.kept c.args.shelf.now own.number) (g.T.Shelf.kept c.read_loan-result.new.shelf own.number)
    (λ (read : List ℕ). IsReadOf (g.F.AppFace.seen c.args.face.now).taken (g.F.AppFace.seen c.read_loan-result.new.face).reads c.in-Some.lending most most
    read) = search rules in
    rw (found.items, found.capacity) (oldest-read st c.in-Some-find.i own p (drop 1 st.unread) (g.F.AppFace.seen c.args.face.now)
    (g.F.AppFace.seen c.read_loan-result.new.face) found.unread c.requires.none.due c.requires.none.pushed found.within
    c.index_mut-own.ensures.value found.number c.read_loan-result.ensures.reads.only c.requires.none.works.working c.requires.none.works.common c.requires.none.reaped
    c.still_flushes-st.result found.flush_on found.flush_off c.requires.more
    c.read_loan-result.new.bytes c.saturating_add-st.result (g.T.Shelf.kept c.args.shelf.now)
    (g.T.Shelf.kept c.read_loan-result.new.shelf)
    (subst (IsReadUpTo (g.F.AppFace.seen c.read_loan-result.new.face).reads
    (lent_piece (g.F.AppFace.seen c.args.face.now).taken c.in-Some.lending)) whole through)
    (bytes ∙ ap (λ n. own.bytes + n) whole)
    (count ∙ ap (λ n. min (st.written + n) (2 ^ 64 - 1)) whole)
    (subst (Quits st.how.quit c.saturating_add-st.result) (sym c.requires.none.works.working.going) not.0)
    (subst (λ (n : ℕ). Gained (g.T.Shelf.kept c.args.shelf.now own.number) (g.T.Shelf.kept c.read_loan-result.new.shelf own.number)
    (λ (read : List ℕ). IsReadOf (g.F.AppFace.seen c.args.face.now).taken (g.F.AppFace.seen c.read_loan-result.new.face).reads c.in-Some.lending n n read))
    whole exact)
    c.read_loan-result.ensures.kept.others)
