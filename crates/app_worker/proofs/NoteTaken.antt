-- A note is taken: what the queues say of it, of all that is kept.
use Rattle.std.proofs.Common.{◌≡◌, ◌+◌, ◌<◌, ◌≤◌, true, false, [], ◌∷◌, ◌++◌, length, refl, ap, ◌∙◌, arith, length-append}
use Rattle.zr_kinds.specs.declared.ring.Completion.{Completion}
use Rattle.board_face.specs.declared.views.app.{TakenNote.{TakenNote}, AppView.{AppView}}
use Rattle.flow_queues.specs.{declared.queues.Lending.{Lending}, Core.{total, Each, FlowStands}, Flows.{IsAtRest}, Shelves.{FlowEnds}, Totals.{lent_bytes, lent_len}}
use Rattle.flow_queues.{specs.{Kept.{QueueState, QueuesStand}, Noting.{Noted, NoteEntered}}, proofs.{Standing.{each-map}, Done.{shelves-stay}}}
use Rattle.app_worker.specs.{State.{State, read_of, loan_len, Working, Common, app_steps, queues_of}, Moves.{Moves, reads_of, reserve_loans}, Flushing.{FlushesUnread, loans_so_far}}
use Rattle.app_worker.{specs.{Works.{Works}, Whole.{Torn, KeepsShelves}}, proofs.{Flushing.{flushes-same}, Oldest.{ends-of}, ReadWhole.{read-noted}}}
use Rattle.app_worker.proofs.{InQueues.{with_queues, out_of, queues-stand}, Noting.{common-noted, steps-noted, moves-noted}}

-- what was appended of each flow has its place
pub all-end : (st : State) (v : AppView) → Working st v → Each (FlowEnds v.taken) st.flows
all-end st v works = each-map (FlowStands v.taken (st.unread ++ st.posted.entries)) (FlowEnds v.taken) st.flows
    (λ f _ stands. ends-of v.taken (st.unread ++ st.posted.entries) f f.bytes stands.counted stands) works.stands.flows

-- it can be given up as it is
pub torn-of : (st : State) (v : AppView) → Working st v → Torn st v
torn-of st v works =
    let within_lent : total (λ f. f.bytes) st.flows ≤ lent_bytes v = omega (arith, works.appended, works.stands.tokens.loans lent_len) in
    let whole_given : total lent_len v.returned ≤ total (λ f. f.bytes) st.flows = omega (arith, works.appended) in
    assumption (all-end st v works)

-- ---- a note

-- a note was taken
pub record TookOne (was now : State) (old new : AppView) : Type 0 where
  pub flushes : FlushesUnread was now old new
  pub working : Working now new
  pub common : Common now new
  pub moves : Moves was now old new
  pub shelved : KeepsShelves was now old new
  pub steps : app_steps was old < app_steps now new
  pub note : TakenNote
  pub taken : new.taken ≡ old.taken ++ note ∷ []
  pub left : new.left ≡ old.left
  pub same : now ≡ record was { notes = now.notes; flows = now.flows; index = now.index; active = now.active }

-- a note was taken, and can't be kept
pub record TookNone (was now : State) (old new : AppView) : Type 0 where
  pub torn : Torn now new
  pub common : Common now new
  pub moves : Moves was now old new
  pub shelved : KeepsShelves was now old new
  pub note : TakenNote
  pub taken : new.taken ≡ old.taken ++ note ∷ []
  pub left : new.left ≡ old.left
  pub same : now ≡ record was { notes = now.notes; flows = now.flows; index = now.index; active = now.active }

module _ (was : State) (q : QueueState) (old new : AppView) (works : Works was old) (noted : Noted (queues_of was) q old new) where
  taken-is : new.taken ≡ old.taken ++ noted.note ∷ []
  taken-is = ap (λ (v : AppView). v.taken) noted.view

  common-in : Common (with_queues was q) new
  common-in = common-noted was old new noted.note noted.view q noted.sum noted.bounded works.common

  moves-in : Moves was (with_queues was q) old new
  moves-in = moves-noted was old new noted.note noted.view q (λ n. omega (arith, noted.bytes n))

  shelved-in : KeepsShelves was (with_queues was q) old new
  shelved-in = shelves-stay was.flows q.flows old new noted.note taken-is (ap (λ (v : AppView). v.reads) noted.view) noted.done
      works.working.stands.distinct noted.sound.distinct noted.sound.ends

  -- there was no memory for it
  pub noted-none : TookNone was (with_queues was q) old new
  noted-none =
      let before : Torn was old = torn-of was old works.working in
      let within_lent : total (λ f. f.bytes) q.flows ≤ lent_bytes old = omega (arith, noted.sum, before.within_lent) in
      let whole_given : total lent_len old.returned ≤ total (λ f. f.bytes) q.flows = omega (arith, noted.sum, before.whole_given) in
      let longer : length new.taken ≡ length old.taken + 1 = ap length taken-is ∙ length-append old.taken (noted.note ∷ []) in
      record {
        torn = rw noted.view (assumption (
          rw noted.view at (noted.tokens (out_of was) (queues-stand works)),
          rw noted.view at (noted.sound.ends),
          noted.sound.distinct,
          noted.sound.index,
          rw noted.view at (each-map (λ (p : Completion × Lending). p.1.note < length old.taken) (λ p. p.1.note < length new.taken)
              (was.unread ++ was.posted.entries) (λ p _ below. omega (arith, below, longer)) before.lent),
          rw noted.view at (each-map (λ (l : Lending). l.note < length old.taken) (λ l. l.note < length new.taken) (read_of was)
              (λ l _ below. omega (arith, below, longer)) before.due_lent),
          before,
        ));
        common = common-in;
        moves = moves-in;
        shelved = shelved-in;
        note = noted.note;
        taken = taken-is;
        left = ap (λ (v : AppView). v.left) noted.view;
        same = refl;
      }

-- what its flow wants of it entered
pub noted-one : (was : State) (q : QueueState) (old new : AppView) → Works was old → Each IsAtRest was.flows → was.ended ≡ false
    → NoteEntered (queues_of was) q old new → TookOne was (with_queues was q) old new
noted-one was q old new works rest more entered =
    let noted : Noted (queues_of was) q old new = entered.noted in
    let stand : QueuesStand q (out_of was) new = entered.stands (out_of was) (queues-stand works) in
    let over : was.ended ≡ true → Each IsAtRest q.flows = λ over. absurd (cc) in
    let appended : total lent_len old.returned + total loan_len (read_of was) ≡ total (λ f. f.bytes) q.flows =
    omega (arith, works.working.appended, noted.sum) in
    record {
      working = rw noted.view (assumption (
        works.working,
        rw noted.view at stand.stands,
        stand.rest,
        stand.index,
        rw noted.view at (read-noted old new noted.note (read_of was) (ap (λ (v : AppView). v.reads) noted.view) (taken-is was q old new works noted)
            works.working.stands.due_lent works.working.read_whole),
      ));
      common = common-in was q old new works noted;
      moves = moves-in was q old new works noted;
      shelved = shelved-in was q old new works noted;
      flushes = flushes-same was (with_queues was q) old new (ap (reads_of was) noted.view) (ap loans_so_far noted.view) (ap reserve_loans noted.view) refl;
      steps = omega (arith, steps-noted was old new noted.note noted.view q);
      note = noted.note;
      taken = taken-is was q old new works noted;
      left = ap (λ (v : AppView). v.left) noted.view;
      same = refl;
    }
