-- What is next is lent.
use Rattle.std.proofs.{Common.{◌≡◌, ℕ, ◌+◌, ◌<◌, ◌≤◌, List, [], ◌∷◌, ◌++◌, length, set, get_or, slice_get, Some, refl, sym, ap, subst, ◌∙◌, arith}, lemmas.Option.{slice_get-get_or}}
use Rattle.zr_kinds.specs.declared.ring.Completion.{Completion}
use Rattle.tcp_reorder.specs.Queue.{next_of}
use Rattle.board_face.specs.declared.views.app.{HeldPiece.{HeldPiece}, AppView.{AppView}}
use Rattle.flow_queues.specs.declared.{queues.{FlowQueue.{FlowQueue}, Waiting.{Waiting, TheVariants.{InArea, Copied}}}, lending.Next.{Next}}
use Rattle.flow_queues.specs.declared.queues.Lending.{Lending as Loan}
use Rattle.flow_queues.specs.declared.lending.Next.TheVariants.{Lent, LentCopy, NoneInOrder, Unsettled, ReserveHeld}
use Rattle.flow_queues.specs.Core.{total, Each, FlowStands, Stands, lent_piece, over_kept, over_waiting, held_len, short_len, short_bytes, unsplit_len}
use Rattle.flow_queues.specs.{Flows.{IsAtRest}, Lent.{LentNext, LendsNext, spares_of}, Totals.{taken_len}}
use Rattle.flow_queues.proofs.{Tokens.{total-append, that-loan, is_that_loan, is-lent-there, loan-some}, Lends.{short-first}}
use Rattle.flow_queues.proofs.{Standing.{At, split-at, flow-out, each-right, total-changed, stands-lent}, Resting.{rest-set, rest-too}, Indexing.{index-set}}
use Rattle.flow_queues.specs.{Kept.{QueueState, LoansOut, QueuesStand}, Active.{LentOne, LendsActive, with_unread}}

-- a piece that takes a spare has a byte
spare-few : (piece : Waiting) (len : ℕ) → 0 < len → len ≡ over_waiting held_len piece + short_len piece → spares_of piece ≤ short_len piece
spare-few (InArea p) len some is = omega arith
spare-few (Copied s) len some is = omega (arith, is)

total-one : {A : Type 0} (xs : List A) → total (λ _. 1) xs ≡ length xs
total-one [] = refl
total-one (x ∷ xs) = omega (arith, total-one xs)

module _ (was : QueueState) (own : FlowQueue) (within : was.active < length was.flows) (value : own ≡ get_or was.flows was.active own) where
  at-own : At was.flows was.active own
  at-own = split-at was.flows was.active own within value

  pub set-own : set was.flows was.active own ≡ was.flows
  set-own = at-own.set_is own ∙ sym at-own.is

  module _ (out : LoansOut) (v : AppView) (stand : QueuesStand was out v) where
    own-stands : Stands was.notes (at-own.before ++ own ∷ at-own.after) out.unread out.read v
    own-stands = subst (λ (fs : List FlowQueue). Stands was.notes fs out.unread out.read v) at-own.is stand.stands

    pub flow-stands : FlowStands v.taken out.unread own
    flow-stands = (each-right (FlowStands v.taken out.unread) at-own.before (own ∷ at-own.after) own-stands.flows).0

    pub own-out : (f : HeldPiece → ℕ) → over_kept f own.queue ≤ total f v.helds
    own-out = flow-out was.notes at-own.before at-own.after own out.unread out.read v own-stands

    pub own-spare : v.spares + short_bytes own.queue ≤ total unsplit_len v.taken
    own-spare = omega (
      arith,
      stand.bounded.spares,
      ap (total (λ f. short_bytes f.queue)) at-own.is,
      total-append (λ f. short_bytes f.queue) at-own.before (own ∷ at-own.after),
    )

    pub at-rest : own.queue.popped ≡ next_of own.queue → Each IsAtRest was.flows
    at-rest is = rest-too was.active was.flows own within stand.rest (sym value) is

  lent-stands : (old new : AppView) (now : FlowQueue) (loan : Loan) → LentNext old new own now loan → (out : LoansOut) (told : Completion)
      → told.user_data ≡ own.number → QueuesStand was out old
      → QueuesStand (record was { flows = set was.flows was.active now }) (with_unread out told loan) new
  lent-stands old new now loan step out told number stand =
      let taken : new.taken ≡ old.taken = ap (λ (v : AppView). v.taken) step.view in
      let shorts : total (λ f. short_bytes f.queue) (set was.flows was.active now) + short_len step.piece ≡ total (λ f. short_bytes f.queue) was.flows =
      omega (
        arith,
        ap (total (λ f. short_bytes f.queue)) (at-own.set_is now),
        ap (total (λ f. short_bytes f.queue)) at-own.is,
        total-changed at-own.before at-own.after own now (λ f. short_bytes f.queue),
        short-first own.queue now.queue step.piece step.span step.loses,
      ) in
      let there = is-lent-there (lent_piece old.taken loan) new.loans
      (omega (arith, step.loans (is_that_loan (lent_piece old.taken loan)), that-loan (lent_piece old.taken loan))) in
      let long : 0 < loan.loan.len = loan-some new step.apart (lent_piece old.taken loan) there in
      record {
        stands = subst (λ (fs : List FlowQueue). Stands was.notes fs (out.unread ++ (told, loan) ∷ []) out.read new) (sym (at-own.set_is now))
            (stands-lent was.notes at-own.before at-own.after own now out.unread told loan out.read old new (own-stands out old stand) step number);
        rest = rest-set was.active was.flows now stand.rest;
        index = index-set was.index was.flows was.active own now within value (ap (λ (f : FlowQueue). f.number) step.flow) stand.index;
        bounded = record {
          spares = omega (arith, step.spares, stand.bounded.spares, ap (total unsplit_len) taken, shorts, spare-few step.piece loan.loan.len long step.len);
          loans = omega (
            arith,
            step.loans (λ _. 1),
            total-one new.loans,
            total-one old.loans,
            ap (λ (v : AppView). length v.returned) step.view,
            step.helds held_len,
            shorts,
            step.len,
            long,
            stand.bounded.loans,
            ap (total taken_len) taken,
          );
        };
      }

  lent-one : (old new : AppView) (now : FlowQueue) (loan : Loan) → LentNext old new own now loan
      → LentOne was (record was { flows = set was.flows was.active now }) old new loan
  lent-one old new now loan step = record {
    own = own;
    within = within;
    active = value;
    after = now;
    lent = step;
    is = refl;
    stands = lent-stands old new now loan step;
  }

  active-own : slice_get was.flows was.active ≡ Some own
  active-own = slice_get-get_or was.flows was.active own within ∙ ap Some (sym value)

  put-back : (now : FlowQueue) → now ≡ own → record was { flows = set was.flows was.active now } ≡ was
  put-back now is = ap (λ (fs : List FlowQueue). record was { flows = fs }) (ap (set was.flows was.active) is ∙ set-own)

  pub lends-of : (out : LoansOut) (old new : AppView) (now : FlowQueue) → QueuesStand was out old → (result : Next) → LendsNext old new own now result
      → LendsActive was (record was { flows = set was.flows was.active now }) old new result
  lends-of out old new now stand (Lent loan) lends = (lent-one old new now loan lends.0, lends.1)
  lends-of out old new now stand (LentCopy loan) lends = (lent-one old new now loan lends.0, lends.1)
  lends-of out old new now stand NoneInOrder lends = (put-back now lends.1, lends.0, at-rest out old stand lends.2)
  lends-of out old new now stand Unsettled lends =
      (put-back now lends.1, lends.0, record { flow = own; active = active-own; next = lends.2 }, lends.3)
  lends-of out old new now stand ReserveHeld lends = (put-back now lends.1, lends.0, record { flow = own; active = active-own; next = lends.2 })
