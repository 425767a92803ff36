-- All pieces were given up.
use Rattle.std.proofs.Common.{◌≡◌, ℕ, true, false, List, [], ◌∷◌, ◌-◌, map, length, refl, sym, ap, subst, ◌∙◌, arith}
use Rattle.zr_kinds.specs.CopyingReceiver.{next_missing, nothing_placed}
use Rattle.board_face.specs.{declared.views.app.{TakenNote.{TakenNote}, AppView.{AppView}}, AppCalls.{ToldEnd}}
use Rattle.flow_queues.specs.{declared.queues.FlowQueue.{FlowQueue}, Core.{total, Each, LieApart, own_notes, placed_of, received_notes, FlowStands, marks_of_waiting}}
use Rattle.flow_queues.{specs.{Flows.{FlowFacts, facts_of, IsAtRest}, Totals.{taken_len}, Shelves.{FlowEnds}}, proofs.{Releasing.{each-facts}, Placing.{values-length}}}
use Rattle.tcp_reorder.proofs.Holding.{next_missing-held}
use Rattle.zc_poll.specs.{Standing.{Desk, DeskCommon, IsGoing, IsWhole, StreamStands, CanStop, MayRelease, IsStopped, NoneInOrder}, Items.{HasGiven}}
use Rattle.zc_poll.specs.{Steps.{Unlent, Stepped, Wants}, declared.step.Step.TheVariants.{Memory, Ended}}
use Rattle.zc_poll.proofs.{Marking.{many-released, found-released, items-released}, Views.{only-then, only-released, only-ended}}

-- what stands may be given up
pub may-release : (st : Desk) (v : AppView) → StreamStands st v → MayRelease st v
may-release st v stands = record {
  going = λ on more. (let going : IsGoing st v = stands.going on more in record { apart = stands.common.apart; helds = going.stand.stands.tokens.helds });
  released = stands.released;
}

pub may-end : (was now : Desk) (old mid : AppView) → StreamStands was old → now ≡ was → ToldEnd old mid → MayRelease now mid
may-end was now old mid stands same told = subst (λ (d : Desk). MayRelease d mid) (sym same) (subst (MayRelease was) (sym told.event) (record {
  going = λ on more. (let can : CanStop was old = (may-release was old stands).going on more in
      record { apart = record { once = can.apart.once; some = can.apart.some }; helds = can.helds });
  released = stands.released;
}))

module _ (was now : Desk) (old new : AppView) (app : now.app ≡ was.app) (scrubbed : now.scrubbed ≡ was.scrubbed)
    (stopped : was.stopped ≡ true → now.stopped ≡ true) (ended : new.ended ≡ now.ended)
    (view : new ≡ record old { helds = []; ended = new.ended; looks = new.looks }) (facts : map facts_of now.flows ≡ map facts_of was.flows) where
  taken-same : old.taken ≡ new.taken
  taken-same = sym (ap (λ (v : AppView). v.taken) view)

  pub common-released : DeskCommon was old → DeskCommon now new
  common-released common = record {
    here = ap (λ (v : AppView). v.left) view ∙ common.here;
    settled = ap (λ (v : AppView). v.settled) view ∙ common.settled;
    counted = ap (λ (v : AppView). v.scrubbed) view ∙ common.counted ∙ sym scrubbed;
    bare = λ is. (let (on, loans, quiet) = common.bare (sym scrubbed ∙ is) in
        (stopped on, ap (λ (v : AppView). v.loans) view ∙ loans, ap (λ (v : AppView). v.quiet) view ∙ quiet));
    owns = ap (λ (v : AppView). v.owns) view ∙ common.owns;
    app = ap (λ (v : AppView). v.app) view ∙ common.app ∙ sym app;
    ended = ended;
    apart = subst LieApart (sym view) (record {
      once = λ b x. omega (arith, common.apart.once b x);
      some = omega (arith, common.apart.some);
    });
    found = subst (λ ts. Each (FlowEnds ts) now.flows) taken-same (found-released was.flows now.flows old.taken facts common.found);
    distinct = λ n. omega (arith, many-released was.flows now.flows old.taken facts n, common.distinct n);
    few = omega (
      arith,
      common.few,
      ap (λ (v : AppView). length v.loans) view,
      ap (λ (v : AppView). length v.returned) view,
      ap (total taken_len) taken-same,
    );
  }

  pub unlent-released : Unlent was now old new
  unlent-released = record {
    loans = ap (λ (v : AppView). v.loans) view;
    spares = ap (λ (v : AppView). v.spares) view;
    items = λ items given. subst (HasGiven items now.flows) taken-same (items-released was.flows now.flows old.taken facts items given);
  }

  whole-released : IsWhole was old → IsWhole now new
  whole-released whole = record {
    flows = subst (λ ts. Each (λ f. f.bytes ≡ next_missing (placed_of f ts)) now.flows) taken-same
        (each-facts (λ f. f.bytes ≡ next_missing (placed_of f old.taken)) (λ f. f.bytes ≡ next_missing (placed_of f old.taken)) same was.flows now.flows
        facts whole.flows);
    known = λ n none. ap (own_notes n) (sym taken-same) ∙ whole.known n (sym (many-released was.flows now.flows old.taken facts n) ∙ none);
  }
    where
      same : (f g : FlowQueue) → facts_of g ≡ facts_of f → f.bytes ≡ next_missing (placed_of f old.taken)
          → g.bytes ≡ next_missing (placed_of g old.taken)
      same f g e is =
          let P : FlowFacts → Type 0 = λ x. x.bytes ≡ next_missing (received_notes x.base nothing_placed (own_notes x.number old.taken)) in
          let moved : P (facts_of g) = subst P (sym e) is in moved

pub unlent-then : (was mid now : Desk) (u v w : AppView) → Unlent was mid u v → Unlent mid now v w → Unlent was now u w
unlent-then was mid now u v w first second = record {
  loans = second.loans ∙ first.loans;
  spares = second.spares ∙ first.spares;
  items = λ items given. second.items items (first.items items given);
}

-- the stream was stopped
module _ (was now : Desk) (old new : AppView) (stop : IsStopped was now old new) where
  stopped-app : now.app ≡ was.app
  stopped-app = ap (λ (d : Desk). d.app) stop.same

  stopped-ended : now.ended ≡ was.ended
  stopped-ended = ap (λ (d : Desk). d.ended) stop.same

  stopped-is : now.stopped ≡ true
  stopped-is = ap (λ (d : Desk). d.stopped) stop.same

  stopped-view : new ≡ record old { helds = []; ended = new.ended; looks = new.looks }
  stopped-view = subst (λ (v : AppView). v ≡ record old { helds = []; ended = v.ended; looks = v.looks }) (sym stop.view) refl

  pub stopped-unlent : Unlent was now old new
  stopped-unlent = record {
    loans = ap (λ (v : AppView). v.loans) stop.view;
    spares = ap (λ (v : AppView). v.spares) stop.view;
    items = λ items given. subst (HasGiven items now.flows) (sym (ap (λ (v : AppView). v.taken) stop.view))
        (items-released was.flows now.flows old.taken stop.facts items given);
  }

  pub stopped-stands : DeskCommon was old → StreamStands now new
  stopped-stands common = record {
    common = common-released was now old new stopped-app (ap (λ (d : Desk). d.scrubbed) stop.same) (λ _. stopped-is) (ap (λ (v : AppView). v.ended) stop.view ∙ common.ended ∙ sym stopped-ended) stopped-view
        stop.facts common;
    going = λ on _. absurd (let is : now.stopped ≡ true = stopped-is in cc);
    released = λ _. ap (λ (v : AppView). v.helds) stop.view;
    whole = λ _ on. absurd (let is : now.stopped ≡ true = stopped-is in cc);
  }

-- by want of memory
pub memory-stepped : (was mid now : Desk) (u v w : AppView) → Wants was mid u v → IsStopped mid now v w → Stepped was now u w Memory
memory-stepped was mid now u v w wants stop = record {
  stands = stopped-stands mid now v w stop wants.common;
  only = only-then u v w wants.only (only-released v w stop.view);
  steps = (
    unlent-then was mid now u v w wants.unlent (stopped-unlent mid now v w stop),
    wants.going.0,
    stopped-is mid now v w stop,
    stopped-ended mid now v w stop ∙ wants.more,
  );
}

-- all that it was given of each flow counts as popped
pub all-popped : (taken : List TakenNote) (f : FlowQueue) → FlowStands taken [] f → f.bytes ≡ f.queue.popped
all-popped taken f stands =
    let more : ℕ = f.queue.popped - f.bytes in
    let size = values-length (placed_of f taken).at more f.bytes (λ p from until. stands.holds.popped p (omega (arith, stands.counted))) in
    let none : 0 ≡ more = ap length stands.lent ∙ size in
    omega (arith, none, stands.counted)

-- and what is in order of it is all that it received
whole-of : (was : Desk) (v : AppView) → IsGoing was v → Each IsAtRest was.flows → IsWhole was v
whole-of was v going rest = record { flows = each was.flows going.stand.stands.flows rest; known = going.stand.stands.known }
  where
    each : (fs : List FlowQueue) → Each (FlowStands v.taken []) fs → Each IsAtRest fs → Each (λ f. f.bytes ≡ next_missing (placed_of f v.taken)) fs
    each [] stand rest = tt
    each (f ∷ fs) stand rest =
        (all-popped v.taken f stand.0 ∙ rest.0 ∙ sym (next_missing-held marks_of_waiting f.queue (placed_of f v.taken) stand.0.holds), each fs stand.1 rest.1)

-- no note comes any more
module _ (was now : Desk) (old mid new : AppView) (stands : StreamStands was old) (rest : NoneInOrder was) (more : was.ended ≡ false)
    (told : ToldEnd old mid) (view : new ≡ record mid { helds = [] }) (same : now ≡ record was { flows = now.flows; ended = true })
    (facts : map facts_of now.flows ≡ map facts_of was.flows) where
  ended-view : new ≡ record old { helds = []; ended = new.ended; looks = new.looks }
  ended-view = subst (λ (v : AppView). v ≡ record old { helds = []; ended = v.ended; looks = v.looks })
      (sym (view ∙ ap (λ (v : AppView). record v { helds = [] }) told.event)) refl

  ended-is : new.ended ≡ now.ended
  ended-is = ap (λ (v : AppView). v.ended) (view ∙ ap (λ (v : AppView). record v { helds = [] }) told.event) ∙ sym (ap (λ (d : Desk). d.ended) same)

  kept-scrubbed : now.scrubbed ≡ was.scrubbed
  kept-scrubbed = ap (λ (d : Desk). d.scrubbed) same

  kept-stopped : was.stopped ≡ true → now.stopped ≡ true
  kept-stopped is = ap (λ (d : Desk). d.stopped) same ∙ is

  pub ended-stepped : Stepped was now old new Ended
  ended-stepped = record {
    stands = record {
      common = common-released was now old new (ap (λ (d : Desk). d.app) same) kept-scrubbed kept-stopped ended-is ended-view facts stands.common;
      going = λ _ on. absurd (let is : now.ended ≡ true = ap (λ (d : Desk). d.ended) same in cc);
      released = λ _. ap (λ (v : AppView). v.helds) view;
      whole = λ _ on. whole-released was now old new (ap (λ (d : Desk). d.app) same) kept-scrubbed kept-stopped ended-is ended-view facts
          (whole-of was old (stands.going (stopped-same on) more) (rest (stopped-same on)));
    };
    only = only-then old mid new (only-ended old mid told.event) (only-released mid new view);
    steps = (
      unlent-released was now old new (ap (λ (d : Desk). d.app) same) kept-scrubbed kept-stopped ended-is ended-view facts,
      ap (λ (d : Desk). d.stopped) same,
      ap (λ (d : Desk). d.ended) same,
    );
  }
    where
      stopped-same : now.stopped ≡ false → was.stopped ≡ false
      stopped-same on = sym (ap (λ (d : Desk). d.stopped) same) ∙ on
