-- A note was taken.
use Rattle.std.proofs.Common.{◌≡◌, ℕ, ◌≤◌, true, false, List, [], ◌∷◌, ◌++◌, length, sym, ap, subst, refl, ◌∙◌, arith, inl, ⊎_elim, length-append}
use Rattle.board_face.specs.declared.views.app.{TakenNote.{TakenNote}, AppView.{AppView}}
use Rattle.flow_queues.specs.{declared.{queues.{FlowQueue.{FlowQueue}}, noting.Taken.{Taken, TheVariants.{Did, NoNote, Ended, Memory}}}, Marks.{Mark}}
use Rattle.flow_queues.specs.{Core.{total, Each, many, LieApart}, Totals.{taken_len}, Shelves.{FlowEnds}, Kept.{QueueState, QueuesStand, marks_done}, Noting.{TakesNote, PassesNote}}
use Rattle.flow_queues.proofs.{Tokens.{total-append}, Standing.{each-map}, Done.{done-grown, done-of, done-none, each-done, ends-note}}
use Rattle.zc_poll.specs.{Standing.{Desk, DeskCommon, IsGoing, StreamStands, all_read, queues_of_desk}, Items.{GivenItem, HasGiven, marks_given}, Steps.{Unlent}}
use Rattle.zc_poll.{specs.Steps.{PassedNotes, LooksForNote}, proofs.{FlowsKept.{with_queues}, Views.{only-noted}}}

-- the bytes that are done with are those that were, so the same items were given
given-stay : (was now : List FlowQueue) (old new : List TakenNote) → ((n : ℕ) → marks_done n now new ≡ marks_done n was old)
    → ((n : ℕ) → many n was ≤ 1) → ((n : ℕ) → many n now ≤ 1) → Each (FlowEnds new) now → (items : List GivenItem) → HasGiven items was old
    → HasGiven items now new
given-stay was now old new done few later ends items given = record {
  flows = each-map (FlowEnds new) _ now (λ f is _. all f.number ∙ done-of new f now is (later f.number)) ends;
  others = λ n none. all n ∙ done-none n new now none;
}
  where
    all : (n : ℕ) → marks_given n items ≡ marks_done n now new
    all n = each-done (λ k (ms : List Mark). marks_given k items ≡ ms) n old was (few n) given.flows (given.others n) ∙ sym (done n)

-- ---- a note came

module _ (was : Desk) (q : QueueState) (old new : AppView) (t : TakenNote) (stands : StreamStands was old) (more : was.ended ≡ false)
    (view : new ≡ record old { taken = old.taken ++ t ∷ []; helds = new.helds }) (lie : LieApart new)
    (done : (n : ℕ) → marks_done n q.flows new.taken ≡ marks_done n was.flows old.taken) (ends : Each (FlowEnds new.taken) q.flows)
    (distinct : (n : ℕ) → many n q.flows ≤ 1) where
  taken-is : new.taken ≡ old.taken ++ t ∷ []
  taken-is = ap (λ (v : AppView). v.taken) view

  unlent-in : Unlent was (with_queues was q) old new
  unlent-in = record {
    loans = ap (λ (v : AppView). v.loans) view;
    spares = ap (λ (v : AppView). v.spares) view;
    items = given-stay was.flows q.flows old.taken new.taken done stands.common.distinct distinct ends;
  }

  common-in : DeskCommon (with_queues was q) new
  common-in =
      let common : DeskCommon was old = stands.common in
      record {
        here = ap (λ (v : AppView). v.left) view ∙ common.here;
        settled = ap (λ (v : AppView). v.settled) view ∙ common.settled;
        counted = ap (λ (v : AppView). v.scrubbed) view ∙ common.counted;
        bare = λ is. (let (stopped, loans, quiet) = common.bare is in
            (stopped, ap (λ (v : AppView). v.loans) view ∙ loans, ap (λ (v : AppView). v.quiet) view ∙ quiet));
        owns = ap (λ (v : AppView). v.owns) view ∙ common.owns;
        app = ap (λ (v : AppView). v.app) view ∙ common.app;
        ended = ap (λ (v : AppView). v.ended) view ∙ common.ended;
        apart = lie;
        found = ends;
        distinct = distinct;
        few = omega (
          arith,
          common.few,
          ap (λ (v : AppView). length v.loans) view,
          ap (λ (v : AppView). length v.returned) view,
          ap (total taken_len) taken-is,
          total-append taken_len old.taken (t ∷ []),
        );
      }

  passed-in : (was.stopped ≡ false → IsGoing (with_queues was q) new) → (was.stopped ≡ true → new.helds ≡ []) → PassedNotes 1 was (with_queues was q) old new
  passed-in going released = record {
    stands = record {
      common = common-in;
      going = λ on _. going on;
      released = ⊎_elim released (λ (is : was.ended ≡ true). absurd (cc));
      whole = λ is _. absurd (cc);
    };
    only = only-noted old new t view;
    unlent = unlent-in;
    longer = ap length taken-is ∙ length-append old.taken (t ∷ []);
    stopped = refl;
    more = more;
  }

-- ---- by its answer

module _ (was : Desk) (old new : AppView) (stands : StreamStands was old) (more : was.ended ≡ false) where
  -- it enters the queues
  pub looks-on : was.stopped ≡ false → (q : QueueState) (result : Taken) → TakesNote (queues_of_desk was) q old new result
      → LooksForNote was (with_queues was q) old new result
  looks-on on q Did takes =
      let going : IsGoing was old = stands.going on more in
      let stand : QueuesStand q (all_read going.out) new = takes.stands (all_read going.out) going.stand in
      passed-in was q old new takes.noted.note stands more takes.noted.view stand.stands.tokens.apart takes.noted.done takes.noted.sound.ends
      takes.noted.sound.distinct (λ _. record { out = going.out; stand = stand }) (λ (is : was.stopped ≡ true). absurd (cc))
  looks-on on q Memory noted =
      let going : IsGoing was old = stands.going on more in
      let tokens = noted.tokens (all_read going.out) going.stand in
      record {
        common = common-in was q old new noted.note stands more noted.view tokens.apart noted.done noted.sound.ends noted.sound.distinct;
        can = record { apart = tokens.apart; helds = tokens.helds };
        only = only-noted old new noted.note noted.view;
        unlent = unlent-in was q old new noted.note stands more noted.view tokens.apart noted.done noted.sound.ends noted.sound.distinct;
        going = (on, on);
        more = more;
      }
  looks-on on q NoNote takes = (ap (with_queues was) takes.0, takes.1)
  looks-on on q Ended takes = (ap (with_queues was) takes.0, takes.1)

  -- it goes past them
  pub looks-past : was.stopped ≡ true → (result : Taken) → PassesNote old new result → LooksForNote was was old new result
  looks-past stopped Did (t, is) =
      let none : new.helds ≡ old.helds = ap (λ (v : AppView). v.helds) is in
      let view : new ≡ record old { taken = old.taken ++ t ∷ []; helds = new.helds } = is
      ∙ ap (λ hs. record old { taken = old.taken ++ t ∷ []; helds = hs }) (sym none) in
      let taken : new.taken ≡ old.taken ++ t ∷ [] = ap (λ (v : AppView). v.taken) is in
      passed-in was (queues_of_desk was) old new t stands more view
      (subst LieApart (sym is) (record { once = stands.common.apart.once; some = stands.common.apart.some }))
      (λ n. ap (marks_done n was.flows) taken ∙ done-grown n old.taken t was.flows stands.common.found)
      (subst (λ ts. Each (FlowEnds ts) was.flows) (sym taken) (each-map (FlowEnds old.taken) (FlowEnds (old.taken ++ t ∷ [])) was.flows
      (λ f _ e. ends-note old.taken t f f.queue refl e) stands.common.found))
      stands.common.distinct (λ (is : was.stopped ≡ false). absurd (cc)) (λ _. none ∙ stands.released (inl stopped))
  looks-past stopped Memory passes = absurd passes
  looks-past stopped NoNote passes = (refl, passes)
  looks-past stopped Ended passes = (refl, passes)
