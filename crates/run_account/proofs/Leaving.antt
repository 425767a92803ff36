-- An application of turns that has left leaves what its state says, and so does each of a run that is over.
use Rattle.std.proofs.Common.{◌≡◌, ◌≢◌, ℕ, ◌+◌, ◌*◌, ◌≤◌, ◌==◌, true, if◌then◌else◌, List, [], ◌∷◌, length, map, Option, Some, None, refl, sym, ap, subst, ◌∙◌, arith}
use Rattle.std.{specs.{Prelude.{MatchBool, option_map}, List.{slice_get}}, proofs.lemmas.{List.{length-map}, Option.{slice_get-map}}}
use Rattle.zr_kinds.specs.declared.behaviour.Behaviour.{Behaviour}
use Rattle.zr_io.specs.Moved.{Gained, ShelfCounts}
use Rattle.board_face.specs.{Sides.{side_in}, declared.views.{nic.NicSide.{NicSide}, app.{AppSide.{AppSide}, AppView.{AppView}, TakenNote.{TakenNote}}}}
use Rattle.flow_queues.specs.{declared.queues.FlowQueue.{FlowQueue}, Ends.{AppEnd, HasLeft, IsCounted, IsTorn, bytes_written_of, flow_end_of, times_written}}
use Rattle.flow_queues.specs.{Shelves.{FlowEnds}, Totals.{Quits, capped, lent_len, loan_entries, raw_entries}, Entries.{AreBlocks, WasLive}, Returned.{HasReturned}}
use Rattle.app_worker.specs.{Core.{total, Each, many, own_notes, BeginAt}, StateOf.{end_of}, Kept.{flow_bytes}, State.{Bare, Common, Working}}
use Rattle.card_feed.specs.{Plan.{TakesTurns, how_of}, declared.plan.Plan.{Plan}}
use Rattle.run_account.specs.{Running.{IsRunOver, HasRun, RolesFit, Running, WorkerFits, WorkerRuns, ends_of}, Views.{Ends, Streams, counts_at, kept_at}, declared.run.{Run.{Run}, Worker.{Worker}}}
use Rattle.run_account.{specs.Ways.{by_turns}, proofs.{Counted.{flow-counted}, Gone.{worker-left}, Torn.{flow-torn}}}

-- ---- flows, as their numbers with their bytes

pub bytes-by : (number : ℕ) (own : List FlowQueue) → bytes_written_of number (map flow_end_of own) ≡ flow_bytes number own
bytes-by number [] = refl
bytes-by number (f ∷ fs) = ap (λ n. if f.number == number then f.bytes else n) (bytes-by number fs)

sum-by : (own : List FlowQueue) → total (λ f. f.1) (map flow_end_of own) ≡ total (λ f. f.bytes) own
sum-by [] = refl
sum-by (f ∷ fs) = ap (λ n. f.bytes + n) (sum-by fs)

times-by : (number : ℕ) (own : List FlowQueue) → times_written number (map flow_end_of own) ≡ many number own
times-by number [] = refl
times-by number (f ∷ fs) = ap (λ n. (if f.number == number then 1 else 0) + n) (times-by number fs)

noted-by : (taken : List TakenNote) (own : List FlowQueue) → Each (FlowEnds taken) own
    → Each (λ f. own_notes f.0 taken ≢ []) (map flow_end_of own)
noted-by taken [] each = tt
noted-by taken (f ∷ fs) each = (λ none. subst (BeginAt f.queue.base) none each.0.begun, noted-by taken fs each.1)

-- ---- one application

module _ (first kept : ℕ → Option (List ℕ)) (losses losses_now : ShelfCounts) (how : Behaviour) (v : AppView) (w : Worker) (fits : WorkerFits v w)
    (runs : WorkerRuns first kept losses losses_now how v w) (left : w.left ≡ true) where
  bare : Bare w.state v
  bare = subst (λ b. MatchBool b (Bare w.state v) (Working w.state v)) (fits.gone left).1 fits.stands.mode

  common : Common w.state v
  common = fits.stands.common

  counted : (number : ℕ) → Gained (first number) (kept number) (IsCounted w.state.stopped (bytes_written_of number (end_of w.state).flows))
  counted number =
      subst (λ n. Gained (first number) (kept number) (IsCounted w.state.stopped n)) (sym (bytes-by number w.state.flows))
      (flow-counted first kept v w.state.flows number w.state.stopped bare.flows runs.shelved runs.failed)

  pub has-left : HasLeft how first kept losses losses_now v (end_of w.state)
  has-left =
      let none : length v.loans ≡ 0 = ap length bare.loans in
      let none_lent : total lent_len v.loans ≡ 0 = ap (total lent_len) bare.loans in
      let follow : raw_entries v + w.state.stray.left ≤ how.stray * loan_entries v =
      subst (λ (b : Behaviour). raw_entries v + w.state.stray.left ≤ b.stray * loan_entries v) runs.how_is common.strays in
      record {
        left = (fits.gone left).0;
        none_out = bare.loans;
        loans = common.loans ∙ ap capped (omega (arith, none));
        copied = common.copied;
        written = common.written ∙ ap capped (sym (sum-by w.state.flows));
        copies = runs.copies;
        counts = runs.counts left;
        all_lent = λ no. common.written ∙ ap capped (sym (bare.appended no));
        within_lent = omega (arith, common.written, bare.within_lent, none_lent);
        bound = let most = common.bound in omega (arith, most);
        noted = noted-by v.taken w.state.flows bare.flows;
        once = λ number. subst (λ n. n ≤ 1) (sym (times-by number w.state.flows)) (bare.distinct number);
        fronts = runs.fronts;
        whole = runs.whole left;
        counted = counted;
        torn = λ is_write whole. (
            let fronts = runs.failed is_write in
            record {
              torn = fronts.torn;
              each = λ number. subst (λ n. Gained (first number) (kept number) (IsTorn v fronts.torn number n)) (sym (bytes-by number w.state.flows))
                  (flow-torn first kept v w.state.flows bare.flows whole bare.loans fronts (runs.fronts whole) number);
            });
        quits = subst (λ (b : Behaviour). Quits b.quit w.state.written w.state.stopped) runs.how_is common.quits;
        later = runs.later;
        cause = runs.cause;
        still = runs.still;
        appended = runs.appended;
        strays = omega (arith, follow);
        entries = common.entries;
      }

  pub has-returned : HasReturned how w.state.stopped w.state.written v
  has-returned = subst (λ (b : Behaviour). HasReturned b w.state.stopped w.state.written v) runs.how_is (record {
    given = bare.given;
    whole = omega (arith, common.written, bare.whole_given);
    kept_back = λ no. record { many = (bare.abandoned no).0; aside = (bare.abandoned no).1 };
    last = w.state.stray.entry;
    follow = subst (AreBlocks w.state.how.stray (WasLive v) v.written w.state.stray.entry) bare.none_left common.blocks;
  })

-- ---- all of them

-- one that takes turns behaves as the plan says
pub behaves-so : (plan : Plan) → TakesTurns plan → plan.options.how ≡ how_of plan
behaves-so plan turning = rw (turning.unpolled, turning.unforwarded) refl

-- what an application left is what one's state says
worker-of : (found : Option Worker) (end : AppEnd) → option_map (λ (u : Worker). end_of u.state) found ≡ Some end
    → (w : Worker) × (found ≡ Some w) × (end_of w.state ≡ end)
worker-of None end is = absurd (cc)
worker-of (Some w) end is = (w, refl, let same : end_of w.state ≡ end = cc in same)

pub has-run : {S T : Type 0} {m : Streams S T} (was now : Ends m) (plan : Plan) (nic : NicSide) (apps : List AppSide) (run : Run)
    → RolesFit nic apps run → IsRunOver run → Running was now plan nic apps run
    → HasRun was now plan nic apps run.feed (ends_of run.workers.items)
has-run was now plan nic apps run fits over runs = record {
  plan_is = runs.plan_is;
  frames = runs.frames;
  stands = runs.feed;
  turns = runs.turns;
  ready = fits.ready;
  closed = over.card;
  setting = runs.setting;
  many = length-map run.workers.items (λ (u : Worker). end_of u.state) ∙ runs.many;
  app = λ a end at.
      let (w, w_at, is) = worker-of (slice_get run.workers.items a) end
      (sym (slice_get-map (λ (u : Worker). end_of u.state) run.workers.items a) ∙ at) in
      subst (λ how. HasLeft how (kept_at was a) (kept_at now a) (counts_at was a) (counts_at now a)
      (side_in apps a).view end) (behaves-so plan runs.by_turns)
      (subst (HasLeft plan.options.how _ _ _ _ (side_in apps a).view) is
      (has-left _ _ _ _ plan.options.how (side_in apps a).view w (fits.worker a w w_at) (runs.worker a w w_at).runs (worker-left nic apps run fits over a w w_at)));
  came = λ a end at.
      let (w, w_at, is) = worker-of (slice_get run.workers.items a) end
      (sym (slice_get-map (λ (u : Worker). end_of u.state) run.workers.items a) ∙ at) in
      by_turns w.state (sym is) (runs.worker a w w_at).came;
  returned = λ a end at.
      let (w, w_at, is) = worker-of (slice_get run.workers.items a) end (sym (slice_get-map (λ (u : Worker). end_of u.state) run.workers.items a) ∙ at) in
      subst (λ how. HasReturned how end.stopped end.written (side_in apps a).view) (behaves-so plan runs.by_turns)
      (subst (λ (e : AppEnd). HasReturned plan.options.how e.stopped e.written (side_in apps a).view) is
      (has-returned _ _ _ _ plan.options.how (side_in apps a).view w (fits.worker a w w_at) (runs.worker a w w_at).runs (worker-left nic apps run fits over a w w_at)));
  many_shelves = runs.many_shelves;
  beyond = runs.beyond;
  records = runs.records;
  dealt = runs.dealt;
}
