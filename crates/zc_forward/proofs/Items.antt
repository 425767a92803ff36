-- An item went out, or wasn't carried for want of memory, or the carrier failed.
use Rattle.std.proofs.Common.{◌≡◌, ◌≢◌, ℕ, ◌+◌, ◌-◌, ◌^◌, ◌<◌, ◌≤◌, min, true, false, List, [], ◌∷◌, ◌++◌, length, drop, Option, Some, None, refl, sym, ap, subst, ◌∙◌, arith, ⊎_elim, inl, inr, append-nil, length-append}
use Rattle.std.{proofs.Math.Seq.{drop-append_seam}, specs.{Prelude.{nat_eq}, Io.KnownBytes.{Keeps}, Map.{lookup}}}
use Rattle.zr_kinds.specs.declared.place.Place.{Place}
use Rattle.zr_kinds.specs.declared.behaviour.Stopped.TheVariants as stop
use Rattle.zr_io.{specs.Moved.{Gained, Rose, ShelfCounts, raised_by}, proofs.Moved.{Rose-earlier}}
use Rattle.board_face.specs.declared.views.app.{LentPiece.{LentPiece}, AppView.{AppView}}
use Rattle.flow_queues.specs.{Marks.{Mark}, declared.queues.Lending.{Lending}, Core.{total, IsIn, lent_piece, OnlyReads, IsReadOf}, Totals.{lent_len, loan_entries}}
use Rattle.flow_queues.{specs.{Shelves.{AreOfOneLoan, kept_loans}, Ends.{bytes_written_of}}, proofs.Tokens.{loan-some, total-append}}
use Rattle.zc_poll.specs.declared.step.Lent.{Lent}
use Rattle.flow_queues.specs.{Counting.{TallyState, AddsTo, item_counted}}
use Rattle.zc_poll.specs.{Standing.{Desk, StreamStands}, Items.{GivenItem, HasGiven, marks_given}, Steps.{OnlySteps, IsItem, given_as}, Pouring.{HasPoured}}
use Rattle.zc_poll.proofs.{Views.{total-one}, LoanGone.{drop-all}, PouredOn.{SeesOn, read-on}}
use Rattle.zc_poll.proofs.{ItemPoured.{Roomy, SameCounts, moved-by, poured-moved, poured-roomy, item-poured, push-length}, EntriesFirst.{first-gone, first-same}}
use Rattle.zc_poll.proofs.{Appended.{appended, at-flow}, Pours.{is-no, no-write, known-at}}
use Rattle.zc_forward.specs.{declared.sent.Sent.{Sent}, Tags.{FlowsKeep, Tags}, Sending.{OutboxState, most_out, of_one, of_sent, tags_of}, GivenUp.{GaveUp}}
use Rattle.zc_forward.{specs.Forwarding.{ForwardStands}, proofs.{Forwards.{poured-kept}, Out.{none_out, one_more}, Sents.{tags-push}}}

-- ---- all loans were given up

module _ (y x : AppView) (up : GaveUp y x) (none : x.loans ≡ []) (all : loan_entries y ≡ length y.returned) where
  up-entries : loan_entries x ≡ loan_entries y
  up-entries = ap loan_entries up.view

  -- those that no entry gave back are those that were out
  kept-are : kept_loans x ≡ up.gone
  kept-are = ap (λ ls. ls ++ drop (loan_entries x) x.returned) none ∙ ap (λ n. drop n x.returned) (up-entries ∙ all) ∙ ap (drop (length y.returned)) up.returned
      ∙ drop-append_seam y.returned up.gone

  still-one : (marks : List Mark) → AreOfOneLoan y.taken (kept_loans y) marks → AreOfOneLoan x.taken (kept_loans x) marks
  still-one marks one =
      let taken : x.taken ≡ y.taken = ap (λ (k : AppView). k.taken) up.view in
      let were : kept_loans y ≡ y.loans =
      ap (λ ls. y.loans ++ ls) (drop-all y.returned (loan_entries y) all) ∙ append-nil y.loans in
      let out : IsIn (lent_piece y.taken one.lending) y.loans = subst (IsIn (lent_piece y.taken one.lending)) were one.out in
      let gone : IsIn (lent_piece y.taken one.lending) up.gone =
      subst (λ ls. IsIn (lent_piece y.taken one.lending) (ls ++ up.gone)) none (up.each (lent_piece y.taken one.lending) out) in
      record {
        lending = one.lending;
        known = omega (arith, one.known, ap length taken);
        out = subst (IsIn (lent_piece x.taken one.lending)) (sym kept-are) (subst (λ ts. IsIn (lent_piece ts one.lending) up.gone) (sym taken) gone);
        from = one.from;
        within = one.within;
        are = one.are;
      }

  up-on : SeesOn y x
  up-on = record {
    notes = [];
    taken = ap (λ (k : AppView). k.taken) up.view ∙ sym (append-nil y.taken);
    more = [];
    reads = ap (λ (k : AppView). k.reads) up.view ∙ sym (append-nil y.reads);
  }

  pub up-poured : (P Q : Type 0) (first kept : ℕ → Option (List ℕ)) (u w : TallyState) (st now : Desk) (items : List GivenItem) (torn missing : ℕ)
      → HasPoured P first u st kept y items torn missing → SameCounts u w → HasGiven items now.flows x.taken → (P → Q)
      → HasPoured Q first w now kept x items torn missing
  up-poured P Q first kept u w st now items torn missing poured work given implies =
      moved-by P Q first kept u w st now y x items torn missing poured work given up-on
      (omega (arith, up.sums (λ _. 1), total-one x.loans, total-one y.loans, total-one up.gone, ap length up.returned, length-append y.returned up.gone))
      (omega (arith, up.sums lent_len, ap (total lent_len) up.returned, total-append lent_len y.returned up.gone))
      (ap (λ (k : AppView). k.spares) up.view)
      (first-gone y x up.gone (total (λ f. f.1) u.counts) (ap (λ (k : AppView). k.written) up.view) (ap (λ (k : AppView). k.setting) up.view) up.returned poured.back)
      (λ n bytes is. record {
        are = read-on y x up-on _ bytes is.are;
        at_least = is.at_least;
        at_once = is.at_once;
        exact = λ no. is.exact (λ both. no (implies both.0, both.1));
        beyond = λ less. still-one _ (is.beyond less);
      })

-- ---- an item came

module _ (first kept : ℕ → Option (List ℕ)) (losses losses_now : ShelfCounts) (u : OutboxState) (st now : Desk) (tags : Tags) (v x : AppView)
    (before : ForwardStands first losses u st tags kept losses_now v) (due : u.tally.due ≡ None) (lent : Lent) (item : IsItem st now v x lent) (only : OnlySteps v x)
    (stands : StreamStands now x) where
  pub nothing : u.tally.stopped ≡ stop.No
  nothing = ⊎_elim (λ is. is) (λ stopped. (let e : false ≡ true = sym item.going.0 ∙ before.over stopped in absurd (cc))) (is-no u.tally.stopped)

  abbrev all_items : List GivenItem
  all_items = before.items ++ given_as lent item.lending ∷ []

  -- it is out beside those that were
  pub out-now : (f : Place → ℕ) → total (λ (l : LentPiece). f l.place) x.loans ≡ f lent.loan + of_sent f u.out
  out-now f =
      let lends = item.lends (λ (l : LentPiece). f l.place) in
      let place : f item.lending.loan ≡ f lent.loan = ap f item.loan in
      let none : of_one f u.tally.due ≡ 0 = ap (of_one f) due in
      let aside : of_one f u.uncarried ≡ 0 = ap (of_one f) (before.carried nothing) in
      let were = before.loans f in
      omega (arith, lends, place, none, aside, were)

  all : loan_entries x ≡ length x.returned
  all =
      let r : length x.returned ≡ length v.returned = ap (λ (k : AppView). length k.returned) only.view in
      let e : loan_entries x ≡ loan_entries v = ap loan_entries only.view in
      omega (arith, before.given_back nothing, r, e)

  has : 0 < item.lending.loan.len
  has = loan-some x stands.common.apart (lent_piece x.taken item.lending) item.out

  has-marks : 0 < length (marks_given lent.flow all_items)
  has-marks = omega (arith, push-length lent.flow before.items (given_as lent item.lending), at-flow lent.flow lent.flow item.lending.loan.len refl, has)

  len_is : item.lending.loan.len ≡ lent.loan.len
  len_is = ap (λ (q : Place). q.len) item.loan

  counted : HasPoured (u.tally.stopped ≡ stop.Write) first (item_counted u.tally lent.copied) now kept x all_items lent.flow item.lending.loan.len
  counted = item-poured (u.tally.stopped ≡ stop.Write) (u.tally.stopped ≡ stop.Write) first kept u.tally st now v x before.items before.torn before.missing before.poured
      (before.whole nothing) (no-write u.tally.stopped nothing) lent item only stands

  module _ (w : TallyState) (roomy : Roomy (item_counted u.tally lent.copied) w) (adds : AddsTo lent.flow 0 u.tally.counts w.counts) where
    ready : HasPoured (u.tally.stopped ≡ stop.Write) first w now kept x all_items lent.flow item.lending.loan.len
    ready = poured-roomy (u.tally.stopped ≡ stop.Write) first kept (item_counted u.tally lent.copied) w now x all_items lent.flow item.lending.loan.len counted roomy
        lent.flow adds has-marks

    -- there was no memory to count it, so it isn't carried
    pub wants : (z : AppView) (later : Desk) (k : OutboxState) → z ≡ record x { helds = [] }
        → ((items : List GivenItem) → HasGiven items now.flows x.taken → HasGiven items later.flows z.taken) → StreamStands later z
        → later.stopped ≡ true → later.ended ≡ now.ended
        → k.tally ≡ record w { stopped = stop.Memory } → k.out ≡ u.out → k.uncarried ≡ Some lent.loan
        → length u.out < most_out
        → ForwardStands first losses k later tags kept losses_now z
    wants z later k view goes on stopped ended tally out aside room =
        let why : k.tally.stopped ≡ stop.Memory = ap (λ (t : TallyState). t.stopped) tally in
        let none : k.tally.due ≡ None = ap (λ (t : TallyState). t.due) tally ∙ ap (λ (t : TallyState). t.due) roomy.same ∙ due in
        record {
          items = all_items;
          torn = lent.flow;
          missing = item.lending.loan.len;
          stands = on;
          poured = poured-moved (u.tally.stopped ≡ stop.Write) (k.tally.stopped ≡ stop.Write) first kept w k.tally now later x z all_items lent.flow
              item.lending.loan.len ready
              (record {
                counts = ap (λ (t : TallyState). t.counts) tally;
                written = ap (λ (t : TallyState). t.written) tally;
                loans = ap (λ (t : TallyState). t.loans) tally;
                copied = ap (λ (t : TallyState). t.copied) tally;
                flows = ap (λ (t : TallyState). t.flows) tally;
                room = ap (λ (t : TallyState). t.room) tally;
              })
              (goes all_items ready.given)
              (record {
                notes = [];
                taken = ap (λ (q : AppView). q.taken) view ∙ sym (append-nil x.taken);
                more = [];
                reads = ap (λ (q : AppView). q.reads) view ∙ sym (append-nil x.reads);
              })
              (ap (λ (q : AppView). length q.loans + length q.returned) view)
              (ap (λ (q : AppView). total lent_len q.loans + total lent_len q.returned) view)
              (ap (λ (q : AppView). q.spares) view)
              (first-same x z (total (λ f. f.1) w.counts) (ap (λ (q : AppView). q.written) view) (ap (λ (q : AppView). q.setting) view)
              (ap (λ (q : AppView). q.returned) view) ready.back)
              (ap kept_loans view)
              (λ write. absurd (no-write u.tally.stopped nothing write));
          sent = before.sent ∙ sym (ap tags_of out);
          once = before.once;
          few =
              let d : of_one (λ _. 1) k.tally.due ≡ 0 = ap (of_one (λ _. 1)) none in
              let a : of_one (λ _. 1) k.uncarried ≡ 1 = ap (of_one (λ _. 1)) aside in
              omega (arith, room, ap length out, d, a);
          loans = λ f.
              let now_out : total (λ (l : LentPiece). f l.place) z.loans ≡ f lent.loan + of_sent f u.out =
              ap (λ (q : AppView). total (λ (l : LentPiece). f l.place) q.loans) view ∙ out-now f in
              let d : of_one f k.tally.due ≡ 0 = ap (of_one f) none in
              let a : of_one f k.uncarried ≡ f lent.loan = ap (of_one f) aside in
              let s : of_sent f k.out ≡ of_sent f u.out = ap (of_sent f) out in
              omega (arith, now_out, d, a, s);
          giving = inr (
            ap loan_entries view ∙ all ∙ sym (ap (λ (q : AppView). length q.returned) view),
            (let a : of_one (λ p. p.len) k.uncarried ≡ lent.loan.len = ap (of_one (λ p. p.len)) aside in omega (arith, a, len_is)),
          );
          whole = λ no. (let e : stop.Memory ≡ stop.No = sym why ∙ no in absurd (cc));
          given_back = λ no. (let e : stop.Memory ≡ stop.No = sym why ∙ no in absurd (cc));
          going = λ no. (let e : stop.Memory ≡ stop.No = sym why ∙ no in absurd (cc));
          carried = λ no. (let e : stop.Memory ≡ stop.No = sym why ∙ no in absurd (cc));
          over = λ _. stopped;
          failed = λ write. (let e : stop.Memory ≡ stop.Write = sym why ∙ write in absurd (cc));
          pressed = λ yes. (let e : true ≡ false = sym yes ∙ ended ∙ item.more in absurd (cc));
          no_quit = λ quit. (let e : stop.Memory ≡ stop.Quit = sym why ∙ quit in absurd (cc));
          later = before.later;
          cause = λ write. (let e : stop.Memory ≡ stop.Write = sym why ∙ write in absurd (cc));
          still = λ _. before.still (no-write u.tally.stopped nothing);
          appended = before.appended ∙ ap (raised_by losses.appended)
              (sym (ap (λ (t : TallyState). t.written) tally ∙ ap (λ (t : TallyState). t.written) roomy.same));
        }

    module _ (after : ℕ → Option (List ℕ)) (y : AppView) (k : TallyState) (done : ℕ) (reads : OnlyReads x y) (counted_to : done ≤ lent.loan.len)
        (gained : (lending : Lending) → lending.loan ≡ lent.loan → lending.note < length x.taken → IsIn (lent_piece x.taken lending) x.loans
        → Gained (kept lent.flow) (after lent.flow) (IsReadOf x.taken y.reads lending done lent.loan.len))
        (others : (n : ℕ) → n ≢ lent.flow → Keeps (kept n) (after n)) (same : k ≡ record w { counts = k.counts; written = min (w.written + done) (2 ^ 64 - 1) })
        (fits : bytes_written_of lent.flow w.counts + done < 2 ^ 64 → AddsTo lent.flow done w.counts k.counts)
        (many : length k.counts ≡ length w.counts) where
      note-known : item.lending.note < length x.taken
      note-known = known-at x.taken item.lending.note item.note item.is

      few : bytes_written_of lent.flow w.counts + done < 2 ^ 64
      few = omega (
        arith,
        ready.counts lent.flow,
        at-flow lent.flow lent.flow item.lending.loan.len refl,
        push-length lent.flow before.items (given_as lent item.lending),
        (item.items before.items before.poured.given).0,
        item.fits,
        counted_to,
      )

      written : HasPoured (done < item.lending.loan.len) first k now after y all_items lent.flow (item.lending.loan.len - done)
      written = appended (u.tally.stopped ≡ stop.Write) first kept after w k now x y before.items (given_as lent item.lending) done ready
          (no-write u.tally.stopped nothing)
          (record { notes = []; taken = ap (λ (q : AppView). q.taken) reads.view ∙ sym (append-nil x.taken); more = reads.more; reads = reads.are })
          reads.view note-known item.out (omega (arith, counted_to, len_is))
          (subst (λ n. Gained (kept lent.flow) (after lent.flow) (IsReadOf x.taken y.reads item.lending done n)) (sym len_is)
          (gained item.lending item.loan note-known item.out))
          others same has (fits few) many

      still-all : loan_entries y ≡ length y.returned
      still-all = subst (λ (q : AppView). loan_entries q ≡ length q.returned) (sym reads.view) all

      work-due : k.due ≡ None
      work-due = ap (λ (q : TallyState). q.due) same ∙ ap (λ (q : TallyState). q.due) roomy.same ∙ due

      work-no : k.stopped ≡ stop.No
      work-no = ap (λ (q : TallyState). q.stopped) same ∙ ap (λ (q : TallyState). q.stopped) roomy.same ∙ nothing

      all-took : (faults : ShelfCounts) → faults.appended ≡ raised_by losses_now.appended done → faults.appended ≡ raised_by losses.appended k.written
      all-took faults took = omega (arith, took, before.appended, ap (λ (q : TallyState). q.written) same, ap (λ (q : TallyState). q.written) roomy.same)

      -- the carrier failed, and all is given up
      pub fails : (end : ℕ → Option (List ℕ)) (faults : ShelfCounts) (mid z : AppView) (later : Desk) (m : OutboxState) → FlowsKeep after end → GaveUp y mid → z ≡ record mid { helds = [] } → z.loans ≡ []
          → ((items : List GivenItem) → HasGiven items now.flows y.taken → HasGiven items later.flows z.taken) → StreamStands later z → later.stopped ≡ true
          → m.tally ≡ record k { stopped = stop.Write } → m.out ≡ [] → m.uncarried ≡ u.uncarried → (later.ended ≡ true → m.pressed ≡ true)
          → losses_now.faults ≤ faults.faults → Rose losses_now.faults faults.faults → faults.appended ≡ raised_by losses_now.appended done
          → ForwardStands first losses m later [] end faults z
      fails end faults mid z later m keeps up view none goes on stopped tally out aside pressed grows rose took =
          let why : m.tally.stopped ≡ stop.Write = ap (λ (t : TallyState). t.stopped) tally in
          let mid_none : mid.loans ≡ [] = sym (ap (λ (q : AppView). q.loans) view) ∙ none in
          let mid_given : HasGiven all_items now.flows mid.taken =
          subst (HasGiven all_items now.flows) (sym (ap (λ (q : AppView). q.taken) up.view)) written.given in
          let up_poured : HasPoured (m.tally.stopped ≡ stop.Write) first m.tally now after mid all_items lent.flow (item.lending.loan.len - done) =
          up-poured y mid up mid_none still-all (done < item.lending.loan.len) (m.tally.stopped ≡ stop.Write) first after k m.tally now now all_items lent.flow
          (item.lending.loan.len - done) written
          (record {
            counts = ap (λ (t : TallyState). t.counts) tally;
            written = ap (λ (t : TallyState). t.written) tally;
            loans = ap (λ (t : TallyState). t.loans) tally;
            copied = ap (λ (t : TallyState). t.copied) tally;
            flows = ap (λ (t : TallyState). t.flows) tally;
            room = ap (λ (t : TallyState). t.room) tally;
          })
          mid_given (λ _. why) in
          record {
            items = all_items;
            torn = lent.flow;
            missing = item.lending.loan.len - done;
            stands = on;
            poured = poured-kept (m.tally.stopped ≡ stop.Write) first after end m.tally later z all_items lent.flow (item.lending.loan.len - done)
                (poured-moved (m.tally.stopped ≡ stop.Write) (m.tally.stopped ≡ stop.Write) first after m.tally m.tally now later mid z all_items lent.flow
                (item.lending.loan.len - done) up_poured
                (record { counts = refl; written = refl; loans = refl; copied = refl; flows = refl; room = refl }) (goes all_items written.given)
                (record {
                  notes = [];
                  taken = ap (λ (q : AppView). q.taken) view ∙ sym (append-nil mid.taken);
                  more = [];
                  reads = ap (λ (q : AppView). q.reads) view ∙ sym (append-nil mid.reads);
                })
                (ap (λ (q : AppView). length q.loans + length q.returned) view)
                (ap (λ (q : AppView). total lent_len q.loans + total lent_len q.returned) view)
                (ap (λ (q : AppView). q.spares) view)
                (first-same mid z (total (λ f. f.1) m.tally.counts) (ap (λ (q : AppView). q.written) view) (ap (λ (q : AppView). q.setting) view)
                (ap (λ (q : AppView). q.returned) view) up_poured.back)
                (ap kept_loans view) (λ is. is))
                keeps;
            sent = sym (ap tags_of out);
            once = (none_out 0 (omega arith)).each;
            few =
                let d : of_one (λ _. 1) m.tally.due ≡ 0 = ap (of_one (λ _. 1)) (ap (λ (t : TallyState). t.due) tally ∙ work-due) in
                let a : of_one (λ _. 1) m.uncarried ≡ 0 = ap (of_one (λ _. 1)) (aside ∙ before.carried nothing) in
                omega (arith, ap length out, d, a);
            loans = λ f.
                let l : total (λ (p : LentPiece). f p.place) z.loans ≡ 0 = ap (total (λ (p : LentPiece). f p.place)) none in
                let d : of_one f m.tally.due ≡ 0 = ap (of_one f) (ap (λ (t : TallyState). t.due) tally ∙ work-due) in
                let a : of_one f m.uncarried ≡ 0 = ap (of_one f) (aside ∙ before.carried nothing) in
                let s : of_sent f m.out ≡ 0 = ap (of_sent f) out in
                omega (arith, l, d, a, s);
            giving = inl none;
            whole = λ no. absurd (no-write m.tally.stopped no why);
            given_back = λ no. absurd (no-write m.tally.stopped no why);
            going = λ no. absurd (no-write m.tally.stopped no why);
            carried = λ no. absurd (no-write m.tally.stopped no why);
            over = λ _. stopped;
            failed = λ _. none;
            pressed = pressed;
            no_quit = λ quit. (let e : stop.Write ≡ stop.Quit = sym why ∙ quit in absurd (cc));
            later = omega (arith, before.later, grows);
            cause = λ _. Rose-earlier losses.faults losses_now.faults faults.faults before.later rose;
            still = λ not. absurd (not why);
            appended = all-took faults took ∙ ap (raised_by losses.appended) (sym (ap (λ (t : TallyState). t.written) tally));
          }

      -- all was carried
      pub carries : (faults : ShelfCounts) (tag : ℕ) (m : OutboxState) → m.tally ≡ k → m.out ≡ u.out ++ record { tag = tag; flow = lent.flow; loan = lent.loan } ∷ []
          → m.uncarried ≡ u.uncarried → lookup (nat_eq tag) tags ≡ None → length u.out < most_out → done ≡ lent.loan.len → StreamStands now y
          → faults.faults ≡ losses_now.faults → faults.appended ≡ raised_by losses_now.appended done
          → ForwardStands first losses m now (tags ++ (tag, lent.flow) ∷ []) after faults y
      carries faults tag m tally out aside free room full on same_faults took =
          let stopped_is : m.tally.stopped ≡ stop.No = ap (λ (q : TallyState). q.stopped) tally ∙ work-no in
          let none : item.lending.loan.len - done ≡ 0 = omega (arith, full, len_is) in
          let sent : Sent = record { tag = tag; flow = lent.flow; loan = lent.loan } in
          record {
            items = all_items;
            torn = lent.flow;
            missing = item.lending.loan.len - done;
            stands = on;
            poured = subst (λ (t : TallyState). HasPoured (t.stopped ≡ stop.Write) first t now after y all_items lent.flow (item.lending.loan.len - done)) (sym tally)
                (poured-moved (done < item.lending.loan.len) (k.stopped ≡ stop.Write) first after k k now now y y all_items lent.flow
                (item.lending.loan.len - done) written
                (record { counts = refl; written = refl; loans = refl; copied = refl; flows = refl; room = refl })
                written.given (record { notes = []; taken = sym (append-nil y.taken); more = []; reads = sym (append-nil y.reads) }) refl refl refl written.back refl
                (λ less. absurd (omega (arith, less, full, len_is))));
            sent = ap (λ ts. ts ++ (tag, lent.flow) ∷ []) before.sent ∙ sym (ap tags_of out ∙ tags-push u.out sent);
            once = (one_more 0 tag lent.flow tags (record { small = omega arith; each = before.once }) free).each;
            few =
                let d : of_one (λ _. 1) m.tally.due ≡ 0 = ap (of_one (λ _. 1)) (ap (λ (t : TallyState). t.due) tally ∙ work-due) in
                let a : of_one (λ _. 1) m.uncarried ≡ 0 = ap (of_one (λ _. 1)) (aside ∙ before.carried nothing) in
                omega (arith, ap length out, length-append u.out (sent ∷ []), room, d, a);
            loans = λ f.
                let now_out : total (λ (l : LentPiece). f l.place) y.loans ≡ f lent.loan + of_sent f u.out =
                ap (λ (q : AppView). total (λ (l : LentPiece). f l.place) q.loans) reads.view ∙ out-now f in
                let d : of_one f m.tally.due ≡ 0 = ap (of_one f) (ap (λ (t : TallyState). t.due) tally ∙ work-due) in
                let a : of_one f m.uncarried ≡ 0 = ap (of_one f) (aside ∙ before.carried nothing) in
                let s : of_sent f m.out ≡ of_sent f (u.out ++ sent ∷ []) = ap (of_sent f) out in
                let p : of_sent f (u.out ++ sent ∷ []) ≡ of_sent f u.out + (f lent.loan + 0) = total-append (λ (s : Sent). f s.loan) u.out (sent ∷ []) in
                omega (arith, now_out, d, a, s, p);
            giving = inr (still-all, omega (arith, none));
            whole = λ _. none;
            given_back = λ _. still-all;
            going = λ _. item.going.1;
            carried = λ _. aside ∙ before.carried nothing;
            over = λ not. absurd (not stopped_is);
            failed = λ write. absurd (no-write m.tally.stopped stopped_is write);
            pressed = λ yes. (let e : true ≡ false = sym yes ∙ item.more in absurd (cc));
            no_quit = λ quit. (let e : stop.No ≡ stop.Quit = sym stopped_is ∙ quit in absurd (cc));
            later = omega (arith, before.later, same_faults);
            cause = λ write. absurd (no-write m.tally.stopped stopped_is write);
            still = λ _. same_faults ∙ before.still (no-write u.tally.stopped nothing);
            appended = all-took faults took ∙ ap (raised_by losses.appended) (sym (ap (λ (t : TallyState). t.written) tally));
          }
