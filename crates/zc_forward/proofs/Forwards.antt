-- What forwarding keeps goes on: as the carrier tells, as a loan goes back, and as the stream takes steps that give no item.
use Rattle.std.proofs.Common.{◌≡◌, ◌≢◌, ℕ, ◌+◌, ◌≤◌, true, false, List, [], ◌∷◌, ◌++◌, length, Option, Some, None, refl, sym, ap, subst, ◌∙◌, arith, ⊎_elim, ◌⊎◌, inl, inr, append-nil}
use Rattle.std.specs.{Prelude.{IfNone, nat_eq}, List.{IsDistinct}, Map.{keys_of, remove_entry}}
use Rattle.zr_kinds.specs.declared.place.Place.{Place}
use Rattle.zr_kinds.specs.declared.behaviour.Stopped.TheVariants as stop
use Rattle.zr_io.{specs.Moved.{Rose, ShelfCounts, raised_by}, proofs.Moved.{Gained-then, Gained-nothing}}
use Rattle.board_face.specs.{AppEvents.{app_saw, gave, entry_of}, declared.views.app.{AppLook.{AppLook}, LentPiece.{LentPiece}, AppView.{AppView}}}
use Rattle.flow_queues.{specs.{Core.{total, IsIn}, Totals.{lent_len, loan_entries}, Ends.{bytes_written_of}, Counting.{TallyState}}, proofs.Tokens.{in-total}}
use Rattle.zc_poll.specs.{declared.to_shelf.PollTurn.{PollTurn, TheVariants.{Did, Idle, Ended}}, Standing.{Desk, StreamStands}}
use Rattle.zc_poll.specs.{Items.{GivenItem, HasGiven, marks_given}, PourTurns.{GoesBack}, Steps.{OnlySteps, Unlent}, Pouring.{IsPoured, HasPoured}}
use Rattle.zc_poll.proofs.{ItemPoured.{SameCounts, poured-moved, poured-all, same-kept}, EntriesFirst.{first-same, first-gave}, PouredOn.{sees-still}}
use Rattle.zc_poll.proofs.{PourTurns.{same-counts}, Pours.{is-no, no-write}}
use Rattle.zc_forward.specs.{declared.sent.Sent.{Sent}, Tags.{FlowsKeep, Tags, TakesTag}, Sending.{AreLoans, OutboxState, of_one, of_sent, tags_of, many_out, most_out}}
use Rattle.zc_forward.specs.{Forwarding.{ForwardStands}, Turns.{GivesLoanBack, with_due}}
use Rattle.zc_forward.proofs.{Live.{IsOut, counted-out, at_place, at-itself, went, went-places, went-many, went-lent, gave-entry, gave-returned}, Sents.{still-once}}

-- ---- the carrier told, or had none

pub poured-kept : (P : Type 0) (first kept later : ℕ → Option (List ℕ)) (w : TallyState) (st : Desk) (v : AppView) (items : List GivenItem) (torn missing : ℕ)
    → HasPoured P first w st kept v items torn missing → FlowsKeep kept later → HasPoured P first w st later v items torn missing
poured-kept P first kept later w st v items torn missing poured keeps =
    let Was : ℕ → List ℕ → Type 0 = λ n bytes. IsPoured (P × (n ≡ torn)) v (marks_given n items) (bytes_written_of n w.counts) bytes in
    record {
      given = poured.given;
      many = poured.many;
      lent = poured.lent;
      some = poured.some;
      copies = poured.copies;
      back = poured.back;
      sum = poured.sum;
      counts = poured.counts;
      once = poured.once;
      known = poured.known;
      written = poured.written;
      loans = poured.loans;
      copied = poured.copied;
      room = poured.room;
      empty = poured.empty;
      shelved = λ n. Gained-then (first n) (kept n) (later n) (Was n) (λ more. more ≡ []) (Was n)
          (λ bytes more is none. subst (λ ms. Was n (bytes ++ ms)) (sym none) (subst (Was n) (sym (append-nil bytes)) is))
          (poured.shelved n) (Gained-nothing (kept n) (later n) (λ more. more ≡ []) (keeps n) refl);
    }

pub kept-forwards : (first got later : ℕ → Option (List ℕ)) (losses now after : ShelfCounts) (w : OutboxState) (st : Desk) (tags : Tags) (v : AppView)
    → ForwardStands first losses w st tags got now v → FlowsKeep got later → after ≡ now → ForwardStands first losses w st tags later after v
kept-forwards first got later losses now after w st tags v before keeps same = record {
  items = before.items;
  torn = before.torn;
  missing = before.missing;
  stands = before.stands;
  poured = poured-kept (w.tally.stopped ≡ stop.Write) first got later w.tally st v before.items before.torn before.missing before.poured keeps;
  sent = before.sent;
  once = before.once;
  few = before.few;
  loans = before.loans;
  giving = before.giving;
  whole = before.whole;
  given_back = before.given_back;
  going = before.going;
  carried = before.carried;
  over = before.over;
  failed = before.failed;
  pressed = before.pressed;
  no_quit = before.no_quit;
  later = omega (arith, before.later, ap (λ (c : ShelfCounts). c.faults) same);
  cause = λ write. subst (Rose losses.faults) (sym (ap (λ (c : ShelfCounts). c.faults) same)) (before.cause write);
  still = λ not. ap (λ (c : ShelfCounts). c.faults) same ∙ before.still not;
  appended = ap (λ (c : ShelfCounts). c.appended) same ∙ before.appended;
}

-- of what is due and what stopped it nothing was poured
pub poured-as : (P Q : Type 0) (first kept : ℕ → Option (List ℕ)) (u w : TallyState) (st : Desk) (v : AppView) (items : List GivenItem) (torn missing : ℕ)
    → HasPoured P first u st kept v items torn missing → SameCounts u w → (P → Q) → HasPoured Q first w st kept v items torn missing
poured-as P Q first kept u w st v items torn missing poured work implies =
    poured-moved P Q first kept u w st st v v items torn missing poured work poured.given (sees-still v) refl refl refl poured.back refl implies

-- the tag of a loan was told, which is due from now on
pub told-forwards : (first got : ℕ → Option (List ℕ)) (losses now : ShelfCounts) (w z : OutboxState) (st : Desk) (was tags : Tags) (tag : ℕ) (loan : Place) (v : AppView)
    → ForwardStands first losses w st was got now v → TakesTag was tags (Some tag) → w.tally.due ≡ None → tags_of z.out ≡ remove_entry (nat_eq tag) (tags_of w.out)
    → ((f : Place → ℕ) → f loan + of_sent f z.out ≡ of_sent f w.out) → length z.out + 1 ≡ length w.out → z ≡ record w { out = z.out }
    → ForwardStands first losses (with_due z (Some loan)) st tags got now v
told-forwards first got losses now w z st was tags tag loan v before took due gone sums few same =
    let tally : z.tally ≡ w.tally = ap (λ (o : OutboxState). o.tally) same in
    let aside : z.uncarried ≡ w.uncarried = ap (λ (o : OutboxState). o.uncarried) same in
    let pressed : z.pressed ≡ w.pressed = ap (λ (o : OutboxState). o.pressed) same in
    let stopped : z.tally.stopped ≡ w.tally.stopped = ap (λ (t : TallyState). t.stopped) tally in
    record {
      items = before.items;
      torn = before.torn;
      missing = before.missing;
      stands = before.stands;
      poured = poured-as (w.tally.stopped ≡ stop.Write) (z.tally.stopped ≡ stop.Write) first got w.tally (record z.tally { due = Some loan }) st v before.items
          before.torn before.missing before.poured
          (record {
            counts = ap (λ (t : TallyState). t.counts) tally;
            written = ap (λ (t : TallyState). t.written) tally;
            loans = ap (λ (t : TallyState). t.loans) tally;
            copied = ap (λ (t : TallyState). t.copied) tally;
            flows = ap (λ (t : TallyState). t.flows) tally;
            room = ap (λ (t : TallyState). t.room) tally;
          })
          (λ write. stopped ∙ write);
      sent = took.1 ∙ ap (remove_entry (nat_eq tag)) before.sent ∙ sym gone;
      once = subst (λ (ts : Tags). IsDistinct nat_eq (keys_of ts)) (sym took.1) (still-once tag was before.once);
      few =
          let none : of_one (λ _. 1) w.tally.due ≡ 0 = ap (of_one (λ _. 1)) due in
          let rest : of_one (λ _. 1) z.uncarried ≡ of_one (λ _. 1) w.uncarried = ap (of_one (λ _. 1)) aside in
          omega (arith, few, before.few, none, rest);
      loans = λ f.
          let sum = sums f in
          let all = before.loans f in
          let none : of_one f w.tally.due ≡ 0 = ap (of_one f) due in
          let rest : of_one f z.uncarried ≡ of_one f w.uncarried = ap (of_one f) aside in
          omega (arith, sum, all, none, rest);
      giving = subst (λ u. (v.loans ≡ []) ⊎ ((loan_entries v ≡ length v.returned) × (before.missing ≤ of_one (λ p. p.len) u))) (sym aside) before.giving;
      whole = λ no. before.whole (sym stopped ∙ no);
      given_back = λ no. before.given_back (sym stopped ∙ no);
      going = λ no. before.going (sym stopped ∙ no);
      carried = λ no. aside ∙ before.carried (sym stopped ∙ no);
      over = λ not. before.over (λ no. not (stopped ∙ no));
      failed = λ write. before.failed (sym stopped ∙ write);
      pressed = λ ended. pressed ∙ before.pressed ended;
      no_quit = λ quit. before.no_quit (sym stopped ∙ quit);
      later = before.later;
      cause = λ write. before.cause (sym stopped ∙ write);
      still = λ not. before.still (λ write. not (stopped ∙ write));
      appended = before.appended ∙ ap (λ (t : TallyState). raised_by losses.appended t.written) (sym tally);
    }

-- ---- a look, and the loan that is due

pub saw-forwards : (first got : ℕ → Option (List ℕ)) (losses now_losses : ShelfCounts) (w : OutboxState) (st now : Desk) (tags : Tags) (v z : AppView) (look : AppLook)
    → ForwardStands first losses w st tags got now_losses v → z ≡ app_saw v look → StreamStands now z → now ≡ st
    → ForwardStands first losses w now tags got now_losses z
saw-forwards first got losses now_losses w st now tags v z look before view stands desk =
    let on : StreamStands st z = subst (λ (d : Desk). StreamStands d z) desk stands in
    subst (λ (d : Desk). ForwardStands first losses w d tags got now_losses z) (sym desk) (record {
      items = before.items;
      torn = before.torn;
      missing = before.missing;
      stands = on;
      poured = subst (λ (k : AppView). HasPoured (w.tally.stopped ≡ stop.Write) first w.tally st got k before.items before.torn before.missing) (sym view)
          (poured-moved (w.tally.stopped ≡ stop.Write) (w.tally.stopped ≡ stop.Write) first got w.tally w.tally st st v (app_saw v look) before.items before.torn
          before.missing before.poured (same-counts w.tally) before.poured.given
          (record { notes = []; taken = sym (append-nil v.taken); more = []; reads = sym (append-nil v.reads) }) refl refl refl
          (first-same v (app_saw v look) (total (λ f. f.1) w.tally.counts) refl refl refl before.poured.back) refl (λ is. is));
      sent = before.sent;
      once = before.once;
      few = before.few;
      loans = subst (λ (k : AppView). AreLoans w k.loans) (sym view) before.loans;
      giving = subst (λ (k : AppView). (k.loans ≡ []) ⊎ ((loan_entries k ≡ length k.returned) × (before.missing ≤ of_one (λ p. p.len) w.uncarried))) (sym view) before.giving;
      whole = before.whole;
      given_back = subst (λ (k : AppView). w.tally.stopped ≡ stop.No → loan_entries k ≡ length k.returned) (sym view) before.given_back;
      going = before.going;
      carried = before.carried;
      over = before.over;
      failed = subst (λ (k : AppView). w.tally.stopped ≡ stop.Write → k.loans ≡ []) (sym view) before.failed;
      pressed = before.pressed;
      no_quit = before.no_quit;
      later = before.later;
      cause = before.cause;
      still = before.still;
      appended = before.appended;
    })

-- the loan that is due is out
pub due-out : (w : OutboxState) (loans : List LentPiece) (loan : Place) → AreLoans w loans → w.tally.due ≡ Some loan → IsOut loan loans
due-out w loans loan are due =
    let here : of_one (at_place loan) w.tally.due ≡ 1 = ap (of_one (at_place loan)) due ∙ at-itself loan in
    counted-out loan loans (omega (arith, are (at_place loan), here))

module _ (first got : ℕ → Option (List ℕ)) (losses now_losses : ShelfCounts) (w : OutboxState) (st now : Desk) (tags : Tags) (v z : AppView) (loan : Place)
    (before : ForwardStands first losses (with_due w (Some loan)) st tags got now_losses v) (due : w.tally.due ≡ None) (view : z ≡ gave v loan)
    (stands : StreamStands now z) (desk : now ≡ st) where
  out : IsOut loan v.loans
  out = due-out (with_due w (Some loan)) v.loans loan before.loans refl

  some-out : v.loans ≡ [] → ⊥
  some-out none = subst (IsIn out.piece) none out.there

  all : (loan_entries v ≡ length v.returned) × (before.missing ≤ of_one (λ p. p.len) w.uncarried)
  all = ⊎_elim (λ (none : v.loans ≡ []). absurd (some-out none))
      (λ (is : (loan_entries v ≡ length v.returned) × (before.missing ≤ of_one (λ p. p.len) w.uncarried)). is) before.giving

  entries : loan_entries z ≡ length z.returned
  entries = subst (λ (k : AppView). loan_entries k ≡ length k.returned) (sym view)
      (omega (arith, gave-entry v before.stands.common.apart loan out, gave-returned v before.stands.common.apart loan out, all.0))

  pub gave-forwards : ForwardStands first losses w now tags got now_losses z
  gave-forwards =
      let apart = before.stands.common.apart in
      let gone = went v apart loan out in
      let len : lent_len gone.piece ≡ loan.len = ap (λ (p : Place). p.len) gone.at in
      let out_len : total lent_len v.loans ≡ loan.len + of_one (λ p. p.len) w.uncarried + of_sent (λ p. p.len) w.out = before.loans (λ (p : Place). p.len) in
      record {
        items = before.items;
        torn = before.torn;
        missing = before.missing;
        stands = stands;
        poured = poured-all (w.tally.stopped ≡ stop.Write) (w.tally.stopped ≡ stop.Write) first got (record w.tally { due = Some loan }) w.tally st now v z
            before.items before.torn before.missing before.poured
            (record { counts = refl; written = refl; loans = refl; copied = refl; flows = refl; room = refl })
            (subst (λ (d : Desk). HasGiven before.items d.flows z.taken) (sym desk) (subst (λ (k : AppView). HasGiven before.items st.flows k.taken) (sym view) before.poured.given))
            (record {
              notes = [];
              taken = ap (λ (k : AppView). k.taken) view ∙ sym (append-nil v.taken);
              more = [];
              reads = ap (λ (k : AppView). k.reads) view ∙ sym (append-nil v.reads);
            })
            (ap (λ (k : AppView). length k.loans + length k.returned) view ∙ went-many v apart loan out)
            (ap (λ (k : AppView). total lent_len k.loans + total lent_len k.returned) view ∙ went-lent v apart loan out)
            (ap (λ (k : AppView). k.spares) view)
            (first-gave v z gone.piece (total (λ f. f.1) w.tally.counts)
            (ap (λ (k : AppView). k.written) view ∙ ap (λ (p : Place). v.written ++ record { entry = entry_of v.setting.layout p; of_loan = true } ∷ []) (sym gone.at))
            (ap (λ (k : AppView). k.setting) view) (ap (λ (k : AppView). k.returned) view ∙ gone.returned) all.0
            (omega (arith, before.poured.lent, before.poured.sum, all.1, len, out_len)) before.poured.back)
            (λ write. some-out (before.failed write));
        sent = before.sent;
        once = before.once;
        few = (let none : of_one (λ _. 1) w.tally.due ≡ 0 = ap (of_one (λ _. 1)) due in omega (arith, before.few, none));
        loans = λ f.
            let gone_sum : total (λ (l : LentPiece). f l.place) z.loans + f loan ≡ total (λ (l : LentPiece). f l.place) v.loans =
            subst (λ (k : AppView). total (λ (l : LentPiece). f l.place) k.loans + f loan ≡ total (λ (l : LentPiece). f l.place) v.loans) (sym view)
            (went-places v apart loan out f) in
            let were = before.loans f in
            let none : of_one f w.tally.due ≡ 0 = ap (of_one f) due in
            omega (arith, gone_sum, were, none);
        giving = inr (entries, all.1);
        whole = before.whole;
        given_back = λ _. entries;
        going = λ no. ap (λ (d : Desk). d.stopped) desk ∙ before.going no;
        carried = before.carried;
        over = λ not. ap (λ (d : Desk). d.stopped) desk ∙ before.over not;
        failed = λ write. absurd (some-out (before.failed write));
        pressed = λ ended. before.pressed (sym (ap (λ (d : Desk). d.ended) desk) ∙ ended);
        no_quit = before.no_quit;
        later = before.later;
        cause = before.cause;
        still = before.still;
        appended = before.appended;
      }

-- ---- a step that gave no item

module _ (first got : ℕ → Option (List ℕ)) (losses now_losses : ShelfCounts) (u w : OutboxState) (st now : Desk) (tags : Tags) (v z : AppView)
    (before : ForwardStands first losses u st tags got now_losses v) (unlent : Unlent st now v z) (only : OnlySteps v z) (stands : StreamStands now z)
    (work : SameCounts u.tally w.tally) (due : w.tally.due ≡ u.tally.due) (sent : w.out ≡ u.out) (aside : w.uncarried ≡ u.uncarried)
    (pressed : now.ended ≡ true → w.pressed ≡ true) where
  returned : z.returned ≡ v.returned
  returned = ap (λ (k : AppView). k.returned) only.view

  entered : z.written ≡ v.written
  entered = ap (λ (k : AppView). k.written) only.view

  poured-still : (Q : Type 0) → (u.tally.stopped ≡ stop.Write → Q) → HasPoured Q first w.tally now got z before.items before.torn before.missing
  poured-still Q implies = poured-moved (u.tally.stopped ≡ stop.Write) Q first got u.tally w.tally st now v z before.items before.torn before.missing before.poured work
      (unlent.items before.items before.poured.given)
      (record { notes = only.more; taken = only.taken; more = []; reads = ap (λ (k : AppView). k.reads) only.view ∙ sym (append-nil v.reads) })
      (omega (arith, ap length unlent.loans, ap length returned))
      (omega (arith, ap (total lent_len) unlent.loans, ap (total lent_len) returned))
      unlent.spares
      (first-same v z (total (λ f. f.1) u.tally.counts) entered (ap (λ (k : AppView). k.setting) only.view) returned before.poured.back)
      (same-kept v z unlent.loans returned entered) implies

  all-entries : loan_entries v ≡ length v.returned → loan_entries z ≡ length z.returned
  all-entries all = (let e : loan_entries z ≡ loan_entries v = ap loan_entries only.view in omega (arith, e, ap length returned, all))

  still-loans : AreLoans w z.loans
  still-loans f =
      let l = ap (total (λ (x : LentPiece). f x.place)) unlent.loans in
      let d = ap (of_one f) due in
      let a = ap (of_one f) aside in
      let s = ap (of_sent f) sent in
      omega (arith, l, d, a, s, before.loans f)

  still-few : many_out w ≤ most_out
  still-few =
      let d = ap (of_one (λ _. 1)) due in
      let a = ap (of_one (λ _. 1)) aside in
      omega (arith, before.few, ap length sent, d, a)

  still-giving : (z.loans ≡ []) ⊎ ((loan_entries z ≡ length z.returned) × (before.missing ≤ of_one (λ p. p.len) w.uncarried))
  still-giving = ⊎_elim (λ (none : v.loans ≡ []). inl (unlent.loans ∙ none))
      (λ (is : (loan_entries v ≡ length v.returned) × (before.missing ≤ of_one (λ p. p.len) u.uncarried)).
      inr (all-entries is.0, (let a : of_one (λ p. p.len) w.uncarried ≡ of_one (λ p. p.len) u.uncarried = ap (of_one (λ p. p.len)) aside in omega (arith, a, is.1))))
      before.giving

  -- it goes on as it did
  pub step-forwards : w.tally.stopped ≡ u.tally.stopped → now.stopped ≡ st.stopped → ForwardStands first losses w now tags got now_losses z
  step-forwards same stopped = record {
    items = before.items;
    torn = before.torn;
    missing = before.missing;
    stands = stands;
    poured = poured-still (w.tally.stopped ≡ stop.Write) (λ is. same ∙ is);
    sent = before.sent ∙ sym (ap tags_of sent);
    once = before.once;
    few = still-few;
    loans = still-loans;
    giving = still-giving;
    whole = λ is. before.whole (sym same ∙ is);
    given_back = λ is. all-entries (before.given_back (sym same ∙ is));
    going = λ is. stopped ∙ before.going (sym same ∙ is);
    carried = λ is. aside ∙ before.carried (sym same ∙ is);
    over = λ is. stopped ∙ before.over (λ e. is (same ∙ e));
    failed = λ is. unlent.loans ∙ before.failed (sym same ∙ is);
    pressed = pressed;
    no_quit = λ quit. before.no_quit (sym same ∙ quit);
    later = before.later;
    cause = λ is. before.cause (sym same ∙ is);
    still = λ is. before.still (λ e. is (same ∙ e));
    appended = before.appended ∙ ap (raised_by losses.appended) (sym work.written);
  }

  -- there was no memory
  pub memory-forwards : w.tally.stopped ≡ stop.Memory → st.stopped ≡ false → now.stopped ≡ true → ForwardStands first losses w now tags got now_losses z
  memory-forwards same was is =
      let nothing : u.tally.stopped ≡ stop.No = ⊎_elim (λ (e : u.tally.stopped ≡ stop.No). e)
      (λ (e : u.tally.stopped ≢ stop.No). (let clash : false ≡ true = sym was ∙ before.over e in absurd (cc))) (is-no u.tally.stopped) in
      record {
        items = before.items;
        torn = before.torn;
        missing = before.missing;
        stands = stands;
        poured = poured-still (w.tally.stopped ≡ stop.Write) (λ write. absurd (no-write u.tally.stopped nothing write));
        sent = before.sent ∙ sym (ap tags_of sent);
        once = before.once;
        few = still-few;
        loans = still-loans;
        giving = still-giving;
        whole = λ no. (let clash : stop.Memory ≡ stop.No = sym same ∙ no in absurd (cc));
        given_back = λ no. (let clash : stop.Memory ≡ stop.No = sym same ∙ no in absurd (cc));
        going = λ no. (let clash : stop.Memory ≡ stop.No = sym same ∙ no in absurd (cc));
        carried = λ no. (let clash : stop.Memory ≡ stop.No = sym same ∙ no in absurd (cc));
        over = λ _. is;
        failed = λ write. (let clash : stop.Memory ≡ stop.Write = sym same ∙ write in absurd (cc));
        pressed = pressed;
        no_quit = λ quit. (let clash : stop.Memory ≡ stop.Quit = sym same ∙ quit in absurd (cc));
        later = before.later;
        cause = λ write. (let clash : stop.Memory ≡ stop.Write = sym same ∙ write in absurd (cc));
        still = λ _. before.still (no-write u.tally.stopped nothing);
        appended = before.appended ∙ ap (raised_by losses.appended) (sym work.written);
      }

-- a loan whose tag is out is out
pub sent-out : (w : OutboxState) (loans : List LentPiece) (s : Sent) → AreLoans w loans → IsIn s w.out → IsOut s.loan loans
sent-out w loans s are there =
    let here : at_place s.loan s.loan ≤ of_sent (at_place s.loan) w.out = in-total (λ (x : Sent). at_place s.loan x.loan) s w.out there in
    counted-out s.loan loans (omega (arith, are (at_place s.loan), here, at-itself s.loan))

pub goes-back : (loan : Place) (w z : OutboxState) (old new : AppView) (ran : PollTurn) → GivesLoanBack loan w z old new ran → w.tally.due ≡ None
    → GoesBack loan z.tally.due old new
goes-back loan w z old new Did back none =
    subst (λ due. GoesBack loan due old new) (sym (ap (λ (o : OutboxState). o.tally.due) back.0 ∙ none)) back.1
goes-back loan w z old new (Idle why) back none =
    subst (λ due. GoesBack loan due old new) (sym (ap (λ (o : OutboxState). o.tally.due) back.1)) (refl, back.2, back.3)
goes-back loan w z old new (Ended poured) back none = absurd back

pub if-none : (told : Option ℕ) (P : Type 0) → IfNone told P → told ≡ None → P
if-none told P holds is = subst (λ o. IfNone o P) is holds

-- and nothing else that is kept changed but what is due
pub back-work : (loan : Place) (w z : OutboxState) (old new : AppView) (ran : PollTurn) → GivesLoanBack loan w z old new ran → z ≡ with_due w z.tally.due
back-work loan w z old new Did back = subst (λ (o : OutboxState). o ≡ with_due w o.tally.due) (sym back.0) refl
back-work loan w z old new (Idle why) back = subst (λ (o : OutboxState). o ≡ with_due w o.tally.due) (sym back.1) refl
back-work loan w z old new (Ended poured) back = absurd back
