-- What was poured stays so over a turn that writes nothing.
use Rattle.std.proofs.Common.{◌≡◌, ◌≢◌, ℕ, ◌+◌, true, false, List, [], ◌∷◌, ◌++◌, length, Option, Some, None, refl, sym, ap, subst, ◌∙◌, arith, ⊎_elim, inl, append-nil}
use Rattle.zr_kinds.specs.declared.place.Place.{Place}
use Rattle.zr_kinds.specs.declared.behaviour.Stopped.TheVariants as stop
use Rattle.board_face.specs.{AppCalls.{HasLoan}, AppEvents.{app_saw, entry_of, gave}, declared.views.app.{AppLook.{AppLook}, LentPiece.{LentPiece}, AppView.{AppView}}}
use Rattle.flow_queues.specs.{Core.{OnlyReads, total}, Totals.{lent_len, loan_entries}, Counting.{TallyState}}
use Rattle.zc_poll.specs.{Standing.{Desk, StreamStands}, Items.{HasGiven}, declared.{step.Lent.{Lent}, to_shelf.PollTurn.{PollTurn}}}
use Rattle.zc_poll.specs.declared.to_shelf.{PollTurn.TheVariants.{Did, Idle, Ended}, Rests.TheVariants.{Stream, RefillFull, NotQuiet, NoNotice}}
use Rattle.zc_poll.specs.{Steps.{OnlySteps, Unlent, IsItem}, Pouring.{HasPoured, OnlyDue, PourStands}, PourTurns.{GoesBack, HadItem, IsRead, PourStage, PourTurnDoes, pour_stage}}
use Rattle.zc_poll.proofs.{ItemPoured.{SameCounts, poured-moved, poured-all, same-kept}, EntriesFirst.{first-gave, first-same}}
use Rattle.zc_poll.proofs.{LoanGone.{gone-loans, gone-returned, gone-many, gone-lent, gave-entries}, Pours.{is-no, no-write}}
use Rattle.zr_io.specs.Moved.{ShelfCounts, raised_by}

pub same-counts : (u : TallyState) → SameCounts u u
same-counts u = record { counts = refl; written = refl; loans = refl; copied = refl; flows = refl; room = refl }

-- ---- a look

pub saw-pours : (first kept : ℕ → Option (List ℕ)) (losses losses_now : ShelfCounts) (u : TallyState) (st now : Desk) (v z : AppView) (look : AppLook)
    → PourStands first losses u st kept losses_now v → z ≡ app_saw v look → StreamStands now z → now ≡ st → PourStands first losses u now kept losses_now z
saw-pours first kept losses losses_now u st now v z look before view stands desk =
    let on : StreamStands st z = subst (λ (d : Desk). StreamStands d z) desk stands in
    subst (λ (d : Desk). PourStands first losses u d kept losses_now z) (sym desk) (record {
      items = before.items;
      torn = before.torn;
      missing = before.missing;
      stands = on;
      poured = subst (λ (k : AppView). HasPoured (u.stopped ≡ stop.Write) first u st kept k before.items before.torn before.missing) (sym view)
          (poured-moved (u.stopped ≡ stop.Write) (u.stopped ≡ stop.Write) first kept u u st st v (app_saw v look) before.items before.torn before.missing
          before.poured (same-counts u) before.poured.given
          (record { notes = []; taken = sym (append-nil v.taken); more = []; reads = sym (append-nil v.reads) }) refl refl refl
          (first-same v (app_saw v look) (total (λ f. f.1) u.counts) refl refl refl before.poured.back) refl
          (λ is. is));
      due = subst (λ (k : AppView). OnlyDue u.due k.loans) (sym view) before.due;
      whole = before.whole;
      given_back = subst (λ (k : AppView). u.stopped ≡ stop.No → loan_entries k ≡ length k.returned) (sym view) before.given_back;
      going = before.going;
      over = subst (λ (k : AppView). u.stopped ≢ stop.No → (st.stopped ≡ true) × (k.loans ≡ [])) (sym view) before.over;
      no_quit = before.no_quit;
      later = before.later;
      cause = before.cause;
      still = before.still;
      appended = before.appended;
    })

-- ---- the loan that was due was given back

module _ (first kept : ℕ → Option (List ℕ)) (losses losses_now : ShelfCounts) (u w : TallyState) (st now : Desk) (v z : AppView) (loan : Place)
    (before : PourStands first losses u st kept losses_now v) (due : u.due ≡ Some loan) (view : z ≡ gave v loan) (stands : StreamStands now z) (desk : now ≡ st)
    (done : w.due ≡ None) (same : w.stopped ≡ u.stopped) (work : SameCounts u w) where
  out : (piece : LentPiece) × (v.loans ≡ piece ∷ []) × (piece.place ≡ loan)
  out = subst (λ d. OnlyDue d v.loans) due before.due

  going : u.stopped ≡ stop.No
  going = ⊎_elim (λ is. is)
      (λ stopped. (let e : out.0 ∷ [] ≡ [] = sym out.1 ∙ (before.over stopped).1 in let n : 1 ≡ 0 = ap length e in absurd (omega (arith, n))))
      (is-no u.stopped)

  gone : z.loans ≡ []
  gone = ap (λ (k : AppView). k.loans) view ∙ gone-loans v before.stands.common.apart out.0 out.1 loan out.2

  pub gave-pours : PourStands first losses w now kept losses_now z
  gave-pours =
      let apart = before.stands.common.apart in
      let entries : loan_entries z ≡ length z.returned =
      subst (λ (k : AppView). loan_entries k ≡ length k.returned) (sym view) (gave-entries v apart out.0 out.1 loan out.2 (before.given_back going)) in
      record {
        items = before.items;
        torn = before.torn;
        missing = before.missing;
        stands = stands;
        poured = poured-all (u.stopped ≡ stop.Write) (w.stopped ≡ stop.Write) first kept u w st now v z before.items before.torn before.missing before.poured work
            (subst (λ (d : Desk). HasGiven before.items d.flows z.taken) (sym desk) (subst (λ (k : AppView). HasGiven before.items st.flows k.taken) (sym view) before.poured.given))
            (record {
              notes = [];
              taken = ap (λ (k : AppView). k.taken) view ∙ sym (append-nil v.taken);
              more = [];
              reads = ap (λ (k : AppView). k.reads) view ∙ sym (append-nil v.reads);
            })
            (ap (λ (k : AppView). length k.loans + length k.returned) view ∙ gone-many v apart out.0 out.1 loan out.2)
            (ap (λ (k : AppView). total lent_len k.loans + total lent_len k.returned) view ∙ gone-lent v apart out.0 out.1 loan out.2)
            (ap (λ (k : AppView). k.spares) view)
            (first-gave v z out.0 (total (λ f. f.1) u.counts)
            (ap (λ (k : AppView). k.written) view ∙ ap (λ (q : Place). v.written ++ record { entry = entry_of v.setting.layout q; of_loan = true } ∷ []) (sym out.2))
            (ap (λ (k : AppView). k.setting) view) (ap (λ (k : AppView). k.returned) view ∙ gone-returned v apart out.0 out.1 loan out.2) (before.given_back going)
            (omega (arith, before.poured.lent, before.poured.sum, before.whole going, ap (total lent_len) out.1)) before.poured.back)
            (no-write u.stopped going);
        due = subst (λ d. OnlyDue d z.loans) (sym done) gone;
        whole = λ _. before.whole going;
        given_back = λ _. entries;
        going = λ _. ap (λ (d : Desk). d.stopped) desk ∙ before.going going;
        over = λ not. absurd (not (same ∙ going));
        no_quit = λ quit. before.no_quit (sym same ∙ quit);
        later = before.later;
        cause = λ is. before.cause (sym same ∙ is);
        still = λ is. before.still (λ e. is (same ∙ e));
        appended = before.appended ∙ ap (raised_by losses.appended) (sym work.written);
      }

-- ---- a step that gave no item

module _ (first kept : ℕ → Option (List ℕ)) (losses losses_now : ShelfCounts) (u w : TallyState) (st now : Desk) (v z : AppView)
    (before : PourStands first losses u st kept losses_now v) (unlent : Unlent st now v z) (only : OnlySteps v z) (stands : StreamStands now z)
    (work : SameCounts u w) (due : w.due ≡ u.due) where
  returned : z.returned ≡ v.returned
  returned = ap (λ (k : AppView). k.returned) only.view

  entered : z.written ≡ v.written
  entered = ap (λ (k : AppView). k.written) only.view

  poured-still : (Q : Type 0) → (u.stopped ≡ stop.Write → Q) → HasPoured Q first w now kept z before.items before.torn before.missing
  poured-still Q implies = poured-moved (u.stopped ≡ stop.Write) Q first kept u w st now v z before.items before.torn before.missing before.poured work
      (unlent.items before.items before.poured.given)
      (record { notes = only.more; taken = only.taken; more = []; reads = ap (λ (k : AppView). k.reads) only.view ∙ sym (append-nil v.reads) })
      (omega (arith, ap length unlent.loans, ap length returned))
      (omega (arith, ap (total lent_len) unlent.loans, ap (total lent_len) returned))
      unlent.spares
      (first-same v z (total (λ f. f.1) u.counts) entered (ap (λ (k : AppView). k.setting) only.view) returned before.poured.back)
      (same-kept v z unlent.loans returned entered) implies

  all-entries : loan_entries v ≡ length v.returned → loan_entries z ≡ length z.returned
  all-entries all = (let e : loan_entries z ≡ loan_entries v = ap loan_entries only.view in omega (arith, e, ap length returned, all))

  -- it goes on as it did
  pub step-pours : w.stopped ≡ u.stopped → now.stopped ≡ st.stopped → PourStands first losses w now kept losses_now z
  step-pours same stopped = record {
    items = before.items;
    torn = before.torn;
    missing = before.missing;
    stands = stands;
    poured = poured-still (w.stopped ≡ stop.Write) (λ is. same ∙ is);
    due = subst (λ ls. OnlyDue w.due ls) (sym unlent.loans) (subst (λ d. OnlyDue d v.loans) (sym due) before.due);
    whole = λ is. before.whole (sym same ∙ is);
    given_back = λ is. all-entries (before.given_back (sym same ∙ is));
    going = λ is. stopped ∙ before.going (sym same ∙ is);
    over = λ is. (let was = before.over (λ e. is (same ∙ e)) in (stopped ∙ was.0, unlent.loans ∙ was.1));
    no_quit = λ quit. before.no_quit (sym same ∙ quit);
    later = before.later;
    cause = λ is. before.cause (sym same ∙ is);
    still = λ is. before.still (λ e. is (same ∙ e));
    appended = before.appended ∙ ap (raised_by losses.appended) (sym work.written);
  }

  -- there was no memory
  pub memory-pours : w.stopped ≡ stop.Memory → u.due ≡ None → st.stopped ≡ false → now.stopped ≡ true → PourStands first losses w now kept losses_now z
  memory-pours same none was is =
      let going : u.stopped ≡ stop.No = ⊎_elim (λ (e : u.stopped ≡ stop.No). e)
      (λ (e : u.stopped ≢ stop.No). (let clash : false ≡ true = sym was ∙ (before.over e).0 in absurd (cc))) (is-no u.stopped) in
      let out : v.loans ≡ [] = subst (λ d. OnlyDue d v.loans) none before.due in
      record {
        items = before.items;
        torn = before.torn;
        missing = before.missing;
        stands = stands;
        poured = poured-still (w.stopped ≡ stop.Write) (λ write. absurd (no-write u.stopped going write));
        due = subst (λ d. OnlyDue d z.loans) (sym (due ∙ none)) (unlent.loans ∙ out);
        whole = λ no_stop. (let clash : stop.Memory ≡ stop.No = sym same ∙ no_stop in absurd (cc));
        given_back = λ no_stop. (let clash : stop.Memory ≡ stop.No = sym same ∙ no_stop in absurd (cc));
        going = λ no_stop. (let clash : stop.Memory ≡ stop.No = sym same ∙ no_stop in absurd (cc));
        over = λ _. (is, unlent.loans ∙ out);
        no_quit = λ quit. (let clash : stop.Memory ≡ stop.Quit = sym same ∙ quit in absurd (cc));
        later = before.later;
        cause = λ write. (let clash : stop.Memory ≡ stop.Write = sym same ∙ write in absurd (cc));
        still = λ _. before.still (no-write u.stopped going);
        appended = before.appended ∙ ap (raised_by losses.appended) (sym work.written);
      }

-- ---- an item came

pub only-reads-none : (v : AppView) → OnlyReads v v
only-reads-none v = record { view = refl; more = []; are = sym (append-nil v.reads) }

-- what is due is out
pub due-out : (v : AppView) (loan : Place) → OnlyDue (Some loan) v.loans → HasLoan v loan
due-out v loan (piece, one, place) = rw one (0, omega arith, place)

by-turn : (st : Desk) (y : AppView) (now : PourStage) (loan : Place) (ran : PollTurn) → PourTurnDoes (pour_stage (Some loan) st y) now ran
    → GoesBack loan now.due y now.view
by-turn st y now loan Did does = subst (λ (n : PourStage). GoesBack loan n.due y n.view) (sym does) refl
by-turn st y now loan (Idle RefillFull) does = subst (λ due. GoesBack loan due y now.view) (sym does.1) (refl, does.3, does.4)
by-turn st y now loan (Idle (Stream why)) does = (let none : Some loan ≡ None = does.0 in absurd (cc))
by-turn st y now loan (Idle NotQuiet) does = (let none : Some loan ≡ None = does.0 in absurd (cc))
by-turn st y now loan (Idle NoNotice) does = absurd does
by-turn st y now loan (Ended poured) does = (let none : Some loan ≡ None = does.0 in absurd (cc))

-- the loan that was written was given back, or a refill slot was seen in use
pub tried : (was now : PourStage) (mid kept : Desk) (x y : AppView) (lent : Lent) (loan : Place) (ran : PollTurn) → IsItem was.desk mid was.view x lent
    → OnlySteps was.view x → IsRead lent.loan mid kept x y (Some loan) → now.desk ≡ kept → PourTurnDoes (pour_stage (Some loan) kept y) now ran
    → HadItem was now
tried was now mid kept x y lent loan ran item only (same, desk, reads) still does = record {
  desk = mid;
  view = x;
  lent = lent;
  item = item;
  only = only;
  read = y;
  reads = reads;
  went = inl (still ∙ desk, subst (λ (p : Place). GoesBack p now.due y now.view) same (by-turn kept y now loan ran does));
}
