-- Forwarding comes to its end as pouring does.
use Rattle.std.proofs.Common.{◌≡◌, ◌≢◌, ℕ, ◌+◌, true, false, List, [], ◌∷◌, length, Option, Some, None, sym, ap, subst, ◌∙◌, arith, ⊎_elim, inl, append-nil}
use Rattle.std.specs.{Prelude.{◌↔◌, IfSome, nat_eq}, List.{IsDistinct}, Map.{keys_of}}
use Rattle.zr_kinds.specs.declared.place.Place.{Place}
use Rattle.zr_kinds.specs.declared.behaviour.Stopped.TheVariants as stop
use Rattle.board_face.specs.{AppCalls.{HasLoan}, AppEvents.{abandoned}, declared.views.app.{LentPiece.{LentPiece}, AppView.{AppView}}}
use Rattle.flow_queues.specs.{Core.{total, IsIn}, Totals.{lent_len}}
use Rattle.zc_poll.{specs.{Standing.{Desk, StreamStands}, Items.{HasGiven}, Pouring.{OnlyDue, PourStands}}, proofs.{ItemPoured.{poured-all}, EntriesFirst.{first-gone}}}
use Rattle.zc_poll.{proofs.{PourTurns.{same-counts}, Pours.{is-no}}, specs.Stops.{without_loan}}
use Rattle.zc_forward.specs.{Tags.{Tags}, Sending.{AreLoans, OutboxState, of_one, of_sent, tags_of}, Forwarding.{ForwardStands}}
use Rattle.zc_forward.proofs.{Out.{none_out}, Live.{IsOut, at-itself, at_place, counted-out, has-out, no-loans, went, went-places, went-many, went-lent}}
use Rattle.zr_io.specs.Moved.{ShelfCounts}

-- the loan that wasn't carried is out
pub aside-out : (w : OutboxState) (loans : List LentPiece) (loan : Place) → AreLoans w loans → w.uncarried ≡ Some loan → IsOut loan loans
aside-out w loans loan are aside =
    let here : of_one (at_place loan) w.uncarried ≡ 1 = ap (of_one (at_place loan)) aside ∙ at-itself loan in
    counted-out loan loans (omega (arith, are (at_place loan), here))

pub may-give-up : (w : OutboxState) (v : AppView) → AreLoans w v.loans → (aside : Option Place) → w.uncarried ≡ aside → IfSome aside (λ loan. HasLoan v loan)
may-give-up w v are None is = tt
may-give-up w v are (Some loan) is = has-out v loan (aside-out w v.loans loan are is)

module _ (first got : ℕ → Option (List ℕ)) (losses now_losses : ShelfCounts) (w : OutboxState) (st now : Desk) (tags : Tags) (v z : AppView)
    (before : ForwardStands first losses w st tags got now_losses v) (out : w.out ≡ []) (due : w.tally.due ≡ None) (stands : StreamStands now z)
    (desk : now ≡ st) where
  -- nothing is out
  settled : z ≡ v → w.uncarried ≡ None → PourStands first losses w.tally now got now_losses z
  settled view aside =
      let none : v.loans ≡ [] = no-loans v.loans (before.loans (λ _. 1) ∙ omega (arith, ap (of_one (λ _. 1)) due, ap (of_one (λ _. 1)) aside, ap (of_sent (λ _. 1)) out)) in
      let on : StreamStands st v = subst (λ (d : Desk). StreamStands d v) desk (subst (StreamStands now) view stands) in
      subst (λ (k : AppView). PourStands first losses w.tally now got now_losses k) (sym view)
      (subst (λ (d : Desk). PourStands first losses w.tally d got now_losses v) (sym desk) (record {
        items = before.items;
        torn = before.torn;
        missing = before.missing;
        stands = on;
        poured = before.poured;
        due = subst (λ d. OnlyDue d v.loans) (sym due) none;
        whole = before.whole;
        given_back = before.given_back;
        going = before.going;
        over = λ not. (before.over not, none);
        no_quit = before.no_quit;
        later = before.later;
        cause = before.cause;
        still = before.still;
        appended = before.appended;
      }))

  -- the loan that wasn't carried was given up
  given-up : (loan : Place) → z ≡ abandoned v loan → w.uncarried ≡ Some loan → PourStands first losses w.tally now got now_losses z
  given-up loan view aside =
      let there = aside-out w v.loans loan before.loans aside in
      let apart = before.stands.common.apart in
      let some : w.tally.stopped ≢ stop.No = λ no. (let e : Some loan ≡ None = sym aside ∙ before.carried no in absurd (cc)) in
      let whole : w.tally.stopped ≢ stop.Write = λ write. absurd (subst (IsIn there.piece) (before.failed write) there.there) in
      let gone : (abandoned v loan).loans ≡ [] =
      no-loans (abandoned v loan).loans
      (omega (
        arith,
        went-places v apart loan there (λ _. 1),
        before.loans (λ _. 1),
        ap (of_one (λ _. 1)) due,
        ap (of_one (λ _. 1)) aside,
        ap (of_sent (λ _. 1)) out,
      )) in
      let none : z.loans ≡ [] = ap (λ (k : AppView). k.loans) view ∙ gone in
      record {
        items = before.items;
        torn = before.torn;
        missing = before.missing;
        stands = stands;
        poured = poured-all (w.tally.stopped ≡ stop.Write) (w.tally.stopped ≡ stop.Write) first got w.tally w.tally st now v z before.items before.torn before.missing
            before.poured (same-counts w.tally)
            (subst (λ (d : Desk). HasGiven before.items d.flows z.taken) (sym desk) (subst (λ (k : AppView). HasGiven before.items st.flows k.taken) (sym view) before.poured.given))
            (record {
              notes = [];
              taken = ap (λ (k : AppView). k.taken) view ∙ sym (append-nil v.taken);
              more = [];
              reads = ap (λ (k : AppView). k.reads) view ∙ sym (append-nil v.reads);
            })
            (ap (λ (k : AppView). length k.loans + length k.returned) view ∙ went-many v apart loan there)
            (ap (λ (k : AppView). total lent_len k.loans + total lent_len k.returned) view ∙ went-lent v apart loan there)
            (ap (λ (k : AppView). k.spares) view)
            (first-gone v z ((went v apart loan there).piece ∷ []) (total (λ f. f.1) w.tally.counts) (ap (λ (k : AppView). k.written) view)
            (ap (λ (k : AppView). k.setting) view) (ap (λ (k : AppView). k.returned) view ∙ (went v apart loan there).returned) before.poured.back)
            whole;
        due = subst (λ d. OnlyDue d z.loans) (sym due) none;
        whole = λ no. absurd (some no);
        given_back = λ no. absurd (some no);
        going = λ no. absurd (some no);
        over = λ not. (ap (λ (d : Desk). d.stopped) desk ∙ before.over not, none);
        no_quit = before.no_quit;
        later = before.later;
        cause = before.cause;
        still = before.still;
        appended = before.appended;
      }

  pub ends-pours : (aside : Option Place) → w.uncarried ≡ aside → z ≡ without_loan aside v → PourStands first losses w.tally now got now_losses z
  ends-pours None is view = settled view is
  ends-pours (Some loan) is view = given-up loan view is

-- and goes on as it was, where the face can't leave
pub waits-forwards : (first got : ℕ → Option (List ℕ)) (losses now : ShelfCounts) (w : OutboxState) (st : Desk) (tags : Tags) (v : AppView)
    → PourStands first losses w.tally st got now v → w.out ≡ [] → tags ≡ [] → w.uncarried ≡ None → w.tally.due ≡ None
    → (st.ended ≡ true → w.pressed ≡ true) → ForwardStands first losses w st tags got now v
waits-forwards first got losses now w st tags v before out told aside due pressed =
    let none : v.loans ≡ [] = subst (λ d. OnlyDue d v.loans) due before.due in
    record {
      items = before.items;
      torn = before.torn;
      missing = before.missing;
      stands = before.stands;
      poured = before.poured;
      sent = told ∙ sym (ap tags_of out);
      once = subst (λ (ts : Tags). IsDistinct nat_eq (keys_of ts)) (sym told) (none_out 0 (omega arith)).each;
      few =
          let d : of_one (λ _. 1) w.tally.due ≡ 0 = ap (of_one (λ _. 1)) due in
          let a : of_one (λ _. 1) w.uncarried ≡ 0 = ap (of_one (λ _. 1)) aside in
          omega (arith, ap length out, d, a);
      loans = λ f. (
          let l : total (λ (p : LentPiece). f p.place) v.loans ≡ 0 = ap (total (λ (p : LentPiece). f p.place)) none in
          let d : of_one f w.tally.due ≡ 0 = ap (of_one f) due in
          let a : of_one f w.uncarried ≡ 0 = ap (of_one f) aside in
          let s : of_sent f w.out ≡ 0 = ap (of_sent f) out in
          omega (arith, l, d, a, s));
      giving = inl none;
      whole = before.whole;
      given_back = before.given_back;
      going = before.going;
      carried = λ _. aside;
      over = λ not. (before.over not).0;
      failed = λ _. none;
      pressed = pressed;
      no_quit = before.no_quit;
      later = before.later;
      cause = before.cause;
      still = before.still;
      appended = before.appended;
    }

-- it was never stopped exactly where the stream wasn't
pub stops : (first got : ℕ → Option (List ℕ)) (losses now : ShelfCounts) (w : OutboxState) (st : Desk) (tags : Tags) (v : AppView)
    → ForwardStands first losses w st tags got now v → (w.tally.stopped ≡ stop.No) ↔ (st.stopped ≡ false)
stops first got losses now w st tags v before = (
  before.going,
  λ going. ⊎_elim (λ (no : w.tally.stopped ≡ stop.No). no)
      (λ (not : w.tally.stopped ≢ stop.No). (let e : true ≡ false = sym (before.over not) ∙ going in absurd (cc)))
      (is-no w.tally.stopped),
)
