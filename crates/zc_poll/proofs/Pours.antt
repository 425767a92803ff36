-- An item was written, or it was given up and the stream stopped.
use Rattle.std.proofs.Common.{◌≡◌, ◌≢◌, ℕ, zero, suc, ◌+◌, ◌-◌, ◌^◌, ◌<◌, ◌≤◌, min, true, false, List, [], ◌∷◌, ◌++◌, length, Option, Some, None, refl, sym, ap, subst, ◌∙◌, arith, ⊎_elim, ◌⊎◌, inl, inr, append-nil}
use Rattle.std.specs.{Io.KnownBytes.{Keeps}, List.{slice_get}}
use Rattle.zr_kinds.specs.declared.{place.Place.{Place}, behaviour.Stopped.{Stopped}}
use Rattle.zr_kinds.specs.declared.behaviour.Stopped.TheVariants as stop
use Rattle.zr_io.{specs.Moved.{Gained, Rose, ShelfCounts, raised_by}, proofs.Moved.{Rose-earlier}}
use Rattle.board_face.specs.{AppEvents.{abandoned}, declared.views.app.{LentPiece.{LentPiece}, TakenNote.{TakenNote}, AppView.{AppView}}}
use Rattle.flow_queues.specs.{declared.queues.Lending.{Lending}, Core.{total, IsIn, LieApart, lent_piece, OnlyReads, IsReadOf}, Totals.{lent_len, loan_entries}}
use Rattle.flow_queues.{specs.{Shelves.{kept_loans}, Ends.{bytes_written_of}, Counting.{TallyState, AddsTo, item_counted}}, proofs.Tokens.{loan-some}}
use Rattle.zc_poll.specs.{declared.step.Lent.{Lent}, Standing.{Desk, StreamStands}, Items.{GivenItem, HasGiven, marks_given}}
use Rattle.zc_poll.{specs.{Steps.{OnlySteps, IsItem, given_as}, Pouring.{HasPoured, OnlyDue, PourStands}}, proofs.{Views.{total-one}, PouredOn.{sees-still}}}
use Rattle.zc_poll.proofs.{EntriesFirst.{first-gone}, ItemPoured.{Roomy, poured-moved, poured-roomy, item-poured, push-length}, Appended.{appended, at-flow}}
use Rattle.zc_poll.proofs.LoanGone.{one-loan, gone-loans, gone-returned, gone-many, gone-lent, gone-kept}

pub is-no : (s : Stopped) → (s ≡ stop.No) ⊎ (s ≢ stop.No)
is-no stop.No = inl refl
is-no stop.Quit = inr (λ e. absurd (cc))
is-no stop.Write = inr (λ e. absurd (cc))
is-no stop.Memory = inr (λ e. absurd (cc))

pub no-write : (s : Stopped) → s ≡ stop.No → s ≡ stop.Write → ⊥
no-write s going write = (let e : stop.No ≡ stop.Write = sym going ∙ write in absurd (cc))

-- a note that is there is one of these
pub known-at : (taken : List TakenNote) (k : ℕ) (t : TakenNote) → slice_get taken k ≡ Some t → k < length taken
known-at [] k t is = absurd (cc)
known-at (x ∷ taken) zero t is = omega arith
known-at (x ∷ taken) (suc k) t is = omega (arith, known-at taken k t is)

-- ---- the loan is given up

module _ (P : Type 0) (first kept : ℕ → Option (List ℕ)) (losses losses_now : ShelfCounts) (u w : TallyState) (why : Stopped) (st now : Desk) (y z : AppView)
    (items : List GivenItem) (torn missing : ℕ) (poured : HasPoured P first u st kept y items torn missing) (implies : P → why ≡ stop.Write)
    (some : why ≢ stop.No) (other : why ≢ stop.Quit) (due : u.due ≡ None) (apart : LieApart y) (p : LentPiece) (one : y.loans ≡ p ∷ []) (loan : Place)
    (place : p.place ≡ loan) (all : loan_entries y ≡ length y.returned) (view : z ≡ record (abandoned y loan) { helds = [] })
    (given : HasGiven items now.flows z.taken) (stands : StreamStands now z) (stopped : now.stopped ≡ true) (later : losses.faults ≤ losses_now.faults)
    (cause : why ≡ stop.Write → Rose losses.faults losses_now.faults) (still : why ≢ stop.Write → losses_now.faults ≡ losses.faults)
    (appended : losses_now.appended ≡ raised_by losses.appended u.written) (work : w ≡ record u { stopped = why }) where
  why_is : w.stopped ≡ why
  why_is = ap (λ (k : TallyState). k.stopped) work

  loans-gone : z.loans ≡ []
  loans-gone = ap (λ (k : AppView). k.loans) view ∙ gone-loans y apart p one loan place

  pub given-up : PourStands first losses w now kept losses_now z
  given-up = record {
    items = items;
    torn = torn;
    missing = missing;
    stands = stands;
    poured = poured-moved P (w.stopped ≡ stop.Write) first kept u w st now y z items torn missing poured
        (record {
          counts = ap (λ (k : TallyState). k.counts) work;
          written = ap (λ (k : TallyState). k.written) work;
          loans = ap (λ (k : TallyState). k.loans) work;
          copied = ap (λ (k : TallyState). k.copied) work;
          flows = ap (λ (k : TallyState). k.flows) work;
          room = ap (λ (k : TallyState). k.room) work;
        })
        given
        (record {
          notes = [];
          taken = ap (λ (k : AppView). k.taken) view ∙ sym (append-nil y.taken);
          more = [];
          reads = ap (λ (k : AppView). k.reads) view ∙ sym (append-nil y.reads);
        })
        (ap (λ (k : AppView). length k.loans + length k.returned) view ∙ gone-many y apart p one loan place)
        (ap (λ (k : AppView). total lent_len k.loans + total lent_len k.returned) view ∙ gone-lent y apart p one loan place)
        (ap (λ (k : AppView). k.spares) view)
        (first-gone y z (p ∷ []) (total (λ f. f.1) u.counts) (ap (λ (k : AppView). k.written) view) (ap (λ (k : AppView). k.setting) view)
        (ap (λ (k : AppView). k.returned) view ∙ gone-returned y apart p one loan place) poured.back)
        (ap kept_loans view ∙ gone-kept y apart p one loan place all)
        (λ is. why_is ∙ implies is);
    due = subst (λ d. OnlyDue d z.loans) (sym (ap (λ (k : TallyState). k.due) work ∙ due)) loans-gone;
    whole = λ no. absurd (some (sym why_is ∙ no));
    given_back = λ no. absurd (some (sym why_is ∙ no));
    going = λ no. absurd (some (sym why_is ∙ no));
    over = λ _. (stopped, loans-gone);
    no_quit = λ quit. other (sym why_is ∙ quit);
    later = later;
    cause = λ is. cause (sym why_is ∙ is);
    still = λ is. still (λ e. is (why_is ∙ e));
    appended = appended ∙ ap (raised_by losses.appended) (sym (ap (λ (k : TallyState). k.written) work));
  }

-- ---- an item came

module _ (first kept : ℕ → Option (List ℕ)) (losses losses_now : ShelfCounts) (u : TallyState) (st now : Desk) (v x : AppView)
    (before : PourStands first losses u st kept losses_now v) (due : u.due ≡ None) (lent : Lent) (item : IsItem st now v x lent) (only : OnlySteps v x)
    (stands : StreamStands now x) where
  nothing : u.stopped ≡ stop.No
  nothing = ⊎_elim (λ is. is) (λ stopped. (let e : false ≡ true = sym item.going.0 ∙ (before.over stopped).0 in absurd (cc))) (is-no u.stopped)

  none-out : v.loans ≡ []
  none-out = subst (λ d. OnlyDue d v.loans) due before.due

  abbrev piece : LentPiece
  piece = lent_piece x.taken item.lending

  abbrev all_items : List GivenItem
  all_items = before.items ++ given_as lent item.lending ∷ []

  one : x.loans ≡ piece ∷ []
  one = one-loan x.loans piece (omega (arith, item.lends (λ _. 1), total-one x.loans, ap (total (λ _. 1)) none-out)) item.out

  all : loan_entries x ≡ length x.returned
  all =
      let r : length x.returned ≡ length v.returned = ap (λ (k : AppView). length k.returned) only.view in
      let e : loan_entries x ≡ loan_entries v = ap loan_entries only.view in
      omega (arith, before.given_back nothing, r, e)

  has : 0 < item.lending.loan.len
  has = loan-some x stands.common.apart piece item.out

  has-marks : 0 < length (marks_given lent.flow all_items)
  has-marks = omega (arith, push-length lent.flow before.items (given_as lent item.lending), at-flow lent.flow lent.flow item.lending.loan.len refl, has)

  counted : HasPoured (u.stopped ≡ stop.Write) first (item_counted u lent.copied) now kept x all_items lent.flow item.lending.loan.len
  counted = item-poured (u.stopped ≡ stop.Write) (u.stopped ≡ stop.Write) first kept u st now v x before.items before.torn before.missing before.poured
      (before.whole nothing) (no-write u.stopped nothing) lent item only stands

  module _ (w : TallyState) (roomy : Roomy (item_counted u lent.copied) w) (adds : AddsTo lent.flow 0 u.counts w.counts) where
    ready : HasPoured (u.stopped ≡ stop.Write) first w now kept x all_items lent.flow item.lending.loan.len
    ready = poured-roomy (u.stopped ≡ stop.Write) first kept (item_counted u lent.copied) w now x all_items lent.flow item.lending.loan.len counted roomy
        lent.flow adds has-marks

    -- there was no memory to count
    pub wants : (z : AppView) (later : Desk) (k : TallyState) → z ≡ record (abandoned x lent.loan) { helds = [] }
        → ((items : List GivenItem) → HasGiven items now.flows x.taken → HasGiven items later.flows z.taken) → StreamStands later z → later.stopped ≡ true
        → k ≡ record w { stopped = stop.Memory } → PourStands first losses k later kept losses_now z
    wants z later k view goes on stopped work =
        given-up (u.stopped ≡ stop.Write) first kept losses losses_now w k stop.Memory now later x z all_items lent.flow item.lending.loan.len ready
        (λ write. absurd (no-write u.stopped nothing write)) (λ e. absurd (cc)) (λ e. absurd (cc)) (ap (λ (y : TallyState). y.due) roomy.same ∙ due) stands.common.apart
        piece one lent.loan item.loan all view (goes all_items ready.given) on stopped before.later (λ e. absurd (cc))
        (λ _. before.still (no-write u.stopped nothing))
        (before.appended ∙ ap (raised_by losses.appended) (sym (ap (λ (y : TallyState). y.written) roomy.same))) work

    module _ (after : ℕ → Option (List ℕ)) (faults : ShelfCounts) (y : AppView) (k : TallyState) (done : ℕ) (reads : OnlyReads x y) (counted_to : done ≤ lent.loan.len)
        (gained : (lending : Lending) → lending.loan ≡ lent.loan → lending.note < length x.taken → IsIn (lent_piece x.taken lending) x.loans
        → Gained (kept lent.flow) (after lent.flow) (IsReadOf x.taken y.reads lending done lent.loan.len))
        (others : (n : ℕ) → n ≢ lent.flow → Keeps (kept n) (after n)) (same : k ≡ record w { counts = k.counts; written = min (w.written + done) (2 ^ 64 - 1) })
        (fits : bytes_written_of lent.flow w.counts + done < 2 ^ 64 → AddsTo lent.flow done w.counts k.counts)
        (many : length k.counts ≡ length w.counts) (apart : LieApart y) (took : faults.appended ≡ raised_by losses_now.appended done) where
      len_is : item.lending.loan.len ≡ lent.loan.len
      len_is = ap (λ (q : Place). q.len) item.loan

      note-known : item.lending.note < length x.taken
      note-known = known-at x.taken item.lending.note item.note item.is

      few : bytes_written_of lent.flow w.counts + done < 2 ^ 64
      few = omega (
        arith,
        ready.counts lent.flow,
        at-flow lent.flow lent.flow item.lending.loan.len refl,
        push-length lent.flow before.items (given_as lent item.lending),
        (item.items before.items before.poured.given).0,
        item.fits,
        counted_to,
      )

      written : HasPoured (done < item.lending.loan.len) first k now after y all_items lent.flow (item.lending.loan.len - done)
      written = appended (u.stopped ≡ stop.Write) first kept after w k now x y before.items (given_as lent item.lending) done ready (no-write u.stopped nothing)
          (record { notes = []; taken = ap (λ (q : AppView). q.taken) reads.view ∙ sym (append-nil x.taken); more = reads.more; reads = reads.are })
          reads.view note-known item.out (omega (arith, counted_to, len_is))
          (subst (λ n. Gained (kept lent.flow) (after lent.flow) (IsReadOf x.taken y.reads item.lending done n)) (sym len_is)
          (gained item.lending item.loan note-known item.out))
          others same has (fits few) many

      still-one : y.loans ≡ piece ∷ []
      still-one = ap (λ (q : AppView). q.loans) reads.view ∙ one

      still-all : loan_entries y ≡ length y.returned
      still-all = subst (λ (q : AppView). loan_entries q ≡ length q.returned) (sym reads.view) all

      work-due : k.due ≡ None
      work-due = ap (λ (q : TallyState). q.due) same ∙ ap (λ (q : TallyState). q.due) roomy.same ∙ due

      work-no : k.stopped ≡ stop.No
      work-no = ap (λ (q : TallyState). q.stopped) same ∙ ap (λ (q : TallyState). q.stopped) roomy.same ∙ nothing

      all-took : faults.appended ≡ raised_by losses.appended k.written
      all-took = omega (arith, took, before.appended, ap (λ (q : TallyState). q.written) same, ap (λ (q : TallyState). q.written) roomy.same)

      -- the shelf failed
      pub fails : (z : AppView) (later : Desk) (m : TallyState) → z ≡ record (abandoned y lent.loan) { helds = [] }
          → ((items : List GivenItem) → HasGiven items now.flows y.taken → HasGiven items later.flows z.taken) → StreamStands later z → later.stopped ≡ true
          → m ≡ record k { stopped = stop.Write } → losses_now.faults ≤ faults.faults → Rose losses_now.faults faults.faults → PourStands first losses m later after faults z
      fails z later m view goes on stopped work grows rose =
          given-up (done < item.lending.loan.len) first after losses faults k m stop.Write now later y z all_items lent.flow (item.lending.loan.len - done) written
          (λ _. refl) (λ e. absurd (cc)) (λ e. absurd (cc)) work-due apart piece still-one lent.loan item.loan still-all view (goes all_items written.given) on
          stopped (omega (arith, before.later, grows)) (λ _. Rose-earlier losses.faults losses_now.faults faults.faults before.later rose) (λ not. absurd (not refl))
          all-took work

      -- all was written
      pub wrote : (m : TallyState) → m ≡ record k { due = Some lent.loan } → done ≡ lent.loan.len → StreamStands now y → faults.faults ≡ losses_now.faults
          → PourStands first losses m now after faults y
      wrote m work full on same_faults =
          let stopped_is : m.stopped ≡ stop.No = ap (λ (q : TallyState). q.stopped) work ∙ work-no in
          let none : item.lending.loan.len - done ≡ 0 = omega (arith, full, len_is) in
          record {
            items = all_items;
            torn = lent.flow;
            missing = item.lending.loan.len - done;
            stands = on;
            poured = poured-moved (done < item.lending.loan.len) (m.stopped ≡ stop.Write) first after k m now now y y all_items lent.flow
                (item.lending.loan.len - done) written
                (record {
                  counts = ap (λ (q : TallyState). q.counts) work;
                  written = ap (λ (q : TallyState). q.written) work;
                  loans = ap (λ (q : TallyState). q.loans) work;
                  copied = ap (λ (q : TallyState). q.copied) work;
                  flows = ap (λ (q : TallyState). q.flows) work;
                  room = ap (λ (q : TallyState). q.room) work;
                })
                written.given (sees-still y) refl refl refl written.back refl (λ less. absurd (omega (arith, less, full, len_is)));
            due = subst (λ d. OnlyDue d y.loans) (sym (ap (λ (q : TallyState). q.due) work)) (piece, still-one, item.loan);
            whole = λ _. none;
            given_back = λ _. still-all;
            going = λ _. item.going.1;
            over = λ not. absurd (not stopped_is);
            no_quit = λ quit. (let e : stop.No ≡ stop.Quit = sym stopped_is ∙ quit in absurd (cc));
            later = omega (arith, before.later, same_faults);
            cause = λ write. absurd (no-write m.stopped stopped_is write);
            still = λ _. same_faults ∙ before.still (no-write u.stopped nothing);
            appended = all-took ∙ ap (raised_by losses.appended) (sym (ap (λ (q : TallyState). q.written) work));
          }
