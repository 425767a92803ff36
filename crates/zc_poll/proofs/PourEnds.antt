-- What pouring leaves is what any application owes that isn't to quit.
use Rattle.std.proofs.Common.{◌≡◌, ◌≢◌, ℕ, ◌*◌, ◌<◌, ◌≤◌, ◌==◌, true, if◌then◌else◌, List, [], ◌∷◌, ◌++◌, length, take, drop, Option, None, refl, sym, ap, subst, ◌∙◌, arith, inl, inr, append_assoc, take_all}
use Rattle.std.proofs.lemmas.{Bool.{eq-eqb}, List.{take-append-drop, take-append-le}}
use Rattle.zr_kinds.specs.declared.behaviour.Behaviour.{Behaviour}
use Rattle.zr_kinds.specs.declared.behaviour.Stopped.TheVariants as stop
use Rattle.zr_io.{specs.Moved.{Gained, ShelfCounts}, proofs.Moved.{Gained-weaker}}
use Rattle.board_face.specs.{AppEvents.{reserve_of}, declared.views.app.AppView.{AppView}}
use Rattle.flow_queues.specs.{Marks.{Mark, FramesStandTogether, marks_of}, Core.{total, Each, IsIn, own_notes, BeginAt, AreReadAt}}
use Rattle.flow_queues.specs.{Totals.{Quits, capped, lent_len, loan_entries}, Shelves.{FlowEnds, AreOfOneLoan}, Streams.{IsFront}}
use Rattle.flow_queues.specs.{Ends.{AppEnd, HasLeft, IsCounted, IsTorn, bytes_written_of, times_written}, Entries.{AreBlocks, WasLive, lies_in}, Returned.{AreKeptBack}}
use Rattle.flow_queues.specs.Returned.{HasReturned}
use Rattle.flow_queues.{proofs.{Fronts.{pick}, Tokens.{in-total}, Shown.{shown-total, shown-times, shown-bytes, shown-each}}, specs.Counting.{TallyState, with_bytes}}
use Rattle.zc_poll.specs.{Fresh.{has_left}, Standing.{Desk}, Items.{marks_given}, Pouring.{IsPoured, OnlyDue, PourStands, given_len}}
use Rattle.zc_poll.proofs.{PouredOn.{poured-within}, EntriesFirst.{loans-alone}, LoanGone.{drop-all}, Pours.{no-write}}
use Rattle.zc_poll.proofs.{ItemPoured.{none-at}, Whole.{items-front, items-whole}}

each-of : {A : Type 0} (P : A → Type 0) (xs : List A) → ((x : A) → IsIn x xs → P x) → Each P xs
each-of P [] all = tt
each-of P (x ∷ xs) all = (all x (inl refl), each-of P xs (λ y there. all y (inr there)))

one-of : (n : ℕ) → ◌≡◌ {A = ℕ} (if n == n then 1 else 0) 1
one-of n = rw (let test : (n == n) ≡ true = eq-eqb n n refl in test) refl

-- what it says once it has left
abbrev pub work_end : TallyState → AppEnd
work_end w = record { written = w.written; loans = w.loans; copied = w.copied; stopped = w.stopped; flows = with_bytes w.counts }

module _ (first kept : ℕ → Option (List ℕ)) (losses losses_now : ShelfCounts) (w : TallyState) (st : Desk) (v : AppView)
    (before : PourStands first losses w st kept losses_now v) (due : w.due ≡ None) (ended : st.ended ≡ true) where
  none-out : v.loans ≡ []
  none-out = subst (λ d. OnlyDue d v.loans) due before.due

  weaker : (n : ℕ) (Q : List ℕ → Type 0)
      → ((bytes : List ℕ) → IsPoured ((w.stopped ≡ stop.Write) × (n ≡ before.torn)) v (marks_given n before.items) (bytes_written_of n w.counts) bytes
      → Q bytes)
      → Gained (first n) (kept n) Q
  weaker n Q implies = Gained-weaker (first n) (kept n)
      (IsPoured ((w.stopped ≡ stop.Write) × (n ≡ before.torn)) v (marks_given n before.items) (bytes_written_of n w.counts)) Q implies (before.poured.shelved n)

  -- a flow that is told has a note
  has-note : (n : ℕ) → 0 < times_written n w.counts → own_notes n v.taken ≢ []
  has-note n some = pick n st.flows (FlowEnds v.taken) (own_notes n v.taken ≢ []) before.stands.common.found
      (λ none. absurd (omega (arith, before.poured.known n some, ap length (before.poured.given.others n none))))
      (λ f is ends. (λ empty. subst (BeginAt f.queue.base) (ap (λ m. own_notes m v.taken) is ∙ empty) ends.begun))

  noted : Each (λ f. own_notes f.0 v.taken ≢ []) w.counts
  noted = each-of (λ f. own_notes f.0 v.taken ≢ []) w.counts (λ f there. has-note f.0
      (omega (arith, one-of f.0, in-total (λ (e : ℕ × ℕ). if e.0 == f.0 then 1 else 0) f w.counts there)))

  lens : total lent_len v.returned ≡ total given_len before.items
  lens = omega (arith, before.poured.lent, ap (total lent_len) none-out)

  all-counted : w.stopped ≡ stop.No → total (λ f. f.1) w.counts ≡ total lent_len v.returned
  all-counted going = omega (arith, before.poured.sum, before.whole going, lens)

  front : (n : ℕ) → FramesStandTogether v.taken → (bytes : List ℕ)
      → IsPoured ((w.stopped ≡ stop.Write) × (n ≡ before.torn)) v (marks_given n before.items) (bytes_written_of n w.counts) bytes
      → IsFront v.taken v.reads (marks_of n v.taken) bytes
  front n whole bytes is =
      let (rest, parts) = items-front st.flows v.taken before.items before.stands.common.found before.poured.given whole n in
      let marks : List Mark = marks_given n before.items in
      record {
        read = take (length bytes) marks;
        rest = drop (length bytes) marks ++ rest;
        parts = parts ∙ ap (λ ms. ms ++ rest) (sym (take-append-drop (length bytes) marks)) ∙ append_assoc (take (length bytes) marks) (drop (length bytes) marks) rest;
        are = is.are;
      }

  all : (n : ℕ) → w.stopped ≡ stop.No → FramesStandTogether v.taken → (bytes : List ℕ)
      → IsPoured ((w.stopped ≡ stop.Write) × (n ≡ before.torn)) v (marks_given n before.items) (bytes_written_of n w.counts) bytes
      → AreReadAt v.taken v.reads (marks_of n v.taken) bytes
  all n going whole bytes is =
      let marks : List Mark = marks_given n before.items in
      let same : marks_of n v.taken ≡ marks =
      items-whole st v before.items before.stands.common.found (before.stands.whole ended (before.going going)) before.poured.given whole n in
      let exact = is.exact (λ both. no-write w.stopped going both.0) in
      let long : length marks ≤ length bytes = omega (arith, exact, before.poured.counts n, none-at n before.torn before.missing (before.whole going)) in
      subst (λ ms. AreReadAt v.taken v.reads ms bytes) (take_all (length bytes) marks long ∙ sym same) is.are

  torn : (n : ℕ) → FramesStandTogether v.taken → (bytes : List ℕ)
      → IsPoured ((w.stopped ≡ stop.Write) × (n ≡ before.torn)) v (marks_given n before.items) (bytes_written_of n w.counts) bytes
      → IsTorn (has_left v) before.torn n (bytes_written_of n w.counts) bytes
  torn n whole bytes is =
      let (rest, parts) = items-front st.flows v.taken before.items before.stands.common.found before.poured.given whole n in
      let marks : List Mark = marks_given n before.items in
      let count : ℕ = bytes_written_of n w.counts in
      record {
        exact = λ away. is.exact (λ both. away both.1);
        at_once = is.at_once;
        more = λ less.
            subst (λ ms. AreOfOneLoan v.taken (drop (loan_entries v) v.returned) (drop count ms))
            (sym (ap (take (length bytes)) parts ∙ take-append-le (length bytes) marks rest
            (poured-within ((w.stopped ≡ stop.Write) × (n ≡ before.torn)) v marks count bytes is)))
            (subst (λ ls. AreOfOneLoan v.taken (ls ++ drop (loan_entries v) v.returned) (drop count (take (length bytes) marks))) none-out (is.beyond less));
      }

  told : (n : ℕ) → bytes_written_of n (with_bytes w.counts) ≡ bytes_written_of n w.counts
  told n = shown-bytes n w.counts (before.poured.once n)

  pub left-pours : (how : Behaviour) → how.quit ≡ None → HasLeft how first kept losses losses_now (has_left v) (work_end w)
  left-pours how quit = record {
    left = refl;
    none_out = none-out;
    loans = before.poured.loans ∙ ap capped (omega (arith, before.poured.many, ap length none-out));
    copied = before.poured.copied;
    written = before.poured.written ∙ ap capped (sym (shown-total w.counts));
    copies = omega (arith, before.poured.copied, before.poured.loans, before.poured.copies);
    counts = λ going. omega (arith, before.poured.loans, before.poured.written, all-counted going, lens, before.poured.some);
    all_lent = λ going. before.poured.written ∙ ap capped (all-counted going);
    within_lent = omega (arith, before.poured.written, before.poured.sum, lens);
    bound = omega (arith, before.stands.common.few);
    noted = shown-each (λ f. own_notes f.0 v.taken ≢ []) w.counts noted;
    once = λ n. omega (arith, shown-times n w.counts, before.poured.once n);
    fronts = λ whole n. weaker n (IsFront v.taken v.reads (marks_of n v.taken)) (front n whole);
    whole = λ going whole n. weaker n (AreReadAt v.taken v.reads (marks_of n v.taken)) (all n going whole);
    counted = λ n. subst (λ count. Gained (first n) (kept n) (IsCounted w.stopped count)) (sym (told n))
        (weaker n (IsCounted w.stopped (bytes_written_of n w.counts))
        (λ bytes is. record { counted = λ not. is.exact (λ both. not both.0); at_least = is.at_least }));
    torn = λ write whole. record {
      torn = before.torn;
      each = λ n. subst (λ count. Gained (first n) (kept n) (IsTorn (has_left v) before.torn n count)) (sym (told n))
          (weaker n (IsTorn (has_left v) before.torn n (bytes_written_of n w.counts)) (torn n whole));
    };
    quits = subst (λ q. Quits q w.written w.stopped) (sym quit) before.no_quit;
    later = before.later;
    cause = before.cause;
    still = before.still;
    appended = before.appended;
    strays = subst (λ n. n ≤ how.stray * loan_entries v) (sym before.poured.back.raw) (omega arith);
    entries = before.poured.back.entries;
  }

  none-kept : w.stopped ≡ stop.No → drop (loan_entries v) v.returned ≡ []
  none-kept going = drop-all v.returned (loan_entries v) (before.given_back going)

  pub returned-pours : (how : Behaviour) → how.leak ≡ 0 → how.stray ≡ 0 → HasReturned how w.stopped w.written (has_left v)
  returned-pours how leak stray = let (last, blocks) = loans-alone (WasLive (has_left v)) v before.poured.back.raw in record {
    given = before.poured.back.given;
    whole = omega (arith, before.poured.written, before.poured.back.bytes);
    kept_back = λ going. subst (λ n. AreKeptBack n (has_left v)) (sym leak) (record {
      many = omega (arith, before.given_back going);
      aside = ap (total (lies_in (reserve_of v))) (none-kept going);
    });
    last = last;
    follow = subst (λ n. AreBlocks n (WasLive (has_left v)) v.written last 0) (sym stray) blocks;
  }
