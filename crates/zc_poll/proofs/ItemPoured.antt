-- What was poured, step for step.
use Rattle.std.proofs.Common.{◌≡◌, ◌≢◌, ℕ, ◌+◌, ◌<◌, ◌≤◌, ◌==◌, Bool, true, false, if◌then◌else◌, List, [], ◌∷◌, ◌++◌, length, take, drop, Option, refl, sym, ap, subst, ◌∙◌, arith, ⊎_elim, vec_capacity, length-append, append-nil}
use Rattle.std.proofs.lemmas.{Bool.{cases_eq, eq-eqb, ne_eqb}, List.{take-append-le}}
use Rattle.zr_io.proofs.Moved.{Gained-weaker}
use Rattle.board_face.specs.declared.views.app.{LentPiece.{LentPiece}, WrittenEntry.{WrittenEntry}, AppView.{AppView}}
use Rattle.flow_queues.specs.{Marks.{Mark}, Core.{total, lent_piece, marks_of_loan, AreReadAt}, Totals.{capped, lent_len, loan_entries}, Shelves.{kept_loans}}
use Rattle.flow_queues.{specs.{Ends.{bytes_written_of, times_written}, Counting.{TallyState, AddsTo, HasRoomForFlows, item_counted}, TallyOf.{tally_state_of}, declared.tally.LoanTally.{LoanTally}}, proofs.{Entering.{marks-length}, Tokens.{total-append, loan-some}}}
use Rattle.zc_poll.specs.{declared.step.Lent.{Lent}, Standing.{Desk, StreamStands}, Items.{GivenItem, HasGiven, marks_given}}
use Rattle.zc_poll.{specs.{Steps.{OnlySteps, IsItem, given_as}, Pouring.{GaveFirst, IsPoured, HasPoured, given_len}}, proofs.Marking.{given-push}}
use Rattle.zc_poll.proofs.{PouredOn.{SeesOn, read-on, poured-within, poured-on, poured-exact}, EntriesFirst.{first-more, first-same}, Views.{total-one}}

-- what it keeps is the same but for what is due and what stopped it
pub record SameCounts (u w : TallyState) : Type 0 where
  pub counts : w.counts ≡ u.counts
  pub written : w.written ≡ u.written
  pub loans : w.loans ≡ u.loans
  pub copied : w.copied ≡ u.copied
  pub flows : w.flows ≡ u.flows
  pub room : w.room ≡ u.room

pub same-kept : (v x : AppView) → x.loans ≡ v.loans → x.returned ≡ v.returned → x.written ≡ v.written → kept_loans x ≡ kept_loans v
same-kept v x loans returned written =
    ap (λ (ls : List LentPiece). ls ++ drop (loan_entries x) x.returned) loans
    ∙ ap (λ (rs : List LentPiece). v.loans ++ drop (loan_entries x) rs) returned
    ∙ ap (λ (es : List WrittenEntry). v.loans ++ drop (total (λ (e : WrittenEntry). if e.of_loan then 1 else 0) es) v.returned) written

-- ---- nothing was lent and nothing went

module _ (P Q : Type 0) (first kept : ℕ → Option (List ℕ)) (u w : TallyState) (st now : Desk) (v x : AppView) (items : List GivenItem) (torn missing : ℕ)
    (poured : HasPoured P first u st kept v items torn missing) (work : SameCounts u w) (given : HasGiven items now.flows x.taken) (on : SeesOn v x)
    (many : length x.loans + length x.returned ≡ length v.loans + length v.returned)
    (lent : total lent_len x.loans + total lent_len x.returned ≡ total lent_len v.loans + total lent_len v.returned)
    (spares : x.spares ≡ v.spares) (back : GaveFirst x (total (λ f. f.1) u.counts)) where
  pub moved-by : ((n : ℕ) → (bytes : List ℕ) → IsPoured (P × (n ≡ torn)) v (marks_given n items) (bytes_written_of n u.counts) bytes
      → IsPoured (Q × (n ≡ torn)) x (marks_given n items) (bytes_written_of n u.counts) bytes)
      → HasPoured Q first w now kept x items torn missing
  moved-by each = record {
    given = given;
    many = many ∙ poured.many;
    lent = lent ∙ poured.lent;
    some = poured.some;
    copies = omega (arith, spares, poured.copies);
    back = subst (λ c. GaveFirst x (total (λ f. f.1) c)) (sym work.counts) back;
    sum = ap (λ c. total (λ f. f.1) c + missing) work.counts ∙ poured.sum;
    counts = λ n. ap (λ c. bytes_written_of n c + (if n == torn then missing else 0)) work.counts ∙ poured.counts n;
    once = λ n. subst (λ c. times_written n c ≤ 1) (sym work.counts) (poured.once n);
    known = λ n some. poured.known n (subst (λ c. 0 < times_written n c) work.counts some);
    written = work.written ∙ poured.written ∙ ap (λ c. capped (total (λ f. f.1) c)) (sym work.counts);
    loans = work.loans ∙ poured.loans;
    copied = work.copied ∙ poured.copied ∙ ap capped (sym spares);
    room = omega (arith, poured.room, ap length work.counts, work.room);
    empty = work.flows ∙ poured.empty;
    shelved = λ n. Gained-weaker (first n) (kept n) (IsPoured (P × (n ≡ torn)) v (marks_given n items) (bytes_written_of n u.counts))
        (IsPoured (Q × (n ≡ torn)) x (marks_given n items) (bytes_written_of n w.counts))
        (λ bytes is. subst (λ c. IsPoured (Q × (n ≡ torn)) x (marks_given n items) (bytes_written_of n c) bytes) (sym work.counts) (each n bytes is))
        (poured.shelved n);
  }

  -- the loans that no entry gave back are the same
  pub poured-moved : kept_loans x ≡ kept_loans v → (P → Q) → HasPoured Q first w now kept x items torn missing
  poured-moved same implies = moved-by (λ n bytes is. poured-on (P × (n ≡ torn)) (Q × (n ≡ torn)) v x on same (λ both. (implies both.0, both.1))
      (marks_given n items) (bytes_written_of n u.counts) bytes is)

  -- all is counted
  pub poured-all : (P → ⊥) → HasPoured Q first w now kept x items torn missing
  poured-all none = moved-by (λ n bytes is. poured-exact (P × (n ≡ torn)) (Q × (n ≡ torn)) v x on (λ both. none both.0)
      (marks_given n items) (bytes_written_of n u.counts) bytes is)

-- ---- an item

-- the flow has more marks
longer : (P Q : Type 0) (v x : AppView) → SeesOn v x → (P → ⊥) → (marks more : List Mark) (count : ℕ) (bytes : List ℕ)
    → IsPoured P v marks count bytes → IsPoured Q x (marks ++ more) count bytes
longer P Q v x on none marks more count bytes is =
    let same : count ≡ length bytes = is.exact none in
    let front : take (length bytes) (marks ++ more) ≡ take (length bytes) marks =
    take-append-le (length bytes) marks more (poured-within P v marks count bytes is) in
    record {
      are = subst (λ ms. AreReadAt x.taken x.reads ms bytes) (sym front) (read-on v x on (take (length bytes) marks) bytes is.are);
      at_least = is.at_least;
      at_once = is.at_once;
      exact = λ no. same;
      beyond = λ less. absurd (omega (arith, less, same));
    }

-- as many bytes more as the item has, in its flow
pub push-length : (n : ℕ) (items : List GivenItem) (g : GivenItem)
    → length (marks_given n (items ++ g ∷ [])) ≡ length (marks_given n items) + (if n == g.flow then given_len g else 0)
push-length n items g = ap length (given-push n items g) ∙ length-append (marks_given n items) (if g.flow == n then marks_of_loan g.lending else [])
    ∙ ap (λ k. length (marks_given n items) + k) (⊎_elim
    (λ (here : g.flow ≡ n).
    let test : (g.flow == n) ≡ true = eq-eqb g.flow n here in
    let back : (n == g.flow) ≡ true = eq-eqb n g.flow (sym here) in
    rw (test, back) (marks-length g.lending.note g.lending.at g.lending.loan.len))
    (λ (not : g.flow ≢ n).
    let test : (g.flow == n) ≡ false = ne_eqb g.flow n not in
    let back : (n == g.flow) ≡ false = ne_eqb n g.flow (λ is. not (sym is)) in
    rw (test, back) refl)
    (cases_eq g.flow n))

one-at-most : (b : Bool) → (if b then 1 else 0) ≤ 1
one-at-most true = omega arith
one-at-most false = omega arith

pub none-at : (n torn missing : ℕ) → missing ≡ 0 → (if n == torn then missing else 0) ≡ 0
none-at n torn missing none = ⊎_elim
    (λ (here : n ≡ torn). rw (let test : (n == torn) ≡ true = eq-eqb n torn here in test) none)
    (λ (not : n ≢ torn). rw (let test : (n == torn) ≡ false = ne_eqb n torn not in test) refl)
    (cases_eq n torn)

copied-on : (b : Bool) (copied spares later : ℕ) → copied ≡ capped spares → later ≡ spares + (if b then 1 else 0)
    → (if b then capped (copied + 1) else copied) ≡ capped later
copied-on true copied spares later is more = omega (arith, is, more)
copied-on false copied spares later is more = omega (arith, is, more)

module _ (P Q : Type 0) (first kept : ℕ → Option (List ℕ)) (w : TallyState) (st now : Desk) (v x : AppView) (items : List GivenItem) (torn missing : ℕ)
    (poured : HasPoured P first w st kept v items torn missing) (none : missing ≡ 0) (whole : P → ⊥) (lent : Lent) (item : IsItem st now v x lent)
    (only : OnlySteps v x) (stands : StreamStands now x) where
  abbrev pub the_item : GivenItem
  the_item = given_as lent item.lending

  returned-same : x.returned ≡ v.returned
  returned-same = ap (λ (y : AppView). y.returned) only.view

  written-same : x.written ≡ v.written
  written-same = ap (λ (y : AppView). y.written) only.view

  on : SeesOn v x
  on = record { notes = only.more; taken = only.taken; more = []; reads = ap (λ (y : AppView). y.reads) only.view ∙ sym (append-nil v.reads) }

  pub has-bytes : 0 < item.lending.loan.len
  has-bytes = loan-some x stands.common.apart (lent_piece x.taken item.lending) item.out

  pub item-poured : HasPoured Q first (item_counted w lent.copied) now kept x (items ++ the_item ∷ []) lent.flow item.lending.loan.len
  item-poured =
      let size : length (items ++ the_item ∷ []) ≡ length items + 1 = length-append items (the_item ∷ []) in
      let lens : total given_len (items ++ the_item ∷ []) ≡ total given_len items + (item.lending.loan.len + 0) = total-append given_len items (the_item ∷ []) in
      let one = item.lends (λ _. 1) in
      let len = item.lends lent_len in
      record {
        given = (item.items items poured.given).1;
        many = omega (arith, one, total-one x.loans, total-one v.loans, ap length returned-same, poured.many, size);
        lent = omega (arith, len, ap (total lent_len) returned-same, poured.lent, lens);
        some = omega (arith, poured.some, has-bytes, size, lens);
        copies = omega (arith, item.spares, one-at-most lent.copied, poured.copies, size);
        back = first-same v x (total (λ f. f.1) w.counts) written-same (ap (λ (y : AppView). y.setting) only.view) returned-same poured.back;
        sum = omega (arith, poured.sum, none, lens);
        counts = λ n. omega (arith, poured.counts n, none-at n torn missing none, push-length n items the_item);
        once = poured.once;
        known = λ n some. omega (arith, poured.known n some, push-length n items the_item);
        written = poured.written;
        loans = omega (arith, poured.loans, size);
        copied = copied-on lent.copied w.copied v.spares x.spares poured.copied item.spares;
        room = poured.room;
        empty = poured.empty;
        shelved = λ n. Gained-weaker (first n) (kept n) (IsPoured (P × (n ≡ torn)) v (marks_given n items) (bytes_written_of n w.counts))
            (IsPoured (Q × (n ≡ lent.flow)) x (marks_given n (items ++ the_item ∷ [])) (bytes_written_of n w.counts))
            (λ bytes is. subst (λ ms. IsPoured (Q × (n ≡ lent.flow)) x ms (bytes_written_of n w.counts) bytes) (sym (given-push n items the_item))
            (longer (P × (n ≡ torn)) (Q × (n ≡ lent.flow)) v x on (λ both. whole both.0) (marks_given n items) _ (bytes_written_of n w.counts) bytes is))
            (poured.shelved n);
      }

-- ---- there is a count for its flow

pub record Roomy (u w : TallyState) : Type 0 where
  pub same : w ≡ record u { counts = w.counts; flows = w.flows; room = w.room }
  pub room : length w.counts ≤ w.room
  pub empty : w.flows ≡ []

pub is-roomy : (u v w : LoanTally) (copied : Bool) → tally_state_of v ≡ item_counted (tally_state_of u) copied
    → w ≡ record v { counts = w.counts; flows = w.flows }
    → HasRoomForFlows (tally_state_of w) → Roomy (item_counted (tally_state_of u) copied) (tally_state_of w)
is-roomy u v w copied counted same roomy = record {
  same = ap tally_state_of same ∙ ap (λ (t : TallyState). record t { counts = w.counts.entries; flows = w.flows.items; room = vec_capacity w.flows }) counted;
  room = roomy.room;
  empty = roomy.empty;
}

pub poured-roomy : (P : Type 0) (first kept : ℕ → Option (List ℕ)) (u w : TallyState) (st : Desk) (v : AppView) (items : List GivenItem) (torn missing : ℕ)
    → HasPoured P first u st kept v items torn missing → Roomy u w → (flow : ℕ) → AddsTo flow 0 u.counts w.counts
    → 0 < length (marks_given flow items) → HasPoured P first w st kept v items torn missing
poured-roomy P first kept u w st v items torn missing poured roomy flow adds there =
    let bytes : (n : ℕ) → bytes_written_of n w.counts ≡ bytes_written_of n u.counts = λ n. omega (arith, adds.counts n, none-at n flow 0 refl) in record {
      given = poured.given;
      many = poured.many;
      lent = poured.lent;
      some = poured.some;
      copies = poured.copies;
      back = first-more v (total (λ f. f.1) u.counts) (total (λ f. f.1) w.counts) (omega (arith, adds.sum)) poured.back;
      sum = omega (arith, poured.sum, adds.sum);
      counts = λ n. omega (arith, bytes n, poured.counts n);
      once = λ n. ⊎_elim
          (λ (here : n ≡ flow). subst (λ m. times_written m w.counts ≤ 1) (sym here) (adds.once (poured.once flow)))
          (λ (not : n ≢ flow). (let same = adds.others n not in omega (arith, same, poured.once n)))
          (cases_eq n flow);
      known = λ n some. ⊎_elim
          (λ (here : n ≡ flow). subst (λ m. 0 < length (marks_given m items)) (sym here) there)
          (λ (not : n ≢ flow). poured.known n (let same = adds.others n not in omega (arith, same, some)))
          (cases_eq n flow);
      written = ap (λ (y : TallyState). y.written) roomy.same ∙ poured.written ∙ ap capped (omega (arith, adds.sum));
      loans = ap (λ (y : TallyState). y.loans) roomy.same ∙ poured.loans;
      copied = ap (λ (y : TallyState). y.copied) roomy.same ∙ poured.copied;
      room = roomy.room;
      empty = roomy.empty;
      shelved = λ n. Gained-weaker (first n) (kept n) (IsPoured (P × (n ≡ torn)) v (marks_given n items) (bytes_written_of n u.counts))
          (IsPoured (P × (n ≡ torn)) v (marks_given n items) (bytes_written_of n w.counts))
          (λ bs is. subst (λ k. IsPoured (P × (n ≡ torn)) v (marks_given n items) k bs) (sym (bytes n)) is) (poured.shelved n);
    }
