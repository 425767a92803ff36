-- Bytes of an item were appended and counted.
use Rattle.std.proofs.Common.{◌≡◌, ◌≢◌, ℕ, ◌+◌, ◌-◌, ◌^◌, ◌<◌, ◌≤◌, ◌==◌, min, true, false, if◌then◌else◌, List, [], ◌∷◌, ◌++◌, length, take, drop, Option, refl, sym, ap, subst, ◌∙◌, arith, ⊎_elim, length-append, append-nil}
use Rattle.std.{specs.Io.KnownBytes.{Keeps}, proofs.{lemmas.Bool.{cases_eq, eq-eqb, ne_eqb}, Math.Seq.{take-append_seam, drop-append-add, take-append-add}}}
use Rattle.zr_io.{specs.Moved.{Gained}, proofs.Moved.{Gained-then, Gained-nothing}}
use Rattle.board_face.specs.declared.views.app.AppView.{AppView}
use Rattle.flow_queues.specs.{declared.queues.Lending.{Lending}, Marks.{Mark, marks_from}, Core.{IsIn, lent_piece, marks_of_loan, AreReadAt, IsReadOf, total}}
use Rattle.flow_queues.specs.{Totals.{capped, lent_len}, Shelves.{AreOfOneLoan, kept_loans}, Ends.{bytes_written_of, times_written}}
use Rattle.flow_queues.{proofs.{Entering.{marks-length, marks-take, marks-drop}, ReadLemmas.{read-append}, Tokens.{in-left}}, specs.Counting.{TallyState, AddsTo}}
use Rattle.zc_poll.specs.{Standing.{Desk}, Items.{GivenItem, HasGiven, marks_given}, Pouring.{IsPoured, HasPoured, given_len}}
use Rattle.zc_poll.proofs.{Marking.{given-push}, PouredOn.{SeesOn, read-on, poured-exact}, EntriesFirst.{first-more, first-same}, ItemPoured.{push-length, same-kept}}

-- the marks of a flow up to so many of the item behind them
up-to : (xs : List Mark) (l : Lending) (k : ℕ) → k ≤ l.loan.len → take (length xs + k) (xs ++ marks_of_loan l) ≡ xs ++ marks_from l.note l.at k
up-to xs l k within = take-append-add xs (marks_of_loan l) k ∙ ap (λ ms. xs ++ ms) (marks-take l.note l.at l.loan.len k within)

module _ (v y : AppView) (on : SeesOn v y) (notes : y.taken ≡ v.taken) (loans : kept_loans y ≡ kept_loans v) (l : Lending) (known : l.note < length v.taken)
    (out : IsIn (lent_piece v.taken l) v.loans) (xs : List Mark) (done : ℕ) where
  -- what one flow gained before and with the item
  joined : (P : Type 0) (count : ℕ) (bytes more : List ℕ) → IsPoured P v (xs ++ marks_of_loan l) count bytes → (P → ⊥) → length xs ≡ count
      → IsReadOf v.taken y.reads l done l.loan.len more → (Q : Type 0) → (done < l.loan.len → Q)
      → IsPoured Q y (xs ++ marks_of_loan l) (count + done) (bytes ++ more)
  joined P count bytes more is none size read Q torn =
      let same : count ≡ length bytes = is.exact none in
      let long : length (bytes ++ more) ≡ length xs + length more = omega (arith, length-append bytes more, same, size) in
      let marks : take (length (bytes ++ more)) (xs ++ marks_of_loan l) ≡ xs ++ marks_from l.note l.at (length more) =
      ap (λ n. take n (xs ++ marks_of_loan l)) long ∙ up-to xs l (length more) read.at_most in
      let first : take (length bytes) (xs ++ marks_of_loan l) ≡ xs =
      ap (λ n. take n (xs ++ marks_of_loan l)) (let e : length bytes ≡ length xs = omega (arith, same, size) in e) ∙ take-append_seam xs (marks_of_loan l) in
      let before : AreReadAt y.taken y.reads xs bytes =
      subst (λ ms. AreReadAt y.taken y.reads ms bytes) first (read-on v y on (take (length bytes) (xs ++ marks_of_loan l)) bytes is.are) in
      let behind : AreReadAt y.taken y.reads (marks_from l.note l.at (length more)) more =
      subst (λ ts. AreReadAt ts y.reads (marks_from l.note l.at (length more)) more) (sym notes) read.are in
      record {
        are = subst (λ ms. AreReadAt y.taken y.reads ms (bytes ++ more)) (sym marks) (read-append y.taken y.reads xs (marks_from l.note l.at (length more)) bytes more before behind);
        at_least = omega (arith, long, size, read.at_least);
        at_once = omega (arith, long, size, read.at_once);
        exact = λ no. ⊎_elim
            (λ (all : done ≡ l.loan.len). omega (arith, all, long, size, read.at_least, read.at_most))
            (λ (part : done ≢ l.loan.len). absurd (no (torn (omega (arith, part, read.at_least, read.at_most)))))
            (cases_eq done l.loan.len);
        beyond = λ less.
            let rest : drop (count + done) (xs ++ marks_from l.note l.at (length more)) ≡ marks_from l.note (l.at + done) (length more - done) =
            ap (λ n. drop (n + done) (xs ++ marks_from l.note l.at (length more))) (sym size)
            ∙ drop-append-add xs (marks_from l.note l.at (length more)) done ∙ marks-drop l.note l.at (length more) done read.at_least in
            let long_rest : length (marks_from l.note (l.at + done) (length more - done)) ≡ length more - done =
            marks-length l.note (l.at + done) (length more - done) in
            subst (AreOfOneLoan y.taken (kept_loans y)) (sym (ap (drop (count + done)) marks ∙ rest)) (record {
              lending = l;
              known = (let e : length y.taken ≡ length v.taken = ap length notes in omega (arith, e, known));
              out = subst (λ ls. IsIn (lent_piece y.taken l) ls) (sym loans) (subst (λ ts. IsIn (lent_piece ts l) (kept_loans v)) (sym notes)
                  (in-left (lent_piece v.taken l) v.loans _ out));
              from = done;
              within = omega (arith, long_rest, read.at_least, read.at_most);
              are = ap (marks_from l.note (l.at + done)) (sym long_rest);
            });
      }

pub at-flow : (n flow bytes : ℕ) → n ≡ flow → (if n == flow then bytes else 0) ≡ bytes
at-flow n flow bytes same = rw (let test : (n == flow) ≡ true = eq-eqb n flow same in test) refl

not-flow : (n flow bytes : ℕ) → n ≢ flow → (if n == flow then bytes else 0) ≡ 0
not-flow n flow bytes other = rw (let test : (n == flow) ≡ false = ne_eqb n flow other in test) refl

module _ (P : Type 0) (first kept later : ℕ → Option (List ℕ)) (u w : TallyState) (st : Desk) (v y : AppView) (items : List GivenItem) (g : GivenItem)
    (done : ℕ)
    (poured : HasPoured P first u st kept v (items ++ g ∷ []) g.flow (given_len g)) (none : P → ⊥) (on : SeesOn v y)
    (view : y ≡ record v { reads = y.reads }) (known : g.lending.note < length v.taken) (out : IsIn (lent_piece v.taken g.lending) v.loans)
    (counted : done ≤ given_len g)
    (gained : Gained (kept g.flow) (later g.flow) (IsReadOf v.taken y.reads g.lending done (given_len g)))
    (others : (n : ℕ) → n ≢ g.flow → Keeps (kept n) (later n))
    (same : w ≡ record u { counts = w.counts; written = min (u.written + done) (2 ^ 64 - 1) })
    (has : 0 < given_len g) (adds : AddsTo g.flow done u.counts w.counts) (many : length w.counts ≡ length u.counts) where
  taken-same : y.taken ≡ v.taken
  taken-same = ap (λ (x : AppView). x.taken) view

  kept-same : kept_loans y ≡ kept_loans v
  kept-same = same-kept v y (ap (λ (x : AppView). x.loans) view) (ap (λ (x : AppView). x.returned) view) (ap (λ (x : AppView). x.written) view)

  abbrev Now : ℕ → List ℕ → Type 0
  Now n bytes = IsPoured ((done < given_len g) × (n ≡ g.flow)) y (marks_given n (items ++ g ∷ [])) (bytes_written_of n w.counts) bytes

  abbrev Was : ℕ → List ℕ → Type 0
  Was n bytes = IsPoured (P × (n ≡ g.flow)) v (marks_given n (items ++ g ∷ [])) (bytes_written_of n u.counts) bytes

  marks-are : marks_given g.flow (items ++ g ∷ []) ≡ marks_given g.flow items ++ marks_of_loan g.lending
  marks-are = given-push g.flow items g ∙ ap (λ ms. marks_given g.flow items ++ ms)
      (rw (let test : (g.flow == g.flow) ≡ true = eq-eqb g.flow g.flow refl in test) refl)

  here : Gained (first g.flow) (later g.flow) (Now g.flow)
  here =
      let count : bytes_written_of g.flow w.counts ≡ bytes_written_of g.flow u.counts + done =
      adds.counts g.flow ∙ ap (λ k. bytes_written_of g.flow u.counts + k) (at-flow g.flow g.flow done refl) in
      let size : length (marks_given g.flow items) ≡ bytes_written_of g.flow u.counts = omega (
        arith,
        poured.counts g.flow,
        at-flow g.flow g.flow (given_len g) refl,
        push-length g.flow items g,
      ) in
      Gained-then (first g.flow) (kept g.flow) (later g.flow) (Was g.flow) (IsReadOf v.taken y.reads g.lending done (given_len g)) (Now g.flow)
      (λ bytes more is read.
      subst (λ k. IsPoured ((done < given_len g) × (g.flow ≡ g.flow)) y (marks_given g.flow (items ++ g ∷ [])) k (bytes ++ more)) (sym count)
      (subst (λ ms. IsPoured ((done < given_len g) × (g.flow ≡ g.flow)) y ms (bytes_written_of g.flow u.counts + done) (bytes ++ more)) (sym marks-are)
      (joined v y on taken-same kept-same g.lending known out (marks_given g.flow items) done (P × (g.flow ≡ g.flow)) (bytes_written_of g.flow u.counts)
      bytes more
      (subst (λ ms. IsPoured (P × (g.flow ≡ g.flow)) v ms (bytes_written_of g.flow u.counts) bytes) marks-are is) (λ both. none both.0) size read
      ((done < given_len g) × (g.flow ≡ g.flow)) (λ part. (part, refl)))))
      (poured.shelved g.flow) gained

  there : (n : ℕ) → n ≢ g.flow → Gained (first n) (later n) (Now n)
  there n other =
      let count : bytes_written_of n w.counts ≡ bytes_written_of n u.counts = omega (arith, adds.counts n, not-flow n g.flow done other) in
      Gained-then (first n) (kept n) (later n) (Was n) (λ more. more ≡ []) (Now n)
      (λ bytes more is no.
      subst (λ ms. Now n (bytes ++ ms)) (sym no) (subst (Now n) (sym (append-nil bytes))
      (subst (λ k. IsPoured ((done < given_len g) × (n ≡ g.flow)) y (marks_given n (items ++ g ∷ [])) k bytes) (sym count)
      (poured-exact (P × (n ≡ g.flow)) ((done < given_len g) × (n ≡ g.flow)) v y on (λ both. other both.1) (marks_given n (items ++ g ∷ []))
      (bytes_written_of n u.counts) bytes is))))
      (poured.shelved n) (Gained-nothing (kept n) (later n) (λ more. more ≡ []) (others n other) refl)

  pub appended : HasPoured (done < given_len g) first w st later y (items ++ g ∷ []) g.flow (given_len g - done)
  appended = record {
    given = subst (λ ts. HasGiven (items ++ g ∷ []) st.flows ts) (sym taken-same) poured.given;
    many = ap (λ (x : AppView). length x.loans + length x.returned) view ∙ poured.many;
    lent = ap (λ (x : AppView). total lent_len x.loans + total lent_len x.returned) view ∙ poured.lent;
    some = poured.some;
    copies = (let e : y.spares ≡ v.spares = ap (λ (x : AppView). x.spares) view in omega (arith, e, poured.copies));
    back = first-more y (total (λ f. f.1) u.counts) (total (λ f. f.1) w.counts) (omega (arith, adds.sum))
        (first-same v y (total (λ f. f.1) u.counts) (ap (λ (x : AppView). x.written) view) (ap (λ (x : AppView). x.setting) view)
        (ap (λ (x : AppView). x.returned) view) poured.back);
    sum = omega (arith, adds.sum, poured.sum, counted);
    counts = λ n. ⊎_elim
        (λ (is : n ≡ g.flow). omega (
          arith,
          adds.counts n,
          poured.counts n,
          at-flow n g.flow done is,
          at-flow n g.flow (given_len g) is,
          at-flow n g.flow (given_len g - done) is,
          counted,
        ))
        (λ (not : n ≢ g.flow). omega (
          arith,
          adds.counts n,
          poured.counts n,
          not-flow n g.flow done not,
          not-flow n g.flow (given_len g) not,
          not-flow n g.flow (given_len g - done) not,
        ))
        (cases_eq n g.flow);
    once = λ n. ⊎_elim
        (λ (is : n ≡ g.flow). subst (λ m. times_written m w.counts ≤ 1) (sym is) (adds.once (poured.once g.flow)))
        (λ (not : n ≢ g.flow). (let e = adds.others n not in omega (arith, e, poured.once n)))
        (cases_eq n g.flow);
    known = λ n some. ⊎_elim
        (λ (is : n ≡ g.flow). subst (λ m. 0 < length (marks_given m (items ++ g ∷ []))) (sym is) (omega (arith, push-length g.flow items g, at-flow g.flow g.flow (given_len g) refl, has)))
        (λ (not : n ≢ g.flow). poured.known n (let e = adds.others n not in omega (arith, e, some)))
        (cases_eq n g.flow);
    written = ap (λ (x : TallyState). x.written) same ∙ (let e = poured.written in omega (arith, e, adds.sum));
    loans = ap (λ (x : TallyState). x.loans) same ∙ poured.loans;
    copied = ap (λ (x : TallyState). x.copied) same ∙ poured.copied ∙ ap capped (sym (ap (λ (x : AppView). x.spares) view));
    room = (let e : w.room ≡ u.room = ap (λ (x : TallyState). x.room) same in omega (arith, e, many, poured.room));
    empty = ap (λ (x : TallyState). x.flows) same ∙ poured.empty;
    shelved = λ n. ⊎_elim
        (λ (is : n ≡ g.flow). subst (λ m. Gained (first m) (later m) (Now m)) (sym is) here)
        (λ (not : n ≢ g.flow). there n not)
        (cases_eq n g.flow);
  }
