-- No more strays were counted than may follow the loans that were given back.
use Rattle.std.proofs.Common.{◌≡◌, ℕ, suc, ◌+◌, ◌*◌, ◌<◌, ◌≤◌, ◌==◌, Bool, true, false, if◌then◌else◌, List, [], ◌∷◌}
use Rattle.std.{proofs.Common.{Some, length, refl, sym, ap, subst, ◌∙◌, arith}, specs.{Prelude.{All, filter}, List.{slice_get, zip}}}
use Rattle.std.proofs.{Math.Nat.{mul-add, mul-le-mul_left}, lemmas.{Bool.{false≢true}, List.{length-map, Elements.{All-head, All-tail, All-filter}}}}
use Rattle.std.proofs.lemmas.{List.Sums.{sum_by-cons, length-filter}, Option.{slice_get_within}}
use Rattle.zr_kinds.specs.declared.{outcome.AppLine.{AppLine}, ring.Rqe.{Rqe}}
use Rattle.board_face.specs.{Ended.{HaveEnded, IsServed}, Holders.{sent_to}, Relay.{IsNoLoanStray}, Sides.{IsApp, side_in}, declared.views.nic.NicSide.{NicSide}}
use Rattle.board_face.specs.declared.views.{nic.{Dealt.{Dealt}, Fate.{Fate, TheVariants.{Honoured, Stray}}}, app.{WrittenEntry.{WrittenEntry}, AppSide.{AppSide}}}
use Rattle.board_face.proofs.Tallies.{one_if, one_if-le, tally}
use Rattle.page_pool.specs.Dealing.{is_stray, strays_in}
use Rattle.app_worker.specs.Core.{total}
use Rattle.flow_queues.specs.{Ends.{AppEnd}, Totals.{raw_entries, loan_entries, taken_len}}
use Rattle.card_feed.specs.{Feed.{FeedState}, Plan.{how_of}, declared.plan.Plan.{Plan}}
use Rattle.run_account.{specs.{Ran.{all_loans, app_lines_of}, Running.{HasRun}, Views.{Ends, Streams}}, proofs.{Accounting.{line-known, side-is}, AppLines.{many-lines}, FlowSums.{over}}}
use Rattle.run_account.proofs.{NoteSums.{note_len}, SentFew.{most_sent, notes-few, own-few, taken-sum}, Shares.{shares}}

abbrev one_raw : WrittenEntry → ℕ
one_raw w = if w.of_loan then 0 else 1

-- ---- of all applications

-- where each has no more than a multiple of its loans
within-loans : (h : ℕ → ℕ) (most : ℕ) (lines : List AppLine) (from : ℕ)
    → ((i : ℕ) (line : AppLine) → slice_get lines i ≡ Some line → h (from + i) ≤ most * line.loans)
    → over h from (length lines) ≤ most * all_loans lines
within-loans h most [] from each = omega arith
within-loans h most (line ∷ lines) from each =
    let place : from + 0 ≡ from = omega arith in
    let first : h from ≤ most * line.loans = subst (λ n. h n ≤ most * line.loans) place (each 0 line refl) in
    let later : over h (suc from) (length lines) ≤ most * all_loans lines = within-loans h most lines (suc from)
    (λ i l at. let next : from + suc i ≡ suc from + i = omega arith in subst (λ n. h n ≤ most * l.loans) next (each (suc i) l at)) in
    let sums : all_loans (line ∷ lines) ≡ line.loans + all_loans lines = sum_by-cons (λ (l : AppLine). l.loans) line lines in
    let product : most * all_loans (line ∷ lines) ≡ most * line.loans + most * all_loans lines =
    ap (λ n. most * n) sums ∙ mul-add most line.loans (all_loans lines) in
    omega (arith, first, later, product)

-- ---- of one application

one-of : {A : Type 0} (p : A → Bool) (b : Bool) (x : A) (xs : List A)
    → tally p (if b then x ∷ xs else xs) ≡ (if b then one_if (p x) else 0) + tally p xs
one-of p true x xs = refl
one-of p false x xs = omega arith

both-weigh : (b c : Bool) → (if b then one_if c else 0) ≡ (if c then one_if b else 0)
both-weigh true true = refl
both-weigh true false = refl
both-weigh false true = refl
both-weigh false false = refl

-- those of one kind among those of another
tally-swap : {A : Type 0} (p q : A → Bool) (xs : List A) → tally p (filter q xs) ≡ tally q (filter p xs)
tally-swap p q [] = refl
tally-swap p q (x ∷ xs) = omega (
  arith,
  one-of p (q x) x (filter q xs),
  one-of q (p x) x (filter p xs),
  both-weigh (q x) (p x),
  tally-swap p q xs,
)

stray-kind : (of_loan : Bool) (fate : Fate) (entry dealt : Rqe) (app : ℕ)
    → IsNoLoanStray (record { entry = entry; of_loan = of_loan }, record { app = app; entry = dealt; fate = fate })
    → one_if (is_stray fate) ≤ (if of_loan then 0 else 1)
stray-kind false fate entry dealt app none = one_if-le (is_stray fate)
stray-kind true Stray entry dealt app none = absurd (false≢true (sym (none refl)))
stray-kind true (Honoured buffer) entry dealt app none = omega arith

-- each stray was written raw
strays-raw : (ws : List WrittenEntry) (ds : List Dealt) → length ds ≤ length ws → All IsNoLoanStray (zip ws ds)
    → tally (λ (d : Dealt). is_stray d.fate) ds ≤ total one_raw ws
strays-raw ws [] few none = omega arith
strays-raw [] (d ∷ ds) few none = absurd (omega (arith, few))
strays-raw (w ∷ ws) (d ∷ ds) few none = omega (
  arith,
  stray-kind w.of_loan d.fate w.entry d.entry d.app (All-head IsNoLoanStray (w, d) (zip ws ds) none),
  strays-raw ws ds (omega (arith, few)) (All-tail IsNoLoanStray (w, d) (zip ws ds) none),
)

-- ---- of a run

module _ {S T : Type 0} {m : Streams S T} (was now : Ends m) (plan : Plan) (nic : NicSide) (apps : List AppSide) (feed : FeedState)
    (ends : List AppEnd) (ended : HaveEnded nic apps)
    (runs : HasRun was now plan nic apps feed ends) where
  here-is : (a : ℕ) (end : AppEnd) → slice_get ends a ≡ Some end → IsApp apps a (side_in apps a)
  here-is a end at = side-is was now plan nic apps feed ends ended runs a
      (omega (arith, slice_get_within ends a end at, runs.many))

  served-at : (a : ℕ) (end : AppEnd) → slice_get ends a ≡ Some end → IsServed nic (side_in apps a)
  served-at a end at = let here = here-is a end at in subst (IsServed nic) here.is (ended.served a (side_in apps a) here.there)

  -- what an application took is what was sent to it
  took-few : (a : ℕ) (end : AppEnd) → slice_get ends a ≡ Some end → total taken_len (side_in apps a).view.taken ≤ most_sent
  took-few a end at =
      let v = (side_in apps a).view in
      let few = notes-few m.source.left m.source.failed was.source now.source plan.ports.items plan.options.split runs.frames feed nic.view runs.stands
      runs.records ended.proper in
      let taken : total taken_len v.taken ≡ total note_len (sent_to v.app nic) =
      ap (total taken_len) (served-at a end at).taken ∙ taken-sum (sent_to v.app nic) in
      let own = own-few v.app nic.view.sent in
      let bytes = few.bytes in
      omega (arith, taken, own.1, bytes)

  -- the loans of an application are too few for their count to stop
  loans-are : (a : ℕ) (end : AppEnd) → slice_get ends a ≡ Some end → end.loans ≡ length (side_in apps a).view.returned
  loans-are a end at =
      let went = runs.app a end at in
      let bound = went.bound in
      let counted = went.loans in
      omega (arith, took-few a end at, bound, counted)

  app-strays : (a : ℕ) (end : AppEnd) → slice_get ends a ≡ Some end
      → tally (λ (d : Dealt). d.app == a) (filter (λ (d : Dealt). is_stray d.fate) nic.view.dealt) ≤ (how_of plan).stray * end.loans
  app-strays a end at =
      let app : AppSide = side_in apps a in
      let here = here-is a end at in
      let went = runs.app a end at in
      let served : IsServed nic app = served-at a end at in
      let own : List Dealt = filter (λ (d : Dealt). d.app == app.view.app) nic.view.dealt in
      let dealt : length own ≤ length app.view.written = omega (
        arith,
        ap length served.entries,
        length-map own (λ (d : Dealt). d.entry),
        length-map app.view.written (λ (w : WrittenEntry). w.entry),
      ) in
      let raw : tally (λ (d : Dealt). is_stray d.fate) own ≤ raw_entries app.view = strays-raw app.view.written own dealt served.strays in
      let swapped : tally (λ (d : Dealt). d.app == a) (filter (λ (d : Dealt). is_stray d.fate) nic.view.dealt)
      ≡ tally (λ (d : Dealt). is_stray d.fate) own =
      tally-swap (λ (d : Dealt). d.app == a) (λ (d : Dealt). is_stray d.fate) nic.view.dealt
      ∙ ap (λ b. tally (λ (d : Dealt). is_stray d.fate) (filter (λ (d : Dealt). d.app == b) nic.view.dealt)) (sym here.number) in
      let follow = went.strays in
      let given = went.entries in
      let most : (how_of plan).stray * loan_entries app.view ≤ (how_of plan).stray * end.loans =
      mul-le-mul_left (how_of plan).stray (omega (arith, given, loans-are a end at)) in
      omega (arith, raw, swapped, follow, most)

  pub strays-within : strays_in nic.view.dealt ≤ (how_of plan).stray * all_loans (app_lines_of plan.ports.items ends)
  strays-within =
      let strays : List Dealt = filter (λ (d : Dealt). is_stray d.fate) nic.view.dealt in
      let lines : List AppLine = app_lines_of plan.ports.items ends in
      let all : over (λ a. tally (λ (d : Dealt). d.app == a) strays) 0 (length plan.ports.items) ≡ length strays =
      shares (length plan.ports.items) strays
      (All-filter (λ (d : Dealt). is_stray d.fate) (λ d. d.app < length plan.ports.items) nic.view.dealt runs.dealt) in
      let many : length lines ≡ length plan.ports.items = many-lines plan.ports.items ends runs.many in
      let most : over (λ a. tally (λ (d : Dealt). d.app == a) strays) 0 (length lines) ≤ (how_of plan).stray * all_loans lines =
      within-loans (λ a. tally (λ (d : Dealt). d.app == a) strays) (how_of plan).stray lines 0
      (λ i line at.
      let known = line-known was now plan nic apps feed ends ended runs i line at in
      let place : i ≡ 0 + i = omega arith in
      subst (λ n. tally (λ (d : Dealt). d.app == n) strays ≤ (how_of plan).stray * line.loans) place
      (subst (λ (l : AppLine). tally (λ (d : Dealt). d.app == i) strays ≤ (how_of plan).stray * l.loans) (sym known.is)
      (app-strays i known.end known.end_at))) in
      let same : over (λ a. tally (λ (d : Dealt). d.app == a) strays) 0 (length lines)
      ≡ over (λ a. tally (λ (d : Dealt). d.app == a) strays) 0 (length plan.ports.items) =
      ap (over (λ a. tally (λ (d : Dealt). d.app == a) strays) 0) many in
      let counted : length strays ≡ strays_in nic.view.dealt = length-filter (λ (d : Dealt). is_stray d.fate) nic.view.dealt in
      omega (arith, all, most, same, counted)
