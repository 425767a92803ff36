-- The flush of one shelf more.
use Rattle.std.proofs.Common.{◌≡◌, ◌≢◌, ℕ, ◌+◌, ◌<◌, ◌≤◌, Bool, true, false, ◌||◌, List, length, set, get_or, Option, Some, refl, sym, ap, subst, ◌∙◌, ⊎_elim, arith}
use Rattle.std.{specs.{List.{slice_get}, Io.KnownBytes.{Keeps}}, proofs.KnownBytes.{Keeps-refl, Keeps-trans}}
use Rattle.std.proofs.lemmas.{Bool.{cases_eq, or_cases}, Grind.{drop_more_same}, List.{drop-set-lt, length-set, set-get_or}, Option.{get_or_from_slice_get}}
use Rattle.zr_kinds.specs.declared.outcome.AppLine.{AppLine}
use Rattle.zr_io.specs.Moved.{Rose, ShelfCounts}
use Rattle.card_feed.specs.Account.{kept_in}
use Rattle.run_account.{specs.Views.{losses_in, shelf_seen}, proofs.AppLines.{one-value}}
use Rattle.run_account.proofs.Places.{get-set_same, get-set_other, get-within, kept-here, kept-there, losses-here, losses-there}
use Rattle.top_call.{specs.Flushing.{Flushes, HasFlushed, HasLost}, proofs.Found.{get-same_rest}}

or-false : (a b : Bool) → (a || b) ≡ false → (a ≡ false) × (b ≡ false)
or-false true b is = absurd (cc)
or-false false b is = (refl, is)

-- what a shelf has lost, and its line, by how its flush went
rose-at : (losses losses_now : ℕ) (line line_now : AppLine) (failed : Bool) → HasFlushed losses losses_now line line_now failed → failed ≡ true
    → Rose losses losses_now
rose-at losses losses_now line line_now true flushed is = flushed.0
rose-at losses losses_now line line_now false flushed is = absurd (cc)

went-well : (losses losses_now : ℕ) (line line_now : AppLine) (failed : Bool) → HasFlushed losses losses_now line line_now failed → failed ≡ false
    → (losses_now ≡ losses) × (line_now ≡ line)
went-well losses losses_now line line_now true flushed is = absurd (cc)
went-well losses losses_now line line_now false flushed is = flushed

pub flushes-none : {T : Type 0} (kept : T → ℕ → Option (List ℕ)) (losses : T → ShelfCounts) (shelves : List T) (lines : List AppLine)
    → Flushes (shelf_seen kept losses) 0 shelves shelves lines lines false
flushes-none kept losses shelves lines = record {
  keeps = λ app flow. Keeps-refl (kept_in kept shelves app flow);
  many = refl;
  beyond = refl;
  line = λ app line within at. absurd (omega arith);
  many_lines = refl;
  beyond_lines = refl;
  later = λ app. omega arith;
  failed_at = λ is. cc;
  still = λ none app. refl;
  as_before = λ none. refl;
  appended = λ app. refl;
}

module _ {T : Type 0} (kept : T → ℕ → Option (List ℕ)) (losses : T → ShelfCounts) (app : ℕ) (shelves now : List T) (lines lines_now : List AppLine)
    (lost failed : Bool) (shelf shelf_now : T) (line line_now : AppLine)
    (so_far : Flushes (shelf_seen kept losses) app shelves now lines lines_now lost)
    (shelf_at : slice_get now app ≡ Some shelf) (line_at : slice_get lines_now app ≡ Some line)
    (keeps : (flow : ℕ) → Keeps (kept shelf flow) (kept shelf_now flow))
    (later : (losses shelf).faults ≤ (losses shelf_now).faults) (took : (losses shelf_now).appended ≡ (losses shelf).appended)
    (flushed : HasFlushed (losses shelf).faults (losses shelf_now).faults line line_now failed) where
  within : app < length now
  within = get-within now app shelf shelf_at

  within_lines : app < length lines_now
  within_lines = get-within lines_now app line line_at

  same-shelf : slice_get now app ≡ slice_get shelves app
  same-shelf = get-same_rest app shelves now app so_far.beyond (omega arith)

  same-line : slice_get lines_now app ≡ slice_get lines app
  same-line = get-same_rest app lines lines_now app so_far.beyond_lines (omega arith)

  kept-now : kept_in kept (set now app shelf_now) app ≡ kept shelf_now
  kept-now = kept-here kept (set now app shelf_now) app shelf_now (get-set_same now app shelf_now within)

  lost-now : (losses_in losses (set now app shelf_now) app).faults ≡ (losses shelf_now).faults
  lost-now = ap (λ (c : ShelfCounts). c.faults) (losses-here losses (set now app shelf_now) app shelf_now (get-set_same now app shelf_now within))

  lost-first : (losses_in losses shelves app).faults ≡ (losses shelf).faults
  lost-first = ap (λ (c : ShelfCounts). c.faults) (losses-here losses shelves app shelf (sym same-shelf ∙ shelf_at))

  lost-other : (a : ℕ) → a ≢ app → (losses_in losses (set now app shelf_now) a).faults ≡ (losses_in losses now a).faults
  lost-other a other = ap (λ (c : ShelfCounts). c.faults) (losses-there losses now (set now app shelf_now) a (get-set_other now app a shelf_now other))

  keeps-one : (a flow : ℕ) → Keeps (kept_in kept shelves a flow) (kept_in kept (set now app shelf_now) a flow)
  keeps-one a flow = ⊎_elim
      (λ (own : a ≡ app). Keeps-trans (kept_in kept shelves a flow) (kept_in kept now a flow) (kept_in kept (set now app shelf_now) a flow)
      (so_far.keeps a flow)
      (subst (λ b. Keeps (kept_in kept now b flow) (kept_in kept (set now app shelf_now) b flow)) (sym own)
      (subst (λ k. Keeps (k flow) (kept_in kept (set now app shelf_now) app flow)) (sym (kept-here kept now app shelf shelf_at))
      (subst (λ k. Keeps (kept shelf flow) (k flow)) (sym kept-now) (keeps flow)))))
      (λ (other : a ≢ app). subst (λ k. Keeps (kept_in kept shelves a flow) (k flow))
      (sym (kept-there kept now (set now app shelf_now) a (get-set_other now app a shelf_now other))) (so_far.keeps a flow))
      (cases_eq a app)

  HasLine : ℕ → AppLine → Type 0
  HasLine a was = (f : Bool) × (l : AppLine) × (slice_get (set lines_now app line_now) a ≡ Some l)
      × HasFlushed (losses_in losses shelves a).faults (losses_in losses (set now app shelf_now) a).faults was l f

  line-own : (was : AppLine) → slice_get lines app ≡ Some was → HasLine app was
  unfolding HasLine
  line-own was at =
      let same : line ≡ was = one-value (sym line_at ∙ same-line ∙ at) in (
        failed,
        line_now,
        get-set_same lines_now app line_now within_lines,
        subst (λ n. HasFlushed n (losses_in losses (set now app shelf_now) app).faults was line_now failed) (sym lost-first)
            (subst (λ n. HasFlushed (losses shelf).faults n was line_now failed) (sym lost-now)
            (subst (λ l. HasFlushed (losses shelf).faults (losses shelf_now).faults l line_now failed) same flushed)),
      )

  line-one : (a : ℕ) (was : AppLine) → a < app + 1 → slice_get lines a ≡ Some was → HasLine a was
  unfolding HasLine
  line-one a was below at = ⊎_elim
      (λ (own : a ≡ app). subst (λ b. HasLine b was) (sym own) (line-own was (ap (slice_get lines) (sym own) ∙ at)))
      (λ (other : a ≢ app).
      let (f, l, there, so) = so_far.line a was (omega arith) at in
      (f, l, get-set_other lines_now app a line_now other ∙ there, subst (λ n. HasFlushed (losses_in losses shelves a).faults n was l f) (sym (lost-other a other)) so))
      (cases_eq a app)

  later-one : (a : ℕ) → (losses_in losses shelves a).faults ≤ (losses_in losses (set now app shelf_now) a).faults
  later-one a = ⊎_elim
      (λ (own : a ≡ app). subst (λ b. (losses_in losses shelves b).faults ≤ (losses_in losses (set now app shelf_now) b).faults) (sym own)
      (omega (arith, lost-first, lost-now, later)))
      (λ (other : a ≢ app). omega (arith, lost-other a other, so_far.later a)) (cases_eq a app)

  appended-one : (a : ℕ) → (losses_in losses (set now app shelf_now) a).appended ≡ (losses_in losses shelves a).appended
  appended-one a = ⊎_elim
      (λ (own : a ≡ app). subst (λ b. (losses_in losses (set now app shelf_now) b).appended ≡ (losses_in losses shelves b).appended) (sym own)
      (ap (λ (c : ShelfCounts). c.appended) (losses-here losses (set now app shelf_now) app shelf_now (get-set_same now app shelf_now within)) ∙ took
      ∙ sym (ap (λ (c : ShelfCounts). c.appended) (losses-here losses shelves app shelf (sym same-shelf ∙ shelf_at)))))
      (λ (other : a ≢ app).
      ap (λ (c : ShelfCounts). c.appended) (losses-there losses now (set now app shelf_now) a (get-set_other now app a shelf_now other))
      ∙ so_far.appended a) (cases_eq a app)

  lost-one : (lost || failed) ≡ true → HasLost (shelf_seen kept losses) shelves (set now app shelf_now) (app + 1)
  lost-one is = ⊎_elim
      (λ before.
      let (a, below, rose) = so_far.failed_at before in
      let other : a ≢ app = omega (arith, below) in
      (a, omega (arith, below), subst (Rose (losses_in losses shelves a).faults) (sym (lost-other a other)) rose))
      (λ own. (
        app,
        omega arith,
        subst (λ n. Rose n (losses_in losses (set now app shelf_now) app).faults) (sym lost-first)
            (subst (Rose (losses shelf).faults) (sym lost-now) (rose-at (losses shelf).faults (losses shelf_now).faults line line_now failed flushed own)),
      ))
      (or_cases lost failed is)

  still-one : (lost || failed) ≡ false → (a : ℕ) → (losses_in losses (set now app shelf_now) a).faults ≡ (losses_in losses shelves a).faults
  still-one none a =
      let (before, own) = or-false lost failed none in
      ⊎_elim
      (λ (same : a ≡ app). subst (λ b. (losses_in losses (set now app shelf_now) b).faults ≡ (losses_in losses shelves b).faults) (sym same)
      (lost-now ∙ (went-well (losses shelf).faults (losses shelf_now).faults line line_now failed flushed own).0 ∙ sym lost-first))
      (λ (other : a ≢ app). lost-other a other ∙ so_far.still before a) (cases_eq a app)

  as-before : (lost || failed) ≡ false → set lines_now app line_now ≡ lines
  as-before none =
      let (before, own) = or-false lost failed none in
      let same : line_now ≡ get_or lines_now app line_now =
      (went-well (losses shelf).faults (losses shelf_now).faults line line_now failed flushed own).1 ∙ sym (get_or_from_slice_get lines_now app line line_now line_at) in
      ap (set lines_now app) same ∙ set-get_or lines_now app line_now ∙ so_far.as_before before

  pub flushes-one : Flushes (shelf_seen kept losses) (app + 1) shelves (set now app shelf_now) lines (set lines_now app line_now) (lost || failed)
  unfolding HasLine
  flushes-one = record {
    keeps = keeps-one;
    many = length-set now app shelf_now ∙ so_far.many;
    beyond = drop-set-lt (app + 1) now app shelf_now (omega arith) ∙ drop_more_same now shelves app so_far.beyond;
    line = line-one;
    many_lines = length-set lines_now app line_now ∙ so_far.many_lines;
    beyond_lines = drop-set-lt (app + 1) lines_now app line_now (omega arith) ∙ drop_more_same lines_now lines app so_far.beyond_lines;
    later = later-one;
    failed_at = lost-one;
    still = still-one;
    as_before = as-before;
    appended = appended-one;
  }
