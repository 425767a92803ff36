-- The log goes on to tell of a board after a scrub.
use Rattle.std.proofs.Common.{◌≡◌, ◌∙◌, ℕ, zero, suc, ◌+◌, ◌*◌, ◌<◌, ◌≤◌, Bool, true, false, List, [], ◌∷◌, ◌++◌, eqb, ltb, if◌then◌else◌}
use Rattle.std.{proofs.Common.{refl, sym, ap, subst, arith, ⊎_elim}, specs.{Prelude.{◌≢◌, filter, not, slice_index}, List.{list_any}}}
use Rattle.std.proofs.lemmas.{Bool.{cases_lt, lt-ltb, le-ltb, eq-eqb, Decides.{eqb_tells}}, List.Elements.{All-get_or, All-set}}
use Rattle.zr_kinds.specs.{declared.{event.Event.{Event}, holding.Holding.{Holding}}, LegalRun.{HasSmallNumbers}, Setting.{total_buffers}}
use Rattle.zr_kinds.{specs.Holders.{is_in_range, is_same, is_user, with_holders}, proofs.Weighing.{one_if, weight-count, weight-filter, weight-length}}
use Rattle.zr_kinds.specs.declared.holding.Holding.TheVariants as holding
use Rattle.board_face.specs.{Holders.{ended_in}, Laws.{AllSides, TookAll, pool_of, scrubbed_by, user_of}, Sides.{IsApp}, declared.views.app.AppSide.{AppSide}}
use Rattle.board_face.proofs.{ListLemmas.{not-eqb}, Parts.{came_back_in, owed_count, owed-count, returned_in-count, total-shift, user_count-own, loans_in}}
use Rattle.plain_board.specs.{IsLogged.{AreSound, IsLogged, NoneReturns, setting_of_sides}, Logs.{KeptEvents, logged}, Plain.{weight}}
use Rattle.plain_board.{specs.{ScrubLaw.{ScrubEventLaw, scrub_logged, scrub_of, scrubbed_sides}, Tallies.{AreTallied}}, proofs.EventCounting.{pool-weight, user-weight}}
use Rattle.plain_board.proofs.Following.{Leads, Tells, Weights, after-is, logged-of, tells-as, tells-more, tells-of, weights_of}
use Rattle.plain_board.proofs.{Needs.{app-there, both-said, same-itself}, Parts.{app_weight, weight-parts}, Runs.{no-holders}, Settings.{total-same}, Shifts.{side-shift}}
use Rattle.plain_board.proofs.{Tallying.{card-stays, gains-none, keeps-app, tallies-card}, Weighing.{any-some}}

-- the weights without those of what an application owes
abbrev without_owed : ℕ → (Holding → ℕ) → Holding → ℕ
without_owed a f h = if not (is_same (holding.Owed a) h) then f h else 0

module _ (s : AllSides) (sound : AreSound s) (a : ℕ) (app : AppSide) (at : IsApp s.apps a app) (loans : app.view.loans ≡ []) (taken : List ℕ)
    (takes : TookAll s.nic app taken) where
  abbrev now : AppSide
  now = scrubbed_by app taken

  abbrev new : AllSides
  new = scrubbed_sides s a app taken

  abbrev owed : ℕ → ℕ
  owed b = owed_count b s.nic app

  owed-now : (b : ℕ) → owed_count b s.nic now ≡ 0
  owed-now b =
      let within : ended_in b s.nic app ≤ came_back_in b app = rw (returned_in-count b app) at (sound.fit.ended a b app at).ended in
      let ends : ended_in b s.nic now ≡ ended_in b s.nic app + owed b = omega (arith, takes b, owed-count b s.nic app) in
      omega (arith, ends, within)

  user-owed : (b : ℕ) → user_of s a b ≡ owed b
  user-owed b =
      let none : loans_in b app ≡ 0 = rw loans refl in
      omega (arith, user_count-own a b s.nic s.apps app sound.fit.numbers at, none)

  none-of : (n : ℕ) → 0 * n ≡ 0
  none-of n = omega arith

  -- what the application owed is gone
  shift : (b : ℕ) (f : Holding → ℕ) → weights_of new b f + owed b * f (holding.Owed a) ≡ weights_of s b f
  shift b f =
      let none : owed_count b s.nic now * f (holding.Owed app.view.app) ≡ 0 = rw (owed-now b) (none-of (f (holding.Owed app.view.app))) in
      let same : owed b * f (holding.Owed app.view.app) ≡ owed b * f (holding.Owed a) = ap (λ n. owed b * f (holding.Owed n)) at.number in
      omega (arith, side-shift s a app now at b f, none, same)

  other-kept : (b : ℕ) (f : Holding → ℕ) (x : AppSide) → x.view.app ≢ a → app_weight f b s.nic x ≡ app_weight (without_owed a f) b s.nic x
  other-kept b f x other =
      let isnt : eqb a x.view.app ≡ false = not-eqb a x.view.app (λ e. other (sym e)) in
      let same : without_owed a f (holding.Owed x.view.app) ≡ f (holding.Owed x.view.app) = rw isnt refl in
      omega (arith, ap (λ n. owed_count b s.nic x * n) same)

  own-less : (b : ℕ) (f : Holding → ℕ) → app_weight f b s.nic app ≡ app_weight (without_owed a f) b s.nic app + owed b * f (holding.Owed a)
  own-less b f =
      let is : eqb a app.view.app ≡ true = eq-eqb a app.view.app (sym at.number) in
      let none : without_owed a f (holding.Owed app.view.app) ≡ 0 = rw is refl in
      let gone : owed b * without_owed a f (holding.Owed app.view.app) ≡ 0 = ap (λ n. owed b * n) none ∙ omega arith in
      let same : owed b * f (holding.Owed app.view.app) ≡ owed b * f (holding.Owed a) = ap (λ n. owed b * f (holding.Owed n)) at.number in
      omega (arith, gone, same)

  -- and all else is left
  left : (b : ℕ) (f : Holding → ℕ) → weights_of s b (without_owed a f) ≡ weights_of new b f
  left b f =
      omega (
        arith,
        shift b f,
        weight-parts f b s.nic s.apps,
        weight-parts (without_owed a f) b s.nic s.apps,
        total-shift 0 (app_weight f b s.nic) (app_weight (without_owed a f) b s.nic) (owed b * f (holding.Owed a)) a (other-kept b f) s.apps
            sound.fit.numbers a app at.there (omega arith) (rw at.is (own-less b f)),
      )

  NoneReturns-new : NoneReturns new
  NoneReturns-new =
      let P : AppSide → Type 0 = λ x. (b : ℕ) → slice_index x.inside.scrub_owes b ≡ 0 in
      let own : P app = subst P at.is (All-get_or P s.apps a app at.there sound.returns.owes) in
      assumption (All-set P s.apps a now own sound.returns.owes)

  -- ---- buffer after buffer

  -- the weights once the buffers below this one were scrubbed
  abbrev below : ℕ → Weights
  below n b f = if ltb b n then weights_of new b f else weights_of s b f

  below-scrubbed : (n b : ℕ) (f : Holding → ℕ) → b < n → below n b f ≡ weights_of new b f
  below-scrubbed n b f less = rw (lt-ltb b n less) refl

  below-left : (n b : ℕ) (f : Holding → ℕ) → n ≤ b → below n b f ≡ weights_of s b f
  below-left n b f past = rw (le-ltb b n past) refl

  below-other : (n b : ℕ) (f : Holding → ℕ) → b ≢ n → below n b f ≡ below (suc n) b f
  below-other n b f other =
      ⊎_elim
      (λ less. below-scrubbed n b f less ∙ sym (below-scrubbed (suc n) b f (omega (arith, less))))
      (λ past.
      let behind : suc n ≤ b = ⊎_elim (λ more. omega (arith, more)) (λ at_most. absurd (other (omega (arith, past, at_most)))) (cases_lt n b) in
      below-left n b f past ∙ sym (below-left (suc n) b f behind))
      (cases_lt b n)

  -- the owed ones of this buffer are taken back
  leads : (n : ℕ) → n < total_buffers (setting_of_sides s) → 0 < owed n → Leads (setting_of_sides s) (scrub_of new a n) (below n) (below (suc n))
  leads n within some h same =
      let x = holding.Owed a in
      let held : (f : Holding → ℕ) → weight f (h n) ≡ weights_of s n f = λ f. same n f ∙ below-left n n f (omega arith) in
      let g = one_if (is_same x) in
      let one : g x ≡ 1 = rw (same-itself x) refl in
      let many : owed n * g x ≡ owed n = ap (λ k. owed n * k) one ∙ omega arith in
      let there : list_any (is_same x) (h n) ≡ true = any-some (is_same x) (h n) (omega (arith, held g, shift n g, many, some)) in
      let later = filter (λ k. not (is_same x k)) (h n) in
      let weighs : (f : Holding → ℕ) → weight f later ≡ weights_of new n f = λ f.
      weight-filter f (λ k. not (is_same x k)) (h n) ∙ held (without_owed a f) ∙ left n f in
      let pool = sym (weight-length later) ∙ weighs (λ k. 1) ∙ pool-weight new NoneReturns-new n in
      let user = sym (weight-count (is_user a) later) ∙ weighs (one_if (is_user a)) ∙ user-weight new a n in
      let range : is_in_range (setting_of_sides s) (scrub_of new a n) ≡ true =
      rw (app-there s sound a app at, lt-ltb n (total_buffers (setting_of_sides s)) within) refl in (
        with_holders h n later,
        after-is (setting_of_sides s) h (scrub_of new a n) n later range refl (rw there refl)
            (both-said later (pool_of new n) a (user_of new a n) pool user),
        λ b f.
            ⊎_elim
            (λ t. let e : b ≡ n = t.1 in
            rw t.0 (weighs f ∙ ap (λ c. weights_of new c f) (sym e) ∙ sym (below-scrubbed (suc n) b f (omega (arith, e)))))
            (λ t. rw t.0 (same b f ∙ below-other n b f t.1))
            (eqb_tells b n),
      )

  -- where the application owes nothing, the buffer stays as it is
  stays : (n : ℕ) → owed n ≡ 0 → (b : ℕ) (f : Holding → ℕ) → below n b f ≡ below (suc n) b f
  stays n none b f =
      ⊎_elim
      (λ t. let e : b ≡ n = t.1 in
      let gone : owed b * f (holding.Owed a) ≡ 0 = rw (ap owed e ∙ none) (none-of (f (holding.Owed a))) in
      below-left n b f (omega (arith, e)) ∙ omega (arith, shift b f, gone) ∙ sym (below-scrubbed (suc n) b f (omega (arith, e))))
      (λ t. below-other n b f t.1)
      (eqb_tells b n)

  -- a scrub tells of no loan that begins
  scrub-tallied : (n : ℕ) (events : List Event) → AreTallied s events → AreTallied s (events ++ scrub_of new a n ∷ [])
  scrub-tallied n events was =
      tallies-card (scrub_of new a n) s s.nic.view (λ other. assumption) (omega arith)
      (card-stays (scrub_of new a n) s.nic.view s.nic.view (assumption) refl refl refl) events was

  scrubs : (kept : KeptEvents) → IsLogged s kept → (n : ℕ) → n ≤ total_buffers (setting_of_sides s) → ((b : ℕ) → b < n → HasSmallNumbers (scrub_of new a b))
      → Tells (setting_of_sides s) (below n) (AreTallied s) (scrub_logged s new a kept n)
  scrubs kept was zero within small =
      tells-as (setting_of_sides s) (weights_of s) (below 0) (AreTallied s) kept (λ b f. sym (below-left 0 b f (omega arith))) (tells-of s kept was)
  scrubs kept was (suc n) within small =
      let less : n < total_buffers (setting_of_sides s) = omega (arith, within) in
      let before = scrubs kept was n (omega (arith, within)) (λ b lower. small b (omega (arith, lower))) in
      let so_far = scrub_logged s new a kept n in
      let last : HasSmallNumbers (scrub_of new a n) = small n (omega arith) in
      let by : Bool → KeptEvents = λ c. if c then logged so_far (scrub_of new a n) else so_far in
      ⊎_elim
      (λ some.
      let owes : 0 < owed n = omega (arith, some, user-owed n) in
      subst (Tells (setting_of_sides s) (below (suc n)) (AreTallied s)) (sym (ap by (lt-ltb 0 (user_of s a n) some)))
      (tells-more (setting_of_sides s) (scrub_of new a n) (below n) (below (suc n)) (AreTallied s) (AreTallied s) so_far before last (leads n less owes)
      (scrub-tallied n)))
      (λ none.
      let owes : owed n ≡ 0 = omega (arith, none, user-owed n) in
      subst (Tells (setting_of_sides s) (below (suc n)) (AreTallied s)) (sym (ap by (le-ltb 0 (user_of s a n) none)))
      (tells-as (setting_of_sides s) (below n) (below (suc n)) (AreTallied s) so_far (stays n owes) before))
      (cases_lt 0 (user_of s a n))

  -- behind the last buffer nobody has anything
  all-below : (b : ℕ) (f : Holding → ℕ) → below (total_buffers (setting_of_sides s)) b f ≡ weights_of new b f
  all-below b f =
      let n = total_buffers (setting_of_sides s) in
      ⊎_elim
      (λ less. below-scrubbed n b f less)
      (λ past.
      let none : pool_of s b ≡ 0 = (sound.by_one b).inside (omega (arith, past, total-same s.nic.view.setting.layout)) in
      let nothing : weights_of s b f ≡ 0 = ap (weight f) (no-holders s b none) in
      below-left n b f past ∙ omega (arith, nothing, shift b f))
      (cases_lt b n)

pub scrubbed-law : ScrubEventLaw
scrubbed-law s sound a app at loans taken takes kept small was =
    let n = total_buffers (setting_of_sides s) in
    let new = scrubbed_sides s a app taken in
    let same = gains-none app.view (scrubbed_by app taken).view refl refl refl refl in
    logged-of (setting_of_sides s) (below s sound a app at loans taken takes n) (AreTallied s) new (scrub_logged s new a kept n) refl
    (all-below s sound a app at loans taken takes) (keeps-app s a app (scrubbed_by app taken) at same (assumption))
    (scrubs s sound a app at loans taken takes kept was n (omega arith) small)
