-- The log goes on to tell of a board after each event of an application.
use Rattle.std.proofs.Common.{◌≡◌, ◌∙◌, ℕ, ◌+◌, ◌-◌, ◌<◌, Bool, true, false, Some, List, [], ◌∷◌, length, eqb, ltb, refl, sym, ap, subst, arith, ⊎_elim, if◌then◌else◌}
use Rattle.std.{specs.{Prelude.{◌&&◌, ◌||◌}}, proofs.lemmas.{Bool.{lt-ltb, eq-eqb, or_right}, List.Elements.{All-get_or}}}
use Rattle.area_layout.{proofs.Words.{words_apart}, specs.Layout.{pool_buffers, size_of}}
use Rattle.zr_kinds.specs.declared.event.Event.TheVariants as event
use Rattle.zr_kinds.specs.{declared.holding.Holding.{Holding}, Setting.{total_buffers, buffers_of_areas as run_pool_buffers}}
use Rattle.zr_kinds.{specs.{Holders.{is_pool_buffer, is_reserve_of, is_same}, declared.event.Event.{Event}}, proofs.Weighing.{one_if}}
use Rattle.zr_kinds.specs.declared.holding.Holding.TheVariants as holding
use Rattle.board_face.specs.BoardSteps.{AppStep, AppCan, apply, app, app_view, polls, cuts, releases, lends, gives, abandons, spares, lends_own}
use Rattle.board_face.specs.Holdings.{app_ends, app_begins, weight_in as hold_weight}
use Rattle.board_face.specs.{AppCalls.{HasHeld, HasSpare, IsFilled}, declared.views.parts.Filling.{Filling}}
use Rattle.zr_kinds.specs.{declared.place.{Note.{Note}, Place.{Place}}, Holders.{becomes, buffer_of_event, changed, is_app, is_buffer, is_in_range, is_within}}
use Rattle.plain_board.{specs.{Fills.{AreShort}, IsLogged.{Logs, AreSound, KeepsLog, setting_of_sides}, Plain.{weight}}, proofs.Tallying.{Tallies}}
use Rattle.board_face.proofs.Tallies.{one_if as one}
use Rattle.board_face.specs.{AppEvents.{begin_place, got_spare, own_bytes}, Laws.{AllSides, pool_of, user_of}}
use Rattle.board_face.specs.{OwnBuffers.{IsOwnBuffer}, Sides.{IsApp, app_at, side_in}, declared.views.{parts.Setting.{Setting as Shared}}}
use Rattle.board_face.{specs.declared.views.app.AppSide.{AppSide}, proofs.{ListLemmas.{not-eqb}}}
use Rattle.plain_board.proofs.AppTallies.{tallies-abandoned, tallies-gave, tallies-got_spare, tallies-lent, tallies-lent_own, tallies-none, tallies-took_note}
use Rattle.plain_board.proofs.{CardLaws.{from-none, no-length}, EventCounting.{ends}, ShortFills.{own_bytes-short}}
use Rattle.plain_board.proofs.Following.{Becomes, Counts, Shifts, follows-by, logged-same, logs-by}
use Rattle.plain_board.proofs.Needs.{NoneReturns-app, app-there, both-said, one-ends, pool-said, within-by, within-there}
use Rattle.plain_board.proofs.{Settings.{pool_buffers-same}, Shifts.{recorded, step-same, step-shifts}, Tallying.{Gains, SameLists, gains-none, keeps-app}}

-- ---- pieces

-- neither part is the whole piece
not-part : (a o l m : ℕ) → 0 < m → m < l
    → weight (one_if (is_same (holding.Held a o l))) (holding.Held a o m ∷ holding.Held a (o + m) (l - m) ∷ []) ≡ 0
not-part a o l m some less =
    let len : eqb l m ≡ false = not-eqb l m (λ e. omega (arith, e)) in
    let offset : eqb o (o + m) ≡ false = not-eqb o (o + m) (λ e. omega (arith, e)) in
    rw (len, offset) (neither (eqb a a) (eqb o o) (eqb l (l - m)))
  where
    neither : (c d e : Bool) → (if c && d && false then 1 else 0) + ((if c && false && e then 1 else 0) + 0) ≡ 0
    neither true true e = refl
    neither true false e = refl
    neither false d e = refl

module _ (s : AllSides) (sound : AreSound s) (a : ℕ) (at : IsApp s.apps a (side_in s.apps a)) where
  abbrev x : AppSide
  x = side_in s.apps a

  abbrev next : AppStep → AllSides
  next step = apply (app a step) s

  -- bytes of a holder that is there are in the area
  within : (p : Place) → is_buffer (setting_of_sides s) p.buffer ≡ true → one (ltb (size_of s.nic.view.setting.layout p.buffer) (p.offset + p.len)) ≡ 0
      → (is_app (setting_of_sides s) a && is_within (setting_of_sides s) p.buffer p.offset p.len) ≡ true
  within p there none = rw (app-there s sound a x at, within-by s sound p.buffer p.offset p.len there none) refl

  -- one holder of a place ends, and others begin there
  place-ends : (step : AppStep) (e : Event) (p : Place) (old : Holding) (news : List Holding) → buffer_of_event e ≡ Some p.buffer
      → Shifts p.buffer (old ∷ []) news s (next step) → weight (one_if (is_same old)) news ≡ 0
      → (is_buffer (setting_of_sides s) p.buffer ≡ true → one (ends (size_of s.nic.view.setting.layout p.buffer) old) ≡ 0
      → is_in_range (setting_of_sides s) e ≡ true)
      → ((held : List Holding) → changed (setting_of_sides s) held e ≡ becomes old news held) → Counts e p.buffer (next step) → Tallies e s (next step)
      → Logs e s (next step)
  place-ends step e p old news names shifts none range does counts tallies =
      one-ends e p.buffer old news s (next step) sound (NoneReturns-app s a x (app_view step x.view) at sound.returns) refl names shifts none range does
      counts tallies

  pub polled-logs : (note : Note) → AppCan (polls note) s.nic x
      → Logs (event.Held a note.place.buffer note.place.offset note.place.len) s (next (polls note))
  polled-logs note can =
      let p = note.place in
      place-ends (polls note) (event.Held a p.buffer p.offset p.len) p (holding.Sent a p.offset p.len) (holding.Held a p.offset p.len ∷ []) refl
      (step-shifts (app a (polls note)) s (at, can) p.buffer (refl, tt) (refl, tt)) refl (λ there none. within p there none) (λ held. refl) (λ held q u. refl)
      (tallies-took_note s a x at note can.0)

  pub cut-logs : (p : Place) (m : ℕ) → HasHeld x.view p → 0 < m → m < p.len
      → Logs (event.Cut a p.buffer p.offset p.len m (pool_of (next (cuts p m)) p.buffer)) s (next (cuts p m))
  cut-logs p m out some less =
      let pool = pool_of (next (cuts p m)) p.buffer in
      let e = event.Cut a p.buffer p.offset p.len m pool in
      let v = app_view (cuts p m) x.view in
      place-ends (cuts p m) e p (holding.Held a p.offset p.len) (holding.Held a p.offset m ∷ holding.Held a (p.offset + m) (p.len - m) ∷ []) refl
      (step-shifts (app a (cuts p m)) s (at, out) p.buffer (refl, tt) (refl, (refl, tt))) (not-part a p.offset p.len m some less)
      (λ there none. within p there none) (λ held. rw (lt-ltb 0 m some, lt-ltb m p.len less) refl) (λ held q u. pool-said held pool q)
      (tallies-none e s a x v at (λ n. assumption) (assumption) (gains-none x.view v refl refl refl refl) (assumption))

  pub released-logs : (p : Place) → HasHeld x.view p
      → Logs (event.Free a p.buffer p.offset p.len (pool_of (next (releases p)) p.buffer)) s (next (releases p))
  released-logs p out =
      let pool = pool_of (next (releases p)) p.buffer in
      let e = event.Free a p.buffer p.offset p.len pool in
      let v = app_view (releases p) x.view in
      place-ends (releases p) e p (holding.Held a p.offset p.len) [] refl (step-shifts (app a (releases p)) s (at, out) p.buffer (refl, tt) tt) refl
      (λ there none. within p there none) (λ held. refl) (λ held q u. pool-said held pool q)
      (tallies-none e s a x v at (λ n. assumption) (assumption) (gains-none x.view v refl refl refl refl) (assumption))

  -- ---- loans

  pub lent-logs : (p : Place) → HasHeld x.view p
      → let new = next (lends p) in Logs (event.Lend a p.buffer p.offset p.len (pool_of new p.buffer) (user_of new a p.buffer)) s new
  lent-logs p out =
      let pool = pool_of (next (lends p)) p.buffer in
      let user = user_of (next (lends p)) a p.buffer in
      place-ends (lends p) (event.Lend a p.buffer p.offset p.len pool user) p (holding.Held a p.offset p.len) (holding.Loan a p.offset p.len ∷ []) refl
      (step-shifts (app a (lends p)) s (at, out) p.buffer (refl, tt) (refl, tt)) refl (λ there none. within p there none) (λ held. refl)
      (λ held q u. both-said held pool a user q (u a)) (tallies-lent s a x at p pool user)

  pub gave-logs : (p : Place) → AppCan (gives p) s.nic x
      → let new = next (gives p) in Logs (event.Back a p.buffer p.offset p.len (user_of new a p.buffer)) s new
  gave-logs p can =
      let user = user_of (next (gives p)) a p.buffer in
      place-ends (gives p) (event.Back a p.buffer p.offset p.len user) p (holding.Loan a p.offset p.len) (holding.Owed a ∷ []) refl
      (step-shifts (app a (gives p)) s (at, can) p.buffer (refl, tt) (refl, tt)) refl (λ there none. within p there none) (λ held. refl)
      (λ held q u. eq-eqb _ _ (u a)) (tallies-gave s a x at p user can.0)

  pub abandoned-logs : (p : Place) → AppCan (abandons p) s.nic x
      → let new = next (abandons p) in Logs (event.Back a p.buffer p.offset p.len (user_of new a p.buffer)) s new
  abandoned-logs p can =
      let user = user_of (next (abandons p)) a p.buffer in
      place-ends (abandons p) (event.Back a p.buffer p.offset p.len user) p (holding.Loan a p.offset p.len) (holding.Owed a ∷ []) refl
      (step-shifts (app a (abandons p)) s (at, can) p.buffer (refl, tt) (refl, tt)) refl (λ there none. within p there none) (λ held. refl)
      (λ held q u. eq-eqb _ _ (u a)) (tallies-abandoned s a x at p user can.0)

-- ---- spares

-- the application's setting is the board's
own-setting : (s : AllSides) → AreSound s → (a : ℕ) (x : AppSide) → IsApp s.apps a x → x.view.setting ≡ s.nic.view.setting
own-setting s sound a x at =
    let P : AppSide → Type 0 = λ y. y.view.setting ≡ s.nic.view.setting in
    subst P at.is (All-get_or P s.apps a x at.there sound.setting.same)

-- what may be a spare of the application
record MayBeSpare (s : AllSides) (a buffer : ℕ) : Type 0 where
  pub within : buffer < total_buffers (setting_of_sides s)
  pub fits : (is_pool_buffer (setting_of_sides s) buffer || is_reserve_of (setting_of_sides s) a buffer) ≡ true

may-be_spare : (s : AllSides) → AreSound s → (a : ℕ) (x : AppSide) → IsApp s.apps a x → (buffer : ℕ) → IsOwnBuffer x.view buffer
    → MayBeSpare s a buffer
may-be_spare s sound a x at buffer own =
    let layout = s.nic.view.setting.layout in
    let pool = run_pool_buffers (setting_of_sides s).areas in
    let same : pool ≡ pool_buffers x.view.setting.layout =
    pool_buffers-same layout ∙ sym (ap (λ (x : Shared). pool_buffers x.layout) (own-setting s sound a x at)) in
    ⊎_elim
    (λ of_pool.
    let less : buffer < pool = omega (arith, of_pool, same) in
    record { within = omega (arith, less); fits = rw (lt-ltb buffer pool less) refl })
    (λ reserve.
    let is : buffer ≡ pool + a = omega (arith, reserve, same, at.number) in
    record { within = omega (arith, is, at.there, sound.setting.many); fits = rw (eq-eqb buffer (pool + a) is) (or_right (ltb buffer pool) true refl) })
    own

pub spared-logs : (s : AllSides) → AreSound s → (a : ℕ) → IsApp s.apps a (side_in s.apps a) → (buffer : ℕ)
    → IsOwnBuffer (side_in s.apps a).view buffer → pool_of s buffer ≡ 0
    → let new = apply (app a (spares buffer)) s in Logs (event.Spare a buffer (pool_of new buffer)) s new
spared-logs s sound a at buffer own none =
    let x = side_in s.apps a in
    let v = got_spare x.view buffer in
    let new = apply (app a (spares buffer)) s in
    let e = event.Spare a buffer (pool_of new buffer) in
    let one = holding.Spare a in
    let may = may-be_spare s sound a x at buffer own in
    let becomes : Becomes e buffer [] (one ∷ []) s = λ h same. (
      rw (app-there s sound a x at, lt-ltb buffer (total_buffers (setting_of_sides s)) may.within) refl,
      (one ∷ [], rw (may.fits, no-length s sound h same buffer none) refl, from-none s sound h same buffer none (one ∷ [])),
    ) in
    logs-by e s new refl (follows-by e buffer [] (one ∷ []) s new refl (NoneReturns-app s a x v at sound.returns)
    (step-shifts (app a (spares buffer)) s (at, tt) buffer tt (refl, tt))
    (λ held q u. pool-said held (pool_of new buffer) q) becomes)
    (tallies-got_spare s a x at buffer (pool_of new buffer))

pub lent_own-logs : (s : AllSides) → AreSound s → (a : ℕ) → IsApp s.apps a (side_in s.apps a) → (it : Filling) → HasSpare (side_in s.apps a).view it
    → IsFilled (side_in s.apps a).view it → AreShort s.apps
    → let new = apply (app a (lends_own it)) s in
    Logs (event.Own a it.buffer (length (own_bytes (side_in s.apps a).view it)) (pool_of new it.buffer) (user_of new a it.buffer)) s new
lent_own-logs s sound a at it out some short =
    let x = side_in s.apps a in
    let few = own_bytes-short s.apps a x at short it in
    let l = length (own_bytes x.view it) in
    let new = apply (app a (lends_own it)) s in
    let e = event.Own a it.buffer l (pool_of new it.buffer) (user_of new a it.buffer) in
    let size = (words_apart s.nic.view.setting.layout sound.layout).size it.buffer in
    place-ends s sound a at (lends_own it) e (begin_place it.buffer l) (holding.Spare a) (holding.Loan a 0 l ∷ []) refl
    (step-shifts (app a (lends_own it)) s (at, out) it.buffer (refl, tt) (refl, tt)) refl
    (λ there none. rw (app-there s sound a x at, within-there s sound it.buffer 0 l there (omega (arith, few, size.least))) refl)
    (λ held. rw (lt-ltb 0 l some, lt-ltb l 257 (omega (arith, few))) refl)
    (λ held q u. both-said held (pool_of new it.buffer) a (user_of new a it.buffer) q (u a))
    (tallies-lent_own s a x at it out (pool_of new it.buffer) (user_of new a it.buffer))

-- ---- no event

pub app-keeps : (step : AppStep) (s : AllSides) (a : ℕ) (at : IsApp s.apps a (side_in s.apps a)) → AppCan step s.nic (side_in s.apps a)
    → let x = side_in s.apps a in let v = app_view step x.view in
    ((b : ℕ) (f : Holding → ℕ) → hold_weight (recorded f) b (app_ends a step x.view) ≡ hold_weight (recorded f) b (app_begins a step x.view))
    → Gains 0 0 0 x.view v → SameLists x.view v → KeepsLog s (apply (app a step) s)
app-keeps step s a at can same none lists =
    logged-same s (apply (app a step) s) refl (step-same (app a step) s (at, can) same)
    (keeps-app s a (side_in s.apps a) (app_at (side_in s.apps a) (app_view step (side_in s.apps a).view)) at none lists)
