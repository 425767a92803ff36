-- Where nobody can do anything, all are gone.
use Rattle.std.proofs.Common.{◌≡◌, ℕ, ◌<◌, ◌≤◌, ◌⊎◌, inl, inr, ⊎_elim, true, false, [], length, count_by, refl, sym, ap, subst, ◌∙◌, arith, Some}
use Rattle.std.{specs.{Prelude.{MatchBool}, List.{slice_get}}, proofs.lemmas.Option.{get_or_from_slice_get, slice_get_within}}
use Rattle.board_face.specs.{NicCalls.{apps_of}, AppEvents.{app_gist}, Blank.{blank_app}}
use Rattle.board_face.specs.declared.views.app.AppLook.TheVariants as look
use Rattle.plain_board.specs.{Board.{Board, side_of, others_of}, Seen.{IsSeenBy}, Returns.{entries_on_way, is_raw}}
use Rattle.app_worker.specs.{State.{Bare, Working}, Turns.{Because, look_of}, declared.turn.Why.{Why}}
use Rattle.app_worker.specs.declared.turn.Why.TheVariants.{NoNote, RefillFull, Unsettled, ReserveHeld, NotQuiet}
use Rattle.run_account.specs.{Running.{IsRunOver}, declared.run.{Run.{Run}, Worker.{Worker}}}
use Rattle.replay_turns.{specs.{Running.{RunFits}, Stuck.{IsCardStuck, IsAppKeptBack, StuckRunsAreOver}}, proofs.{BoardOver.{side-is}, Reserve.{not-held}}}
use Rattle.card_feed.proofs.OfFlow.{there}

-- It is kept back by nothing but that no note has come.
pub record WaitsForNote (board : Board) (a : ℕ) (w : Worker) : Type 0 where
  pub because : Because NoNote w.state (side_of board a).view
  pub seen : IsSeenBy look.NoNote (app_gist (side_of board a).view) (others_of board a)

-- It has left, or waits for a note.
abbrev pub IsWaiting : Board → ℕ → Worker → Type 0
IsWaiting board a w = (w.left ≡ true) ⊎ WaitsForNote board a w

module _ (board : Board) (run : Run) (shelves : ℕ) (fits : RunFits board run shelves) where
  pub apps-are : apps_of board.nic.view.setting ≡ length run.workers.items
  apps-are = ap (λ s. s.layout.reserves) fits.sound.set.card ∙ sym fits.many

  card-places : 1 ≤ board.nic.view.setting.places
  card-places = let setting = fits.sound.set.card in let some = fits.sound.sizes.places.0 in rw setting some

  own-places : (a : ℕ) → a < length run.workers.items → 1 ≤ (side_of board a).view.setting.places
  own-places a within =
      let here = side-is board run shelves fits a within in
      let setting = fits.sound.set.roles a blank_app here.there in
      let some = fits.sound.sizes.places.0 in rw setting some

  -- an application that is kept back waits for a note: an entry on its way, or a reserve that is held, would be another reason
  by-why : (a : ℕ) (w : Worker) → slice_get run.workers.items a ≡ Some w → a < length run.workers.items
      → entries_on_way board.nic (side_of board a) ≡ [] → (why : Why)
      → Because why w.state (side_of board a).view → IsSeenBy (look_of why) (app_gist (side_of board a).view) (others_of board a)
      → WaitsForNote board a w
  by-why a w at within none NoNote because seen = record { because = because; seen = seen }
  by-why a w at within none RefillFull because seen =
      let empty = ap length none in let some = own-places a within in absurd (omega (arith, empty, some, seen))
  by-why a w at within none Unsettled because seen =
      let empty : count_by is_raw (entries_on_way board.nic (side_of board a)) ≡ 0 = rw none refl in absurd (omega (arith, empty, seen))
  by-why a w at within none ReserveHeld because seen =
      let stands = (fits.roles.worker a w at).stands in
      let works = subst (λ b. MatchBool b (Bare w.state (side_of board a).view) (Working w.state (side_of board a).view)) because.0.live stands.mode in
      absurd (not-held board a (side_of board a) w.state fits.sound (side-is board run shelves fits a within) works stands.common because.0
      none seen.1)
  by-why a w at within none NotQuiet because seen = let empty = ap length none in absurd (omega (arith, empty, seen))

  pub kept-waits : (a : ℕ) (w : Worker) → slice_get run.workers.items a ≡ Some w → IsCardStuck board run → IsAppKeptBack board a w
      → WaitsForNote board a w
  kept-waits a w at card kept =
      let within : a < length run.workers.items = slice_get_within run.workers.items a w at in
      by-why a w at within (card.rings a (omega (arith, apps-are, within))) kept.why kept.because kept.seen

module _ (board : Board) (run : Run) (shelves : ℕ) (fits : RunFits board run shelves) (card : IsCardStuck board run)
    (waiting : (a : ℕ) (w : Worker) → slice_get run.workers.items a ≡ Some w → IsWaiting board a w) where
  -- the card was closed: a note that is on its way is an application's to take
  card-closed : run.feed.closed ≡ true
  card-closed = ⊎_elim
      (λ closed. closed)
      (λ (a, few, full). let within : a < length run.workers.items = let apps = apps-are board run shelves fits in omega (arith, apps, few) in
      let own = there run.workers.items a within in
      let some = card-places board run shelves fits in
      ⊎_elim
      (λ left.
      let gone = (fits.roles.worker a own.0 own.1).gone left in
      let phase = fits.sound.phased.sides a blank_app (side-is board run shelves fits a within).there in
      let empty = ap length (phase.ended (phase.left gone.0).ended).1 in absurd (omega (arith, empty, some, full)))
      (λ (waits : WaitsForNote board a own.0). let empty = ap length waits.seen.1 in absurd (omega (arith, empty, some, full)))
      (waiting a own.0 own.1))
      card.notes

  has-left : (a : ℕ) (w : Worker) → slice_get run.workers.items a ≡ Some w → a < length run.workers.items → w.left ≡ true
  has-left a w at within = ⊎_elim
      (λ left. left)
      (λ (waits : WaitsForNote board a w).
      let ended : board.nic.view.ended ≡ true = fits.roles.ready.fits.ended card-closed in
      let on : board.nic.view.ended ≡ false = waits.seen.0 in
      absurd (let wrong : true ≡ false = sym ended ∙ on in let none : ⊥ = cc in none))
      (waiting a w at)

  pub all-left : IsRunOver run
  all-left = record {
    card = card-closed;
    apps = λ a d within.
        let own = there run.workers.items a within in
        subst (λ (w : Worker). w.left ≡ true) (sym (get_or_from_slice_get run.workers.items a own.0 d own.1)) (has-left a own.0 own.1 within);
  }

pub stuck-over : StuckRunsAreOver
stuck-over board run shelves fits stuck = all-left board run shelves fits stuck.card (λ a w at. ⊎_elim
    (λ left. inl left)
    (λ kept. inr (kept-waits board run shelves fits a w at stuck.card kept))
    (stuck.app a w at))
