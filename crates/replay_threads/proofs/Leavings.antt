-- What an application leaves, by whatever it took its turns.
use Rattle.std.{proofs.Common.{◌≡◌, ℕ, true, List, Option, Some, None, refl, ap, subst}, specs.Option.{is_some}}
use Rattle.zr_kinds.specs.{Options.{plain_behaviour}, declared.behaviour.Behaviour.{Behaviour}}
use Rattle.zr_io.specs.Moved.{ShelfCounts}
use Rattle.board_face.specs.declared.views.app.AppView.{AppView}
use Rattle.flow_queues.specs.{Ends.{AppEnd, HasLeft}, Returned.{HasReturned}}
use Rattle.zc_poll.specs.declared.to_shelf.Poured.{Poured}
use Rattle.card_feed.specs.declared.plan.Plan.{Plan}
use Rattle.run_account.{proofs.Leaving.{has-left, has-returned}, specs.Ways.{ForwardedSince, HasCome, PolledSince, by_forwards, by_polls, by_turns}}
use Rattle.replay_threads.specs.declared.seated.Seated.{Seated, TheVariants.{Turning, Pouring, Forwarding}}
use Rattle.replay_threads.specs.Seated.{Comes, Fits, ForwardsSince, PoursSince, Runs, RunsOn, StandsOn, end_of_seated, is_gone, poll_moment, poured_end, seat_of, shelf_of, stage_now}

poured-gone : (Since : (ℕ → Option (List ℕ)) → ShelfCounts → Type 0) (v : AppView) (found : Option Poured) → StandsOn Since v found → is_some found ≡ true
    → v.left ≡ true
poured-gone Since v None fits left = absurd (cc)
poured-gone Since v (Some poured) fits left = fits

poured-left : (Stands : Type 0) (first kept : ℕ → Option (List ℕ)) (count losses : ShelfCounts) (v : AppView) (found : Option Poured)
    → RunsOn Stands first kept count losses v found → is_some found ≡ true
    → HasLeft plain_behaviour first kept count losses v (poured_end found) × HasReturned plain_behaviour (poured_end found).stopped (poured_end found).written v
poured-left Stands first kept count losses v None runs left = absurd (cc)
poured-left Stands first kept count losses v (Some poured) runs left = runs

is-there : (found : Option Poured) → is_some found ≡ true → (poured : Poured) × (found ≡ Some poured)
is-there None left = absurd (cc)
is-there (Some poured) left = (poured, refl)

-- by another name of how it behaves
left-so : (how : Behaviour) (first kept : ℕ → Option (List ℕ)) (count losses : ShelfCounts) (v : AppView) (end : AppEnd) → how ≡ plain_behaviour
    → HasLeft plain_behaviour first kept count losses v end × HasReturned plain_behaviour end.stopped end.written v
    → HasLeft how first kept count losses v end × HasReturned how end.stopped end.written v
left-so how first kept count losses v end is ends = rw is ends

module _ {T : Type 0} (kept : T → ℕ → Option (List ℕ)) (losses : T → ShelfCounts) where
  -- it is at the board no more
  pub gone-left : (s : Seated T) → Fits kept losses s → is_gone s ≡ true → (seat_of s).side.view.left ≡ true
  gone-left (Turning own) fits left = (fits.side.gone left).0
  gone-left (Pouring own) fits left = poured-gone (PoursSince kept losses own.stream) own.stream.face.side.view own.poured fits.side left
  gone-left (Forwarding own) fits left = poured-gone (ForwardsSince kept losses own.forward) own.forward.face.side.view own.poured fits.side left

  pub leaves : (first : ℕ → Option (List ℕ)) (count : ShelfCounts) (how : Behaviour) (s : Seated T) → Fits kept losses s → Runs kept losses first count how s
      → is_gone s ≡ true
      → HasLeft how first (kept (shelf_of s)) count (losses (shelf_of s)) (seat_of s).side.view (end_of_seated s)
      × HasReturned how (end_of_seated s).stopped (end_of_seated s).written (seat_of s).side.view
  leaves first count how (Turning own) fits runs left = (
    has-left first (kept own.shelf) count (losses own.shelf) how own.seat.side.view own.worker fits.side runs left,
    has-returned first (kept own.shelf) count (losses own.shelf) how own.seat.side.view own.worker fits.side runs left,
  )
  leaves first count how (Pouring own) fits runs left =
      left-so how first (kept own.stream.shelf) count (losses own.stream.shelf) own.stream.face.side.view (poured_end own.poured) runs.0
      (poured-left (PoursSince kept losses own.stream first count) first (kept own.stream.shelf) count (losses own.stream.shelf)
      own.stream.face.side.view own.poured runs.1 left)
  leaves first count how (Forwarding own) fits runs left =
      left-so how first (kept own.forward.carrier.shelf) count (losses own.forward.carrier.shelf) own.forward.face.side.view (poured_end own.poured) runs.0
      (poured-left (ForwardsSince kept losses own.forward first count) first (kept own.forward.carrier.shelf) count (losses own.forward.carrier.shelf)
      own.forward.face.side.view own.poured runs.1 left)

  -- and in which way it came to that
  pub has-come : (plan : Plan) (first : ℕ → Option (List ℕ)) (count : ShelfCounts) (s : Seated T) → Comes kept losses plan first count s → is_gone s ≡ true
      → HasCome plan first (kept (shelf_of s)) count (losses (shelf_of s)) (seat_of s).side.view (end_of_seated s)
  has-come plan first count (Turning own) comes left = by_turns own.worker.state refl comes
  has-come plan first count (Pouring own) comes left =
      let (poured, some) = is-there own.poured left in
      by_polls (poll_moment own).stage poured refl (ap poured_end some)
      (subst (λ found. PolledSince plan (record (poll_moment own) { poured = found })) some comes)
  has-come plan first count (Forwarding own) comes left =
      let (poured, some) = is-there own.poured left in
      by_forwards (stage_now own.forward) poured refl (ap poured_end some)
      (subst (λ found. ForwardedSince plan (record { stage = stage_now own.forward; poured = found })) some comes)
