-- A look for a note. What comes enters the queues, or goes past them.
use Rattle.std.specs.Prelude.{◌≡◌, ℕ, [], ◌∷◌, ◌++◌}
use Rattle.board_face.specs.{AppCalls.{AppOnlySaw, ToldEnd}, declared.views.app.{AppLook.TheVariants.{NoNote as no_note}, TakenNote.{TakenNote}, AppView.{AppView}}}
use Rattle.flow_queues.specs.{declared.noting.Taken.{Taken, TheVariants.{Did, NoNote, Ended, Memory}}, Core.{HasTokens, total}, Totals.{queue_bytes_of}}
use Rattle.flow_queues.specs.Kept.{QueueState, LoansOut, marks_done, IsBounded, FlowsSound, QueuesStand}

-- A note came. All tokens that are out are kept, and the bytes that are done with are those that were.
pub record Noted (was now : QueueState) (old new : AppView) : Type 0 where
  pub note : TakenNote
  pub view : new ≡ record old { taken = old.taken ++ note ∷ []; helds = new.helds }
  pub tokens : (out : LoansOut) → QueuesStand was out old → HasTokens now.flows out.unread out.read new
  pub done : (number : ℕ) → marks_done number now.flows new.taken ≡ marks_done number was.flows old.taken
  pub bytes : (number : ℕ) → queue_bytes_of number now.flows ≡ queue_bytes_of number was.flows
  pub sum : total (λ f. f.bytes) now.flows ≡ total (λ f. f.bytes) was.flows
  pub sound : FlowsSound now new
  pub bounded : IsBounded now.flows new

-- what its flow wants of it entered
pub record NoteEntered (was now : QueueState) (old new : AppView) : Type 0 where
  pub noted : Noted was now old new
  pub stands : (out : LoansOut) → QueuesStand was out old → QueuesStand now out new

abbrev pub TakesNote : QueueState → QueueState → AppView → AppView → Taken → Type 0
TakesNote was now old new Did = NoteEntered was now old new
TakesNote was now old new Memory = Noted was now old new
TakesNote was now old new NoNote = (now ≡ was) × AppOnlySaw no_note old new
TakesNote was now old new Ended = (now ≡ was) × ToldEnd old new

-- A note went past the queues, and nothing of it is kept.
abbrev pub PassesNote : AppView → AppView → Taken → Type 0
PassesNote old new Did = (note : TakenNote) × (new ≡ record old { taken = old.taken ++ note ∷ [] })
PassesNote old new Memory = ⊥
PassesNote old new NoNote = AppOnlySaw no_note old new
PassesNote old new Ended = ToldEnd old new
