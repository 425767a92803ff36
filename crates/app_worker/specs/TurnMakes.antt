-- What a turn of an application makes of its state, its view and its shelf.
use Rattle.std.specs.Prelude.{◌≡◌, ◌≢◌, ℕ, ◌<◌, ◌≤◌, true, false, length, List, map, Option}
use Rattle.zr_kinds.specs.declared.{fault.Fault.TheVariants.{Write}, behaviour.Stopped.TheVariants.{No}}
use Rattle.zr_io.specs.Moved.{ShelfCounts}
use Rattle.board_face.specs.{Texts.{unsplit_bytes}, declared.views.app.AppView.{AppView}}
use Rattle.flow_queues.specs.{Marks.{FramesStandTogether}, Shelves.{AreShelved, AreFronts}, Streams.{HasFronts, HasAll}, Totals.{lent_bytes}}
use Rattle.app_worker.specs.{declared.turn.Turn.{Turn, TheVariants.{Failed, Finished}}, Streams.{HasCounted}, State.{State, app_steps, furthest}}
use Rattle.app_worker.specs.{ShelfWent.{ShelfWent}, Moves.{reads_of, reserve_loans}, ReadWhole.{GivesRead}, Turns.{ScrubsIfQuiet, Turns}}

-- an application between two turns
pub record AtWork (T : Type 0) : Type 0 where
  pub state : State
  pub view : AppView
  pub shelf : T

abbrev pub at_work : {T : Type 0} → State → AppView → T → AtWork T
at_work state view shelf = record { state = state; view = view; shelf = shelf }

-- What its shelf has of each flow since the first turn.
pub record ShowsStreams {T : Type 0} (kept : T → ℕ → Option (List ℕ)) (now : AtWork T) (turn : Turn) : Type 0 where
  -- Where the pieces of each frame stand together among the notes, these are the bytes at the first of the flow's marks: read
  -- through a loan of their note, or come with it.
  pub fronts : (first : ℕ → Option (List ℕ)) → FramesStandTogether now.view.taken → AreShelved first (kept now.shelf) now.state.flows now.view
      → HasFronts first (kept now.shelf) now.view
  -- Once the shelf has failed it may have some bytes more than are counted.
  pub failed : (first : ℕ → Option (List ℕ)) → FramesStandTogether now.view.taken → AreFronts first (kept now.shelf) now.state.flows now.view
      → HasFronts first (kept now.shelf) now.view
  -- As long as it hasn't failed, it has as many of each flow as are counted.
  pub counted : (first : ℕ → Option (List ℕ)) → AreShelved first (kept now.shelf) now.state.flows now.view
      → HasCounted first (kept now.shelf) now.state.flows
  -- The application leaves with all of them, unless it was stopped.
  pub whole : (first : ℕ → Option (List ℕ)) → turn ≡ Finished → now.state.stopped ≡ No → FramesStandTogether now.view.taken
      → AreShelved first (kept now.shelf) now.state.flows now.view → HasAll first (kept now.shelf) now.view

-- What it counts.
pub record CountsRight (state : State) (view : AppView) : Type 0 where
  -- It goes no further than the notes that were taken, their bytes, and the entries that may follow each, let it.
  pub within : app_steps state view ≤ furthest state.how.stray view
  -- At most as many loans were copies as were lent, and each copy is for a byte that came in a note.
  pub copies : state.copied ≤ state.loans
  pub copied : state.copied ≤ unsplit_bytes (map (λ t. t.note) view.taken)
  -- It never counts more bytes as written than it was lent, whatever stops it.
  pub lent : state.written ≤ lent_bytes view
  -- One that came to its end without being stopped has written at least as many bytes as loans.
  pub counts : state.bare ≡ true → state.stopped ≡ No → state.loans ≤ state.written

pub record TurnMakes {T : Type 0} (kept : T → ℕ → Option (List ℕ)) (calls : T → ShelfCounts) (was now : AtWork T) (turn : Turn) : Type 0 where
  pub turns : Turns was.state now.state was.view now.view (kept was.shelf) (kept now.shelf) (calls was.shelf).faults (calls now.shelf).faults turn
  pub shows : ShowsStreams kept now turn
  pub right : CountsRight now.state now.view
  -- Whatever stops it, each loan that an entry gave back was read whole: the bytes at its marks.
  pub given_whole : GivesRead now.view
  -- Where a loan was read, all that it may keep stays unread, unless no note comes any more, or a loan in the reserve comes between.
  pub keeps : was.state.flush ≡ false → now.state.bare ≡ false → now.state.ended ≡ false → reserve_loans now.view ≡ reserve_loans was.view
      → reads_of was.state was.view < reads_of now.state now.view → now.state.how.hold ≤ length now.state.unread
  -- One that was stopped and hadn't scrubbed has, or it saw a refill slot in use.
  pub scrubs : was.state.stopped ≢ No → ScrubsIfQuiet was.view now.view
  -- No call of the shelf failed where that didn't stop the application in this turn.
  pub went : ShelfWent (Failed Write) was.state now.state (calls was.shelf) (calls now.shelf) turn
