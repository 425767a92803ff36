-- What holds of a board between any two calls: the arrays say what the roles did.
use Rattle.std.specs.Prelude.{◌≡◌, ℕ, ◌*◌, ◌<◌, ◌≤◌, false, if◌then◌else◌, List, [], length, map, take, All, slice_index, slice_index_or}
use Rattle.circular_buffer.specs.Buffer.{Buffer, buffer}
use Rattle.zr_kinds.specs.declared.ring.Rqe.{Rqe}
use Rattle.area_layout.specs.Layout.{IsLayout, pool_buffers, all_buffers, begin_of}
use Rattle.board_face.specs.{NicEvents.{cache_room}, Sides.{IsApp, AreNumbered}, Counts.{pool_count, user_count, EndedWereReturned}, FreeOnce.{AreFreeOnce}}
use Rattle.board_face.specs.{Relay.{Relayed}, Fillings.{FillingsFit, IsFilledByOne}, Shown.{AreShown}, Used.{HasFewPicks, PicksAreGiven}, Opened.{new_nic}}
use Rattle.board_face.specs.{OwnBuffers.{LieInOwn}, Judged.{IsHonouredAsNamed}, declared.views.{parts.Setting.{Setting}, nic.NicSide.{NicSide}, app.AppSide.{AppSide}}}
use Rattle.board_face.specs.declared.views.app.TakenNote.{TakenNote}
pub use Rattle.board_face.specs.{Relay.{IsProper}, Phases.{IsPhased, ArePhased}, Used.{AreKept}}
use Rattle.board_parts.specs.{declared.slots.NoteSlot.{NoteSlot}, Free.{listed_in}, Counts.{user_at}}
use Rattle.plain_board.specs.{Returns.{AreReturns, entries_on_way, loans_out, reach_of}, Stand.{Arrays, Stand, setting_of_arrays, byte_of}}

-- The arrays have an element for each buffer, for each application, or for both.
pub record HasSizes (arrays : Arrays) : Type 0 where
  pub layout : IsLayout arrays.layout
  pub places : (1 ≤ arrays.places) × (arrays.places ≤ 256)
  pub area : length arrays.area ≡ begin_of arrays.layout (all_buffers arrays.layout)
  pub pool : length arrays.pool ≡ all_buffers arrays.layout
  pub users : length arrays.users ≡ arrays.layout.reserves * all_buffers arrays.layout
  pub listed : length arrays.listed ≡ pool_buffers arrays.layout
  pub cache : length arrays.cache ≤ cache_room
  pub notes : length arrays.notes ≡ arrays.layout.reserves
  pub refills : length arrays.refills ≡ arrays.layout.reserves
  pub loans : length arrays.loans ≡ arrays.layout.reserves * all_buffers arrays.layout
  pub filled : length arrays.filled ≡ all_buffers arrays.layout
  pub raw : length arrays.raw ≡ arrays.layout.reserves
  pub left : length arrays.left ≡ arrays.layout.reserves

-- An application is in the middle of nothing. What a scrub took is all that it keeps beside its view, and before its scrub
-- none took anything.
pub record IsAppAtRest (app : AppSide) : Type 0 where
  pub hands : app.inside.hands ≡ []
  pub owes : (b : ℕ) → slice_index app.inside.scrub_owes b ≡ 0
  pub unscrubbed : app.view.scrubbed ≡ false → (b : ℕ) → slice_index app.inside.scrub_took b ≡ 0

-- All roles share the board's setting.
pub record IsSet (setting : Setting) (nic : NicSide) (apps : List AppSide) : Type 0 where
  pub card : nic.view.setting ≡ setting
  pub card_rest : nic.inside ≡ (new_nic setting).inside
  pub many : length apps ≡ setting.layout.reserves
  pub numbers : AreNumbered 0 apps
  pub roles : All (λ app. app.view.setting ≡ setting) apps
  pub roles_rest : All IsAppAtRest apps

-- Counts are holders.
pub record AreCounted (arrays : Arrays) (nic : NicSide) (apps : List AppSide) : Type 0 where
  pub pool : (b : ℕ) → b < all_buffers arrays.layout → slice_index arrays.pool b ≡ pool_count b nic apps
  pub users : (a b : ℕ) → a < length apps → b < all_buffers arrays.layout → slice_index arrays.users (user_at arrays.layout a b) ≡ user_count a b nic apps
  pub beyond : (b : ℕ) → all_buffers arrays.layout ≤ b → pool_count b nic apps ≡ 0
  pub returned : (b : ℕ) → All (EndedWereReturned b nic) apps

-- a note as it is taken from its slot
abbrev pub taken_of : NoteSlot → TakenNote
taken_of slot = record { note = slot.note; bytes = if slot.note.split then [] else take slot.note.total slot.bytes }

-- the notes, and the refill entries, that lie in the slots of an application
abbrev pub notes_of : Arrays → ℕ → List NoteSlot
notes_of arrays a = (slice_index_or arrays.notes a (buffer [] 0)).items

abbrev pub refills_of : Arrays → ℕ → List Rqe
refills_of arrays a = (slice_index_or arrays.refills a (buffer [] 0)).items

-- a ring with so many slots
pub record IsRing {X : Type 0} (places : ℕ) (ring : Buffer X) : Type 0 where
  pub slots : ring.capacity ≡ places
  pub within : length ring.items ≤ places

-- What lies in the slots is what is on its way, and each ring has as many slots as the board's setting says.
pub record AreRelayed (arrays : Arrays) (nic : NicSide) (apps : List AppSide) : Type 0 where
  pub relayed : (a : ℕ) (app : AppSide) → IsApp apps a app → Relayed nic app (map taken_of (notes_of arrays a)) (refills_of arrays a)
  pub notes : All (IsRing arrays.places) arrays.notes
  pub refills : All (IsRing arrays.places) arrays.refills

-- What the flags say.
pub record AreFlags (arrays : Arrays) (nic : NicSide) (apps : List AppSide) : Type 0 where
  pub ended : arrays.ended ≡ nic.view.ended
  pub left : arrays.left ≡ map (λ app. app.view.left) apps

-- Each buffer that was picked was given, and each spare is for a byte of an unsplit note that was taken.
pub record AreDue (apps : List AppSide) : Type 0 where
  pub picked : All PicksAreGiven apps
  pub few : All HasFewPicks apps

-- What the arrays keep beside the counts: the loans that are out, the lengths of filled spares, and how far back the last
-- raw entry lies.
pub record AreBooked (arrays : Arrays) (nic : NicSide) (apps : List AppSide) : Type 0 where
  pub loans : (a b : ℕ) (app : AppSide) → IsApp apps a app → b < all_buffers arrays.layout
      → slice_index arrays.loans (user_at arrays.layout a b) ≡ loans_out b app
  pub filled : (a : ℕ) (app : AppSide) → IsApp apps a app → All (λ s. slice_index arrays.filled s.own.buffer ≡ length s.bytes) app.view.owns
  pub raw : (a : ℕ) (app : AppSide) → IsApp apps a app → slice_index arrays.raw a ≡ reach_of (entries_on_way nic app)

pub record IsSound (board : Stand) : Type 0 where
  pub sizes : HasSizes board.arrays
  pub cached : board.arrays.cache ≡ board.nic.view.cache
  pub set : IsSet (setting_of_arrays board.arrays) board.nic board.apps
  pub counted : AreCounted board.arrays board.nic board.apps
  pub free : AreFreeOnce (listed_in board.arrays.listed) board.nic board.apps
  pub relayed : AreRelayed board.arrays board.nic board.apps
  pub returns : (a : ℕ) (app : AppSide) → IsApp board.apps a app → AreReturns board.nic app
  pub flags : AreFlags board.arrays board.nic board.apps
  pub kept : AreKept (listed_in board.arrays.listed) board.nic board.apps
  pub due : AreDue board.apps
  pub filled : FillingsFit board.nic board.apps
  pub by_one : (b : ℕ) → IsFilledByOne b board.nic board.apps
  pub shown : AreShown (byte_of board.arrays) board.nic board.apps
  pub notes : All IsProper board.nic.view.sent
  pub own_buffers : LieInOwn board.nic board.apps
  pub judged : All (IsHonouredAsNamed board.nic.view.setting.layout) board.nic.view.dealt
  pub booked : AreBooked board.arrays board.nic board.apps
  pub phased : ArePhased board.nic board.apps
