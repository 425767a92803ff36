-- What the board for one thread is made of, as plain data: what each role has done and knows, and the arrays.
use Rattle.std.specs.Prelude.{◌≡◌, ℕ, ◌*◌, ◌+◌, ◌≤◌, Bool, true, false, List, [], replicate, slice_index, slice_set}
use Rattle.circular_buffer.specs.Buffer.{Buffer, buffer}
use Rattle.zr_kinds.specs.declared.ring.Rqe.{Rqe}
use Rattle.area_layout.specs.Layout.{Shape, pool_buffers, all_buffers, begin_of}
use Rattle.board_face.specs.{Laws.{AllSides}, Opened.{new_nic}, Sides.{side_in}, declared.views.{parts.Setting.{Setting}, nic.NicSide.{NicSide}, app.AppSide.{AppSide}}}
use Rattle.board_face.specs.Blank.{blank_app}
use Rattle.board_parts.specs.{Opened.{new_apps}, declared.slots.NoteSlot.{NoteSlot}}
use Rattle.plain_board.specs.declared.others.Others.{Others}

-- Counts and flags, and what lies in the area and in the slots.
pub record Arrays : Type 0 where
  pub layout : Shape
  pub places : ℕ
  -- the bytes of all buffers, one buffer after another
  pub area : List ℕ
  -- the pool count of each buffer
  pub pool : List ℕ
  -- the user counts, those of one application after another
  pub users : List ℕ
  -- how many loans each application has out in each buffer, in the same order
  pub loans : List ℕ
  -- how many bytes the filled spare in a buffer has, where there is one
  pub filled : List ℕ
  -- whether a pool buffer is on the free list
  pub listed : List Bool
  -- the card's cache, in the order in which buffers entered
  pub cache : List ℕ
  -- the notes and the refill entries on their way, by application
  pub notes : List (Buffer NoteSlot)
  pub refills : List (Buffer Rqe)
  -- how many refill entries on their way don't stand behind the last raw one, by application
  pub raw : List ℕ
  pub ended : Bool
  pub left : List Bool

pub record Stand : Type 0 where
  pub arrays : Arrays
  pub nic : NicSide
  pub apps : List AppSide

abbrev pub setting_of_arrays : Arrays → Setting
setting_of_arrays arrays = record { layout = arrays.layout; places = arrays.places }

-- the byte of a buffer at an offset
abbrev pub byte_of : Arrays → ℕ → ℕ → ℕ
byte_of arrays buffer offset = slice_index arrays.area (begin_of arrays.layout buffer + offset)

abbrev pub sides_of : Stand → AllSides
sides_of board = record { nic = board.nic; apps = board.apps }

-- the side of an application
abbrev pub side_of : Stand → ℕ → AppSide
side_of board a = side_in board.apps a

-- What no call of an application changes: the card's side, those of the other applications, and its own number. No log is known here.
abbrev pub others_of : Stand → ℕ → Others
others_of board a = record { card = board.nic; apps = slice_set board.apps a blank_app; number = a; room = 0 }

-- No count, no free place, no byte and no note changed.
pub record SameBuffers (old new : Arrays) : Type 0 where
  pub area : new.area ≡ old.area
  pub pool : new.pool ≡ old.pool
  pub users : new.users ≡ old.users
  pub loans : new.loans ≡ old.loans
  pub filled : new.filled ≡ old.filled
  pub listed : new.listed ≡ old.listed
  pub cache : new.cache ≡ old.cache
  pub notes : new.notes ≡ old.notes

-- A board that was just opened: each pool buffer is on the free list, and all else is empty or 0.
abbrev pub new_stand : Shape → ℕ → Stand
new_stand layout places = record {
  arrays = record {
    layout = layout;
    places = places;
    area = replicate (begin_of layout (all_buffers layout)) 0;
    pool = replicate (all_buffers layout) 0;
    users = replicate (layout.reserves * all_buffers layout) 0;
    loans = replicate (layout.reserves * all_buffers layout) 0;
    filled = replicate (all_buffers layout) 0;
    listed = replicate (pool_buffers layout) true;
    cache = [];
    notes = replicate layout.reserves (buffer [] places);
    refills = replicate layout.reserves (buffer [] places);
    raw = replicate layout.reserves 0;
    ended = false;
    left = replicate layout.reserves false;
  };
  nic = new_nic (record { layout = layout; places = places });
  apps = new_apps (record { layout = layout; places = places }) 0 layout.reserves;
}

-- The memory that was taken at opening, in which `finish` lists the free buffers.
pub record HasRoom (layout : Shape) (free : List ℕ) (room : ℕ) : Type 0 where
  pub empty : free ≡ []
  pub free_room : pool_buffers layout ≤ room
