-- What holds of the table between any two steps, and what its seats are.
use Rattle.std.specs.Prelude.{◌≡◌, ℕ, ◌<◌, Bool, true, false, if◌then◌else◌, List, [], ◌∷◌, slice_index_or, slice_index, slice_set, replicate, take, Option, Some, None}
use Rattle.atomic_table.specs.{Table.{State}, Seated.{TableId}}
use Rattle.area_layout.specs.Layout.{IsLayout, shape_of, all_buffers}
use Rattle.zr_kinds.specs.declared.{place.Note.{Note}, ring.Rqe.{Rqe}}
use Rattle.board_face.specs.{AppEvents.{scrubbed}, SlotSteps.{seen_with, side_entry_looked, side_took_note, side_took_linear}}
use Rattle.board_face.specs.{declared.views.nic.Judged.TheVariants.{Not}, Opened.{new_nic, new_app}, Steps.{side_user_taken, side_owes_lowered}}
use Rattle.board_face.specs.declared.views.{parts.Setting.{Setting}, nic.NicSide.{NicSide}, app.AppSide.{AppSide}}
use Rattle.word_rings.specs.Slots.{entry_body}
use Rattle.ref_words.specs.{declared.view.View.{View}, Words.{Words, roles_of, table_of}, Seated.{Seated, times_in, dealt_out, no_role}, Rule.{BoardRule}, Homes.{StandInSlots}}

-- The sides of all roles, of which each seat has those of its own, the words that stand to them by the rule, and in the slots the lines
-- that no role has out.
pub record IsBoard (setting : Setting) (s : State (List ℕ) View) : Type 0 where
  pub words : Words
  pub nic : NicSide
  pub apps : List AppSide
  pub laid : s.words ≡ table_of words
  pub lines : StandInSlots setting words.area nic apps s.homes
  pub seated : Seated setting words.roles s.views nic apps
  pub rule : BoardRule setting words nic apps

-- ---- seats

abbrev pub no_setting : Setting
no_setting = record { layout = shape_of 0 0 0; places = 0 }

abbrev pub first_nic : List NicSide → NicSide
first_nic [] = new_nic no_setting
first_nic (nic ∷ nics) = nic

abbrev pub first_app : List AppSide → AppSide
first_app [] = new_app no_setting 0
first_app (app ∷ apps) = app

-- the side of the card's seat, and that of an application's
abbrev pub card_of_seat : View → NicSide
card_of_seat v = first_nic v.nics

abbrev pub app_of_seat : View → AppSide
app_of_seat v = first_app v.apps

-- ---- a scrub

-- Of one buffer a scrub took a user count, and as many references from the pool count. Where no holder was left by that it listed the
-- buffer, so it has nothing in hand.
pub record ScrubbedOne (old new : AppSide) (b : ℕ) : Type 0 where
  pub took : ℕ
  pub event : new ≡ side_owes_lowered (side_user_taken old b took) b false

-- A whole scrub took all that was owed, and left nothing in hand and nothing to be taken from a pool count.
pub record ScrubbedAll (old new : AppSide) : Type 0 where
  pub took : List ℕ
  pub owes : List ℕ
  pub event : new ≡ record {
    view = scrubbed old.view;
    inside = record old.inside { scrub_mark = all_buffers old.view.setting.layout; scrub_took = took; scrub_owes = owes };
  }
  pub clear : (b : ℕ) → slice_index owes b ≡ 0

-- ---- an entry

-- The card looked at the next slot of an application, and where it was full it has the entry in hand whose words it loaded.
abbrev pub side_entry_taken : NicSide → ℕ → Option Rqe → NicSide
side_entry_taken nic a None = side_entry_looked nic a false
side_entry_taken nic a (Some entry) = record nic {
  inside = record nic.inside {
    refill_slots = slice_set nic.inside.refill_slots a (seen_with (entry_body entry));
    entry = Some (record { app = a; entry = entry; judged = Not });
  };
}

-- ---- a note

-- The application took the note of its next slot, with the first of these bytes where they travelled in it.
abbrev pub side_full_taken : AppSide → Note → List ℕ → AppSide
side_full_taken app note bytes = if note.split then side_took_note app note else side_took_linear app note (take note.total bytes)

-- ---- what callers see

-- its layout is one, and each ring has a slot
pub record IsBoardSetting (setting : Setting) : Type 0 where
  pub layout : IsLayout setting.layout
  pub places : 0 < setting.places

-- a board: which table it has, and its setting
pub record TheBoard : Type 0 where
  pub table : TableId
  pub setting : Setting

-- The desk: at which board, which roles it gave, the card's first, and what the roles did that are back.
pub record TheDesk : Type 0 where
  pub board : TheBoard
  pub given : List Bool
  pub view : View

-- a role's seat: at which board, and what the role has done
pub record TheSeat (Side : Type 0) : Type 0 where
  pub board : TheBoard
  pub side : Side

abbrev pub TheNic : Type 0
TheNic = TheSeat NicSide

abbrev pub TheApp : Type 0
TheApp = TheSeat AppSide

-- a desk that gave nothing
abbrev pub new_desk : TheBoard → TheDesk
new_desk board = record { board = board; given = replicate (roles_of board.setting) false; view = no_role }

-- the role was given before
abbrev pub was_given : TheDesk → ℕ → Bool
was_given desk r = slice_index_or desk.given r false

-- the desk, once it gave a role
abbrev pub gave_role : TheDesk → ℕ → TheDesk
gave_role desk r = record desk { given = slice_set desk.given r true; view = dealt_out r desk.view }

-- the roles that the desk gave are those that its seat dealt out
abbrev pub HasDealt : List Bool → View → Type 0
HasDealt given v = (r : ℕ) → times_in {V = View} (λ v. v.dealt) (λ x. x) r v.dealt ≡ (if slice_index_or given r false then 1 else 0)
