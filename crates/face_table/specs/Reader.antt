-- What an application that reads each piece at once keeps and does.
use Rattle.std.specs.Prelude.{◌≡◌, ℕ, ◌+◌, List, [], ◌∷◌, ◌++◌, length, sum_by, count_by, if◌then◌else◌}
use Rattle.zr_kinds.specs.declared.place.Place.{Place}
use Rattle.board_face.specs.{Texts.{further}, Looks.{AppLooksStay, AppRose}, AppEvents.{loan_origin}, declared.views.app.{Origin.{Origin}, Reading.{Reading}}}
use Rattle.board_face.specs.declared.views.app.{TakenNote.{TakenNote}, AppLook.TheVariants.{NoNote, CardEnded, RefillInUse}, AppView.{AppView}}
use Rattle.face_table.specs.declared.reader.Served.{Served, TheVariants.{All as all_taken, NoNote as no_note, Ended as ended, RefillFull as refill_full}}

-- the readings go on from byte to byte of one origin, up to a number of bytes
abbrev pub ReadingsGoOn : Origin → ℕ → List Reading → ℕ → Type 0
ReadingsGoOn origin from [] end = from ≡ end
ReadingsGoOn origin from (r ∷ rest) end = (r.origin ≡ further origin from) × ReadingsGoOn origin (from + length r.bytes) rest end

-- Nothing changed but that the loan's first bytes were read, so many of them.
pub record ReadsOf (old new : AppView) (loan : Place) (count : ℕ) : Type 0 where
  pub readings : List Reading
  pub event : new ≡ record old { reads = old.reads ++ readings }
  pub in_order : ReadingsGoOn (loan_origin old loan) 0 readings count

-- no token is out
pub record HasNothing (v : AppView) : Type 0 where
  pub helds : v.helds ≡ []
  pub loans : v.loans ≡ []
  pub spares : v.owns ≡ []

-- how many bytes were read
abbrev pub bytes_read : AppView → ℕ
bytes_read v = sum_by (λ r. length r.bytes) v.reads

-- More notes were taken, and each piece among them was lent, read whole, and came back.
pub record Serves (old new : AppView) : Type 0 where
  pub notes : List TakenNote
  pub taken : new.taken ≡ old.taken ++ notes
  pub returned : length new.returned ≡ length old.returned + count_by (λ t. t.note.split) notes
  pub read : bytes_read new ≡ bytes_read old + sum_by (λ t. if t.note.split then t.note.place.len else 0) notes
  pub looks : AppLooksStay old new

-- why it stopped, where it was to take so many notes
abbrev pub Stopped : AppView → AppView → ℕ → Served → Type 0
Stopped old new count all_taken = length new.taken ≡ length old.taken + count
Stopped old new count no_note = AppRose NoNote old new
Stopped old new count ended = AppRose CardEnded old new
Stopped old new count refill_full = AppRose RefillInUse old new
