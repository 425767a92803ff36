-- Steps at the lines of the area: a role takes the lines of a text, and gives them back with the text that it stored, or as it read them.
use Rattle.std.specs.Prelude.{◌≡◌, ℕ, ◌+◌, Option, Some, None, List, length}
use Rattle.zr_kinds.specs.declared.place.Place.{Place}
use Rattle.board_face.specs.{NicEvents.{placed}, FineSteps.{side_text_done}, AppEvents.{filled, has_read}, Steps.{side_begun}}
use Rattle.board_face.specs.declared.views.{parts.{Filling.{Filling}, Making.{Making}}, nic.NicSide.{NicSide}, app.AppSide.{AppSide}}
use Rattle.ref_words.specs.Lines.{joined, text_in}

-- A text is stored at the place, or the bytes that stand in its lines are read.
abbrev pub making_in_hand : Place → List ℕ → Option Making
making_in_hand place bytes = Some (record { place = place; bytes = bytes })

-- an application's side, with these lines at hand
abbrev pub side_at_hand : AppSide → Option Making → AppSide
side_at_hand app making = record app { inside = record app.inside { making = making } }

-- ---- a text is stored

-- Where the card gives the lines of the piece in the making back, its text is complete (`side_text_done`). An application that gave those
-- of a spare back has filled it.
abbrev pub side_spare_filled : AppSide → Filling → List ℕ → AppSide
side_spare_filled app own bytes = record { view = filled app.view own bytes; inside = record app.inside { making = None } }

-- ---- a text is read

-- so many bytes of a place, from one on
abbrev pub part_of : Place → ℕ → ℕ → Place
part_of place from n = record place { offset = place.offset + from; len = n }

-- An application took these lines of a loan, to read so many bytes from one on.
abbrev pub side_read : AppSide → Place → ℕ → ℕ → List (List ℕ) → AppSide
side_read app place from n lines = record {
  view = has_read app.view place from (text_in (part_of place from n) lines);
  inside = record app.inside { making = making_in_hand (part_of place from n) (joined lines) };
}

-- ---- the steps of a call together are its event

pub record AreaStepsLaw : Type 0 where
  pub place : (nic : NicSide) (own : Filling) (bytes : List ℕ)
      → (side_text_done (side_begun nic own (length bytes)) own bytes).view ≡ placed nic.view own bytes
  pub fill : (app : AppSide) (own : Filling) (bytes : List ℕ) (making : Option Making)
      → (side_spare_filled (side_at_hand app making) own bytes).view ≡ filled app.view own bytes
