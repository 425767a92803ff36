-- What the shelf has of a flow, by the marks of the flow's notes.
use Rattle.std.specs.Prelude.{◌≡◌, ℕ, List, ◌++◌, Option}
use Rattle.zr_io.specs.Moved.{Gained}
use Rattle.board_face.specs.declared.views.app.{Reading.{Reading}, TakenNote.{TakenNote}, AppView.{AppView}}
use Rattle.flow_queues.specs.{Marks.{Mark, marks_of}, Core.{AreReadAt}}

-- these are the bytes at the first of these marks, one at each
pub record IsFront (taken : List TakenNote) (reads : List Reading) (marks : List Mark) (bytes : List ℕ) : Type 0 where
  pub read : List Mark
  pub rest : List Mark
  pub parts : marks ≡ read ++ rest
  pub are : AreReadAt taken reads read bytes

-- since `first`, each flow gained the bytes at the first of its marks
abbrev pub HasFronts : (ℕ → Option (List ℕ)) → (ℕ → Option (List ℕ)) → AppView → Type 0
HasFronts first kept v = (flow : ℕ) → Gained (first flow) (kept flow) (IsFront v.taken v.reads (marks_of flow v.taken))

-- and those at all of them
abbrev pub HasAll : (ℕ → Option (List ℕ)) → (ℕ → Option (List ℕ)) → AppView → Type 0
HasAll first kept v = (flow : ℕ) → Gained (first flow) (kept flow) (AreReadAt v.taken v.reads (marks_of flow v.taken))
