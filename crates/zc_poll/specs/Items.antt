-- The items that a stream gave, and what of a flow's marks they are.
use Rattle.std.specs.Prelude.{◌≡◌, ℕ, ◌==◌, if◌then◌else◌, List, [], ◌∷◌, ◌++◌, length}
use Rattle.zr_kinds.specs.CopyingReceiver.{values_from}
use Rattle.board_face.specs.declared.views.app.TakenNote.{TakenNote}
use Rattle.flow_queues.specs.{declared.queues.{FlowQueue.{FlowQueue}, Lending.{Lending}}, Marks.{Mark}, Core.{Each, many, marks_of_loan, placed_of}}

-- an item: its flow, and its loan with the note and the place in it from which its bytes come
pub record GivenItem : Type 0 where
  pub flow : ℕ
  pub lending : Lending

-- the marks of a flow's items, from the first on
abbrev pub marks_given : ℕ → List GivenItem → List Mark
marks_given flow [] = []
marks_given flow (g ∷ gs) = (if g.flow == flow then marks_of_loan g.lending else []) ++ marks_given flow gs

-- these items were given so far: of each flow those of its first marks, as many as are counted
pub record HasGiven (items : List GivenItem) (own : List FlowQueue) (taken : List TakenNote) : Type 0 where
  pub flows : Each (λ f. marks_given f.number items ≡ values_from (placed_of f taken).at f.bytes 0) own
  pub others : (number : ℕ) → many number own ≡ 0 → marks_given number items ≡ []

-- a part of these stands there, so many behind the first
pub record IsAt (marks : List Mark) (position : ℕ) (part : List Mark) : Type 0 where
  pub before : List Mark
  pub behind : List Mark
  pub parts : marks ≡ before ++ (part ++ behind)
  pub at : length before ≡ position
