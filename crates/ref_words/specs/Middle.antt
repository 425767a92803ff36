-- A board on which three roles are in the middle of calls, which a list of steps leads to from the opening.
use Rattle.std.specs.Prelude.{◌≡◌, true, List, [], ◌∷◌, Some}
use Rattle.area_layout.specs.Layout.{IsLayout, shape_of}
use Rattle.board_face.specs.{Tokens.{filling}, declared.views.parts.Setting.{Setting}}
use Rattle.ref_words.specs.Runs.{BoardState, SeatStep, deals, becomes_card, becomes_app, by_card, by_app, run_of, opened_state, MayRun, Keeps}
use Rattle.ref_words.specs.{Runs.{sweeps, takes, begins, looks_end, looks_any}, Words.{pool_word_of}, Seated.{side_at}}

-- two buffers of 1,024 bytes, two applications, and two slots in each ring
abbrev pub small : Setting
small = record { layout = shape_of 2 2 1024; places = 2 }

-- The desk gives three seats. Then steps of the card, of one application and of the other take turns.
abbrev pub steps : List SeatStep
steps = deals 0 ∷ deals 1 ∷ deals 2 ∷ becomes_card 1 ∷ becomes_app 2 0 ∷ becomes_app 3 1
    ∷ by_card 1 (sweeps 0) ∷ by_app 2 0 looks_end ∷ by_card 1 (takes 0) ∷ by_app 3 1 (looks_any 0)
    ∷ by_card 1 (begins (filling 0 0 1024) 5) ∷ []

abbrev pub middle : BoardState
middle = run_of small (opened_state small) steps

-- The steps may be made, and the rule holds behind them. The card has a piece in the making, for which the pool count is raised
-- already; one application looked for the card's end and not yet for a note; and the other saw one of its two refill slots free.
pub record IsInhabited : Type 0 where
  pub layout : IsLayout small.layout
  pub may : MayRun small (opened_state small) steps
  pub keeps : Keeps small middle
  pub card : middle.nic.inside.making ≡ Some (record { place = record { buffer = 0; offset = 0; len = 5 }; bytes = [] })
  pub count : pool_word_of middle.words 0 ≡ 2
  pub first : (side_at small middle.apps 0).inside.end_unseen ≡ true
  pub second : (side_at small middle.apps 1).inside.free_slots ≡ 0 ∷ []
