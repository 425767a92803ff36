-- What a plan asks for, and which plans can be run.
use Rattle.std.specs.{Prelude.{◌≡◌, ◌<◌, ◌≤◌, ◌↔◌, ◌||◌, if◌then◌else◌, length, nat_eq, Option, IsSome, IfSome}, Option.{is_some}, List.{IsDistinct}}
use Rattle.area_layout.specs.Layout.{Shape, MakeLayout, shape_of_areas}
use Rattle.zr_kinds.specs.{Options.{AreInRange, GoesByTurns, plain_behaviour}, declared.behaviour.Behaviour.{Behaviour}}
use Rattle.card_feed.specs.declared.plan.Plan.{Plan}

-- how the areas are cut: pool buffers, and one reserve for each port
abbrev pub layout_of : Plan → Shape
layout_of plan = shape_of_areas plan.areas.items (length plan.ports.items)

-- how each application of a run behaves: one that is polled, or that forwards, keeps nothing and never quits
abbrev pub how_of : Plan → Behaviour
how_of plan = if plan.options.polled || is_some plan.options.forward then plain_behaviour else plan.options.how

-- There is a layout exactly where the numbers allow one.
pub record IsLaidOut (plan : Plan) (result : Option Shape) : Type 0 where
  pub fits : IsSome result ↔ MakeLayout plan.areas.items (length plan.ports.items)
  pub value : IfSome result (λ layout. layout ≡ layout_of plan)

-- 1 to 8 distinct ports, and numbers in their ranges
pub record IsPlan (plan : Plan) : Type 0 where
  pub layout : MakeLayout plan.areas.items (length plan.ports.items)
  pub some : 0 < length plan.ports.items
  pub most : length plan.ports.items ≤ 8
  pub distinct : IsDistinct nat_eq plan.ports.items
  pub options : AreInRange plan.options

-- its applications take turns of their own
abbrev pub TakesTurns : Plan → Type 0
TakesTurns plan = GoesByTurns plan.options
