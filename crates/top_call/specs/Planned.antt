-- The plan of a replay, by what it is told.
use Rattle.std.specs.Prelude.{◌≡◌}
use Rattle.command_words.specs.Words.{ReplayShown}
use Rattle.card_feed.specs.declared.plan.Plan.{Plan}

pub record IsPlanOf (told : ReplayShown) (plan : Plan) : Type 0 where
  pub ports_are : plan.ports.items ≡ told.ports
  pub areas_are : plan.areas.items ≡ told.areas
  pub options_are : plan.options ≡ told.options
