-- What the options of a replay may be.
use Rattle.std.specs.{Prelude.{◌≡◌, ◌≤◌, ◌||◌, true, false, None, IfSome}, Option.{is_some}}
use Rattle.zr_kinds.specs.declared.{behaviour.Behaviour.{Behaviour}, options.Options.{Options}}

-- the numbers are in their ranges, and an application takes turns of its own, or is polled, or forwards, by at most so many tags
pub record AreInRange (options : Options) : Type 0 where
  pub ring : (1 ≤ options.ring) × (options.ring ≤ 256)
  pub split : options.split ≤ 256
  pub hold : options.how.hold ≤ 4096
  pub leak : options.how.leak ≤ 4096
  pub stray : options.how.stray ≤ 16
  pub one_way : options.polled ≡ true → options.forward ≡ None
  pub delay : IfSome options.forward (λ delay. delay ≤ 63)

-- applications take turns of their own
pub record GoesByTurns (options : Options) : Type 0 where
  pub unpolled : options.polled ≡ false
  pub unforwarded : options.forward ≡ None

-- it gives each loan back once it was read, and nothing more
abbrev pub plain_behaviour : Behaviour
plain_behaviour = record { hold = 0; leak = 0; stray = 0; quit = None }

-- where applications are polled or forward nothing else is said of how they behave
abbrev pub BehavesPlainly : Options → Type 0
BehavesPlainly options = (options.polled || is_some options.forward) ≡ true → options.how ≡ plain_behaviour
