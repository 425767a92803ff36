-- What the command's words mean.
use Rattle.std.specs.Prelude.{ℕ, ◌≡◌, ◌≤◌, ⊤, true, List, [], ◌∷◌, length, nat_eq, if◌then◌else◌, Option, Some, None, option_and_then, option_map}
use Rattle.std.specs.{Prelude.{codes, All, IfSome, IsSome, Bool}, List.{IsDistinct}, Str.{bytes_eq}}
use Rattle.zr_kinds.specs.{Options.{AreInRange, BehavesPlainly, GoesByTurns}, declared.options.Options.{Options}}
use Rattle.area_layout.specs.Layout.{MakeLayout}
use Rattle.command_words.specs.{declared.{reading.{Command.{Command}, Replay.{Replay}}, making.Make.{Make}}, Numbers.{ports_of, up_to}}
use Rattle.command_words.specs.Assigned.{Text, Said, is_among, sorted, value_said}
use Rattle.command_words.specs.{Options.{IsTextOfTurns, flag_names, given, option_names, options_of, stand_together, turns_of}, Areas.{pool_areas_of}}

-- what `replay` is told: its ports, in the order given, its areas, each by its number of buffers and their size, its other
-- numbers, and whose turns it goes by, if that is said
pub record ReplayShown : Type 0 where
  pub ports : List ℕ
  pub areas : List (ℕ × ℕ)
  pub options : Options
  pub turns : Option Text

pub data Shown : Type 0 where
  replay : ReplayShown → Shown
  make : Make → Shown
  check : Shown

-- a command as its definition shows it
abbrev pub replay_shown : Replay → ReplayShown
replay_shown told = record {
  ports = told.ports.items;
  areas = told.areas.items;
  options = told.options;
  turns = option_map (λ text. text.now) told.turns;
}

abbrev pub command_shown : Command → Shown
command_shown (Command.Replay told) = replay (replay_shown told)
command_shown (Command.Make told) = make told
command_shown Command.Check = check

-- what a replay to these ports is told by the value of each option and whether each flag was said, but for those of its areas
abbrev pub told_with : (Text → Option Text) → (Text → Bool) → List ℕ → List (ℕ × ℕ) → Option ReplayShown
told_with value flag ports areas =
    given (options_of value flag) (λ options.
    given (turns_of (length ports) (value (codes "turns"))) (λ turns.
    Some (record { ports = ports; areas = areas; options = options; turns = turns })))

-- what it is told by these
abbrev pub told_by_words : (Text → Option Text) → (Text → Bool) → List ℕ → Option ReplayShown
told_by_words value flag ports = if stand_together value flag then given (pool_areas_of value) (told_with value flag ports) else None

abbrev pub replay_of : Option Said → Option ReplayShown
replay_of = option_and_then (λ said.
    given (ports_of said.words) (told_by_words (λ name. value_said name said.options) (λ name. is_among said.flags name)))

-- a seed and a number of frames, and no other word
abbrev pub make_numbers_of : List Text → Option Make
make_numbers_of [] = None
make_numbers_of (seed ∷ []) = None
make_numbers_of (seed ∷ frames ∷ []) =
    option_and_then (λ s. option_map (λ f. record { seed = s; frames = f }) (up_to 1000000 frames)) (up_to 4294967295 seed)
make_numbers_of (seed ∷ frames ∷ more ∷ words) = None

-- `make` has no options and no flags
abbrev pub make_of : Option Said → Option Make
make_of = option_and_then (λ said. make_numbers_of said.words)

-- `check` has no further word
abbrev pub check_of : List Text → Option Shown
check_of [] = Some check
check_of (word ∷ words) = None

-- the words after the program's name, as a command
abbrev pub reading_of : List Text → Option Shown
reading_of [] = None
reading_of (command ∷ words) =
    if bytes_eq command (codes "replay") then option_map replay (replay_of (sorted option_names flag_names words))
    else if bytes_eq command (codes "make") then option_map make (make_of (sorted [] [] words))
    else if bytes_eq command (codes "check") then check_of words
    else None

-- ports that a replay may have: 1 to 8, distinct, each from 1 to 65,535
pub record IsPortList (ports : List ℕ) : Type 0 where
  pub some : 1 ≤ length ports
  pub most : length ports ≤ 8
  pub distinct : IsDistinct nat_eq ports
  pub numbers : All (λ port. (1 ≤ port) × (port ≤ 65535)) ports

-- what a replay may be told
pub record IsReplay (told : Replay) : Type 0 where
  pub ports : IsPortList told.ports.items
  pub areas : MakeLayout told.areas.items (length told.ports.items)
  pub options : AreInRange told.options
  pub plain : BehavesPlainly told.options
  pub turns : IfSome told.turns (λ text. IsTextOfTurns (length told.ports.items) text.now)
  pub own : IfSome told.turns (λ text. GoesByTurns told.options)
  -- the record of a run is asked for only with a text of turns
  pub logged : told.options.events ≡ true → IsSome told.turns

abbrev pub IsCommand : Command → Type 0
IsCommand (Command.Replay told) = IsReplay told
IsCommand (Command.Make told) = ⊤
IsCommand Command.Check = ⊤
