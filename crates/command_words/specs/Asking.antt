-- What clap is asked, and what its matches answer.
use Rattle.std.specs.{Prelude.{◌≡◌, ⊤, Bool, true, false, List, [], ◌∷◌, ◌++◌, map, Option, Some, None, option_map, codes}, List.{list_any}, Str.{bytes_eq}}
use Rattle.clap.specs.{Matches.{found_of, first_value, matched_of, raw_values}, Walk.{Rule}, Simple.{App, new_rule, new_shape}}
use Rattle.clap.specs.declared.{builder.action.ArgAction.TheVariants.{Set, SetTrue, Append}, parser.matches.ArgMatches.{ArgMatches}}
use Rattle.command_words.specs.Assigned.{Text, Said, if_any, is_among, value_said}

abbrev pub port_id : Text
port_id = codes "PORT"

-- no option is called as a flag, and neither as the words that stand for themselves
pub record AreNamesApart (names flags : List Text) : Type 0 where
  pub unlike : list_any (is_among names) flags ≡ false
  pub words : (is_among names port_id ≡ false) × (is_among flags port_id ≡ false)

-- an option takes one value and a flag none; the words that stand for themselves go to one positional
abbrev pub raw_option : Text → Rule
raw_option name = record (new_rule name) { long = Some name; action = Some Set }

abbrev pub raw_flag : Text → Rule
raw_flag name = record (new_rule name) { long = Some name; action = Some SetTrue }

abbrev pub raw_port : Rule
raw_port = record (new_rule port_id) { action = Some Append }

abbrev pub option_rules : List Text → List Rule
option_rules = map raw_option

abbrev pub flag_rules : List Text → List Rule
flag_rules = map raw_flag

-- the options, then the flags, and last the words that stand for themselves
abbrev pub raw_rules : List Text → List Text → List Rule
raw_rules names flags = option_rules names ++ (flag_rules flags ++ raw_port ∷ [])

-- these arguments and no help; the first word stands where a program's name would
abbrev pub app_with : List Rule → App
app_with rules = record {
  top = record (new_shape (codes "zcrx")) { disable_help_flag = true; rules = rules };
  subs = [];
}

abbrev pub app_for : List Text → List Text → App
app_for names flags = app_with (raw_rules names flags)

-- a flag has a value in each case: `true` where it was said
abbrev pub is_true : Option Text → Bool
is_true None = false
is_true (Some text) = bytes_eq text (codes "true")

abbrev pub flag_in : ArgMatches → Text → Bool
flag_in matches name = is_true (first_value (found_of matches) name)

-- the matches have what was said: the value of each option, the flags, and the words that stand for themselves
pub record HasSaid (names flags : List Text) (matches : ArgMatches) (said : Said) : Type 0 where
  pub options : (name : Text) → is_among names name ≡ true
      → first_value (found_of matches) name ≡ value_said name said.options
  pub flagged : (name : Text) → is_among flags name ≡ true → flag_in matches name ≡ is_among said.flags name
  pub words : option_map raw_values (matched_of (found_of matches) port_id) ≡ if_any said.words

-- matches come exactly where the words say something
abbrev pub AreMatched : List Text → List Text → Option ArgMatches → Option Said → Type 0
AreMatched names flags (Some matches) (Some said) = HasSaid names flags matches said
AreMatched names flags None None = ⊤
AreMatched names flags (Some matches) None = ⊥
AreMatched names flags None (Some said) = ⊥
