-- Which word is an option or a flag, which is an option's value, and which stands for itself. A word is the list of its bytes.
use Rattle.std.specs.Prelude.{ℕ, Bool, List, [], ◌∷◌, map, if◌then◌else◌, ◌==◌, ◌&&◌, Option, Some, None, option_map, option_and_then}
use Rattle.std.specs.{List.{list_any, before_first, after_first}, Str.{bytes_eq}}
use Rattle.command_words.specs.Numbers.{is_distinct}

abbrev pub Text : Type 0
Text = List ℕ

-- `-` and `=`
abbrev pub dash : ℕ
dash = 45

abbrev pub is_equals : ℕ → Bool
is_equals byte = byte == 61

-- how a word looks: `--`; `--name` or `--name=value`, with its value if it has one; another word that begins with a
-- dash and goes on; any other
pub data Look : Type 0 where
  closing : Look
  named : Text → Option Text → Look
  dashed : Look
  plain : Look

-- what stands after `--`, cut at its first `=`
abbrev pub option_behind_dashes : Text → Look
option_behind_dashes text =
    named (before_first is_equals text) (if list_any is_equals text then Some (after_first is_equals text) else None)

abbrev pub after_dashes : Text → Look
after_dashes [] = closing
after_dashes (byte ∷ rest) = option_behind_dashes (byte ∷ rest)

abbrev pub after_dash : Text → Look
after_dash [] = plain
after_dash (byte ∷ rest) = if byte == dash then after_dashes rest else dashed

abbrev pub look_of_word : Text → Look
look_of_word [] = plain
look_of_word (byte ∷ rest) = if byte == dash then after_dash rest else plain

-- what words say: the options that they name, each with its value, the flags, which have none, and the words that stand for
-- themselves
pub record Said : Type 0 where
  pub options : List (Text × Text)
  pub flags : List Text
  pub words : List Text

abbrev pub nothing_said : Said
nothing_said = record { options = []; flags = []; words = [] }

abbrev pub with_option : Text → Text → Said → Said
with_option name value said = record said { options = (name, value) ∷ said.options }

abbrev pub with_flag : Text → Said → Said
with_flag name said = record said { flags = name ∷ said.flags }

abbrev pub said_with_word : Text → Said → Said
said_with_word word said = record said { words = word ∷ said.words }

abbrev pub is_among : List Text → Text → Bool
is_among names name = list_any (λ known. bytes_eq known name) names

-- a word and, by `next`, what the words after it say, where an option waits for its value or none does. An option must
-- be one of the names; its value is what stands after `=`, or else the next word, which must be plain. A flag stands
-- without a value. After `--` each word stands for itself.
abbrev pub said_by : List Text → List Text → Option Text → Look → Text → List Text → (Option Text → Option Said) → Option Said
said_by names flags None closing word rest next = Some (record { options = []; flags = []; words = rest })
said_by names flags None (named name (Some value)) word rest next =
    if is_among names name then option_map (with_option name value) (next None) else None
said_by names flags None (named name None) word rest next =
    if is_among names name then next (Some name)
    else if is_among flags name then option_map (with_flag name) (next None) else None
said_by names flags None dashed word rest next = None
said_by names flags None plain word rest next = option_map (said_with_word word) (next None)
said_by names flags (Some name) closing word rest next = None
said_by names flags (Some name) (named other value) word rest next = None
said_by names flags (Some name) dashed word rest next = None
said_by names flags (Some name) plain word rest next = option_map (with_option name word) (next None)

unfoldable pub assigned : List Text → List Text → Option Text → List Text → Option Said
assigned names flags None [] = Some nothing_said
assigned names flags (Some name) [] = None
assigned names flags waits (word ∷ rest) =
    said_by names flags waits (look_of_word word) word rest (λ w. assigned names flags w rest)

abbrev pub names_said : Said → List Text
names_said said = map (λ option. option.0) said.options

-- no option and no flag stands twice
abbrev pub is_once : Said → Bool
is_once said = is_distinct bytes_eq (names_said said) && is_distinct bytes_eq said.flags

abbrev pub each_once : Option Said → Option Said
each_once = option_and_then (λ said. if is_once said then Some said else None)

-- what words say, where these are the names of options and of flags, and each may stand once at most
abbrev pub sorted : List Text → List Text → List Text → Option Said
sorted names flags words = each_once (assigned names flags None words)

-- the value that was said of an option
abbrev pub value_said : Text → List (Text × Text) → Option Text
value_said name [] = None
value_said name (option ∷ options) = if bytes_eq option.0 name then Some option.1 else value_said name options

-- the list, where it has an item
abbrev pub if_any : List Text → Option (List Text)
if_any [] = None
if_any (word ∷ words) = Some (word ∷ words)
