-- The command that clap is given for lists of names of options and of flags, as clap sees it: its rules, and what looking one
-- up finds.
use Rattle.std.proofs.Common.{◌≡◌, ◌∙◌, ℕ, Bool, true, false, not, ◌&&◌, ◌||◌, cond, refl, ap, List, [], ◌∷◌, ◌++◌, map, Some, None, codes, is_some}
use Rattle.std.{specs.{Prelude.{find, fold, count_by}, List.{list_all, list_any}, Str.{bytes_eq}}, proofs.lemmas.{Slice.Eq.{bytes_eq-Decides}, Bool.{or_right}}}
use Rattle.clap.specs.Walk.{Rule, Row, Text, arg_by_id, arg_by_index, arg_by_long, arg_by_short, has_row, is_early_multiple, with_default}
use Rattle.clap.specs.{Simple.{Shape, new_shape, built, filled_from}, Faults.{defaults_fault, is_simple_and_free}, Takes.{is_given}}
use Rattle.clap.specs.declared.builder.value_parser.ValueParser.TheVariants as vp
use Rattle.command_words.specs.{Assigned.{is_among}, Asking.{app_for, port_id, raw_flag, raw_option, raw_port, raw_rules}}

-- ---- texts

pub same_text : (a b : Text) → bytes_eq a b ≡ true → a ≡ b
same_text a b e = (bytes_eq-Decides a b).0 e

pub text_is_itself : (a : Text) → bytes_eq a a ≡ true
text_is_itself a = (bytes_eq-Decides a a).1 refl

-- ---- the rules

-- as building fills them in
abbrev pub option_rule : Text → Rule
option_rule name = record (raw_option name) { parser = Some vp.String; range = Some (record { start_inclusive = 1; end_inclusive = 1 }) }

abbrev pub flag_rule : Text → Rule
flag_rule name = record (raw_flag name) {
  defaults = codes "false" ∷ [];
  missing = codes "true" ∷ [];
  parser = Some vp.Bool;
  range = Some (record { start_inclusive = 0; end_inclusive = 0 });
}

abbrev pub port_rule : Rule
port_rule = record raw_port { index = Some 1; parser = Some vp.String; range = Some (record { start_inclusive = 1; end_inclusive = 1 }) }

abbrev pub rules : List Text → List Text → List Rule
rules names flags = map option_rule names ++ (map flag_rule flags ++ port_rule ∷ [])

pub filled_rules : (names flags : List Text) → filled_from 1 (raw_rules names flags) ≡ rules names flags
filled_rules [] [] = refl
filled_rules [] (flag ∷ flags) = ap (λ rs. flag_rule flag ∷ rs) (filled_rules [] flags)
filled_rules (name ∷ names) flags = ap (λ rs. option_rule name ∷ rs) (filled_rules names flags)

abbrev pub shape_for : List Text → List Text → Shape
shape_for names flags = record (new_shape (codes "zcrx")) {
  disable_help_flag = true;
  disable_help_subcommand = true;
  is_built = true;
  rules = rules names flags;
}

pub built_app : (names flags : List Text) → built (app_for names flags) ≡ record { top = shape_for names flags; subs = [] }
built_app names flags = ap (λ rs. record { top = record (shape_for [] []) { rules = rs }; subs = [] }) (filled_rules names flags)

-- ---- it is simple

raw_simple : (names flags : List Text) → list_all (λ (a : Rule). a.is_simple) (raw_rules names flags) ≡ true
raw_simple [] [] = refl
raw_simple [] (flag ∷ flags) = raw_simple [] flags
raw_simple (name ∷ names) flags = raw_simple names flags

all_simple : (names flags : List Text) → list_all (λ (a : Rule). a.is_simple) (rules names flags) ≡ true
all_simple [] [] = refl
all_simple [] (flag ∷ flags) = all_simple [] flags
all_simple (name ∷ names) flags = all_simple names flags

all_free : (names flags : List Text) → list_all (λ (a : Rule). a.is_free) (rules names flags) ≡ true
all_free [] [] = refl
all_free [] (flag ∷ flags) = all_free [] flags
all_free (name ∷ names) flags = all_free names flags

one_positional : (names flags : List Text) → count_by (λ (a : Rule). is_some a.index) (rules names flags) ≡ 1
one_positional [] [] = refl
one_positional [] (flag ∷ flags) = one_positional [] flags
one_positional (name ∷ names) flags = one_positional names flags

none_early : (names flags : List Text) → list_any (is_early_multiple 1) (rules names flags) ≡ false
none_early [] [] = refl
none_early [] (flag ∷ flags) = none_early [] flags
none_early (name ∷ names) flags = none_early names flags

pub simple_app : (names flags : List Text) → is_simple_and_free (app_for names flags) ≡ true
simple_app names flags =
    rw (
      filled_rules names flags,
      raw_simple names flags,
      all_simple names flags,
      one_positional names flags,
      none_early names flags,
      all_free names flags,
    ) refl

-- ---- what is found

pub or_false : (b : Bool) → (b || false) ≡ b
or_false true = refl
or_false false = refl

-- among rules that go by their names, the one of this name
found : (rule : Text → Rule) (test : Rule → Bool) (name : Text) → ((n : Text) → test (rule n) ≡ bytes_eq n name)
    → (names : List Text) (rest : List Rule)
    → find test (map rule names ++ rest) ≡ cond (is_among names name) (Some (rule name)) (find test rest)
found rule test name by_name [] rest = refl
found rule test name by_name (known ∷ names) rest = go (found rule test name by_name names rest) (bytes_eq known name) refl
  where
    go : find test (map rule names ++ rest) ≡ cond (is_among names name) (Some (rule name)) (find test rest)
        → (b : Bool) → bytes_eq known name ≡ b
        → find test (map rule (known ∷ names) ++ rest) ≡ cond (is_among (known ∷ names) name) (Some (rule name)) (find test rest)
    go below true e = rw (by_name known, e, same_text known name e) refl
    go below false e = rw (by_name known, e) below

pub by_index : (names flags : List Text) → arg_by_index (rules names flags) 1 ≡ Some port_rule
by_index [] [] = refl
by_index [] (flag ∷ flags) = by_index [] flags
by_index (name ∷ names) flags = by_index names flags

pub by_short : (names flags : List Text) (x : ℕ) → arg_by_short (rules names flags) x ≡ None
by_short [] [] x = refl
by_short [] (flag ∷ flags) x = by_short [] flags x
by_short (name ∷ names) flags x = by_short names flags x

pub by_long : (names flags : List Text) (name : Text) → arg_by_long (rules names flags) name
    ≡ cond (is_among names name) (Some (option_rule name)) (cond (is_among flags name) (Some (flag_rule name)) None)
by_long names flags name =
    found option_rule _ name (λ n. or_false (bytes_eq n name)) names (map flag_rule flags ++ port_rule ∷ [])
    ∙ ap (cond (is_among names name) (Some (option_rule name))) (found flag_rule _ name (λ n. or_false (bytes_eq n name)) flags (port_rule ∷ []))

by_any_id : (names flags : List Text) (id : Text) → arg_by_id (rules names flags) id
    ≡ cond (is_among names id) (Some (option_rule id)) (cond (is_among flags id) (Some (flag_rule id)) (arg_by_id (port_rule ∷ []) id))
by_any_id names flags id =
    found option_rule _ id (λ n. refl) names (map flag_rule flags ++ port_rule ∷ [])
    ∙ ap (cond (is_among names id) (Some (option_rule id))) (found flag_rule _ id (λ n. refl) flags (port_rule ∷ []))

pub by_id : (names flags : List Text) (name : Text) → is_among names name ≡ true → arg_by_id (rules names flags) name ≡ Some (option_rule name)
by_id names flags name among = by_any_id names flags name ∙ rw among refl

pub by_port_id : (names flags : List Text) → is_among names port_id ≡ false → is_among flags port_id ≡ false
    → arg_by_id (rules names flags) port_id ≡ Some port_rule
by_port_id names flags no_option no_flag = by_any_id names flags port_id ∙ rw (no_option, no_flag) refl

-- ---- after the walk

no_default : (rows : List Row) (a : Rule) → a.defaults ≡ [] → with_default rows a ≡ rows
no_default rows a none = rw none (elim (has_row a.id rows) as (λ b. cond b rows rows ≡ rows) [ true ↦ refl | false ↦ refl ])

-- flags alone have defaults
abbrev pub with_flags : List Text → List Row → List Row
with_flags flags rows = fold with_default rows (map flag_rule flags)

pub defaults_of_flags : (names flags : List Text) (rows : List Row) → fold with_default rows (rules names flags) ≡ with_flags flags rows
defaults_of_flags [] [] rows = no_default rows port_rule refl
defaults_of_flags [] (flag ∷ flags) rows = defaults_of_flags [] flags (with_default rows (flag_rule flag))
defaults_of_flags (name ∷ names) flags rows =
    ap (λ r. fold with_default r (rules names flags)) (no_default rows (option_rule name) refl) ∙ defaults_of_flags names flags rows

pub default_faults : (names flags : List Text) (rows : List Row) → defaults_fault rows (rules names flags) ≡ []
unfolding defaults_fault
default_faults [] [] rows = rw (or_right (has_row port_id rows) true refl) refl
default_faults [] (flag ∷ flags) rows = go (default_faults [] flags (with_default rows (flag_rule flag))) (has_row flag rows) refl
  where
    go : defaults_fault (with_default rows (flag_rule flag)) (rules [] flags) ≡ [] → (b : Bool) → has_row flag rows ≡ b
        → defaults_fault rows (rules [] (flag ∷ flags)) ≡ []
    go below true e = rw e (rw e at below)
    go below false e = rw e (rw e at below)
default_faults (name ∷ names) flags rows =
    rw (or_right (has_row name rows) true refl, no_default rows (option_rule name) refl) (default_faults names flags rows)

pub none_required : (names flags : List Text) (rows : List Row)
    → list_any (λ (a : Rule). a.required && not (is_given a.id rows)) (rules names flags) ≡ false
none_required [] [] rows = refl
none_required [] (flag ∷ flags) rows = none_required [] flags rows
none_required (name ∷ names) flags rows = none_required names flags rows
