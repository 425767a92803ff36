-- What clap's rows show of what was said, and how one more option, flag or word changes both.
use Rattle.std.proofs.Common.{◌≡◌, ◌∙◌, Bool, true, false, not, cond, refl, sym, ap, List, [], ◌∷◌, ◌++◌, map, codes}
use Rattle.std.{proofs.Common.{Option, Some, None, is_some, append-nil, append_assoc}, specs.Prelude.{find, option_map, option_and_then, slice_get, unwrap_or}}
use Rattle.std.{specs.{List.{list_any}, Str.{bytes_eq}}, proofs.lemmas.{List.{map-append, Folds.{list_any-append}}, Bool.{and_parts, or_parts, or_right, and_right}}}
use Rattle.clap.specs.{Walk.{Row, all_of, first_of, has_row, used, with_values, without}, declared.builder.value_parser.Reading.{Reading}}
use Rattle.clap.specs.declared.parser.matches.ValueSource.{ValueSource, TheVariants.{CommandLine}}
use Rattle.command_words.specs.{Numbers.{is_distinct}, Assigned.{Text, Said, each_once, if_any, is_among, is_once, names_said, nothing_said, value_said}}
use Rattle.command_words.specs.{Assigned.{with_flag, with_option, said_with_word}, Asking.{AreNamesApart, port_id}}
use Rattle.command_words.proofs.Lookups.{flag_rule, option_rule, port_rule, same_text, or_false}

-- ---- rows

change_id : (a b q : Text) → a ≡ b → bytes_eq a q ≡ bytes_eq b q
change_id a b q e = ap (λ (t : Text). bytes_eq t q) e

abbrev after_values : Text → Text → List Text → List Row → Option (List Text)
after_values q id vs rows = cond (bytes_eq id q) (Some (unwrap_or (all_of id rows) [] ++ vs)) (all_of q rows)

-- what an id has once an id got more values
pub all_of-with_values : (q id : Text) (how : Reading) (s : ValueSource) (vs : List Text) (rows : List Row)
    → all_of q (with_values id how s vs rows) ≡ after_values q id vs rows
all_of-with_values q id how s vs [] = go (bytes_eq id q) refl
  where
    go : (b : Bool) → bytes_eq id q ≡ b → all_of q (with_values id how s vs []) ≡ after_values q id vs []
    go true e = rw e refl
    go false e = rw e refl
all_of-with_values q id how s vs (r ∷ rows) = go (all_of-with_values q id how s vs rows) (bytes_eq r.id id) (bytes_eq r.id q) refl refl
  where
    go : all_of q (with_values id how s vs rows) ≡ after_values q id vs rows
        → (is here : Bool) → bytes_eq r.id id ≡ is → bytes_eq r.id q ≡ here
        → all_of q (with_values id how s vs (r ∷ rows)) ≡ after_values q id vs (r ∷ rows)
    go below true true e f = let same : bytes_eq id q ≡ true = sym (change_id r.id id q (same_text r.id id e)) ∙ f in rw (e, f, same) refl
    go below true false e f = let same : bytes_eq id q ≡ false = sym (change_id r.id id q (same_text r.id id e)) ∙ f in rw (e, f, same) refl
    go below false true e f = other (bytes_eq id q) refl
      where
        other : (b : Bool) → bytes_eq id q ≡ b → all_of q (with_values id how s vs (r ∷ rows)) ≡ after_values q id vs (r ∷ rows)
        other true g = let bad : true ≡ false = sym (ap (λ (t : Text). bytes_eq r.id t) (same_text id q g) ∙ f) ∙ e in cc
        other false g = rw (e, f, g) refl
    go below false false e f = rw (e, f) below

pub without_absent : (id : Text) (rows : List Row) → has_row id rows ≡ false → without id rows ≡ rows
without_absent id [] h = refl
without_absent id (r ∷ rows) h = go (without_absent id rows) (bytes_eq r.id id) refl
  where
    go : (has_row id rows ≡ false → without id rows ≡ rows) → (b : Bool) → bytes_eq r.id id ≡ b → without id (r ∷ rows) ≡ r ∷ rows
    go below true e = let bad : true ≡ false = rw e at h in cc
    go below false e = rw e (ap (λ rs. r ∷ rs) (below (rw e at h)))

pub has_row-all_of : (id : Text) (rows : List Row) → has_row id rows ≡ is_some (all_of id rows)
has_row-all_of id [] = refl
has_row-all_of id (r ∷ rows) = go (has_row-all_of id rows) (bytes_eq r.id id) refl
  where
    go : has_row id rows ≡ is_some (all_of id rows) → (b : Bool) → bytes_eq r.id id ≡ b → has_row id (r ∷ rows) ≡ is_some (all_of id (r ∷ rows))
    go below true e = rw e refl
    go below false e = rw e below

pub first_of-all_of : (id : Text) (rows : List Row) → first_of id rows ≡ option_and_then (λ vs. slice_get vs 0) (all_of id rows)
first_of-all_of id rows = go (find (λ (r : Row). bytes_eq r.id id) rows)
  where
    go : (o : Option Row) → option_and_then (λ (r : Row). slice_get r.values 0) o
        ≡ option_and_then (λ vs. slice_get vs 0) (option_map (λ (r : Row). r.values) o)
    go None = refl
    go (Some r) = refl

pub none_of : {X : Type 0} → (o : Option X) → is_some o ≡ false → o ≡ None
none_of None h = refl
none_of (Some v) h = let bad : true ≡ false = h in cc

-- what ids have once one was used that had nothing before
after_use : (id name : Text) (how : Reading) (vs : List Text) (rows : List Row) → has_row name rows ≡ false
    → all_of id (with_values name how CommandLine vs (without name rows)) ≡ cond (bytes_eq name id) (Some vs) (all_of id rows)
after_use id name how vs rows absent =
    let row : all_of name rows ≡ None = none_of (all_of name rows) (sym (has_row-all_of name rows) ∙ absent) in
    rw (without_absent name rows absent) (all_of-with_values id name how CommandLine vs rows ∙ rw row refl)

-- ---- what was said

abbrev pub joined : Said → Said → Said
joined before after = record {
  options = before.options ++ after.options;
  flags = before.flags ++ after.flags;
  words = before.words ++ after.words;
}

abbrev pub and_option : Text → Text → Said → Said
and_option name value said = record said { options = said.options ++ (name, value) ∷ [] }

abbrev pub and_flag : Text → Said → Said
and_flag name said = record said { flags = said.flags ++ name ∷ [] }

abbrev pub and_word : Text → Said → Said
and_word word said = record said { words = said.words ++ word ∷ [] }

pub joined_nothing : (said : Said) → joined said nothing_said ≡ said
joined_nothing said = rw (append-nil said.options, append-nil said.flags, append-nil said.words) refl

pub joined_option : (name value : Text) (said after : Said) → joined said (with_option name value after) ≡ joined (and_option name value said) after
joined_option name value said after =
    ap (λ (os : List (Text × Text)). record { options = os; flags = said.flags ++ after.flags; words = said.words ++ after.words })
    (sym (append_assoc said.options ((name, value) ∷ []) after.options))

pub joined_flag : (name : Text) (said after : Said) → joined said (with_flag name after) ≡ joined (and_flag name said) after
joined_flag name said after =
    ap (λ (fs : List Text). record { options = said.options ++ after.options; flags = fs; words = said.words ++ after.words })
    (sym (append_assoc said.flags (name ∷ []) after.flags))

pub joined_word : (word : Text) (said after : Said) → joined said (said_with_word word after) ≡ joined (and_word word said) after
joined_word word said after =
    ap (λ (ws : List Text). record { options = said.options ++ after.options; flags = said.flags ++ after.flags; words = ws })
    (sym (append_assoc said.words (word ∷ []) after.words))

-- ---- each option and each flag once

-- a name that stands twice
twice : (name : Text) (xs ys : List Text) → is_among xs name ≡ true → is_distinct bytes_eq (xs ++ name ∷ ys) ≡ false
twice name [] ys h = let bad : false ≡ true = h in cc
twice name (x ∷ xs) ys h = go (twice name xs ys) (bytes_eq x name) refl
  where
    go : (is_among xs name ≡ true → is_distinct bytes_eq (xs ++ name ∷ ys) ≡ false) → (b : Bool) → bytes_eq x name ≡ b
        → is_distinct bytes_eq ((x ∷ xs) ++ name ∷ ys) ≡ false
    go below true e = rw (list_any-append (bytes_eq x) xs (name ∷ ys), e, or_right (list_any (bytes_eq x) xs) true refl) refl
    go below false e = rw (below (rw e at h)) (and_right (not (list_any (bytes_eq x) (xs ++ name ∷ ys))) false refl)

-- a new name after others
once_more : (name : Text) (xs : List Text) → is_distinct bytes_eq xs ≡ true → is_among xs name ≡ false
    → is_distinct bytes_eq (xs ++ name ∷ []) ≡ true
once_more name [] d h = refl
once_more name (x ∷ xs) d h =
    let parts = and_parts (not (list_any (bytes_eq x) xs)) (is_distinct bytes_eq xs) d in
    let others = or_parts (bytes_eq x name) (is_among xs name) h in
    let rest = once_more name xs parts.1 others.1 in
    let fresh : list_any (bytes_eq x) xs ≡ false = elim (list_any (bytes_eq x) xs) as
    (λ b. not b ≡ true → b ≡ false) [ true ↦ λ (e : false ≡ true). cc | false ↦ λ e. refl ] parts.0 in
    rw (list_any-append (bytes_eq x) xs (name ∷ []), others.0, fresh, rest) refl

value_said-is_some : (name : Text) (options : List (Text × Text)) → is_some (value_said name options) ≡ is_among (map (λ o. o.0) options) name
value_said-is_some name [] = refl
value_said-is_some name (o ∷ options) = go (value_said-is_some name options) (bytes_eq o.0 name) refl
  where
    go : is_some (value_said name options) ≡ is_among (map (λ o. o.0) options) name → (b : Bool) → bytes_eq o.0 name ≡ b
        → is_some (value_said name (o ∷ options)) ≡ is_among (map (λ o. o.0) (o ∷ options)) name
    go below true e = rw e refl
    go below false e = rw e below

abbrev pub IsOnce : Said → Type 0
IsOnce said = is_once said ≡ true

pub once_nothing : IsOnce nothing_said
once_nothing = refl

pub once_option : (name value : Text) (said : Said) → IsOnce said → is_some (value_said name said.options) ≡ false → IsOnce (and_option name value said)
once_option name value said once new =
    let parts = and_parts (is_distinct bytes_eq (names_said said)) (is_distinct bytes_eq said.flags) once in
    let more = once_more name (names_said said) parts.0 (sym (value_said-is_some name said.options) ∙ new) in
    rw (map-append (λ (o : Text × Text). o.0) said.options ((name, value) ∷ []), more) parts.1

pub once_flag : (name : Text) (said : Said) → IsOnce said → is_among said.flags name ≡ false → IsOnce (and_flag name said)
once_flag name said once new =
    let parts = and_parts (is_distinct bytes_eq (names_said said)) (is_distinct bytes_eq said.flags) once in
    rw parts.0 (once_more name said.flags parts.1 new)

-- an option or a flag that was said before is said twice, whatever follows
pub IsTwice : Said → Type 0
IsTwice said = (after : Said) → is_once (joined said after) ≡ false

pub option_twice : (name value : Text) (said : Said) → is_some (value_said name said.options) ≡ true → IsTwice (and_option name value said)
unfolding IsTwice
option_twice name value said old after =
    let names = map-append (λ (o : Text × Text). o.0) (said.options ++ (name, value) ∷ []) after.options
    ∙ ap (λ ks. ks ++ names_said after) (map-append (λ (o : Text × Text). o.0) said.options ((name, value) ∷ []))
    ∙ append_assoc (names_said said) (name ∷ []) (names_said after) in
    rw (names, twice name (names_said said) (names_said after) (sym (value_said-is_some name said.options) ∙ old)) refl

pub flag_twice : (name : Text) (said : Said) → is_among said.flags name ≡ true → IsTwice (and_flag name said)
unfolding IsTwice
flag_twice name said old after =
    rw (append_assoc said.flags (name ∷ []) after.flags, twice name said.flags after.flags old)
    (and_right (is_distinct bytes_eq (names_said (joined said after))) false refl)

pub twice_none : (said : Said) (o : Option Said) → IsTwice said → each_once (option_map (joined said) o) ≡ None
unfolding IsTwice
twice_none said None h = refl
twice_none said (Some after) h = rw (h after) refl

pub once_some : (said : Said) → IsOnce said → each_once (Some said) ≡ Some said
once_some said h = rw h refl

-- ---- no two are called the same

-- what is true of none of a list isn't of one that is named there
none_such : (test : Text → Bool) (names : List Text) (name : Text) → list_any test names ≡ false → is_among names name ≡ true → test name ≡ false
none_such test [] name none among = let bad : false ≡ true = among in cc
none_such test (known ∷ names) name none among =
    go (or_parts (test known) (list_any test names) none).0
    (none_such test names name (or_parts (test known) (list_any test names) none).1) (bytes_eq known name) refl
  where
    go : test known ≡ false → (is_among names name ≡ true → test name ≡ false) → (b : Bool) → bytes_eq known name ≡ b → test name ≡ false
    go here below true e = ap test (sym (same_text known name e)) ∙ here
    go here below false e = below (rw e at among)

-- a name that is in a list and one that isn't are two
pub are_two : (names : List Text) (a b : Text) → is_among names a ≡ true → is_among names b ≡ false → bytes_eq a b ≡ false
are_two names a b here gone = go (bytes_eq a b) refl
  where
    go : (t : Bool) → bytes_eq a b ≡ t → bytes_eq a b ≡ false
    go true e = let bad : true ≡ false = sym here ∙ (ap (is_among names) (same_text a b e) ∙ gone) in cc
    go false e = e

pub are_two-back : (names : List Text) (a b : Text) → is_among names a ≡ false → is_among names b ≡ true → bytes_eq a b ≡ false
are_two-back names a b gone here = go (bytes_eq a b) refl
  where
    go : (t : Bool) → bytes_eq a b ≡ t → bytes_eq a b ≡ false
    go true e = let bad : false ≡ true = sym gone ∙ (ap (is_among names) (same_text a b e) ∙ here) in cc
    go false e = e

-- ---- the rows show what was said

abbrev or_later : Option Text → Option Text → Option Text
or_later None later = later
or_later (Some v) later = Some v

or_none : (o : Option Text) → or_later o None ≡ o
or_none None = refl
or_none (Some v) = refl

value_said-append : (name key value : Text) (options : List (Text × Text))
    → value_said name (options ++ (key, value) ∷ []) ≡ or_later (value_said name options) (cond (bytes_eq key name) (Some value) None)
value_said-append name key value [] = refl
value_said-append name key value (o ∷ options) = go (value_said-append name key value options) (bytes_eq o.0 name) refl
  where
    go : value_said name (options ++ (key, value) ∷ []) ≡ or_later (value_said name options) (cond (bytes_eq key name) (Some value) None)
        → (b : Bool) → bytes_eq o.0 name ≡ b
        → value_said name ((o ∷ options) ++ (key, value) ∷ []) ≡ or_later (value_said name (o ∷ options)) (cond (bytes_eq key name) (Some value) None)
    go below true e = rw e refl
    go below false e = rw e below

mapped_some : (o : Option Text) → is_some (option_map (λ v. v ∷ []) o) ≡ is_some o
mapped_some None = refl
mapped_some (Some v) = refl

abbrev pub of_flag : Bool → Option (List Text)
of_flag said = cond said (Some (codes "true" ∷ [])) None

flagged_some : (b : Bool) → is_some (of_flag b) ≡ b
flagged_some true = refl
flagged_some false = refl

-- of these options and flags
pub record Shows (names flags : List Text) (rows : List Row) (said : Said) : Type 0 where
  pub options : (id : Text) → is_among names id ≡ true → all_of id rows ≡ option_map (λ v. v ∷ []) (value_said id said.options)
  pub flagged : (id : Text) → is_among flags id ≡ true → all_of id rows ≡ of_flag (is_among said.flags id)
  pub words : all_of port_id rows ≡ if_any said.words

pub shows_nothing : (names flags : List Text) → Shows names flags [] nothing_said
shows_nothing names flags = record { options = λ id among. refl; flagged = λ id among. refl; words = refl }

module _ (names flags : List Text) (apart : AreNamesApart names flags) where
  pub option_row : (name : Text) (rows : List Row) (said : Said) → Shows names flags rows said → is_among names name ≡ true
      → has_row name rows ≡ is_some (value_said name said.options)
  option_row name rows said shows among =
      has_row-all_of name rows ∙ ap is_some (shows.options name among) ∙ mapped_some (value_said name said.options)

  pub flag_row : (name : Text) (rows : List Row) (said : Said) → Shows names flags rows said → is_among flags name ≡ true
      → has_row name rows ≡ is_among said.flags name
  flag_row name rows said shows among =
      has_row-all_of name rows ∙ ap is_some (shows.flagged name among) ∙ flagged_some (is_among said.flags name)

  -- a flag is no option
  pub no_option : (name : Text) → is_among flags name ≡ true → is_among names name ≡ false
  no_option name among = none_such (is_among names) flags name apart.unlike among

  -- one more option
  pub shows_option : (name value : Text) (rows : List Row) (said : Said) → Shows names flags rows said → is_among names name ≡ true
      → is_some (value_said name said.options) ≡ false
      → Shows names flags (used (option_rule name) (value ∷ []) rows) (and_option name value said)
  shows_option name value rows said shows among new = record {
    options = λ id here. values id ∙ own id here (bytes_eq name id) refl;
    flagged = λ id here. values id ∙ rw (are_two names name id among (no_option id here)) (shows.flagged id here);
    words = values port_id ∙ rw (are_two names name port_id among apart.words.0) shows.words;
  }
    where
      values : (id : Text) → all_of id (used (option_rule name) (value ∷ []) rows) ≡ cond (bytes_eq name id) (Some (value ∷ [])) (all_of id rows)
      values id = after_use id name _ (value ∷ []) rows (option_row name rows said shows among ∙ new)

      own : (id : Text) → is_among names id ≡ true → (b : Bool) → bytes_eq name id ≡ b
          → cond (bytes_eq name id) (Some (value ∷ [])) (all_of id rows) ≡ option_map (λ v. v ∷ []) (value_said id (said.options ++ (name, value) ∷ []))
      own id here true e =
          let unsaid : value_said id said.options ≡ None =
          sym (ap (λ (t : Text). value_said t said.options) (same_text name id e)) ∙ none_of (value_said name said.options) new in
          rw (value_said-append id name value said.options, e, unsaid) refl
      own id here false e = rw (value_said-append id name value said.options, e, or_none (value_said id said.options)) (shows.options id here)

  -- one more flag
  pub shows_flag : (name : Text) (rows : List Row) (said : Said) → Shows names flags rows said → is_among flags name ≡ true
      → is_among said.flags name ≡ false → Shows names flags (used (flag_rule name) [] rows) (and_flag name said)
  shows_flag name rows said shows among new = record {
    options = λ id here. values id ∙ rw (are_two-back names name id (no_option name among) here) (shows.options id here);
    flagged = λ id here. values id ∙ own id here (bytes_eq name id) refl;
    words = values port_id ∙ rw (are_two flags name port_id among apart.words.1) shows.words;
  }
    where
      values : (id : Text) → all_of id (used (flag_rule name) [] rows) ≡ cond (bytes_eq name id) (Some (codes "true" ∷ [])) (all_of id rows)
      values id = after_use id name _ (codes "true" ∷ []) rows (flag_row name rows said shows among ∙ new)

      own : (id : Text) → is_among flags id ≡ true → (b : Bool) → bytes_eq name id ≡ b
          → cond (bytes_eq name id) (Some (codes "true" ∷ [])) (all_of id rows) ≡ of_flag (is_among (said.flags ++ name ∷ []) id)
      own id here true e = rw (list_any-append (λ known. bytes_eq known id) said.flags (name ∷ []), e, or_right (is_among said.flags id) true refl) refl
      own id here false e =
          let same : is_among (said.flags ++ name ∷ []) id ≡ is_among said.flags id =
          list_any-append (λ known. bytes_eq known id) said.flags (name ∷ []) ∙ rw e (or_false (is_among said.flags id)) in
          rw (e, same) (shows.flagged id here)

  pub shows_word : (word : Text) (rows : List Row) (said : Said) → Shows names flags rows said → Shows names flags (used port_rule (word ∷ []) rows) (and_word word said)
  shows_word word rows said shows = record {
    options = λ id here. values id ∙ rw (are_two-back names port_id id apart.words.0 here) (shows.options id here);
    flagged = λ id here. values id ∙ rw (are_two-back flags port_id id apart.words.1 here) (shows.flagged id here);
    words = values port_id ∙ rw shows.words (one_more said.words);
  }
    where
      values : (id : Text) → all_of id (used port_rule (word ∷ []) rows) ≡ after_values id port_id (word ∷ []) rows
      values id = all_of-with_values id port_id _ _ (word ∷ []) rows

      one_more : (ws : List Text) → Some (unwrap_or (if_any ws) [] ++ word ∷ []) ≡ if_any (ws ++ word ∷ [])
      one_more [] = refl
      one_more (w ∷ ws) = refl
