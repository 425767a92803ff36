-- clap's walk over the words gives what the words say: it refuses them exactly where they say nothing, and else its rows
-- show what they say.
use Rattle.std.proofs.Common.{◌≡◌, ◌∙◌, ◌⊎◌, ◌<◌, ℕ, Bool, true, false, ◌||◌, cond, refl, sym, ap, subst, arith, inl, inr, List, []}
use Rattle.std.{proofs.Common.{◌∷◌, length, Option, Some, None, is_some, zero, suc}, specs.{Prelude.{fold, option_map, slice_get}, Str.{chars, IsUtf8}}}
use Rattle.std.proofs.lemmas.Bool.{and_right}
use Rattle.clap.specs.Walk.{Held, Row, Walk, Waiting, subcommand_met, has_row, idle, option, positional, value, settled_rows, used, walked, word_met, is_pending}
use Rattle.clap.specs.{Kinds.{Kinds, or_else}, declared.error.kind.ErrorKind.{ErrorKind}, Faults.{settle_fault, turn_fault, walk_fault, word_fault, flags_fault}}
use Rattle.command_words.specs.Assigned.{Text, Look, closing, named, dashed, plain, Said, assigned, each_once, is_among, look_of_word, nothing_said, said_by}
use Rattle.command_words.specs.{Assigned.{value_said, with_flag, with_option, said_with_word}, Asking.{AreNamesApart, port_id}}
use Rattle.command_words.proofs.Lookups.{by_id, by_index, by_long, by_port_id, by_short, text_is_itself, flag_rule, option_rule, port_rule, rules, shape_for}
use Rattle.command_words.proofs.Looks.{Dashes, IsSeen, seen}
use Rattle.command_words.proofs.Matching.{IsOnce, IsTwice, Shows, and_flag, and_option, and_word, flag_row, flag_twice, joined, joined_flag}
use Rattle.command_words.proofs.Matching.{joined_nothing, joined_option, joined_word, once_flag, once_option, once_some, option_row, option_twice}
use Rattle.command_words.proofs.Matching.{shows_flag, shows_option, shows_word, twice_none}

-- ---- faults

pub IsRefused : Kinds → Type 0
IsRefused kinds = kinds ≡ [] → ⊥

first_refused : (a b : Kinds) → IsRefused a → IsRefused (or_else a b)
unfolding IsRefused
first_refused [] b h = absurd (h refl)
first_refused (k ∷ ks) b h = h

some_refused : (k : ErrorKind) (ks : Kinds) → IsRefused (k ∷ ks)
unfolding IsRefused
some_refused k ks = λ e. cc

pub nothing_refused : (kinds : Kinds) → IsRefused kinds → kinds ≡ [] → ⊥
unfolding IsRefused
nothing_refused kinds refused none = refused none

-- how a run of the walk comes out: refused where the words say nothing, and else with rows that show what they say
abbrev pub Ends : List Text → List Text → Kinds → List Row → Option Said → Type 0
Ends names flags faults rows None = IsRefused faults
Ends names flags faults rows (Some said) = (faults ≡ []) × Shows names flags rows said

abbrev pub AllText : List Text → Type 0
AllText [] = Unit {0}
AllText (word ∷ words) = IsUtf8 word × AllText words

module _ (names flags : List Text) (apart : AreNamesApart names flags) where
  abbrev settle : Held → Kinds
  settle h = settle_fault (rules names flags) false h

  abbrev rows_of : Held → List Row
  rows_of h = settled_rows (rules names flags) h.pending h.rows

  abbrev end_of : Walk → List Text → Held
  end_of w words = (fold (walked (rules names flags) []) w words).held

  abbrev Runs : Walk → List Text → Option Said → Type 0
  Runs w words said = Ends names flags (or_else (walk_fault (shape_for names flags) [] w words) (settle (end_of w words))) (rows_of (end_of w words)) said

  abbrev turn : Walk → Text → Kinds
  turn w word = turn_fault (shape_for names flags) [] w word

  step : (w w' : Walk) (word : Text) (words : List Text) (said : Option Said) → turn w word ≡ [] → walked (rules names flags) [] w word ≡ w'
      → Runs w' words said → Runs w (word ∷ words) said
  unfolding walk_fault
  step w w' word words said passed moved h =
      let after : Runs (walked (rules names flags) [] w word) words said = subst (λ (v : Walk). Runs v words said) (sym moved) h in
      rw passed after

  refuse : (w : Walk) (word : Text) (words : List Text) (said : Option Said) → IsRefused (turn w word) → said ≡ None → Runs w (word ∷ words) said
  unfolding walk_fault
  refuse w word words said refused none = rw none (first_refused _ _ (first_refused _ _ refused))

  abbrev at : Held → Waiting → Bool → Walk
  at h waiting is_trailing = record { held = h; waiting = waiting; position = 1; is_trailing = is_trailing; stopped = None }

  -- what is held settles, and then shows what was said so far; or it can't settle, since an option was said twice
  pub record Settles (h : Held) (said : Said) : Type 0 where
    pub passed : settle h ≡ []
    pub shows : Shows names flags (rows_of h) said
    pub once : IsOnce said

  pub record Clashes (h : Held) (said : Said) : Type 0 where
    pub refused : IsRefused (settle h)
    pub twice : IsTwice said

  abbrev Holds : Held → Said → Type 0
  Holds h said = Settles h said ⊎ Clashes h said

  -- ---- a word that stands for itself

  abbrev with_port : Held → Text → Held
  with_port h word = record { rows = rows_of h; pending = Some (port_id, word ∷ []); skip = h.skip }

  port_turn : (h : Held) (waiting : Waiting) (is_trailing : Bool) (word : Text) → word_fault (shape_for names flags) [] is_trailing waiting word h ≡ []
      → word_met (rules names flags) [] is_trailing waiting 1 word h ≡ (h, value) → turn (at h waiting is_trailing) word ≡ settle h
  port_turn h waiting is_trailing word passed met = rw (passed, met, by_index names flags, and_right (is_pending port_rule h.pending) false refl) refl

  port_moved : (h : Held) (waiting : Waiting) (is_trailing : Bool) (word : Text) → word_met (rules names flags) [] is_trailing waiting 1 word h ≡ (h, value)
      → walked (rules names flags) [] (at h waiting is_trailing) word ≡ at (with_port h word) positional (is_trailing || false)
  unfolding walked
  port_moved h waiting is_trailing word met = rw (met, by_index names flags, and_right (is_pending port_rule h.pending) false refl) refl

  port_holds : (h : Held) (word : Text) (said : Said) → Settles h said → Settles (with_port h word) (and_word word said)
  port_holds h word said s = record {
    passed = rw (by_port_id names flags apart.words.0 apart.words.1) refl;
    shows = rw (by_port_id names flags apart.words.0 apart.words.1) (shows_word names flags apart word (rows_of h) said s.shows);
    once = s.once;
  }

  trailing_end : (h : Held) (waiting : Waiting) (is_trailing : Bool) (said : Said) → Holds h said
      → Runs (at h waiting is_trailing) [] (each_once (Some (joined said nothing_said)))
  unfolding walk_fault
  trailing_end h waiting is_trailing said (inl s) =
      subst (λ (all : Said). Ends names flags (settle h) (rows_of h) (each_once (Some all))) (sym (joined_nothing said)) (rw (once_some said s.once) (s.passed, s.shows))
  trailing_end h waiting is_trailing said (inr c) = rw (twice_none said (Some nothing_said) c.twice) c.refused

  after_closing : (words : List Text) (h : Held) (waiting : Waiting) (said : Said) → Holds h said
      → Runs (at h waiting true) words (each_once (Some (joined said (record { options = []; flags = []; words = words }))))
  after_closing [] h waiting said holds = trailing_end h waiting true said holds
  after_closing (word ∷ words) h waiting said (inl s) =
      step _ _ word words _ (port_turn h waiting true word refl refl ∙ s.passed) (port_moved h waiting true word refl)
      (subst (λ (all : Said). Runs (at (with_port h word) positional true) words (each_once (Some all)))
      (sym (joined_word word said (record { options = []; flags = []; words = words })))
      (after_closing words (with_port h word) positional (and_word word said) (inl (port_holds h word said s))))
  after_closing (word ∷ words) h waiting said (inr c) =
      refuse _ word words _ (subst IsRefused (sym (port_turn h waiting true word refl refl)) c.refused)
      (twice_none said (Some (record { options = []; flags = []; words = word ∷ words })) c.twice)

  -- after `--` nothing mends a fault
  trailing_refused : (words : List Text) (h : Held) (waiting : Waiting) → IsRefused (settle h) → Runs (at h waiting true) words None
  unfolding walk_fault
  trailing_refused [] h waiting refused = refused
  trailing_refused (word ∷ words) h waiting refused = refuse (at h waiting true) word words None
      (subst IsRefused (sym (port_turn h waiting true word refl refl)) refused) refl

  -- ---- the words before `--`

  abbrev calm : Bool → Waiting
  calm is_positional = cond is_positional positional idle

  abbrev Free : List Text → Type 0
  Free words = (h : Held) (is_positional : Bool) (said : Said) → h.skip ≡ 0 → Holds h said
      → Runs (at h (calm is_positional) false) words (each_once (option_map (joined said) (assigned names flags None words)))

  abbrev open_option : List Row → ℕ → Text → Held
  open_option rows skip name = record { rows = rows; pending = Some (name, []); skip = skip }

  abbrev Awaits : List Text → Type 0
  Awaits words = (rows : List Row) (skip : ℕ) (name : Text) (said : Said) → skip ≡ 0 → is_among names name ≡ true → Shows names flags rows said → IsOnce said
      → Runs (at (open_option rows skip name) (option name) false) words (each_once (option_map (joined said) (assigned names flags (Some name) words)))

  regroup_option : (name text : Text) (said : Said) (o : Option Said)
      → option_map (joined said) (option_map (with_option name text) o) ≡ option_map (joined (and_option name text said)) o
  regroup_option name text said None = refl
  regroup_option name text said (Some after) = ap Some (joined_option name text said after)

  regroup_flag : (name : Text) (said : Said) (o : Option Said)
      → option_map (joined said) (option_map (with_flag name) o) ≡ option_map (joined (and_flag name said)) o
  regroup_flag name said None = refl
  regroup_flag name said (Some after) = ap Some (joined_flag name said after)

  regroup_word : (word : Text) (said : Said) (o : Option Said)
      → option_map (joined said) (option_map (said_with_word word) o) ≡ option_map (joined (and_word word said)) o
  regroup_word word said None = refl
  regroup_word word said (Some after) = ap Some (joined_word word said after)

  -- an option's own value, as it is held
  abbrev with_value : List Row → ℕ → Text → Text → Held
  with_value rows skip name text = record { rows = rows; pending = Some (name, text ∷ []); skip = skip }

  option_holds : (rows : List Row) (skip : ℕ) (name text : Text) (said : Said) → is_among names name ≡ true → Shows names flags rows said → IsOnce said
      → Holds (with_value rows skip name text) (and_option name text said)
  option_holds rows skip name text said among shows once = go (is_some (value_said name said.options)) refl
    where
      row : has_row name rows ≡ is_some (value_said name said.options)
      row = option_row names flags apart name rows said shows among

      go : (b : Bool) → is_some (value_said name said.options) ≡ b → Holds (with_value rows skip name text) (and_option name text said)
      go false new =
          let absent = row ∙ new in
          inl (record {
            passed = rw (by_id names flags name among, absent) refl;
            shows = rw (by_id names flags name among) (shows_option names flags apart name text rows said shows among new);
            once = once_option name text said once new;
          })
      go true old =
          let present = row ∙ old in
          inr (record {
            refused = rw (by_id names flags name among, present) (some_refused _ _);
            twice = option_twice name text said old;
          })

  -- a word of short names
  flags_refused : (k : ℕ) (letters : Text) (skip : ℕ) (h : Held) (c : ℕ) → 0 < k → skip ≡ 0 → slice_get (chars letters) 0 ≡ Some c
      → IsRefused (flags_fault (rules names flags) false k letters skip h)
  unfolding flags_fault
  flags_refused zero letters skip h c some none first = absurd (omega arith)
  flags_refused (suc k) letters skip h c some none first = rw (none, first, by_short names flags c) (some_refused _ _)

  dashed_refused : (h : Held) (waiting : Waiting) (word : Text) → subcommand_met [] waiting word ≡ None → h.skip ≡ 0 → IsUtf8 word
      → IsSeen dashed word → IsRefused (turn (at h waiting false) word)
  dashed_refused h waiting word alone none text is =
      let letters = is.2 in
      let c = letters.first text in
      rw (alone, is.0, is.1, letters.short) (first_refused _ _
      (flags_refused (length letters.flags) letters.flags h.skip (record h { skip = 0 }) c.0 letters.some none c.1))

  -- no subcommand is met
  calm_alone : (is_positional : Bool) (word : Text) → subcommand_met [] (calm is_positional) word ≡ None
  calm_alone true word = refl
  calm_alone false word = refl

  -- ---- a word where no option waits

  closing_turn : (h : Held) (waiting : Waiting) → subcommand_met [] waiting Dashes ≡ None → turn (at h waiting false) Dashes ≡ []
  closing_turn h waiting alone = rw alone refl

  closing_moved : (h : Held) (waiting : Waiting) → subcommand_met [] waiting Dashes ≡ None
      → walked (rules names flags) [] (at h waiting false) Dashes ≡ at h waiting true
  unfolding walked
  closing_moved h waiting alone = rw alone refl

  -- an option or a flag that none knows
  unknown_refused : (h : Held) (waiting : Waiting) (word name : Text) (v : Option Text) → subcommand_met [] waiting word ≡ None
      → IsSeen (named name v) word → is_among names name ≡ false → is_among flags name ≡ false
      → IsRefused (turn (at h waiting false) word)
  unknown_refused h waiting word name v alone is among unflagged =
      rw (alone, is.0, is.1, by_long names flags name, among, unflagged) (some_refused _ _)

  -- a value of what is no option, a flag or not
  valued_refused : (h : Held) (waiting : Waiting) (word name text : Text) → subcommand_met [] waiting word ≡ None
      → IsSeen (named name (Some text)) word → is_among names name ≡ false
      → IsRefused (turn (at h waiting false) word)
  valued_refused h waiting word name text alone is among = go (is_among flags name) refl
    where
      go : (b : Bool) → is_among flags name ≡ b → IsRefused (turn (at h waiting false) word)
      go true flag = rw (alone, is.0, is.1, by_long names flags name, among, flag) (some_refused _ _)
      go false flag = unknown_refused h waiting word name (Some text) alone is among flag

  -- an option or a flag where what is held can't settle
  clash_refused : (h : Held) (waiting : Waiting) (word name : Text) (v : Option Text) → subcommand_met [] waiting word ≡ None → IsSeen (named name v) word
      → IsRefused (settle h) → IsRefused (turn (at h waiting false) word)
  clash_refused h waiting word name None alone is refused = go (is_among names name) (is_among flags name) refl refl
    where
      go : (a b : Bool) → is_among names name ≡ a → is_among flags name ≡ b → IsRefused (turn (at h waiting false) word)
      go true b among flag = rw (alone, is.0, is.1, by_long names flags name, among) (first_refused _ _ refused)
      go false true among flag =
          rw (alone, is.0, is.1, by_long names flags name, among, flag) (first_refused _ _ (first_refused _ _ refused))
      go false false among flag = unknown_refused h waiting word name None alone is among flag
  clash_refused h waiting word name (Some text) alone is refused = go (is_among names name) refl
    where
      go : (b : Bool) → is_among names name ≡ b → IsRefused (turn (at h waiting false) word)
      go true among = rw (alone, is.0, is.1, by_long names flags name, among) (first_refused _ _ (first_refused _ _ refused))
      go false among = valued_refused h waiting word name text alone is among

  abbrev with_attached : Held → Text → Text → Held
  with_attached h name text = record { rows = used (option_rule name) (text ∷ []) (rows_of h); pending = None; skip = h.skip }

  attached_moved : (h : Held) (waiting : Waiting) (word name text : Text) → subcommand_met [] waiting word ≡ None → IsSeen (named name (Some text)) word
      → is_among names name ≡ true
      → walked (rules names flags) [] (at h waiting false) word ≡ at (with_attached h name text) idle false
  unfolding walked
  attached_moved h waiting word name text alone is among = rw (alone, is.0, is.1, by_long names flags name, among) refl

  opened_moved : (h : Held) (waiting : Waiting) (word name : Text) → subcommand_met [] waiting word ≡ None → IsSeen (named name None) word
      → is_among names name ≡ true
      → walked (rules names flags) [] (at h waiting false) word ≡ at (open_option (rows_of h) h.skip name) (option name) false
  unfolding walked
  opened_moved h waiting word name alone is among = rw (alone, is.0, is.1, by_long names flags name, among) refl

  attached : (h : Held) (waiting : Waiting) (word name text : Text) (words : List Text) (said : Said) → subcommand_met [] waiting word ≡ None
      → IsSeen (named name (Some text)) word
      → is_among names name ≡ true → h.skip ≡ 0 → Settles h said → Free words
      → Runs (at h waiting false) (word ∷ words) (each_once (option_map (joined said) (option_map (with_option name text) (assigned names flags None words))))
  attached h waiting word name text words said alone is among none s free = go (is_some (value_said name said.options)) refl
    where
      row : has_row name (rows_of h) ≡ is_some (value_said name said.options)
      row = option_row names flags apart name (rows_of h) said s.shows among

      go : (b : Bool) → is_some (value_said name said.options) ≡ b
          → Runs (at h waiting false) (word ∷ words) (each_once (option_map (joined said) (option_map (with_option name text) (assigned names flags None words))))
      go false new =
          let absent = row ∙ new in
          let passed : turn (at h waiting false) word ≡ [] = rw (alone, is.0, is.1, by_long names flags name, among, s.passed, absent) refl in
          let holds : Holds (with_attached h name text) (and_option name text said) = inl (record {
            passed = refl;
            shows = shows_option names flags apart name text (rows_of h) said s.shows among new;
            once = once_option name text said s.once new;
          }) in
          step (at h waiting false) _ word words _ passed (attached_moved h waiting word name text alone is among)
          (rw (regroup_option name text said (assigned names flags None words)) (free (with_attached h name text) false (and_option name text said) none holds))
      go true old =
          let present = row ∙ old in
          let refused : IsRefused (turn (at h waiting false) word) = rw (alone, is.0, is.1, by_long names flags name, among, s.passed, present) (some_refused _ _) in
          refuse (at h waiting false) word words _ refused
          (ap each_once (regroup_option name text said (assigned names flags None words))
          ∙ twice_none (and_option name text said) (assigned names flags None words) (option_twice name text said old))

  -- a flag
  abbrev with_flagged : Held → Text → Held
  with_flagged h name = record { rows = used (flag_rule name) [] (rows_of h); pending = None; skip = h.skip }

  flagged_moved : (h : Held) (waiting : Waiting) (word name : Text) → subcommand_met [] waiting word ≡ None → IsSeen (named name None) word
      → is_among names name ≡ false → is_among flags name ≡ true
      → walked (rules names flags) [] (at h waiting false) word ≡ at (with_flagged h name) idle false
  unfolding walked
  flagged_moved h waiting word name alone is among flag = rw (alone, is.0, is.1, by_long names flags name, among, flag) refl

  flagged : (h : Held) (waiting : Waiting) (word name : Text) (words : List Text) (said : Said) → subcommand_met [] waiting word ≡ None
      → IsSeen (named name None) word
      → is_among names name ≡ false → is_among flags name ≡ true → h.skip ≡ 0 → Settles h said → Free words
      → Runs (at h waiting false) (word ∷ words) (each_once (option_map (joined said) (option_map (with_flag name) (assigned names flags None words))))
  flagged h waiting word name words said alone is among flag none s free = go (is_among said.flags name) refl
    where
      row : has_row name (rows_of h) ≡ is_among said.flags name
      row = flag_row names flags apart name (rows_of h) said s.shows flag

      go : (b : Bool) → is_among said.flags name ≡ b
          → Runs (at h waiting false) (word ∷ words) (each_once (option_map (joined said) (option_map (with_flag name) (assigned names flags None words))))
      go false new =
          let absent = row ∙ new in
          let passed : turn (at h waiting false) word ≡ [] =
          rw (alone, is.0, is.1, by_long names flags name, among, flag, s.passed, absent) refl in
          let holds : Holds (with_flagged h name) (and_flag name said) = inl (record {
            passed = refl;
            shows = shows_flag names flags apart name (rows_of h) said s.shows flag new;
            once = once_flag name said s.once new;
          }) in
          step (at h waiting false) _ word words _ passed (flagged_moved h waiting word name alone is among flag)
          (rw (regroup_flag name said (assigned names flags None words)) (free (with_flagged h name) false (and_flag name said) none holds))
      go true old =
          let present = row ∙ old in
          let refused : IsRefused (turn (at h waiting false) word) =
          rw (alone, is.0, is.1, by_long names flags name, among, flag, s.passed, present) (some_refused _ _) in
          refuse (at h waiting false) word words _ refused
          (ap each_once (regroup_flag name said (assigned names flags None words))
          ∙ twice_none (and_flag name said) (assigned names flags None words) (flag_twice name said old))

  plain_turn : (h : Held) (is_positional : Bool) (word : Text) → IsSeen plain word
      → word_met (rules names flags) [] false (calm is_positional) 1 word h ≡ (h, value)
  plain_turn h true word is = rw (is.0, is.1, is.2) refl
  plain_turn h false word is = rw (is.0, is.1, is.2) refl

  plain_passed : (h : Held) (waiting : Waiting) (word : Text) → subcommand_met [] waiting word ≡ None → IsSeen plain word
      → word_fault (shape_for names flags) [] false waiting word h ≡ []
  plain_passed h waiting word alone is = rw (alone, is.0, is.1, is.2) refl

  abbrev Says : Option Text → Look → Text → List Text → Said → Option Said
  Says waits look word words said = each_once (option_map (joined said) (said_by names flags waits look word words (λ w. assigned names flags w words)))

  -- behind a name that stood twice an option or a flag says nothing
  named_none : (name : Text) (v : Option Text) (word : Text) (words : List Text) (said : Said) → IsTwice said
      → Says None (named name v) word words said ≡ None
  named_none name v word words said twice = twice_none said _ twice

  free_step : (look : Look) (word : Text) (words : List Text) → IsSeen look word → IsUtf8 word → Free words → Awaits words
      → (h : Held) (p : Bool) (said : Said) → h.skip ≡ 0 → Holds h said
      → Runs (at h (calm p) false) (word ∷ words) (Says None look word words said)
  free_step closing word words is text free awaits h p said none holds =
      subst (λ (t : Text). Runs (at h (calm p) false) (t ∷ words) (each_once (Some (joined said (record { options = []; flags = []; words = words }))))) (sym is)
      (step (at h (calm p) false) _ Dashes words _ (closing_turn h (calm p) (calm_alone p Dashes)) (closing_moved h (calm p) (calm_alone p Dashes))
      (after_closing words h (calm p) said holds))
  free_step (named name v) word words is text free awaits h p said none (inr c) =
      refuse (at h (calm p) false) word words _ (clash_refused h (calm p) word name v (calm_alone p word) is c.refused)
      (named_none name v word words said c.twice)
  free_step (named name (Some v)) word words is text free awaits h p said none (inl s) = go (is_among names name) refl
    where
      go : (b : Bool) → is_among names name ≡ b → Runs (at h (calm p) false) (word ∷ words) (Says None (named name (Some v)) word words said)
      go false among = refuse (at h (calm p) false) word words _ (valued_refused h (calm p) word name v (calm_alone p word) is among)
          (rw among refl)
      go true among = rw among (attached h (calm p) word name v words said (calm_alone p word) is among none s free)
  free_step (named name None) word words is text free awaits h p said none (inl s) = go (is_among names name) (is_among flags name) refl refl
    where
      go : (a b : Bool) → is_among names name ≡ a → is_among flags name ≡ b
          → Runs (at h (calm p) false) (word ∷ words) (Says None (named name None) word words said)
      go true b among flag =
          let alone = calm_alone p word in
          let passed : turn (at h (calm p) false) word ≡ [] = rw (alone, is.0, is.1, by_long names flags name, among, s.passed) refl in
          rw among (step (at h (calm p) false) _ word words _ passed (opened_moved h (calm p) word name alone is among)
          (awaits (rows_of h) h.skip name said none among s.shows s.once))
      go false true among flag = rw (among, flag) (flagged h (calm p) word name words said (calm_alone p word) is among flag none s free)
      go false false among flag =
          refuse (at h (calm p) false) word words _ (unknown_refused h (calm p) word name None (calm_alone p word) is among flag)
          (rw (among, flag) refl)
  free_step dashed word words is text free awaits h p said none holds =
      refuse (at h (calm p) false) word words _ (dashed_refused h (calm p) word (calm_alone p word) none text is) refl
  free_step plain word words is text free awaits h p said none (inl s) =
      let met = plain_turn h p word is in
      step (at h (calm p) false) _ word words _ (port_turn h (calm p) false word (plain_passed h (calm p) word (calm_alone p word) is) met ∙ s.passed)
      (port_moved h (calm p) false word met)
      (rw (regroup_word word said (assigned names flags None words)) (free (with_port h word) true (and_word word said) none (inl (port_holds h word said s))))
  free_step plain word words is text free awaits h p said none (inr c) =
      let met = plain_turn h p word is in
      refuse (at h (calm p) false) word words _ (subst IsRefused
      (sym (port_turn h (calm p) false word (plain_passed h (calm p) word (calm_alone p word) is) met)) c.refused)
      (twice_none said _ c.twice)

  -- ---- a word where an option waits for its value

  open_refused : (rows : List Row) (skip : ℕ) (name : Text) → is_among names name ≡ true → IsRefused (settle (open_option rows skip name))
  open_refused rows skip name among = rw (by_id names flags name among) (some_refused _ _)

  value_turn : (rows : List Row) (skip : ℕ) (name word : Text) → is_among names name ≡ true → IsSeen plain word
      → turn (at (open_option rows skip name) (option name) false) word ≡ []
  value_turn rows skip name word among is = rw (is.0, is.1, is.2) refl

  value_moved : (rows : List Row) (skip : ℕ) (name word : Text) → is_among names name ≡ true → IsSeen plain word
      → walked (rules names flags) [] (at (open_option rows skip name) (option name) false) word ≡ at (with_value rows skip name word) idle false
  unfolding walked
  value_moved rows skip name word among is = rw (is.0, is.1, is.2, by_id names flags name among, text_is_itself name) refl

  awaits_step : (look : Look) (word : Text) (words : List Text) → IsSeen look word → IsUtf8 word → Free words
      → (rows : List Row) (skip : ℕ) (name : Text) (said : Said) → skip ≡ 0
      → is_among names name ≡ true → Shows names flags rows said → IsOnce said
      → Runs (at (open_option rows skip name) (option name) false) (word ∷ words) (Says (Some name) look word words said)
  awaits_step closing word words is text free rows skip name said none among shows once =
      let h = open_option rows skip name in
      subst (λ (t : Text). Runs (at h (option name) false) (t ∷ words) None) (sym is)
      (step (at h (option name) false) _ Dashes words None (closing_turn h (option name) refl) (closing_moved h (option name) refl)
      (trailing_refused words h (option name) (open_refused rows skip name among)))
  awaits_step (named other_name v) word words is text free rows skip name said none among shows once =
      refuse (at (open_option rows skip name) (option name) false) word words None
      (clash_refused (open_option rows skip name) (option name) word other_name v refl is (open_refused rows skip name among)) refl
  awaits_step dashed word words is text free rows skip name said none among shows once =
      refuse (at (open_option rows skip name) (option name) false) word words None
      (dashed_refused (open_option rows skip name) (option name) word refl none text is) refl
  awaits_step plain word words is text free rows skip name said none among shows once =
      step (at (open_option rows skip name) (option name) false) _ word words _ (value_turn rows skip name word among is)
      (value_moved rows skip name word among is)
      (rw (regroup_option name word said (assigned names flags None words))
      (free (with_value rows skip name word) false (and_option name word said) none (option_holds rows skip name word said among shows once)))

  -- ---- all words

  pub both : (words : List Text) → AllText words → Free words × Awaits words
  unfolding assigned walk_fault
  both [] text = (
    (λ h p said none holds. trailing_end h (calm p) false said holds),
    (λ rows skip name said none among shows once. open_refused rows skip name among),
  )
  both (word ∷ words) text =
      let after = both words text.1 in (
        (λ h p said none holds. free_step (look_of_word word) word words (seen word) text.0 after.0 after.1 h p said none holds),
        (λ rows skip name said none among shows once. awaits_step (look_of_word word) word words
            (seen word) text.0 after.0 rows skip name said none among shows once),
      )
