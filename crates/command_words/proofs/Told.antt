-- What is read as a replay may be told to one; and its options are those that were said.
use Rattle.std.proofs.Common.{ℕ, ◌≡◌, ◌∙◌, true, false, refl, sym, ap, List, length, Option, Some, None, option_map, codes}
use Rattle.std.{specs.{Prelude.{IfSome, IsSome, Bool, option_and_then, is_some, if◌then◌else◌}, Borrow.{Bor}}, proofs.lemmas.Option.{option_and_then_some, same_Some}}
use Rattle.clap.specs.{Matches.{found_of, first_value, matched_of, raw_values}, declared.parser.matches.ArgMatches.{ArgMatches}}
use Rattle.command_words.specs.{Asking.{AreMatched, flag_in, port_id}, Assigned.{Text, Said, if_any, is_among, value_said}, Numbers.{ports_of}}
use Rattle.command_words.specs.{Options.{IsTextOfTurns, are_turns, behaviour_of, flag_names, option_names, options_of, stand_together, turns_of}, Areas.{pool_areas_of}}
use Rattle.command_words.specs.{Words.{IsReplay, ReplayShown, replay_of, replay_shown, told_by_words, told_with}, declared.reading.Replay.{Replay as Told}}
use Rattle.command_words.proofs.{Porting.{ports_read}, AreaRanges.{pool-makes}, Ranges.{turns_of-turns}, Ways.{logged-turns, options_of-in_range, options_of-plain, own-turns}}

its_turns : (apps : ℕ) (turns : Option (Bor Text)) → IfSome (option_map (λ text. text.now) turns) (IsTextOfTurns apps)
    → IfSome turns (λ text. IsTextOfTurns apps text.now)
its_turns apps None are = tt
its_turns apps (Some text) are = are

-- who has turns said a text of them
its_own : (apps : ℕ) (said : Option Text) (turns : Option (Bor Text)) (P : Type 0) → turns_of apps said ≡ Some (option_map (λ text. text.now) turns)
    → (is_some said ≡ true → P) → IfSome turns (λ text. P)
its_own apps said None P is own = tt
its_own apps None (Some text) P is own = let bad : None ≡ Some text.now = same_Some None (Some text.now) is in cc
its_own apps (Some word) (Some text) P is own = own refl

-- and who has them asked for a record said a text of them
its_record : (apps : ℕ) (said : Option Text) (turns : Option (Bor Text)) (P : Type 0) → turns_of apps said ≡ Some (option_map (λ text. text.now) turns)
    → (P → is_some said ≡ true) → P → IsSome turns
its_record apps said (Some text) P is asks asked = refl
its_record apps None None P is asks asked = let bad : false ≡ true = asks asked in cc
its_record apps (Some word) None P is asks asked = absurd (no_turns (are_turns apps word) is)
  where
    no_turns : (b : Bool) → (if b then Some (Some word) else None) ≡ Some None → ⊥
    no_turns true e = let bad : Some word ≡ None = same_Some _ None e in cc
    no_turns false e = cc

-- what a test lets through
let_through : {A : Type 0} (test : Bool) (o : Option A) (y : A) → (if test then o else None) ≡ Some y → (test ≡ true) × (o ≡ Some y)
let_through true o y is = (refl, is)
let_through false o y is = cc

told-replay : (value : Text → Option Text) (flag : Text → Bool) (words : List Text) (told : Told)
    → option_and_then (told_by_words value flag) (ports_of words) ≡ Some (replay_shown told)
    → IsReplay told
told-replay value flag words told is =
    option_and_then_some (told_by_words value flag) (ports_of words) (replay_shown told) is (λ ports ports_are with_ports.
    let together = let_through (stand_together value flag) _ (replay_shown told) with_ports in
    option_and_then_some (told_with value flag ports) (pool_areas_of value) (replay_shown told) together.1 (λ areas areas_are with_areas.
    option_and_then_some _ (options_of value flag) (replay_shown told) with_areas (λ options options_are with_options.
    option_and_then_some _ (turns_of (length ports) (value (codes "turns"))) (replay_shown told) with_options (λ turns turns_are whole.
    let same : record { ports = ports; areas = areas; options = options; turns = turns } ≡ replay_shown told = same_Some _ (replay_shown told) whole in
    let same_ports : ports ≡ told.ports.items = ap (λ (t : ReplayShown). t.ports) same in
    let same_areas : areas ≡ told.areas.items = ap (λ (t : ReplayShown). t.areas) same in
    let same_options : options ≡ told.options = ap (λ (t : ReplayShown). t.options) same in
    let same_turns : turns ≡ option_map (λ text. text.now) told.turns = ap (λ (t : ReplayShown). t.turns) same in
    let are_ports = ports_read words told.ports.items (ports_are ∙ ap Some same_ports) in
    let are_options = options_are ∙ ap Some same_options in
    let are_turns = ap (λ (p : List ℕ). turns_of (length p) (value (codes "turns"))) (sym same_ports) ∙ turns_are ∙ ap Some same_turns in
    record {
      ports = are_ports;
      areas = pool-makes (length told.ports.items) (are_ports.some, are_ports.most) value told.areas.items (areas_are ∙ ap Some same_areas);
      options = options_of-in_range value flag told.options together.0 are_options;
      plain = options_of-plain value flag told.options together.0 are_options;
      turns = its_turns (length told.ports.items) told.turns
          (turns_of-turns (length told.ports.items) (value (codes "turns")) _ are_turns);
      logged = its_record (length told.ports.items) (value (codes "turns")) told.turns _ are_turns
          (logged-turns value flag told.options together.0 are_options);
      own = its_own (length told.ports.items) (value (codes "turns")) told.turns _ are_turns (own-turns value flag told.options together.0 are_options);
    }))))

-- a replay that is read may be told to one
pub replay_read : (said : Option Said) (told : Told) → Some (replay_shown told) ≡ replay_of said → IsReplay told
replay_read None told is = cc
replay_read (Some said) told is = told-replay (λ name. value_said name said.options) (λ name. is_among said.flags name) said.words told (sym is)

-- what is told by the same values and flags is the same
abbrev AreSame : (Text → Option Text) → (Text → Option Text) → Type 0
AreSame f g = (name : Text) → is_among option_names name ≡ true → f name ≡ g name

abbrev AreFlagged : (Text → Bool) → (Text → Bool) → Type 0
AreFlagged a b = (name : Text) → is_among flag_names name ≡ true → a name ≡ b name

module _ (f g : Text → Option Text) (a b : Text → Bool) (same : AreSame f g) (flagged : AreFlagged a b) where
  pool-same : pool_areas_of f ≡ pool_areas_of g
  unfolding pool_areas_of
  pool-same = rw (same (codes "areas") refl, same (codes "buffers") refl, same (codes "size") refl) refl

  together-same : stand_together f a ≡ stand_together g b
  unfolding stand_together
  together-same =
      rw (
        same (codes "turns") refl,
        same (codes "hold") refl,
        same (codes "leak") refl,
        same (codes "stray") refl,
        same (codes "quit") refl,
        same (codes "forward") refl,
        flagged (codes "polled") refl,
        flagged (codes "events") refl,
      ) refl

  with-same : (ports : List ℕ) (areas : List (ℕ × ℕ)) → told_with f a ports areas ≡ told_with g b ports areas
  unfolding options_of behaviour_of
  with-same ports areas =
      rw (
        same (codes "ring") refl,
        same (codes "split") refl,
        same (codes "hold") refl,
        same (codes "leak") refl,
        same (codes "stray") refl,
        same (codes "quit") refl,
        same (codes "forward") refl,
        same (codes "turns") refl,
        flagged (codes "polled") refl,
        flagged (codes "events") refl,
      ) refl

  behind-same : (ports : List ℕ) (o : Option (List (ℕ × ℕ))) → option_and_then (told_with f a ports) o ≡ option_and_then (told_with g b ports) o
  behind-same ports None = refl
  behind-same ports (Some areas) = with-same ports areas

  pub told_of-same : (ports : List ℕ) → told_by_words f a ports ≡ told_by_words g b ports
  told_of-same ports = rw (together-same, pool-same, behind-same ports (pool_areas_of g)) refl

-- what clap answered is what the words say
pub replay-said : (m : ArgMatches) (said : Option Said) (ports : List ℕ) (told : Option ReplayShown) → AreMatched option_names flag_names (Some m) said
    → ((words : List Text) → option_map raw_values (matched_of (found_of m) port_id) ≡ if_any words → Some ports ≡ ports_of words)
    → told ≡ told_by_words (λ name. first_value (found_of m) name) (flag_in m) ports → told ≡ replay_of said
replay-said m None ports told has are is = absurd has
replay-said m (Some said) ports told has are is =
    is ∙ told_of-same (λ name. first_value (found_of m) name) (λ name. value_said name said.options) (flag_in m) (λ name. is_among said.flags name)
    has.options has.flagged ports
    ∙ ap (option_and_then (told_by_words (λ name. value_said name said.options) (λ name. is_among said.flags name))) (are said.words has.words)

-- clap answered nothing
pub nothing-said : (said : Option Said) → AreMatched option_names flag_names None said → None ≡ replay_of said
nothing-said None has = refl
nothing-said (Some said) has = absurd has

-- the words that stand for themselves are no ports
pub no-ports-said : (m : ArgMatches) (said : Option Said) → AreMatched option_names flag_names (Some m) said
    → ((words : List Text) → option_map raw_values (matched_of (found_of m) port_id) ≡ if_any words → None ≡ ports_of words)
    → None ≡ replay_of said
no-ports-said m None has none = absurd has
no-ports-said m (Some said) has none =
    ap (option_and_then (told_by_words (λ name. value_said name said.options) (λ name. is_among said.flags name))) (none said.words has.words)
