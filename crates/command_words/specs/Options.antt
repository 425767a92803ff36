-- The options and flags of `replay`: each option with its range, and what stands for it where it isn't said.
use Rattle.std.specs.Prelude.{ℕ, ◌≤◌, ◌<◌, ◌≡◌, ◌+◌, ◌⊎◌, Bool, List, [], ◌∷◌, length, nat_le, nat_lt, ◌==◌, ◌&&◌, ◌||◌, not, is_some}
use Rattle.std.specs.{Prelude.{if◌then◌else◌, Option, Some, None, option_map, option_and_then, codes, All}, List.{list_all, list_any}}
use Rattle.zr_kinds.specs.declared.{behaviour.Behaviour.{Behaviour}, options.Options.{Options}}
use Rattle.command_words.specs.{Assigned.{Text}, Numbers.{in_range, up_to, value_of}}

-- the options of `replay`, without their dashes
abbrev pub option_names : List Text
option_names =
    codes "areas" ∷ codes "buffers" ∷ codes "size" ∷ codes "ring" ∷ codes "split" ∷ codes "hold" ∷ codes "leak" ∷ codes "stray"
    ∷ codes "quit" ∷ codes "turns" ∷ codes "forward" ∷ []

-- its flags
abbrev pub flag_names : List Text
flag_names = codes "polled" ∷ codes "events" ∷ []

-- of three, one at most
abbrev pub at_most_one : Bool → Bool → Bool → Bool
at_most_one a b c = not (a && b) && not (a && c) && not (b && c)

-- what follows of a value that is there
abbrev pub given : {A B : Type 0} → Option A → (A → Option B) → Option B
given value next = option_and_then next value

-- a number in a range, or this one where none is said
abbrev pub number_or : ℕ → ℕ → ℕ → Option Text → Option ℕ
number_or default least most None = Some default
number_or default least most (Some word) = in_range least most word

-- the sizes that a buffer may have: the powers of two from 1,024 to 65,536
abbrev pub sizes : List ℕ
sizes = 1024 ∷ 2048 ∷ 4096 ∷ 8192 ∷ 16384 ∷ 32768 ∷ 65536 ∷ []

abbrev pub buffer_size_of : Option Text → Option ℕ
buffer_size_of said = given (number_or 4096 1024 65536 said) (λ size. if list_any (λ n. n == size) sizes then Some size else None)

-- any number, if one is said
abbrev pub quit_of : Option Text → Option (Option ℕ)
quit_of None = Some None
quit_of (Some word) = option_map Some (value_of word)

-- a number of at most 63, if one is said
abbrev pub delay_of : Option Text → Option (Option ℕ)
delay_of None = Some None
delay_of (Some word) = option_map Some (up_to 63 word)

-- how each application behaves, by the value of each option
unfoldable pub behaviour_of : (Text → Option Text) → Option Behaviour
behaviour_of value =
    given (number_or 0 0 4096 (value (codes "hold"))) (λ hold.
    given (number_or 0 0 4096 (value (codes "leak"))) (λ leak.
    given (number_or 0 0 16 (value (codes "stray"))) (λ stray.
    given (quit_of (value (codes "quit"))) (λ quit.
    Some (record { hold = hold; leak = leak; stray = stray; quit = quit })))))

-- the numbers of a replay, but for those of its areas, by the value of each option and whether each flag was said
unfoldable pub options_of : (Text → Option Text) → (Text → Bool) → Option Options
options_of value flag =
    given (number_or 64 1 256 (value (codes "ring"))) (λ ring.
    given (number_or 0 0 256 (value (codes "split"))) (λ split.
    given (behaviour_of value) (λ how.
    given (delay_of (value (codes "forward"))) (λ forward.
    Some (record {
      ring = ring;
      split = split;
      how = how;
      polled = flag (codes "polled");
      forward = forward;
      events = flag (codes "events");
    })))))

-- the options that say how an application takes turns of its own
abbrev pub own_names : List Text
own_names = codes "turns" ∷ codes "hold" ∷ codes "leak" ∷ codes "stray" ∷ codes "quit" ∷ []

-- Applications take turns of their own, or are polled, or forward: it is said of one of these at most, by whichever values. The record of
-- a run is asked for only with a text of turns.
unfoldable pub stand_together : (Text → Option Text) → (Text → Bool) → Bool
stand_together value flag =
    at_most_one (list_any (λ name. is_some (value name)) own_names) (flag (codes "polled")) (is_some (value (codes "forward")))
    && (not (flag (codes "events")) || is_some (value (codes "turns")))

-- `n`, or the digit of one of so many applications
abbrev pub is_turn : ℕ → ℕ → Bool
is_turn apps letter = (letter == 110) || (nat_le 48 letter && nat_lt letter (48 + apps))

abbrev pub are_turns : ℕ → Text → Bool
are_turns apps text = nat_le 1 (length text) && nat_le (length text) 4096 && list_all (is_turn apps) text

-- a text of turns of so many applications, if one is said
abbrev pub turns_of : ℕ → Option Text → Option (Option Text)
turns_of apps None = Some None
turns_of apps (Some text) = if are_turns apps text then Some (Some text) else None

-- ---- what these may be

-- 1 to 4,096 characters, each `n` or the digit of one of so many applications
pub record IsTextOfTurns (apps : ℕ) (text : Text) : Type 0 where
  pub some : 1 ≤ length text
  pub most : length text ≤ 4096
  pub letters : All (λ letter. (letter ≡ 110) ⊎ ((48 ≤ letter) × (letter < 48 + apps))) text
