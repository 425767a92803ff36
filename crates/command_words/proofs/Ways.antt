-- Applications go by one way: what is said of turns of their own, of polling and of forwarding.
use Rattle.std.proofs.Common.{ℕ, ◌≡◌, ◌∙◌, ◌≤◌, ◌||◌, not, Bool, true, false, refl, sym, subst, arith, codes, Option, Some, None, is_some, option_map}
use Rattle.std.{specs.{Prelude.{IfSome}, List.{list_any}}, proofs.lemmas.{Option.{option_and_then_some, same_Some}, Bool.{and_parts, or_parts}}}
use Rattle.zr_kinds.specs.{Options.{AreInRange, BehavesPlainly, GoesByTurns}, declared.options.Options.{Options}}
use Rattle.command_words.specs.{Assigned.{Text}, Numbers.{up_to, value_of}}
use Rattle.command_words.specs.Options.{at_most_one, behaviour_of, delay_of, number_or, options_of, own_names, stand_together}
use Rattle.command_words.proofs.{Matching.{none_of}, Ranges.{AreKept, behaviour_of-kept, number_or-within, read-within}}

record IsOneAtMost (a b c : Bool) : Type 0 where
  pub first : a ≡ true → (b ≡ false) × (c ≡ false)
  pub second : b ≡ true → c ≡ false
  pub others : (b || c) ≡ true → a ≡ false

one_at_most : (a b c : Bool) → at_most_one a b c ≡ true → IsOneAtMost a b c
one_at_most true true c h = let bad : false ≡ true = h in cc
one_at_most true false true h = let bad : false ≡ true = h in cc
one_at_most true false false h = record { first = λ e. (refl, refl); second = λ e. refl; others = λ (e : false ≡ true). cc }
one_at_most false true true h = let bad : false ≡ true = h in cc
one_at_most false true false h = record { first = λ (e : false ≡ true). cc; second = λ e. refl; others = λ e. refl }
one_at_most false false c h = record { first = λ (e : false ≡ true). cc; second = λ (e : false ≡ true). cc; others = λ e. refl }

-- ---- what the options are made of

pub record HasParts (value : Text → Option Text) (flag : Text → Bool) (options : Options) : Type 0 where
  pub ring : number_or 64 1 256 (value (codes "ring")) ≡ Some options.ring
  pub split : number_or 0 0 256 (value (codes "split")) ≡ Some options.split
  pub how : behaviour_of value ≡ Some options.how
  pub polled : options.polled ≡ flag (codes "polled")
  pub forward : delay_of (value (codes "forward")) ≡ Some options.forward
  pub events : options.events ≡ flag (codes "events")

pub options_of-parts : (value : Text → Option Text) (flag : Text → Bool) (options : Options) → options_of value flag ≡ Some options
    → HasParts value flag options
unfolding options_of
options_of-parts value flag options is =
    option_and_then_some _ (number_or 64 1 256 (value (codes "ring"))) options is (λ ring ring_is with_ring.
    option_and_then_some _ (number_or 0 0 256 (value (codes "split"))) options with_ring (λ split split_is with_split.
    option_and_then_some _ (behaviour_of value) options with_split (λ how how_is with_how.
    option_and_then_some _ (delay_of (value (codes "forward"))) options with_how (λ forward forward_is whole.
    subst (HasParts value flag) (same_Some _ options whole)
    (record { ring = ring_is; split = split_is; how = how_is; polled = refl; forward = forward_is; events = refl })))))

-- ---- the delay

abbrev IsDelay : Option Text → Option ℕ → Type 0
IsDelay said delay = (is_some delay ≡ is_some said) × IfSome delay (λ n. n ≤ 63)

delay_of-delay : (said : Option Text) (delay : Option ℕ) → delay_of said ≡ Some delay → IsDelay said delay
delay_of-delay None delay is = subst (IsDelay None) (same_Some None delay is) (refl, tt)
delay_of-delay (Some word) delay is = go (up_to 63 word) refl is
  where
    go : (o : Option ℕ) → up_to 63 word ≡ o → option_map Some o ≡ Some delay → IsDelay (Some word) delay
    go None e is = cc
    go (Some n) e is = subst (IsDelay (Some word)) (same_Some (Some n) delay is) (refl, (read-within 0 63 (value_of word) n e).1)

-- ---- what one way leaves of the others

module _ (value : Text → Option Text) (flag : Text → Bool) (options : Options) (together : stand_together value flag ≡ true)
    (are : options_of value flag ≡ Some options) where
  parts : HasParts value flag options
  parts = options_of-parts value flag options are

  forward_said : is_some options.forward ≡ is_some (value (codes "forward"))
  forward_said = (delay_of-delay (value (codes "forward")) options.forward parts.forward).0

  ways : (at_most_one (list_any (λ name. is_some (value name)) own_names) (flag (codes "polled")) (is_some (value (codes "forward"))) ≡ true)
      × ((not (flag (codes "events")) || is_some (value (codes "turns"))) ≡ true)
  unfolding stand_together
  ways = and_parts _ _ together

  apart : IsOneAtMost (list_any (λ name. is_some (value name)) own_names) (flag (codes "polled")) (is_some (value (codes "forward")))
  apart = one_at_most _ _ _ ways.0

  pub options_of-plain : BehavesPlainly options
  unfolding behaviour_of
  options_of-plain other =
      let unsaid = apart.others (rw parts.polled at (rw forward_said at other)) in
      let turns = or_parts _ _ unsaid in
      let hold = or_parts _ _ turns.1 in
      let leak = or_parts _ _ hold.1 in
      let stray = or_parts _ _ leak.1 in
      let quit = or_parts _ _ stray.1 in
      let how = rw (
        none_of (value (codes "hold")) hold.0,
        none_of (value (codes "leak")) leak.0,
        none_of (value (codes "stray")) stray.0,
        none_of (value (codes "quit")) quit.0,
      ) at parts.how in
      sym (same_Some _ options.how how)

  pub options_of-in_range : AreInRange options
  unfolding AreKept
  options_of-in_range =
      let kept = behaviour_of-kept value options.how parts.how in
      record {
        ring = number_or-within 64 1 256 (value (codes "ring")) options.ring (omega arith, omega arith) parts.ring;
        split = (number_or-within 0 0 256 (value (codes "split")) options.split (omega arith, omega arith) parts.split).1;
        hold = kept.0;
        leak = kept.1;
        stray = kept.2;
        one_way = λ polled. none_of options.forward (forward_said ∙ apart.second (sym parts.polled ∙ polled));
        delay = (delay_of-delay (value (codes "forward")) options.forward parts.forward).1;
      }

  -- where a text of turns is said
  pub own-turns : is_some (value (codes "turns")) ≡ true → GoesByTurns options
  own-turns said =
      let others = apart.first (rw said refl) in
      record { unpolled = parts.polled ∙ others.0; unforwarded = none_of options.forward (forward_said ∙ others.1) }

  -- where the record of the run is asked for
  pub logged-turns : options.events ≡ true → is_some (value (codes "turns")) ≡ true
  logged-turns asked = let flagged : flag (codes "events") ≡ true = sym parts.events ∙ asked in rw flagged at ways.1
