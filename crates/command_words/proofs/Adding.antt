-- The rules of a command to which its arguments are added one by one.
use Rattle.std.proofs.Common.{◌≡◌, ◌∙◌, ◌<◌, ◌+◌, ℕ, refl, ap, arith, add-one, append_assoc, zero, suc, List, [], ◌∷◌, ◌++◌, map, take, length, get_or}
use Rattle.std.specs.Borrow.{Bor}
use Rattle.clap.specs.{Walk.{Rule}, Simple.{App, with_rule}}
use Rattle.command_words.specs.{Assigned.{Text}, Asking.{app_for, app_with, flag_rules, option_rules, raw_port}}

abbrev pub texts : List (Bor Text) → List Text
texts = map (λ name. name.now)

next_rule : (rule : Text → Rule) (names : List (Bor Text)) (i : ℕ) (d : Bor Text) → i < length names
    → map rule (texts (take (suc i) names)) ≡ map rule (texts (take i names)) ++ rule (get_or names i d).now ∷ []
next_rule rule [] i d lt = absurd (omega arith)
next_rule rule (name ∷ names) zero d lt = refl
next_rule rule (name ∷ names) (suc i) d lt = ap (λ rs. rule name.now ∷ rs) (next_rule rule names i d (omega arith))

-- one more option or flag
pub rule_added : (rule : Text → Rule) (above : List Rule) (old new : App) (names : List (Bor Text)) (i : ℕ) (d : Bor Text) → i < length names
    → new ≡ with_rule old (rule (get_or names i d).now)
    → old ≡ app_with (above ++ map rule (texts (take i names))) → new ≡ app_with (above ++ map rule (texts (take (i + 1) names)))
rule_added rule above old new names i d lt added before =
    added ∙ ap (λ a. with_rule a (rule (get_or names i d).now)) before
    ∙ ap app_with (append_assoc above (map rule (texts (take i names))) (rule (get_or names i d).now ∷ []))
    ∙ rw (add-one, next_rule rule names i d lt) refl

-- the ports' rule comes last
pub port_added : (old : App) (names flags : List Text) → old ≡ app_with (option_rules names ++ flag_rules flags)
    → with_rule old raw_port ≡ app_for names flags
port_added old names flags before =
    ap (λ a. with_rule a raw_port) before ∙ ap app_with (append_assoc (option_rules names) (flag_rules flags) (raw_port ∷ []))
