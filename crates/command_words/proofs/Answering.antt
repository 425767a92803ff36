-- What clap answers, by what the words say.
use Rattle.std.proofs.Common.{◌≡◌, ◌∙◌, true, false, refl, ap, subst, arith, inl, inr, List, [], ◌∷◌, drop, Option, Some, None, option_map, All, suc, Bool, codes}
use Rattle.std.{specs.{Prelude.{option_and_then, slice_get}, Borrow.{Bor}, Str.{IsUtf8, bytes_eq}}, proofs.lemmas.Bool.{and_parts}}
use Rattle.clap.specs.{Matches.{found_of, first_value}, Walk.{Row, rows_of}, Kinds.{HasKind, IsAmong, Kinds}, Values.{kind_of}, Simple.{App, HasMatchesOf, matches_of}}
use Rattle.clap.specs.{Faults.{fault_of, is_simple_and_free}, declared.error.{Error.{Error}, kind.ErrorKind.{TheVariants.{OutOfMemory}, ErrorKind}}}
use Rattle.clap.{specs.declared.parser.matches.ArgMatches.{ArgMatches}, proofs.WalkLemmas.{first_value-rows, raw_values-rows}}
use Rattle.command_words.specs.{Assigned.{Text, Said, is_among, sorted, value_said}, Asking.{AreMatched, AreNamesApart, app_for, is_true, port_id}}
use Rattle.command_words.proofs.Adding.{texts}
use Rattle.command_words.proofs.{Lookups.{simple_app}, Matching.{first_of-all_of}, Asked.{Comes, parsed}, Defaults.{flag_value}, Walking.{AllText, nothing_refused}}

pub texts_are_text : (words : List (Bor Text)) → All (λ word. IsUtf8 word.now) words → AllText (texts words)
texts_are_text [] h = tt
texts_are_text (word ∷ words) h = (h 0 word (omega arith), texts_are_text words (λ k d lt. h (suc k) d (omega arith)))

pub rest_is_text : (words : List Text) → AllText words → AllText (drop 1 words)
rest_is_text [] h = tt
rest_is_text (word ∷ words) h = h.1

first_of_one : (o : Option Text) → option_and_then (λ vs. slice_get vs 0) (option_map (λ v. v ∷ []) o) ≡ o
first_of_one None = refl
first_of_one (Some v) = refl

value_is : (said : Bool) → bytes_eq (flag_value said) (codes "true") ≡ said
value_is true = refl
value_is false = refl

module _ (names flags : List Text) (rows : List Row) (faults : Kinds) where
  -- clap took the words
  pub taken : (m : ArgMatches) (o : Option Said) → faults ≡ [] → rows_of (found_of m) ≡ rows → Comes names flags faults rows o
      → AreMatched names flags (Some m) o
  taken m None none same comes = absurd (nothing_refused faults comes none)
  taken m (Some said) none same comes = record {
    options = λ name among.
        values name ∙ ap (option_and_then (λ vs. slice_get vs 0)) (comes.1.options name among)
        ∙ first_of_one (value_said name said.options);
    flagged = λ name among.
        ap is_true (values name ∙ ap (option_and_then (λ vs. slice_get vs 0)) (comes.1.flagged name among))
        ∙ value_is (is_among said.flags name);
    words = raw_values-rows (found_of m) port_id ∙ ap (Rattle.clap.specs.Walk.all_of port_id) same ∙ comes.1.words;
  }
    where
      values : (name : Text) → first_value (found_of m) name ≡ option_and_then (λ vs. slice_get vs 0) (Rattle.clap.specs.Walk.all_of name rows)
      values name = first_value-rows (found_of m) name ∙ first_of-all_of name (rows_of (found_of m))
          ∙ ap (option_and_then (λ vs. slice_get vs 0)) (ap (Rattle.clap.specs.Walk.all_of name) same)

  -- clap refused the words
  pub refused : (kind : ErrorKind) (o : Option Said) → IsAmong kind faults → Comes names flags faults rows o → AreMatched names flags None o
  refused kind None among comes = tt
  refused kind (Some said) among comes = let bad : IsAmong kind [] = subst (IsAmong kind) comes.0 among in absurd bad

-- the answers to a command with these options and flags
module _ (names flags : List Text) (apart : AreNamesApart names flags) (app : App) (is : app ≡ app_for names flags) (words : List Text)
    (text : AllText (drop 1 words)) where
  simple : is_simple_and_free app ≡ true
  simple = ap is_simple_and_free is ∙ simple_app names flags

  pub accepted : (m : ArgMatches) → (is_simple_and_free app ≡ true → fault_of app words ≡ []) → HasMatchesOf app words m
      → AreMatched names flags (Some m) (sorted names flags (drop 1 words))
  accepted m kinds matches =
      let none : fault_of (app_for names flags) words ≡ [] = subst (λ (a : App). fault_of a words ≡ []) is (kinds simple) in
      let same : rows_of (found_of m) ≡ matches_of (app_for names flags) words = (matches (and_parts _ _ simple).0).0
      ∙ ap (λ (a : App). matches_of a words) is in
      taken names flags (matches_of (app_for names flags) words) (fault_of (app_for names flags) words) m _ none same
      (parsed names flags apart words text)

  pub rejected : (e : Error) → (is_simple_and_free app ≡ true → HasKind (fault_of app words) e) → (kind_of e ≡ OutOfMemory → ⊥)
      → AreMatched names flags None (sorted names flags (drop 1 words))
  rejected e kinds memory =
      let has : HasKind (fault_of (app_for names flags) words) e = subst (λ (a : App). HasKind (fault_of a words) e) is (kinds simple) in
      elim has [
        | inl out ↦ absurd (memory out)
        | inr among ↦ refused names flags (matches_of (app_for names flags) words) (fault_of (app_for names flags) words) (kind_of e) _ among
            (parsed names flags apart words text)
      ]
