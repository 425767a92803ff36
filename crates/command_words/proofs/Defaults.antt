-- What stands for flags that aren't said, and what the rows show with it.
use Rattle.std.proofs.Common.{◌≡◌, ◌∙◌, Bool, true, false, cond, refl, sym, ap, List, [], ◌∷◌, Option, Some, None, is_some, codes}
use Rattle.std.specs.{Prelude.{option_map, unwrap_or}, Str.{bytes_eq}}
use Rattle.clap.specs.Walk.{Row, all_of, has_row, with_default}
use Rattle.command_words.{specs.{Assigned.{Text, Said, if_any, is_among, value_said}, Asking.{AreNamesApart, port_id}}, proofs.Lookups.{flag_rule, same_text}}
use Rattle.command_words.proofs.{Lookups.{with_flags}, Matching.{Shows, all_of-with_values, has_row-all_of, no_option, none_of}}

-- what stands for a flag that isn't said
abbrev unsaid : List Text
unsaid = codes "false" ∷ []

some_of : (o : Option (List Text)) → is_some o ≡ true → o ≡ Some (unwrap_or o unsaid)
some_of None h = let bad : false ≡ true = h in cc
some_of (Some vs) h = refl

with_one : (id flag : Text) (rows : List Row) → all_of id (with_default rows (flag_rule flag))
    ≡ cond (bytes_eq flag id) (Some (unwrap_or (all_of id rows) unsaid)) (all_of id rows)
with_one id flag rows = go (has_row flag rows) (bytes_eq flag id) refl refl
  where
    row : has_row flag rows ≡ is_some (all_of flag rows)
    row = has_row-all_of flag rows

    at : bytes_eq flag id ≡ true → all_of flag rows ≡ all_of id rows
    at e = ap (λ (t : Text). all_of t rows) (same_text flag id e)

    go : (has is : Bool) → has_row flag rows ≡ has → bytes_eq flag id ≡ is
        → all_of id (with_default rows (flag_rule flag)) ≡ cond (bytes_eq flag id) (Some (unwrap_or (all_of id rows) unsaid)) (all_of id rows)
    go true true h e = rw (h, e) (some_of (all_of id rows) (ap is_some (sym (at e)) ∙ sym row ∙ h))
    go true false h e = rw (h, e) refl
    go false is h e =
        let none : all_of flag rows ≡ None = none_of (all_of flag rows) (sym row ∙ h) in
        rw h (all_of-with_values id flag _ _ unsaid rows ∙ rw none (same is e))
      where
        same : (b : Bool) → bytes_eq flag id ≡ b
            → cond (bytes_eq flag id) (Some unsaid) (all_of id rows) ≡ cond (bytes_eq flag id) (Some (unwrap_or (all_of id rows) unsaid)) (all_of id rows)
        same true f = rw (f, sym (at f) ∙ none_of (all_of flag rows) (sym row ∙ h)) refl
        same false f = rw f refl

-- each flag has a value then, and nothing else has another
pub with_all : (flags : List Text) (id : Text) (rows : List Row) → all_of id (with_flags flags rows)
    ≡ cond (is_among flags id) (Some (unwrap_or (all_of id rows) unsaid)) (all_of id rows)
with_all [] id rows = refl
with_all (flag ∷ flags) id rows =
    with_all flags id (with_default rows (flag_rule flag)) ∙ rw (with_one id flag rows) (go (bytes_eq flag id) (is_among flags id) refl refl)
  where
    go : (is among : Bool) → bytes_eq flag id ≡ is → is_among flags id ≡ among
        → cond among (Some (unwrap_or (cond is (Some (unwrap_or (all_of id rows) unsaid)) (all_of id rows)) unsaid))
        (cond is (Some (unwrap_or (all_of id rows) unsaid)) (all_of id rows))
        ≡ cond (is_among (flag ∷ flags) id) (Some (unwrap_or (all_of id rows) unsaid)) (all_of id rows)
    go true true e f = rw e refl
    go true false e f = rw e refl
    go false true e f = rw (e, f) refl
    go false false e f = rw (e, f) refl

-- the value of a flag
abbrev pub flag_value : Bool → Text
flag_value said = cond said (codes "true") (codes "false")

-- the rows at the end: as Shows, with a value for each flag
pub record TellsOptions (names flags : List Text) (rows : List Row) (said : Said) : Type 0 where
  pub options : (id : Text) → is_among names id ≡ true → all_of id rows ≡ option_map (λ v. v ∷ []) (value_said id said.options)
  pub flagged : (id : Text) → is_among flags id ≡ true → all_of id rows ≡ Some (flag_value (is_among said.flags id) ∷ [])
  pub words : all_of port_id rows ≡ if_any said.words

pub tells : (names flags : List Text) → AreNamesApart names flags → (rows : List Row) (said : Said) → Shows names flags rows said
    → TellsOptions names flags (with_flags flags rows) said
tells names flags apart rows said shows = record {
  options = λ id here. with_all flags id rows ∙ rw (no_flag id here (is_among flags id) refl) (shows.options id here);
  flagged = λ id here. with_all flags id rows ∙ rw (here, shows.flagged id here) (valued (is_among said.flags id));
  words = with_all flags port_id rows ∙ rw apart.words.1 shows.words;
}
  where
    no_flag : (id : Text) → is_among names id ≡ true → (b : Bool) → is_among flags id ≡ b → is_among flags id ≡ false
    no_flag id here true e = let bad : true ≡ false = sym here ∙ no_option names flags apart id e in cc
    no_flag id here false e = e

    valued : (b : Bool) → Some (unwrap_or (cond b (Some (codes "true" ∷ [])) None) unsaid) ≡ Some (flag_value b ∷ [])
    valued true = refl
    valued false = refl
