-- The whole parse, by what the words say.
use Rattle.std.{proofs.Common.{◌≡◌, ◌∙◌, false, refl, ap, inl, List, [], ◌∷◌, drop, Option, Some, None}, specs.Prelude.{fold, option_map}}
use Rattle.clap.specs.{Walk.{Row, nothing_held, rows_after, settled, walk, walk_from, with_default}, Kinds.{Kinds, or_else}, Simple.{App, matches_of, names_of}}
use Rattle.clap.{specs.Faults.{built_fault, fault_of, level_fault, settle_fault, walk_fault}, proofs.FaultLemmas.{leaf_fault}}
use Rattle.command_words.specs.{Assigned.{Text, Said, nothing_said, sorted}, Asking.{AreNamesApart, app_for}}
use Rattle.command_words.proofs.Lookups.{built_app, default_faults, defaults_of_flags, none_required, rules, shape_for, with_flags}
use Rattle.command_words.proofs.{Matching.{joined, once_nothing, shows_nothing}, Walking.{AllText, Ends, IsRefused, both}, Defaults.{TellsOptions, tells}}

or_nothing : (kinds : Kinds) → or_else kinds [] ≡ kinds
or_nothing [] = refl
or_nothing (k ∷ ks) = refl

joined_first : (o : Option Said) → option_map (joined nothing_said) o ≡ o
joined_first None = refl
joined_first (Some said) = refl

-- how the parse comes out: refused where the words say nothing, and else with rows that tell what they say
abbrev pub Comes : List Text → List Text → Kinds → List Row → Option Said → Type 0
Comes names flags faults rows None = IsRefused faults
Comes names flags faults rows (Some said) = (faults ≡ []) × TellsOptions names flags rows said

module _ (names flags : List Text) (apart : AreNamesApart names flags) where
  -- the level's fault is that of its walk and of what is held at its end
  level_is : (words : List Text) → level_fault (shape_for names flags) [] nothing_held words false []
      ≡ or_else (walk_fault (shape_for names flags) [] (walk_from nothing_held) words)
      (settle_fault (rules names flags) false (walk (rules names flags) [] nothing_held words).held)
  level_is words =
      let end = (walk (rules names flags) [] nothing_held words).held in
      rw (
        default_faults names flags (settled (rules names flags) end).rows,
        none_required names flags (fold with_default (settled (rules names flags) end).rows (rules names flags)),
      )
      (ap (or_else (walk_fault (shape_for names flags) [] (walk_from nothing_held) words)) (or_nothing (settle_fault (rules names flags) false end)))

  level : (words : List Text) → AllText words → Ends names flags (level_fault (shape_for names flags) [] nothing_held words false [])
      (settled (rules names flags) (walk (rules names flags) [] nothing_held words).held).rows (sorted names flags words)
  level words text =
      let run = (both names flags apart words text).0 nothing_held false nothing_said refl
      (inl (record { passed = refl; shows = shows_nothing names flags; once = once_nothing })) in
      rw (level_is words) (rw joined_first at run)

  faults : (words : List Text)
      → fault_of (app_for names flags) words ≡ level_fault (shape_for names flags) [] nothing_held (drop 1 words) false []
  faults words = ap (λ (a : App). built_fault a nothing_held (drop 1 words)) (built_app names flags)
      ∙ leaf_fault (record { top = shape_for names flags; subs = [] }) nothing_held (drop 1 words) refl

  rows : (words : List Text) → matches_of (app_for names flags) words
      ≡ with_flags flags (settled (rules names flags) (walk (rules names flags) [] nothing_held (drop 1 words)).held).rows
  rows words = ap (λ (a : App). rows_after a.top.rules (names_of a) (drop 1 words)) (built_app names flags) ∙ defaults_of_flags names flags _

  comes : (kinds : Kinds) (at_end : List Row) (said : Option Said) → Ends names flags kinds at_end said
      → Comes names flags kinds (with_flags flags at_end) said
  comes kinds at_end None ends = ends
  comes kinds at_end (Some said) ends = (ends.0, tells names flags apart at_end said ends.1)

  pub parsed : (words : List Text) → AllText (drop 1 words)
      → Comes names flags (fault_of (app_for names flags) words) (matches_of (app_for names flags) words) (sorted names flags (drop 1 words))
  parsed words text = rw (faults words, rows words) (comes _ _ (sorted names flags (drop 1 words)) (level (drop 1 words) text))
