-- What an event lacks, and that it is the same of the same holders.
use Rattle.std.proofs.{Common.{◌≡◌, ◌∙◌, ◌<◌, ℕ, set, List, [], length, true, false, refl, sym, ap, subst, Option, Some, None}, lemmas.List.{nil_from_length}}
use Rattle.std.specs.Prelude.{count_by}
use Rattle.zr_kinds.specs.{declared.{event.Event.{Event}, holding.Holding.{Holding}}, Setting.{Setting}, RunText.{RecordText, last_line}}
use Rattle.zr_kinds.specs.Holders.{Holdings, after, buffer_of_event, changed, has_counts, is_in_range, is_user, with_holders}
use Rattle.zr_kinds.specs.declared.event.Event.TheVariants as event
use Rattle.run_check.specs.{declared.unfit.{Lack.{Lack}, Unfit.{Unfit}}, Holding.{Changes, HasChanged, SameHolders, SameHoldings, holdings_of}, Reading.{event_of}}
use Rattle.run_check.specs.Unfit.{IsLack, IsNoLast, IsUnfit, IsUnfitEvent, user_count_told}
use Rattle.run_check.specs.declared.unfit.Lack.TheVariants as lack
use Rattle.run_check.specs.declared.unfit.Unfit.TheVariants as unfit
use Rattle.run_check.proofs.{Alike.{AreAlike, changed-alike, counts-same}, Events.{after_fit, after_out, after_unfit, holdings_set}, LineText.{event_of-line_of, line_of-event_of}}
use Rattle.run_check.proofs.Weighing.{count-same, length-same}

-- what lacks something makes nothing of the holders
pub lack_none : (s : Setting) (h : Holdings) (e : Event) (l : Lack) → IsLack s h e l → after s h e ≡ None
lack_none s h e lack.Range is = after_out s h e is
lack_none s h e lack.Holders (b, ranged, at, none) = after_unfit s h e b ranged at none
lack_none s h e (lack.Counts pool user) (b, now, ranged, at, fit, wrong, pool_is, user_is) = after_fit s h e b now false ranged at fit wrong

pub user_count-same : (one other : List Holding) (e : Event) → SameHolders one other → user_count_told one e ≡ user_count_told other e
user_count-same one other (event.Take b p) same = refl
user_count-same one other (event.Place b o l p) same = refl
user_count-same one other (event.Sent a b o l) same = refl
user_count-same one other (event.Held a b o l) same = refl
user_count-same one other (event.Cut a b o l m p) same = refl
user_count-same one other (event.Lend a b o l p u) same = count-same (is_user a) one other same
user_count-same one other (event.Back a b o l u) same = count-same (is_user a) one other same
user_count-same one other (event.Honour a b p u) same = count-same (is_user a) one other same
user_count-same one other (event.Stray a) same = refl
user_count-same one other (event.Free a b o l p) same = refl
user_count-same one other (event.Spare a b p) same = refl
user_count-same one other (event.Own a b l p u) same = count-same (is_user a) one other same
user_count-same one other (event.Shut b p) same = refl
user_count-same one other (event.Scrub a b p u) same = count-same (is_user a) one other same

-- ---- one event, of the holders that are kept

pub counted_right : (s : Setting) (buffers : List (List Holding)) (e : Event) (b : ℕ) (now : List Holding) → is_in_range s e ≡ true
    → Some b ≡ buffer_of_event e → b < length buffers → Changes (changed s (holdings_of buffers b) e) now true → has_counts now e ≡ true
    → HasChanged s (holdings_of buffers) e (holdings_of (set buffers b now)) None
counted_right s buffers e b now ranged at lt (other, fit, alike) counted = (
  with_holders (holdings_of buffers) b other,
  after_fit s (holdings_of buffers) e b other true ranged at fit (counts-same other now e alike ∙ counted),
  holdings_set buffers b now other alike lt,
)

pub miscounted : (s : Setting) (buffers : List (List Holding)) (e : Event) (b : ℕ) (now : List Holding) → is_in_range s e ≡ true
    → Some b ≡ buffer_of_event e → Changes (changed s (holdings_of buffers b) e) now true → has_counts now e ≡ false
    → IsLack s (holdings_of buffers) e (lack.Counts (length now) (user_count_told now e))
miscounted s buffers e b now ranged at (other, fit, alike) counted = (
  b,
  other,
  ranged,
  at,
  fit,
  counts-same other now e alike ∙ counted,
  sym (length-same other now alike),
  sym (user_count-same other now e alike),
)

-- ---- the same holders

none-alike : (one : Option (List Holding)) → AreAlike one None → one ≡ None
none-alike None alike = refl
none-alike (Some one) alike = absurd alike

some-alike : (one : Option (List Holding)) (now : List Holding) → AreAlike one (Some now) → (then : List Holding) × (one ≡ Some then) × SameHolders then now
some-alike None now alike = absurd alike
some-alike (Some one) now alike = (one, refl, alike)

lack_alike : (s : Setting) (h kept : Holdings) (e : Event) (l : Lack) → SameHoldings h kept → IsLack s kept e l → IsLack s h e l
lack_alike s h kept e lack.Range same is = is
lack_alike s h kept e lack.Holders same (b, ranged, at, none) =
    (b, ranged, at, none-alike (changed s (h b) e) (subst (AreAlike (changed s (h b) e)) none (changed-alike s (h b) (kept b) e (same b))))
lack_alike s h kept e (lack.Counts pool user) same (b, now, ranged, at, fit, wrong, pool_is, user_is) =
    let found = some-alike (changed s (h b) e) now (subst (AreAlike (changed s (h b) e)) fit (changed-alike s (h b) (kept b) e (same b))) in (
      b,
      found.0,
      ranged,
      at,
      found.1,
      counts-same found.0 now e found.2 ∙ wrong,
      pool_is ∙ sym (length-same found.0 now found.2),
      user_is ∙ sym (user_count-same found.0 now e found.2),
    )

-- none here is none there
pub none_alike : (one other : Holdings) → SameHoldings one other → ((b : ℕ) → one b ≡ []) → (b : ℕ) → other b ≡ []
none_alike one other same none b = nil_from_length (other b) (sym (length-same (one b) (other b) (same b)) ∙ ap length (none b))

pub unfit_alike : (s : Setting) (count : ℕ) (h kept : Holdings) (line : RecordText) (why : Unfit) → SameHoldings h kept → IsUnfit s count kept line why
    → IsUnfit s count h line why
unfit_alike s count h kept line unfit.NoLine same is = is
unfit_alike s count h kept line unfit.NoSetting same is = is
unfit_alike s count h kept line unfit.Behind same is = is
unfit_alike s count h kept line unfit.NoEvent same is = is
unfit_alike s count h kept line unfit.TooMany same is = is
unfit_alike s count h kept line unfit.Held same (told, some) = (told, λ none. some (none_alike h kept same none))
unfit_alike s count h kept line (unfit.Event e l) same (told, small, is) = (told, small, lack_alike s h kept e l same is)

pub no_last : (line : RecordText) → (line ≡ last_line true → ⊥) → (line ≡ last_line false → ⊥) → IsNoLast line
no_last line no_end no_more true = no_end
no_last line no_end no_more false = no_more

-- what is read of an unfit line
pub unfit_read : (s : Setting) (count : ℕ) (h : Holdings) (line : RecordText) (why : Unfit) → IsNoLast line → IsUnfitEvent s h line why
    → IsUnfit s count h line why
unfit_read s count h line unfit.NoLine last is = is
unfit_read s count h line unfit.NoSetting last is = is
unfit_read s count h line unfit.TooMany last is = absurd is
unfit_read s count h line unfit.Held last is = absurd is
unfit_read s count h line unfit.Behind last is = is
unfit_read s count h line unfit.NoEvent last is =
    (last, λ e small told. let read : None ≡ Some e = sym is ∙ ap event_of told ∙ event_of-line_of e small in cc)
unfit_read s count h line (unfit.Event e l) last (read, is) = let told = line_of-event_of line e read in (told.0, told.1, is)
