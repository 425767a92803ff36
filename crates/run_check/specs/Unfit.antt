-- Why a line isn't one that may follow.
use Rattle.std.specs.Prelude.{◌≡◌, ℕ, ◌≤◌, Bool, true, false, List, [], length, count_by, Some, None}
use Rattle.zr_kinds.specs.{declared.{event.Event.{Event}, holding.Holding.{Holding}}, Setting.{Setting, most_events}, LegalRun.{HasSmallNumbers}}
use Rattle.zr_kinds.specs.{Holders.{Holdings, buffer_of_event, changed, has_counts, is_in_range, is_user}, RunText.{RecordText, last_line, line_of}}
use Rattle.zr_kinds.specs.declared.event.Event.TheVariants as event
use Rattle.run_check.specs.{declared.unfit.{Lack.{Lack}, Unfit.{Unfit}}, Reading.{event_of}}
use Rattle.run_check.specs.declared.unfit.Lack.TheVariants as lack
use Rattle.run_check.specs.declared.unfit.Unfit.TheVariants as unfit

-- the user count of an event's application, where the event says one
abbrev pub user_count_told : List Holding → Event → ℕ
user_count_told held (event.Lend a b o l p u) = count_by (is_user a) held
user_count_told held (event.Back a b o l u) = count_by (is_user a) held
user_count_told held (event.Honour a b p u) = count_by (is_user a) held
user_count_told held (event.Own a b l p u) = count_by (is_user a) held
user_count_told held (event.Scrub a b p u) = count_by (is_user a) held
user_count_told held other = 0

-- The first of what an event lacks: numbers in range, the holders that it needs, and the counts of those behind it.
abbrev pub IsLack : Setting → Holdings → Event → Lack → Type 0
IsLack s h e lack.Range = is_in_range s e ≡ false
IsLack s h e lack.Holders = (b : ℕ) × (is_in_range s e ≡ true) × (Some b ≡ buffer_of_event e) × (changed s (h b) e ≡ None)
IsLack s h e (lack.Counts pool user) = (b : ℕ) × (now : List Holding) × (is_in_range s e ≡ true) × (Some b ≡ buffer_of_event e)
    × (changed s (h b) e ≡ Some now) × (has_counts now e ≡ false) × (pool ≡ length now) × (user ≡ user_count_told now e)

abbrev pub IsNoLast : RecordText → Type 0
IsNoLast line = (whole : Bool) → line ≡ last_line whole → ⊥

-- why a line doesn't follow so many events, behind which these are the holders
abbrev pub IsUnfit : Setting → ℕ → Holdings → RecordText → Unfit → Type 0
IsUnfit s count h line unfit.NoEvent = IsNoLast line × ((e : Event) → HasSmallNumbers e → line ≡ line_of e → ⊥)
IsUnfit s count h line unfit.TooMany = IsNoLast line × (most_events ≤ count)
IsUnfit s count h line unfit.Held = (line ≡ last_line true) × (((b : ℕ) → h b ≡ []) → ⊥)
IsUnfit s count h line (unfit.Event e l) = (line ≡ line_of e) × HasSmallNumbers e × IsLack s h e l
IsUnfit s count h line other = ⊥

-- the same of a line that isn't the last one, as it is read
abbrev pub IsUnfitEvent : Setting → Holdings → RecordText → Unfit → Type 0
IsUnfitEvent s h line unfit.NoEvent = event_of line ≡ None
IsUnfitEvent s h line (unfit.Event e l) = (event_of line ≡ Some e) × IsLack s h e l
IsUnfitEvent s h line other = ⊥
