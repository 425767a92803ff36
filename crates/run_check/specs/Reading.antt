-- What lines say, read from their words.
use Rattle.std.specs.Prelude.{◌≡◌, ℕ, ◌^◌, nat_lt, nat_le, ◌==◌, ◌&&◌, ◌||◌, if◌then◌else◌, Bool, true, false, List, [], ◌∷◌, length}
use Rattle.std.specs.{Prelude.{Option, Some, None, option_map, option_and_then, slice_index, codes}, Char.{is_ascii_digit}, List.{list_all, slice_split}}
use Rattle.std.specs.Str.{bytes_eq, Parse.{digits_value}}
use Rattle.zr_kinds.specs.{declared.event.Event.{Event}, Setting.{Setting, IsSetting}, RunText.{RecordText}}
use Rattle.zr_kinds.specs.declared.event.Event.TheVariants as event

-- 1 to 10 digits, the first of which is 0 only where it is the only one
abbrev pub is_numeral : RecordText → Bool
is_numeral word =
    nat_le 1 (length word) && nat_le (length word) 10 && list_all is_ascii_digit word
    && ((length word == 1) || (if slice_index word 0 == 48 then false else true))

abbrev pub number_in_word : RecordText → Option ℕ
number_in_word word =
    if is_numeral word then (if nat_lt (digits_value 10 word) (2 ^ 32) then Some (digits_value 10 word) else None) else None

-- what all items are read as, where each is read as something
abbrev pub all_of : {A B : Type 0} → (A → Option B) → List A → Option (List B)
all_of read [] = Some []
all_of read (item ∷ items) = option_and_then (λ first. option_map (λ rest. first ∷ rest) (all_of read items)) (read item)

abbrev pub all_numbers : List RecordText → Option (List ℕ)
all_numbers words = all_of number_in_word words

abbrev pub parts_of : ℕ → RecordText → List RecordText
parts_of byte text = slice_split (λ b. b == byte) text

-- the event of a name with these numbers
abbrev pub event_from : RecordText → List ℕ → Option Event
event_from name (a ∷ []) = if bytes_eq name (codes "stray") then Some (event.Stray a) else None
event_from name (a ∷ b ∷ []) =
    if bytes_eq name (codes "take") then Some (event.Take a b)
    else if bytes_eq name (codes "shut") then Some (event.Shut a b)
    else None
event_from name (a ∷ b ∷ c ∷ []) = if bytes_eq name (codes "spare") then Some (event.Spare a b c) else None
event_from name (a ∷ b ∷ c ∷ d ∷ []) =
    if bytes_eq name (codes "place") then Some (event.Place a b c d)
    else if bytes_eq name (codes "sent") then Some (event.Sent a b c d)
    else if bytes_eq name (codes "held") then Some (event.Held a b c d)
    else if bytes_eq name (codes "honour") then Some (event.Honour a b c d)
    else if bytes_eq name (codes "scrub") then Some (event.Scrub a b c d)
    else None
event_from name (a ∷ b ∷ c ∷ d ∷ e ∷ []) =
    if bytes_eq name (codes "back") then Some (event.Back a b c d e)
    else if bytes_eq name (codes "free") then Some (event.Free a b c d e)
    else if bytes_eq name (codes "own") then Some (event.Own a b c d e)
    else None
event_from name (a ∷ b ∷ c ∷ d ∷ e ∷ f ∷ []) =
    if bytes_eq name (codes "cut") then Some (event.Cut a b c d e f)
    else if bytes_eq name (codes "lend") then Some (event.Lend a b c d e f)
    else None
event_from name numbers = None

abbrev pub event_by : List RecordText → Option Event
event_by [] = None
event_by (name ∷ words) = option_and_then (event_from name) (all_numbers words)

abbrev pub event_of : RecordText → Option Event
event_of line = event_by (parts_of 32 line)

-- ---- the setting

abbrev pub area_by : List RecordText → Option (ℕ × ℕ)
area_by (buffers ∷ size ∷ []) = option_and_then (λ b. option_map (λ s. (b, s)) (number_in_word size)) (number_in_word buffers)
area_by words = None

abbrev pub area_in_line : RecordText → Option (ℕ × ℕ)
area_in_line part = area_by (parts_of 58 part)

abbrev pub all_run_areas : List RecordText → Option (List (ℕ × ℕ))
all_run_areas parts = all_of area_in_line parts

-- whatever the areas' numbers are
abbrev pub setting_from : RecordText → RecordText → Option Setting
setting_from areas apps =
    option_and_then (λ n. option_map (λ all. record { areas = all; apps = n }) (all_run_areas (parts_of 44 areas))) (number_in_word apps)

abbrev pub setting_by : List RecordText → Option Setting
setting_by (name ∷ areas ∷ apps ∷ []) = if bytes_eq name (codes "run") then setting_from areas apps else None
setting_by words = None

abbrev pub setting_of : RecordText → Option Setting
setting_of line = setting_by (parts_of 32 line)

-- the setting of a line, where the line says one
abbrev pub IsSettingOfLine : RecordText → Option Setting → Type 0
IsSettingOfLine line (Some setting) = (setting_of line ≡ Some setting) × IsSetting setting
IsSettingOfLine line None = (setting : Setting) → setting_of line ≡ Some setting → IsSetting setting → ⊥
