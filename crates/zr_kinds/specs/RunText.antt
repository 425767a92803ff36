-- The text of a run: lines that end with a line feed, words parted by one space, numbers in decimal without leading zeros.
use Rattle.std.specs.{Prelude.{ℕ, List, [], ◌∷◌, ◌++◌, map, Bool, true, false, codes}, Fmt.{decimal}, List.{flat_map, join_with_byte}}
use Rattle.zr_kinds.specs.{declared.event.Event.{Event}, Setting.{Setting}}
use Rattle.zr_kinds.specs.declared.event.Event.TheVariants as event

-- a line without its line feed, or a word
abbrev pub RecordText : Type 0
RecordText = List ℕ

abbrev pub spaced : List RecordText → RecordText
spaced words = join_with_byte 32 words

-- as `16:1024`
abbrev pub area_text : ℕ × ℕ → RecordText
area_text area = decimal area.0 ++ 58 ∷ decimal area.1

-- as `run 16:1024,4:4096 2`
unfoldable pub run_line : Setting → RecordText
run_line setting =
    spaced (codes "run" ∷ join_with_byte 44 (map area_text setting.areas) ∷ decimal setting.apps ∷ [])

abbrev pub name_of : Event → RecordText
name_of (event.Take b p) = codes "take"
name_of (event.Place b o l p) = codes "place"
name_of (event.Sent a b o l) = codes "sent"
name_of (event.Held a b o l) = codes "held"
name_of (event.Cut a b o l m p) = codes "cut"
name_of (event.Lend a b o l p u) = codes "lend"
name_of (event.Back a b o l u) = codes "back"
name_of (event.Honour a b p u) = codes "honour"
name_of (event.Stray a) = codes "stray"
name_of (event.Free a b o l p) = codes "free"
name_of (event.Spare a b p) = codes "spare"
name_of (event.Own a b l p u) = codes "own"
name_of (event.Shut b p) = codes "shut"
name_of (event.Scrub a b p u) = codes "scrub"

abbrev pub numbers_of : Event → List ℕ
numbers_of (event.Take b p) = b ∷ p ∷ []
numbers_of (event.Place b o l p) = b ∷ o ∷ l ∷ p ∷ []
numbers_of (event.Sent a b o l) = a ∷ b ∷ o ∷ l ∷ []
numbers_of (event.Held a b o l) = a ∷ b ∷ o ∷ l ∷ []
numbers_of (event.Cut a b o l m p) = a ∷ b ∷ o ∷ l ∷ m ∷ p ∷ []
numbers_of (event.Lend a b o l p u) = a ∷ b ∷ o ∷ l ∷ p ∷ u ∷ []
numbers_of (event.Back a b o l u) = a ∷ b ∷ o ∷ l ∷ u ∷ []
numbers_of (event.Honour a b p u) = a ∷ b ∷ p ∷ u ∷ []
numbers_of (event.Stray a) = a ∷ []
numbers_of (event.Free a b o l p) = a ∷ b ∷ o ∷ l ∷ p ∷ []
numbers_of (event.Spare a b p) = a ∷ b ∷ p ∷ []
numbers_of (event.Own a b l p u) = a ∷ b ∷ l ∷ p ∷ u ∷ []
numbers_of (event.Shut b p) = b ∷ p ∷ []
numbers_of (event.Scrub a b p u) = a ∷ b ∷ p ∷ u ∷ []

-- as `place 0 64 100 2`
unfoldable pub line_of : Event → RecordText
line_of e = spaced (name_of e ∷ map decimal (numbers_of e))

-- `end` behind all events, `more` where there were others
abbrev pub last_line : Bool → RecordText
last_line true = codes "end"
last_line false = codes "more"

abbrev pub lines_of : Setting → List Event → Bool → List RecordText
lines_of setting events whole = run_line setting ∷ (map line_of events ++ last_line whole ∷ [])

abbrev pub text_of_lines : List RecordText → List ℕ
text_of_lines lines = flat_map (λ line. line ++ 10 ∷ []) lines

abbrev pub run_text_of : Setting → List Event → Bool → List ℕ
run_text_of setting events whole = text_of_lines (lines_of setting events whole)
