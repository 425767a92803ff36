-- What a check says of the bytes of a record.
use Rattle.std.specs.{Prelude.{◌≡◌, ℕ, ◌+◌, ◌≢◌, Bool, List, [], ◌∷◌, ◌++◌, length, map, Option, Some, Result, Ok, Err}, Io.KnownBytes.{IsAtEnd}}
use Rattle.zr_kinds.specs.declared.fault.Fault.{Fault}
use Rattle.zr_kinds.specs.declared.fault.Fault.TheVariants as fault
use Rattle.zr_io.specs.Moved.{Rose}
use Rattle.zr_kinds.specs.{declared.event.Event.{Event}, Setting.{Setting, IsSetting}, LegalRun.{IsLegalRun}, Holders.{Holdings, all_after, no_holdings}}
use Rattle.zr_kinds.specs.RunText.{RecordText, line_of, lines_of, run_line, text_of_lines}
use Rattle.run_check.specs.{declared.{checking.Checked.{Checked, TheVariants.{Yes, No}}, unfit.Unfit.{Unfit}}, Coming.{HasNoLine, IsOneLine}, Unfit.{IsUnfit}}
use Rattle.run_check.specs.declared.unfit.Unfit.TheVariants as unfit

-- the lines are those of a legal run
pub record AreOfRun (lines : List RecordText) : Type 0 where
  pub setting : Setting
  pub events : List Event
  pub whole : Bool
  pub legal : IsLegalRun setting events whole
  pub told : lines ≡ lines_of setting events whole

-- a legal run begins with the lines
abbrev pub BeginARun : List RecordText → Type 0
BeginARun lines = (behind : List RecordText) × AreOfRun (lines ++ behind)

-- the bytes are the text of a legal run of so many lines, and nothing follows
pub record IsRunText (bytes : List ℕ) (count : ℕ) : Type 0 where
  pub lines : List RecordText
  pub run : AreOfRun lines
  pub text : bytes ≡ text_of_lines lines
  pub number : count ≡ length lines

-- What stands before a line that is unfit: the lines of these events, behind which these are the holders.
pub record IsUnfitNext (before : List RecordText) (rest : List ℕ) (why : Unfit) : Type 0 where
  pub setting : Setting
  pub events : List Event
  pub holdings : Holdings
  pub told : before ≡ run_line setting ∷ map line_of events
  pub reached : all_after setting no_holdings events ≡ Some holdings
  pub line : RecordText
  pub behind : List ℕ
  pub next : rest ≡ line ++ 10 ∷ behind
  pub one : IsOneLine line
  pub is_unfit : IsUnfit setting (length events) holdings line why

-- the first line says no setting
pub record SaysNoSetting (rest : List ℕ) : Type 0 where
  pub line : RecordText
  pub behind : List ℕ
  pub next : rest ≡ line ++ 10 ∷ behind
  pub one : IsOneLine line
  pub none : (setting : Setting) → IsSetting setting → line ≡ run_line setting → ⊥

-- why no legal run has a line from `rest` behind the lines before it
abbrev pub IsWhy : List RecordText → List ℕ → Unfit → Type 0
IsWhy before rest unfit.NoLine = HasNoLine rest
IsWhy before rest unfit.NoSetting = (before ≡ []) × SaysNoSetting rest
IsWhy before rest unfit.Behind = AreOfRun before × (rest ≢ [])
IsWhy before rest unfit.NoEvent = IsUnfitNext before rest unfit.NoEvent
IsWhy before rest unfit.TooMany = IsUnfitNext before rest unfit.TooMany
IsWhy before rest unfit.Held = IsUnfitNext before rest unfit.Held
IsWhy before rest (unfit.Event e lack) = IsUnfitNext before rest (unfit.Event e lack)

-- The line with this number is the first that isn't as in a legal run: one begins with the lines before it, and none with
-- these and the line behind them, which may be missing; this is why.
pub record IsFirstBad (bytes : List ℕ) (number : ℕ) (why : Unfit) : Type 0 where
  pub before : List RecordText
  pub rest : List ℕ
  pub parted : bytes ≡ text_of_lines before ++ rest
  pub counted : number ≡ length before + 1
  pub begun : BeginARun before
  pub ends : (line : RecordText) (behind : List ℕ) → rest ≡ line ++ 10 ∷ behind → IsOneLine line → BeginARun (before ++ line ∷ []) → ⊥
  pub cause : IsWhy before rest why

-- `Yes` is said of the text of a legal run, and `No` of all other bytes.
abbrev pub Judges : List ℕ → Checked → Type 0
Judges bytes (Yes lines) = IsRunText bytes lines
Judges bytes (No line why) = IsFirstBad bytes line why × ((lines : ℕ) → IsRunText bytes lines → ⊥)

-- with `Yes` the source was read to its end
abbrev pub YesAtEnd : Option (List ℕ) → Checked → Type 0
YesAtEnd left (Yes lines) = IsAtEnd left
YesAtEnd left (No line why) = Unit {0}

-- the faults of a check: memory, which is free, and a failed read, at which the source's count rose
abbrev pub HasCheckCause : {T : Type 0} → ℕ → ℕ → Result T Fault → Type 0
HasCheckCause before now (Ok answer) = now ≡ before
HasCheckCause before now (Err fault.Memory) = now ≡ before
HasCheckCause before now (Err fault.Read) = Rose before now
HasCheckCause before now (Err other) = ⊥
