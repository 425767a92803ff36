-- What `check` leaves.
use Rattle.std.specs.{Prelude.{◌≡◌, ◌≢◌, ℕ, List, [], ◌∷◌, ◌++◌, ◌==◌, ◌⊎◌, true, take, codes, Option, IfSome}, Fmt.{decimal}, List.{list_any}}
use Rattle.std.specs.Io.KnownBytes.{Appends, IsAtEnd}
use Rattle.zr_kinds.specs.{Fault.{number_of}, declared.fault.Fault.TheVariants.{BadRun, Memory, Read, Write}}
use Rattle.zr_io.specs.Moved.{Rose}
use Rattle.run_check.specs.{Judged.{Judges}, declared.checking.Checked.{Checked, TheVariants.{Yes, No}}}
use Rattle.run_account.specs.Views.{SourceSeen}
use Rattle.top_call.specs.{Worlds.{SinkSeen}, declared.card.Card.{Card}}

-- the line that says what was found
abbrev pub check_line : Checked → List ℕ
check_line (Yes lines) = codes "checked " ++ decimal lines ++ 10 ∷ []
check_line (No line why) = codes "bad " ++ decimal line ++ 10 ∷ []

abbrev pub check_status : Checked → ℕ
check_status (Yes lines) = 0
check_status (No line why) = number_of BadRun

-- this was found in what the source tells
abbrev pub Finds : Option (List ℕ) → Checked → Type 0
Finds bytes found = IfSome bytes (λ told. Judges told found)

-- What `check` leaves of its source, its sink and its card, and what its answer says.
pub record Checks {S O : Type 0} (reads : SourceSeen S) (writes : SinkSeen O) (source source_now : S) (out out_now : O) (card_now : Card)
    (answer : ℕ) : Type 0 where
  pub kind : list_any (λ n. n == answer) (0 ∷ number_of Memory ∷ number_of Read ∷ number_of Write ∷ number_of BadRun ∷ []) ≡ true
  -- With 0 and `BadRun` the record was found to be that of a legal run, or not, and the sink gained the line that says so. What was found
  -- is in the card, with why the line is bad; with any other answer the card is blank.
  pub told : (answer ≡ 0) ⊎ (answer ≡ number_of BadRun)
      → (found : Checked) × (answer ≡ check_status found) × Finds (reads.left source) found
      × Appends (writes.sent out) (writes.sent out_now) (check_line found) × (writes.failed out_now ≡ writes.failed out)
      × (card_now ≡ Card.Found found)
  -- With `Write` it gained a front of that line, and one of its calls failed.
  pub lost : answer ≡ number_of Write → (found : Checked) × Finds (reads.left source) found
      × ((n : ℕ) × Appends (writes.sent out) (writes.sent out_now) (take n (check_line found))) × Rose (writes.failed out) (writes.failed out_now)
      × (card_now ≡ Card.Blank)
  -- With `Read` a read failed, and with `Memory` there was no memory: nothing was written.
  pub read : answer ≡ number_of Read
      → Rose (reads.failed source) (reads.failed source_now) × (out_now ≡ out) × (card_now ≡ Card.Blank)
  pub unmade : answer ≡ number_of Memory → (out_now ≡ out) × (card_now ≡ Card.Blank)
  -- With 0 the source was read to its end. Only with `Read` did a read fail, and only with `Write` a write.
  pub whole : answer ≡ 0 → IsAtEnd (reads.left source_now)
  pub unread : answer ≢ number_of Read → reads.failed source_now ≡ reads.failed source
  pub unwritten : answer ≢ number_of Write → writes.failed out_now ≡ writes.failed out
