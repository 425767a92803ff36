-- What goes from the reading to the card.
use Rattle.std.specs.{Prelude.{◌≡◌, ℕ, ◌+◌, ◌≤◌, Bool, true, false, List, length}, List.{list_any}}
use Rattle.zr_kinds.specs.Limits.{longest_record, most_records}
use Rattle.card_feed.specs.declared.arrived.Arrived.{Arrived}
use Rattle.card_feed.specs.declared.arrived.Arrived.TheVariants as arrived
use Rattle.replay_threads.specs.declared.carried.Carried.{Carried, TheVariants.{Frame, Over}}

-- the reading ended
abbrev pub is_end : Carried → Bool
is_end (Frame number found bytes) = false
is_end (Over end) = true

-- one of these says that the reading ended
abbrev pub has_end : List Carried → Bool
has_end messages = list_any is_end messages

-- the number of the record, if it is one
abbrev pub record_number_or : ℕ → Carried → ℕ
record_number_or other (Frame number found bytes) = number
record_number_or other (Over end) = other

-- how many bytes its frame has, and how many the record states
abbrev pub frame_len_of : Carried → ℕ
frame_len_of (Frame number found bytes) = length bytes.items
frame_len_of (Over end) = 0

abbrev pub captured_of : Carried → ℕ
captured_of (Frame number found bytes) = found.captured
captured_of (Over end) = 0

-- A message may come behind these. They don't say that the reading ended; and if it is a record, it has the next number, of those
-- that are read at most, and its frame as many bytes as it states, which are no more than a record may have.
pub record MayFollow (before : List Carried) (message : Carried) : Type 0 where
  pub goes : has_end before ≡ false
  pub numbered : record_number_or (length before + 1) message ≡ length before + 1
  pub limit : record_number_or 0 message ≤ most_records
  pub whole : frame_len_of message ≡ captured_of message
  pub most : captured_of message ≤ longest_record

-- what a message brings
abbrev pub arrived_of : Carried → Arrived
arrived_of (Frame number found bytes) = arrived.Frame found bytes
arrived_of (Over end) = arrived.Over end
