-- Limits that several crates share: the constants of the code, as clauses name them.
use Rattle.std.specs.Prelude.{ℕ}
use Rattle.zr_kinds.specs.declared.limits.TheConstants.{LONGEST_PAYLOAD, LONGEST_RECORD, MOST_FLOWS, MOST_RECORDS}

-- how many flows a replay has at most
abbrev pub most_flows : ℕ
most_flows = MOST_FLOWS

-- how many bytes the payload of a TCP segment has at most
abbrev pub longest_payload : ℕ
longest_payload = LONGEST_PAYLOAD

-- how many records of a capture are read at most
abbrev pub most_records : ℕ
most_records = MOST_RECORDS

-- how many captured bytes a record has at most
abbrev pub longest_record : ℕ
longest_record = LONGEST_RECORD
