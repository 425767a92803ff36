-- What a read takes of its source, and the bytes that it brings, whatever came before it.
use Rattle.std.{proofs.Common.{◌≡◌, ℕ, ◌≤◌, List, [], ◌++◌, length, Option, Some, None, Result, Ok, Err, refl, sym, subst, arith}, specs.Prelude.{IfOk, IfSome}}
use Rattle.zr_kinds.specs.{Limits.{longest_record}, declared.fault.Fault.{Fault}}
use Rattle.zr_io.{specs.Moved.{Took}, proofs.Moved.{Took-then, Took-weaker}}
use Rattle.pcap_reader.specs.{declared.capture.Record.{Record}, Records.{no_record, with_record}, Capture.{HasReadCause, TakenShows, TakenHeaderShows}}
use Rattle.pcapng_reader.specs.{Records.{Going, records_from, records_of, opening_fault}, Capture.{Reading, Opens, Gives}}
use Rattle.card_feed.specs.Coming.{TookBytes}

-- ---- what was taken

pub took-same : (a : Option (List ℕ)) → TookBytes a a
took-same None = tt
took-same (Some xs) = ([], refl, tt)

pub took-then : (a b c : Option (List ℕ)) → TookBytes a b → TookBytes b c → TookBytes a c
took-then a b c = Took-then a b c (λ taken. Unit {0}) (λ taken. Unit {0}) (λ taken. Unit {0}) (λ xs ys _ _. tt)

took-some : (a b : Option (List ℕ)) (P : List ℕ → Type 0) → Took a b P → TookBytes a b
took-some a b P = Took-weaker a b P (λ taken. Unit {0}) (λ taken _. tt)

pub took-opening : (a b : Option (List ℕ)) (result : Result Reading Fault) → Opens a b result → TookBytes a b
took-opening a b (Ok capture) opens = took-some a b (λ taken. (rest : List ℕ) → records_of (taken ++ rest) ≡ records_from capture.going rest) opens.1
took-opening a b (Err fault) opens = took-some a b (λ taken. TakenHeaderShows (opening_fault taken) fault) opens.2

took-record : (going later : Going) (a b : Option (List ℕ)) (frame : List ℕ) (result : Result (Option Record) Fault)
    → Gives going later a b frame result
    → TookBytes a b
took-record going later a b frame (Ok (Some found)) gives =
    took-some a b (λ taken. (rest : List ℕ) → records_from going (taken ++ rest) ≡ with_record frame found.original (records_from later rest)) gives.1
took-record going later a b frame (Ok None) gives = took-some a b (λ taken. records_from going taken ≡ no_record None) gives.1
took-record going later a b frame (Err fault) gives = took-some a b (λ taken. TakenShows (records_from going taken) fault) gives.2

-- ---- a read behind which the capture keeps this fault

module _ {S : Type 0} (left : S → Option (List ℕ)) (faults : S → ℕ) (old now : S) (going later : Going) (frame : List ℕ)
    (result : Result (Option Record) Fault) where
  pub next-further : (kept : Option Fault) → (kept ≡ None → Gives going later (left old) (left now) frame result)
      → IfSome kept (λ fault. (result ≡ Err fault) × (now ≡ old)) → TookBytes (left old) (left now)
  next-further None gives stopped = took-record going later (left old) (left now) frame result (gives refl)
  next-further (Some fault) gives stopped = subst (λ (s : S). TookBytes (left old) (left s)) (sym stopped.1) (took-same (left old))

  pub next-later : (kept : Option Fault) → (kept ≡ None → HasReadCause (faults old) (faults now) result)
      → IfSome kept (λ fault. (result ≡ Err fault) × (now ≡ old)) → faults old ≤ faults now
  next-later None cause stopped = (cause refl).later
  next-later (Some fault) cause stopped = subst (λ (s : S). faults old ≤ faults s) (sym stopped.1) (omega arith)

  pub next-bytes : (kept : Option Fault) → (kept ≡ None → Gives going later (left old) (left now) frame result)
      → IfSome kept (λ fault. (result ≡ Err fault) × (now ≡ old))
      → IfOk result (λ found. IfSome found (λ one. one.captured ≤ longest_record))
      → IfOk result (λ found. IfSome found (λ one. (length frame ≡ one.captured) × (one.captured ≤ longest_record)))
  next-bytes None gives stopped most = bytes_of result (gives refl) most
    where
      bytes_of : (made : Result (Option Record) Fault) → Gives going later (left old) (left now) frame made
          → IfOk made (λ found. IfSome found (λ one. one.captured ≤ longest_record))
          → IfOk made (λ found. IfSome found (λ one. (length frame ≡ one.captured) × (one.captured ≤ longest_record)))
      bytes_of (Ok (Some found)) gave few = (sym gave.0, few)
      bytes_of (Ok None) gave few = tt
      bytes_of (Err fault) gave few = tt
  next-bytes (Some fault) gives stopped most =
      subst (λ (made : Result (Option Record) Fault). IfOk made (λ found. IfSome found (λ one. (length frame ≡ one.captured) × (one.captured ≤ longest_record))))
      (sym stopped.0) tt
