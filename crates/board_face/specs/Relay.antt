-- Relay: what was sent is what was taken, in order, each once.
use Rattle.std.specs.{Prelude.{◌≡◌, ℕ, Bool, true, false, ◌==◌, if◌then◌else◌, List, [], ◌++◌, length, map, filter, All}, List.{zip}}
use Rattle.board_face.specs.declared.views.{nic.{Fate.{Fate, TheVariants.{Honoured, Stray}}, Dealt.{Dealt}, SentNote.{SentNote}}, app.WrittenEntry.{WrittenEntry}}
use Rattle.board_face.specs.{declared.views.{nic.NicSide.{NicSide}, app.{TakenNote.{TakenNote}, Reading.{Reading}, AppSide.{AppSide}}}, Holders.{sent_to}}
use Rattle.board_face.specs.{Texts.{IsSplitNote, IsLinearNote}, Shown.{origin_bytes}}
use Rattle.zr_kinds.specs.declared.ring.Rqe.{Rqe}

-- a note as the application takes it: with its bytes, where these travel in it
abbrev pub as_taken : SentNote → TakenNote
as_taken s = record { note = s.note; bytes = if s.note.split then [] else s.bytes }

-- a note as it may be sent, with as many bytes as it tells of
pub record IsProper (s : SentNote) : Type 0 where
  pub split : s.note.split ≡ true → IsSplitNote s.note
  pub linear : s.note.split ≡ false → IsLinearNote s.note × (length s.bytes ≡ s.note.total)

-- the entries of an application that the card has dealt with
abbrev pub dealt_entries : ℕ → NicSide → List Rqe
dealt_entries a nic = map (λ d. d.entry) (filter (λ d. d.app == a) nic.view.dealt)

-- what was read are the bytes of its origin
abbrev pub IsAsSent : List SentNote → Reading → Type 0
IsAsSent notes reading = reading.bytes ≡ origin_bytes notes reading.origin (length reading.bytes)

-- what lies in the slots of an application, notes and refill entries, is what is on its way
pub record Relayed (nic : NicSide) (app : AppSide) (in_notes : List TakenNote) (in_refill : List Rqe) : Type 0 where
  pub notes : app.view.taken ++ in_notes ≡ map as_taken (sent_to app.view.app nic)
  pub reads : All (IsAsSent (sent_to app.view.app nic)) app.view.reads
  pub entries : dealt_entries app.view.app nic ++ in_refill ≡ map (λ w. w.entry) app.view.written

-- an entry that came from a loan wasn't a stray
abbrev pub IsNoLoanStray : WrittenEntry × Dealt → Type 0
IsNoLoanStray pair = pair.0.of_loan ≡ true → is_stray pair.1.fate ≡ false
  where
    is_stray : Fate → Bool
    is_stray Stray = true
    is_stray (Honoured buffer) = false

-- no entry of this application that came from a loan was judged a stray
abbrev pub HasNoLoanStray : NicSide → AppSide → Type 0
HasNoLoanStray nic app = All IsNoLoanStray (zip app.view.written (filter (λ d. d.app == app.view.app) nic.view.dealt))
