-- What a call answers for the log, beyond what its face says.
use Rattle.std.specs.Prelude.{◌≡◌, ℕ, ◌≤◌, Bool, List, length, ⊤}
use Rattle.zr_kinds.specs.declared.ring.Rqe.{Rqe}
use Rattle.board_face.specs.{Holders.{owed_in}, Laws.{TookAll, scrubbed_by}, NicEvents.{gave_up, honoured}, declared.answers.Entry.{Entry}}
use Rattle.board_face.specs.declared.answers.Entry.TheVariants.{Freed, Honoured, Stray, Empty}
use Rattle.plain_board.specs.Stand.{Stand, side_of}

-- no reference was given back
abbrev pub IsNoReturn : Entry → Type 0
IsNoReturn Freed = ⊥
IsNoReturn Honoured = ⊥
IsNoReturn Stray = ⊤
IsNoReturn Empty = ⊤

-- one was
abbrev pub IsReturn : Entry → Type 0
IsReturn Freed = ⊤
IsReturn Honoured = ⊤
IsReturn Stray = ⊥
IsReturn Empty = ⊥

-- The application owed a reference in the buffer, and an entry gave it back.
pub record GaveBack (old new : Stand) (a buffer : ℕ) : Type 0 where
  pub entry : Rqe
  pub last : Bool
  pub owed : 1 ≤ length (owed_in buffer old.nic (side_of old a))
  pub event : new.nic.view ≡ gave_up (honoured old.nic.view a entry buffer) buffer last

-- A scrub took all that the application owed, so much of each buffer in all.
pub record TookOwed (old new : Stand) (a : ℕ) : Type 0 where
  pub total : List ℕ
  pub all : TookAll old.nic (side_of old a) total
  pub side : side_of new a ≡ scrubbed_by (side_of old a) total
