-- The holders of a board's buffers as the record of its run says them. An owed loan has no place there, and a return on its
-- way is none: its loan has ended.
use Rattle.std.specs.{Prelude.{◌≡◌, ℕ, List, Option, Some, None}, List.{filter_map}}
use Rattle.zr_kinds.specs.{declared.holding.Holding.{Holding}, Holders.{Holdings}}
use Rattle.zr_kinds.specs.declared.holding.Holding.TheVariants as holding
pub use Rattle.zr_kinds.specs.Holders.{weight}
use Rattle.board_face.specs.{Holders.{Kind, own, piece, sent, held, spare, loan, owed, returning, holders_of}, Laws.{AllSides}}

abbrev pub plain : Kind → Option Holding
plain own = Some holding.Own
plain (piece p) = Some (holding.Piece p.offset p.len)
plain (sent a p) = Some (holding.Sent a p.offset p.len)
plain (held a p) = Some (holding.Held a p.offset p.len)
plain (spare a) = Some (holding.Spare a)
plain (loan a p) = Some (holding.Loan a p.offset p.len)
plain (owed a p) = Some (holding.Owed a)
plain (returning a p) = None

abbrev pub plain_holders : AllSides → ℕ → List Holding
plain_holders s b = filter_map plain (holders_of b s.nic s.apps)

-- The same holders, each as often, in any order: those of each buffer weigh the same, whatever each weighs.
abbrev pub AreHoldersOf : Holdings → AllSides → Type 0
AreHoldersOf holdings s = (b : ℕ) (weigh : Holding → ℕ) → weight weigh (holdings b) ≡ weight weigh (plain_holders s b)
