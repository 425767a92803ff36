-- The end of a board that all roles have left: each pool buffer is free once, and every application was served.
use Rattle.std.specs.Prelude.{◌≡◌, ℕ, ◌<◌, true, List, length, map, All, nat_eq, count_by}
use Rattle.board_face.specs.{Holders.{sent_to}, Relay.{as_taken, IsAsSent, IsProper, dealt_entries, HasNoLoanStray}, Sides.{AreNumbered, HaveOneSetting}}
use Rattle.board_face.specs.declared.views.{nic.NicSide.{NicSide}, app.AppSide.{AppSide}}

-- Each pool buffer stands in the list once, and nothing else does.
pub record IsEachOnce (buffers : ℕ) (free : List ℕ) : Type 0 where
  pub many : length free ≡ buffers
  pub once : (b : ℕ) → b < buffers → count_by (nat_eq b) free ≡ 1

-- What an application took is what was sent to it, what it read is what was sent, the card has dealt with each entry that it
-- wrote, in order, and no entry of a loan was a stray.
pub record IsServed (nic : NicSide) (app : AppSide) : Type 0 where
  pub taken : app.view.taken ≡ map as_taken (sent_to app.view.app nic)
  pub reads : All (IsAsSent (sent_to app.view.app nic)) app.view.reads
  pub entries : dealt_entries app.view.app nic ≡ map (λ w. w.entry) app.view.written
  pub strays : HasNoLoanStray nic app

-- The sides of a board on which all is over: the card has ended and every application left, each with its number and one for each
-- that the board has. What was sent could be sent, and every application was served.
pub record HaveEnded (nic : NicSide) (apps : List AppSide) : Type 0 where
  pub card : nic.view.ended ≡ true
  pub left : All (λ app. app.view.left ≡ true) apps
  pub numbers : AreNumbered 0 apps
  pub one_setting : HaveOneSetting nic apps
  pub proper : All IsProper nic.view.sent
  pub served : All (IsServed nic) apps
