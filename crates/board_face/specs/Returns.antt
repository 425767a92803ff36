-- Refill entries on their way, and what they give back. It holds between two steps of a call too: an entry in hand may have its
-- user count lowered already, and is on its way until it was dealt with.
use Rattle.std.specs.Prelude.{⊤, ◌≡◌, ℕ, ◌+◌, ◌-◌, ◌≤◌, Bool, true, false, not, ◌==◌, if◌then◌else◌, List, []}
use Rattle.std.specs.Prelude.{◌∷◌, length, drop, count_by, All, Option, Some, None, IsSome}
use Rattle.area_layout.specs.Layout.{Shape, judged}
use Rattle.board_face.specs.{Holders.{lowered_in_hand, returned_in, owed_in}, Relay.{dealt_entries, HasNoLoanStray}, declared.views.nic.NicSide.{NicSide}}
use Rattle.board_face.specs.declared.views.app.{WrittenEntry.{WrittenEntry}, AppSide.{AppSide}}

-- the entries of an application that the card hasn't dealt with
abbrev pub entries_on_way : NicSide → AppSide → List WrittenEntry
entries_on_way nic app = drop (length (dealt_entries app.view.app nic)) app.view.written

abbrev pub is_some_of : Option ℕ → ℕ → Bool
is_some_of None b = false
is_some_of (Some buffer) b = buffer == b

-- the entry names this buffer
abbrev pub names : Shape → ℕ → WrittenEntry → Bool
names layout b w = is_some_of (judged layout w.entry) b

-- and came from a loan
abbrev pub returns : Shape → ℕ → WrittenEntry → Bool
returns layout b w = if w.of_loan then names layout b w else false

-- the loans of an application in a buffer
abbrev pub loans_out : ℕ → AppSide → ℕ
loans_out b app = count_by (λ l. l.place.buffer == b) app.view.loans

-- how many loans of an application in a buffer it abandoned: of those that it gave back or abandoned, the ones for which it
-- wrote no entry
abbrev pub abandoned_in : ℕ → AppSide → ℕ
abandoned_in b app = length (returned_in b app) - count_by (returns app.view.setting.layout b) app.view.written

-- it came from no loan
abbrev pub is_raw : WrittenEntry → Bool
is_raw w = not w.of_loan

abbrev pub IsOfLoan : WrittenEntry → Type 0
IsOfLoan w = w.of_loan ≡ true

-- an entry that came from a loan names a buffer
abbrev pub IsNamed : Shape → WrittenEntry → Type 0
IsNamed layout w = w.of_loan ≡ true → IsSome (judged layout w.entry)

-- Where an entry that came from no loan names the buffer, no loan is out there, and no entry of a loan there is behind it.
abbrev pub IsClear : Shape → ℕ → ℕ → List WrittenEntry → Type 0
IsClear layout b loans [] = ⊤
IsClear layout b loans (w ∷ ws) =
    (w.of_loan ≡ false → names layout b w ≡ true → (loans ≡ 0) × (count_by (returns layout b) ws ≡ 0)) × IsClear layout b loans ws

-- What is on its way from an application: each entry of a loan finds its loan still owed, but for one in hand whose user count
-- is lowered, and no more is owed than these and the loans that it abandoned. Once it has scrubbed, none is on its way.
pub record AreReturns (nic : NicSide) (app : AppSide) : Type 0 where
  pub written : (b : ℕ) → count_by (returns app.view.setting.layout b) app.view.written ≤ length (returned_in b app)
  pub owed : (b : ℕ) → count_by (returns app.view.setting.layout b) (entries_on_way nic app)
      ≤ length (owed_in b nic app) + lowered_in_hand app.view.app b nic.inside.entry
  pub no_more : (b : ℕ) → length (owed_in b nic app) + lowered_in_hand app.view.app b nic.inside.entry
      ≤ count_by (returns app.view.setting.layout b) (entries_on_way nic app) + abandoned_in b app
  pub clear : (b : ℕ) → IsClear app.view.setting.layout b (loans_out b app) (entries_on_way nic app)
  pub named : All (IsNamed app.view.setting.layout) (entries_on_way nic app)
  pub settled : app.view.settled ≡ true → All IsOfLoan (entries_on_way nic app)
  pub quiet : app.view.quiet ≡ true → entries_on_way nic app ≡ []
  pub scrubbed : app.view.scrubbed ≡ true → entries_on_way nic app ≡ []
  pub strays : HasNoLoanStray nic app
