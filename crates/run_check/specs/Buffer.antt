-- The holders of a buffer, as the code keeps them.
use Rattle.std.specs.Prelude.{◌≡◌, ℕ, ◌+◌, ◌<◌, List, [], ◌∷◌, ◌++◌, length, count_by, slice_index, replicate}
use Rattle.zr_kinds.specs.{declared.holding.Holding.{Holding}, Holders.{is_user}}
use Rattle.zr_kinds.specs.declared.holding.Holding.TheVariants as holding
use Rattle.run_check.specs.{declared.{buffer.{Keeper.{Keeper}, Buffer.TheInside.{Inside}}, places.OwnedPlace.{OwnedPlace}}, Places.{ArePlacesApart, all_placed}}
use Rattle.run_check.specs.declared.buffer.Keeper.TheVariants as keeper

abbrev pub holders_of_keeper : Keeper → List Holding
holders_of_keeper keeper.Nobody = []
holders_of_keeper keeper.Card = holding.Own ∷ []
holders_of_keeper (keeper.App app) = holding.Spare app ∷ []

-- the owed loans of each application from this number on
abbrev pub owed_from : ℕ → List ℕ → List Holding
owed_from app [] = []
owed_from app (count ∷ counts) = replicate count (holding.Owed app) ++ owed_from (app + 1) counts

abbrev pub holders_in : Inside → List Holding
holders_in buffer = holders_of_keeper buffer.keeper ++ (all_placed buffer.places.entries ++ owed_from 0 buffer.owed)

-- who has a spare buffer has it alone
abbrev pub LeavesNoPlace : Keeper → List (ℕ × OwnedPlace) → Type 0
LeavesNoPlace keeper.Nobody entries = Unit {0}
LeavesNoPlace keeper.Card entries = Unit {0}
LeavesNoPlace (keeper.App app) entries = entries ≡ []

-- the counts are those of the holders
pub record AreHoldersCounted (count : ℕ) (users : List ℕ) (held : List Holding) : Type 0 where
  pub pool : count ≡ length held
  pub user : (app : ℕ) → app < 8 → slice_index users app ≡ count_by (is_user app) held

pub record IsSoundBuffer (buffer : Inside) : Type 0 where
  pub apart : ArePlacesApart 0 buffer.places.entries
  pub alone : LeavesNoPlace buffer.keeper buffer.places.entries
  pub counted : AreHoldersCounted buffer.count buffer.users (holders_in buffer)
