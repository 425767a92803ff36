-- The steps of a board that change more of a side than its view: a scrub, and on a board of words the single steps of a call by which
-- a holding ends or begins. Each is a value, as those of BoardSteps, with its condition, its effect, and what it ends and begins.
--
-- | Step         | can be made where                                                    | its effect          | ends           | begins       |
-- | begins       | the card fills the buffer (`HasOwn`), no piece is in the making      | `side_begun`        | own            | own, piece   |
-- | completes    | this piece is in the making (`IsMaking`)                             | `side_text_done`    |                |              |
-- | shuts        | the card fills the buffer                                            | `side_shut`         | own            |              |
-- | lowers_user  | the entry in hand is a return there (`Owed`), and a loan is owed     | `side_user_lowered` | owed           | returning    |
-- | lowers_pool  | the user count is lowered for the entry in hand (`UserLowered`)      | `side_both_lowered` | returning      |              |
-- | releases     | the piece is held (`HasHeld`)                                        | `side_released`     | held           |              |
-- | begins_spare | always                                                               | `side_spare_begun`  |                | spare        |
-- | takes_users  | a scrub counts what it takes of this buffer (`IsScrubbing`)          | `side_user_taken`   | owed, n        | returning, n |
-- | lowers_owes  | a scrub counts what it takes of this buffer                          | `side_owes_lowered` | returning, all |              |
-- | scrubs       | no loan is out or returning, all that is owed is taken (`ScrubsAll`) | `scrubbed_by`       | owed, all      |              |
--
-- (iou-zcrx: an entry takes a user reference first, then one of the pool's; a scrub swaps each user count with 0, then takes as many of the
-- pool's.)
use Rattle.board_face.specs.{Laws.{pool_of, user_of}, Holdings.{used}}
use Rattle.std.specs.Prelude.{◌≡◌, ℕ, ◌+◌, ◌<◌, ◌≤◌, Bool, List, [], ◌∷◌, length, map, take, slice_index, slice_set, Some, None}
use Rattle.zr_kinds.specs.declared.{place.Place.{Place}, ring.Rqe.{Rqe}}
use Rattle.board_face.specs.{Tokens.{filled_by, next_place}, NicEvents.{fresh, text_done}, NicCalls.{HasOwn}, AppCalls.{HasHeld}, Sides.{IsApp, side_in}}
use Rattle.board_face.specs.{Holders.{returning_count, ended_in, owed_in, returning_in}}
use Rattle.board_face.specs.Steps.{side_begun, side_shut, side_user_lowered, side_both_lowered, side_released, side_spare_begun, side_user_taken, side_owes_lowered}
use Rattle.board_face.specs.{Laws.{AllSides, FitTogether, TookAll, scrubbed_by}, Holdings.{Hold, own, piece, held, spare, owed, returning, weight_in, weigh}}
use Rattle.board_face.specs.declared.views.{parts.{Filling.{Filling}, Making.{Making}}, nic.{Judged.TheVariants.{Owed, UserLowered}, NicSide.{NicSide}}}
use Rattle.board_face.specs.declared.views.app.AppSide.{AppSide}

pub data FineStep : Type 0 where
  begins : Filling → ℕ → FineStep
  completes : Filling → List ℕ → FineStep
  shuts : Filling → Bool → FineStep
  lowers_user : ℕ → Rqe → ℕ → FineStep
  lowers_pool : ℕ → Rqe → ℕ → Bool → FineStep
  releases : ℕ → Place → Bool → FineStep
  begins_spare : ℕ → ℕ → FineStep
  takes_users : ℕ → ℕ → ℕ → FineStep
  lowers_owes : ℕ → ℕ → Bool → FineStep
  scrubs : ℕ → List ℕ → FineStep

-- ---- its effect

-- the text of the piece in the making is complete
abbrev pub side_text_done : NicSide → Filling → List ℕ → NicSide
side_text_done nic it bytes = record { view = text_done nic.view it bytes; inside = record nic.inside { making = None } }

abbrev pub with_card : AllSides → NicSide → AllSides
with_card s nic = record { nic = nic; apps = s.apps }

abbrev pub with_app : AllSides → ℕ → AppSide → AllSides
with_app s a x = record { nic = s.nic; apps = slice_set s.apps a x }

abbrev pub fine_apply : FineStep → AllSides → AllSides
fine_apply (begins it n) s = with_card s (side_begun s.nic it n)
fine_apply (completes it bytes) s = with_card s (side_text_done s.nic it bytes)
fine_apply (shuts it last) s = with_card s (side_shut s.nic it last)
fine_apply (lowers_user a entry b) s = with_card s (side_user_lowered s.nic a entry b)
fine_apply (lowers_pool a entry b last) s = with_card s (side_both_lowered s.nic a entry b last)
fine_apply (releases a p last) s = with_app s a (side_released (side_in s.apps a) p last)
fine_apply (begins_spare a b) s = with_app s a (side_spare_begun (side_in s.apps a) b)
fine_apply (takes_users a b n) s = with_app s a (side_user_taken (side_in s.apps a) b n)
fine_apply (lowers_owes a b last) s = with_app s a (side_owes_lowered (side_in s.apps a) b last)
fine_apply (scrubs a all) s = with_app s a (scrubbed_by (side_in s.apps a) all)

-- ---- where it can be made

-- the piece in the making lies where the buffer's next bytes go
pub record IsMaking (nic : NicSide) (it : Filling) (n : ℕ) : Type 0 where
  pub making : Making
  pub busy : nic.inside.making ≡ Some making
  pub place : making.place ≡ next_place it n

-- a scrub counts what it takes of this buffer, and no more loans are returning than were ended
pub record IsScrubbing (buffer : ℕ) (nic : NicSide) (x : AppSide) : Type 0 where
  pub took : buffer < length x.inside.scrub_took
  pub owes : buffer < length x.inside.scrub_owes
  pub small : (b : ℕ) → returning_count b nic x ≤ ended_in b nic x

-- No loan is out, none is returning, and all is taken that is owed.
pub record ScrubsAll (nic : NicSide) (x : AppSide) (all : List ℕ) : Type 0 where
  pub loans : x.view.loans ≡ []
  pub idle : (b : ℕ) → returning_count b nic x ≡ 0
  pub took : TookAll nic x all

abbrev pub FineCan : FineStep → AllSides → Type 0
FineCan (begins it n) s = HasOwn s.nic.view it × (s.nic.inside.making ≡ None)
FineCan (completes it bytes) s = IsMaking s.nic it (length bytes)
FineCan (shuts it last) s = HasOwn s.nic.view it
FineCan (lowers_user a entry b) s =
    FitTogether s × IsApp s.apps a (side_in s.apps a) × (s.nic.inside.entry ≡ Some (record { app = a; entry = entry; judged = Owed b }))
    × (1 ≤ length (owed_in b s.nic (side_in s.apps a)))
FineCan (lowers_pool a entry b last) s =
    FitTogether s × IsApp s.apps a (side_in s.apps a) × (s.nic.inside.entry ≡ Some (record { app = a; entry = entry; judged = UserLowered b }))
FineCan (releases a p last) s = IsApp s.apps a (side_in s.apps a) × HasHeld (side_in s.apps a).view p
FineCan (begins_spare a b) s = IsApp s.apps a (side_in s.apps a)
FineCan (takes_users a b n) s = IsApp s.apps a (side_in s.apps a) × IsScrubbing b s.nic (side_in s.apps a)
FineCan (lowers_owes a b last) s = IsApp s.apps a (side_in s.apps a) × IsScrubbing b s.nic (side_in s.apps a)
FineCan (scrubs a all) s = IsApp s.apps a (side_in s.apps a) × ScrubsAll s.nic (side_in s.apps a) all

-- ---- which holdings end by it in a buffer, and which begin

abbrev pub fine_ends : FineStep → AllSides → ℕ → List Hold
fine_ends (begins it n) s b = own it ∷ []
fine_ends (shuts it last) s b = own it ∷ []
fine_ends (lowers_user a entry c) s b = map (owed a) (take 1 (owed_in c s.nic (side_in s.apps a)))
fine_ends (lowers_pool a entry c last) s b = map (returning a) (take 1 (returning_in c s.nic (side_in s.apps a)))
fine_ends (releases a p last) s b = held a p ∷ []
fine_ends (takes_users a c n) s b = map (owed a) (take n (owed_in c s.nic (side_in s.apps a)))
fine_ends (lowers_owes a c last) s b =
    map (returning a) (take (slice_index (side_in s.apps a).inside.scrub_owes c) (returning_in c s.nic (side_in s.apps a)))
fine_ends (scrubs a all) s b = map (owed a) (owed_in b s.nic (side_in s.apps a))
fine_ends step s b = []

abbrev pub fine_begins : FineStep → AllSides → List Hold
fine_begins (begins it n) s = own (filled_by it n) ∷ piece (next_place it n) ∷ []
fine_begins (lowers_user a entry c) s = map (returning a) (take 1 (owed_in c s.nic (side_in s.apps a)))
fine_begins (begins_spare a b) s = spare a (fresh (side_in s.apps a).view.setting b) 0 ∷ []
fine_begins (takes_users a c n) s = map (returning a) (take n (owed_in c s.nic (side_in s.apps a)))
fine_begins step s = []

-- The holdings of each buffer after such a step too are those before it but for the ended ones, and the begun ones.
abbrev pub FineExchangeLaw : Type 0
FineExchangeLaw =
    (step : FineStep) (s : AllSides) → FineCan step s → (w : Hold → ℕ) (b : ℕ)
    → weigh w b (fine_apply step s) + weight_in w b (fine_ends step s b) ≡ weigh w b s + weight_in w b (fine_begins step s)

-- So the counts go by them too.
pub record FineCounts (step : FineStep) (s : AllSides) : Type 0 where
  pub pool : (b : ℕ) → pool_of (fine_apply step s) b + weight_in (λ h. 1) b (fine_ends step s b) ≡ pool_of s b + weight_in (λ h. 1) b (fine_begins step s)
  pub users : (a b : ℕ) → user_of (fine_apply step s) a b + weight_in (used a) b (fine_ends step s b)
      ≡ user_of s a b + weight_in (used a) b (fine_begins step s)

abbrev pub FineCountsLaw : Type 0
FineCountsLaw = (step : FineStep) (s : AllSides) → FineCan step s → FineCounts step s
