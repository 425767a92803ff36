-- What each front of a legal record says of the holders.
use Rattle.std.specs.Prelude.{◌≡◌, ℕ, ◌==◌, if◌then◌else◌, Bool, false, List, [], ◌∷◌, ◌++◌, length, count_by, Option, Some, None}
use Rattle.zr_kinds.specs.{declared.event.Event.{Event}, Setting.{Setting}, LegalRun.{IsLegalRun}, Holders.{Holdings, all_after, buffer_of_event, is_user, no_holdings}}
use Rattle.zr_kinds.specs.declared.event.Event.TheVariants as event

-- the pool count that an event says
abbrev pub pool_said : Event → Option ℕ
pool_said (event.Take b p) = Some p
pool_said (event.Place b o l p) = Some p
pool_said (event.Cut a b o l m p) = Some p
pool_said (event.Lend a b o l p u) = Some p
pool_said (event.Honour a b p u) = Some p
pool_said (event.Free a b o l p) = Some p
pool_said (event.Spare a b p) = Some p
pool_said (event.Own a b l p u) = Some p
pool_said (event.Shut b p) = Some p
pool_said (event.Scrub a b p u) = Some p
pool_said other = None

-- the user count that it says, behind the application whose it is
abbrev pub user_said : Event → Option (ℕ × ℕ)
user_said (event.Lend a b o l p u) = Some (a, u)
user_said (event.Back a b o l u) = Some (a, u)
user_said (event.Honour a b p u) = Some (a, u)
user_said (event.Own a b l p u) = Some (a, u)
user_said (event.Scrub a b p u) = Some (a, u)
user_said other = None

-- it names this buffer
abbrev pub is_of : ℕ → Option ℕ → Bool
is_of b None = false
is_of b (Some named) = named == b

-- the count that is said, or else the one before
abbrev pub said_or : ℕ → Option ℕ → ℕ
said_or before None = before
said_or before (Some p) = p

-- the same of the user count of an application
abbrev pub user_said_or : ℕ → ℕ → Option (ℕ × ℕ) → ℕ
user_said_or a before None = before
user_said_or a before (Some said) = if said.0 == a then said.1 else before

-- the pool count of a buffer that events said last, or else the one before them
abbrev pub pool_last : ℕ → ℕ → List Event → ℕ
pool_last b before [] = before
pool_last b before (e ∷ events) = pool_last b (if is_of b (buffer_of_event e) then said_or before (pool_said e) else before) events

-- and the user count of an application and a buffer
abbrev pub user_last : ℕ → ℕ → ℕ → List Event → ℕ
user_last a b before [] = before
user_last a b before (e ∷ events) = user_last a b (if is_of b (buffer_of_event e) then user_said_or a before (user_said e) else before) events

-- The events of a front lead from no holders to some. A buffer has as many as the pool count of it that was said last, or none, and an
-- application as many loans there, out or owed, as the user count of both that was said last, or none.
pub record FrontCounts (setting : Setting) (front : List Event) : Type 0 where
  pub holdings : Holdings
  pub reached : all_after setting no_holdings front ≡ Some holdings
  pub pool : (b : ℕ) → length (holdings b) ≡ pool_last b 0 front
  pub users : (a b : ℕ) → count_by (is_user a) (holdings b) ≡ user_last a b 0 front

-- of each front of a legal record
abbrev pub FrontsLaw : Type 0
FrontsLaw =
    (setting : Setting) (events : List Event) (whole : Bool) → IsLegalRun setting events whole
    → (front behind : List Event) → events ≡ front ++ behind → FrontCounts setting front
