-- How an application stands that goes on, within a turn.
use Rattle.std.specs.Prelude.{◌≡◌, ℕ, ◌≤◌, false, List, [], length, Option, None}
use Rattle.board_face.specs.{AppCalls.{IsHere}, declared.views.app.AppView.{AppView}}
use Rattle.app_worker.specs.{State.{State, Working, Common}, Moves.{Goes}, Whole.{Torn}}

-- it hasn't left, goes on, and stands as it should
pub record Works (st : State) (v : AppView) : Type 0 where
  pub here : IsHere v
  pub working : Working st v
  pub common : Common st v

-- and nothing is to be given back, written after a loan that was, or reaped
pub record NoneDue (st : State) (v : AppView) : Type 0 where
  pub works : Works st v
  -- A loan is due from its reading on, until it is given back or kept to the end: one at a time.
  pub due : st.due ≡ None
  -- As a loan is given back `how.stray` entries are left that are to follow it, and each that is written or dropped is one less.
  pub pushed : st.stray.left ≡ 0
  -- Each loan posts a completion. Reaping takes out all that are posted, and then they are unread.
  pub reaped : st.posted.entries ≡ []

-- and nothing is to be read: it may lend what is in order, and then look for a note
pub record MayLend (st : State) (v : AppView) : Type 0 where
  pub none : NoneDue st v
  pub more : st.ended ≡ false
  pub few : length st.unread ≤ st.how.hold
  pub flush : st.flush ≡ false

-- it goes on with no call of its shelf
pub record StillWorks (was now : State) (old new : AppView) : Type 0 where
  pub working : Working now new
  pub common : Common now new
  pub goes : (kept : ℕ → Option (List ℕ)) → Goes was now old new kept kept

-- it may give up all that it has out: it has not done so, nothing is posted, and no entry is to follow a loan
pub record MayLetGo (st : State) (v : AppView) : Type 0 where
  pub here : IsHere v
  pub torn : Torn st v
  pub common : Common st v
  pub reaped : st.posted.entries ≡ []
  pub not_yet : st.bare ≡ false
  pub pushed : st.stray.left ≡ 0
