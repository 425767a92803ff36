-- A stream that has taken no step, and a face that has left.
use Rattle.std.specs.Prelude.{◌≡◌, ℕ, true, false, []}
use Rattle.board_face.specs.declared.views.app.AppView.{AppView}
use Rattle.zc_poll.specs.Standing.{Desk}

-- this application has taken no note at its board, pushed nothing, and scrubbed nothing
pub record HasDoneNothing (app : ℕ) (v : AppView) : Type 0 where
  pub app_is : v.app ≡ app
  pub here : v.left ≡ false
  pub settled : v.settled ≡ true
  pub counted : v.scrubbed ≡ false
  pub ended : v.ended ≡ false
  pub taken : v.taken ≡ []
  pub helds : v.helds ≡ []
  pub owns : v.owns ≡ []
  pub loans : v.loans ≡ []
  pub returned : v.returned ≡ []
  pub written : v.written ≡ []
  pub spares : v.spares ≡ 0

abbrev pub new_stream_desk : ℕ → Desk
new_stream_desk app = record { app = app; notes = 0; flows = []; index = []; active = 0; stopped = false; ended = false; scrubbed = false }

-- its slots were seen free, and its user counts scrubbed
abbrev pub has_scrubbed : AppView → AppView
has_scrubbed v = record v { quiet = true; scrubbed = true }

-- and it left
abbrev pub has_left : AppView → AppView
has_left v = record v { quiet = true; scrubbed = true; left = true }
