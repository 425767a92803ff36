-- The steps of a call together are the call's event.
use Rattle.std.specs.Prelude.{◌≡◌, ℕ, ◌+◌, ◌<◌, ◌≤◌, Bool, true, false, List, length, Some}
use Rattle.zr_kinds.specs.declared.{place.Place.{Place}, ring.Rqe.{Rqe}}
use Rattle.area_layout.specs.Layout.{pool_buffers, all_buffers, judged}
use Rattle.board_face.specs.{NicEvents.{text_done, placed, shut, gave_up, dealt, honoured, passed_over}, AppEvents.{released, got_spare, scrubbed}}
use Rattle.board_face.specs.Steps.{side_begun, side_shut, side_judged, side_user_lowered, side_both_lowered}
use Rattle.board_face.specs.{Steps.{side_released, side_picked, side_spare_begun, side_user_taken, side_owes_lowered}, declared.views.parts.Filling.{Filling}}
use Rattle.board_face.specs.declared.views.{nic.{Fate.TheVariants.{Honoured, Stray}, NicView.{NicView}, NicSide.{NicSide}}, app.AppSide.{AppSide}}

-- the card's view, once it judged an entry and lowered both counts
abbrev pub view_lowered : NicSide → ℕ → Rqe → ℕ → Bool → NicView
view_lowered nic a entry b last = (side_both_lowered (side_user_lowered (side_judged nic a entry b false) a entry b) a entry b last).view

pub record CardSteps : Type 0 where
  pub place : (nic : NicSide) (own : Filling) (bytes : List ℕ)
      → text_done (side_begun nic own (length bytes)).view own bytes ≡ placed nic.view own bytes
  pub shut : (nic : NicSide) (own : Filling) (last : Bool) → (side_shut nic own last).view ≡ shut nic.view own last
  pub honoured : (nic : NicSide) (a : ℕ) (entry : Rqe) (b : ℕ) (last : Bool)
      → dealt (view_lowered nic a entry b last) a entry (Honoured b) ≡ gave_up (honoured nic.view a entry b) b last
  pub stray : (nic : NicSide) (a : ℕ) (entry : Rqe) (b : ℕ) → judged nic.view.setting.layout entry ≡ Some b
      → dealt (side_judged nic a entry b true).view a entry Stray ≡ passed_over nic.view a entry

pub record AppSteps : Type 0 where
  pub release : (app : AppSide) (place : Place) (last : Bool) → (side_released app place last).view ≡ released app.view place
  pub spare : (app : AppSide) (buffer : ℕ) → (side_spare_begun (side_picked app buffer) buffer).view ≡ got_spare app.view buffer
  -- the reserve isn't picked
  pub reserve : (app : AppSide) (buffer : ℕ) → pool_buffers app.view.setting.layout ≤ buffer
      → (side_spare_begun app buffer).view ≡ got_spare app.view buffer
  -- what a scrub takes of one buffer changes nothing that faces speak of, but for the last one, with which it is done
  pub scrub : (app : AppSide) (b n : ℕ) (last : Bool) → b + 1 < all_buffers app.view.setting.layout → app.view.scrubbed ≡ false
      → (side_owes_lowered (side_user_taken app b n) b last).view ≡ app.view
  pub scrub_last : (app : AppSide) (b n : ℕ) (last : Bool) → b + 1 ≡ all_buffers app.view.setting.layout
      → (side_owes_lowered (side_user_taken app b n) b last).view ≡ scrubbed app.view
