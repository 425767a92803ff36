-- What holds of roles that are over: they were served, and nobody has a buffer.
use Rattle.std.specs.Prelude.{◌≡◌, ℕ, ◌+◌, ◌<◌, ◌≤◌, true, if◌then◌else◌, List, [], slice_index, All, nat_eq, count_by}
use Rattle.area_layout.specs.Layout.{pool_buffers}
use Rattle.board_face.specs.{Ended.{IsServed}, Holders.{nic_holders, app_holders}, Sides.{IsApp}, declared.views.{parts.Setting.{Setting}, nic.NicSide.{NicSide}}}
use Rattle.board_face.specs.declared.views.app.AppSide.{AppSide}
use Rattle.ref_words.specs.{Words.{Words, listed_bit}, Rule.{BoardRule}}

-- The card has ended, and has no free buffer in hand.
pub record CardIsOver (nic : NicSide) : Type 0 where
  pub ended : nic.view.ended ≡ true
  pub hands : nic.inside.hands ≡ []

-- The application has left. It has no free buffer in hand, and what its scrub took of user counts it took of pool counts too.
pub record AppIsOver (app : AppSide) : Type 0 where
  pub left : app.view.left ≡ true
  pub hands : app.inside.hands ≡ []
  pub lowered : (b : ℕ) → slice_index app.inside.scrub_owes b ≡ 0

-- A board under the rule: an application that has left was served, and who is over has no buffer. Once all are over each pool buffer
-- stands in one free place, the card's cache or the free list, and only pool buffers are cached.
pub record OverLaw : Type 0 where
  pub served : (setting : Setting) (words : Words) (nic : NicSide) (apps : List AppSide) (a : ℕ) (app : AppSide)
      → BoardRule setting words nic apps → IsApp apps a app → app.view.left ≡ true → IsServed nic app
  pub card : (setting : Setting) (words : Words) (nic : NicSide) (apps : List AppSide) (b : ℕ)
      → BoardRule setting words nic apps → CardIsOver nic → nic_holders b nic ≡ []
  pub app : (setting : Setting) (words : Words) (nic : NicSide) (apps : List AppSide) (a : ℕ) (app : AppSide) (b : ℕ)
      → BoardRule setting words nic apps → IsApp apps a app → AppIsOver app → app_holders b nic app ≡ []
  pub free : (setting : Setting) (words : Words) (nic : NicSide) (apps : List AppSide) (b : ℕ)
      → BoardRule setting words nic apps → CardIsOver nic → All AppIsOver apps → b < pool_buffers setting.layout
      → count_by (nat_eq b) nic.view.cache + (if listed_bit words b then 1 else 0) ≡ 1
  pub reserves : (setting : Setting) (words : Words) (nic : NicSide) (apps : List AppSide) (b : ℕ)
      → BoardRule setting words nic apps → pool_buffers setting.layout ≤ b → count_by (nat_eq b) nic.view.cache ≡ 0
