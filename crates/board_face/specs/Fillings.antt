-- Buffers that are being filled: a buffer is filled by one at most, the card or an application. A filling begins only where
-- nobody has the buffer, so a spare's buffer has no other holder.
use Rattle.std.specs.Prelude.{◌≡◌, ℕ, ◌<◌, ◌≤◌, Bool, true, false, List, All, count_by}
use Rattle.area_layout.specs.Layout.{pool_buffers, all_buffers, size_of}
use Rattle.board_face.specs.{Tokens.{FitsBuffer}, Holders.{Kind, own, piece, sent, held, spare, loan, owed, returning, holders_of}, Counts.{pool_count}}
use Rattle.board_face.specs.declared.views.{nic.NicSide.{NicSide}, app.AppSide.{AppSide}}

-- a holding of a buffer that is being filled
abbrev pub is_filling : Kind → Bool
is_filling own = true
is_filling (piece p) = false
is_filling (sent a p) = false
is_filling (held a p) = false
is_filling (spare a) = true
is_filling (loan a p) = false
is_filling (owed a p) = false
is_filling (returning a p) = false

pub record IsFilledByOne (b : ℕ) (nic : NicSide) (apps : List AppSide) : Type 0 where
  pub one : count_by is_filling (holders_of b nic apps) ≤ 1
  pub alone : All (λ app. All (λ s. s.own.buffer ≡ b → pool_count b nic apps ≡ 1) app.view.owns) apps
  -- no buffer behind the area has a holder
  pub inside : all_buffers nic.view.setting.layout ≤ b → pool_count b nic apps ≡ 0

-- What is being filled is what a token of it shows: the card's buffers are of the pool, and all have their layout's size.
pub record FillingsFit (nic : NicSide) (apps : List AppSide) : Type 0 where
  pub of_pool : All (λ o. o.buffer < pool_buffers nic.view.setting.layout) nic.view.owns
  pub card : All (λ o. FitsBuffer o × (o.size ≡ size_of nic.view.setting.layout o.buffer)) nic.view.owns
  pub sides : All (λ app. All (λ s. FitsBuffer s.own × (s.own.size ≡ size_of nic.view.setting.layout s.own.buffer)) app.view.owns) apps
