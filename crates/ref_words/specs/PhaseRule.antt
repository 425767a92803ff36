-- Phases: what the phase words say of how far the card and the applications have come, and what follows from that.
use Rattle.std.specs.Prelude.{◌≡◌, ℕ, ◌+◌, Bool, true, ◌<◌, if◌then◌else◌, List, [], None, IfSome, slice_index, slice_set, All}
use Rattle.area_layout.specs.Layout.{pool_buffers}
use Rattle.board_face.specs.{NicCalls.{HasNoToken}, AppCalls.{CanLeave}, Holders.{on_way}, OwnBuffers.{CardLiesInPool, AppLiesInOwn}}
use Rattle.board_face.specs.declared.views.{parts.Setting.{Setting}, nic.NicSide.{NicSide}, app.AppSide.{AppSide}}
use Rattle.ref_words.specs.Words.{Words}

-- the phase word of a role: 1 where it is over
abbrev pub phase_word : Bool → ℕ
phase_word over = if over then 1 else 0

-- the words with a role's phase word 1
abbrev pub with_phase : Words → ℕ → Words
with_phase w r = record w { phases = slice_set w.phases r 1 }

-- A card that has ended has no token out and no piece in the making.
pub record CardHasNone (nic : NicSide) : Type 0 where
  pub none : HasNoToken nic.view
  pub idle : nic.inside.making ≡ None

-- An application's phase word is 1 exactly where it has left, and it could leave then. Where it has seen that the card had ended, the
-- card has. Once it was told the end, the card has ended and no note is on its way.
pub record IsAppPhased (phases : List ℕ) (nic : NicSide) (app : AppSide) : Type 0 where
  pub word : slice_index phases (1 + app.view.app) ≡ phase_word app.view.left
  pub left : app.view.left ≡ true → CanLeave app.view
  pub seen : app.inside.end_seen ≡ true → nic.view.ended ≡ true
  pub told : app.view.ended ≡ true → (nic.view.ended ≡ true) × (on_way nic app ≡ [])
  -- what it holds lies in pool buffers, and what it filled or lent in these or in its reserve
  pub lies : AppLiesInOwn app.view

-- the piece in the making lies in a pool buffer
abbrev pub IsMadeInPool : NicSide → Type 0
IsMadeInPool nic = IfSome nic.inside.making (λ making. making.place.buffer < pool_buffers nic.view.setting.layout)

-- The card's phase word is 1 exactly where it has ended, and so is that of each application that it saw to have left. Its pieces, that
-- in the making too, and the notes that it sent lie in pool buffers.
pub record HasPhases (phases : List ℕ) (nic : NicSide) (apps : List AppSide) : Type 0 where
  pub word : slice_index phases 0 ≡ phase_word nic.view.ended
  pub ended : nic.view.ended ≡ true → CardHasNone nic
  pub gone : All (λ a. slice_index phases (1 + a) ≡ 1) nic.view.gone
  pub lies : CardLiesInPool nic.view
  pub made : IsMadeInPool nic
  pub sides : All (IsAppPhased phases nic) apps

-- No other words than those of the phases are read.
abbrev pub PhaseRule : Setting → Words → NicSide → List AppSide → Type 0
PhaseRule setting words nic apps = HasPhases words.phases nic apps
