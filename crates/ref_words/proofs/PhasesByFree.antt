-- Phases stay told by each step at the free list, and by the looks by which an application comes to rest or falls quiet.
use Rattle.std.proofs.Common.{◌≡◌, ℕ, Bool, true, false, List, set, refl}
use Rattle.board_face.specs.{Sides.{IsApp}, declared.views.{parts.Setting.{Setting}, nic.NicSide.{NicSide}, app.AppSide.{AppSide}}}
use Rattle.ref_words.specs.{Words.{Words}, FreeSteps.{side_swept, side_nic_listed, side_app_listed, side_word_looked, side_bit_cleared}}
use Rattle.ref_words.{specs.{RestSteps.{side_raw_looked, side_any_looked, side_last_looked}, PhaseRule.{PhaseRule}}, proofs.Phases.{phases-still, phases-kept}}

module _ (setting : Setting) (words : Words) (nic : NicSide) (apps : List AppSide) (was : PhaseRule setting words nic apps) where
  -- ---- the card

  pub swept-phases : (word n : ℕ) → PhaseRule setting words (side_swept nic word n) apps
  swept-phases word n = phases-still words.phases nic apps was (side_swept nic word n) refl refl refl refl refl refl refl

  pub nic_listed-phases : (b : ℕ) → PhaseRule setting words (side_nic_listed nic b) apps
  nic_listed-phases b = phases-still words.phases nic apps was (side_nic_listed nic b) refl refl refl refl refl refl refl

  -- ---- an application

  module _ (a : ℕ) (app : AppSide) (here : IsApp apps a app) where
    kept : (now : AppSide) → now.view.app ≡ app.view.app → now.view.left ≡ app.view.left → now.inside.end_seen ≡ app.inside.end_seen
        → now.view.ended ≡ app.view.ended → now.view.taken ≡ app.view.taken → now.view.scrubbed ≡ app.view.scrubbed
        → now.view.helds ≡ app.view.helds → now.view.owns ≡ app.view.owns → now.view.loans ≡ app.view.loans
        → now.view.returned ≡ app.view.returned → now.view.setting ≡ app.view.setting → PhaseRule setting words nic (set apps a now)
    kept = phases-kept words.phases nic apps was a app here

    pub app_listed-phases : (b : ℕ) → PhaseRule setting words nic (set apps a (side_app_listed app b))
    app_listed-phases b = kept (side_app_listed app b) refl refl refl refl refl refl refl refl refl refl refl

    pub word_looked-phases : (word : ℕ) (none : Bool) → PhaseRule setting words nic (set apps a (side_word_looked app word none))
    word_looked-phases word true = kept (side_word_looked app word true) refl refl refl refl refl refl refl refl refl refl refl
    word_looked-phases word false = kept (side_word_looked app word false) refl refl refl refl refl refl refl refl refl refl refl

    pub bit_cleared-phases : (word b : ℕ) (listed : Bool) → PhaseRule setting words nic (set apps a (side_bit_cleared app word b listed))
    bit_cleared-phases word b true = kept (side_bit_cleared app word b true) refl refl refl refl refl refl refl refl refl refl refl
    bit_cleared-phases word b false = kept (side_bit_cleared app word b false) refl refl refl refl refl refl refl refl refl refl refl

    pub raw_looked-phases : (free : Bool) → PhaseRule setting words nic (set apps a (side_raw_looked app free))
    raw_looked-phases true = kept (side_raw_looked app true) refl refl refl refl refl refl refl refl refl refl refl
    raw_looked-phases false = kept (side_raw_looked app false) refl refl refl refl refl refl refl refl refl refl refl

    pub any_looked-phases : (s : ℕ) (free : Bool) → PhaseRule setting words nic (set apps a (side_any_looked app s free))
    any_looked-phases s true = kept (side_any_looked app s true) refl refl refl refl refl refl refl refl refl refl refl
    any_looked-phases s false = kept (side_any_looked app s false) refl refl refl refl refl refl refl refl refl refl refl

    pub last_looked-phases : (s : ℕ) (free : Bool) → PhaseRule setting words nic (set apps a (side_last_looked app s free))
    last_looked-phases s true = kept (side_last_looked app s true) refl refl refl refl refl refl refl refl refl refl refl
    last_looked-phases s false = kept (side_last_looked app s false) refl refl refl refl refl refl refl refl refl refl refl
