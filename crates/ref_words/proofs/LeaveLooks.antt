-- The card looks whether an application has left.
use Rattle.std.{proofs.{Common.{◌≡◌, ℕ, ◌+◌, Bool, true, false, List, get_or, refl}, lemmas.Bool.{eqb-true}}, specs.Prelude.{◌==◌}}
use Rattle.std.proofs.lemmas.List.Elements.{All-push, All-weaker}
use Rattle.board_face.specs.declared.views.{parts.Setting.{Setting}, nic.NicSide.{NicSide}, app.AppSide.{AppSide}}
use Rattle.ref_words.{specs.{Words.{Words}, Rule.{RefRule}, PhaseRule.{IsAppPhased, PhaseRule}, PhaseSteps.{side_leave_looked}}, proofs.CardLooks.{RefRule-told}}
use Rattle.ref_words.proofs.{Phases.{phases-still}, SlotSteps.{no-word}}

module _ (setting : Setting) (words : Words) (nic : NicSide) (apps : List AppSide) (a : ℕ) (rule : RefRule setting words nic apps)
    (was : PhaseRule setting words nic apps) where
  looks : (left : Bool) → RefRule setting words (side_leave_looked nic a left) apps
  looks true = RefRule-told setting words nic apps rule _ _ _ words (no-word setting words rule.sizes) refl refl
  looks false = RefRule-told setting words nic apps rule _ _ _ words (no-word setting words rule.sizes) refl refl

  look-phases : (left : Bool) → (left ≡ true → get_or words.phases (1 + a) 0 ≡ 1) → PhaseRule setting words (side_leave_looked nic a left) apps
  look-phases true over = record {
    word = was.word;
    ended = λ e. let s = was.ended e in assumption (s.none, s);
    gone = All-push (λ k. get_or words.phases (1 + k) 0 ≡ 1) nic.view.gone a was.gone (over refl);
    lies = assumption was.lies;
    made = was.made;
    sides = All-weaker (IsAppPhased words.phases nic) (IsAppPhased words.phases (side_leave_looked nic a true))
        (λ app p. assumption p) apps was.sides;
  }
  look-phases false over = phases-still words.phases nic apps was (side_leave_looked nic a false) refl refl refl refl refl refl refl

  -- ---- by what the word says

  pub RefRule-looked : RefRule setting words (side_leave_looked nic a (get_or words.phases (1 + a) 0 == 1)) apps
  RefRule-looked = looks (get_or words.phases (1 + a) 0 == 1)

  pub looked-phases : PhaseRule setting words (side_leave_looked nic a (get_or words.phases (1 + a) 0 == 1)) apps
  looked-phases = look-phases (get_or words.phases (1 + a) 0 == 1) (λ e. eqb-true _ 1 e)
