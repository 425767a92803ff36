-- The card ends, or an application leaves.
use Rattle.std.{proofs.Common.{◌≡◌, ℕ, ◌+◌, ◌<◌, List, length, set, get_or, refl, ap, sym, ◌∙◌, subst, arith, ⊎_elim}, specs.Prelude.{◌≢◌, None}}
use Rattle.std.proofs.lemmas.{List.{length-set, get_or-set_same, get_or-set_other, Elements.{All-weaker}}, Bool.Decides.{eqb_tells}}
use Rattle.board_face.specs.{NicCalls.{HasNoToken}, AppCalls.{CanLeave}, Sides.{IsApp}, declared.views.{parts.Setting.{Setting}, nic.NicSide.{NicSide}}}
use Rattle.board_face.{specs.declared.views.app.AppSide.{AppSide}, proofs.SideLemmas.{IsApp-at}}
use Rattle.ref_words.specs.{Words.{Words}, Rule.{RefRule}, PhaseRule.{IsAppPhased, PhaseRule, with_phase}, PhaseSteps.{side_ended, side_left}}
use Rattle.ref_words.proofs.{AppLooks.{RefRule-looked}, CardLooks.{RefRule-told}, Phases.{phases-mine}, PhaseWords.{differ-phase}, RingSteps.{rings-app, rings-words}}

module _ (setting : Setting) (words : Words) (nic : NicSide) (apps : List AppSide) (rule : RefRule setting words nic apps)
    (was : PhaseRule setting words nic apps) where
  -- each role has a phase word
  many : length words.phases ≡ 1 + length apps
  many = omega (arith, rule.sizes.phases, rule.sides.set.many)

  -- ---- the card

  pub RefRule-over : RefRule setting (with_phase words 0) (side_ended nic) apps
  RefRule-over = RefRule-told setting words nic apps rule _ _ _ (with_phase words 0) (differ-phase setting words rule.sizes 0) refl refl

  pub over-phases : HasNoToken nic.view → nic.inside.making ≡ None → PhaseRule setting (with_phase words 0) (side_ended nic) apps
  over-phases none idle = record {
    word = get_or-set_same words.phases 0 1 0 (omega (arith, many));
    ended = λ e. record { none = assumption none; idle = idle };
    gone = All-weaker (λ a. get_or words.phases (1 + a) 0 ≡ 1) (λ a. get_or (set words.phases 0 1) (1 + a) 0 ≡ 1) (λ a is. other a ∙ is)
        nic.view.gone was.gone;
    lies = assumption was.lies;
    made = was.made;
    sides = All-weaker (IsAppPhased words.phases nic) (IsAppPhased (set words.phases 0 1) (side_ended nic))
        (λ app p. record {
          word = other app.view.app ∙ p.word;
          left = p.left;
          seen = λ e. refl;
          told = λ e. (refl, (p.told e).1);
          lies = p.lies;
        })
        apps was.sides;
  }
    where
      other : (a : ℕ) → get_or (set words.phases 0 1) (1 + a) 0 ≡ get_or words.phases (1 + a) 0
      other a = get_or-set_other words.phases 0 (1 + a) 1 0 (λ e. absurd (omega (arith, e)))

  -- ---- an application

  module _ (app : AppSide) (here : IsApp apps app.view.app app) where
    abbrev a : ℕ
    a = app.view.app

    abbrev phases' : List ℕ
    phases' = set words.phases (1 + a) 1

    there : 1 + a < length words.phases
    there = let h = here.there in omega (arith, many)

    other : (k : ℕ) → k ≢ 1 + a → get_or phases' k 0 ≡ get_or words.phases k 0
    other k ne = get_or-set_other words.phases (1 + a) k 1 0 ne

    pub RefRule-left : RefRule setting (with_phase words (1 + a)) nic (set apps a (side_left app))
    RefRule-left =
        let r = rule.sides.returns a app here in
        RefRule-looked setting words nic apps a app rule here (side_left app) refl r.settled r.quiet (λ e. e) (rule.sides.reserves a app here).unheld
        (with_phase words (1 + a)) (differ-phase setting words rule.sizes (1 + a))
        (rings-words setting words (with_phase words (1 + a)) nic (set apps a (side_left app)) refl refl
        (rings-app setting words nic apps a app (side_left app) here refl refl refl refl refl refl refl rule.rings))

    -- the words of the others stay
    left-side : CanLeave app.view → (k : ℕ) (d : AppSide) → k < length apps → IsAppPhased phases' nic (get_or (set apps a (side_left app)) k d)
    left-side can k d less =
        ⊎_elim
        (λ t. let e : k ≡ a = t.1 in
        let mine = phases-mine words.phases nic apps was a app here in
        let is : get_or (set apps a (side_left app)) k d ≡ side_left app = ap (λ n. get_or (set apps a (side_left app)) n d) e
        ∙ get_or-set_same apps a (side_left app) d here.there in
        subst (IsAppPhased phases' nic) (sym is) (record {
          word = get_or-set_same words.phases (1 + a) 1 0 there;
          left = λ _. assumption can;
          seen = mine.seen;
          told = mine.told;
          lies = assumption mine.lies;
        }))
        (λ t. let ne : k ≢ a = t.1 in
        let p = was.sides k d less in
        let number = (IsApp-at apps k d rule.sides.set.numbers less).number in
        subst (IsAppPhased phases' nic) (sym (get_or-set_other apps a k (side_left app) d ne)) (record {
          word = other (1 + (get_or apps k d).view.app) (λ e. ne (omega (arith, e, number))) ∙ p.word;
          left = p.left;
          seen = p.seen;
          told = p.told;
          lies = p.lies;
        }))
        (eqb_tells k a)

    pub left-phases : CanLeave app.view → PhaseRule setting (with_phase words (1 + a)) nic (set apps a (side_left app))
    left-phases can = record {
      word = other 0 (λ e. absurd (omega (arith, e))) ∙ was.word;
      ended = was.ended;
      gone = All-weaker (λ k. get_or words.phases (1 + k) 0 ≡ 1) (λ k. get_or phases' (1 + k) 0 ≡ 1)
          (λ k is. ⊎_elim
          (λ t. let e : k ≡ a = t.1 in ap (λ n. get_or phases' (1 + n) 0) e ∙ get_or-set_same words.phases (1 + a) 1 0 there)
          (λ t. let ne : k ≢ a = t.1 in other (1 + k) (λ e. ne (omega (arith, e))) ∙ is)
          (eqb_tells k a))
          nic.view.gone was.gone;
      lies = was.lies;
      made = was.made;
      sides = λ k d less. left-side can k d (omega (arith, less, length-set apps a (side_left app)));
    }
