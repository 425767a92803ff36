-- Whatever the steps, the rule is kept: by the laws of the opening, of roles, and of each role's steps, step after step.
use Rattle.std.{proofs.{Common.{◌≡◌, ℕ, ◌<◌, List, [], ◌∷◌, set, refl, sym, subst, arith}, lemmas.List.Elements.{All-weaker}}, specs.Prelude.{◌≤◌, All}}
use Rattle.area_layout.specs.Layout.{IsLayout, all_buffers}
use Rattle.board_face.specs.{Counts.{pool_count}, Holders.{sent_to}, Relay.{IsAsSent}, declared.views.{parts.Setting.{Setting}, nic.NicSide.{NicSide}}}
use Rattle.board_face.{specs.declared.views.app.AppSide.{AppSide}, proofs.FreeLemmas.{user_count-le}}
use Rattle.ref_words.specs.{Words.{Words}, Seated.{Seated, card_seat_view, app_seat_view, side_at}, Rule.{BoardRule}}
use Rattle.ref_words.specs.{Laws.{OpenLaw, SplitLaw, JoinLaw, TakeRoleLaw}, RoleLaws.{CardLaw, AppLaw}, TextRule.{HasTexts}}
use Rattle.ref_words.specs.Runs.{BoardState, SeatStep, CardWordStep, AppWordStep, card_words, card_after, app_words, app_after}
use Rattle.ref_words.specs.Runs.{May, MayRun, after_step, run_of, opened_state, view_of_seat, most_holders, Keeps, BoardHolds}
use Rattle.ref_words.proofs.{Beginning.{holders-few}, Roles.{card-moves, app-is, app-moves}}
use Rattle.ref_words.proofs.AppNumbers.{refill_looked-number, slot_looked-number, raw_looked-number, any_looked-number, last_looked-number}
use Rattle.ref_words.proofs.AppNumbers.{word_looked-number, bit_cleared-number, end_looked-number, note_sought-number, reserve_looked-number}
use Rattle.ref_words.specs.Runs

pub record AreLaws : Type 0 where
  pub opened : OpenLaw
  pub role_is_dealt : SplitLaw
  pub seats_join : JoinLaw
  pub role_is_taken : TakeRoleLaw
  pub card_keeps_the_rule : CardLaw
  pub app_keeps_the_rule : AppLaw

module _ (laws : AreLaws) (setting : Setting) where
  -- a step of a role leaves the words of roles
  card-roles : (words : Words) (nic : NicSide) (step : CardWordStep) → (card_words setting words nic step).roles ≡ words.roles
  card-roles words nic (Runs.takes b) = refl
  card-roles words nic _ = refl

  app-roles : (words : Words) (app : AppSide) (step : AppWordStep) → (app_words setting words app step).roles ≡ words.roles
  app-roles words app (Runs.takes_picked b) = refl
  app-roles words app _ = refl

  -- and one of an application its number
  app-number : (words : Words) (app : AppSide) (step : AppWordStep) → (app_after setting words app step).view.app ≡ app.view.app
  app-number words app Runs.looks_refill = refill_looked-number app _
  app-number words app (Runs.looks_any s) = any_looked-number app s _
  app-number words app (Runs.looks_last s) = last_looked-number app s _
  app-number words app (Runs.looks_raw s) = raw_looked-number app _
  app-number words app Runs.looks_slot = slot_looked-number app _
  app-number words app (Runs.looks_word j) = word_looked-number app j _
  app-number words app (Runs.clears_bit b) = bit_cleared-number app _ b _
  app-number words app Runs.looks_end = end_looked-number app _
  app-number words app Runs.seeks_note = note_sought-number app _
  app-number words app Runs.looks_reserve = reserve_looked-number app _
  app-number words app _ = refl

  -- ---- any step

  step-keeps : (s : BoardState) (step : SeatStep) → Keeps setting s → May setting s step → Keeps setting (after_step setting s step)
  step-keeps s (Runs.deals r) keeps may = record {
    seated = laws.role_is_dealt setting s.words.roles s.views s.nic s.apps r (view_of_seat s 0) keeps.seated may.0 may.1;
    rule = keeps.rule;
  }
  step-keeps s (Runs.joins id other) keeps may = record {
    seated = laws.seats_join setting s.words.roles s.views s.nic s.apps id other (view_of_seat s id) (view_of_seat s other) keeps.seated may.0 may.1 may.2
        may.3 may.4;
    rule = keeps.rule;
  }
  step-keeps s (Runs.becomes_card id) keeps may =
      assumption (laws.role_is_taken.card setting s.words s.views s.nic s.apps id keeps.seated keeps.rule may)
  step-keeps s (Runs.becomes_app id a) keeps may =
      assumption (laws.role_is_taken.app setting s.words s.views s.nic s.apps id a keeps.seated keeps.rule may.0 may.1)
  step-keeps s (Runs.by_card id step) keeps may =
      let now = card_after setting s.words s.nic step in
      record {
        seated = subst (λ roles. Seated setting roles (set s.views id (card_seat_view now)) now s.apps) (sym (card-roles s.words s.nic step))
            (card-moves setting s.words.roles s.views s.nic s.apps keeps.seated id s.nic now may.0);
        rule = (laws.card_keeps_the_rule setting s.words s.nic s.apps step keeps.rule may.1).rule;
      }
  step-keeps s (Runs.by_app id a step) keeps may =
      let mine = side_at setting s.apps a in
      let now = app_after setting s.words mine step in
      let many = keeps.rule.refs.sides.set.many in
      let moved = app-moves setting s.words.roles s.views s.nic s.apps keeps.seated id mine now may.0 (app-number s.words mine step) many in
      let here = app-is setting s.words.roles s.views s.nic s.apps keeps.seated id mine may.0 many in
      record {
        seated = subst (λ roles. Seated setting roles (set s.views id (app_seat_view now)) s.nic (set s.apps a now)) (sym (app-roles s.words mine step))
            (subst (λ n. Seated setting s.words.roles (set s.views id (app_seat_view now)) s.nic (set s.apps n now)) may.1 moved);
        rule = subst (λ n. BoardRule setting (app_words setting s.words mine step) s.nic (set s.apps n now)) may.1
            (laws.app_keeps_the_rule setting s.words s.nic s.apps mine step keeps.rule here may.2).rule;
      }

  steps-keep : (steps : List SeatStep) (s : BoardState) → Keeps setting s → MayRun setting s steps → Keeps setting (run_of setting s steps)
  steps-keep [] s keeps may = keeps
  steps-keep (step ∷ steps) s keeps may = steps-keep steps (after_step setting s step) (step-keeps s step keeps may.0) may.1

  -- what follows from the rule
  holds : (s : BoardState) → Keeps setting s → BoardHolds setting s
  holds s keeps = let rule = keeps.rule.refs in
      let few : (b : ℕ) → b < all_buffers setting.layout → pool_count b s.nic s.apps ≤ most_holders =
      λ b small. omega (arith, rule.pool b small, holders-few setting s.words s.nic s.apps b rule small) in
      record {
        pool = rule.pool;
        users = rule.users;
        pool_few = few;
        users_few = λ a b app small. omega (arith, user_count-le a b s.nic s.apps, few b small);
        free = rule.free;
        shown = keeps.rule.texts.shown;
        reads = All-weaker (HasTexts setting.layout s.words.area s.nic) (λ app. All (IsAsSent (sent_to app.view.app s.nic)) app.view.reads)
            (λ app has. has.reads) s.apps keeps.rule.texts.others;
      }

  pub runs : (steps : List SeatStep) → IsLayout setting.layout → 0 < setting.places → MayRun setting (opened_state setting) steps
      → Keeps setting (run_of setting (opened_state setting) steps) × BoardHolds setting (run_of setting (opened_state setting) steps)
  runs steps layout places may =
      let first = laws.opened setting layout places in
      let kept = steps-keep steps (opened_state setting) (assumption first) may in
      (kept, holds (run_of setting (opened_state setting) steps) kept)
