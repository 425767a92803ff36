-- A turn of an application that did something brings it further, and none brings it back.
use Rattle.std.proofs.Common.{◌≡◌, ◌≢◌, ℕ, zero, suc, ◌+◌, ◌<◌, ◌≤◌, Bool, true, false, Some, set, List, [], ◌∷◌, Option, refl, sym, ap, ◌∙◌, subst, arith, ⊎_elim}
use Rattle.std.{specs.{Prelude.{MatchBool}, List.{slice_get}}, proofs.lemmas.Bool.{cases_Bool}}
use Rattle.zr_kinds.specs.declared.behaviour.Stopped.TheVariants as stop
use Rattle.zr_kinds.specs.declared.fault.Fault.TheVariants.{Memory as memory_fault, Write as write_fault}
use Rattle.board_face.specs.{declared.views.app.{AppView.{AppView}, AppSide.{AppSide}}, AppEvents.{app_gist}}
use Rattle.app_worker.specs.{State.{State, Bare, Working, one_if, app_steps}, Turns.{Turns, AnswersTurn}, declared.turn.Turn.{Turn}}
use Rattle.app_worker.specs.declared.turn.{Turn.TheVariants.{Did, Idle, Finished, Failed}, Why.{Why}}
use Rattle.plain_board.specs.Board.{Board, side_of}
use Rattle.replay_turns.specs.Steps.{worker_steps, steps_from, TurnsRise}
use Rattle.run_account.specs.declared.run.Worker.{Worker}

bare-stays : (was now : Bool) → (was ≡ true → now ≡ true) → one_if was ≤ one_if now
bare-stays true now stays = omega (arith, ap one_if (stays refl))
bare-stays false now stays = omega arith

module _ (was now : Worker) (old new : AppView) (kept kept_now : ℕ → Option (List ℕ)) (faults faults_now : ℕ) (result : Turn)
    (turns : Turns was.state now.state old new kept kept_now faults faults_now result) (here : was.left ≡ false)
    (gone : result ≡ Finished → now.left ≡ true) where
  still-bare : was.state.bare ≡ true → now.state.bare ≡ true
  still-bare is = ap (λ (st : State). st.bare) (turns.rests is).state ∙ is

  steps-later : app_steps was.state old ≤ app_steps now.state new
  steps-later = turns.goes.moves.steps

  bare-later : one_if was.state.bare ≤ one_if now.state.bare
  bare-later = bare-stays was.state.bare now.state.bare still-bare

  left-first : one_if was.left ≡ 0
  left-first = ap one_if here

  pub later : worker_steps old was ≤ worker_steps new now
  later = omega (arith, steps-later, bare-later, left-first)

  -- once it is stopped it has nothing any more
  stopped-bare : was.state.stopped ≡ stop.No → now.state.stopped ≢ stop.No → (was.state.bare ≡ false) × (now.state.bare ≡ true)
  stopped-bare before after = (
    ⊎_elim
        (λ (is : was.state.bare ≡ true). absurd (after (ap (λ (st : State). st.stopped) (turns.rests is).state ∙ before)))
        (λ (no : was.state.bare ≡ false). no)
        (cases_Bool was.state.bare),
    ⊎_elim
        (λ (is : now.state.bare ≡ true). is)
        (λ (no : now.state.bare ≡ false).
        let works = subst (λ b. MatchBool b (Bare now.state new) (Working now.state new)) no turns.stands.mode in absurd (after works.going))
        (cases_Bool now.state.bare),
  )

  failed : was.state.stopped ≡ stop.No → now.state.stopped ≢ stop.No → worker_steps old was < worker_steps new now
  failed before after =
      let both = stopped-bare before after in
      omega (arith, steps-later, ap one_if both.0, ap one_if both.1, left-first)

  rises-by : (turn : Turn) → result ≡ turn → ((why : Why) → turn ≢ Idle why)
      → AnswersTurn was.state now.state old new faults faults_now turn → worker_steps old was < worker_steps new now
  rises-by Did is some answer = omega (arith, answer, bare-later, left-first)
  rises-by (Idle why) is some answer = absurd (some why refl)
  rises-by Finished is some answer = omega (arith, steps-later, bare-later, left-first, ap one_if (gone is))
  rises-by (Failed memory_fault) is some answer = failed answer.0
      (λ no. absurd (let wrong : stop.Memory ≡ stop.No = sym answer.1 ∙ no in let none : ⊥ = cc in none))
  rises-by (Failed write_fault) is some answer = failed answer.0
      (λ no. absurd (let wrong : stop.Write ≡ stop.No = sym answer.1 ∙ no in let none : ⊥ = cc in none))
  rises-by (Failed other) is some answer = elim answer [ ]

  pub rises : ((why : Why) → result ≢ Idle why) → worker_steps old was < worker_steps new now
  rises some = rises-by result refl some turns.answer

pub turns-rise : TurnsRise
turns-rise was now old new kept kept_now faults faults_now result turns here gone = (
  later was now old new kept kept_now faults faults_now result turns here gone,
  rises was now old new kept kept_now faults faults_now result turns here gone,
)

-- ---- among the others

-- where no view changed but for looks and what is known of refill slots
pub steps-alike : (board board_now : Board) (first : ℕ) (workers : List Worker)
    → ((b : ℕ) → first ≤ b → app_gist (side_of board_now b).view ≡ app_gist (side_of board b).view)
    → steps_from board_now first workers ≡ steps_from board first workers
steps-alike board board_now first [] same = refl
steps-alike board board_now first (w ∷ workers) same =
    let here : worker_steps (side_of board_now first).view w ≡ worker_steps (side_of board first).view w =
    ap (λ (v : AppView). worker_steps v w) (same first (omega arith)) in
    let rest = steps-alike board board_now (suc first) workers (λ b later. same b (omega (arith, later))) in
    omega (arith, here, rest)

-- where one of them went on, all together did by as much
pub steps-set : (board board_now : Board) (first i : ℕ) (workers : List Worker) (was now : Worker) → slice_get workers i ≡ Some was
    → ((b : ℕ) → b ≢ first + i → side_of board_now b ≡ side_of board b)
    → steps_from board_now first (set workers i now) + worker_steps (side_of board (first + i)).view was
    ≡ steps_from board first workers + worker_steps (side_of board_now (first + i)).view now
steps-set board board_now first i [] was now at same = absurd (cc)
steps-set board board_now first zero (w ∷ workers) was now at same =
    let is : w ≡ was = cc in
    let e : first + 0 ≡ first = omega arith in
    let here : worker_steps (side_of board (first + 0)).view was ≡ worker_steps (side_of board first).view w =
    ap (λ n. worker_steps (side_of board n).view was) e ∙ ap (worker_steps (side_of board first).view) (sym is) in
    let there : worker_steps (side_of board_now (first + 0)).view now ≡ worker_steps (side_of board_now first).view now =
    ap (λ n. worker_steps (side_of board_now n).view now) e in
    let rest = steps-alike board board_now (suc first) workers
    (λ b later. ap (λ (side : AppSide). app_gist side.view) (same b (λ is_first. absurd (omega (arith, later, is_first))))) in
    omega (arith, here, there, rest)
steps-set board board_now first (suc i) (w ∷ workers) was now at same =
    let e : first + suc i ≡ suc first + i = omega arith in
    let own = steps-set board board_now (suc first) i workers was now at (λ b other. same b (λ is. other (is ∙ e))) in
    let head : worker_steps (side_of board_now first).view w ≡ worker_steps (side_of board first).view w =
    ap (λ (side : AppSide). worker_steps side.view w) (same first (λ is. absurd (omega (arith, is)))) in
    let before : worker_steps (side_of board (first + suc i)).view was ≡ worker_steps (side_of board (suc first + i)).view was =
    ap (λ n. worker_steps (side_of board n).view was) e in
    let after : worker_steps (side_of board_now (first + suc i)).view now ≡ worker_steps (side_of board_now (suc first + i)).view now =
    ap (λ n. worker_steps (side_of board_now n).view now) e in
    omega (arith, own, head, before, after)
