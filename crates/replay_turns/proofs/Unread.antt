-- Turns in which the card reads nothing, and rounds of the applications alone.
use Rattle.std.{proofs.{Common.{◌≡◌, ℕ, ◌<◌, ◌≤◌, ◌||◌, Bool, true, false, List, length, ⊎_elim, refl, sym, ap, ◌∙◌, subst, arith}, lemmas.Bool.{true≢false}}, specs.Prelude.{MatchBool}}
use Rattle.zr_kinds.specs.{Limits.{most_records}, declared.outcome.Tally.{Tally}}
use Rattle.board_face.specs.{NicCalls.{apps_of}, declared.views.{parts.Setting.{Setting}, nic.{NicLook.{NicLook}, NicView.{NicView}}}}
use Rattle.plain_board.specs.{Board.{Board, stand_of}, Sound.{IsSound}}
use Rattle.card_feed.specs.{Coming.{ComesTo}, Feed.{FeedKnows, FeedState, IsFeedReady, feed_steps}, Offered.{WantsRoom}, Turns.{FeedSteps, HasLooked}, declared.plan.Plan.{Plan}}
use Rattle.card_feed.specs.declared.{intake.Stage.{Stage}, arrived.Arrived.TheVariants.{Nothing}}
use Rattle.run_account.specs.CardTurns.{CardActs, card_moment, steps as acts}
use Rattle.run_account.{specs.{Views.{Ends, Streams}, declared.run.Run.{Run}}, proofs.DealtEntries.{dealt-of, dealt-up}}
use Rattle.replay_turns.{specs.{Rounds.{DidNothing}, Running.{Moment, PlaysTurns, RunFits, RunsSince, moment}, Steps.{run_steps}, declared.role.Role.{Role}}, proofs.{Rounds.{steps-same}, Turns.{card-on}}}

-- ---- the card

-- a step of the card brings nothing back
pub looked-later : {B : Type 0} (did : Bool) (Rests : Type 0) (tells : NicLook → NicView → B → Type 0) (beside : B) (was now : FeedState)
    (old new : NicView) → MatchBool did (feed_steps was old < feed_steps now new) (HasLooked Rests tells beside was now old new)
    → feed_steps was old ≤ feed_steps now new
looked-later true Rests tells beside was now old new rises = omega (arith, rises)
looked-later false Rests tells beside was now old new idle =
    let feed : feed_steps now new ≡ feed_steps was new = ap (λ (f : FeedState). feed_steps f new) idle.feed in
    let view : feed_steps was new ≡ feed_steps was old = ap (λ (v : NicView). feed_steps was v) idle.view in
    omega (arith, feed, view)

module _ (board board_now : Board) (was now : Run) (workers : now.workers.items ≡ was.workers.items) (apps : board_now.apps ≡ board.apps)
    (sound_now : IsSound (stand_of board_now)) (ready : IsFeedReady now.feed board_now.nic.view)
    (steps : (ports : List ℕ) (split : ℕ) (frames : List (List ℕ)) → FeedKnows ports split frames was.feed board.nic.view
    → FeedSteps ports split frames Nothing was.feed now.feed board.nic.view board_now.nic.view) where
  -- the run goes on by a step of the card for which nothing has come
  pub card-waits : {S T : Type 0} {m : Streams S T} (first ends : Ends m) (plan : Plan) → RunFits board was (length ends.shelves)
      → RunsSince first plan (moment ends board was) → RunsSince first plan (moment ends board_now now)
  card-waits {m} first ends plan fits runs =
      let ports = plan.ports.items in
      let step = steps ports plan.options.split runs.frames runs.feed.knows in
      let stage = step.stage_is ∙ ap (λ (f : FeedState). f.stage) step.receives.0 in
      let knows = subst (λ frames. FeedKnows ports plan.options.split frames now.feed board_now.nic.view) step.receives.1 step.knows in
      let many : apps_of board.nic.view.setting ≡ length ports =
      ap (λ (s : Setting). s.layout.reserves) fits.sound.set.card ∙ sym fits.many ∙ runs.many in
      card-on board board_now was now workers apps sound_now ready first ends ends.source plan fits runs runs.frames
      (record {
        knows = knows;
        comes = subst (λ (s : Stage). ComesTo (WantsRoom plan.options.split ports) m.source.left m.source.failed first.source ends.source ports s
            runs.frames) (sym stage) runs.feed.comes;
      })
      (subst (λ frames. CardActs ports plan.options.split (card_moment runs.frames was.feed board.nic.view) (card_moment frames now.feed board_now.nic.view))
      step.receives.1 (acts Nothing now.feed board_now.nic.view tt step))
      (subst (λ (t : Tally). t.records ≤ most_records) (runs.feed.knows.tally_is ∙ sym knows.tally_is) runs.records)
      (⊎_elim
      (λ plays. dealt-of (length ports) step.taken now.feed board.nic.view board_now.nic.view plays.1 many runs.dealt)
      (λ keeps. dealt-up (length ports) step.taken now.feed board.nic.view board_now.nic.view keeps.1 many runs.dealt) step.done)

-- ---- an application

-- what a turn answered, as how far the run has come
pub answered-later : (role : Role) (board board_now : Board) (was now : Run) (did : Bool)
    → MatchBool did (run_steps board was < run_steps board_now now) (DidNothing role board board_now was now)
    → run_steps board was ≤ run_steps board_now now
answered-later role board board_now was now true rises = omega (arith, rises)
answered-later role board board_now was now false idle = omega (arith, steps-same board board_now was now idle.same)

pub answered-rises : (did : Bool) (A B : Type 0) → MatchBool did A B → did ≡ true → A
answered-rises true A B rises is = rises
answered-rises false A B idle is = absurd (true≢false (sym is))

-- something was done before, or now
pub rises-on : (first was now : ℕ) (did more : Bool) → first ≤ was → (did ≡ true → first < was) → was ≤ now → (more ≡ true → was < now)
    → (did || more) ≡ true → first < now
rises-on first was now true more before rose later rises is = omega (arith, rose refl, later)
rises-on first was now false true before rose later rises is = omega (arith, before, rises refl)
rises-on first was now false false before rose later rises is = absurd (true≢false (sym is))

-- ---- nothing was done

pub plays-none : {S T : Type 0} {m : Streams S T} (now : Moment m) → RunFits now.board now.run (length now.ends.shelves) → PlaysTurns now now
plays-none now fits = record { fits = fits; workers = refl; many = refl; room = refl; runs = λ first plan runs. runs }
