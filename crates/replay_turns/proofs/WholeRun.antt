-- A run from its opening to its end: the turns of the text, and then rounds; or rounds alone.
use Rattle.std.{proofs.Common.{◌≡◌, ℕ, ◌≤◌, List, ◌++◌, length, map, take, drop, inr, refl, sym, ap, subst, ◌∙◌, arith}, specs.Prelude.{Result, Ok, Err, OnErr}}
use Rattle.std.proofs.Math.Seq.{take-append_seam}
use Rattle.board_face.specs.Ended.{HaveEnded}
use Rattle.plain_board.specs.Board.{Board}
use Rattle.flow_queues.specs.Ends.{AppEnd}
use Rattle.zr_kinds.specs.Limits.{most_records}
use Rattle.card_feed.specs.{Counts.{searches_in}, declared.{outcome.Outcome.{Outcome}, plan.Plan.{Plan}}}
use Rattle.run_account.specs.{Ran.{TellsOf, Ran, RunLacksMemory, told_of}, Running.{HasRun, IsRunOver, ends_of}, Views.{Streams, ends_at}, declared.run.Run.{Run}}
use Rattle.run_account.proofs.{Ended.{end-few, end-well, end-told}, Leaving.{has-run}}
use Rattle.replay_turns.specs.{Following.{Follows, FollowsRounds, IsNewRun, RunsBy, rounds_of}, Rounds.{IsOfPlan}, Running.{BeginsWith, Moment, PlaysTurns, PlaysBy, RunFits, RunsSince, moment_at}, Schedule.{role_of}}
use Rattle.replay_turns.proofs.{BoardOver.{have-ended}, Following.{follows-through}, StepsLeft.{still-of}, Turns.{plays-through}}

pub on-err : {A E : Type 0} (r : Result A E) (P : Type 0) → P → OnErr r P
on-err (Ok x) P holds = tt
on-err (Err e) P holds = holds

-- what was written in place of all is what there is
back : {T : Type 0} (n : ℕ) (xs all : List T) → length xs ≡ n → take n (xs ++ drop (length xs) all) ≡ xs
back n xs all same = ap (λ k. take k (xs ++ drop (length xs) all)) (sym same) ∙ take-append_seam xs (drop (length xs) all)

-- ---- from where it began

module _ {S T : Type 0} {m : Streams S T} (source : S) (items lent : List T) (n : ℕ) (plan : Plan) (opened : Board) (begun : Run)
    (size : n ≡ length items) (enough : length plan.ports.items ≤ n) (is : lent ≡ items) (begins : BeginsWith m plan opened begun) where
  -- the run is one of its plan
  pub one-of : IsOfPlan (moment_at m source lent opened begun)
  one-of = record { first = ends_at m source lent; plan = plan; runs = begins (ends_at m source lent) (omega (arith, size, enough, ap length is)) }

  module _ (now : Moment m) (plays : PlaysTurns (moment_at m source lent opened begun) now) where
    abbrev ends : List AppEnd
    ends = ends_of now.run.workers.items

    pub since : RunsSince (ends_at m source items) plan now
    since = (subst (λ shelves. PlaysTurns (moment_at m source shelves opened begun) now) is plays).runs (ends_at m source items) plan
        (begins (ends_at m source items) (omega (arith, size, enough)))

    -- what a run that is over leaves: its shelves are put back in place of all
    module _ (over : IsRunOver now.run) (all : List T) where
      back-is : take n (now.ends.shelves ++ drop (length now.ends.shelves) all) ≡ now.ends.shelves
      back-is = back n now.ends.shelves all (plays.many ∙ ap length is ∙ sym size)

      ended : HaveEnded now.board.nic now.board.apps
      ended = have-ended now.board now.run (length now.ends.shelves) plays.fits over

      ran : HasRun (ends_at m source items) now.ends plan now.board.nic now.board.apps now.run.feed ends
      ran = has-run (ends_at m source items) now.ends plan now.board.nic now.board.apps now.run plays.fits.roles over since

      pub whole-told : (outcome : Outcome) → TellsOf now.run plan.ports.items outcome → Ran (ends_at m source items)
          (ends_at m now.ends.source (take n (now.ends.shelves ++ drop (length now.ends.shelves) all))) plan (told_of outcome)
          now.board.nic now.board.apps
      whole-told outcome tells = subst
          (λ shelves. Ran (ends_at m source items) (ends_at m now.ends.source shelves) plan (told_of outcome) now.board.nic now.board.apps) (sym back-is)
          (end-well m (ends_at m source items) now.ends plan now.board.nic now.board.apps now.run.feed ends outcome ended ran tells)

      -- it tells of no more searches than records are read at most
      pub whole-few : (outcome : Outcome) → TellsOf now.run plan.ports.items outcome → searches_in outcome.pool ≤ most_records
      whole-few outcome tells =
          end-few (ends_at m source items) now.ends plan now.board.nic now.board.apps now.run.feed ends outcome ended ran tells

      pub whole-lacks : RunLacksMemory (ends_at m source items)
          (ends_at m now.ends.source (take n (now.ends.shelves ++ drop (length now.ends.shelves) all))) plan
      whole-lacks =
          let told = end-told m (ends_at m source items) now.ends plan now.board.nic now.board.apps now.run.feed ends ended ran in
          subst (λ shelves. RunLacksMemory (ends_at m source items) (ends_at m now.ends.source shelves) plan) (sym back-is)
          (inr (told.0, now.board.nic, now.board.apps, told.2))

-- ---- the turns of a text, and then rounds

module _ {S T : Type 0} {m : Streams S T} (source : S) (items lent : List T) (n : ℕ) (opened : Board) (begun : Run) (mid : Moment m) (again : List T)
    (size : n ≡ length items) (is : lent ≡ items) (is_again : again ≡ take n (mid.ends.shelves ++ drop (length mid.ends.shelves) items))
    (plays : PlaysTurns (moment_at m source lent opened begun) mid) where
  abbrev resumed : Moment m
  resumed = moment_at m mid.ends.source again mid.board mid.run

  same : resumed ≡ mid
  same = ap (λ shelves. moment_at m mid.ends.source shelves mid.board mid.run)
      (is_again ∙ back n mid.ends.shelves items (plays.many ∙ ap length is ∙ sym size))

  -- the board fits after the text, and the run is still one of its plan
  pub text-fits : RunFits mid.board mid.run (length again)
  text-fits = subst (λ (at : Moment m). RunFits at.board at.run (length at.ends.shelves)) (sym same) plays.fits

  pub text-plan : IsOfPlan (moment_at m source lent opened begun) → IsOfPlan resumed
  text-plan of = subst (λ (at : Moment m). IsOfPlan at) (sym same) (still-of _ mid of plays)

  pub text-plays : (now : Moment m) → PlaysTurns resumed now → PlaysTurns (moment_at m source lent opened begun) now
  text-plays now second = plays-through _ mid now plays (subst (λ (at : Moment m). PlaysTurns at now) same second)

  -- its turns were those of the text, and then whole rounds
  pub text-by : (now : Moment m) (plan : Plan) (turns : List ℕ) → IsNewRun plan opened begun
      → Follows (map role_of turns) (moment_at m source lent opened begun) mid
      → PlaysBy (FollowsRounds (length mid.run.workers.items)) resumed now → IsRunOver now.run
      → (outcome : Outcome) → TellsOf now.run plan.ports.items outcome → (all : List T)
      → RunsBy (ends_at m source items) (ends_at m now.ends.source (take n (now.ends.shelves ++ drop (length now.ends.shelves) all))) plan turns
      (told_of outcome) now.board
  text-by now plan turns new of_text later over outcome tells all =
      let apps = length plan.ports.items in
      let rounds = later.by.0 in
      let roles = map role_of turns ++ rounds_of apps rounds in
      let behind = subst (λ (at : Moment m). Follows (rounds_of apps rounds) at now) same
      (subst (λ k. Follows (rounds_of k rounds) resumed now) (plays.workers ∙ new.workers.many) later.by.1) in
      let follows = subst (λ shelves. Follows roles (moment_at m source shelves opened begun) now) is
      (follows-through (map role_of turns) (rounds_of apps rounds) _ mid now of_text behind) in
      let size_now = (text-plays now later.plays).many ∙ ap length is ∙ sym size in
      record {
        opened = opened;
        begun = begun;
        new = new;
        last = now.run;
        rounds = rounds;
        follows = subst (λ shelves. Follows roles (moment_at m source items opened begun) (moment_at m now.ends.source shelves now.board now.run))
            (sym (back n now.ends.shelves all size_now)) follows;
        over = over;
        outcome = outcome;
        tells = tells;
        told_is = refl;
      }
