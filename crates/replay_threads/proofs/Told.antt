-- What is told of a run that was played, with the shelves that were set aside behind those of its applications.
use Rattle.std.{proofs.Common.{◌≡◌, List, ◌++◌, inr, sym, subst}, specs.Prelude.{Result, Ok, Err, OnErr}}
use Rattle.flow_queues.specs.Ends.{AppEnd}
use Rattle.card_feed.specs.{Feed.{FeedState}, declared.{outcome.Outcome.{Outcome}, plan.Plan.{Plan}}}
use Rattle.run_account.specs.{Laws.{RunsAreTold, RunsEndWell}, Ran.{HasReadOn, RunLacksMemoryBeside, RanBeside, TellsOfEnds, told_of}, Running.{HasRun}, Views.{Ends, Streams, ends_at}}
use Rattle.word_board.specs.Board.{TheDesk, card_of_seat}
use Rattle.replay_threads.specs.Played.{HasPlayed}

pub on-err : {A E : Type 0} (r : Result A E) (P : Type 0) → P → OnErr r P
on-err (Ok x) P holds = tt
on-err (Err e) P holds = holds

module _ {S T : Type 0} {m : Streams S T} (was now : Ends m) (mid mid_now more : List T) (plan : Plan) (desk : TheDesk) (feed : FeedState)
    (ends : List AppEnd) (first : was.shelves ≡ mid ++ more) (last : now.shelves ≡ mid_now ++ more)
    (played : HasPlayed (ends_at m was.source mid) (ends_at m now.source mid_now) plan desk feed ends) where
  -- where the reading ended
  abbrev there : Ends m
  there = ends_at m played.at now.shelves

  all-ran : HasRun was there plan (card_of_seat desk.view) desk.view.apps feed ends
  all-ran = subst (λ xs. HasRun (ends_at m was.source xs) there plan (card_of_seat desk.view) desk.view.apps feed ends) (sym first)
      (subst (λ xs. HasRun (ends_at m was.source (mid ++ more)) (ends_at m played.at xs) plan (card_of_seat desk.view) desk.view.apps feed ends) (sym last)
      (played.runs more))

  pub run-told : RunsEndWell m → (outcome : Outcome) → TellsOfEnds feed ends plan.ports.items outcome
      → RanBeside was now plan (told_of outcome) (card_of_seat desk.view) desk.view.apps
  run-told law outcome tells = record {
    at = played.at;
    ahead = subst (HasReadOn m.source played.at now.source) (sym tells.is.end) played.ahead;
    ran = law was there plan (card_of_seat desk.view) desk.view.apps feed ends outcome played.ended all-ran tells;
  }

  pub run-lacks : RunsAreTold m → RunLacksMemoryBeside was now plan
  run-lacks law =
      let told = law was there plan (card_of_seat desk.view) desk.view.apps feed ends played.ended all-ran in
      inr (
        told.0,
        card_of_seat desk.view,
        desk.view.apps,
        record { at = played.at; ahead = subst (HasReadOn m.source played.at now.source) (sym told.1) played.ahead; ran = told.2 },
      )
