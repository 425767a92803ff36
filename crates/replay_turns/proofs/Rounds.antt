-- A round: what was done in it, or that nobody can do anything.
use Rattle.std.{proofs.Common.{◌≡◌, ℕ, ◌+◌, ◌<◌, ◌≤◌, ◌||◌, Bool, true, false, length, Some, inl, inr, ⊎_elim, sym, ap, ◌∙◌, subst, arith}, specs.Prelude.{MatchBool}}
use Rattle.std.{specs.List.{slice_get}, proofs.lemmas.{Bool.{cases_lt}, Option.{slice_get_within}}}
use Rattle.board_face.specs.{Holders.{on_way}, NicCalls.{apps_of}, NicEvents.{nic_gist}, Returns.{entries_on_way}, declared.views.app.AppView.{AppView}}
use Rattle.board_face.specs.declared.views.nic.NicView.{NicView}
use Rattle.plain_board.specs.{Board.{Board, side_of}, Seen.{card_of, self_of}}
use Rattle.app_worker.specs.declared.turn.Why.TheVariants.{NoNote}
use Rattle.card_feed.specs.Feed.{FeedState, feed_steps}
use Rattle.replay_turns.specs.{Rounds.{StandsStill, DidNothing}, Running.{RunFits}, Steps.{steps_from, run_steps}}
use Rattle.replay_turns.specs.{Stuck.{IsCardStuck, IsAppKeptBack, IsAppStuck, AreStuck}, declared.role.Role.TheVariants.{Card, App}}
use Rattle.replay_turns.proofs.{AllLeft.{WaitsForNote, kept-waits}, Answering.{because-stays}, Rising.{steps-alike}}
use Rattle.run_account.specs.declared.run.{Run.{Run}, Worker.{Worker}}

-- ---- a turn that did nothing

module _ (board board_now : Board) (was now : Run) (same : StandsStill board board_now was now) where
  pub steps-same : run_steps board_now now ≡ run_steps board was
  steps-same =
      let feed : feed_steps now.feed board_now.nic.view ≡ feed_steps was.feed board.nic.view =
      ap (λ (f : FeedState). feed_steps f board_now.nic.view) same.feed ∙ ap (λ (v : NicView). feed_steps was.feed v) same.card in
      let apps : steps_from board_now 0 now.workers.items ≡ steps_from board 0 was.workers.items =
      ap (steps_from board_now 0) same.workers ∙ steps-alike board board_now 0 was.workers.items (λ a later. same.app a) in
      omega (arith, feed, apps)

  many-same : apps_of board_now.nic.view.setting ≡ apps_of board.nic.view.setting
  many-same = ap (λ (v : NicView). apps_of v.setting) same.card

  -- what is on its way to an application, and from it, is as before
  notes-same : (a : ℕ) → on_way (card_of (nic_gist board_now.nic.view)) (side_of board_now a) ≡ on_way (card_of (nic_gist board.nic.view)) (side_of board a)
  notes-same a =
      ap (λ (v : NicView). on_way (card_of v) (side_of board_now a)) same.card
      ∙ ap (λ (v : AppView). on_way (card_of (nic_gist board.nic.view)) (self_of v)) (same.app a)

  entries-same : (a : ℕ) → entries_on_way (card_of (nic_gist board_now.nic.view)) (side_of board_now a)
      ≡ entries_on_way (card_of (nic_gist board.nic.view)) (side_of board a)
  entries-same a =
      ap (λ (v : NicView). entries_on_way (card_of v) (side_of board_now a)) same.card
      ∙ ap (λ (v : AppView). entries_on_way (card_of (nic_gist board.nic.view)) (self_of v)) (same.app a)

  card-stays : IsCardStuck board was → IsCardStuck board_now now
  card-stays stuck = record {
    rings = λ a few. entries-same a ∙ stuck.rings a (omega (arith, many-same, few));
    notes = ⊎_elim
        (λ closed. inl (ap (λ (f : FeedState). f.closed) same.feed ∙ closed))
        (λ (a, few, full).
        let places : board_now.nic.view.setting.places ≡ board.nic.view.setting.places = ap (λ (v : NicView). v.setting.places) same.card in
        inr (a, omega (arith, many-same, few), omega (arith, places, ap length (notes-same a), full)))
        stuck.notes;
  }

  -- who waits for a note goes on waiting for it
  waits-on : (a : ℕ) (w : Worker) → WaitsForNote board a w → IsAppKeptBack board_now a w
  waits-on a w waits = record {
    why = NoNote;
    because = because-stays NoNote w.state (side_of board a).view (side_of board_now a).view (same.app a) waits.because;
    seen = (ap (λ (v : NicView). v.ended) same.card ∙ waits.seen.0, notes-same a ∙ waits.seen.1);
  }

  app-stays : (shelves : ℕ) → RunFits board was shelves → IsCardStuck board was → (a : ℕ) → IsAppStuck board was a → IsAppStuck board_now now a
  app-stays shelves fits card a stuck w at =
      let at_was : slice_get was.workers.items a ≡ Some w = ap (λ items. slice_get items a) (sym same.workers) ∙ at in
      ⊎_elim (λ left. inl left) (λ kept. inr (waits-on a w (kept-waits board was shelves fits a w at_was card kept))) (stuck w at_was)

-- ---- a round

-- The card and the first applications can do nothing.
pub record AreFirstStuck (board : Board) (run : Run) (apps : ℕ) : Type 0 where
  pub card : IsCardStuck board run
  pub app : (a : ℕ) → a < apps → IsAppStuck board run a

-- The card and the first applications had their turns.
pub record GoesRound (board board_now : Board) (was now : Run) (did : Bool) (apps : ℕ) : Type 0 where
  pub later : run_steps board was ≤ run_steps board_now now
  pub answer : MatchBool did (run_steps board was < run_steps board_now now) (AreFirstStuck board_now now apps)

pub begins : (board board_now : Board) (was now : Run) (did : Bool)
    → MatchBool did (run_steps board was < run_steps board_now now) (DidNothing Card board board_now was now)
    → GoesRound board board_now was now did 0
begins board board_now was now true rises = record { later = omega (arith, rises); answer = rises }
begins board board_now was now false idle = record {
  later = omega (arith, steps-same board board_now was now idle.same);
  answer = record { card = idle.stuck; app = λ a none. absurd (omega (arith, none)) };
}

pub turns : (first board board_now : Board) (begun was now : Run) (did more : Bool) (apps shelves : ℕ) → RunFits board was shelves
    → GoesRound first board begun was did apps
    → MatchBool more (run_steps board was < run_steps board_now now) (DidNothing (App apps) board board_now was now)
    → GoesRound first board_now begun now (did || more) (apps + 1)
turns first board board_now begun was now true true apps shelves fits before rises = record {
  later = let later = before.later in omega (arith, later, rises);
  answer = let later = before.later in omega (arith, later, rises);
}
turns first board board_now begun was now false true apps shelves fits before rises = record {
  later = let later = before.later in omega (arith, later, rises);
  answer = let later = before.later in omega (arith, later, rises);
}
turns first board board_now begun was now true false apps shelves fits before idle =
    let still = steps-same board board_now was now idle.same in
    let rose = before.answer in
    record { later = omega (arith, still, rose); answer = omega (arith, still, rose) }
turns first board board_now begun was now false false apps shelves fits before idle =
    let later = before.later in record {
      later = omega (arith, later, steps-same board board_now was now idle.same);
      answer = record {
        card = card-stays board board_now was now idle.same before.answer.card;
        app = λ a few. ⊎_elim
            (λ (earlier : a < apps).
            app-stays board board_now was now idle.same shelves fits before.answer.card a (before.answer.app a earlier))
            (λ (last : apps ≤ a). subst (IsAppStuck board_now now) (let e : apps ≡ a = omega (arith, last, few) in e) idle.stuck)
            (cases_lt a apps);
      };
    }

pub ends : (board board_now : Board) (was now : Run) (did : Bool) (apps : ℕ) → GoesRound board board_now was now did apps
    → length now.workers.items ≤ apps → MatchBool did (run_steps board was < run_steps board_now now) (AreStuck board_now now)
ends board board_now was now true apps round all = round.answer
ends board board_now was now false apps round all = record {
  card = round.answer.card;
  app = λ a w at. round.answer.app a (omega (arith, slice_get_within now.workers.items a w at, all)) w at;
}
