-- By turns nothing is searched ahead, so each sweep was made by a search that is counted as one that swept.
use Rattle.std.proofs.Common.{◌≡◌, ℕ, ◌-◌, ◌^◌, ◌≤◌, List, [], ◌∷◌, inl, inr, refl, sym, ap, subst, ◌∙◌, ⊎_elim, arith}
use Rattle.zr_kinds.specs.Limits.{most_records}
use Rattle.plain_board.specs.Board.{Board}
use Rattle.page_pool.specs.Pool.{PoolState}
use Rattle.card_feed.specs.{Counts.{AreAllSwept, searches_in, sweeping_in, sweeps_in}, Feed.{FeedState, FeedStands}, declared.plan.Plan.{Plan}}
use Rattle.card_feed.proofs.{Beginning.{feeds_stand}, Sweeping.{plays-all}}
use Rattle.run_account.specs.{Ran.{Told}, Views.{Ends, Streams}, declared.run.Run.{Run}}
use Rattle.replay_turns.specs.{Following.{RoleMoves, Follows, IsNewRun, RunsBy}, Running.{Moment, moment}, declared.role.Role.{Role, TheVariants.{Card, App}}}

-- the card stands by these frames, and each sweep is counted
record SweptSoFar {S T : Type 0} {m : Streams S T} (first : S) (ports : List ℕ) (split : ℕ) (now : Moment m) : Type 0 where
  frames : List (List ℕ)
  stands : FeedStands m.source.left m.source.failed first now.ends.source ports split frames now.run.feed now.board.nic.view
  all : AreAllSwept now.run.feed.pool now.board.nic.view

module _ {S T : Type 0} {m : Streams S T} (first : S) (ports : List ℕ) (split : ℕ) where
  abbrev Stands : Moment m → Type 0
  Stands now = SweptSoFar first ports split now

  moved : (role : Role) (was now : Moment m) → RoleMoves role was now → Stands was → Stands now
  moved Card was now moves before =
      let turns = moves.turns first ports split before.frames before.stands in
      record {
        frames = turns.more;
        stands = turns.stands;
        all = plays-all turns.read now.run.feed was.board.nic.view now.board.nic.view turns.plays
            (subst (λ (p : PoolState). AreAllSwept p was.board.nic.view) (sym (ap (λ (f : FeedState). f.pool) turns.only)) before.all);
      }
  moved (App app) was now (worker, at, inl (gone, same)) before = subst Stands (sym same) before
  moved (App app) was now (worker, at, inr (here, moves)) before = record {
    frames = before.frames;
    stands = rw (moves.feed, moves.source, moves.card) before.stands;
    all = rw (moves.feed, moves.card) before.all;
  }

  followed : (roles : List Role) (was now : Moment m) → Follows roles was now → Stands was → Stands now
  followed [] was now same before = subst Stands (sym same) before
  followed (role ∷ roles) was now follows before = followed roles follows.0 now follows.2 (moved role was follows.0 follows.1 before)

module _ {S T : Type 0} {m : Streams S T} (was now : Ends m) (plan : Plan) (turns : List ℕ) (told : Told) (board_now : Board)
    (by : RunsBy was now plan turns told board_now) where
  at-first : (opened : Board) (begun : Run) → IsNewRun plan opened begun
      → SweptSoFar was.source plan.ports.items plan.options.split (moment was opened begun)
  at-first opened begun new = record {
    frames = [];
    stands = rw (new.feed_is, new.board_is) (feeds_stand m.source.left m.source.failed was.source plan.ports.items plan.options.split _ refl refl refl);
    all = rw (new.feed_is, new.board_is) (record { ahead = refl; sweeps = inl refl });
  }

  all-swept : AreAllSwept by.last.feed.pool board_now.nic.view
  all-swept =
      let last = followed was.source plan.ports.items plan.options.split _ _ _ by.follows (at-first by.opened by.begun by.new) in last.all

  pub each-swept : searches_in told.pool ≤ most_records → sweeping_in told.pool ≡ sweeps_in board_now.nic.view
  each-swept few =
      let pool = ap (λ (t : Told). t.pool) by.told_is in
      let same : sweeping_in told.pool ≡ sweeping_in by.last.feed.pool.stats = ap sweeping_in pool ∙ ap sweeping_in by.tells.is.pool in
      ⊎_elim
      (λ (exact : sweeping_in by.last.feed.pool.stats ≡ sweeps_in board_now.nic.view). same ∙ exact)
      (λ (full : 2 ^ 64 - 1 ≤ sweeping_in by.last.feed.pool.stats). absurd (omega (arith, full, same, few)))
      all-swept.sweeps
