use Rattle.std.proofs.Common.{◌≡◌, ◌≢◌, ◌≤◌, ◌∙◌, false, None, length, arith, inl, inr}
use Rattle.app_worker.{specs.StateOf.{state_of}, proofs.{NoteTaken.{torn-of}, LentAll.{drained}, Closing.{out-of, turns-finished, turns-not-quiet}}}
use Rattle.app_worker.{proofs.TurnLemmas.{turns-did}, specs.{Stages.{Through}, declared.stages.Drained.TheVariants.{InUse, Quit, Failed}}}
use Rattle.app_worker.proofs.working.close.Goals.{After-drain}
use Rattle.app_worker.proofs.working.close.Goals as goal

-- all is read
all-read : (g : _) (c : After-drain g) → c.drain.result ≢ InUse → c.drain.result ≢ Quit → c.drain.result ≢ Failed
    → Through (state_of c.args.st.now) (state_of c.drain.new.st) (g.F.AppFace.seen c.args.face.now) (g.F.AppFace.seen c.drain.new.face)
    (g.T.Shelf.kept c.args.shelf.now) (g.T.Shelf.kept c.drain.new.shelf) × (c.drain.new.st.due ≡ None) × (length c.drain.new.st.reader.unread.items ≤ 0)
    × (c.drain.new.st.reader.flush ≡ false) × (c.drain.new.st.stray.left ≡ 0)
all-read g c free quit fail = drained 0 (state_of c.args.st.now) (state_of c.drain.new.st) (g.F.AppFace.seen c.args.face.now)
    (g.F.AppFace.seen c.drain.new.face) (g.T.Shelf.kept c.args.shelf.now) (g.T.Shelf.kept c.drain.new.shelf) (g.T.Shelf.counts c.args.shelf.now).faults
    (g.T.Shelf.counts c.drain.new.shelf).faults c.drain.result free quit fail c.requires.none.due c.requires.none.pushed c.requires.none.works.working c.requires.none.works.common
    c.requires.none.reaped c.drain.ensures.reads

pub let_go-requires : goal.let_go-requires
let_go-requires g c =
    let all = all-read g (goal.at.let_go-requires g c).After-drain c.in_default.not-InUse c.in_default.not-Quit c.in_default.not-Failed in
    record {
      may = record {
        here = all.0.left ∙ c.requires.none.works.here;
        torn = torn-of _ _ all.0.working;
        common = all.0.common;
        reaped = all.0.reaped;
        not_yet = all.0.working.live;
        pushed = all.4;
      };
    }

pub returns-then-leave-clause-turns : goal.returns-then-leave-clause-turns
returns-then-leave-clause-turns g c =
    let all = all-read g (goal.at.returns-then-leave-clause-turns g c).After-drain c.in_default.not-InUse c.in_default.not-Quit c.in_default.not-Failed in
    turns-finished _ (state_of c.let_go.new.st) _ _ _ _ _ _ _ c.leave.new.scrubbed
    (out-of c.requires.ended c.requires.none.works.working.going c.requires.none.works.working.live c.requires.none.works.here all.0 all.2 all.1 c.let_go.ensures.done)
    c.if-leave.ensures.leaves

pub returns-else-leave-clause-turns : goal.returns-else-leave-clause-turns
returns-else-leave-clause-turns g c =
    let all = all-read g (goal.at.returns-else-leave-clause-turns g c).After-drain c.in_default.not-InUse c.in_default.not-Quit c.in_default.not-Failed in
    turns-not-quiet _ (state_of c.let_go.new.st) _ _ _ _ _ _ _ c.leave.new.scrubbed
    (out-of c.requires.ended c.requires.none.works.working.going c.requires.none.works.working.live c.requires.none.works.here all.0 all.2 all.1 c.let_go.ensures.done)
    (omega (arith, all.0.goes.moves.steps, c.let_go.ensures.done.steps)) c.if-leave.ensures.leaves

pub returns-in-InUse-clause-turns : goal.returns-in-InUse-clause-turns
returns-in-InUse-clause-turns g c =
    let reads = c.in-InUse.ensures.reads in
    turns-did c.requires.none.works.working.live reads.0 reads.1 (λ _. reads.3) (inl (inl reads.3)) (λ _ _. inr (inr (inr reads.3)))
