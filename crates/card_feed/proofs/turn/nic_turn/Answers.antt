-- One record is read where one is wanted, and then a step is taken.
use Rattle.std.{proofs.{Common.{◌<◌, ⊎_elim, sym, subst, ap, ◌∙◌, arith}, lemmas.Bool.{true≢false}}, specs.Prelude.{MatchBool}}
use Rattle.zr_kinds.specs.declared.outcome.Tally.{Tally}
use Rattle.card_feed.specs.{Coming.{Arrives, ComesTo}, Intake.{IsReadable}, Offered.{WantsRoom}, Parts.{feed_of}, Feed.{feed_steps, one_if}}
use Rattle.card_feed.specs.Turns.{FeedTurns, HasLooked, HasRested}
use Rattle.card_feed.proofs.Turning.{answer-as, knows-opened, looked-as, readable-cases, readable-of, read-turns, rest-turns, split-is}
use Rattle.card_feed.proofs.turn.nic_turn.Goals as goal

pub returns-clause-turns : goal.returns-clause-turns
returns-clause-turns g c = λ first ports split frames stands.
    let view = sym c.feed.view_is in
    let was = c.feed.inside.intake in
    let pool = c.feed.inside.pool in
    let closed = c.feed.inside.closed in
    let opened = c.next-arrived.new.self in
    let came = c.next-arrived.result in
    let next = c.next-arrived.ensures in
    let old = g.F.NicFace.seen c.args.face.now in
    let new = g.F.NicFace.seen c.nic_step.new.face in
    let end = c.nic_step.new.feed in
    let here = rw view at stands in
    let split_is = split-is ports split frames was pool closed old here.knows c.feed.invariant in
    rw view (⊎_elim
    (λ (readable : IsReadable was).
    let knows = knows-opened ports split frames was opened pool closed old readable next.same here.knows in
    let arrives = next.reads readable first ports frames
    (subst (λ s. ComesTo (WantsRoom s ports) g.S.Source.left g.S.Source.faults first c.args.source.now ports was.stage frames) (sym split_is) here.comes) in
    read-turns g.S.Source.left g.S.Source.faults first c.next-arrived.new.source ports split frames was opened pool closed came end old new
    (c.nic_step.ensures.steps ports split frames knows) readable next.same next.on (next.there readable)
    (subst (λ s. Arrives (WantsRoom s ports) g.S.Source.left g.S.Source.faults first c.next-arrived.new.source ports opened.stage frames came) split_is arrives))
    (λ (not_readable : ¬ IsReadable was).
    let rest = next.rests not_readable in
    let source = rest.1 in
    let same = rest.2 in
    subst (λ s. FeedTurns g.S.Source.left g.S.Source.faults first s ports split frames (feed_of was pool closed) end old new) (sym source)
    (rest-turns g.S.Source.left g.S.Source.faults first c.args.source.now ports split frames was opened pool closed came end old new
    (c.nic_step.ensures.steps ports split frames (rw same here.knows)) not_readable rest.0 same here))
    (readable-cases was))

pub returns-clause-answer : goal.returns-clause-answer
returns-clause-answer g c =
    let view = sym c.feed.view_is in
    let was = c.feed.inside.intake in
    let pool = c.feed.inside.pool in
    let closed = c.feed.inside.closed in
    let opened = c.next-arrived.new.self in
    let came = c.next-arrived.result in
    let next = c.next-arrived.ensures in
    let end = c.nic_step.new.feed in
    let old = g.F.NicFace.seen c.args.face.now in
    let new = g.F.NicFace.seen c.nic_step.new.face in
    let told : MatchBool c.nic_step.result (feed_steps (feed_of opened pool closed) old < feed_steps end new)
    (HasLooked (HasRested (feed_of opened pool closed) end came) g.F.NicFace.tells (g.F.NicFace.beside c.nic_step.new.face)
    (feed_of opened pool closed) end old new) = c.nic_step.ensures.answer in
    rw view (⊎_elim
    (λ (readable : IsReadable was).
    let records = ap (λ (t : Tally). t.records) next.same.tally in
    let over = ap one_if next.on in
    let did = c.nic_step.ensures.took (next.there readable) in
    answer-as c.nic_step.result _ _ _ _ (λ is rises. omega (arith, rises, records, over)) (λ is. absurd (true≢false (sym did ∙ is))) told)
    (λ (not_readable : ¬ IsReadable was).
    let rest = next.rests not_readable in
    answer-as c.nic_step.result _ _ _ _ (λ is rises. rw rest.2 at rises)
    (λ is looked. looked-as _ _ g.F.NicFace.tells _ _ _ _ _
    (λ rested. ⊎_elim (λ ended. ended) (λ awaits. absurd (not_readable (readable-of was pool closed (rw rest.0 at awaits.0)))) rested)
    (rw rest.2 at looked)) told)
    (readable-cases was))
