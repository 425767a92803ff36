-- No line, the end with holders, the end, more, an event too many, and one that may not come; and one more event.
use Rattle.std.{proofs.{Common.{◌≡◌, ◌∙◌, length, refl, true, false, sym, ap, subst, Some, None, arith}, lemmas.Bool.{false≢true}}, specs.Prelude.{codes}}
use Rattle.zr_kinds.specs.declared.fault.Fault.{Fault}
use Rattle.run_check.{specs.{Coming.{ReadsLine, ahead}, Holding.{LineChanges, holdings_of}, Reading.{event_of}, Unfit.{IsUnfitEvent}}, proofs.SettingText.{same_text}}
use Rattle.run_check.proofs.{Telling.{answers_ends, answers_no_line, answers_unfit, comes_first, comes_more, not_text}, Alike.{after-few}, Lacking.{no_last, unfit_read}}
use Rattle.run_check.proofs.Weighing.{length-same}
use Rattle.run_check.specs.declared.unfit.Unfit.TheVariants as unfit
use Rattle.run_check.proofs.checking.check_events.Goals as goal

pub returns-then-not-branch-clause-judges : goal.returns-then-not-branch-clause-judges
returns-then-not-branch-clause-judges g c =
    let reads = c.in_ok-read.ensures.reads in
    answers_no_line c.args.setting.now (ahead c.args.lines.now.bytes (g.S.Source.left c.args.source.now)) (ahead c.loop-events.lines.bytes (g.S.Source.left c.loop-events.source)) (holdings_of c.loop-events.holders.buffers.items) c.loop-events.events c.loop-events.invariant.come
    (subst (ReadsLine (ahead c.loop-events.lines.bytes (g.S.Source.left c.loop-events.source)) (ahead c.read.new.self.bytes (g.S.Source.left c.read.new.source)) c.read.new.self.line.items) c.if-not-branch.true reads)

pub returns-then-not-are_none-clause-judges : goal.returns-then-not-are_none-clause-judges
returns-then-not-are_none-clause-judges g c =
    let reads = c.in_ok-read.ensures.reads in
    let found = c.if-not-branch.false in
    let took : ReadsLine (ahead c.loop-events.lines.bytes (g.S.Source.left c.loop-events.source)) (ahead c.read.new.self.bytes (g.S.Source.left c.read.new.source)) c.read.new.self.line.items true = subst (ReadsLine (ahead c.loop-events.lines.bytes (g.S.Source.left c.loop-events.source)) (ahead c.read.new.self.bytes (g.S.Source.left c.read.new.source)) c.read.new.self.line.items) found reads in
    answers_unfit c.args.setting.now (ahead c.args.lines.now.bytes (g.S.Source.left c.args.source.now)) (ahead c.loop-events.lines.bytes (g.S.Source.left c.loop-events.source)) (ahead c.read.new.self.bytes (g.S.Source.left c.read.new.source)) (holdings_of c.loop-events.holders.buffers.items) c.loop-events.events c.read.new.self.line.items unfit.Held c.loop-events.invariant.come took.0 took.1 (
      sym c.line.ensures ∙ same_text c.line.result.now (codes "end") (sym c.is_word.ensures ∙ c.if-is_word.true),
      λ none. false≢true (sym c.if-not-are_none.true ∙ c.are_none.ensures.1 none),
    )

pub returns-then-is_word-clause-judges : goal.returns-then-is_word-clause-judges
returns-then-is_word-clause-judges g c =
    let reads = c.in_ok-read.ensures.reads in
    let found = c.if-not-branch.false in
    let took : ReadsLine (ahead c.loop-events.lines.bytes (g.S.Source.left c.loop-events.source)) (ahead c.read.new.self.bytes (g.S.Source.left c.read.new.source)) c.read.new.self.line.items true = subst (ReadsLine (ahead c.loop-events.lines.bytes (g.S.Source.left c.loop-events.source)) (ahead c.read.new.self.bytes (g.S.Source.left c.read.new.source)) c.read.new.self.line.items) found reads in
    answers_ends Fault c.args.setting.now (ahead c.args.lines.now.bytes (g.S.Source.left c.args.source.now)) (ahead c.loop-events.lines.bytes (g.S.Source.left c.loop-events.source)) (ahead c.read.new.self.bytes (g.S.Source.left c.read.new.source)) (holdings_of c.loop-events.holders.buffers.items) c.loop-events.events c.read.new.self.line.items true c.check_end.result c.loop-events.invariant.come took.0
    (sym c.line.ensures ∙ same_text c.line.result.now (codes "end") (sym c.is_word.ensures ∙ c.if-is_word.true))
    (λ t. c.are_none.ensures.0 c.if-not-are_none.false) c.check_end.ensures.ends

pub returns-then-is_word-2-clause-judges : goal.returns-then-is_word-2-clause-judges
returns-then-is_word-2-clause-judges g c =
    let reads = c.in_ok-read.ensures.reads in
    let found = c.if-not-branch.false in
    let took : ReadsLine (ahead c.loop-events.lines.bytes (g.S.Source.left c.loop-events.source)) (ahead c.read.new.self.bytes (g.S.Source.left c.read.new.source)) c.read.new.self.line.items true = subst (ReadsLine (ahead c.loop-events.lines.bytes (g.S.Source.left c.loop-events.source)) (ahead c.read.new.self.bytes (g.S.Source.left c.read.new.source)) c.read.new.self.line.items) found reads in
    answers_ends Fault c.args.setting.now (ahead c.args.lines.now.bytes (g.S.Source.left c.args.source.now)) (ahead c.loop-events.lines.bytes (g.S.Source.left c.loop-events.source)) (ahead c.read.new.self.bytes (g.S.Source.left c.read.new.source)) (holdings_of c.loop-events.holders.buffers.items) c.loop-events.events c.read.new.self.line.items false c.check_end-then-is_word-2.result c.loop-events.invariant.come took.0
    (sym c.line-in-loop-events.ensures
    ∙ same_text c.line-in-loop-events.result.now (codes "more") (sym c.is_word-in-loop-events.ensures ∙ c.if-is_word-2.true))
    (λ t. cc) c.check_end-then-is_word-2.ensures.ends

pub returns-then-events-eq-MOST_EVENTS-clause-judges : goal.returns-then-events-eq-MOST_EVENTS-clause-judges
returns-then-events-eq-MOST_EVENTS-clause-judges g c =
    let reads = c.in_ok-read.ensures.reads in
    let found = c.if-not-branch.false in
    let took : ReadsLine (ahead c.loop-events.lines.bytes (g.S.Source.left c.loop-events.source)) (ahead c.read.new.self.bytes (g.S.Source.left c.read.new.source)) c.read.new.self.line.items true = subst (ReadsLine (ahead c.loop-events.lines.bytes (g.S.Source.left c.loop-events.source)) (ahead c.read.new.self.bytes (g.S.Source.left c.read.new.source)) c.read.new.self.line.items) found reads in
    let no_end : c.read.new.self.line.items ≡ codes "end" → ⊥ =
    λ is. not_text c.line.result.now (codes "end") (sym c.is_word.ensures ∙ c.if-is_word.false) (c.line.ensures ∙ is) in
    let no_more : c.read.new.self.line.items ≡ codes "more" → ⊥ =
    λ is. not_text c.line-in-loop-events.result.now (codes "more") (sym c.is_word-in-loop-events.ensures ∙ c.if-is_word-2.false) (c.line-in-loop-events.ensures ∙ is) in
    answers_unfit c.args.setting.now (ahead c.args.lines.now.bytes (g.S.Source.left c.args.source.now)) (ahead c.loop-events.lines.bytes (g.S.Source.left c.loop-events.source)) (ahead c.read.new.self.bytes (g.S.Source.left c.read.new.source)) (holdings_of c.loop-events.holders.buffers.items) c.loop-events.events c.read.new.self.line.items unfit.TooMany c.loop-events.invariant.come took.0 took.1 (no_last c.read.new.self.line.items no_end no_more, omega arith)

pub returns-in-Some-clause-judges : goal.returns-in-Some-clause-judges
returns-in-Some-clause-judges g c =
    let reads = c.in_ok-read.ensures.reads in
    let found = c.if-not-branch.false in
    let took : ReadsLine (ahead c.loop-events.lines.bytes (g.S.Source.left c.loop-events.source)) (ahead c.read.new.self.bytes (g.S.Source.left c.read.new.source)) c.read.new.self.line.items true = subst (ReadsLine (ahead c.loop-events.lines.bytes (g.S.Source.left c.loop-events.source)) (ahead c.read.new.self.bytes (g.S.Source.left c.read.new.source)) c.read.new.self.line.items) found reads in
    let no_end : c.read.new.self.line.items ≡ codes "end" → ⊥ =
    λ is. not_text c.line.result.now (codes "end") (sym c.is_word.ensures ∙ c.if-is_word.false) (c.line.ensures ∙ is) in
    let no_more : c.read.new.self.line.items ≡ codes "more" → ⊥ =
    λ is. not_text c.line-in-loop-events.result.now (codes "more") (sym c.is_word-in-loop-events.ensures ∙ c.if-is_word-2.false) (c.line-in-loop-events.ensures ∙ is) in
    let changes = c.in_ok-why.ensures.changes in
    let none : LineChanges c.args.setting.now (holdings_of c.loop-events.holders.buffers.items) c.line-in-loop-events-2.result.now (holdings_of c.change.new.holders.buffers.items) (Some c.in-Some.why) =
    subst (LineChanges c.args.setting.now (holdings_of c.loop-events.holders.buffers.items) c.line-in-loop-events-2.result.now (holdings_of c.change.new.holders.buffers.items)) c.in-Some.is changes in
    answers_unfit c.args.setting.now (ahead c.args.lines.now.bytes (g.S.Source.left c.args.source.now)) (ahead c.loop-events.lines.bytes (g.S.Source.left c.loop-events.source)) (ahead c.read.new.self.bytes (g.S.Source.left c.read.new.source)) (holdings_of c.loop-events.holders.buffers.items) c.loop-events.events c.read.new.self.line.items c.in-Some.why c.loop-events.invariant.come took.0 took.1
    (unfit_read c.args.setting.now c.loop-events.events (holdings_of c.loop-events.holders.buffers.items) c.read.new.self.line.items c.in-Some.why (no_last c.read.new.self.line.items no_end no_more)
    (subst (λ l. IsUnfitEvent c.args.setting.now (holdings_of c.loop-events.holders.buffers.items) l c.in-Some.why) c.line-in-loop-events-2.ensures none))

pub loop-events-preserved : goal.loop-events-preserved
loop-events-preserved g c =
    let reads = c.in_ok-read.ensures.reads in
    let found = c.if-not-branch.false in
    let took : ReadsLine (ahead c.loop-events.lines.bytes (g.S.Source.left c.loop-events.source)) (ahead c.read.new.self.bytes (g.S.Source.left c.read.new.source)) c.read.new.self.line.items true = subst (ReadsLine (ahead c.loop-events.lines.bytes (g.S.Source.left c.loop-events.source)) (ahead c.read.new.self.bytes (g.S.Source.left c.read.new.source)) c.read.new.self.line.items) found reads in
    let changes = c.in_ok-why.ensures.changes in
    let some : LineChanges c.args.setting.now (holdings_of c.loop-events.holders.buffers.items) c.line-in-loop-events-2.result.now (holdings_of c.change.new.holders.buffers.items) None =
    subst (LineChanges c.args.setting.now (holdings_of c.loop-events.holders.buffers.items) c.line-in-loop-events-2.result.now (holdings_of c.change.new.holders.buffers.items)) c.in_default-2.is changes in
    let here : LineChanges c.args.setting.now (holdings_of c.loop-events.holders.buffers.items) c.read.new.self.line.items (holdings_of c.change.new.holders.buffers.items) None =
    (some.0, ap event_of (sym c.line-in-loop-events-2.ensures) ∙ some.1, some.2) in
    let cause = c.in_ok-read.ensures.cause in
    let after = some.2 in
    record {
      count = c.in_ok-why.ensures.count;
      few = λ b. omega (
        arith,
        c.loop-events.invariant.few b,
        after-few c.args.setting.now (holdings_of c.loop-events.holders.buffers.items) some.0 after.0 after.1 b,
        length-same (after.0 b) (holdings_of c.change.new.holders.buffers.items b) (after.2 b),
      );
      still = cause ∙ c.loop-events.invariant.still;
      come = comes_more c.args.setting.now (ahead c.args.lines.now.bytes (g.S.Source.left c.args.source.now)) (ahead c.loop-events.lines.bytes (g.S.Source.left c.loop-events.source)) (ahead c.read.new.self.bytes (g.S.Source.left c.read.new.source)) (holdings_of c.loop-events.holders.buffers.items) (holdings_of c.change.new.holders.buffers.items) c.loop-events.events c.read.new.self.line.items c.loop-events.invariant.come took.0 (omega arith) here;
    }

pub loop-events-init : goal.loop-events-init
loop-events-init g c = record {
  count = c.in-Ok.ensures.count ∙ c.total_buffers.ensures.value;
  few = λ b. omega (arith, ap length (c.in-Ok.ensures.none b));
  still = refl;
  come = comes_first c.args.setting.now (ahead c.args.lines.now.bytes (g.S.Source.left c.args.source.now)) (holdings_of c.in-Ok.holders.buffers.items)
      c.total_buffers.ensures.sound c.in-Ok.ensures.none;
}
