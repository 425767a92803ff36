use Rattle.std.proofs.Common.{◌≡◌, refl, ap, sym, ◌∙◌, arith, subst}
use Rattle.area_layout.specs.Layout.{all_buffers}
use Rattle.board_face.proofs.ListLemmas.{not-eqb}
use Rattle.ref_words.specs.Sides.{HasScrubLists}
use Rattle.word_board.{specs.Board.{TheBoard}, proofs.Scrubs.{IsScrubbedBelow, IsScrubbedBelow-none, IsScrubbedBelow-more, IsScrubbedBelow-all}}
use Rattle.word_board.proofs.kinds.scrubs.scrub_counts.Goals as goal

pub loop-buffer-init : goal.loop-buffer-init
loop-buffer-init c = (
  refl,
  IsScrubbedBelow-none _ _ (omega (arith, c.requires.few)) c.requires.begins.can.counted c.requires.begins.unbegun
      c.requires.begins.lists c.requires.begins.clear,
)

pub scrub_one-requires-clause-bare : goal.scrub_one-requires-clause-bare
scrub_one-requires-clause-bare c = record {
  set = ap (λ s. s.view.setting) c.loop-buffer.invariant.1.event
      ∙ (c.requires.bare.set ∙ sym (ap (λ (b : TheBoard). b.setting) c.loop-buffer.invariant.0));
  hands = ap (λ s. s.inside.hands) c.loop-buffer.invariant.1.event ∙ c.requires.bare.hands;
}

pub scrub_one-requires-clause-at : goal.scrub_one-requires-clause-at
scrub_one-requires-clause-at c =
    let is = c.loop-buffer.invariant.1.event in
    let can = c.requires.begins.can in
    record {
      within = omega (arith, c.loop-buffer-test.true, c.requires.all, ap (λ (b : TheBoard). all_buffers b.setting.layout) c.loop-buffer.invariant.0);
      next = ap (λ s. s.inside.scrub_mark) is;
      can = record {
        quiet = ap (λ s. s.view.quiet) is ∙ can.quiet;
        loans = ap (λ s. s.view.loans) is ∙ can.loans;
        counted = ap (λ s. s.view.scrubbed) is
            ∙ not-eqb c.loop-buffer.buffer (all_buffers c.args.app.now.board.setting.layout) (λ e. absurd (omega (arith, e, c.loop-buffer-test.true, c.requires.all)));
      };
    }

pub scrub_one-requires-clause-lists : goal.scrub_one-requires-clause-lists
scrub_one-requires-clause-lists c =
    let l = c.loop-buffer.invariant.1.lists in
    subst (λ (b : TheBoard). HasScrubLists b.setting c.loop-buffer.app.side) (sym c.loop-buffer.invariant.0) (record { took = l.took; owes = l.owes })

pub scrub_one-requires-clause-clear : goal.scrub_one-requires-clause-clear
scrub_one-requires-clause-clear c = c.loop-buffer.invariant.1.clear c.loop-buffer.buffer

pub loop-buffer-preserved : goal.loop-buffer-preserved
loop-buffer-preserved c = (
  c.scrub_one.ensures.board ∙ c.loop-buffer.invariant.0,
  IsScrubbedBelow-more _ _ _ _ c.loop-buffer.buffer c.requires.bare.set
      (omega (arith, c.loop-buffer-test.true, c.requires.all)) c.loop-buffer.invariant.1 c.scrub_one.ensures.event,
)

pub returns-clause-event : goal.returns-clause-event
returns-clause-event c =
    let whole : c.loop-buffer.buffer ≡ all_buffers c.args.app.now.board.setting.layout = omega (
      arith,
      c.loop-buffer-test.false,
      c.loop-buffer.auto.buffer-end,
      c.requires.all,
    ) in
    IsScrubbedBelow-all c.args.app.now.board.setting _ _ c.requires.bare.set
    (subst (IsScrubbedBelow c.args.app.now.board.setting c.args.app.now.side c.loop-buffer.app.side) whole c.loop-buffer.invariant.1)
