-- The next record in either form.
use Rattle.std.proofs.Common.{sym, ap, ◌∙◌}
use Rattle.pcapng_reader.{specs.Forms.{reading_of_form}, proofs.{Forms.{classic-gives, order-kept}, any.AnyCapture.next.Goals.{in-Classic, in-Blocks}}}
use Rattle.pcapng_reader.proofs.any.AnyCapture.next.Goals as goal

pub returns-clause-gives : goal.returns-clause-gives
returns-clause-gives g c = elim c.match-self.branch [
  | in-Classic w ↦
      let was = sym c.self.view_is ∙ ap reading_of_form w.in-Classic.is in
      let kept = order-kept w.next.result w.in-Classic.capture w.next.new.self w.next.ensures.kept in
      rw (was, w.self-inside-is, w.source-is, w.into-is, w.result-is)
      (λ fine. classic-gives w.in-Classic.capture.order w.next.new.self.order _ _ _ _ kept (w.next.ensures.gives fine))
  | in-Blocks w ↦
      let was = sym c.self.view_is ∙ ap reading_of_form w.in-Blocks.is in
      rw (was, w.self-inside-is, w.source-is, w.into-is, w.result-is) w.next-in-Blocks.ensures.gives
]
