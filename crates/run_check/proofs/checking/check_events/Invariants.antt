-- What was read behind the first line are the lines of so many events, and the holders are the same as those after them.
use Rattle.std.proofs.Common.{◌≡◌, ℕ, ◌≤◌, length}
use Rattle.zr_kinds.specs.Setting.{total_buffers}
use Rattle.run_check.{specs.{Coming.{ahead}, Holding.{holdings_of}}, proofs.Telling.{ComesWith}}
use Rattle.run_check.proofs.checking.check_events.Given as goal

abbrev pub invariant-loop-events : goal.invariant-loop-events
invariant-loop-events g l = record {
  count : length l.holders.buffers.items ≡ total_buffers l.setting;
  few : (b : ℕ) → length (holdings_of l.holders.buffers.items b) ≤ l.events;
  still : g.S.Source.faults l.source ≡ g.S.Source.faults l.fn.source;
  come : ComesWith l.setting (ahead l.fn.lines.bytes (g.S.Source.left l.fn.source)) (ahead l.lines.bytes (g.S.Source.left l.source))
      (holdings_of l.holders.buffers.items) l.events;
}
