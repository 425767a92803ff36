use Rattle.std.proofs.Common.{◌≡◌, map, drop}
use Rattle.zr_kinds.specs.CopyingReceiver.{nothing_placed}
use Rattle.flow_table.specs.{CountedPart.{not_closed}, Kept.{close_shown}, Stream.{received_all}, Plain.{placed_shown, steered_shown}}
use Rattle.flow_table.proofs.plain.receive_all.Given as goal

abbrev pub invariant-loop-one : goal.invariant-loop-one
invariant-loop-one l =
    received_all l.base l.left_out (close_shown l.close) (placed_shown l.placed) (map steered_shown (drop l.one-index l.steered))
    ≡ received_all l.base l.left_out not_closed nothing_placed (map steered_shown l.steered)
