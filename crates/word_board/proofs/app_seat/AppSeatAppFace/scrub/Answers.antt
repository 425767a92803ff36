use Rattle.std.proofs.Common.{sym, subst}
use Rattle.board_face.specs.AppCalls.{CanScrub}
use Rattle.word_board.specs.Board.{TheApp}
use Rattle.word_board.proofs.app_seat.AppSeatAppFace.scrub.Goals as goal

pub scrub_counts-requires-clause-bare : goal.scrub_counts-requires-clause-bare
scrub_counts-requires-clause-bare c = record { set = c.self.invariant.set; hands = c.self.invariant.rests.hands }

pub scrub_counts-requires-clause-begins : goal.scrub_counts-requires-clause-begins
scrub_counts-requires-clause-begins c =
    let can = subst (λ (s : TheApp). CanScrub s.side.view) (sym c.self.view_is) c.requires.can in
    let rests = c.self.invariant.rests in
    let lists = rests.lists can.counted in
    record {
      can = record { quiet = can.quiet; loans = can.loans; counted = can.counted };
      unbegun = rests.unbegun can.counted;
      lists = record { took = lists.took; owes = lists.owes };
      clear = rests.owes;
    }
