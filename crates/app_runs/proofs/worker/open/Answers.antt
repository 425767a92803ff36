-- A hand with nothing, and an application that has taken no turn, are those of a board that was just opened.
use Rattle.std.proofs.{Common.{arith, rules, ◌≡◌, sym}, lemmas.Bool.{false≢true}}
use Rattle.app_runs.proofs.Opening.{begun, fresh, here}
use Rattle.app_runs.proofs.worker.open.Goals as goal

pub returns : goal.returns
returns c =
    let one : c.in_ok-layout.layout.reserves ≡ 1 = search rules in
    let view = begun c.in_ok-board.board c.in_ok-layout.layout c.args.places c.in_ok-board.ensures.board (sym one) in
    record {
      few = rw (c.in_ok-board.ensures.board, one) (omega arith);
      card = rw c.in_ok-board.ensures.board (c.new-card.ensures _);
      stands = c.in_ok-st.ensures.stands _ (fresh _ _ view);
      here = λ _. here _ _ view;
      gone = λ e. absurd (false≢true e);
    }
