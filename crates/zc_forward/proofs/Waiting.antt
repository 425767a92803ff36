-- What is told at the end comes behind a turn too.
use Rattle.std.proofs.Common.{◌≡◌, ℕ, List, Option, subst}
use Rattle.zr_io.specs.Moved.{ShelfCounts}
use Rattle.board_face.specs.declared.views.app.AppView.{AppView}
use Rattle.zc_poll.specs.{Standing.{Desk}, declared.to_shelf.Poured.{Poured}}
use Rattle.zc_forward.specs.{Tags.{Tags}, Sending.{OutboxState}, Forwarding.{ForwardStands}, Polls.{IsLastTurn, TellsForwarded}}

pub tells-then : (u w : OutboxState) (was now : Desk) (tags after : Tags) (got later : ℕ → Option (List ℕ)) (losses counts : ShelfCounts) (v z : AppView) (x : Poured)
    → ((first : ℕ → Option (List ℕ)) (n : ShelfCounts) → ForwardStands first n u was tags got losses v → ForwardStands first n w now after later counts z)
    → z.app ≡ v.app → TellsForwarded w now after later counts z x → TellsForwarded u was tags got losses v x
tells-then u w was now tags after got later losses counts v z x goes same tells = λ first n stands.
    let (last, count, new, told) = tells first n (goes first n stands) in
    (last, count, new, subst (λ app. IsLastTurn first n last count app new x) same told)
