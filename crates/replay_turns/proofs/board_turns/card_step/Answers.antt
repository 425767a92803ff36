use Rattle.std.{proofs.Common.{◌≡◌, Bool, true, false, ap}, specs.Prelude.{MatchBool}}
use Rattle.board_face.specs.declared.views.nic.NicView.{NicView}
use Rattle.plain_board.specs.{Board.{applications_of}, Seen.{IsSeenByCard}, declared.others.Applications.{Applications}}
use Rattle.card_feed.specs.{Feed.{FeedState}, Turns.{IsIdle}}
use Rattle.replay_turns.proofs.board_turns.card_step.Goals as goal

-- what the card saw is so of the applications beside it
answered : (did : Bool) (beside : Applications) (was now : FeedState) (old new : NicView) (Rises : Type 0)
    → MatchBool did Rises (IsIdle (λ look v (b : Applications). IsSeenByCard look v b.apps) beside was now old new)
    → MatchBool did Rises (IsIdle IsSeenByCard beside.apps was now old new)
answered true beside was now old new Rises rises = rises
answered false beside was now old new Rises idle =
    record { feed = idle.feed; stats = idle.stats; view = idle.view; rings = idle.rings; notes = idle.notes }

pub returns-clause-answer : goal.returns-clause-answer
returns-clause-answer g c = rw c.back.ensures.board
    (answered c.nic_turn-did.result (applications_of c.nic_turn-did.new.face) c.args.feed.now c.nic_turn-did.new.feed c.args.board.nic.view
    c.nic_turn-did.new.face.nic.view _ (rw c.nic-face.ensures at c.nic_turn-did.ensures.answer))

pub returns-clause-apps : goal.returns-clause-apps
returns-clause-apps g c =
    let beside : applications_of c.nic_turn-did.new.face ≡ applications_of c.args.board = rw c.nic-face.ensures at c.nic_turn-did.ensures.beside in
    rw c.back.ensures.board (ap (λ (b : Applications). b.apps) beside)

pub returns-clause-room : goal.returns-clause-room
returns-clause-room g c =
    let beside : applications_of c.nic_turn-did.new.face ≡ applications_of c.args.board = rw c.nic-face.ensures at c.nic_turn-did.ensures.beside in
    rw c.back.ensures.board (ap (λ (b : Applications). b.room) beside)

pub returns-clause-turns : goal.returns-clause-turns
returns-clause-turns g c = λ first ports split frames stands. rw c.back.ensures.board
    (rw c.nic-face.ensures at (c.nic_turn-did.ensures.turns first ports split frames (rw c.nic-face.ensures stands)))
