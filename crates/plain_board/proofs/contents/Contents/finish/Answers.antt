-- Nobody has anything, so each pool buffer is free once.
use Rattle.plain_board.proofs.Ending.{fits-room, IsEachOnce-over, HasNoCounts-over, served-all}
use Rattle.plain_board.proofs.contents.Contents.finish.Goals as goal

pub all_free-requires-clause-room : goal.all_free-requires-clause-room
all_free-requires-clause-room c =
    let over = rw (← c.self.view_is) at c.requires in
    rw c.as_slice.ensures.value (fits-room _ c.self.invariant.0 over _ c.self.invariant.1.free_room)

pub returns-clause-once : goal.returns-clause-once
returns-clause-once c =
    let over = rw (← c.self.view_is) at c.requires in
    rw (← c.self.view_is, c.all_free.ensures, c.as_slice.ensures.value) (IsEachOnce-over _ c.self.invariant.0 over)

pub returns-clause-counts : goal.returns-clause-counts
returns-clause-counts c =
    let over = rw (← c.self.view_is) at c.requires in
    rw (← c.self.view_is) (HasNoCounts-over _ c.self.invariant.0 over)

pub returns-clause-served : goal.returns-clause-served
returns-clause-served c =
    let over = rw (← c.self.view_is) at c.requires in
    rw (← c.self.view_is) (served-all _ c.self.invariant.0 over)
