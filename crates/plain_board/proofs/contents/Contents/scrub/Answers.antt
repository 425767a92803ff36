-- The user counts of the application are what it owes, of which each carries a reference.
use Rattle.plain_board.proofs.{AppFrames.{here-of, others-then, side-then}, Scrubbing.{few-users, IsSound-scrubbed, takes-all}}
use Rattle.plain_board.proofs.contents.Contents.scrub.Goals as goal

pub take_back-requires-clause-few : goal.take_back-requires-clause-few
take_back-requires-clause-few c =
    let here = here-of _ c.args.app c.self.invariant.0 (rw (← c.self.view_is) at c.requires.app) in
    let can = rw (← c.self.view_is) at c.requires.can in
    few-users _ c.args.app _ c.self.invariant.0 here can

pub invariant_of-self : goal.invariant_of-self
invariant_of-self c =
    let here = here-of _ c.args.app c.self.invariant.0 (rw (← c.self.view_is) at c.requires.app) in
    let can = rw (← c.self.view_is) at c.requires.can in
    rw (c.note_at.ensures, c.as_slice-users.ensures.value) (
      IsSound-scrubbed _ c.args.app _ c.self.invariant.0 here can _ _ _ c.take_back.ensures,
      c.self.invariant.1,
    )

pub returns-clause-others : goal.returns-clause-others
returns-clause-others c = rw (← c.self.view_is, c.note_at.ensures) (others-then c.self.inside.nic c.self.inside.apps.items c.args.app _)

pub returns-clause-taken : goal.returns-clause-taken
returns-clause-taken c =
    let here = here-of _ c.args.app c.self.invariant.0 (rw (← c.self.view_is) at c.requires.app) in
    let can = rw (← c.self.view_is) at c.requires.can in
    rw (← c.self.view_is, c.note_at.ensures, c.as_slice-users.ensures.value) (record {
      total = _;
      all = takes-all _ c.args.app _ c.self.invariant.0 here can;
      side = side-then c.self.inside.apps.items c.args.app _ _ here;
    })

pub returns-clause-sound : goal.returns-clause-sound
returns-clause-sound c = (invariant_of-self c).0
