-- It is quiet where no entry lies in the application's refill slots.
use Rattle.std.{proofs.Common.{refl, ap, sym, ◌∙◌}, specs.Prelude.{◌==◌}}
use Rattle.plain_board.proofs.{AppFrames.{here-of, others-then, side-then}, Quieting.{IsSound-quiet, told-quiet}, NotNow.{some-written}}
use Rattle.plain_board.proofs.contents.Contents.quiet.Goals as goal

pub invariant_of-self : goal.invariant_of-self
invariant_of-self c =
    let here = here-of _ c.args.app c.self.invariant.0 (rw (← c.self.view_is) at c.requires.app) in
    let many = rw c.as_slice.ensures.value at c.ring_len-quiet.ensures in
    rw c.note_at.ensures (IsSound-quiet _ c.args.app _ c.self.invariant.0 here _ (ap (λ n. n == 0) many), c.self.invariant.1)

pub returns-clause-told : goal.returns-clause-told
returns-clause-told c =
    let here = here-of _ c.args.app c.self.invariant.0 (rw (← c.self.view_is) at c.requires.app) in
    let many = rw c.as_slice.ensures.value at c.ring_len-quiet.ensures in
    rw (← c.self.view_is, c.note_at.ensures, side-then c.self.inside.apps.items c.args.app _ _ here)
    (told-quiet _ c.args.app _ c.self.invariant.0 here _ (ap (λ n. n == 0) many))

pub returns-clause-only : goal.returns-clause-only
returns-clause-only c =
    let here = here-of _ c.args.app c.self.invariant.0 (rw (← c.self.view_is) at c.requires.app) in
    record {
      inside = rw (← c.self.view_is, c.note_at.ensures, side-then c.self.inside.apps.items c.args.app _ _ here) refl;
      others = rw (← c.self.view_is, c.note_at.ensures) (others-then c.self.inside.nic c.self.inside.apps.items c.args.app _);
      layout = rw (← c.self.view_is) refl;
      sound = (invariant_of-self c).0;
    }

pub returns-clause-some : goal.returns-clause-some
returns-clause-some c = λ no.
    let here = here-of _ c.args.app c.self.invariant.0 (rw (← c.self.view_is) at c.requires.app) in
    let many = rw c.as_slice.ensures.value at c.ring_len-quiet.ensures in
    rw (← c.self.view_is) (some-written _ c.args.app _ c.self.invariant.0 here (sym (ap (λ n. n == 0) many) ∙ no))
