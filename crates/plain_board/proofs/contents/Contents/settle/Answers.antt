-- It is settled where the count of entries up to the last raw one is 0.
use Rattle.std.{proofs.{Common.{ap, refl, sym, ◌∙◌}, lemmas.List.{get_or_read}}, specs.Prelude.{◌==◌}}
use Rattle.plain_board.proofs.{AppFrames.{here-of, others-then, side-then}, Settling.{IsSound-settled, told-settled, still-settled, there-raw}, NotNow.{raw-pushed}}
use Rattle.plain_board.proofs.contents.Contents.settle.Goals as goal

pub invariant_of-self : goal.invariant_of-self
invariant_of-self c =
    let within = rw (← c.self.view_is) at c.requires.app in
    let here = here-of _ c.args.app c.self.invariant.0 within in
    let raw = get_or_read c.self.inside.raw.items c.args.app c.index.result.now (there-raw _ c.args.app c.self.invariant.0 within) c.index.ensures 0 in
    rw c.note_at.ensures (IsSound-settled _ c.args.app _ c.self.invariant.0 here _ (ap (λ n. n == 0) raw), c.self.invariant.1)

pub returns-clause-told : goal.returns-clause-told
returns-clause-told c =
    let within = rw (← c.self.view_is) at c.requires.app in
    let here = here-of _ c.args.app c.self.invariant.0 within in
    let raw = get_or_read c.self.inside.raw.items c.args.app c.index.result.now (there-raw _ c.args.app c.self.invariant.0 within) c.index.ensures 0 in
    rw (← c.self.view_is, c.note_at.ensures, side-then c.self.inside.apps.items c.args.app _ _ here)
    (told-settled _ c.args.app _ c.self.invariant.0 here _ (ap (λ n. n == 0) raw))

pub returns-clause-still : goal.returns-clause-still
returns-clause-still c = λ settled.
    let within = rw (← c.self.view_is) at c.requires.app in
    let here = here-of _ c.args.app c.self.invariant.0 within in
    let raw = get_or_read c.self.inside.raw.items c.args.app c.index.result.now (there-raw _ c.args.app c.self.invariant.0 within) c.index.ensures 0 in
    let none = raw ∙ still-settled _ c.args.app _ c.self.invariant.0 here (rw (← c.self.view_is) at settled) in
    rw none refl

pub returns-clause-only : goal.returns-clause-only
returns-clause-only c =
    let here = here-of _ c.args.app c.self.invariant.0 (rw (← c.self.view_is) at c.requires.app) in
    record {
      inside = rw (← c.self.view_is, c.note_at.ensures, side-then c.self.inside.apps.items c.args.app _ _ here) refl;
      others = rw (← c.self.view_is, c.note_at.ensures) (others-then c.self.inside.nic c.self.inside.apps.items c.args.app _);
      layout = rw (← c.self.view_is) refl;
      sound = (invariant_of-self c).0;
    }

pub returns-clause-raw : goal.returns-clause-raw
returns-clause-raw c = λ no.
    let within = rw (← c.self.view_is) at c.requires.app in
    let here = here-of _ c.args.app c.self.invariant.0 within in
    let raw = get_or_read c.self.inside.raw.items c.args.app c.index.result.now (there-raw _ c.args.app c.self.invariant.0 within) c.index.ensures 0 in
    rw (← c.self.view_is) (raw-pushed _ c.args.app _ c.self.invariant.0 here (sym (ap (λ n. n == 0) raw) ∙ no))
