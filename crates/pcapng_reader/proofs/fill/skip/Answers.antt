-- A piece more is passed over.
use Rattle.std.proofs.{Common.{◌≡◌, ◌-◌, ◌<◌, rules, length, arith, length-append, ◌∙◌}, lemmas.Result.{err_from_is_err_and}}
use Rattle.zr_io.proofs.Moved.{Took-consumed, Took-then}
use Rattle.pcapng_reader.proofs.BlockSteps.{breaks-then}
use Rattle.pcapng_reader.proofs.fill.skip.Goals as goal

pub loop-left-preserved : goal.loop-left-preserved
loop-left-preserved g c =
    let piece = c.fill_whole.new.into in
    let size : length piece ≡ c.min-len.result = search rules in
    record {
      within = omega arith;
      taken = Took-then _ _ _ (λ xs. length xs ≡ c.args.count - c.loop-left.left) (λ ys. length ys ≡ length piece) _
          (λ xs ys p q. omega (arith, length-append xs ys, size)) c.loop-left.invariant.taken
          (Took-consumed _ _ piece _ c.in_ok-fill_whole.ensures.fills (search rules));
      still = c.in_ok-fill_whole.ensures.cause.still (search rules) ∙ c.loop-left.invariant.still;
    }

pub returns-in_err-fill_whole-clause-skips : goal.returns-in_err-fill_whole-clause-skips
returns-in_err-fill_whole-clause-skips g c =
    let p = err_from_is_err_and c.from_residual.result c.from_residual.ensures.1 in
    let size : length c.fill_whole.new.into ≡ c.min-len.result = search rules in
    rw (p.1, p.2)
    (breaks-then _ _ _ (λ xs. length xs ≡ c.args.count - c.loop-left.left) (λ ys. length ys < length c.fill_whole.new.into) _ _
    (λ xs ys p q. omega (arith, length-append xs ys, size)) c.loop-left.invariant.taken c.in_err-fill_whole.ensures.fills)
