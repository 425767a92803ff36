use Rattle.std.proofs.{Common.{[], ◌∷◌, ◌++◌}, lemmas.Result.{err_from_is_err_and}}
use Rattle.zr_kinds.specs.RunText.{line_of}
use Rattle.top_call.proofs.Gathering.{breaks, waits-all}
use Rattle.top_call.proofs.record.gather_event.Goals as goal

pub returns-in_err-make_room-clause-gathered : goal.returns-in_err-make_room-clause-gathered
returns-in_err-make_room-clause-gathered g c =
    let (n, out) = c.in_err-make_room.ensures.gathered in
    let p = err_from_is_err_and c.from_residual.result c.from_residual.ensures.1 in
    rw p.1 (breaks _ _ _ _ _ [] (line_of c.args.event ++ 10 ∷ []) n (waits-all _ c.args.block.now.bytes) out)
