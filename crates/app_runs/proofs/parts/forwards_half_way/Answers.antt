use Rattle.app_runs.proofs.parts.forwards_half_way.Goals as goal

pub stop-poured-requires : goal.stop-poured-requires
stop-poured-requires g c = record { stands = (_, _, c.in-Did.ensures.makes.gives _ _ c.new-work.ensures.stands) }
