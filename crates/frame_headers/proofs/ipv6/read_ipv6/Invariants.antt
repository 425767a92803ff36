use Rattle.std.proofs.Common.{suc, ◌-◌, ◌/◌}
use Rattle.frame_headers.proofs.ipv6.read_ipv6.Given as goal

-- the steps that the definition begins with
abbrev pub ghost-read_next : goal.ghost-read_next
ghost-read_next a = suc ((a.end - a.at) / 8)
