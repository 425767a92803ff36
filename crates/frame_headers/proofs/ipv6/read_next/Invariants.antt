use Rattle.std.proofs.Common.{◌≡◌, ℕ, suc, ◌+◌, ◌-◌, ◌*◌, ◌≤◌, ◌<◌}
use Rattle.frame_headers.specs.FrameClass.{ipv6_from}
use Rattle.frame_headers.proofs.ipv6.read_next.Given as goal

-- the class from here on is the class from the start on, and there are steps left for what stands here
abbrev pub invariant-loop-src : goal.invariant-loop-src
invariant-loop-src g l =
    (l.fn.at ≤ l.at)
    × (l.at ≤ l.end)
    × ((rest : ℕ)
    × (l.end < l.at + 8 * suc rest)
    × (ipv6_from g.steps l.frame l.fn.src l.fn.dst l.fn.next l.fn.at l.end ≡ ipv6_from (suc rest) l.frame l.src l.dst l.next l.at l.end))

abbrev pub decreases-loop-src : goal.decreases-loop-src
decreases-loop-src g l = l.end - l.at
