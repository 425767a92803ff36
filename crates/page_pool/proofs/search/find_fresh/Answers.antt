use Rattle.std.proofs.Common.{arith}
use Rattle.page_pool.proofs.Searching.{Searches-fast, Searches-refill, Searches-slow, Searches-empty}
use Rattle.page_pool.proofs.search.find_fresh.Goals as goal

pub returns-then-cached-needed-clause-searches : goal.returns-then-cached-needed-clause-searches
returns-then-cached-needed-clause-searches g c =
    Searches-fast _ _ _ (omega (arith, c.cached.ensures.value, c.if-cached-needed.true))

pub returns-then-cached-needed-2-clause-searches : goal.returns-then-cached-needed-2-clause-searches
returns-then-cached-needed-2-clause-searches g c =
    let first = c.cached.ensures.value in
    let second = c.cached-2.ensures.value in
    Searches-refill _ _ _ _ _ c.requires.few (omega (arith, first, c.if-cached-needed.false)) c.refill.ensures.refills
    (omega (arith, second, c.if-cached-needed-2.true))

pub returns-then-cached-needed-3-clause-searches : goal.returns-then-cached-needed-3-clause-searches
returns-then-cached-needed-3-clause-searches g c =
    let first = c.cached.ensures.value in
    let second = c.cached-2.ensures.value in
    let third = c.cached-3.ensures.value in
    Searches-slow _ _ _ _ _ _ c.requires.few (omega (arith, first, c.if-cached-needed.false)) c.refill.ensures.refills
    (omega (arith, second, c.if-cached-needed-2.false)) c.sweep.ensures.sweeps (omega (arith, third, c.if-cached-needed-3.true))

pub returns-clause-searches : goal.returns-clause-searches
returns-clause-searches g c =
    let first = c.cached.ensures.value in
    let second = c.cached-2.ensures.value in
    let third = c.cached-3.ensures.value in
    Searches-empty _ _ _ _ _ _ c.requires.few c.refill.ensures.refills (omega (arith, second, c.if-cached-needed-2.false)) c.sweep.ensures.some
    c.sweep.ensures.sweeps (omega (arith, third, c.if-cached-needed-3.false))
