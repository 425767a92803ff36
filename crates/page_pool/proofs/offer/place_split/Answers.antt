use Rattle.std.proofs.Common.{sym, arith}
use Rattle.page_pool.proofs.Offering.{PlacesSplit-current, LacksRoom-empty, PlacesSplit-fresh, IsNeed, looked}
use Rattle.page_pool.proofs.offer.place_split.Goals as goal

pub returns-then-place_in_current-clause-answer : goal.returns-then-place_in_current-clause-answer
returns-then-place_in_current-clause-answer g c =
    let same = sym c.pool.view_is in
    rw same (PlacesSplit-current _ _ _ _ _ _ (rw same at c.requires.stands)
    (rw same at c.requires.none) c.requires.offer.app c.requires.offer.some c.requires.offer.most c.if-place_in_current.ensures.answer)

pub returns-in-Empty-clause-answer : goal.returns-in-Empty-clause-answer
returns-in-Empty-clause-answer g c =
    let same = sym c.pool.view_is in
    let leaves = c.if-place_in_current.ensures.answer in
    let closes = rw (leaves.current, leaves.view) at c.close_current.ensures.closes in
    let value = c.cached.ensures.value in
    let search = c.find_fresh-end.ensures in
    let few = search.lacks c.in-Empty.is in
    let counts = rw (c.joined.ensures, c.in-Empty.is) at c.count.ensures in
    rw (same, c.close_current.ensures.none, leaves.pieces_are)
    (LacksRoom-empty _ _ _ _ _ _ _ _ _ _ (rw same at c.requires.stands) (rw same at c.requires.none)
    (record { too_long = leaves.too_long; size_is = c.size.ensures.value; need_is = c.div_ceil-needed.ensures })
    closes c.close_current.ensures.out (rw c.in-Empty.is at search.searches) counts (sym value) (omega (arith, value, few)))

pub place_fresh-pool-inside-requires-clause-out : goal.place_fresh-pool-inside-requires-clause-out
place_fresh-pool-inside-requires-clause-out g c =
    let same = sym c.pool.view_is in
    let leaves = c.if-place_in_current.ensures.answer in
    let closes = rw (leaves.current, leaves.view) at c.close_current.ensures.closes in
    let all = looked _ _ _ _ _ _ _ (rw same at c.requires.stands)
    (rw same at c.requires.none) closes c.close_current.ensures.out c.find_fresh-end.ensures.searches in
    (all.owns, all.pieces, leaves.pieces_are)

pub returns-clause-answer : goal.returns-clause-answer
returns-clause-answer g c =
    let same = sym c.pool.view_is in
    let leaves = c.if-place_in_current.ensures.answer in
    let closes = rw (leaves.current, leaves.view) at c.close_current.ensures.closes in
    let placed = c.place_fresh-pool-inside.ensures.places in
    let counts = rw c.joined.ensures at c.count.ensures in
    let is : IsNeed c.div_ceil-needed.result c.size.result c.pool.inside.current _ c.args.offer.now =
    record { too_long = leaves.too_long; size_is = c.size.ensures.value; need_is = c.div_ceil-needed.ensures } in
    rw same
    (PlacesSplit-fresh _ _ _ _ _ _ _ _ _ _ _ _ _ (rw same at c.requires.stands) (rw same at c.requires.none) is
    c.size.ensures.sound c.requires.offer.some closes c.close_current.ensures.out c.find_fresh-end.ensures.searches c.in_default.not-Empty counts placed
    c.place_fresh-pool-inside.ensures.out c.place_fresh-pool-inside.ensures.few)
