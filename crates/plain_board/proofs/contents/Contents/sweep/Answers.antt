-- The listed buffers of the word come to be cached, and no buffer is lost that no spare was for.
use Rattle.std.proofs.{Common.{refl, ◌≡◌, ℕ, ◌++◌, List, drop, length, ap, sym, ◌∙◌, arith}, Math.Seq.{drop-append_seam}}
use Rattle.plain_board.proofs.{Sweeping.{IsSound-swept, SweptWord-swept}, Losing.{lost-bound}}
use Rattle.plain_board.proofs.contents.Contents.sweep.Goals as goal

seam : (cache cache' found now : List ℕ) → cache ≡ cache' → now ≡ cache ++ found → drop (length cache') now ≡ found
seam cache cache' found now e is = rw (is, ← e) (drop-append_seam cache found)

pub invariant_of-self : goal.invariant_of-self
invariant_of-self c =
    let asked = rw (← c.self.view_is) at c.requires in
    let moved = c.move_word-count.ensures in
    let cached = c.self.invariant.0.cached in
    let sound = IsSound-swept _ c.args.word c.self.invariant.0 asked.word c.move_word-count.new.listed.items
    (omega (arith, asked.room, ap length cached)) moved.len moved.taken moved.others in
    let found = seam _ _ _ _ cached moved.cache in
    rw (c.note.ensures, found, moved.cache) (sound, c.self.invariant.1)

pub returns-clause-view : goal.returns-clause-view
returns-clause-view c =
    let inside = rw (← c.self.view_is) at c.requires.word in
    let moved = c.move_word-count.ensures in
    let found = seam _ _ _ _ c.self.invariant.0.cached moved.cache in
    rw (← c.self.view_is, c.note.ensures) (SweptWord-swept _ c.args.word c.self.invariant.0 inside c.move_word-count.result _ found
    (moved.count ∙ ap length (sym found)))

pub returns-clause-bound : goal.returns-clause-bound
returns-clause-bound c =
    let asked = rw (← c.self.view_is) at c.requires in
    let moved = c.move_word-count.ensures in
    let cached = c.self.invariant.0.cached in
    let sound = IsSound-swept _ c.args.word c.self.invariant.0 asked.word c.move_word-count.new.listed.items
    (omega (arith, asked.room, ap length cached)) moved.len moved.taken moved.others in
    let found = seam _ _ _ _ cached moved.cache in
    rw (c.note.ensures, found) (lost-bound _ sound)

pub returns-clause-only : goal.returns-clause-only
returns-clause-only c = record { apps = rw (← c.self.view_is) refl; sound = (invariant_of-self c).0 }
