-- What sits in lanes goes on: turns come behind turns.
use Rattle.std.{proofs.Common.{ℕ, List, Option, refl, ◌∙◌, arith}, specs.Prelude.{All, slice_index_or}}
use Rattle.replay_threads.specs.{declared.lane.Lane.{Lane}, Lanes.{AllGo, LanesFit, LanesGo}}
use Rattle.zr_io.specs.Moved.{ShelfCounts}

pub all_same : {W : Type 0} {fits : W → Type 0} {goes : W → W → Type 0} → ((x : W) → fits x → goes x x) → (lanes : List W) → All fits lanes
    → AllGo goes lanes lanes
all_same same lanes fit = record { many = refl; each = λ i d within. same (slice_index_or lanes i d) (fit i d within) }

pub all_more : {W : Type 0} {goes : W → W → Type 0} → ((x y z : W) → goes x y → goes y z → goes x z) → (u v w : List W) → AllGo goes u v
    → AllGo goes v w → AllGo goes u w
all_more more u v w before after = record {
  many = after.many ∙ before.many;
  each = λ i d within. more (slice_index_or u i d) (slice_index_or v i d) (slice_index_or w i d) (before.each i d within)
      (after.each i d (omega (arith, within, before.many)));
}

pub all_fit : {W : Type 0} {fits : W → Type 0} {goes : W → W → Type 0} → ((x y : W) → goes x y → fits y) → (u v : List W) → AllGo goes u v
    → All fits v
all_fit again u v go i d within = again (slice_index_or u i d) (slice_index_or v i d) (go.each i d (omega (arith, within, go.many)))

pub lanes_fit : {T : Type 0} (kept : T → ℕ → Option (List ℕ)) (losses : T → ShelfCounts) (u v : List (Lane T)) → LanesGo kept losses u v → LanesFit kept losses v
lanes_fit kept losses u v go i d within = (go.each i d (omega (arith, within, go.many))).fits
