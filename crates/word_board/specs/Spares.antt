-- What an application's search for a spare in the free list did.
use Rattle.std.specs.Prelude.{◌≡◌, ℕ, ◌<◌, false, List, [], Option, Some, None}
use Rattle.area_layout.specs.Layout.{pool_buffers}
use Rattle.board_face.specs.{AppCalls.{HasNoneIn, GotSpare, AppOnlySaw}, AppEvents.{app_saw, got_spare}, Steps.{HasSearched, side_picked}, NicEvents.{fresh}}
use Rattle.board_face.specs.declared.views.app.{AppLook.TheVariants.{NoSpare}, AppSide.{AppSide}}

-- the side with these words seen without a buffer for it
abbrev pub seen_without : AppSide → List ℕ → AppSide
seen_without app words = record app { inside = record app.inside { words_without = words } }

-- No word had a buffer for it: each was 0, or its lowest buffer was lost to another.
pub record FoundNone (old new : AppSide) : Type 0 where
  pub without : List ℕ
  pub event : new ≡ seen_without old without
  pub searched : HasSearched new

-- It picked a buffer, which is in hand from then on.
pub record FoundOne (old new : AppSide) (buffer : ℕ) : Type 0 where
  pub without : List ℕ
  pub event : new ≡ side_picked (seen_without old without) buffer
  pub of_pool : buffer < pool_buffers old.view.setting.layout

abbrev pub Searched : AppSide → AppSide → Option ℕ → Type 0
Searched old new None = FoundNone old new
Searched old new (Some buffer) = FoundOne old new buffer

-- It took a spare that was listed, in which nothing of it lay, and the search is over. Its reserve isn't known to be free any more.
pub record TookListed (old new : AppSide) (buffer : ℕ) : Type 0 where
  pub event : new ≡ record {
    view = got_spare old.view buffer;
    inside = record old.inside { words_without = []; reserve_seen_free = false };
  }
  pub of_pool : buffer < pool_buffers old.view.setting.layout
  pub apart : HasNoneIn old.view buffer

-- ---- the whole search

-- It took a spare: one that was listed, or its reserve.
pub record TookSpare (old new : AppSide) (buffer : ℕ) : Type 0 where
  pub event : new ≡ record {
    view = got_spare old.view buffer;
    inside = record old.inside { words_without = []; reserve_seen_free = false };
  }
  pub got : GotSpare old.view new.view (fresh old.view.setting buffer)

-- There was no spare: no word had a buffer for it, and after that its reserve was held.
pub record TookNoSpare (old new : AppSide) : Type 0 where
  pub event : new ≡ record { view = app_saw old.view NoSpare; inside = record old.inside { words_without = [] } }
  pub saw : AppOnlySaw NoSpare old.view new.view
