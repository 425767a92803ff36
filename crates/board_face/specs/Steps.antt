-- Steps: what a call of a face does to a side by its single steps on a board of words, where it has more than one. The steps of
-- a call together are the call's event.
use Rattle.std.specs.Prelude.{ℕ, ◌+◌, Bool, false, not, ◌&&◌, if◌then◌else◌, List, [], ◌∷◌, ◌++◌, length, nat_lt, nat_eq, ◌<◌, slice_index, slice_set, Some, Contains}
use Rattle.zr_kinds.specs.declared.{place.Place.{Place}, ring.Rqe.{Rqe}}
use Rattle.area_layout.specs.Layout.{pool_buffers, all_buffers}
use Rattle.board_face.specs.{Lists.{without}, Tokens.{next_place}, NicCalls.{free_words_of}, NicEvents.{cache_room, begun, shut, gave_up, nic_saw}}
use Rattle.board_face.specs.{AppEvents.{released, picked_one, spare_begun}, declared.views.parts.Filling.{Filling}}
use Rattle.board_face.specs.declared.views.nic.Judged.TheVariants.{Stray as judged_stray, Owed as judged_owed, UserLowered, BothLowered}
use Rattle.board_face.specs.declared.views.{nic.{NicLook.TheVariants.{NotOwed, Owed}, NicSide.{NicSide}}, app.AppSide.{AppSide}}

-- ---- the card

-- a piece was begun of which nothing is stored
abbrev pub side_begun : NicSide → Filling → ℕ → NicSide
side_begun nic own n = record {
  view = begun nic.view own n;
  inside = record nic.inside { making = Some (record { place = next_place own n; bytes = [] }) };
}

-- a buffer of the pool came to be free for which the cache has no room
abbrev pub has_no_room : NicSide → ℕ → Bool → Bool
has_no_room nic buffer last = (last && nat_lt buffer (pool_buffers nic.view.setting.layout)) && not (nat_lt (length nic.view.cache) cache_room)

-- the card's hands then
abbrev pub hands_after : NicSide → ℕ → Bool → List ℕ
hands_after nic buffer last = if has_no_room nic buffer last then nic.inside.hands ++ buffer ∷ [] else nic.inside.hands

-- the card gave its own reference up
abbrev pub side_shut : NicSide → Filling → Bool → NicSide
side_shut nic own last = record {
  view = shut nic.view own last;
  inside = record nic.inside { hands = hands_after nic own.buffer last };
}

-- The user count was looked at for the entry in hand: the entry is a return where it was above 0, and a stray else.
abbrev pub side_judged : NicSide → ℕ → Rqe → ℕ → Bool → NicSide
side_judged nic a entry b none = record {
  view = nic_saw nic.view (if none then NotOwed a b else Owed a b);
  inside = record nic.inside { entry = Some (record { app = a; entry = entry; judged = if none then judged_stray else judged_owed b }) };
}

-- The user count was lowered for it,
abbrev pub side_user_lowered : NicSide → ℕ → Rqe → ℕ → NicSide
side_user_lowered nic a entry b = record nic {
  inside = record nic.inside { entry = Some (record { app = a; entry = entry; judged = UserLowered b }) };
}

-- and then the pool count.
abbrev pub side_both_lowered : NicSide → ℕ → Rqe → ℕ → Bool → NicSide
side_both_lowered nic a entry b last = record {
  view = gave_up nic.view b last;
  inside = record nic.inside { hands = hands_after nic b last; entry = Some (record { app = a; entry = entry; judged = BothLowered b }) };
}

-- ---- an application

-- the hands of an application, once a buffer had no holder any more
abbrev pub hands_with : AppSide → ℕ → Bool → List ℕ
hands_with app buffer last = if last && nat_lt buffer (pool_buffers app.view.setting.layout) then app.inside.hands ++ buffer ∷ [] else app.inside.hands

-- it gave a held piece up
abbrev pub side_released : AppSide → Place → Bool → AppSide
side_released app place last = record {
  view = released app.view place;
  inside = record app.inside { hands = hands_with app place.buffer last };
}

-- In this search for a spare each word of the free list was seen 0, or its buffer was lost to another.
pub record HasSearched (app : AppSide) : Type 0 where
  pub words : (j : ℕ) → j < free_words_of app.view.setting → Contains app.inside.words_without j

-- it picked a buffer from the free list
abbrev pub side_picked : AppSide → ℕ → AppSide
side_picked app buffer = record {
  view = picked_one app.view buffer;
  inside = record app.inside { hands = app.inside.hands ++ buffer ∷ [] };
}

-- and holds it as a spare, which ends the search. Its reserve may be that spare, so it isn't known to be free any more.
abbrev pub side_spare_begun : AppSide → ℕ → AppSide
side_spare_begun app buffer = record {
  view = spare_begun app.view buffer;
  inside = record app.inside { hands = without (nat_eq buffer) app.inside.hands; words_without = []; reserve_seen_free = false };
}

-- A scrub, which goes through the buffers in order, took so many user references of this one. The last one ends it.
abbrev pub side_user_taken : AppSide → ℕ → ℕ → AppSide
side_user_taken app b n = record {
  view = record app.view { scrubbed = nat_eq (b + 1) (all_buffers app.view.setting.layout) };
  inside = record app.inside {
    scrub_mark = b + 1;
    scrub_took = slice_set app.inside.scrub_took b (slice_index app.inside.scrub_took b + n);
    scrub_owes = slice_set app.inside.scrub_owes b (slice_index app.inside.scrub_owes b + n);
  };
}

-- As many were taken from the buffer's pool count.
abbrev pub side_owes_lowered : AppSide → ℕ → Bool → AppSide
side_owes_lowered app b last = record app {
  inside = record app.inside { hands = hands_with app b last; scrub_owes = slice_set app.inside.scrub_owes b 0 };
}
