-- Parts of a payload that were placed.
use Rattle.std.specs.Prelude.{◌≡◌, ◌≢◌, ℕ, zero, suc, ◌+◌, ◌-◌, ◌%◌, ◌<◌, ◌≤◌, min, true, false, List, [], ◌∷◌}
use Rattle.std.specs.Prelude.{◌++◌, length, map, reverse, sum_by, take, All, ◌⊎◌, Option, Some, None}
use Rattle.zr_kinds.specs.{Limits.{longest_payload}, declared.place.Place.{Place}}
use Rattle.board_face.specs.{Looks.{NicLooksStay}, Texts.{IsSplitNote}, Tokens.{next_place, filled_by}, NicCalls.{apps_of, HasNothingIn}}
use Rattle.board_face.specs.{declared.views.{parts.Filling.{Filling}, nic.NicView.{NicView}}, NicEvents.{placed}}
use Rattle.page_pool.specs.{declared.{pool.{Pending.{Pending}, Short.{Short}}, offer.Offer.{Offer}}, Pool.{PoolState, PoolStands, piece_notes}}
use Rattle.page_pool.specs.{declared.search_end.SearchEnd.{SearchEnd, TheVariants.{Fast, Empty}}, Frames.{offered, ShowRest}}
use Rattle.page_pool.specs.Offer.{payload_of, len_of, short_note, split_note, split_notes, packed, place_of, last_of, packed_into, LooksFor}
use Rattle.page_pool.specs.Packing.{buffers_for, fits, needed, fresh_parts, packing, taken}
use Rattle.area_layout.specs.Layout.{Shape, least_size, size_of}

-- the pieces that are out are those of the pending notes, in order, and each note may be sent
pub record PiecesStand (pieces : List Pending) (v : NicView) : Type 0 where
  pub places_are : map (λ p. p.place) v.pieces ≡ map (λ p. p.piece) pieces
  pub apps : All (λ p. p.app < apps_of v.setting) pieces
  pub fields : All (λ p. IsSplitNote p.note) pieces
  pub places : All (λ p. p.note.place ≡ p.piece) pieces

-- the note of a part, with its piece
abbrev pub pending_of_part : Offer → ℕ → Place → Pending
pending_of_part o at place = record { app = o.app; note = split_note o at place; piece = place }

-- So many bytes from `at` on are a part of the payload, which is no longer than one may be.
pub record IsPart (o : Offer) (at len : ℕ) : Type 0 where
  pub some : 0 < len
  pub within : at + len ≤ len_of o
  pub most : len_of o ≤ longest_payload

-- where the parts of so many bytes lie in these fresh buffers
abbrev pub fresh_places : Shape → List ℕ → ℕ → List Place
fresh_places layout [] len = []
fresh_places layout (b ∷ bs) zero = []
fresh_places layout (b ∷ bs) (suc rest) =
    record { buffer = b; offset = 0; len = min (size_of layout b) (suc rest) } ∷ fresh_places layout bs (suc rest - size_of layout b)

-- how many bytes these buffers have
abbrev pub room_in : Shape → List ℕ → ℕ
room_in layout buffers = sum_by (size_of layout) buffers

-- The first parts lie in fresh buffers, each of which but the last is closed.
pub record FreshParts (o : Offer) (buffers : List ℕ) (old v : NicView) (pieces : List Pending) : Type 0 where
  pub used : v.used ≡ old.used ++ buffers
  pub many : length pieces ≡ length buffers
  pub notes : piece_notes pieces v.pieces ≡ split_notes o 0 (fresh_places old.setting.layout buffers (length (payload_of o)))
  pub stand : PiecesStand pieces v
  pub view : v ≡ record old { cache = v.cache; used = v.used; owns = v.owns; pieces = v.pieces; looks = v.looks }
  pub looks : NicLooksStay old v
  pub enough : buffers_for (least_size old.setting.layout) (length (payload_of o)) ≤ length buffers + length v.cache

-- The buffer that entered the cache last isn't to be taken, as a text lies in it.
pub record IsLastHeld (v : NicView) : Type 0 where
  pub others : List ℕ
  pub buffer : ℕ
  pub last : v.cache ≡ others ++ buffer ∷ []
  pub held : HasNothingIn v buffer → ⊥

-- So far: each fresh buffer that was taken is full and closed. The others are cached still, unless one came back as it was closed.
pub record FreshSoFar (o : Offer) (old v : NicView) (pieces : List Pending) (at : ℕ) : Type 0 where
  pub buffers : List ℕ
  pub parts : FreshParts o buffers old v pieces
  pub reached : at ≡ room_in old.setting.layout buffers
  pub owns : v.owns ≡ []
  pub cached : (old.cache ≡ v.cache ++ reverse buffers) ⊎ IsLastHeld v

-- The payload lies in fresh buffers: each that was taken is used, all but the last to its end.
pub record FillsFresh (o : Offer) (old v : NicView) (pieces : List Pending) (last : Option Filling) : Type 0 where
  pub buffers : List ℕ
  pub parts : FreshParts o buffers old v pieces
  pub many : length (fresh_parts 0 (map (size_of old.setting.layout) buffers) (length (payload_of o))) ≡ length buffers
  pub few : length buffers ≤ buffers_for (least_size old.setting.layout) (length (payload_of o))
  pub room : length (payload_of o) ≤ room_in old.setting.layout buffers
  pub last_is : last ≡ last_of old.setting buffers (length (payload_of o))
  pub cached : old.cache ≡ v.cache ++ reverse buffers

-- ---- an offer's steps

-- The payload was placed whole in the current buffer, behind what is used there.
pub record FillsCurrent (o : Offer) (was now : Option Filling) (old new : NicView) (pieces : List Pending) : Type 0 where
  pub own : Filling
  pub was_is : was ≡ Some own
  pub now_is : now ≡ Some (filled_by own (len_of o))
  pub fits_there : fits (packed was) (len_of o) ≡ true
  pub aligned : own.start % 64 ≡ 0
  pub pieces_are : pieces ≡ pending_of_part o 0 (next_place own (len_of o)) ∷ []
  pub event : new ≡ placed old own (payload_of o)

-- It doesn't fit there, and nothing was done.
pub record LeavesCurrent (o : Offer) (was now : Option Filling) (old new : NicView) (pieces : List Pending) : Type 0 where
  pub too_long : fits (packed was) (len_of o) ≡ false
  pub current : now ≡ was
  pub pieces_are : pieces ≡ []
  pub view : new ≡ old

-- A payload that is split was placed where packing says, and its notes are pending.
pub record PlacesSplit (was now : PoolState) (old new : NicView) (o : Offer) : Type 0 where
  pub found : NicView
  pub how : Option SearchEnd
  pub search : LooksFor (needed (least_size old.setting.layout) (packed was.current) (len_of o)) was.current was.ahead was.stats now.stats old found how
  pub enough : how ≢ Some Empty
  pub buffers : List ℕ
  pub many : taken (packed was.current) (map (size_of old.setting.layout) buffers) (len_of o) ≡ length buffers
  pub few : length buffers ≤ needed (least_size old.setting.layout) (packed was.current) (len_of o)
  pub used : new.used ≡ old.used ++ buffers
  pub cached : found.cache ≡ new.cache ++ reverse buffers
  pub notes : piece_notes now.pieces new.pieces
      ≡ split_notes o 0 (map (place_of was.current buffers) (packing (packed was.current) (map (size_of old.setting.layout) buffers) (len_of o)))
  pub shows : ShowRest (offered o) 0 (split_notes o 0 (map (place_of was.current buffers)
      (packing (packed was.current) (map (size_of old.setting.layout) buffers) (len_of o))))
  pub current : now.current ≡ packed_into old.setting was.current buffers (len_of o)
  pub pool : now ≡ record was { current = now.current; pieces = now.pieces; stats = now.stats; ahead = Fast }
  pub view : new ≡ record found { cache = new.cache; used = new.used; owns = new.owns; pieces = new.pieces; looks = new.looks }
  pub looks : NicLooksStay found new
  pub stands : PoolStands now new

-- There weren't enough fresh buffers, and nothing was placed.
pub record LacksRoom (was now : PoolState) (old new : NicView) (o : Offer) (cached need : ℕ) : Type 0 where
  pub cached_is : length new.cache ≡ cached
  pub need_is : needed (least_size old.setting.layout) (packed was.current) (len_of o) ≡ need
  pub too_few : cached < need
  pub search : LooksFor need was.current was.ahead was.stats now.stats old new (Some Empty)
  pub pool : now ≡ record was { current = None; stats = now.stats; ahead = Fast }
  pub stands : PoolStands now new

-- A short payload is to travel in its note.
pub record KeepsShort (o : Offer) (short : Short) : Type 0 where
  pub app : short.app ≡ o.app
  pub note : short.note ≡ short_note o
  pub bytes : take (len_of o) short.bytes ≡ payload_of o
  pub room : length short.bytes ≡ 256
