-- The places of a buffer: where its holders lie, but for the buffer that is being filled itself and an unfilled spare. None
-- is empty, none ends behind the buffer, and each byte lies in one of them at most. They end where the bytes begin that
-- the card fills next.
use Rattle.std.specs.{Prelude.{◌≡◌, ℕ, ◌+◌, ◌≤◌, ◌==◌, Bool, ◌&&◌, List, [], ◌∷◌, ◌++◌, length, map, filter, nat_lt, nat_le, count_by, All, Some}, List.{flat_map}}
use Rattle.zr_kinds.specs.declared.place.Place.{Place}
use Rattle.area_layout.specs.Layout.{size_of}
use Rattle.board_face.specs.{AppEvents.{begin_place}, Holders.{Kind, own, piece, sent, held, spare, loan, owed, returning, holders_of}}
use Rattle.board_face.specs.declared.views.{parts.Making.{Making}, nic.NicSide.{NicSide}, app.AppSide.{AppSide}}

-- where a holding lies
abbrev pub kind_place : Kind → List Place
kind_place own = []
kind_place (piece p) = p ∷ []
kind_place (sent a p) = p ∷ []
kind_place (held a p) = p ∷ []
kind_place (spare a) = []
kind_place (loan a p) = p ∷ []
kind_place (owed a p) = p ∷ []
kind_place (returning a p) = p ∷ []

-- where the filled spares of a buffer lie
abbrev pub filled_places : ℕ → AppSide → List Place
filled_places b app = map (λ s. begin_place s.own.buffer (length s.bytes))
    (filter (λ s. s.own.buffer == b) (filter (λ s. nat_lt 0 (length s.bytes)) app.view.owns))

abbrev pub places_of : ℕ → NicSide → List AppSide → List Place
places_of b nic apps = flat_map kind_place (holders_of b nic apps) ++ flat_map (filled_places b) apps

-- the place has this byte of its buffer
abbrev pub has_byte : ℕ → Place → Bool
has_byte x p = nat_le p.offset x && nat_lt x (p.offset + p.len)

abbrev pub is_empty : Place → Bool
is_empty p = p.len == 0

-- it ends behind this byte
abbrev pub ends_behind : ℕ → Place → Bool
ends_behind x p = nat_lt x (p.offset + p.len)

pub record ArePlaced (b : ℕ) (nic : NicSide) (apps : List AppSide) : Type 0 where
  pub some_bytes : count_by is_empty (places_of b nic apps) ≡ 0
  pub within : count_by (ends_behind (size_of nic.view.setting.layout b)) (places_of b nic apps) ≡ 0
  pub apart : (x : ℕ) → count_by (has_byte x) (places_of b nic apps) ≤ 1
  pub behind : All (λ o. o.buffer ≡ b → count_by (ends_behind o.start) (places_of b nic apps) ≡ 0) nic.view.owns

-- The piece in the making is the last of its buffer: no place there ends behind it. So the rest of its last line is nobody's.
pub record IsMadeLast (nic : NicSide) (apps : List AppSide) : Type 0 where
  pub last : (making : Making) → nic.inside.making ≡ Some making
      → count_by (ends_behind (making.place.offset + making.place.len)) (places_of making.place.buffer nic apps) ≡ 0
