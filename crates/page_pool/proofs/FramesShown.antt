-- The notes of a frame show its payload.
use Rattle.std.proofs.Common.{◌≡◌, ℕ, zero, suc, ◌+◌, ◌-◌, ◌<◌, ◌≤◌, min, List, [], ◌∷◌, ◌++◌, length, take, drop, append_assoc, refl, arith}
use Rattle.std.proofs.lemmas.List.{append-nil, Sums.{sum_by-cons}}
use Rattle.area_layout.{specs.Layout.{Shape, IsLayout, size_of}, proofs.Words.{words_apart}}
use Rattle.zr_kinds.specs.declared.place.Place.{Place}
use Rattle.board_face.specs.declared.views.nic.SentNote.{SentNote}
use Rattle.page_pool.specs.{declared.offer.Offer.{Offer}, Frames.{Offered, offered, ShowsPart, ShowRest, ShowsWhole, ShowsFrame, ShowFrames}}
use Rattle.page_pool.specs.{Offer.{payload_of, split_note, split_notes, short_note}, Placing.{fresh_places, room_in}}

-- the note of a part
shows_part : (o : Offer) (at : ℕ) (place : Place) → 0 < place.len → at + place.len ≤ length (payload_of o)
    → ShowsPart (offered o) at (record { app = o.app; note = split_note o at place; bytes = take place.len (drop at (payload_of o)) })
shows_part o at place some within = record {
  of_frame = record { app = refl; frame = refl; flow = refl; base = refl; seq = refl; total = refl; fin = refl };
  split = refl;
  begin = refl;
  some = some;
  within = within;
  bytes = refl;
}

-- the whole payload in one part
pub one_shows : (o : Offer) (place : Place) → 0 < length (payload_of o) → place.len ≡ length (payload_of o)
    → ShowRest (offered o) 0 (split_notes o 0 (place ∷ []))
one_shows o place some whole = (shows_part o 0 place (omega (arith, some, whole)) (omega (arith, whole)), omega (arith, whole))

-- parts in fresh buffers, which have room for the rest of the payload
rest_shows : (o : Offer) (layout : Shape) (at rest : ℕ) (buffers : List ℕ) → IsLayout layout → at + rest ≡ length (payload_of o)
    → rest ≤ room_in layout buffers
    → ShowRest (offered o) at (split_notes o at (fresh_places layout buffers rest))
rest_shows o layout at rest [] l all enough = omega (arith, all, enough)
rest_shows o layout at zero (b ∷ bs) l all enough = omega (arith, all)
rest_shows o layout at (suc rest) (b ∷ bs) l all enough =
    let size : ℕ = size_of layout b in
    let some = ((words_apart layout l).size b).least in
    let here : 0 < min size (suc rest) = grind (arith, some) in
    let within : at + min size (suc rest) ≤ length (payload_of o) = grind (arith, all) in
    let left : suc rest - size ≤ room_in layout bs = omega (arith, enough, sum_by-cons (size_of layout) b bs) in (
      shows_part o at (record { buffer = b; offset = 0; len = min size (suc rest) }) here within,
      rest_shows o layout (at + min size (suc rest)) (suc rest - size) bs l (grind (arith, all)) left,
    )

pub fresh_shows : (o : Offer) (layout : Shape) (buffers : List ℕ) → IsLayout layout → length (payload_of o) ≤ room_in layout buffers
    → ShowRest (offered o) 0 (split_notes o 0 (fresh_places layout buffers (length (payload_of o))))
fresh_shows o layout buffers l room = rest_shows o layout 0 (length (payload_of o)) buffers l (omega arith) room

-- the note in which the whole payload travels
pub whole_shows : (o : Offer) → ShowsWhole (offered o) (record { app = o.app; note = short_note o; bytes = payload_of o })
whole_shows o = record {
  of_frame = record { app = refl; frame = refl; flow = refl; base = refl; seq = refl; total = refl; fin = refl };
  split = refl;
  begin = refl;
  len = refl;
  bytes = refl;
}

-- ---- frame by frame

-- one frame more
pub ShowFrames-push : (split : ℕ) (os : List Offered) (o : Offered) (notes mine : List SentNote) → ShowFrames split os notes → ShowsFrame split o mine
    → ShowFrames split (os ++ o ∷ []) (notes ++ mine)
ShowFrames-push split [] o notes mine none shows = (mine, [], rw (none, append-nil) refl, shows, refl)
ShowFrames-push split (p ∷ os) o notes mine before shows =
    (before.0, before.1 ++ mine, rw (before.2, append_assoc) refl, before.3, ShowFrames-push split os o before.1 mine before.4 shows)
