-- What becomes of a frame that is offered.
use Rattle.std.specs.Prelude.{◌≡◌, ◌≢◌, ℕ, ◌+◌, ◌-◌, ◌<◌, ◌≤◌, nat_le, true, false, if◌then◌else◌, List, [], ◌∷◌, ◌++◌}
use Rattle.std.specs.Prelude.{length, map, take, drop, reverse, slice_index, Option, Some, None}
use Rattle.zr_kinds.specs.{Limits.{longest_payload}, declared.{place.{Note.{Note}, Place.{Place}}, outcome.PoolStats.{PoolStats}}}
use Rattle.area_layout.specs.Layout.{pool_buffers, least_size, size_of}
use Rattle.board_face.specs.{Looks.{NicRose, NicLooksStay}, NicEvents.{fresh}, NicCalls.{apps_of, IsOpen, Closed, HasSweptAll, sent_unsplit_bytes}, Tokens.{filled_by}}
use Rattle.board_face.specs.declared.views.{parts.{Setting.{Setting}, Filling.{Filling}}, nic.{NicLook.TheVariants.{NoteInUse}, SentNote.{SentNote}, NicView.{NicView}}}
use Rattle.page_pool.specs.{declared.offer.{Offer.{Offer}, Verdict.{Verdict, TheVariants.{Accepted, NoRoom, Busy}}}, Frames.{offered, ShowsFrame}}
use Rattle.page_pool.specs.Packing.{Current, Target, PayloadPart, fits, needed, packing, taken, current as in_current, fresh as in_fresh}
use Rattle.page_pool.specs.{Pool.{PoolState, OnlySends, IsNextApp, all_notes}, Searching.{CountsEnd, Searches, joint_end}}
use Rattle.page_pool.specs.declared.search_end.SearchEnd.{SearchEnd, TheVariants.{Fast, Empty}}

-- ---- the notes of a frame

abbrev pub payload_of : Offer → List ℕ
payload_of o = o.payload.now

abbrev pub len_of : Offer → ℕ
len_of o = length (payload_of o)

-- the note of the part of a payload that begins at this byte and lies at this place
abbrev pub split_note : Offer → ℕ → Place → Note
split_note o at place = record {
  frame = o.frame;
  flow = o.flow;
  base = o.base;
  seq = o.seq;
  at = at;
  total = len_of o;
  place = place;
  split = true;
  fin = o.fin;
}

-- the note in which the whole payload travels
abbrev pub short_note : Offer → Note
short_note o = record {
  frame = o.frame;
  flow = o.flow;
  base = o.base;
  seq = o.seq;
  at = 0;
  total = len_of o;
  place = record { buffer = 0; offset = 0; len = len_of o };
  split = false;
  fin = o.fin;
}

-- the notes of a payload from a byte on, whose parts lie at these places, in order
abbrev pub split_notes : Offer → ℕ → List Place → List SentNote
split_notes o at [] = []
split_notes o at (p ∷ ps) =
    record { app = o.app; note = split_note o at p; bytes = take p.len (drop at (payload_of o)) } ∷ split_notes o (at + p.len) ps

-- The notes of a frame: one with its bytes in it, where it has `split` bytes or fewer, or else one for each place.
abbrev pub frame_notes : ℕ → Offer → List Place → List SentNote
frame_notes split o places =
    if nat_le (len_of o) split then record { app = o.app; note = short_note o; bytes = payload_of o } ∷ [] else split_notes o 0 places

-- The card may offer this: it has not ended, the application is one of the board's, and the payload has bytes, no more than one
-- may have.
pub record MayOffer (v : NicView) (o : Offer) : Type 0 where
  pub open_is : IsOpen v
  pub app : o.app < apps_of v.setting
  pub some : 0 < len_of o
  pub most : len_of o ≤ longest_payload

-- ---- the buffers of a frame

-- the current buffer as packing sees it
abbrev pub packed : Option Filling → Option Current
packed None = None
packed (Some own) = Some (record { used = own.start; size = own.size })

-- how many fresh buffers a payload of `len` bytes needs, where none has fewer than `size` bytes
abbrev pub fresh_for : PoolState → ℕ → ℕ → ℕ
fresh_for pool size len = if nat_le len pool.split then 0 else needed size (packed pool.current) len

-- how many fresh buffers an offer needs
abbrev pub needed_for : PoolState → NicView → Offer → ℕ
needed_for pool v o = fresh_for pool (least_size v.setting.layout) (len_of o)

abbrev pub number_in : Option Filling → ℕ
number_in None = 0
number_in (Some own) = own.buffer

-- the number of a part's buffer, where the fresh buffers have these numbers
abbrev pub buffer_number_of : Option Filling → List ℕ → Target → ℕ
buffer_number_of own buffers in_current = number_in own
buffer_number_of own buffers (in_fresh i) = slice_index buffers i

abbrev pub place_of : Option Filling → List ℕ → PayloadPart → Place
place_of own buffers part = record { buffer = buffer_number_of own buffers part.target; offset = part.offset; len = part.len }

-- where the parts of a payload lie, where the fresh buffers have these numbers
abbrev pub places_for : PoolState → NicView → List ℕ → Offer → List Place
places_for pool v buffers o =
    map (place_of pool.current buffers) (packing (packed pool.current) (map (size_of v.setting.layout) buffers) (len_of o))

-- how many of the fresh buffers of these numbers an offer takes, in this order
abbrev pub taken_for : PoolState → NicView → List ℕ → Offer → ℕ
taken_for pool v buffers o =
    if nat_le (len_of o) pool.split then 0 else taken (packed pool.current) (map (size_of v.setting.layout) buffers) (len_of o)

-- the last of the fresh buffers, filled with what the others leave of `len` bytes
abbrev pub last_of : Setting → List ℕ → ℕ → Option Filling
last_of setting [] len = None
last_of setting (b ∷ []) len = Some (filled_by (fresh setting b) len)
last_of setting (b ∷ c ∷ more) len = last_of setting (c ∷ more) (len - size_of setting.layout b)

-- the current buffer once so many bytes were packed: as before, or the last of the fresh ones
abbrev pub packed_into : Setting → Option Filling → List ℕ → ℕ → Option Filling
packed_into setting None buffers len = last_of setting buffers len
packed_into setting (Some own) buffers len = if fits (packed (Some own)) len then Some (filled_by own len) else last_of setting buffers len

-- the current buffer afterwards
abbrev pub current_after : PoolState → NicView → List ℕ → Offer → Option Filling
current_after pool v buffers o =
    if nat_le (len_of o) pool.split then pool.current else packed_into v.setting pool.current buffers (len_of o)

-- ---- before a byte is placed

-- The pending notes were sent, all of them.
pub record FlushesNotes (was : PoolState) (old new : NicView) : Type 0 where
  pub view : new ≡ record old { pieces = []; sent = all_notes was old; looks = new.looks }
  pub looks : NicLooksStay old new

-- The current buffer, if there is one, was closed.
abbrev pub ClosesCurrent : Option Filling → NicView → NicView → Type 0
ClosesCurrent None old new = new ≡ old
ClosesCurrent (Some own) old new = Closed old new own

-- Where fresh buffers are needed, the current buffer was closed and then a search was made, which ended so. It was counted once,
-- where it ended as one with what was searched ahead. Where none are needed, nothing was done.
pub data LooksFor (need : ℕ) (current : Option Filling) (ahead : SearchEnd) (was now : PoolStats) (old new : NicView) : Option SearchEnd → Type 0 where
  not_needed : need ≡ 0 → now ≡ was → new ≡ old → LooksFor need current ahead was now old new None
  searched : (begin : NicView) (met : PoolStats) (how : SearchEnd) → 0 < need → ClosesCurrent current old begin
      → Searches need was met begin new how → CountsEnd (joint_end ahead how) met now → LooksFor need current ahead was now old new (Some how)

-- ---- the verdict

-- The pending notes were sent and the buffers that the frame needs were found, and then its payload was placed where packing
-- says. Its notes, which show it, were sent or are pending behind the earlier ones, and no other.
pub record Accepts (was now : PoolState) (old new : NicView) (o : Offer) : Type 0 where
  pub flushed : NicView
  pub flush : FlushesNotes was old flushed
  -- the view as the first byte was placed
  pub found : NicView
  pub how : Option SearchEnd
  pub search : LooksFor (needed_for was old o) was.current was.ahead was.stats now.stats flushed found how
  pub enough : how ≢ Some Empty
  -- The fresh buffers in the order of taking. Each of them is used, so they may be fewer than were found.
  pub buffers : List ℕ
  pub many : taken_for was old buffers o ≡ length buffers
  pub few : length buffers ≤ needed_for was old o
  pub used : new.used ≡ old.used ++ buffers
  -- Each was the last in the cache as it was taken. Those that were found and not taken stay there.
  pub cached : found.cache ≡ new.cache ++ reverse buffers
  pub notes : all_notes now new ≡ all_notes was old ++ frame_notes was.split o (places_for was old buffers o)
  pub shows : ShowsFrame was.split (offered o) (frame_notes was.split o (places_for was old buffers o))
  pub current : now.current ≡ current_after was old buffers o
  pub split : now.split ≡ was.split
  -- Nothing was searched ahead for the next frame.
  pub ahead : now.ahead ≡ Fast
  -- what was sent since the flush
  pub more : List SentNote
  pub sent : new.sent ≡ flushed.sent ++ more
  pub placing : new ≡ record found { cache = new.cache; used = new.used; owns = new.owns; pieces = new.pieces; sent = new.sent; looks = new.looks }
  pub looks : NicLooksStay found new

-- The pending notes were sent, and the buffers that the frame needs were looked for and not found. Nothing of it was placed,
-- and the current buffer stays closed.
pub record Refuses (was now : PoolState) (old new : NicView) (o : Offer) (cached need : ℕ) : Type 0 where
  pub cached_is : length new.cache ≡ cached
  pub need_is : needed_for was old o ≡ need
  pub too_few : cached < need
  -- Each word of the free list was swept, so the pool buffers that nobody ever used are among the cached ones
  -- (`unused_are_cached`).
  pub swept : HasSweptAll new
  -- All other buffers the card has taken, or they may be spares, one for each byte of an unsplit note.
  pub within : pool_buffers new.setting.layout ≤ cached + length new.used + sent_unsplit_bytes new
  pub flushed : NicView
  pub flush : FlushesNotes was old flushed
  pub search : LooksFor need was.current was.ahead was.stats now.stats flushed new (Some Empty)
  pub pool : now ≡ record was { current = None; short = None; pieces = []; stats = now.stats; ahead = Fast }
  pub notes : all_notes now new ≡ all_notes was old
  pub used : new.used ≡ old.used

-- Notes of an earlier frame are pending, and the slot for the next of them was seen in use. Nothing else changed.
pub record PutsOff (was now : PoolState) (old new : NicView) : Type 0 where
  pub sends : OnlySends was now old new
  pub app : ℕ
  pub next : IsNextApp now app
  pub in_use : NicRose (NoteInUse app) old new

abbrev pub Offers : PoolState → PoolState → NicView → NicView → Offer → Verdict → Type 0
Offers was now old new o Accepted = Accepts was now old new o
Offers was now old new o (NoRoom cached need) = Refuses was now old new o cached need
Offers was now old new o Busy = PutsOff was now old new

-- No offer does more than a flush, a search and placing do.
pub record KeepsRest (old new : NicView) : Type 0 where
  pub view : new ≡ record old {
    cache = new.cache;
    swept = new.swept;
    used = new.used;
    owns = new.owns;
    pieces = new.pieces;
    sent = new.sent;
    dealt = new.dealt;
    looks = new.looks;
  }
  pub looks : NicLooksStay old new
