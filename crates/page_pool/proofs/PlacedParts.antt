-- One more part was placed.
use Rattle.std.proofs.Common.{◌≡◌, ℕ, zero, suc, ◌+◌, ◌-◌, ◌*◌, ◌<◌, ◌≤◌, min, List, [], ◌∷◌, ◌++◌, length, map, take, drop}
use Rattle.std.proofs.Common.{append_assoc, length-append, inl, inr, refl, sym, ap, ◌∙◌, arith, true, ◌&&◌, nat_lt, Some}
use Rattle.std.{specs.Prelude.{◌≢◌, ◌⊎◌, Bool, false, if◌then◌else◌, reverse}, proofs.lemmas.List.{append-nil, map-append, length-map, reverse-append, same_from_push}}
use Rattle.std.proofs.{lemmas.{Grind.{div_ceil_times}, List.Sums.{sum_by-cons, sum_by_push}}, Math.Nat.{lt_of_mul-lt-mul_right}}
use Rattle.std.proofs.lemmas.List.Elements.{All-push, All-nil, All-contains, Contains-push}
use Rattle.zr_kinds.specs.{Limits.{longest_payload}, declared.place.Place.{Place}}
use Rattle.board_face.specs.{Looks.{same_nic_look}, Texts.{IsSplitNote}, Tokens.{next_place, filled_by, same_filling}, NicCalls.{TookBuffer, Closed, apps_of}}
use Rattle.board_face.specs.{NicEvents.{placed, took, fresh, shut, cache_room, holder_look}, declared.views.parts.{Setting.{Setting}, Filling.{Filling}}}
use Rattle.board_face.{specs.declared.views.nic.{SentNote.{SentNote}, PlacedText.{PlacedText}, NicView.{NicView}}, proofs.ListLemmas.{same_filling-refl}}
use Rattle.board_face.proofs.LookLemmas.{NicLooksStay-same, NicLooksStay-trans, times-more}
use Rattle.area_layout.{specs.Layout.{Shape, IsLayout, pool_buffers, least_size, size_of}, proofs.Words.{in_order, words_apart}}
use Rattle.page_pool.specs.{declared.{pool.Pending.{Pending}, offer.Offer.{Offer}}, Pool.{piece_notes}, Packing.{buffers_for, fresh_parts}}
use Rattle.page_pool.{specs.Offer.{payload_of, split_note, split_notes, last_of}, proofs.Entries.{grown, freed_by}}
use Rattle.page_pool.specs.Placing.{PiecesStand, pending_of_part, fresh_places, room_in, FreshParts, IsLastHeld, FreshSoFar, FillsFresh}

-- ---- numbers

-- a buffer is still needed
pub still_needed : (size k len : ℕ) → 0 < size → k * size < len → k < buffers_for size len
still_needed size k len some before =
    let enough : len ≤ buffers_for size len * size = (div_ceil_times len size some).0 in
    lt_of_mul-lt-mul_right size (omega (arith, before, enough))

-- ---- lists

-- the note of the part at a place
abbrev pub next_note : Offer → ℕ → Place → SentNote
next_note o at place = record { app = o.app; note = split_note o at place; bytes = take place.len (drop at (payload_of o)) }

pub split_notes-push : (o : Offer) (layout : Shape) (b : ℕ) (bs : List ℕ) (at len : ℕ) → room_in layout bs < len
    → split_notes o at (fresh_places layout (bs ++ b ∷ []) len)
    ≡ split_notes o at (fresh_places layout bs len) ++ next_note o (at + room_in layout bs) (record {
      buffer = b;
      offset = 0;
      len = min (size_of layout b)
          (len - room_in layout bs);
    }) ∷ []
split_notes-push o layout b [] at zero before = absurd (omega (arith, before))
split_notes-push o layout b [] at (suc rest) before =
    let e1 : at + room_in layout [] ≡ at = omega arith in
    let e2 : suc rest - room_in layout [] ≡ suc rest = omega arith in
    rw (e1, e2) refl
split_notes-push o layout b (c ∷ cs) at zero before = absurd (omega (arith, before))
split_notes-push o layout b (c ∷ cs) at (suc rest) before =
    let size : ℕ = size_of layout c in
    let sum = sum_by-cons (size_of layout) c cs in
    let full : min size (suc rest) ≡ size = grind (arith, before, sum) in
    let e1 : at + room_in layout (c ∷ cs) ≡ at + min size (suc rest) + room_in layout cs = omega (arith, full, sum) in
    let e2 : suc rest - room_in layout (c ∷ cs) ≡ suc rest - size - room_in layout cs = omega (arith, sum) in
    rw (e1, e2)
    (ap (λ ns. record {
      app = o.app;
      note = split_note o at (record { buffer = c; offset = 0; len = min size (suc rest) });
      bytes = take (min size (suc rest)) (drop at
          (payload_of o));
    } ∷ ns)
    (split_notes-push o layout b cs (at + min size (suc rest)) (suc rest - size) (omega (arith, before, sum))))

pub last_of-push : (setting : Setting) (b : ℕ) (bs : List ℕ) (len : ℕ)
    → last_of setting (bs ++ b ∷ []) len ≡ Some (filled_by (fresh setting b) (len - room_in setting.layout bs))
last_of-push setting b [] len = let e : len - room_in setting.layout [] ≡ len = omega arith in rw e refl
last_of-push setting b (c ∷ []) len =
    let e : len - room_in setting.layout (c ∷ []) ≡ len - size_of setting.layout c = omega (arith, sum_by-cons (size_of setting.layout) c []) in
    rw e refl
last_of-push setting b (c ∷ d ∷ ds) len =
    let e : len - room_in setting.layout (c ∷ d ∷ ds) ≡ len - size_of setting.layout c - room_in setting.layout (d ∷ ds) =
    omega (arith, sum_by-cons (size_of setting.layout) c (d ∷ ds)) in
    rw e (last_of-push setting b (d ∷ ds) (len - size_of setting.layout c))

-- each buffer is used
fresh-many : (layout : Shape) (b : ℕ) (bs : List ℕ) (number len : ℕ) → room_in layout bs < len
    → length (fresh_parts number (map (size_of layout) (bs ++ b ∷ [])) len) ≡ length (bs ++ b ∷ [])
fresh-many layout b [] number zero before = absurd (omega (arith, before))
fresh-many layout b [] number (suc rest) before = refl
fresh-many layout b (c ∷ cs) number zero before = absurd (omega (arith, before))
fresh-many layout b (c ∷ cs) number (suc rest) before =
    ap suc (fresh-many layout b cs (suc number) (suc rest - size_of layout c) (omega (arith, before, sum_by-cons (size_of layout) c cs)))

-- and has as many bytes as the least, or more
room-least : (layout : Shape) (bs : List ℕ) → IsLayout layout → length bs * least_size layout ≤ room_in layout bs
room-least layout [] l = omega arith
room-least layout (b ∷ bs) l =
    omega (arith, room-least layout bs l, (in_order layout l).least b, sum_by-cons (size_of layout) b bs)

pub piece_notes-push : (ps : List Pending) (texts : List PlacedText) (p : Pending) (t : PlacedText) → length ps ≡ length texts
    → piece_notes (ps ++ p ∷ []) (texts ++ t ∷ []) ≡ piece_notes ps texts ++ record { app = p.app; note = p.note; bytes = t.bytes } ∷ []
piece_notes-push [] [] p t same = refl
piece_notes-push [] (u ∷ us) p t same = absurd (grind arith)
piece_notes-push (q ∷ qs) [] p t same = absurd (grind arith)
piece_notes-push (q ∷ qs) (u ∷ us) p t same = ap (λ ns. record { app = q.app; note = q.note; bytes = u.bytes } ∷ ns) (piece_notes-push qs us p t
    (grind (arith, same)))

-- ---- one part more

pub PiecesStand-part : (o : Offer) (at : ℕ) (pieces : List Pending) (v : NicView) (own : Filling) (bytes : List ℕ) → PiecesStand pieces v
    → o.app < apps_of v.setting → length (payload_of o) ≤ longest_payload
    → at + length bytes ≤ length (payload_of o) → PiecesStand (pieces ++ pending_of_part o at (next_place own (length bytes)) ∷ []) (placed v own bytes)
PiecesStand-part o at pieces v own bytes stand app most within = record {
  places_are = simp map-append (rw stand.places_are refl);
  apps = All-push (λ (p : Pending). p.app < apps_of v.setting) pieces (pending_of_part o at (next_place own (length bytes))) stand.apps app;
  fields = All-push (λ (p : Pending). IsSplitNote p.note) pieces (pending_of_part o at (next_place own (length bytes))) stand.fields
      (record { split = refl; within = within; bounded = most });
  places = All-push (λ (p : Pending). p.note.place ≡ p.piece) pieces (pending_of_part o at (next_place own (length bytes))) stand.places refl;
}

-- a buffer was taken
PiecesStand-took : (pieces : List Pending) (v : NicView) (buffer : ℕ) → PiecesStand pieces v → PiecesStand pieces (took v buffer)
PiecesStand-took pieces v buffer stand = record { places_are = stand.places_are; apps = stand.apps; fields = stand.fields; places = stand.places }

pub FreshParts-part : (o : Offer) (buffers : List ℕ) (old v t : NicView) (own : Filling) (pieces : List Pending) (bytes : List ℕ)
    → FreshParts o buffers old v pieces → TookBuffer v t own
    → bytes ≡ take (min (size_of old.setting.layout own.buffer) (length (payload_of o) - room_in old.setting.layout buffers))
    (drop (room_in old.setting.layout buffers) (payload_of o))
    → length bytes ≡ min (size_of old.setting.layout own.buffer) (length (payload_of o) - room_in old.setting.layout buffers)
    → room_in old.setting.layout buffers < length (payload_of o) → o.app < apps_of old.setting → length (payload_of o) ≤ longest_payload
    → FreshParts o (buffers ++ own.buffer ∷ []) old (placed t own bytes) (pieces ++ pending_of_part o (room_in old.setting.layout buffers) (next_place own
    (length bytes)) ∷ [])
FreshParts-part o buffers old v t own pieces bytes parts took_one bytes_are len_is before app most =
    let L : ℕ = length (payload_of o) in
    let layout : Shape = old.setting.layout in
    let at : ℕ = room_in layout buffers in
    let size : ℕ = size_of layout own.buffer in
    let e : t ≡ took v own.buffer = took_one.event in
    let setting : v.setting ≡ old.setting = ap (λ (w : NicView). w.setting) parts.view in
    let own_is : own ≡ fresh v.setting own.buffer = took_one.fresh in
    let start : own.start ≡ 0 = ap (λ (f : Filling). f.start) own_is in
    let app_there : o.app < apps_of v.setting = rw setting app in
    let in_payload : at + length bytes ≤ L = grind (arith, len_is, before) in
    record {
      used = rw e (rw parts.used (simp append_assoc refl));
      many = simp length-append (omega (arith, parts.many));
      notes =
          let lp : length (map (λ (p : Pending). p.piece) pieces) ≡ length pieces = simp length-map refl in
          let lt : length (map (λ (p : PlacedText). p.place) v.pieces) ≡ length v.pieces = simp length-map refl in
          let long : length pieces ≡ length v.pieces = sym lp ∙ ap length (sym parts.stand.places_are) ∙ lt in
          let place : next_place own (length bytes) ≡ record { buffer = own.buffer; offset = 0; len = min size (L - at) } = rw (start, len_is) refl in
          rw e (piece_notes-push pieces v.pieces (pending_of_part o at (next_place own (length bytes))) (record {
            place = next_place own
                (length bytes);
            bytes = bytes;
          }) long
          ∙ rw (parts.notes, place, bytes_are) (let zero_at : 0 + at
          ≡ at = omega arith in sym (rw zero_at at (split_notes-push o layout own.buffer buffers 0 L before))));
      stand = rw e (PiecesStand-part o at pieces (took v own.buffer) own bytes (PiecesStand-took pieces v own.buffer parts.stand) app_there most in_payload);
      view = rw e (rw parts.view refl);
      looks = NicLooksStay-trans old v (placed t own bytes) parts.looks (NicLooksStay-same v (placed t own bytes) (rw e refl));
      enough =
          let cache : length v.cache ≡ length t.cache + 1 = ap length took_one.last ∙ simp length-append (omega arith) in
          simp length-append (omega (arith, cache, parts.enough));
    }

pub FreshSoFar-none : (o : Offer) (v : NicView) (pieces : List Pending) → v.owns ≡ [] → v.pieces ≡ [] → pieces ≡ []
    → buffers_for (least_size v.setting.layout) (length (payload_of o)) ≤ length v.cache → FreshSoFar o v v pieces 0
FreshSoFar-none o v pieces owns none nothing enough = record {
  buffers = [];
  parts = record {
    used = rw append-nil refl;
    many = ap length nothing;
    notes = rw nothing refl;
    stand = record { places_are = rw (nothing, none) refl; apps = rw nothing (All-nil _); fields = rw nothing (All-nil _); places = rw nothing (All-nil _) };
    view = refl;
    looks = NicLooksStay-same v v refl;
    enough = omega (arith, enough);
  };
  reached = refl;
  owns = owns;
  cached = inl (sym (append-nil v.cache));
}

-- the buffer was closed
pub FreshParts-shut : (o : Offer) (buffers : List ℕ) (old w u : NicView) (own : Filling) (pieces : List Pending)
    → FreshParts o buffers old w pieces → Closed w u own → FreshParts o buffers old u pieces
FreshParts-shut o buffers old w u own pieces parts closed =
    let e : u ≡ shut w own closed.last = closed.event in
    let cache : (shut w own closed.last).cache ≡ w.cache ++ freed_by w own.buffer closed.last = grown (closed.last && nat_lt own.buffer
    (pool_buffers w.setting.layout)) (nat_lt (length w.cache) cache_room) w.cache own.buffer in
    let longer : length (shut w own closed.last).cache ≡ length w.cache + length (freed_by w own.buffer closed.last) = ap length cache
    ∙ length-append w.cache (freed_by w own.buffer closed.last) in
    let more : length w.cache ≤ length u.cache = rw e (omega (arith, longer)) in
    record {
      used = rw e parts.used;
      many = parts.many;
      notes = rw e parts.notes;
      stand = rw e (record { places_are = parts.stand.places_are; apps = parts.stand.apps; fields = parts.stand.fields; places = parts.stand.places });
      view = rw e (rw parts.view refl);
      looks = NicLooksStay-trans old w u parts.looks (rw e (record {
        later = λ look. times-more same_nic_look look
            (holder_look closed.last own.buffer) w.looks;
      }));
      enough = omega (arith, more, parts.enough);
    }

-- what is out, once a part was placed in a fresh buffer
pub owns-placed : (v t : NicView) (own : Filling) (bytes : List ℕ) → v.owns ≡ [] → TookBuffer v t own
    → (placed t own bytes).owns ≡ filled_by own (length bytes) ∷ []
owns-placed v t own bytes none took_one =
    let own_is : fresh v.setting own.buffer ≡ own = sym took_one.fresh in
    let same : same_filling own (fresh v.setting own.buffer) ≡ true = ap (same_filling own) own_is ∙ same_filling-refl own in
    rw (took_one.event, none, same) refl

-- how many bytes of the payload the next buffer takes
size-own : (o : Offer) (buffers : List ℕ) (old v t : NicView) (own : Filling) (pieces : List Pending) → FreshParts o buffers old v pieces
    → TookBuffer v t own → own.size ≡ size_of old.setting.layout own.buffer
size-own o buffers old v t own pieces parts took_one =
    ap (λ (f : Filling). f.size) took_one.fresh ∙ ap (λ (w : NicView). size_of w.setting.layout own.buffer) parts.view

pub own-some : (o : Offer) (old v t : NicView) (own : Filling) (pieces : List Pending) (at : ℕ) → IsLayout old.setting.layout
    → FreshSoFar o old v pieces at → TookBuffer v t own → 0 < own.size
own-some o old v t own pieces at l so took_one =
    omega (arith, size-own o so.buffers old v t own pieces so.parts took_one, ((words_apart old.setting.layout l).size own.buffer).least)

-- as long as bytes are left fewer parts were placed than buffers are needed
pub fewer-parts : (o : Offer) (old v : NicView) (pieces : List Pending) (at : ℕ) → IsLayout old.setting.layout → FreshSoFar o old v pieces at
    → at < length (payload_of o) → length pieces < buffers_for (least_size old.setting.layout) (length (payload_of o))
fewer-parts o old v pieces at l so before =
    let least : ℕ = least_size old.setting.layout in
    let some = (in_order old.setting.layout l).some.least in
    let needed = still_needed least (length so.buffers) (length (payload_of o)) (omega (arith, some))
    (omega (arith, room-least old.setting.layout so.buffers l, so.reached, before)) in
    omega (arith, needed, so.parts.many)

-- the buffer that is taken next was cached from the begin on
cached-took : (buffers : List ℕ) (old v t : NicView) (own : Filling) → (old.cache ≡ v.cache ++ reverse buffers) ⊎ IsLastHeld v → TookBuffer v t own
    → old.cache ≡ t.cache ++ reverse (buffers ++ own.buffer ∷ [])
cached-took buffers old v t own (inl same) took_one =
    same ∙ ap (λ c. c ++ reverse buffers) took_one.last ∙ append_assoc t.cache (own.buffer ∷ []) (reverse buffers)
    ∙ ap (λ bs. t.cache ++ bs) (sym (reverse-append buffers (own.buffer ∷ [])))
cached-took buffers old v t own (inr top) took_one =
    let same = same_from_push top.others t.cache top.buffer own.buffer (sym top.last ∙ took_one.last) in
    absurd (top.held (rw same.1 took_one.apart))

-- a buffer that came to be free as it was closed holds its part still
cached-shut : (own : Filling) (old t u : NicView) (buffers bytes : List ℕ) (n : ℕ) → old.cache ≡ t.cache ++ reverse buffers
    → Closed (placed t own bytes) u (filled_by own n) → (old.cache ≡ u.cache ++ reverse buffers) ⊎ IsLastHeld u
cached-shut own old t u buffers bytes n same closed =
    let w : NicView = placed t own bytes in
    let is_free : Bool = closed.last && nat_lt own.buffer (pool_buffers w.setting.layout) in
    let has_room : Bool = nat_lt (length w.cache) cache_room in
    let cache : u.cache ≡ w.cache ++ freed_by w own.buffer closed.last = ap (λ (x : NicView). x.cache) closed.event
    ∙ grown is_free has_room w.cache own.buffer in
    let pieces : u.pieces ≡ t.pieces ++ record { place = next_place own (length bytes); bytes = bytes } ∷ [] = rw closed.event refl in
    kept is_free has_room cache pieces
  where
    kept : (f r : Bool) → u.cache ≡ t.cache ++ (if f then (if r then own.buffer ∷ [] else []) else [])
        → u.pieces ≡ t.pieces ++ record { place = next_place own (length bytes); bytes = bytes } ∷ []
        → (old.cache ≡ u.cache ++ reverse buffers) ⊎ IsLastHeld u
    kept false r cache pieces = inl (same ∙ ap (λ c. c ++ reverse buffers) (sym (cache ∙ append-nil t.cache)))
    kept true false cache pieces = inl (same ∙ ap (λ c. c ++ reverse buffers) (sym (cache ∙ append-nil t.cache)))
    kept true true cache pieces = inr (record {
      others = t.cache;
      buffer = own.buffer;
      last = cache;
      held = λ nothing. All-contains (λ (p : PlacedText). p.place.buffer ≢ own.buffer) u.pieces (record {
        place = next_place own (length bytes);
        bytes = bytes;
      }) nothing.pieces (rw pieces (Contains-push t.pieces _)) refl;
    })

-- one buffer was filled and closed, and some bytes are left
pub FreshSoFar-next : (o : Offer) (old v t u : NicView) (own : Filling) (pieces : List Pending) (at n : ℕ) (bytes : List ℕ)
    → FreshSoFar o old v pieces at → TookBuffer v t own
    → n ≡ min own.size (length (payload_of o) - at) → bytes ≡ take n (drop at (payload_of o)) → length bytes ≡ n → at + n < length (payload_of o)
    → o.app < apps_of old.setting → length (payload_of o) ≤ longest_payload
    → Closed (placed t own bytes) u (filled_by own n) → FreshSoFar o old u (pieces ++ pending_of_part o at (next_place own n) ∷ []) (at + n)
FreshSoFar-next o old v t u own pieces at n bytes so took_one n_is bytes_are len_is rest app most closed =
    let layout : Shape = old.setting.layout in
    let at_is : at ≡ room_in layout so.buffers = so.reached in
    let size_is : own.size ≡ size_of layout own.buffer = size-own o so.buffers old v t own pieces so.parts took_one in
    let full : n ≡ size_of layout own.buffer = grind (arith, n_is, size_is, rest) in
    record {
      buffers = so.buffers ++ own.buffer ∷ [];
      parts = FreshParts-shut o (so.buffers ++ own.buffer ∷ []) old (placed t own bytes) u (filled_by own n) _
          (let n_there : n ≡ min (size_of layout own.buffer) (length (payload_of o) - room_in layout so.buffers) = rw (size_is, at_is) at n_is in
          let bytes_there : bytes ≡ take n (drop (room_in layout so.buffers) (payload_of o)) = rw at_is at bytes_are in
          let before : room_in layout so.buffers < length (payload_of o) = omega (arith, at_is, rest) in
          let part = FreshParts-part o so.buffers old v t own pieces bytes so.parts took_one (rw n_there at bytes_there) (len_is
          ∙ n_there) before app most in
          rw (at_is, sym len_is) part)
          closed;
      reached = omega (arith, at_is, full, sum_by_push (size_of layout) so.buffers own.buffer);
      owns =
          let out : (placed t own bytes).owns ≡ filled_by own n ∷ [] = owns-placed v t own bytes so.owns took_one
          ∙ ap (λ k. filled_by own k ∷ []) len_is in
          rw (closed.event, out, same_filling-refl (filled_by own n)) refl;
      cached = cached-shut own old t u (so.buffers ++ own.buffer ∷ []) bytes n (cached-took so.buffers old v t own so.cached took_one) closed;
    }

-- the last part was placed
pub FreshSoFar-last : (o : Offer) (old v t : NicView) (own : Filling) (pieces : List Pending) (at n : ℕ) (bytes : List ℕ)
    → IsLayout old.setting.layout → FreshSoFar o old v pieces at → TookBuffer v t own
    → n ≡ min own.size (length (payload_of o) - at) → bytes ≡ take n (drop at (payload_of o)) → length bytes ≡ n → at < length (payload_of o)
    → at + n ≡ length (payload_of o) → o.app < apps_of old.setting → length (payload_of o) ≤ longest_payload
    → FillsFresh o old (placed t own bytes) (pieces ++ pending_of_part o at (next_place own n) ∷ []) (Some (filled_by own n))
FreshSoFar-last o old v t own pieces at n bytes l so took_one n_is bytes_are len_is before all app most =
    let L : ℕ = length (payload_of o) in
    let layout : Shape = old.setting.layout in
    let least : ℕ = least_size layout in
    let at_is : at ≡ room_in layout so.buffers = so.reached in
    let size_is : own.size ≡ size_of layout own.buffer = size-own o so.buffers old v t own pieces so.parts took_one in
    let n_there : n ≡ min (size_of layout own.buffer) (L - room_in layout so.buffers) = rw (size_is, at_is) at n_is in
    let bytes_there : bytes ≡ take n (drop (room_in layout so.buffers) (payload_of o)) = rw at_is at bytes_are in
    let there : room_in layout so.buffers < L = omega (arith, at_is, before) in
    let part = FreshParts-part o so.buffers old v t own pieces bytes so.parts took_one (rw n_there at bytes_there) (len_is ∙ n_there) there app most in
    let setting : v.setting ≡ old.setting = ap (λ (w : NicView). w.setting) so.parts.view in
    let own_is : own ≡ fresh old.setting own.buffer = took_one.fresh ∙ ap (λ s. fresh s own.buffer) setting in
    let n_rest : n ≡ L - room_in layout so.buffers = omega (arith, at_is, all) in
    let size_enough : n ≤ size_of layout own.buffer = grind (arith, n_is, size_is) in
    let some = (in_order layout l).some.least in
    let fewer = still_needed least (length so.buffers) L (omega (arith, some)) (omega (arith, room-least layout so.buffers l, there)) in
    record {
      buffers = so.buffers ++ own.buffer ∷ [];
      parts = rw (at_is, sym len_is) part;
      many = fresh-many layout own.buffer so.buffers 0 L there;
      few = simp length-append (omega (arith, fewer));
      room = omega (arith, sum_by_push (size_of layout) so.buffers own.buffer, all, at_is, size_enough);
      last_is = ap (λ (f : Filling). Some (filled_by f n)) own_is ∙ ap (λ k. Some (filled_by (fresh old.setting own.buffer) k)) n_rest
          ∙ sym (last_of-push old.setting own.buffer so.buffers L);
      cached = cached-took so.buffers old v t own so.cached took_one;
    }

-- a buffer is cached as long as one is needed
pub FreshSoFar-cached : (o : Offer) (old v : NicView) (pieces : List Pending) (at : ℕ) → IsLayout old.setting.layout → FreshSoFar o old v pieces at
    → at < length (payload_of o) → v.cache ≡ [] → ⊥
FreshSoFar-cached o old v pieces at l so before none =
    let fewer = fewer-parts o old v pieces at l so before in
    let empty : length v.cache ≡ 0 = ap length none in
    absurd (omega (arith, fewer, so.parts.many, empty, so.parts.enough))
