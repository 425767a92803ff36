-- One more pending note was sent.
use Rattle.std.proofs.{Common.{◌≡◌, ◌<◌, List, [], ◌∷◌, ◌++◌, map, take, append_assoc, refl, sym, ◌∙◌, arith, Some, None, true, ℕ}, lemmas.List.{append-nil}}
use Rattle.std.proofs.lemmas.List.Elements.{All-head, All-tail}
use Rattle.board_face.specs.{Texts.{IsSplitNote}, NicEvents.{sent, sent_linear, nic_saw, text_at}, NicCalls.{apps_of}, declared.views.nic.NicView.{NicView}}
use Rattle.board_face.specs.declared.views.nic.{NicLook.{NicLook}, SentNote.{SentNote}, PlacedText.{PlacedText}}
use Rattle.board_face.proofs.LookLemmas.{NicLooksStay-same, NicLooksStay-trans, NicLooksStay-nic_saw}
use Rattle.board_face.{proofs.ListLemmas.{places-without_first, without-head, at_first-head, same_place-refl}, specs.Lists.{without, at_first, same_place}}
use Rattle.zr_kinds.specs.declared.place.{Note.{Note}, Place.{Place}}
use Rattle.page_pool.specs.{declared.pool.{Pending.{Pending}, Short.{Short}}, Pool.{PoolState, PoolStands, OnlySends, all_notes, piece_notes}}

pub OnlySends-none : (pool : PoolState) (v : NicView) → OnlySends pool pool v v
OnlySends-none pool v = record
    { gone = []; still = λ none. (refl, refl); view = rw append-nil refl; pool = refl; notes = refl; looks = NicLooksStay-same v v refl }

-- the first note wasn't sent, and the pool is as it was
pub OnlySends-refused : (was now : PoolState) (v : NicView) (look : NicLook) → now ≡ was → OnlySends was now v (nic_saw v look)
OnlySends-refused was now v look same = rw same (record {
  gone = [];
  still = λ none. (refl, refl);
  view = rw append-nil refl;
  pool = refl;
  notes = refl;
  looks = NicLooksStay-nic_saw v look;
})

some_gone : (notes : List SentNote) (s : SentNote) → notes ++ s ∷ [] ≡ [] → ⊥
some_gone [] s none = grind arith
some_gone (t ∷ notes) s none = grind arith

nil-not-cons : {p : Place} {ps : List Place} → [] ≡ p ∷ ps → ⊥
nil-not-cons same = grind arith

head-same : {p q : Place} {ps qs : List Place} → p ∷ ps ≡ q ∷ qs → p ≡ q
head-same same = cc

-- the first piece is sent with the text that lies at its place
first_text : (note : Note) (t : PlacedText) (ts : List PlacedText) → note.place ≡ t.place
    → ((without (λ (p : PlacedText). same_place note.place p.place) (t ∷ ts) ≡ ts)
    × (at_first (λ (p : PlacedText). same_place note.place p.place) (λ p. p.bytes) [] (t ∷ ts) ≡ t.bytes))
first_text note t ts place =
    let same : same_place note.place t.place ≡ true = rw place (same_place-refl t.place) in (
      without-head (λ (p : PlacedText). same_place note.place p.place) t ts same,
      at_first-head (λ (p : PlacedText). same_place note.place p.place) (λ p. p.bytes) [] t ts same,
    )

-- the pending notes behind those that were sent go on, as the first piece's note is sent
notes-sent : (p : Pending) (ps : List Pending) (texts : List PlacedText) (done : List SentNote)
    → map (λ (t : PlacedText). t.place) texts ≡ p.piece ∷ map (λ (q : Pending). q.piece) ps → p.note.place ≡ p.piece
    → (done ++ record { app = p.app; note = p.note; bytes = at_first (λ (t : PlacedText). same_place p.note.place t.place) (λ t. t.bytes) [] texts } ∷ [])
    ++ piece_notes ps (without (λ (t : PlacedText). same_place p.note.place t.place) texts)
    ≡ done ++ piece_notes (p ∷ ps) texts
notes-sent p ps [] done places place = absurd (nil-not-cons places)
notes-sent p ps (t ∷ ts) done places place =
    let at : p.note.place ≡ t.place = place ∙ sym (head-same places) in
    let first = first_text p.note t ts at in
    rw (first.0, first.1, append_assoc) refl

pub PoolStands-sent : (pool : PoolState) (v : NicView) (p : Pending) (ps : List Pending) → pool.pieces ≡ p ∷ ps → PoolStands pool v
    → PoolStands (record pool { pieces = ps }) (sent v p.app p.note)
PoolStands-sent pool v p ps first stands =
    let fields = rw first at stands.fields in
    let places = rw first at stands.places in
    let apps = rw first at stands.apps in
    let pieces = rw first at stands.pieces in
    record {
      owns = stands.owns;
      pieces = let place : p.note.place ≡ p.piece = All-head (λ (q : Pending). q.note.place ≡ q.piece) p ps places in
          rw place (places-without_first (λ q. q.place) v.pieces p.piece (map (λ q. q.piece) ps) pieces);
      apps = All-tail (λ (q : Pending). q.app < apps_of v.setting) p ps apps;
      fields = All-tail (λ (q : Pending). IsSplitNote q.note) p ps fields;
      places = All-tail (λ (q : Pending). q.note.place ≡ q.piece) p ps places;
      short = stands.short;
      few = let few = rw first at stands.few in omega (arith, few);
    }

pub OnlySends-sent : (was pool : PoolState) (old v : NicView) (p : Pending) (ps : List Pending) → pool.pieces ≡ p ∷ ps → pool.short ≡ None
    → PoolStands pool v → OnlySends was pool old v
    → OnlySends was (record pool { pieces = ps }) old (sent v p.app p.note)
OnlySends-sent was pool old v p ps first none stands sends =
    let places = rw first at stands.places in
    let pieces = rw first at stands.pieces in
    record {
      gone = sends.gone ++ record { app = p.app; note = p.note; bytes = text_at v p.note.place } ∷ [];
      still = λ none. absurd (some_gone sends.gone _ none);
      view = rw sends.view (simp append_assoc refl);
      pool = rw sends.pool refl;
      notes =
          let before : v.sent ++ piece_notes (p ∷ ps) v.pieces ≡ all_notes was old = let all = sends.notes in simp (none, first) at all in
          rw none (notes-sent p ps v.pieces v.sent pieces (All-head (λ (q : Pending). q.note.place ≡ q.piece) p ps places) ∙ before);
      looks = NicLooksStay-trans old v (sent v p.app p.note) sends.looks (NicLooksStay-same v (sent v p.app p.note) refl);
    }

-- the short note was sent
pub OnlySends-short : (pool : PoolState) (v : NicView) (s : Short) → pool.short ≡ Some s
    → OnlySends pool (record pool { short = None }) v (sent_linear v s.app s.note (take s.note.total s.bytes))
OnlySends-short pool v s short = record {
  gone = record { app = s.app; note = s.note; bytes = take s.note.total s.bytes } ∷ [];
  still = λ none. absurd (some_gone [] _ none);
  view = refl;
  pool = refl;
  notes = rw (short, append_assoc) refl;
  looks = NicLooksStay-same v (sent_linear v s.app s.note (take s.note.total s.bytes)) refl;
}

pub PoolStands-short : (pool : PoolState) (v : NicView) (app : ℕ) (note : Note) (bytes : List ℕ) → PoolStands pool v
    → PoolStands (record pool { short = None }) (sent_linear v app note bytes)
PoolStands-short pool v app note bytes stands = record {
  owns = stands.owns;
  pieces = stands.pieces;
  apps = stands.apps;
  fields = stands.fields;
  places = stands.places;
  short = tt;
  few = omega (arith, stands.few);
}
