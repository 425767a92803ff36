-- The piece in the making stays the last of its buffer under each event.
use Rattle.board_face.{proofs.PlacesByEvent.{app_places-then}, specs.BoardSteps.{lends}}
use Rattle.std.proofs.Common.{◌≡◌, ℕ, ◌+◌, ◌<◌, ◌≤◌, Bool, true, false, List, length, set, refl, ap, sym, ◌∙◌, subst, arith}
use Rattle.std.{specs.Prelude.{nat_lt, count_by, Contains, Some, None}, proofs.lemmas.{Bool.{lt-ltb}, List.Elements.{All-contains}}}
use Rattle.zr_kinds.specs.declared.place.{Place.{Place}, Note.{Note}}
use Rattle.board_face.specs.{Tokens.{next_place}, NicEvents.{begun, sent, sent_linear}, AppEvents.{cut, released, lent, filled, own_bytes, begin_place, lent_own}}
use Rattle.board_face.specs.{NicCalls.{HasOwn, HasPiece}, AppCalls.{HasHeld, HasSpare, IsFilled}, Sides.{nic_at, app_at, IsApp, AreNumbered}}
use Rattle.board_face.specs.{Holders.{sent_to, ended_in, returning_count}, Fillings.{IsFilledByOne}, Places.{places_of, ends_behind, ArePlaced, IsMadeLast}}
use Rattle.board_face.specs.declared.views.{parts.{Filling.{Filling}, Making.{Making}}, nic.{NicView.{NicView}, NicSide.{NicSide}}, app.AppSide.{AppSide}}
use Rattle.board_face.proofs.{Tallies.{one_if, tally}, ListLemmas.{eqb_same, not-eqb}, Parts.{making_in, pool_count-parts, count-tally}, NicLemmas.{making_at}}
use Rattle.board_face.proofs.{PlaceTallies.{in_buffer, piece_places, app_places}, PlacesByEvent.{places-nic, places-begun, places-sent, places-sent_linear}}
use Rattle.board_face.proofs.PlacesByEvent.{places-app, app_places-cut, app_places-released, app_places-filled, app_places-lent_own, places-stretch}
use Rattle.board_face.proofs.ArePlacedLemmas.{IsBehind, right-weight, none-later, in-none, in-other, not-behind, less_spare, spare-free, front-ends, rest-ends}

-- no place comes, and the piece in the making is the same
pub IsMadeLast-fewer : (nic nic' : NicSide) (apps apps' : List AppSide) → nic'.inside.making ≡ nic.inside.making
    → ((b : ℕ) (test : Place → Bool) → tally test (places_of b nic' apps') ≤ tally test (places_of b nic apps)) → IsMadeLast nic apps
    → IsMadeLast nic' apps'
IsMadeLast-fewer nic nic' apps apps' same fewer is = record {
  last = λ making busy.
      let b = making.place.buffer in
      let x = making.place.offset + making.place.len in
      omega (
        arith,
        is.last making (sym same ∙ busy),
        count-tally (ends_behind x) (places_of b nic apps),
        count-tally (ends_behind x) (places_of b nic' apps'),
        fewer b (ends_behind x),
      );
}

-- ---- the card

-- an event that leaves pieces, notes and entries, as taking, sweeping, closing
pub IsMadeLast-nic : (nic : NicSide) (v : NicView) (apps : List AppSide) → v.pieces ≡ nic.view.pieces → v.sent ≡ nic.view.sent
    → v.dealt ≡ nic.view.dealt → IsMadeLast nic apps → IsMadeLast (nic_at nic v) apps
IsMadeLast-nic nic v apps pieces sents deals is =
    let same : (b : ℕ) (test : Place → Bool) → piece_places b test (nic_at nic v) ≡ piece_places b test nic = λ b test. rw pieces refl in
    IsMadeLast-fewer nic (nic_at nic v) apps apps refl (λ b test. omega (arith, same b test, places-nic b test nic v apps sents deals)) is

-- a place doesn't end behind its own end
ends-itself : (b : ℕ) (p : Place) → one_if (in_buffer b (ends_behind (p.offset + p.len)) p) ≡ 0
ends-itself b p = in-none b (ends_behind (p.offset + p.len)) p (not-behind (p.offset + p.len) p (omega arith))

-- A piece is begun where the card fills its buffer next, behind all that lies there.
pub IsMadeLast-begun : (nic : NicSide) (apps : List AppSide) (own : Filling) (n : ℕ) (bytes : List ℕ) → HasOwn nic.view own
    → nic.inside.making ≡ None → ArePlaced own.buffer nic apps
    → IsMadeLast (making_at nic (begun nic.view own n) (Some (record { place = next_place own n; bytes = bytes }))) apps
IsMadeLast-begun nic apps own n bytes out idle sound = record {
  last = λ making busy.
      let now = making_at nic (begun nic.view own n) (Some (record { place = next_place own n; bytes = bytes })) in
      let it : record { place = next_place own n; bytes = bytes } ≡ making = cc in
      let p = next_place own n in
      let x = p.offset + p.len in
      let free : count_by (ends_behind own.start) (places_of own.buffer nic apps) ≡ 0 =
      All-contains (IsBehind own.buffer nic apps) nic.view.owns own sound.behind out refl in
      subst (λ (m : Making). count_by (ends_behind (m.place.offset + m.place.len)) (places_of m.place.buffer now apps) ≡ 0) it
      (omega (
        arith,
        places-begun own.buffer (ends_behind x) nic apps own n bytes idle,
        none-later own.start x (places_of own.buffer nic apps) (omega arith) free,
        count-tally (ends_behind x) (places_of own.buffer nic apps),
        count-tally (ends_behind x) (places_of own.buffer now apps),
        ends-itself own.buffer p,
      ));
}

-- no piece is in the making, as when a text is complete
pub IsMadeLast-idle : (nic : NicSide) (apps : List AppSide) → nic.inside.making ≡ None → IsMadeLast nic apps
IsMadeLast-idle nic apps idle = record { last = λ making busy. absurd (let none : ⊥ = cc in none) }

pub IsMadeLast-sent : (nic : NicSide) (apps : List AppSide) (a : ℕ) (note : Note) (app : AppSide) → HasPiece nic.view note.place
    → note.split ≡ true → AreNumbered 0 apps → IsApp apps a app → length app.view.taken ≤ length (sent_to a nic)
    → IsMadeLast nic apps → IsMadeLast (nic_at nic (sent nic.view a note)) apps
IsMadeLast-sent nic apps a note app out split numbered here within is =
    IsMadeLast-fewer nic (nic_at nic (sent nic.view a note)) apps apps refl
    (λ b test. omega (arith, places-sent b test nic apps a note app out split numbered here within)) is

pub IsMadeLast-sent_linear : (nic : NicSide) (apps : List AppSide) (a : ℕ) (note : Note) (bytes : List ℕ) (app : AppSide) → note.split ≡ false
    → AreNumbered 0 apps → IsApp apps a app → length app.view.taken ≤ length (sent_to a nic)
    → IsMadeLast nic apps → IsMadeLast (nic_at nic (sent_linear nic.view a note bytes)) apps
IsMadeLast-sent_linear nic apps a note bytes app split numbered here within is =
    IsMadeLast-fewer nic (nic_at nic (sent_linear nic.view a note bytes)) apps apps refl
    (λ b test. omega (arith, places-sent_linear b test nic apps a note bytes app split numbered here within)) is

-- The entry in hand changes, or one was dealt with.
pub IsMadeLast-stretch : (nic nic' : NicSide) (apps : List AppSide) → nic'.view.sent ≡ nic.view.sent → nic'.view.pieces ≡ nic.view.pieces
    → nic'.inside.making ≡ nic.inside.making
    → ((b : ℕ) (app : AppSide) → Contains apps app → returning_count b nic app ≤ ended_in b nic app)
    → ((b : ℕ) (app : AppSide) → Contains apps app → returning_count b nic' app ≤ ended_in b nic' app)
    → ((b : ℕ) (app : AppSide) → Contains apps app
    → ended_in b nic app + returning_count b nic' app ≤ ended_in b nic' app + returning_count b nic app)
    → IsMadeLast nic apps → IsMadeLast nic' apps
IsMadeLast-stretch nic nic' apps sents pieces making small small' later is =
    IsMadeLast-fewer nic nic' apps apps making (λ b test. places-stretch b test nic nic' apps sents pieces making (small b) (small' b) (later b)) is

-- ---- an application

-- an event by which the application has no place more
pub IsMadeLast-app : (nic : NicSide) (apps : List AppSide) (a : ℕ) (app now : AppSide) → IsApp apps a app
    → ((b : ℕ) (test : Place → Bool) → app_places b test nic now ≤ app_places b test nic app) → IsMadeLast nic apps
    → IsMadeLast nic (set apps a now)
IsMadeLast-app nic apps a app now here fewer is =
    IsMadeLast-fewer nic nic apps (set apps a now) refl (λ b test. omega (arith, fewer b test, places-app b test nic apps a app now here)) is

pub IsMadeLast-lent : (nic : NicSide) (apps : List AppSide) (a : ℕ) (app : AppSide) (place : Place) → IsApp apps a app → HasHeld app.view place
    → IsMadeLast nic apps → IsMadeLast nic (set apps a (app_at app (lent app.view place)))
IsMadeLast-lent nic apps a app place here out is =
    IsMadeLast-app nic apps a app (app_at app (lent app.view place)) here (λ b test. omega (arith, app_places-then (lends place) b test nic app out)) is

pub IsMadeLast-lent_own : (nic : NicSide) (apps : List AppSide) (a : ℕ) (app : AppSide) (own : Filling) → IsApp apps a app → IsFilled app.view own
    → IsMadeLast nic apps → IsMadeLast nic (set apps a (app_at app (lent_own app.view own)))
IsMadeLast-lent_own nic apps a app own here some_bytes is =
    IsMadeLast-app nic apps a app (app_at app (lent_own app.view own)) here
    (λ b test. omega (arith, app_places-lent_own b test nic app own (lt-ltb 0 (length (own_bytes app.view own)) some_bytes))) is

-- The two parts of a piece end no later than it does.
pub IsMadeLast-cut : (nic : NicSide) (apps : List AppSide) (a : ℕ) (app : AppSide) (place : Place) (at : ℕ) → IsApp apps a app
    → HasHeld app.view place → at < place.len → IsMadeLast nic apps → IsMadeLast nic (set apps a (app_at app (cut app.view place at)))
IsMadeLast-cut nic apps a app place at here out inside is = record {
  last = λ making busy.
      let b = making.place.buffer in
      let x = making.place.offset + making.place.len in
      let now = app_at app (cut app.view place at) in
      let less = app_at app (released app.view place) in
      omega (
        arith,
        is.last making busy,
        places-app b (ends_behind x) nic apps a app now here,
        places-app b (ends_behind x) nic apps a app less here,
        app_places-cut b (ends_behind x) nic app place at out,
        app_places-released b (ends_behind x) nic app place out,
        front-ends b x place at (omega arith),
        rest-ends b x place at (omega arith),
        count-tally (ends_behind x) (places_of b nic apps),
        count-tally (ends_behind x) (places_of b nic (set apps a now)),
      );
}

-- A spare that is filled lies in a buffer that nobody else has, so not in that of a piece in the making.
pub IsMadeLast-filled : (nic : NicSide) (apps : List AppSide) (a : ℕ) (app : AppSide) (own : Filling) (bytes : List ℕ) → IsApp apps a app
    → HasSpare app.view own → ((b : ℕ) → IsFilledByOne b nic apps) → IsMadeLast nic apps
    → IsMadeLast nic (set apps a (app_at app (filled app.view own bytes)))
IsMadeLast-filled nic apps a app own bytes here out by_one is = record {
  last = λ making busy.
      let b = making.place.buffer in
      let x = making.place.offset + making.place.len in
      let now = app_at app (filled app.view own bytes) in
      let made : making_in b nic ≡ 1 = rw busy (omega (arith, ap one_if (eqb_same b))) in
      let other : own.buffer ≡ b → ⊥ = λ e.
      let free = spare-free b nic apps a app own here out (by_one b) e in
      omega (arith, free, made, pool_count-parts b nic (set apps a (less_spare app own))) in
      let apart : one_if (in_buffer b (ends_behind x) (begin_place own.buffer (length bytes))) ≡ 0 =
      in-other b (ends_behind x) (begin_place own.buffer (length bytes)) (not-eqb own.buffer b other) in
      omega (
        arith,
        is.last making busy,
        places-app b (ends_behind x) nic apps a app now here,
        app_places-filled b (ends_behind x) nic app own bytes out,
        apart,
        right-weight (nat_lt 0 (length bytes)) (in_buffer b (ends_behind x) (begin_place own.buffer (length bytes))),
        count-tally (ends_behind x) (places_of b nic apps),
        count-tally (ends_behind x) (places_of b nic (set apps a now)),
      );
}
