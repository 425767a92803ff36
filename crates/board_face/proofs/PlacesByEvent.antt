-- What each event does to the places of a buffer: how many of them meet a test, as that a byte lies there. Two places of
-- which none shares a byte with the other stay so, since no count rises but where a piece is placed or a spare filled.
use Rattle.zr_kinds.{specs.declared.{place.{Place.{Place}, Note.{Note}}, ring.Rqe.{Rqe}}}
use Rattle.std.{proofs.lemmas.List.{drop-drop}, specs.Prelude.{if◌then◌else◌}}
use Rattle.board_face.specs.{AppCalls.{HasSpare}, BoardSteps.{AppStep, AppCan, app_view, strays, polls, polls_linear, cuts, releases, fills, lends_own}}
use Rattle.board_face.specs.Holdings.{here, app_ends, app_begins, weight_in as weights}
use Rattle.board_face.proofs.{AppExchange.{app-exchange, back-exchange}, CardExchange.{sides, sent-exchange, linear-exchange, card-exchange}, PlaceTallies.{placed as placed_test, in-case, spare-case, app-placed, places-weigh}}
use Rattle.std.proofs.Common.{◌≡◌, ℕ, zero, suc, ◌+◌, ◌-◌, ◌≤◌, Bool, true, false, List, [], ◌∷◌, length, map, take, drop, set, refl, ap, ◌∙◌, arith, zero-add}
use Rattle.std.{specs.Prelude.{◌==◌, ◌&&◌, nat_lt, slice_index, Contains, Some, None}, proofs.lemmas.List.{take-append-drop}}
use Rattle.board_face.specs.{Lists.{at_first}, Tokens.{next_place, same_filling}, Texts.{front_place, rest_place}}
use Rattle.board_face.specs.NicEvents.{begun, text_done, placed, sent, sent_linear, honoured, passed_over}
use Rattle.board_face.specs.AppEvents.{took_note, took_linear, cut, released, abandoned}
use Rattle.board_face.specs.{AppEvents.{filled, own_bytes, begin_place, lent_own}, NicCalls.{HasPiece}, AppCalls.{HasHeld, HasLoan}}
use Rattle.board_face.specs.{Sides.{nic_at, app_at, IsApp, AreNumbered}, Holders.{sent_to, returned_in, ended_in, returning_count, making_places}}
use Rattle.board_face.specs.{Counts.{EndedWereReturned}, Places.{places_of}, declared.views.{parts.{Filling.{Filling}, Making.{Making}}, nic.PlacedText.{PlacedText}}}
use Rattle.board_face.specs.declared.views.nic.{NicView.{NicView}, NicSide.{NicSide}}
use Rattle.board_face.{specs.declared.views.app.{SpareOwn.{SpareOwn}, AppInside.{AppInside}, AppSide.{AppSide}}, proofs.ListLemmas.{same_filling-is}}
use Rattle.board_face.proofs.{Tallies.{total-le, one_if, tally, total, tally-append, tally-push, total-set}, NicLemmas.{making_at, ended_in-honoured}}
use Rattle.board_face.{proofs.{AppLemmas.{scrubbed_side}, PlaceTallies.{in_buffer, piece_places, way_places, app_places, places-parts}}, specs.Laws.{IsNextNote}}

-- ---- the card's events that send nothing and deal with nothing

pub places-nic : (b : ℕ) (test : Place → Bool) (nic : NicSide) (v : NicView) (apps : List AppSide) → v.sent ≡ nic.view.sent
    → v.dealt ≡ nic.view.dealt
    → tally test (places_of b (nic_at nic v) apps) + piece_places b test nic ≡ tally test (places_of b nic apps) + piece_places b test (nic_at nic v)
places-nic b test nic v apps sents deals =
    let same : total (app_places b test (nic_at nic v)) apps ≡ total (app_places b test nic) apps = rw (sents, deals) refl in
    omega (arith, places-parts b test (nic_at nic v) apps, places-parts b test nic apps)

-- a piece that is placed brings its place
pub places-placed : (b : ℕ) (test : Place → Bool) (nic : NicSide) (apps : List AppSide) (own : Filling) (bytes : List ℕ)
    → tally test (places_of b (nic_at nic (placed nic.view own bytes)) apps)
    ≡ tally test (places_of b nic apps) + one_if (in_buffer b test (next_place own (length bytes)))
places-placed b test nic apps own bytes =
    omega (
      arith,
      places-nic b test nic (placed nic.view own bytes) apps refl refl,
      tally-push (λ (p : PlacedText). in_buffer b test p.place) nic.view.pieces (record { place = next_place own (length bytes); bytes = bytes }),
    )

-- ---- notes

-- a piece that is sent stays where it lies
pub places-sent : (b : ℕ) (test : Place → Bool) (nic : NicSide) (apps : List AppSide) (a : ℕ) (note : Note) (app : AppSide)
    → HasPiece nic.view note.place → note.split ≡ true → AreNumbered 0 apps → IsApp apps a app → length app.view.taken ≤ length (sent_to a nic)
    → tally test (places_of b (nic_at nic (sent nic.view a note)) apps) ≡ tally test (places_of b nic apps)
places-sent b test nic apps a note app out split numbered here within =
    omega (
      arith,
      places-weigh b test nic apps,
      places-weigh b test (nic_at nic (sent nic.view a note)) apps,
      sent-exchange nic apps a note app out split numbered here within (placed_test test) b,
    )

-- a note in which its bytes travel has no place
pub places-sent_linear : (b : ℕ) (test : Place → Bool) (nic : NicSide) (apps : List AppSide) (a : ℕ) (note : Note) (bytes : List ℕ) (app : AppSide)
    → note.split ≡ false → AreNumbered 0 apps → IsApp apps a app → length app.view.taken ≤ length (sent_to a nic)
    → tally test (places_of b (nic_at nic (sent_linear nic.view a note bytes)) apps) ≡ tally test (places_of b nic apps)
places-sent_linear b test nic apps a note bytes app split numbered here within =
    omega (
      arith,
      places-weigh b test nic apps,
      places-weigh b test (nic_at nic (sent_linear nic.view a note bytes)) apps,
      linear-exchange nic apps a note bytes app split numbered here within (placed_test test) b,
    )

-- ---- entries

one-fewer : (test : Place → Bool) (k : ℕ) (ps : List Place) → tally test (drop (suc k) ps) ≤ tally test (drop k ps)
one-fewer test zero [] = omega arith
one-fewer test zero (p ∷ ps) = omega arith
one-fewer test (suc k) [] = omega arith
one-fewer test (suc k) (p ∷ ps) = one-fewer test k ps

drop-fewer : (test : Place → Bool) (w k : ℕ) (ps : List Place) → tally test (drop (w + k) ps) ≤ tally test (drop k ps)
drop-fewer test zero k ps = rw (zero-add k) (omega arith)
drop-fewer test (suc w) k ps =
    let next : suc w + k ≡ suc (w + k) = omega arith in
    rw next (omega (arith, one-fewer test (w + k) ps, drop-fewer test w k ps))

-- what is owed and what is returning are one stretch of the loans that came back
ended-stretch : (test : Place → Bool) (h r : ℕ) (ps : List Place) → r ≤ h
    → tally test (take r (drop (h - r) ps)) + tally test (drop h ps) ≡ tally test (drop (h - r) ps)
ended-stretch test h r ps small =
    let rest : drop r (drop (h - r) ps) ≡ drop h ps = drop-drop r (h - r) ps ∙ ap (λ k. drop k ps) (omega arith) in
    omega (
      arith,
      tally-append test (take r (drop (h - r) ps)) (drop r (drop (h - r) ps)),
      ap (tally test) (take-append-drop r (drop (h - r) ps)),
      ap (tally test) rest,
    )

-- ---- one application's part

pub places-app : (b : ℕ) (test : Place → Bool) (nic : NicSide) (apps : List AppSide) (a : ℕ) (app now : AppSide) → IsApp apps a app
    → tally test (places_of b nic (set apps a now)) + app_places b test nic app ≡ tally test (places_of b nic apps) + app_places b test nic now
places-app b test nic apps a app now here =
    omega (arith, places-parts b test nic (set apps a now), places-parts b test nic apps, total-set (app_places b test nic) apps a app now here.there here.is)

-- what a step of the application does to its places
pub app_places-then : (step : AppStep) (b : ℕ) (test : Place → Bool) (nic : NicSide) (x : AppSide) → AppCan step nic x
    → app_places b test nic (app_at x (app_view step x.view)) + weights (placed_test test) b (app_ends x.view.app step x.view)
    ≡ app_places b test nic x + weights (placed_test test) b (app_begins x.view.app step x.view)
app_places-then step b test nic x can =
    omega (arith, app-exchange step nic x can (placed_test test) b, app-placed b test nic x, app-placed b test nic (app_at x (app_view step x.view)))

-- a piece that is taken stays where it lies
pub app_places-took_note : (b : ℕ) (test : Place → Bool) (nic : NicSide) (app : AppSide) (note : Note) → IsNextNote nic app note → note.split ≡ true
    → app_places b test nic (app_at app (took_note app.view note)) ≡ app_places b test nic app
app_places-took_note b test nic app note next split = omega (arith, app_places-then (polls note) b test nic app (split, next))

pub app_places-took_linear : (b : ℕ) (test : Place → Bool) (nic : NicSide) (app : AppSide) (note : Note) (bytes : List ℕ) → IsNextNote nic app note
    → note.split ≡ false → app_places b test nic (app_at app (took_linear app.view note bytes)) ≡ app_places b test nic app
app_places-took_linear b test nic app note bytes next split = omega (arith, app_places-then (polls_linear note bytes) b test nic app (split, next))

-- a cut piece's place becomes two
pub app_places-cut : (b : ℕ) (test : Place → Bool) (nic : NicSide) (app : AppSide) (place : Place) (at : ℕ) → HasHeld app.view place
    → app_places b test nic (app_at app (cut app.view place at)) + one_if (in_buffer b test place)
    ≡ app_places b test nic app + (one_if (in_buffer b test (front_place place at)) + one_if (in_buffer b test (rest_place place at)))
app_places-cut b test nic app place at out =
    let in_place : (p : Place) → one_if (in_buffer b test p) ≡ here b p.buffer (tally test (p ∷ [])) = λ p. in-case (p.buffer == b) (test p) in
    omega (arith, app_places-then (cuts place at) b test nic app out, in_place place, in_place (front_place place at), in_place (rest_place place at))

-- a released piece takes its place along
pub app_places-released : (b : ℕ) (test : Place → Bool) (nic : NicSide) (app : AppSide) (place : Place) → HasHeld app.view place
    → app_places b test nic (app_at app (released app.view place)) + one_if (in_buffer b test place) ≡ app_places b test nic app
app_places-released b test nic app place out = omega (arith, app_places-then (releases place) b test nic app out, in-case (place.buffer == b) (test place))

-- ---- loans that come back

-- a loan that is given back or abandoned stays where it lies
pub app_places-abandoned : (b : ℕ) (test : Place → Bool) (nic : NicSide) (app : AppSide) (place : Place) → HasLoan app.view place
    → EndedWereReturned b nic app → app_places b test nic (app_at app (abandoned app.view place)) ≡ app_places b test nic app
app_places-abandoned b test nic app place out sound =
    omega (
      arith,
      back-exchange nic app place out (placed_test test) b sound,
      app-placed b test nic app,
      app-placed b test nic (app_at app (abandoned app.view place)),
    )

-- ---- spares

-- whether a spare with these bytes has a place that meets the test
abbrev pub shows : ℕ → (Place → Bool) → Filling → List ℕ → ℕ
shows b test own bytes = one_if (nat_lt 0 (length bytes) && in_buffer b test (begin_place own.buffer (length bytes)))

-- a spare that is filled brings its place, if it had none
pub app_places-filled : (b : ℕ) (test : Place → Bool) (nic : NicSide) (app : AppSide) (own : Filling) (bytes : List ℕ)
    → HasSpare app.view own → app_places b test nic (app_at app (filled app.view own bytes)) + shows b test own (own_bytes app.view own)
    ≡ app_places b test nic app + shows b test own bytes
app_places-filled b test nic app own bytes out =
    let n = length (own_bytes app.view own) in
    omega (
      arith,
      app_places-then (fills own bytes) b test nic app out,
      spare-case test (nat_lt 0 n) (own.buffer == b) (begin_place own.buffer n),
      spare-case test (nat_lt 0 (length bytes)) (own.buffer == b) (begin_place own.buffer (length bytes)),
    )

first-spare : (own : Filling) (x : SpareOwn) (xs : List SpareOwn) (c : Bool) → (c ≡ true → x.own ≡ own)
    → (c ≡ false → Contains (map (λ (s : SpareOwn). s.own) xs) own) → Contains (map (λ (s : SpareOwn). s.own) (x ∷ xs)) own
first-spare own x xs true is rest = (0, omega arith, is refl)
first-spare own x xs false is rest = let (k, there, e) = rest refl in (suc k, omega arith, e)

-- a spare that was filled is there
has-spare : (own : Filling) (xs : List SpareOwn) → nat_lt 0 (length (at_first (λ (s : SpareOwn). same_filling own s.own) (λ s. s.bytes) [] xs)) ≡ true
    → Contains (map (λ (s : SpareOwn). s.own) xs) own
has-spare own [] some = absurd (let no : ⊥ = cc in no)
has-spare own (x ∷ xs) some =
    first-spare own x xs (same_filling own x.own) (same_filling-is own x.own) (λ no. has-spare own xs (rw no at some))

-- a filled spare that is lent stays where it lies
pub app_places-lent_own : (b : ℕ) (test : Place → Bool) (nic : NicSide) (app : AppSide) (own : Filling)
    → nat_lt 0 (length (own_bytes app.view own)) ≡ true
    → app_places b test nic (app_at app (lent_own app.view own)) ≡ app_places b test nic app
app_places-lent_own b test nic app own some_bytes =
    let p = begin_place own.buffer (length (own_bytes app.view own)) in
    omega (
      arith,
      app_places-then (lends_own own) b test nic app (has-spare own app.view.owns some_bytes),
      ap (λ c. here b own.buffer (tally test (if c then p ∷ [] else []))) some_bytes,
    )

-- ---- a placing in its two parts

-- a piece in the making has its place
pub places-begun : (b : ℕ) (test : Place → Bool) (nic : NicSide) (apps : List AppSide) (own : Filling) (n : ℕ) (bytes : List ℕ)
    → nic.inside.making ≡ None
    → tally test (places_of b (making_at nic (begun nic.view own n) (Some (record { place = next_place own n; bytes = bytes }))) apps)
    ≡ tally test (places_of b nic apps) + one_if (in_buffer b test (next_place own n))
places-begun b test nic apps own n bytes idle =
    let now = making_at nic (begun nic.view own n) (Some (record { place = next_place own n; bytes = bytes })) in
    let same : total (app_places b test now) apps ≡ total (app_places b test nic) apps = refl in
    let none : tally (in_buffer b test) (making_places nic.inside.making) ≡ 0 = rw idle refl in
    omega (arith, places-parts b test now apps, places-parts b test nic apps, none)

-- and keeps it when its text is complete
pub places-text_done : (b : ℕ) (test : Place → Bool) (nic : NicSide) (apps : List AppSide) (own : Filling) (bytes : List ℕ) (making : Making)
    → nic.inside.making ≡ Some making → making.place ≡ next_place own (length bytes)
    → tally test (places_of b (making_at nic (text_done nic.view own bytes) None) apps) ≡ tally test (places_of b nic apps)
places-text_done b test nic apps own bytes making busy place =
    let now = making_at nic (text_done nic.view own bytes) None in
    let same : total (app_places b test now) apps ≡ total (app_places b test nic) apps = refl in
    let one : tally (in_buffer b test) (making_places nic.inside.making)
    ≡ one_if (in_buffer b test (next_place own (length bytes))) + 0 = rw (busy, place) refl in
    omega (
      arith,
      places-parts b test now apps,
      places-parts b test nic apps,
      one,
      tally-push (λ (p : PlacedText). in_buffer b test p.place) nic.view.pieces (record { place = next_place own (length bytes); bytes = bytes }),
    )

-- ---- what a board is in the middle of

-- Where the stretch of what is owed and returning begins no earlier, no place comes: a user count or a pool count is lowered
-- for an entry in hand or for a scrub, or an entry in hand is done.
pub app_places-stretch : (b : ℕ) (test : Place → Bool) (nic nic' : NicSide) (app : AppSide) (inside : AppInside) → nic'.view.sent ≡ nic.view.sent
    → returning_count b nic app ≤ ended_in b nic app
    → returning_count b nic' (record app { inside = inside }) ≤ ended_in b nic' (record app { inside = inside })
    → ended_in b nic app + returning_count b nic' (record app { inside = inside })
    ≤ ended_in b nic' (record app { inside = inside }) + returning_count b nic app
    → app_places b test nic' (record app { inside = inside }) ≤ app_places b test nic app
app_places-stretch b test nic nic' app inside sents small small' later =
    let now : AppSide = record app { inside = inside } in
    let h = ended_in b nic app in
    let r = returning_count b nic app in
    let h' = ended_in b nic' now in
    let r' = returning_count b nic' now in
    let ps = returned_in b app in
    let way : way_places b test nic' now ≡ way_places b test nic app = rw sents refl in
    let further_on : h' - r' ≡ (h' - r' - (h - r)) + (h - r) = omega arith in
    omega (
      arith,
      way,
      ended-stretch test h r ps small,
      ended-stretch test h' r' ps small',
      ap (λ k. tally test (drop k ps)) further_on,
      drop-fewer test (h' - r' - (h - r)) (h - r) ps,
    )

-- so it is for all applications, where the card's side changes
pub places-stretch : (b : ℕ) (test : Place → Bool) (nic nic' : NicSide) (apps : List AppSide) → nic'.view.sent ≡ nic.view.sent
    → nic'.view.pieces ≡ nic.view.pieces → nic'.inside.making ≡ nic.inside.making
    → ((app : AppSide) → Contains apps app → returning_count b nic app ≤ ended_in b nic app)
    → ((app : AppSide) → Contains apps app → returning_count b nic' app ≤ ended_in b nic' app)
    → ((app : AppSide) → Contains apps app → ended_in b nic app + returning_count b nic' app ≤ ended_in b nic' app + returning_count b nic app)
    → tally test (places_of b nic' apps) ≤ tally test (places_of b nic apps)
places-stretch b test nic nic' apps sents pieces making small small' later =
    let same : piece_places b test nic' ≡ piece_places b test nic = rw (pieces, making) refl in
    let fewer = total-le (app_places b test nic') (app_places b test nic) apps
    (λ app has. app_places-stretch b test nic nic' app app.inside sents (small app has) (small' app has) (later app has)) in
    omega (arith, places-parts b test nic' apps, places-parts b test nic apps, same, fewer)

-- an entry that is honoured adds no place
pub places-honoured : (b : ℕ) (test : Place → Bool) (nic : NicSide) (apps : List AppSide) (a buffer : ℕ) (entry : Rqe)
    → ((app : AppSide) → Contains apps app → returning_count b nic app ≤ ended_in b nic app)
    → tally test (places_of b (nic_at nic (honoured nic.view a entry buffer)) apps) ≤ tally test (places_of b nic apps)
places-honoured b test nic apps a buffer entry small =
    places-stretch b test nic (nic_at nic (honoured nic.view a entry buffer)) apps refl refl refl small
    (λ app has. omega (arith, small app has, ended_in-honoured b nic app a buffer entry))
    (λ app has. omega (arith, ended_in-honoured b nic app a buffer entry))

-- nor does a stray
pub places-passed_over : (b : ℕ) (test : Place → Bool) (nic : NicSide) (apps : List AppSide) (a : ℕ) (entry : Rqe)
    → ((app : AppSide) → Contains apps app → returning_count b nic app ≤ ended_in b nic app)
    → tally test (places_of b (nic_at nic (passed_over nic.view a entry)) apps) ≤ tally test (places_of b nic apps)
places-passed_over b test nic apps a entry small =
    let now = card-exchange (strays a entry) (sides nic apps) tt (placed_test test) b in
    omega (arith, now, places-weigh b test nic apps, places-weigh b test (nic_at nic (passed_over nic.view a entry)) apps)

-- nor does a scrub
pub app_places-scrubbed : (b w : ℕ) (test : Place → Bool) (nic : NicSide) (app : AppSide) (took : List ℕ)
    → slice_index took b ≡ slice_index app.inside.scrub_took b + w → returning_count b nic app ≤ ended_in b nic app
    → app_places b test nic (scrubbed_side app took) ≤ app_places b test nic app
app_places-scrubbed b w test nic app took takes small =
    app_places-stretch b test nic nic app (record app.inside { scrub_took = took }) refl small (omega (arith, takes, small)) (omega (arith, takes))
