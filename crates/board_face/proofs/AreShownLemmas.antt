-- All texts stay shown, and all places as they are to be, under each event.
use Rattle.board_face.{specs.BoardSteps.{AppStep, AppCan, app_view, lends, abandons, polls, polls_linear, releases, gives, spares}, proofs.PlaceTallies.{app_places}}
use Rattle.board_face.specs.Holdings.{app_ends, app_begins, weight_in as weights}
use Rattle.board_face.proofs.PlaceTallies.{placed as placed_test}
use Rattle.zr_kinds.{proofs.Booleans.{if-none}, specs.declared.{place.{Place.{Place}, Note.{Note}}, ring.Rqe.{Rqe}}}
use Rattle.std.specs.Prelude.{◌==◌}
use Rattle.board_face.proofs.{PlacesByEvent.{places-honoured, places-passed_over, app_places-scrubbed}, ArePlacedLemmas.{ArePlaced-card, ArePlaced-app, ArePlaced-by}}
use Rattle.std.proofs.Common.{◌≡◌, ℕ, ◌+◌, ◌<◌, ◌≤◌, Bool, true, false, List, [], ◌∷◌, ◌++◌, length, get_or, set, refl, sym, ◌∙◌, subst, ⊎_elim, arith}
use Rattle.std.{specs.Prelude.{◌==◌, ◌&&◌, count_by, All, slice_index, Contains, Some, None}, proofs.lemmas.Bool.{false≢true, Decides.{eqb_tells}}}
use Rattle.std.proofs.lemmas.List.{get_or-set_same, set-set, length-set, Elements.{All-get_or, All-set, All-push, Contains-get_or, All-contains}}
use Rattle.area_layout.specs.Layout.{IsLayout}
use Rattle.board_face.specs.Tokens.{next_place, filled_by, same_filling}
use Rattle.board_face.specs.NicEvents.{text_done, took, swept, placed, sent, sent_linear, gave_up, shut, passed_over, honoured, text_at}
use Rattle.board_face.specs.AppEvents.{took_note, took_linear, cut, released, lent, abandoned, gave, spare_begun, got_spare, owns_without, filled, begin_place}
use Rattle.board_face.specs.{AppEvents.{lent_own}, NicCalls.{HasOwn, HasPiece}, AppCalls.{HasHeld, HasLoan, HasSpare, IsFilled}}
use Rattle.board_face.specs.{Sides.{nic_at, app_at, IsApp, AreNumbered}, Holders.{sent_to, ended_in, returning_count}, Counts.{pool_count, EndedWereReturned}}
use Rattle.board_face.specs.{Fillings.{IsFilledByOne, FillingsFit}, Places.{places_of, ends_behind, ArePlaced}, Shown.{IsShown, CardIsShown, AppIsShown, AreShown}}
use Rattle.board_face.specs.declared.views.{parts.{Filling.{Filling}, Making.{Making}}, nic.{SentNote.{SentNote}, NicView.{NicView}, NicSide.{NicSide}}}
use Rattle.board_face.{specs.declared.views.app.{SpareOwn.{SpareOwn}, AppView.{AppView}, AppSide.{AppSide}}, proofs.{ListLemmas.{All-without}, Tallies.{one_if}}}
use Rattle.board_face.proofs.{NicLemmas.{making_at, ended_in-honoured, ended_in-passed_over}, AppLemmas.{SameHoldings, scrubbed_side}}
use Rattle.board_face.proofs.TextsByEvent.{CardIsShown-placed, CardIsShown-sent, CardIsShown-same, IsShown-text_at, AppIsShown-nic, AppIsShown-sent_other}
use Rattle.board_face.proofs.TextsByEvent.{AppIsShown-sent, AppIsShown-dealt, AppIsShown-took_note, AppIsShown-took_linear, AppIsShown-cut, AppIsShown-released}
use Rattle.board_face.proofs.TextsByEvent.{AppIsShown-lent, AppIsShown-abandoned, AppIsShown-got_spare, AppIsShown-lent_own, AppIsShown-scrubbed}
use Rattle.board_face.proofs.TextsByEvent.{AppIsShown-same, CardIsShown-text_done, AppIsShown-text_done}
use Rattle.board_face.proofs.ArePlacedLemmas.{less_spare, spare-free, places-none, ArePlaced-nic, ArePlaced-took, ArePlaced-shut, ArePlaced-sent}
use Rattle.board_face.proofs.ArePlacedLemmas.{ArePlaced-sent_linear, ArePlaced-placed, ArePlaced-text_done, ArePlaced-cut, ArePlaced-filled, ArePlaced-lent_own}
use Rattle.board_face.{proofs.StoresAtLemmas.{StoresAt, HasNoText, HasNoText-behind, CardIsShown-stored_at, AppsAreShown-stored_at}, specs.Laws.{IsNextNote}}

All-in : {A : Type 0} (P Q : A → Type 0) (xs : List A) → ((x : A) → Contains xs x → P x → Q x) → All P xs → All Q xs
All-in P Q xs each all k d small = each (get_or xs k d) (Contains-get_or xs k d small) (all k d small)

-- ---- a spare's buffer has no text but its own

pub HasNoText-spare : (nic : NicSide) (apps : List AppSide) (a : ℕ) (app : AppSide) (own : Filling) (n : ℕ) → IsApp apps a app → HasSpare app.view own
    → IsFilledByOne own.buffer nic apps → HasNoText nic (set apps a (less_spare app own)) (begin_place own.buffer n)
HasNoText-spare nic apps a app own n here out by_one =
    let less = set apps a (less_spare app own) in
    HasNoText-behind nic less (begin_place own.buffer n) (places-none own.buffer (ends_behind 0) nic less
    (spare-free own.buffer nic apps a app own here out by_one refl))

-- where the card fills a buffer next, no text lies
pub HasNoText-own : (nic : NicSide) (apps : List AppSide) (own : Filling) (n : ℕ) → HasOwn nic.view own → ArePlaced own.buffer nic apps
    → HasNoText nic apps (next_place own n)
HasNoText-own nic apps own n out sound =
    HasNoText-behind nic apps (next_place own n) (All-contains
    (λ (o : Filling). o.buffer ≡ own.buffer → count_by (ends_behind o.start) (places_of own.buffer nic apps)
    ≡ 0) nic.view.owns own sound.behind out refl)

module _ (byte : ℕ → ℕ → ℕ) where
  -- ---- bytes that are stored where no text lies

  pub AreShown-stored_at : (byte' : ℕ → ℕ → ℕ) (nic : NicSide) (apps : List AppSide) (p : Place) → StoresAt byte byte' p → HasNoText nic apps p
      → AreShown byte nic apps → AreShown byte' nic apps
  AreShown-stored_at byte' nic apps p stores none shown = assumption (CardIsShown-stored_at byte byte' p stores nic apps none shown.card, AppsAreShown-stored_at byte byte' p stores nic apps none shown.apps)

  -- ---- the card's events

  -- what is left of the texts of each side, and of the places, is left of all
  pub AreShown-from_nic : (nic nic' : NicSide) (apps : List AppSide) → (CardIsShown byte nic → CardIsShown byte nic')
      → ((app : AppSide) → Contains apps app → AppIsShown byte nic app → AppIsShown byte nic' app)
      → ((b : ℕ) → ArePlaced b nic apps → ArePlaced b nic' apps)
      → AreShown byte nic apps → AreShown byte nic' apps
  AreShown-from_nic nic nic' apps card each places shown = record {
    card = card shown.card;
    apps = All-in (AppIsShown byte nic) (AppIsShown byte nic') apps each shown.apps;
    places = λ b. places b (shown.places b);
  }

  -- an event that touches neither buffers for filling, pieces and notes nor entries
  pub AreShown-nic : (nic : NicSide) (v : NicView) (apps : List AppSide) → v.setting ≡ nic.view.setting → v.owns ≡ nic.view.owns
      → v.pieces ≡ nic.view.pieces → v.sent ≡ nic.view.sent → v.dealt ≡ nic.view.dealt
      → AreShown byte nic apps → AreShown byte (nic_at nic v) apps
  AreShown-nic nic v apps setting owns pieces sents deals shown =
      AreShown-from_nic nic (nic_at nic v) apps (CardIsShown-same byte nic v pieces) (λ app _. AppIsShown-nic byte nic v app sents deals)
      (λ b. ArePlaced-nic b nic apps v setting owns pieces sents deals) shown

  pub AreShown-swept : (nic : NicSide) (apps : List AppSide) (word : ℕ) (found : List ℕ) → AreShown byte nic apps
      → AreShown byte (nic_at nic (swept nic.view word found)) apps
  AreShown-swept nic apps word found shown = AreShown-nic nic (swept nic.view word found) apps refl refl refl refl refl shown

  pub AreShown-gave_up : (nic : NicSide) (apps : List AppSide) (buffer : ℕ) (last : Bool) → AreShown byte nic apps
      → AreShown byte (nic_at nic (gave_up nic.view buffer last)) apps
  AreShown-gave_up nic apps buffer last shown = AreShown-nic nic (gave_up nic.view buffer last) apps refl refl refl refl refl shown

  pub AreShown-took : (nic : NicSide) (apps : List AppSide) (buffer : ℕ) → pool_count buffer nic apps ≡ 0 → AreShown byte nic apps
      → AreShown byte (nic_at nic (took nic.view buffer)) apps
  AreShown-took nic apps buffer free shown =
      let v = took nic.view buffer in
      AreShown-from_nic nic (nic_at nic v) apps (CardIsShown-same byte nic v refl) (λ app _. AppIsShown-nic byte nic v app refl refl)
      (λ b. ArePlaced-took b nic apps buffer free) shown

  pub AreShown-shut : (nic : NicSide) (apps : List AppSide) (own : Filling) (last : Bool) → AreShown byte nic apps
      → AreShown byte (nic_at nic (shut nic.view own last)) apps
  AreShown-shut nic apps own last shown =
      let v = shut nic.view own last in
      AreShown-from_nic nic (nic_at nic v) apps (CardIsShown-same byte nic v refl) (λ app _. AppIsShown-nic byte nic v app refl refl)
      (λ b. ArePlaced-shut b nic apps own last) shown

  -- a text is placed, whose bytes were stored where the buffer's next bytes go
  pub AreShown-placed : (byte' : ℕ → ℕ → ℕ) (nic : NicSide) (apps : List AppSide) (own : Filling) (bytes : List ℕ)
      → StoresAt byte byte' (next_place own (length bytes)) → IsShown byte' (next_place own (length bytes)) bytes → HasOwn nic.view own
      → 0 < length bytes
      → own.start + length bytes ≤ own.size → FillingsFit nic apps → ((b : ℕ) → IsFilledByOne b nic apps) → AreShown byte nic apps
      → AreShown byte' (nic_at nic (placed nic.view own bytes)) apps
  AreShown-placed byte' nic apps own bytes stores new out some_bytes within fit by_one shown =
      let p = next_place own (length bytes) in
      let none = HasNoText-own nic apps own (length bytes) out (shown.places own.buffer) in
      let v = placed nic.view own bytes in
      record {
        card = CardIsShown-placed byte' nic own bytes new (CardIsShown-stored_at byte byte' p stores nic apps none shown.card);
        apps = All-in (AppIsShown byte' nic) (AppIsShown byte' (nic_at nic v)) apps (λ app _. AppIsShown-nic byte' nic v app refl refl)
            (AppsAreShown-stored_at byte byte' p stores nic apps none shown.apps);
        places = λ b. ArePlaced-placed b nic apps own bytes out some_bytes within fit (by_one b) (shown.places b);
      }

  pub AreShown-text_done : (nic : NicSide) (apps : List AppSide) (own : Filling) (bytes : List ℕ) (making : Making) → nic.inside.making ≡ Some making
      → making.place ≡ next_place own (length bytes) → IsShown byte (next_place own (length bytes)) bytes
      → AreShown byte nic apps → AreShown byte (making_at nic (text_done nic.view own bytes) None) apps
  AreShown-text_done nic apps own bytes making busy place new shown =
      AreShown-from_nic nic (making_at nic (text_done nic.view own bytes) None) apps (CardIsShown-text_done byte nic own bytes None new)
      (λ app _. AppIsShown-text_done byte nic own bytes None app) (λ b. ArePlaced-text_done b nic apps own bytes making busy place) shown

  -- a note is sent; no application has taken more notes than were sent to it
  sent-each : (nic : NicSide) (v : NicView) (s : SentNote) (app : AppSide) → v.sent ≡ nic.view.sent ++ s ∷ [] → v.dealt ≡ nic.view.dealt
      → length app.view.taken ≤ length (sent_to app.view.app nic) → (s.note.split ≡ true → IsShown byte s.note.place s.bytes)
      → AppIsShown byte nic app → AppIsShown byte (nic_at nic v) app
  sent-each nic v s app sents deals within new shown =
      ⊎_elim
      (λ t. AppIsShown-sent byte nic v app s sents deals t.1 within new shown)
      (λ t. AppIsShown-sent_other byte nic v app s sents deals t.1 shown)
      (eqb_tells s.app app.view.app)

  pub AreShown-sent : (nic : NicSide) (apps : List AppSide) (a : ℕ) (note : Note) (app : AppSide) → HasPiece nic.view note.place → note.split ≡ true
      → AreNumbered 0 apps → IsApp apps a app → ((x : AppSide) → Contains apps x → length x.view.taken ≤ length (sent_to x.view.app nic))
      → AreShown byte nic apps → AreShown byte (nic_at nic (sent nic.view a note)) apps
  AreShown-sent nic apps a note app out split numbered here within shown =
      let s : SentNote = record { app = a; note = note; bytes = text_at nic.view note.place } in
      let v = sent nic.view a note in
      let new = IsShown-text_at byte nic note.place out shown.card in
      let taken = within app (a, here.there, here.is) in
      let mine : length app.view.taken ≤ length (sent_to a nic) = rw here.number at taken in
      AreShown-from_nic nic (nic_at nic v) apps (CardIsShown-sent byte nic a note) (λ x has. sent-each nic v s x refl refl (within x has) (λ _. new))
      (λ b. ArePlaced-sent b nic apps a note app out split numbered here mine) shown

  pub AreShown-sent_linear : (nic : NicSide) (apps : List AppSide) (a : ℕ) (note : Note) (bytes : List ℕ) (app : AppSide) → note.split ≡ false
      → AreNumbered 0 apps → IsApp apps a app → ((x : AppSide) → Contains apps x → length x.view.taken ≤ length (sent_to x.view.app nic))
      → AreShown byte nic apps → AreShown byte (nic_at nic (sent_linear nic.view a note bytes)) apps
  AreShown-sent_linear nic apps a note bytes app split numbered here within shown =
      let s : SentNote = record { app = a; note = note; bytes = bytes } in
      let v = sent_linear nic.view a note bytes in
      let taken = within app (a, here.there, here.is) in
      let mine : length app.view.taken ≤ length (sent_to a nic) = rw here.number at taken in
      AreShown-from_nic nic (nic_at nic v) apps (CardIsShown-same byte nic v refl)
      (λ x has. sent-each nic v s x refl refl (within x has) (λ is. absurd (false≢true (sym split ∙ is))))
      (λ b. ArePlaced-sent_linear b nic apps a note bytes app split numbered here mine) shown

  -- an entry is dealt with
  pub AreShown-honoured : (nic : NicSide) (apps : List AppSide) (a buffer : ℕ) (entry : Rqe)
      → ((b : ℕ) (app : AppSide) → Contains apps app → returning_count b nic app ≤ ended_in b nic app) → AreShown byte nic apps
      → AreShown byte (nic_at nic (honoured nic.view a entry buffer)) apps
  AreShown-honoured nic apps a buffer entry small shown =
      let v = honoured nic.view a entry buffer in
      AreShown-from_nic nic (nic_at nic v) apps (CardIsShown-same byte nic v refl)
      (λ app _. AppIsShown-dealt byte nic v app (λ b. one_if ((a == app.view.app) && (buffer == b))) refl (λ b. ended_in-honoured b nic app a buffer entry))
      (λ b. ArePlaced-card b nic apps (nic_at nic v) refl refl (λ test. places-honoured b test nic apps a buffer entry (small b))) shown

  pub AreShown-passed_over : (nic : NicSide) (apps : List AppSide) (a : ℕ) (entry : Rqe)
      → ((b : ℕ) (app : AppSide) → Contains apps app → returning_count b nic app ≤ ended_in b nic app) → AreShown byte nic apps
      → AreShown byte (nic_at nic (passed_over nic.view a entry)) apps
  AreShown-passed_over nic apps a entry small shown =
      let v = passed_over nic.view a entry in
      AreShown-from_nic nic (nic_at nic v) apps (CardIsShown-same byte nic v refl)
      (λ app _. AppIsShown-dealt byte nic v app (λ b. 0) refl (λ b. omega (arith, ended_in-passed_over b nic a entry app)))
      (λ b. ArePlaced-card b nic apps (nic_at nic v) refl refl (λ test. places-passed_over b test nic apps a entry (small b))) shown

  -- ---- an application's events

  app-shown : (nic : NicSide) (apps : List AppSide) (a : ℕ) (app : AppSide) → IsApp apps a app → All (AppIsShown byte nic) apps
      → AppIsShown byte nic app
  app-shown nic apps a app here shown = subst (AppIsShown byte nic) here.is (All-get_or (AppIsShown byte nic) apps a app here.there shown)

  -- what is left of this application's texts, and of the places, is left of all
  pub AreShown-from_app : (nic : NicSide) (apps : List AppSide) (a : ℕ) (app now : AppSide) → IsApp apps a app
      → (AppIsShown byte nic app → AppIsShown byte nic now) → ((b : ℕ) → ArePlaced b nic apps → ArePlaced b nic (set apps a now))
      → AreShown byte nic apps → AreShown byte nic (set apps a now)
  AreShown-from_app nic apps a app now here it places shown = record {
    card = shown.card;
    apps = All-set (AppIsShown byte nic) apps a now (it (app-shown nic apps a app here shown.apps)) shown.apps;
    places = λ b. places b (shown.places b);
  }

  pub AppIsShown-gave : (nic : NicSide) (app : AppSide) (place : Place) → HasLoan app.view place → ((b : ℕ) → EndedWereReturned b nic app)
      → AppIsShown byte nic app → AppIsShown byte nic (app_at app (gave app.view place))
  AppIsShown-gave nic app place out ended shown = let is = AppIsShown-abandoned byte nic app place out ended shown in assumption

  pub AppIsShown-spare_begun : (nic : NicSide) (app : AppSide) (buffer : ℕ) → AppIsShown byte nic app
      → AppIsShown byte nic (app_at app (spare_begun app.view buffer))
  AppIsShown-spare_begun nic app buffer shown = let is = AppIsShown-got_spare byte nic app buffer shown in assumption

module _ (byte : ℕ → ℕ → ℕ) (nic : NicSide) (apps : List AppSide) (a : ℕ) (app : AppSide) where
  -- it stays so where the application's side is this
  abbrev pub SideStays : AppSide → Type 0
  SideStays now = AreShown byte nic apps → AreShown byte nic (set apps a now)

  -- a step by which no place comes
  shown-by : (step : AppStep) → IsApp apps a app → AppCan step nic app
      → ((b : ℕ) (test : Place → Bool) → weights (placed_test test) b (app_begins app.view.app step app.view)
      ≤ weights (placed_test test) b (app_ends app.view.app step app.view))
      → (AppIsShown byte nic app → AppIsShown byte nic (app_at app (app_view step app.view))) → SideStays (app_at app (app_view step app.view))
  shown-by step here can fewer it =
      AreShown-from_app byte nic apps a app (app_at app (app_view step app.view)) here it (λ b. ArePlaced-by b nic apps a app step here can (fewer b))

  -- an event that touches no holding
  pub AreShown-same : (v : AppView) → IsApp apps a app → SameHoldings app.view v → SideStays (app_at app v)
  AreShown-same v here same =
      AreShown-from_app byte nic apps a app (app_at app v) here (AppIsShown-same byte nic app v same)
      (λ b. ArePlaced-app b nic apps a app (app_at app v) here
      (λ test. let e : app_places b test nic (app_at app v) ≡ app_places b test nic app = rw (same.app, same.taken, same.helds, same.owns, same.loans, same.returned) refl in
      omega (arith, e)))

  pub AreShown-took_note : (note : Note) → IsApp apps a app → IsNextNote nic app note → note.split ≡ true → SideStays (app_at app (took_note app.view note))
  AreShown-took_note note here next split =
      shown-by (polls note) here (split, next) (λ b test. omega arith) (AppIsShown-took_note byte nic app note next split)

  pub AreShown-took_linear : (note : Note) (bytes : List ℕ) → IsApp apps a app → IsNextNote nic app note → note.split ≡ false
      → SideStays (app_at app (took_linear app.view note bytes))
  AreShown-took_linear note bytes here next split =
      shown-by (polls_linear note bytes) here (split, next) (λ b test. omega arith) (AppIsShown-took_linear byte nic app note bytes next)

  pub AreShown-cut : (place : Place) (at : ℕ) → IsApp apps a app → HasHeld app.view place → 0 < at → at < place.len
      → SideStays (app_at app (cut app.view place at))
  AreShown-cut place at here out front rest =
      AreShown-from_app byte nic apps a app (app_at app (cut app.view place at)) here (AppIsShown-cut byte nic app place at out (omega arith))
      (λ b. ArePlaced-cut b nic apps a app place at here out front rest)

  pub AreShown-released : (place : Place) → IsApp apps a app → HasHeld app.view place → SideStays (app_at app (released app.view place))
  AreShown-released place here out = shown-by (releases place) here out (λ b test. omega arith) (AppIsShown-released byte nic app place)

  pub AreShown-lent : (place : Place) → IsApp apps a app → HasHeld app.view place → SideStays (app_at app (lent app.view place))
  AreShown-lent place here out = shown-by (lends place) here out (λ b test. omega arith) (AppIsShown-lent byte nic app place out)

  pub AreShown-abandoned : (place : Place) → IsApp apps a app → HasLoan app.view place → ((b : ℕ) → EndedWereReturned b nic app)
      → SideStays (app_at app (abandoned app.view place))
  AreShown-abandoned place here out ended =
      shown-by (abandons place) here (out, ended) (λ b test. omega arith) (AppIsShown-abandoned byte nic app place out ended)

  pub AreShown-gave : (place : Place) → IsApp apps a app → HasLoan app.view place → ((b : ℕ) → EndedWereReturned b nic app)
      → SideStays (app_at app (gave app.view place))
  AreShown-gave place here out ended = shown-by (gives place) here (out, ended) (λ b test. omega arith) (AppIsShown-gave byte nic app place out ended)

  pub AreShown-got_spare : (buffer : ℕ) → IsApp apps a app → SideStays (app_at app (got_spare app.view buffer))
  AreShown-got_spare buffer here =
      shown-by (spares buffer) here tt (λ b test. omega (arith, if-none (buffer == b) 0 refl)) (AppIsShown-got_spare byte nic app buffer)

  pub AreShown-lent_own : (own : Filling) → IsApp apps a app → HasSpare app.view own → IsFilled app.view own → SideStays (app_at app (lent_own app.view own))
  AreShown-lent_own own here out some_bytes =
      AreShown-from_app byte nic apps a app (app_at app (lent_own app.view own)) here (AppIsShown-lent_own byte nic app own out)
      (λ b. ArePlaced-lent_own b nic apps a app own here some_bytes)

  pub AreShown-scrubbed : (took : List ℕ) (w : ℕ → ℕ) → IsApp apps a app → ((b : ℕ) → slice_index took b ≡ slice_index app.inside.scrub_took b + w b)
      → ((b : ℕ) → returning_count b nic app ≤ ended_in b nic app) → SideStays (scrubbed_side app took)
  AreShown-scrubbed took w here takes small =
      AreShown-from_app byte nic apps a app (scrubbed_side app took) here (AppIsShown-scrubbed byte nic app took w (λ b. omega (arith, takes b)))
      (λ b. ArePlaced-app b nic apps a app (scrubbed_side app took) here (λ test. app_places-scrubbed b (w b) test nic app took (takes b) (small b)))

-- ---- a spare is filled, whose bytes were stored at its begin

module _ (byte byte' : ℕ → ℕ → ℕ) where
  less-shown : (nic : NicSide) (app : AppSide) (own : Filling) → AppIsShown byte nic app → AppIsShown byte nic (less_spare app own)
  less-shown nic app own shown = assumption (All-without (λ (s : SpareOwn). IsShown byte (begin_place s.own.buffer (length s.bytes)) s.bytes) (λ (s : SpareOwn). same_filling own s.own) app.view.owns shown.spares)

  full-shown : (nic : NicSide) (app : AppSide) (own : Filling) (bytes : List ℕ) → IsShown byte' (begin_place own.buffer (length bytes)) bytes
      → AppIsShown byte' nic (less_spare app own) → AppIsShown byte' nic (app_at app (filled app.view own bytes))
  full-shown nic app own bytes new shown = assumption (All-push (λ (s : SpareOwn). IsShown byte' (begin_place s.own.buffer (length s.bytes)) s.bytes) (owns_without app.view own) (record { own = filled_by own (length bytes); bytes = bytes }) shown.spares new)

  pub AreShown-filled : (nic : NicSide) (apps : List AppSide) (a : ℕ) (app : AppSide) (own : Filling) (bytes : List ℕ)
      → StoresAt byte byte' (begin_place own.buffer (length bytes)) → IsShown byte' (begin_place own.buffer (length bytes)) bytes → IsApp apps a app
      → HasSpare app.view own
      → own.start ≡ 0 → 0 < length bytes → length bytes ≤ 256 → IsLayout nic.view.setting.layout → FillingsFit nic apps
      → ((b : ℕ) → IsFilledByOne b nic apps) → AreShown byte nic apps
      → AreShown byte' nic (set apps a (app_at app (filled app.view own bytes)))
  AreShown-filled nic apps a app own bytes stores new here out begin some_bytes few layout fit by_one shown =
      let p = begin_place own.buffer (length bytes) in
      let less = less_spare app own in
      let now = app_at app (filled app.view own bytes) in
      let none = HasNoText-spare nic apps a app own (length bytes) here out (by_one own.buffer) in
      let was = All-set (AppIsShown byte nic) apps a less (less-shown nic app own (app-shown byte nic apps a app here shown.apps)) shown.apps in
      let kept = AppsAreShown-stored_at byte byte' p stores nic (set apps a less) none was in
      let mine : AppIsShown byte' nic less = subst (AppIsShown byte' nic) (get_or-set_same apps a less less here.there)
      (All-get_or (AppIsShown byte' nic) (set apps a less) a less (omega (arith, length-set apps a less, here.there)) kept) in
      record {
        card = CardIsShown-stored_at byte byte' p stores nic (set apps a less) none shown.card;
        apps = subst (All (AppIsShown byte' nic)) (set-set apps a less now)
            (All-set (AppIsShown byte' nic) (set apps a less) a now (full-shown nic app own bytes new mine) kept);
        places = λ b. ArePlaced-filled b nic apps a app own bytes here out begin some_bytes few layout fit (by_one b) (shown.places b);
      }
