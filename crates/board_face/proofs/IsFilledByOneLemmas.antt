-- A buffer is filled by one at most, and a spare's buffer has no other holder: what each event leaves of that.
use Rattle.board_face.{proofs.FillerCounts.{owns_in-filled}, specs.Tokens.{next_place}}
use Rattle.board_face.proofs.AppLemmas.{owns-without as spares-without}
use Rattle.std.proofs.Common.{◌≡◌, ℕ, ◌+◌, ◌<◌, ◌≤◌, Bool, true, false, List, [], ◌∷◌, length, set, refl, ap, subst, ⊎_elim, arith}
use Rattle.std.{specs.Prelude.{◌==◌, All, slice_index, Some, None}, proofs.lemmas.Bool.{eq-eqb, cases_lt, Decides.{eqb_tells}}}
use Rattle.std.proofs.lemmas.List.Elements.{All-nil, All-cons, All-head, All-tail}
use Rattle.zr_kinds.specs.declared.{place.{Place.{Place}, Note.{Note}}, ring.Rqe.{Rqe}}
use Rattle.area_layout.specs.Layout.{all_buffers}
use Rattle.board_face.specs.NicEvents.{begun, text_done, took, swept, placed, sent, sent_linear, gave_up, shut, passed_over, honoured}
use Rattle.board_face.specs.{AppEvents.{took_note, took_linear, cut, released, lent, abandoned, gave, got_spare, filled, lent_own}, NicCalls.{HasOwn, HasPiece}}
use Rattle.board_face.specs.{AppCalls.{HasHeld, HasLoan, HasSpare}, Sides.{nic_at, app_at, IsApp, AreNumbered}, Holders.{sent_to, holders_of}}
use Rattle.board_face.specs.{Counts.{pool_count, EndedWereReturned}, Fillings.{is_filling, IsFilledByOne}, declared.views.parts.{Filling.{Filling}, Making.{Making}}}
use Rattle.board_face.specs.declared.views.{nic.{NicView.{NicView}, NicSide.{NicSide}}, app.{SpareOwn.{SpareOwn}, AppView.{AppView}, AppSide.{AppSide}}}
use Rattle.board_face.proofs.{Tallies.{one_if, tally, total, tally-le, total-set}, Parts.{owns_in, pieces_in, spares_in, app_count, owed_count, count-tally}}
use Rattle.board_face.proofs.NicLemmas.{Owes, making_at, owns-without, pool_count-nic, pool_count-took, pool_count-placed, pool_count-shut, pool_count-sent}
use Rattle.board_face.proofs.NicLemmas.{pool_count-sent_linear, pool_count-honoured, pool_count-passed_over, pool_count-begun, pool_count-text_done}
use Rattle.board_face.proofs.AppLemmas.{SameHoldings, scrubbed_side, pool_count-app, app_count-same, app_count-took_note, app_count-took_linear}
use Rattle.board_face.proofs.AppLemmas.{app_count-cut, app_count-released, app_count-lent, app_count-abandoned, app_count-gave, app_count-got_spare}
use Rattle.board_face.proofs.AppLemmas.{app_count-filled, app_count-lent_own, app_count-scrubbed}
use Rattle.board_face.{proofs.FillerCounts.{fillings-parts, owns_in-took, spares_in-got_spare, spares_in-filled}, specs.Laws.{IsNextNote}}

-- ---- the same by numbers

inner-from : (b : ℕ) (P : Type 0) (xs : List SpareOwn) → (0 < tally (λ s. s.own.buffer == b) xs → P) → All (λ s. s.own.buffer ≡ b → P) xs
inner-from b P [] if_some = All-nil (λ s. s.own.buffer ≡ b → P)
inner-from b P (s ∷ xs) if_some =
    All-cons (λ s. s.own.buffer ≡ b → P) s xs
    (λ e. if_some (omega (arith, ap one_if (eq-eqb s.own.buffer b e))))
    (inner-from b P xs (λ more. if_some (omega arith)))

inner-to : (b : ℕ) (P : Type 0) (xs : List SpareOwn) → All (λ s. s.own.buffer ≡ b → P) xs → 0 < tally (λ s. s.own.buffer == b) xs → P
inner-to b P [] all more = absurd (omega arith)
inner-to b P (s ∷ xs) all more =
    ⊎_elim
    (λ t. All-head (λ s. s.own.buffer ≡ b → P) s xs all t.1)
    (λ t. inner-to b P xs (All-tail (λ s. s.own.buffer ≡ b → P) s xs all) (let none : one_if (s.own.buffer == b) ≡ 0 = ap one_if t.0 in omega arith))
    (eqb_tells s.own.buffer b)

outer-from : (b : ℕ) (P : Type 0) (apps : List AppSide) → (0 < total (spares_in b) apps → P)
    → All (λ app. All (λ s. s.own.buffer ≡ b → P) app.view.owns) apps
outer-from b P [] if_some = All-nil (λ app. All (λ s. s.own.buffer ≡ b → P) app.view.owns)
outer-from b P (app ∷ apps) if_some =
    All-cons (λ app. All (λ s. s.own.buffer ≡ b → P) app.view.owns) app apps
    (inner-from b P app.view.owns (λ more. if_some (omega arith)))
    (outer-from b P apps (λ more. if_some (omega arith)))

outer-to : (b : ℕ) (P : Type 0) (apps : List AppSide) → All (λ app. All (λ s. s.own.buffer ≡ b → P) app.view.owns) apps
    → 0 < total (spares_in b) apps → P
outer-to b P [] all more = absurd (omega arith)
outer-to b P (app ∷ apps) all more =
    ⊎_elim
    (λ here. inner-to b P app.view.owns (All-head (λ app. All (λ s. s.own.buffer ≡ b → P) app.view.owns) app apps all) here)
    (λ none. outer-to b P apps (All-tail (λ app. All (λ s. s.own.buffer ≡ b → P) app.view.owns) app apps all) (omega arith))
    (cases_lt 0 (spares_in b app))

-- who fills a buffer is one of its holders
pub fillings-held : (b : ℕ) (nic : NicSide) (apps : List AppSide) → owns_in b nic + total (spares_in b) apps ≤ pool_count b nic apps
fillings-held b nic apps = omega (arith, fillings-parts b nic apps, count-tally is_filling (holders_of b nic apps), tally-le is_filling (holders_of b nic apps))

-- at most one fills a buffer
pub fillings-one : (b : ℕ) (nic : NicSide) (apps : List AppSide) → IsFilledByOne b nic apps → owns_in b nic + total (spares_in b) apps ≤ 1
fillings-one b nic apps sound = omega (arith, fillings-parts b nic apps, sound.one)

-- a buffer in which there is a spare has no other holder
pub fillings-alone : (b : ℕ) (nic : NicSide) (apps : List AppSide) → IsFilledByOne b nic apps → 0 < total (spares_in b) apps
    → pool_count b nic apps ≡ 1
fillings-alone b nic apps sound = outer-to b (pool_count b nic apps ≡ 1) apps sound.alone

-- and so it is by these numbers alone
pub IsFilledByOne-from : (b : ℕ) (nic : NicSide) (apps : List AppSide) → owns_in b nic + total (spares_in b) apps ≤ 1
    → (0 < total (spares_in b) apps → pool_count b nic apps ≡ 1) → (all_buffers nic.view.setting.layout ≤ b → pool_count b nic apps ≡ 0)
    → IsFilledByOne b nic apps
IsFilledByOne-from b nic apps one alone inside = record {
  one = omega (arith, fillings-parts b nic apps, one);
  alone = outer-from b (pool_count b nic apps ≡ 1) apps alone;
  inside = inside;
}

-- where neither who fills nor who holds comes, it stays so
pub IsFilledByOne-fewer : (b : ℕ) (nic nic' : NicSide) (apps apps' : List AppSide) → nic'.view.setting ≡ nic.view.setting
    → owns_in b nic' ≤ owns_in b nic → total (spares_in b) apps' ≤ total (spares_in b) apps → pool_count b nic' apps' ≤ pool_count b nic apps
    → IsFilledByOne b nic apps → IsFilledByOne b nic' apps'
IsFilledByOne-fewer b nic nic' apps apps' same owns spares holders sound =
    IsFilledByOne-from b nic' apps'
    (omega (arith, fillings-one b nic apps sound))
    (λ more. let was = fillings-alone b nic apps sound (omega arith) in omega (arith, was, fillings-held b nic' apps'))
    (λ past. let past_before : all_buffers nic.view.setting.layout ≤ b = rw same at past in let was = sound.inside past_before in omega (arith, was))

-- ---- the card's events

module _ (b : ℕ) (nic : NicSide) where
  -- it stays so where the card's side is this
  abbrev pub CardStays : List AppSide → NicSide → Type 0
  CardStays apps now = IsFilledByOne b nic apps → IsFilledByOne b now apps

  -- an event that touches neither the buffers for filling nor the pieces, notes and entries
  pub IsFilledByOne-nic : (v : NicView) (apps : List AppSide) → v.setting ≡ nic.view.setting → v.owns ≡ nic.view.owns
      → v.pieces ≡ nic.view.pieces → v.sent ≡ nic.view.sent → v.dealt ≡ nic.view.dealt → CardStays apps (nic_at nic v)
  IsFilledByOne-nic v apps setting owns pieces sents deals sound =
      let same_owns : owns_in b (nic_at nic v) ≡ owns_in b nic = rw owns refl in
      let same_pieces : pieces_in b (nic_at nic v) ≡ pieces_in b nic = rw pieces refl in
      IsFilledByOne-fewer b nic (nic_at nic v) apps apps setting (omega (arith, same_owns)) (omega arith)
      (omega (arith, same_owns, same_pieces, pool_count-nic b nic v apps sents deals)) sound

module _ (b : ℕ) (nic : NicSide) (apps : List AppSide) where
  pub IsFilledByOne-swept : (word : ℕ) (found : List ℕ) → CardStays b nic apps (nic_at nic (swept nic.view word found))
  IsFilledByOne-swept word found sound = IsFilledByOne-nic b nic (swept nic.view word found) apps refl refl refl refl refl sound

  pub IsFilledByOne-gave_up : (buffer : ℕ) (last : Bool) → CardStays b nic apps (nic_at nic (gave_up nic.view buffer last))
  IsFilledByOne-gave_up buffer last sound = IsFilledByOne-nic b nic (gave_up nic.view buffer last) apps refl refl refl refl refl sound

  -- a buffer is taken that nobody has
  pub IsFilledByOne-took : (buffer : ℕ) → buffer < all_buffers nic.view.setting.layout → pool_count buffer nic apps ≡ 0
      → CardStays b nic apps (nic_at nic (took nic.view buffer))
  IsFilledByOne-took buffer within free sound =
      let now = nic_at nic (took nic.view buffer) in
      let owns = owns_in-took b nic buffer in
      let count = pool_count-took b nic apps buffer in
      let held = fillings-held b nic apps in
      ⊎_elim
      (λ t.
      let here : one_if (buffer == b) ≡ 1 = ap one_if t.0 in
      let none : pool_count b nic apps ≡ 0 = subst (λ c. pool_count c nic apps ≡ 0) t.1 free in
      IsFilledByOne-from b now apps (omega (arith, owns, here, none, held)) (λ more. absurd (omega (arith, none, held)))
      (λ past. absurd (let e = t.1 in omega arith)))
      (λ t.
      let other : one_if (buffer == b) ≡ 0 = ap one_if t.0 in
      IsFilledByOne-fewer b nic now apps apps refl (omega (arith, owns, other)) (omega arith) (omega (arith, count, other)) sound)
      (eqb_tells buffer b)

  -- a buffer has one holder more, which the card fills
  more-held : (own : Filling) (now : NicSide) → HasOwn nic.view own → now.view.setting ≡ nic.view.setting → owns_in b now ≡ owns_in b nic
      → pool_count b now apps ≡ pool_count b nic apps + one_if (own.buffer == b) → CardStays b nic apps now
  more-held own now out same owns count sound =
      let mine = owns-without b nic own out in
      let held = fillings-held b nic apps in
      let one = fillings-one b nic apps sound in
      IsFilledByOne-from b now apps
      (omega arith)
      (λ more. let was = fillings-alone b nic apps sound more in omega arith)
      (λ past. let past_before : all_buffers nic.view.setting.layout ≤ b = rw same at past in let was = sound.inside past_before in omega arith)

  pub IsFilledByOne-placed : (own : Filling) (bytes : List ℕ) → HasOwn nic.view own → CardStays b nic apps (nic_at nic (placed nic.view own bytes))
  IsFilledByOne-placed own bytes out sound =
      more-held own (nic_at nic (placed nic.view own bytes)) out refl (owns_in-filled b nic own (length bytes) out)
      (pool_count-placed b nic apps own bytes out) sound

  -- the two parts of a placing
  pub IsFilledByOne-begun : (own : Filling) (n : ℕ) (bytes : List ℕ) → HasOwn nic.view own → nic.inside.making ≡ None
      → CardStays b nic apps (making_at nic (begun nic.view own n) (Some (record { place = next_place own n; bytes = bytes })))
  IsFilledByOne-begun own n bytes out idle sound =
      more-held own (making_at nic (begun nic.view own n) (Some (record { place = next_place own n; bytes = bytes }))) out refl
      (owns_in-filled b nic own n out) (pool_count-begun b nic apps own n bytes out idle) sound

  pub IsFilledByOne-text_done : (own : Filling) (bytes : List ℕ) (making : Making) → nic.inside.making ≡ Some making
      → making.place ≡ next_place own (length bytes) → CardStays b nic apps (making_at nic (text_done nic.view own bytes) None)
  IsFilledByOne-text_done own bytes making busy place sound =
      IsFilledByOne-fewer b nic (making_at nic (text_done nic.view own bytes) None) apps apps refl (omega arith) (omega arith)
      (omega (arith, pool_count-text_done b nic apps own bytes making busy place)) sound

  pub IsFilledByOne-shut : (own : Filling) (last : Bool) → HasOwn nic.view own → CardStays b nic apps (nic_at nic (shut nic.view own last))
  IsFilledByOne-shut own last out sound =
      IsFilledByOne-fewer b nic (nic_at nic (shut nic.view own last)) apps apps refl (omega (arith, owns-without b nic own out)) (omega arith)
      (omega (arith, pool_count-shut b nic apps own last out)) sound

  -- where neither the card's buffers for filling nor the holders come
  holds-fewer : (v : NicView) → v.setting ≡ nic.view.setting → v.owns ≡ nic.view.owns → pool_count b (nic_at nic v) apps ≤ pool_count b nic apps
      → CardStays b nic apps (nic_at nic v)
  holds-fewer v setting owns holders sound =
      IsFilledByOne-fewer b nic (nic_at nic v) apps apps setting (let same : owns_in b (nic_at nic v) ≡ owns_in b nic = rw owns refl in omega (arith, same))
      (omega arith) holders sound

  pub IsFilledByOne-sent : (a : ℕ) (note : Note) (app : AppSide) → HasPiece nic.view note.place → note.split ≡ true → AreNumbered 0 apps → IsApp apps a app
      → length app.view.taken ≤ length (sent_to a nic) → CardStays b nic apps (nic_at nic (sent nic.view a note))
  IsFilledByOne-sent a note app out split numbered here within sound =
      holds-fewer (sent nic.view a note) refl refl (omega (arith, pool_count-sent b nic apps a note app out split numbered here within)) sound

  pub IsFilledByOne-sent_linear : (a : ℕ) (note : Note) (bytes : List ℕ) (app : AppSide) → note.split ≡ false → AreNumbered 0 apps → IsApp apps a app
      → length app.view.taken ≤ length (sent_to a nic) → CardStays b nic apps (nic_at nic (sent_linear nic.view a note bytes))
  IsFilledByOne-sent_linear a note bytes app split numbered here within sound =
      holds-fewer (sent_linear nic.view a note bytes) refl refl
      (omega (arith, pool_count-sent_linear b nic apps a note bytes app split numbered here within)) sound

  pub IsFilledByOne-honoured : (a buffer : ℕ) (entry : Rqe) (app : AppSide) → AreNumbered 0 apps → IsApp apps a app → Owes buffer nic app
      → CardStays b nic apps (nic_at nic (honoured nic.view a entry buffer))
  IsFilledByOne-honoured a buffer entry app numbered here owes sound =
      holds-fewer (honoured nic.view a entry buffer) refl refl (omega (arith, pool_count-honoured b nic apps a buffer entry app numbered here owes)) sound

  pub IsFilledByOne-passed_over : (a : ℕ) (entry : Rqe) → CardStays b nic apps (nic_at nic (passed_over nic.view a entry))
  IsFilledByOne-passed_over a entry sound =
      holds-fewer (passed_over nic.view a entry) refl refl (omega (arith, pool_count-passed_over b nic apps a entry)) sound

-- ---- an application's events

module _ (b : ℕ) (nic : NicSide) (apps : List AppSide) (a : ℕ) (app : AppSide) where
  -- it stays so where the application's side is this
  abbrev pub SideStays : AppSide → Type 0
  SideStays now = IsFilledByOne b nic apps → IsFilledByOne b nic (set apps a now)

  -- an event by which this application's part comes to no more
  pub IsFilledByOne-app : (now : AppSide) → IsApp apps a app → spares_in b now ≤ spares_in b app → app_count b nic now ≤ app_count b nic app → SideStays now
  IsFilledByOne-app now here spares count sound =
      IsFilledByOne-fewer b nic nic apps (set apps a now) refl (omega arith) (omega (arith, total-set (spares_in b) apps a app now here.there here.is))
      (omega (arith, pool_count-app b nic apps a app now here)) sound

  -- an event that touches no holding
  pub IsFilledByOne-same : (v : AppView) → IsApp apps a app → SameHoldings app.view v → SideStays (app_at app v)
  IsFilledByOne-same v here same sound =
      let spares : spares_in b (app_at app v) ≡ spares_in b app = rw same.owns refl in
      IsFilledByOne-app (app_at app v) here (omega (arith, spares)) (omega (arith, app_count-same b nic app v same)) sound

  pub IsFilledByOne-took_note : (note : Note) → IsApp apps a app → IsNextNote nic app note → note.split ≡ true → SideStays (app_at app (took_note app.view note))
  IsFilledByOne-took_note note here next split sound =
      IsFilledByOne-app (app_at app (took_note app.view note)) here (omega arith) (omega (arith, app_count-took_note b nic app note next split)) sound

  pub IsFilledByOne-took_linear : (note : Note) (bytes : List ℕ) → IsApp apps a app → IsNextNote nic app note → note.split ≡ false
      → SideStays (app_at app (took_linear app.view note bytes))
  IsFilledByOne-took_linear note bytes here next split sound =
      IsFilledByOne-app (app_at app (took_linear app.view note bytes)) here (omega arith)
      (omega (arith, app_count-took_linear b nic app note bytes next split)) sound

  -- a piece that is held lies in no spare's buffer, so it may have one holder more
  pub IsFilledByOne-cut : (place : Place) (at : ℕ) → IsApp apps a app → HasHeld app.view place → SideStays (app_at app (cut app.view place at))
  IsFilledByOne-cut place at here out sound =
      let now = app_at app (cut app.view place at) in
      let less = app_at app (released app.view place) in
      let count = pool_count-app b nic apps a app now here in
      let more = app_count-cut b nic app place at out in
      let count_less = pool_count-app b nic apps a app less here in
      let fewer = app_count-released b nic app place out in
      let spares = total-set (spares_in b) apps a app now here.there here.is in
      let spares_less = total-set (spares_in b) apps a app less here.there here.is in
      let held = fillings-held b nic (set apps a less) in
      let one = fillings-one b nic apps sound in
      IsFilledByOne-from b nic (set apps a now)
      (omega arith)
      (λ some. let was = fillings-alone b nic apps sound (omega arith) in omega arith)
      (λ past. let was = sound.inside past in omega arith)

  pub IsFilledByOne-released : (place : Place) → IsApp apps a app → HasHeld app.view place → SideStays (app_at app (released app.view place))
  IsFilledByOne-released place here out sound =
      IsFilledByOne-app (app_at app (released app.view place)) here (omega arith) (omega (arith, app_count-released b nic app place out)) sound

  pub IsFilledByOne-lent : (place : Place) → IsApp apps a app → HasHeld app.view place → SideStays (app_at app (lent app.view place))
  IsFilledByOne-lent place here out sound =
      IsFilledByOne-app (app_at app (lent app.view place)) here (omega arith) (omega (arith, app_count-lent b nic app place out)) sound

  pub IsFilledByOne-abandoned : (place : Place) → IsApp apps a app → HasLoan app.view place → EndedWereReturned b nic app
      → SideStays (app_at app (abandoned app.view place))
  IsFilledByOne-abandoned place here out ended sound =
      IsFilledByOne-app (app_at app (abandoned app.view place)) here (omega arith) (omega (arith, app_count-abandoned b nic app place out ended)) sound

  pub IsFilledByOne-gave : (place : Place) → IsApp apps a app → HasLoan app.view place → EndedWereReturned b nic app
      → SideStays (app_at app (gave app.view place))
  IsFilledByOne-gave place here out ended sound =
      IsFilledByOne-app (app_at app (gave app.view place)) here (omega arith) (omega (arith, app_count-gave b nic app place out ended)) sound

  pub IsFilledByOne-filled : (own : Filling) (bytes : List ℕ) → IsApp apps a app → HasSpare app.view own → SideStays (app_at app (filled app.view own bytes))
  IsFilledByOne-filled own bytes here out sound =
      IsFilledByOne-app (app_at app (filled app.view own bytes)) here (omega (arith, spares_in-filled b app own bytes out))
      (omega (arith, app_count-filled b nic app own bytes out)) sound

  pub IsFilledByOne-lent_own : (own : Filling) → IsApp apps a app → HasSpare app.view own → SideStays (app_at app (lent_own app.view own))
  IsFilledByOne-lent_own own here out sound =
      IsFilledByOne-app (app_at app (lent_own app.view own)) here (omega (arith, spares-without b app.view own out))
      (omega (arith, app_count-lent_own b nic app own out)) sound

  -- a scrub of all that is owed in the buffer
  pub IsFilledByOne-scrubbed : (took : List ℕ) → IsApp apps a app → EndedWereReturned b nic app
      → slice_index took b ≡ slice_index app.inside.scrub_took b + owed_count b nic app → SideStays (scrubbed_side app took)
  IsFilledByOne-scrubbed took here ended takes sound =
      IsFilledByOne-app (scrubbed_side app took) here (omega arith) (omega (arith, app_count-scrubbed b nic app took ended takes)) sound

-- a spare is given that nobody has
pub one-spare : (b buffer : ℕ) (nic : NicSide) (apps : List AppSide) (a : ℕ) (app now : AppSide) → IsApp apps a app
    → spares_in b now ≡ spares_in b app + one_if (buffer == b) → app_count b nic now ≡ app_count b nic app + one_if (buffer == b)
    → buffer < all_buffers nic.view.setting.layout → pool_count buffer nic apps ≡ 0 → SideStays b nic apps a app now
one-spare b buffer nic apps a app now here spares count within free sound =
    let all_spares = total-set (spares_in b) apps a app now here.there here.is in
    let holders = pool_count-app b nic apps a app now here in
    let held = fillings-held b nic apps in
    ⊎_elim
    (λ t.
    let one : one_if (buffer == b) ≡ 1 = ap one_if t.0 in
    let none : pool_count b nic apps ≡ 0 = subst (λ c. pool_count c nic apps ≡ 0) t.1 free in
    IsFilledByOne-from b nic (set apps a now) (omega arith) (λ _. omega arith) (λ past. absurd (let e = t.1 in omega arith)))
    (λ t.
    let other : one_if (buffer == b) ≡ 0 = ap one_if t.0 in
    IsFilledByOne-app b nic apps a app now here (omega arith) (omega arith) sound)
    (eqb_tells buffer b)

pub IsFilledByOne-got_spare : (b : ℕ) (nic : NicSide) (apps : List AppSide) (a : ℕ) (app : AppSide) (buffer : ℕ) → IsApp apps a app
    → buffer < all_buffers nic.view.setting.layout → pool_count buffer nic apps ≡ 0 → SideStays b nic apps a app (app_at app (got_spare app.view buffer))
IsFilledByOne-got_spare b nic apps a app buffer here within free sound =
    one-spare b buffer nic apps a app (app_at app (got_spare app.view buffer)) here (spares_in-got_spare b app buffer)
    (app_count-got_spare b nic app buffer) within free sound
