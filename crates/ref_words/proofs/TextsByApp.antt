-- What an application's events leave of the texts, where no line of the area changes.
use Rattle.std.proofs.Common.{◌≡◌, ℕ, zero, suc, ◌<◌, ◌≤◌, Bool, true, false, cond, List, [], ◌∷◌, ◌++◌, length, map, set, refl, ap, sym, ◌∙◌, subst}
use Rattle.std.{proofs.{Common.{inl, inr, arith}, lemmas.Option.{IfSome_then}}, specs.Prelude.{◌≢◌, ◌⊎◌, All, Contains, None, IfSome}}
use Rattle.std.proofs.lemmas.List.{map-append, Elements.{All-set, All-push, All-head, All-tail, Contains-append_left}}
use Rattle.zr_kinds.specs.declared.place.Place.{Place}
use Rattle.area_layout.specs.Layout.{Shape}
use Rattle.board_face.specs.{NicEvents.{fresh}, Lists.{without, at_first}, Tokens.{same_filling}, AppCalls.{HasHeld, HasLoan, HasSpare, IsFilled}}
use Rattle.board_face.specs.{AppEvents.{cut, released, lent, held_origin, spare_begun, lent_own, own_bytes, begin_place}, Sides.{IsApp, app_at}}
use Rattle.board_face.specs.{Holders.{ended_in}, Shown.{AppIsShown}, Steps.{side_released, side_spare_begun, side_user_taken, side_owes_lowered}}
use Rattle.board_face.specs.declared.views.{parts.{Setting.{Setting}, Filling.{Filling}, Making.{Making}}, nic.NicSide.{NicSide}}
use Rattle.board_face.specs.declared.views.app.{AppInside.{AppInside}, LentPiece.{LentPiece}, Origin.TheVariants.{Copied as of_copy}}
use Rattle.board_face.{specs.declared.views.app.{SpareOwn.{SpareOwn}, AppSide.{AppSide}}, proofs.ListLemmas.{All-without, same_filling-is}}
use Rattle.board_face.proofs.TextsByEvent.{AppIsShown-same, AppIsShown-cut, AppIsShown-released, AppIsShown-lent, AppIsShown-lent_own, AppIsShown-ended}
use Rattle.board_face.proofs.AreShownLemmas.{AppIsShown-spare_begun}
use Rattle.ref_words.specs.{Lines.{byte_in_area}, Sides.{SidesRule}, TextRule.{IsAtHand, IsOfSpare, IsReadFromLoan, HasTexts, AreTexts}}
use Rattle.ref_words.proofs.ScrubTaking.{raised-at}

-- What an application fills and has out, and what it read, stay.
pub record LeavesOwnTexts (app now : AppSide) : Type 0 where
  pub number : now.view.app ≡ app.view.app
  pub making : now.inside.making ≡ app.inside.making
  pub owns : now.view.owns ≡ app.view.owns
  pub loans : now.view.loans ≡ app.view.loans
  pub reads : now.view.reads ≡ app.view.reads

module _ (layout : Shape) (area : List (List ℕ)) (nic : NicSide) (app now : AppSide) where
  -- it has the same text at hand, if any, and the spare or the loan still
  pub HasTexts-app : now.view.app ≡ app.view.app → now.inside.making ≡ app.inside.making
      → ((own : Filling) → own.start ≡ 0 → HasSpare app.view own → HasSpare now.view own)
      → ((loan : Place) → HasLoan app.view loan → HasLoan now.view loan)
      → All (λ (s : SpareOwn). s.own.start ≡ 0 → s.bytes ≡ []) now.view.owns
      → now.view.reads ≡ app.view.reads → HasTexts layout area nic app → HasTexts layout area nic now
  HasTexts-app number same spares loans unfilled reads has = record {
    making = subst (λ m. IfSome m (λ making. IsAtHand layout making × (IsOfSpare now making ⊎ IsReadFromLoan layout area now making))) (sym same)
        (IfSome_then app.inside.making has.making (λ making is. (is.0, of making is.1)));
    unfilled = unfilled;
    reads = rw (number, reads) has.reads;
  }
    where
      of : (making : Making) → IsOfSpare app making ⊎ IsReadFromLoan layout area app making → IsOfSpare now making ⊎ IsReadFromLoan layout area now making
      of making (inl is) = inl (record { own = is.own; out = spares is.own is.begin is.out; begin = is.begin; place = is.place; unknown = is.unknown })
      of making (inr is) = inr (record {
        loan = is.loan;
        out = loans is.loan is.out;
        buffer = is.buffer;
        from = is.from;
        within = is.within;
        stand = is.stand;
      })

  pub HasTexts-left : LeavesOwnTexts app now → HasTexts layout area nic app → HasTexts layout area nic now
  HasTexts-left leaves has =
      HasTexts-app leaves.number leaves.making (λ own begin out. rw leaves.owns out) (λ loan out. rw leaves.loans out) (rw leaves.owns has.unfilled)
      leaves.reads has

  -- or none is at hand
  pub HasTexts-idle : now.view.app ≡ app.view.app → now.inside.making ≡ None → now.view.owns ≡ app.view.owns → now.view.reads ≡ app.view.reads
      → HasTexts layout area nic app → HasTexts layout area nic now
  HasTexts-idle number idle owns reads has =
      record { making = rw idle tt; unfilled = rw owns has.unfilled; reads = rw (number, reads) has.reads }

module _ (setting : Setting) (area : List (List ℕ)) (nic : NicSide) (apps : List AppSide) (a : ℕ) (app now : AppSide) (here : IsApp apps a app)
    (sides : SidesRule setting nic (set apps a now)) where
  abbrev byte : ℕ → ℕ → ℕ
  byte = byte_in_area setting.layout area

  pub AreTexts-app : (AppIsShown byte nic app → AppIsShown byte nic now)
      → (HasTexts setting.layout area nic app → HasTexts setting.layout area nic now)
      → AreTexts setting.layout area nic apps → AreTexts setting.layout area nic (set apps a now)
  AreTexts-app shown has texts = record {
    shown = record {
      card = texts.shown.card;
      apps = All-set (AppIsShown byte nic) apps a now (shown (subst (AppIsShown byte nic) here.is (texts.shown.apps a app here.there))) texts.shown.apps;
      places = sides.placed;
    };
    making = texts.making;
    others = All-set (HasTexts setting.layout area nic) apps a now (has (subst (HasTexts setting.layout area nic) here.is (texts.others a app here.there)))
        texts.others;
  }

-- what only a board speaks of changes, but for what a scrub took
pub AppIsShown-inside : (byte : ℕ → ℕ → ℕ) (nic : NicSide) (app : AppSide) (inside : AppInside)
    → ((b : ℕ) → ended_in b nic app ≤ ended_in b nic (record app { inside = inside })) → AppIsShown byte nic app
    → AppIsShown byte nic (record app { inside = inside })
AppIsShown-inside byte nic app inside ends shown = AppIsShown-ended byte nic nic app inside refl ends shown

-- ---- spares

-- another spare is still there
pub stays : (own other : Filling) → own ≢ other → (owns : List SpareOwn) → Contains (map (λ s. s.own) owns) other
    → Contains (map (λ s. s.own) (without (λ (s : SpareOwn). same_filling own s.own) owns)) other
stays own other ne [] (k, less, is) = absurd (omega arith)
stays own other ne (s ∷ owns) (zero, less, is) = first (same_filling own s.own) refl
  where
    first : (c : Bool) → same_filling own s.own ≡ c
        → Contains (map (λ s. s.own) (cond c owns (s ∷ without (λ (s : SpareOwn). same_filling own s.own) owns))) other
    first true e = absurd (ne (sym (same_filling-is own s.own e) ∙ is))
    first false e = (zero, omega arith, is)
stays own other ne (s ∷ owns) (suc k, less, is) = later (same_filling own s.own) (k, omega arith, is) (stays own other ne owns (k, omega arith, is))
  where
    later : (c : Bool) → Contains (map (λ s. s.own) owns) other
        → Contains (map (λ s. s.own) (without (λ (s : SpareOwn). same_filling own s.own) owns)) other
        → Contains (map (λ s. s.own) (cond c owns (s ∷ without (λ (s : SpareOwn). same_filling own s.own) owns))) other
    later true there rest = there
    later false there rest = (suc rest.0, omega (arith, rest.1), rest.2)

-- a spare of which nothing is used has no bytes
pub unfilled-bytes : (own : Filling) → own.start ≡ 0 → (owns : List SpareOwn) → All (λ s. s.own.start ≡ 0 → s.bytes ≡ []) owns
    → at_first (λ s. same_filling own s.own) (λ s. s.bytes) [] owns ≡ []
unfilled-bytes own begin [] all = refl
unfilled-bytes own begin (s ∷ owns) all =
    first (same_filling own s.own) refl
    (unfilled-bytes own begin owns (All-tail (λ (s : SpareOwn). s.own.start ≡ 0 → s.bytes ≡ []) s owns all))
  where
    first : (c : Bool) → same_filling own s.own ≡ c → at_first (λ (s : SpareOwn). same_filling own s.own) (λ s. s.bytes) [] owns ≡ []
        → cond c s.bytes (at_first (λ (s : SpareOwn). same_filling own s.own) (λ s. s.bytes) [] owns) ≡ []
    first true e rest = All-head (λ (s : SpareOwn). s.own.start ≡ 0 → s.bytes ≡ []) s owns all
        (ap (λ (o : Filling). o.start) (same_filling-is own s.own e) ∙ begin)
    first false e rest = rest

-- a loan is still out, however many follow
longer : (loans : List LentPiece) (one : LentPiece) (loan : Place) → Contains (map (λ (l : LentPiece). l.place) loans) loan
    → Contains (map (λ (l : LentPiece). l.place) (loans ++ one ∷ [])) loan
longer loans one loan out = subst (λ places. Contains places loan) (sym (map-append (λ (l : LentPiece). l.place) loans (one ∷ [])))
    (Contains-append_left (map (λ (l : LentPiece). l.place) loans) (one.place ∷ []) loan out)

-- ---- events

module _ (setting : Setting) (area : List (List ℕ)) (nic : NicSide) (apps : List AppSide) (a : ℕ) (app : AppSide) (here : IsApp apps a app)
    (texts : AreTexts setting.layout area nic apps) where
  abbrev bytes : ℕ → ℕ → ℕ
  bytes = byte_in_area setting.layout area

  pub texts-cut : (place : Place) (at : ℕ) → HasHeld app.view place → at < place.len
      → SidesRule setting nic (set apps a (app_at app (cut app.view place at)))
      → AreTexts setting.layout area nic (set apps a (app_at app (cut app.view place at)))
  texts-cut place at out inside sides =
      AreTexts-app setting area nic apps a app (app_at app (cut app.view place at)) here sides
      (AppIsShown-cut bytes nic app place at out (omega arith))
      (HasTexts-left setting.layout area nic app _ (record { number = refl; making = refl; owns = refl; loans = refl; reads = refl })) texts

  pub texts-released : (place : Place) (last : Bool) → SidesRule setting nic (set apps a (side_released app place last))
      → AreTexts setting.layout area nic (set apps a (side_released app place last))
  texts-released place last sides =
      let now = side_released app place last in
      AreTexts-app setting area nic apps a app now here sides
      (λ shown. AppIsShown-inside bytes nic (app_at app (released app.view place)) now.inside (λ b. omega arith)
      (AppIsShown-released bytes nic app place shown))
      (HasTexts-left setting.layout area nic app now (record { number = refl; making = refl; owns = refl; loans = refl; reads = refl })) texts

  pub texts-owes_lowered : (b : ℕ) (last : Bool) → SidesRule setting nic (set apps a (side_owes_lowered app b last))
      → AreTexts setting.layout area nic (set apps a (side_owes_lowered app b last))
  texts-owes_lowered b last sides =
      let now = side_owes_lowered app b last in
      AreTexts-app setting area nic apps a app now here sides (AppIsShown-inside bytes nic app now.inside (λ b. omega arith))
      (HasTexts-left setting.layout area nic app now (record { number = refl; making = refl; owns = refl; loans = refl; reads = refl })) texts

  pub texts-lent : (place : Place) → HasHeld app.view place → SidesRule setting nic (set apps a (app_at app (lent app.view place)))
      → AreTexts setting.layout area nic (set apps a (app_at app (lent app.view place)))
  texts-lent place out sides =
      AreTexts-app setting area nic apps a app (app_at app (lent app.view place)) here sides (AppIsShown-lent bytes nic app place out)
      (λ has. HasTexts-app setting.layout area nic app (app_at app (lent app.view place)) refl refl (λ own begin there. there)
      (longer app.view.loans (record { place = place; origin = held_origin app.view place })) has.unfilled refl has) texts

  pub texts-user_taken : (b n : ℕ) → SidesRule setting nic apps → b < length app.inside.scrub_took
      → SidesRule setting nic (set apps a (side_user_taken app b n))
      → AreTexts setting.layout area nic (set apps a (side_user_taken app b n))
  texts-user_taken b n was there sides =
      let now = side_user_taken app b n in
      let moved : AppSide = record app { inside = now.inside } in
      AreTexts-app setting area nic apps a app now here sides
      (λ shown. AppIsShown-same bytes nic moved now.view
      (record { app = refl; taken = refl; helds = refl; owns = refl; loans = refl; returned = refl })
      (AppIsShown-inside bytes nic app now.inside (λ c. omega (arith, raised-at b n c app.inside.scrub_took there)) shown))
      (HasTexts-left setting.layout area nic app now (record { number = refl; making = refl; owns = refl; loans = refl; reads = refl })) texts

  -- nothing is used of a spare that begins
  pub texts-spare_begun : (b : ℕ) → SidesRule setting nic (set apps a (side_spare_begun app b))
      → AreTexts setting.layout area nic (set apps a (side_spare_begun app b))
  texts-spare_begun b sides =
      let now = side_spare_begun app b in
      let one : SpareOwn = record { own = fresh app.view.setting b; bytes = [] } in
      AreTexts-app setting area nic apps a app now here sides
      (λ shown. AppIsShown-inside bytes nic (app_at app (spare_begun app.view b)) now.inside (λ c. omega arith)
      (AppIsShown-spare_begun bytes nic app b shown))
      (λ has. HasTexts-app setting.layout area nic app now refl refl
      (λ own begin out. subst (λ owns. Contains owns own) (sym (map-append (λ (s : SpareOwn). s.own) app.view.owns (one ∷ [])))
      (Contains-append_left (map (λ (s : SpareOwn). s.own) app.view.owns) (one.own ∷ []) own out))
      (λ loan there. there)
      (All-push (λ (s : SpareOwn). s.own.start ≡ 0 → s.bytes ≡ []) app.view.owns one has.unfilled (λ e. refl)) refl has)
      texts

  -- a spare that is lent was filled, so it isn't the one that is being filled
  pub texts-lent_own : (own : Filling) → HasSpare app.view own → IsFilled app.view own
      → SidesRule setting nic (set apps a (app_at app (lent_own app.view own)))
      → AreTexts setting.layout area nic (set apps a (app_at app (lent_own app.view own)))
  texts-lent_own own out full sides =
      let now = app_at app (lent_own app.view own) in
      AreTexts-app setting area nic apps a app now here sides (AppIsShown-lent_own bytes nic app own out)
      (λ has. HasTexts-app setting.layout area nic app now refl refl
      (λ other begin there. stays own other (λ e.
      let none : own_bytes app.view own ≡ [] = unfilled-bytes own (ap (λ (o : Filling). o.start) e ∙ begin) app.view.owns has.unfilled in
      omega (arith, full, ap length none))
      app.view.owns there)
      (longer app.view.loans (record { place = begin_place own.buffer (length (own_bytes app.view own)); origin = of_copy (own_bytes app.view own) }))
      (All-without (λ (s : SpareOwn). s.own.start ≡ 0 → s.bytes ≡ []) (λ s. same_filling own s.own) app.view.owns has.unfilled) refl has)
      texts
