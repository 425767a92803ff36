-- Bytes are stored at a place in which no byte of a text lies: every text stays shown.
use Rattle.std.proofs.Common.{◌≡◌, ℕ, ◌+◌, ◌<◌, ◌≤◌, Bool, true, false, cond, List, [], ◌∷◌, length, map, drop, refl, ap, sym, ◌∙◌, subst, inl, inr, ⊎_elim, arith}
use Rattle.std.{specs.Prelude.{◌≢◌, ◌⊎◌, filter, ◌==◌, ◌&&◌, nat_lt, count_by, All, Some}, proofs.lemmas.Bool.{eq-eqb, eqb-true, cases_lt, lt-ltb, Decides.{eqb_tells}}}
use Rattle.std.proofs.lemmas.List.{drop-map, Elements.{All-nil, All-cons, All-head, All-tail, All-drop, All-weaker, filter_passes}}
use Rattle.zr_kinds.specs.declared.place.Place.{Place}
use Rattle.board_face.specs.{AppEvents.{begin_place}, Holders.{on_way, ended_in, owed_in, making_places}, Places.{places_of, has_byte, ends_behind, ArePlaced}}
use Rattle.board_face.specs.{Shown.{owed_loans, CardIsShown, AppIsShown}, declared.views.{parts.Making.{Making}, nic.{PlacedText.{PlacedText}, SentNote.{SentNote}}}}
use Rattle.board_face.specs.declared.views.{nic.NicSide.{NicSide}, app.{HeldPiece.{HeldPiece}, LentPiece.{LentPiece}, SpareOwn.{SpareOwn}, AppSide.{AppSide}}}
use Rattle.board_face.proofs.{Tallies.{one_if, tally, total, tally-map}, Parts.{count-tally}, PlaceTallies.{in_buffer, app_places, places-parts, tally-filter}}
use Rattle.board_face.proofs.{ApartLemmas.{has-weight}, ArePlacedLemmas.{tally-fewer, right-weight, none-has}}
use Rattle.board_face.proofs.TextsByEvent.{IsKept, CardIsShown-stored, AppIsShown-stored}

-- bytes are stored at the place alone
abbrev pub StoresAt : (ℕ → ℕ → ℕ) → (ℕ → ℕ → ℕ) → Place → Type 0
StoresAt byte byte' p = (c x : ℕ) → (c ≢ p.buffer) ⊎ (x < p.offset) ⊎ (p.offset + p.len ≤ x) → byte' c x ≡ byte c x

-- how many texts have a byte of a buffer: those of the card's pieces, and those of the applications
abbrev pub texts_with : ℕ → ℕ → NicSide → List AppSide → ℕ
texts_with b x nic apps = tally (λ q. in_buffer b (has_byte x) q.place) nic.view.pieces + total (app_places b (has_byte x) nic) apps

-- no text has a byte of the place
abbrev pub HasNoText : NicSide → List AppSide → Place → Type 0
HasNoText nic apps p = (x : ℕ) → p.offset ≤ x → x < p.offset + p.len → texts_with p.buffer x nic apps ≡ 0

filter-map : {A B : Type 0} (test : B → Bool) (f : A → B) (xs : List A) → filter test (map f xs) ≡ map f (filter (λ x. test (f x)) xs)
filter-map test f [] = refl
filter-map test f (x ∷ xs) = by (test (f x)) (filter-map test f xs)
  where
    by : (c : Bool) → filter test (map f xs) ≡ map f (filter (λ x. test (f x)) xs)
        → cond c (f x ∷ filter test (map f xs)) (filter test (map f xs))
        ≡ map f (cond c (x ∷ filter (λ x. test (f x)) xs) (filter (λ x. test (f x)) xs))
    by true e = ap (λ ys. f x ∷ ys) e
    by false e = e

and-true : (c d : Bool) → c ≡ true → one_if (c && d) ≡ one_if d
and-true c d e = ap (λ t. one_if (t && d)) e

module _ (byte byte' : ℕ → ℕ → ℕ) (p : Place) (stores : StoresAt byte byte' p) where
  -- a byte that isn't one of the place stays
  kept-at : (q : Place) (i : ℕ) → i < q.len → (q.buffer ≡ p.buffer → p.offset ≤ q.offset + i → q.offset + i < p.offset + p.len
      → one_if (in_buffer p.buffer (has_byte (q.offset + i)) q) ≡ 0)
      → byte' q.buffer (q.offset + i) ≡ byte q.buffer (q.offset + i)
  kept-at q i small none =
      let x = q.offset + i in
      ⊎_elim
      (λ t.
      ⊎_elim
      (λ before. stores q.buffer x (inr (inl before)))
      (λ from.
      ⊎_elim
      (λ inside.
      let has = has-weight x q (omega arith) (omega arith) in
      let one : one_if (in_buffer p.buffer (has_byte x) q) ≡ one_if (has_byte x q) = and-true (q.buffer == p.buffer) (has_byte x q) t.0 in
      absurd (omega (arith, has, one, none t.1 from inside)))
      (λ behind. stores q.buffer x (inr (inr behind)))
      (cases_lt x (p.offset + p.len)))
      (cases_lt x p.offset))
      (λ t. stores q.buffer x (inl t.1))
      (eqb_tells q.buffer p.buffer)

  -- the texts of a list, none of which has a byte of the place
  kept-all : {A : Type 0} (f : A → Place) (xs : List A) →
      ((x : ℕ) → p.offset ≤ x → x < p.offset + p.len → tally (λ y. in_buffer p.buffer (has_byte x) (f y)) xs ≡ 0)
      → All (λ y. IsKept byte byte' (f y)) xs
  kept-all f [] none = All-nil (λ y. IsKept byte byte' (f y))
  kept-all f (y ∷ ys) none =
      All-cons (λ z. IsKept byte byte' (f z)) y ys
      (λ i small. kept-at (f y) i small (λ e from inside. omega (arith, none ((f y).offset + i) from inside)))
      (kept-all f ys (λ x from inside. omega (arith, none x from inside)))

  kept-split : (xs : List SentNote) → ((x : ℕ) → p.offset ≤ x → x < p.offset + p.len
      → tally (λ (s : SentNote). s.note.split && in_buffer p.buffer (has_byte x) s.note.place) xs ≡ 0)
      → All (λ (s : SentNote). s.note.split ≡ true → IsKept byte byte' s.note.place) xs
  kept-split [] none = All-nil (λ (s : SentNote). s.note.split ≡ true → IsKept byte byte' s.note.place)
  kept-split (s ∷ xs) none =
      All-cons (λ (s : SentNote). s.note.split ≡ true → IsKept byte byte' s.note.place) s xs
      (λ split i small. kept-at s.note.place i small (λ e from inside. omega (
        arith,
        none (s.note.place.offset + i) from inside,
        and-true s.note.split (in_buffer p.buffer (has_byte (s.note.place.offset + i)) s.note.place) split,
      )))
      (kept-split xs (λ x from inside. omega (arith, none x from inside)))

  kept-spares : (xs : List SpareOwn) → ((x : ℕ) → p.offset ≤ x → x < p.offset + p.len
      → tally (λ (s : SpareOwn). nat_lt 0 (length s.bytes) && in_buffer p.buffer (has_byte x) (begin_place s.own.buffer (length s.bytes))) xs ≡ 0)
      → All (λ (s : SpareOwn). IsKept byte byte' (begin_place s.own.buffer (length s.bytes))) xs
  kept-spares [] none = All-nil (λ (s : SpareOwn). IsKept byte byte' (begin_place s.own.buffer (length s.bytes)))
  kept-spares (s ∷ xs) none =
      let q = begin_place s.own.buffer (length s.bytes) in
      All-cons (λ (s : SpareOwn). IsKept byte byte' (begin_place s.own.buffer (length s.bytes))) s xs
      (λ i small. kept-at q i small (λ e from inside. omega (
        arith,
        none (q.offset + i) from inside,
        and-true (nat_lt 0 (length s.bytes)) (in_buffer p.buffer (has_byte (q.offset + i)) q)
            (lt-ltb 0 (length s.bytes) (omega arith)),
      )))
      (kept-spares xs (λ x from inside. omega (arith, none x from inside)))

  -- loans that are owed lie in the buffer in which they are owed
  owed-places : (b : ℕ) (nic : NicSide) (app : AppSide) → owed_in b nic app ≡ map (λ l. l.place) (owed_loans b nic app)
  owed-places b nic app = ap (drop (ended_in b nic app)) (filter-map (λ (q : Place). q.buffer == b) (λ (l : LentPiece). l.place) app.view.returned)
      ∙ drop-map (λ (l : LentPiece). l.place) (ended_in b nic app) (filter (λ (l : LentPiece). l.place.buffer == b) app.view.returned)

  here-le : (b : ℕ) (test : Place → Bool) (xs : List LentPiece)
      → tally (λ (l : LentPiece). in_buffer b test l.place) xs ≤ tally (λ (l : LentPiece). test l.place) xs
  here-le b test xs = tally-fewer (λ (l : LentPiece). in_buffer b test l.place) (λ l. test l.place)
      (λ l. right-weight (l.place.buffer == b) (test l.place)) xs

  kept-owed : (b : ℕ) (nic : NicSide) (app : AppSide) → ((x : ℕ) → p.offset ≤ x → x < p.offset + p.len
      → tally (has_byte x) (owed_in p.buffer nic app) ≡ 0) → All (λ (l : LentPiece). IsKept byte byte' l.place) (owed_loans b nic app)
  kept-owed b nic app none =
      ⊎_elim
      (λ t.
      let here : (x : ℕ) → p.offset ≤ x → x < p.offset + p.len
      → tally (λ (l : LentPiece). in_buffer p.buffer (has_byte x) l.place) (owed_loans p.buffer nic app) ≡ 0 = λ x from inside.
      omega (
        arith,
        none x from inside,
        ap (tally (has_byte x)) (owed-places p.buffer nic app),
        tally-map (has_byte x) (λ (l : LentPiece). l.place) (owed_loans p.buffer nic app),
        here-le p.buffer (has_byte x) (owed_loans p.buffer nic app),
      ) in
      subst (λ c. All (λ (l : LentPiece). IsKept byte byte' l.place) (owed_loans c nic app)) (sym t.1)
      (kept-all (λ (l : LentPiece). l.place) (owed_loans p.buffer nic app) here))
      (λ t.
      All-weaker (λ (l : LentPiece). (l.place.buffer == b) ≡ true) (λ (l : LentPiece). IsKept byte byte' l.place)
      (λ l is i small. stores l.place.buffer (l.place.offset + i) (inl (λ e. t.1 (sym (eqb-true l.place.buffer b is) ∙ e))))
      (owed_loans b nic app)
      (All-drop (λ (l : LentPiece). (l.place.buffer == b) ≡ true) (ended_in b nic app) (filter (λ (l : LentPiece). l.place.buffer == b) app.view.returned)
      (filter_passes (λ (l : LentPiece). l.place.buffer == b) app.view.returned)))
      (eqb_tells b p.buffer)

  -- an application's texts stay shown
  pub AppIsShown-stored_at : (nic : NicSide) (app : AppSide)
      → ((x : ℕ) → p.offset ≤ x → x < p.offset + p.len → app_places p.buffer (has_byte x) nic app ≡ 0) → AppIsShown byte nic app
      → AppIsShown byte' nic app
  AppIsShown-stored_at nic app none shown =
      AppIsShown-stored byte byte' nic app
      (kept-split (on_way nic app) (λ x from inside. omega (
        arith,
        none x from inside,
        tally-filter (λ (s : SentNote). s.note.split) (λ s. in_buffer p.buffer (has_byte x) s.note.place) (on_way nic app),
      )))
      (kept-all (λ (h : HeldPiece). h.place) app.view.helds (λ x from inside. omega (arith, none x from inside)))
      (kept-spares app.view.owns (λ x from inside. omega (arith, none x from inside)))
      (kept-all (λ (l : LentPiece). l.place) app.view.loans (λ x from inside. omega (arith, none x from inside)))
      (λ b. kept-owed b nic app (λ x from inside. omega (arith, none x from inside)))
      shown

  apps-stored : (nic : NicSide) (apps : List AppSide) → ((x : ℕ) → p.offset ≤ x → x < p.offset + p.len
      → total (app_places p.buffer (has_byte x) nic) apps ≡ 0) → All (AppIsShown byte nic) apps → All (AppIsShown byte' nic) apps
  apps-stored nic [] none shown = All-nil (AppIsShown byte' nic)
  apps-stored nic (app ∷ apps) none shown =
      All-cons (AppIsShown byte' nic) app apps
      (AppIsShown-stored_at nic app (λ x from inside. omega (arith, none x from inside)) (All-head (AppIsShown byte nic) app apps shown))
      (apps-stored nic apps (λ x from inside. omega (arith, none x from inside)) (All-tail (AppIsShown byte nic) app apps shown))

  -- where no text has a byte of the place, all texts stay shown
  pub CardIsShown-stored_at : (nic : NicSide) (apps : List AppSide) → HasNoText nic apps p → CardIsShown byte nic → CardIsShown byte' nic
  CardIsShown-stored_at nic apps none shown = CardIsShown-stored byte byte' nic
      (kept-all (λ (q : PlacedText). q.place) nic.view.pieces (λ x from inside. omega (arith, none x from inside))) shown

  pub AppsAreShown-stored_at : (nic : NicSide) (apps : List AppSide) → HasNoText nic apps p → All (AppIsShown byte nic) apps
      → All (AppIsShown byte' nic) apps
  AppsAreShown-stored_at nic apps none shown = apps-stored nic apps (λ x from inside. omega (arith, none x from inside)) shown

-- ---- where no text lies

texts-le : (b x : ℕ) (nic : NicSide) (apps : List AppSide)
    → texts_with b x nic apps + tally (in_buffer b (has_byte x)) (making_places nic.inside.making) ≡ count_by (has_byte x) (places_of b nic apps)
texts-le b x nic apps = omega (arith, places-parts b (has_byte x) nic apps, count-tally (has_byte x) (places_of b nic apps))

-- behind all places of its buffer
pub HasNoText-behind : (nic : NicSide) (apps : List AppSide) (p : Place) → count_by (ends_behind p.offset) (places_of p.buffer nic apps) ≡ 0
    → HasNoText nic apps p
HasNoText-behind nic apps p none x from inside = omega (arith, none-has p.offset x (places_of p.buffer nic apps) from none, texts-le p.buffer x nic apps)

-- and where a piece is in the making
pub HasNoText-making : (nic : NicSide) (apps : List AppSide) (making : Making) → nic.inside.making ≡ Some making → ArePlaced making.place.buffer nic apps
    → HasNoText nic apps making.place
HasNoText-making nic apps making busy sound x from inside =
    let p = making.place in
    let has = has-weight x p from inside in
    let one : tally (in_buffer p.buffer (has_byte x)) (making_places nic.inside.making)
    ≡ one_if (has_byte x p) + 0 = rw busy (rw (eq-eqb p.buffer p.buffer refl) refl) in
    omega (arith, sound.apart x, texts-le p.buffer x nic apps, has, one)
