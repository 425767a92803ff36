-- Lines stay apart under each event: a line has bytes of one place at most, or all that lies in it is one application's.
use Rattle.std.{specs.Prelude.{◌≢◌, ◌⊎◌, ◌==◌, ◌&&◌, nat_lt, All, Contains, count_by, filter, Some, None}, specs.List.{flat_map}}
use Rattle.std.proofs.Common.{◌≡◌, ⊎_elim, ℕ, zero, suc, ◌+◌, ◌*◌, ◌<◌, ◌≤◌, Bool, true, false, List, [], ◌∷◌, ◌++◌, length, drop, get_or, set, refl, ap, sym, ◌∙◌}
use Rattle.std.proofs.{Common.{arith, inl, inr}, lemmas.List.{length-set, get_or_default, get_or-set_same, get_or-set_other, Elements.{filter-append, All-contains}}}
use Rattle.std.proofs.lemmas.Bool.{cases_lt, lt-ltb, le-ltb, ltb-true, eqb-true, and_parts, cases_Bool, Decides.{eqb_tells}}
use Rattle.zr_kinds.specs.declared.place.{Place.{Place}, Note.{Note}}
use Rattle.board_face.specs.{NicCalls.{HasOwn, HasPiece}, AppCalls.{HasHeld, HasLoan, HasSpare, IsFilled}, Sides.{nic_at, app_at, IsApp, AreNumbered}}
use Rattle.board_face.specs.{NicEvents.{begun, text_done, sent, sent_linear}, AppEvents.{cut, lent, abandoned, lent_own, filled, own_bytes, begin_place}}
use Rattle.board_face.specs.{Holders.{Kind, sent_to, on_way, ended_in, returning_count, nic_holders, app_holders}, BoardSteps.{lends}, Counts.{EndedWereReturned}}
use Rattle.board_face.specs.{Fillings.{IsFilledByOne, FillingsFit}, Places.{ArePlaced, places_of, filled_places, kind_place, ends_behind}, Tokens.{next_place}}
use Rattle.board_face.specs.{Texts.{front_place, rest_place}, Opened.{new_nic}, declared.views.parts.{Setting.{Setting}, Filling.{Filling}, Making.{Making}}}
use Rattle.board_face.specs.declared.views.{nic.{SentNote.{SentNote}, NicView.{NicView}, NicSide.{NicSide}}, app.{AppView.{AppView}, AppSide.{AppSide}}}
use Rattle.board_face.proofs.Tallies.{one_if, tally, tally-append, tally-flat, total, total-append, total-le, total-agree, one_if-le, count-tally}
use Rattle.board_face.proofs.{LiesLemmas.{total-at}, NicLemmas.{making_at}, FillingsFitLemmas.{FillingsFit-own}, OpenedLemmas.{IsNew, pool_count-opened}}
use Rattle.board_face.proofs.PlaceTallies.{app_places, piece_places, way_places, in_buffer, places-parts, tally-filter}
use Rattle.board_face.proofs.PlacesByEvent.{places-app, places-sent, places-sent_linear, places-begun, places-text_done, places-stretch}
use Rattle.board_face.proofs.PlacesByEvent.{app_places-then, app_places-cut, app_places-released, app_places-abandoned, app_places-lent_own}
use Rattle.board_face.proofs.PlacesByEvent.{app_places-filled, app_places-stretch}
use Rattle.board_face.proofs.ArePlacedLemmas.{IsBehind, tally-fewer, right-weight, in-other, places-none, less_spare, spare-free}
use Rattle.ref_words.specs.{Lines.{touches}, Sides.{app_places_of, IsOneApps, AreByLine}}

-- ---- tests

end-weight : (m n e : ℕ) → m ≤ n → one_if (nat_lt n e) ≤ one_if (nat_lt m e)
end-weight m n e le =
    ⊎_elim
    (λ less. omega (arith, ap one_if (lt-ltb m e (omega arith)), one_if-le (nat_lt n e)))
    (λ more. omega (arith, ap one_if (le-ltb n e more)))
    (cases_lt n e)

-- a place that touches a line ends behind each byte before it
touch-ends : (m x : ℕ) (p : Place) → m ≤ 64 * x → one_if (touches x p) ≤ one_if (ends_behind m p)
touch-ends m x p le = omega (arith, right-weight (nat_lt p.offset (64 * x + 64)) (nat_lt (64 * x) (p.offset + p.len)), end-weight m (64 * x) (p.offset + p.len) le)

-- ---- notes on their way

drop-more : {A : Type 0} (test : A → Bool) (k : ℕ) (xs ys : List A) → tally test (drop k xs) ≤ tally test (drop k (xs ++ ys))
drop-more test zero xs ys = omega (arith, tally-append test xs ys)
drop-more test (suc k) [] ys = omega arith
drop-more test (suc k) (x ∷ xs) ys = drop-more test k xs ys

-- no application has fewer places once a note more was sent
way-more : (b : ℕ) (test : Place → Bool) (nic : NicSide) (app : AppSide) (v : NicView) (s : SentNote) → v.sent ≡ nic.view.sent ++ s ∷ []
    → v.dealt ≡ nic.view.dealt → app_places b test nic app ≤ app_places b test (nic_at nic v) app
way-more b test nic app v s sents deals =
    let k = length app.view.taken in
    let to : SentNote → Bool = λ y. y.app == app.view.app in
    let meets : SentNote → Bool = λ y. in_buffer b test y.note.place in
    let now = nic_at nic v in
    let way : on_way now app ≡ drop k (sent_to app.view.app nic ++ filter to (s ∷ [])) =
    rw (sents, filter-append to nic.view.sent (s ∷ [])) refl in
    let rest : app_places b test now app + way_places b test nic app ≡ app_places b test nic app + way_places b test now app = rw deals (omega arith) in
    omega (
      arith,
      rest,
      tally-filter (λ y. y.note.split) meets (on_way nic app),
      tally-filter (λ y. y.note.split) meets (on_way now app),
      ap (tally (λ y. y.note.split && meets y)) way,
      drop-more (λ y. y.note.split && meets y) k (sent_to app.view.app nic) (filter to (s ∷ [])),
    )

-- ---- sums

pub total-two : {A : Type 0} (f : A → ℕ) (xs : List A) (i k : ℕ) (v w : A) → i ≢ k → i < length xs → get_or xs i v ≡ v → k < length xs → get_or xs k w ≡ w
    → f v + f w ≤ total f xs
total-two f [] i k v w ne there is k_there k_is = absurd (omega arith)
total-two f (x ∷ xs) zero zero v w ne there is k_there k_is = absurd (ne refl)
total-two f (x ∷ xs) zero (suc k) v w ne there is k_there k_is = omega (arith, ap f is, total-at f xs k w (omega arith) k_is)
total-two f (x ∷ xs) (suc i) zero v w ne there is k_there k_is = omega (arith, ap f k_is, total-at f xs i v (omega arith) is)
total-two f (x ∷ xs) (suc i) (suc k) v w ne there is k_there k_is =
    omega (arith, total-two f xs i k v w (λ e. ne (ap suc e)) (omega arith) is (omega arith) k_is)

-- where none of the numbers rises, the sum of the others than one doesn't
total-others : {A : Type 0} (f g : A → ℕ) (xs : List A) (i : ℕ) (v : A) → ((x : A) → Contains xs x → f x ≤ g x) → i < length xs → get_or xs i v ≡ v
    → total f xs + g v ≤ total g xs + f v
total-others f g [] i v each there is = absurd (omega arith)
total-others f g (x ∷ xs) zero v each there is =
    omega (arith, ap f is, ap g is, total-le f g xs (λ y has. each y (suc has.0, omega arith, has.2)))
total-others f g (x ∷ xs) (suc i) v each there is =
    omega (arith, each x (0, omega arith, refl), total-others f g xs i v (λ y has. each y (suc has.0, omega arith, has.2)) (omega arith) is)

-- ---- an application's places, and those of all

-- they are as many as the sum says
app_places-of : (b : ℕ) (test : Place → Bool) (nic : NicSide) (app : AppSide) → tally test (app_places_of b nic app) ≡ app_places b test nic app
app_places-of b test nic app =
    let K : Kind → ℕ = λ k. tally test (kind_place k) in
    let card = nic_holders b nic in
    let mine = app_holders b nic app in
    let all : tally test (flat_map kind_place (card ++ (mine ++ [])) ++ (filled_places b app ++ [])) ≡ piece_places b test nic + (app_places b test nic app + 0) =
    places-parts b test nic (app ∷ []) in
    let none : tally test (flat_map kind_place (card ++ []) ++ []) ≡ piece_places b test nic + 0 = places-parts b test nic [] in
    omega (
      arith,
      all,
      none,
      tally-append test (flat_map kind_place mine) (filled_places b app),
      tally-flat test kind_place mine,
      tally-append test (flat_map kind_place (card ++ (mine ++ []))) (filled_places b app ++ []),
      tally-append test (filled_places b app) [],
      tally-flat test kind_place (card ++ (mine ++ [])),
      total-append K card (mine ++ []),
      total-append K mine [],
      tally-append test (flat_map kind_place (card ++ [])) [],
      tally-flat test kind_place (card ++ []),
      total-append K card [],
    )

pub app_places-all : (b : ℕ) (test : Place → Bool) (nic : NicSide) (apps : List AppSide) (a : ℕ) (app : AppSide) → IsApp apps a app
    → app_places b test nic app ≤ tally test (places_of b nic apps)
app_places-all b test nic apps a app here =
    omega (arith, places-parts b test nic apps, total-at (app_places b test nic) apps a app here.there here.is)

pub app_places-two : (b : ℕ) (test : Place → Bool) (nic : NicSide) (apps : List AppSide) (a c : ℕ) (app other : AppSide) → a ≢ c → IsApp apps a app
    → IsApp apps c other → app_places b test nic app + app_places b test nic other ≤ tally test (places_of b nic apps)
app_places-two b test nic apps a c app other ne here there =
    omega (arith, places-parts b test nic apps, total-two (app_places b test nic) apps a c app other ne here.there here.is there.there there.is)

-- the rule at one line
abbrev IsByLine : ℕ → ℕ → NicSide → List AppSide → Type 0
IsByLine b x nic apps = (count_by (touches x) (places_of b nic apps) ≤ 1) ⊎ IsOneApps b x nic apps

one-place : (b x : ℕ) (nic : NicSide) (apps : List AppSide) → tally (touches x) (places_of b nic apps) ≤ 1 → IsByLine b x nic apps
one-place b x nic apps few = inl (omega (arith, few, count-tally (touches x) (places_of b nic apps)))

one-app : (b x : ℕ) (nic : NicSide) (apps : List AppSide) (a : ℕ) (app : AppSide) → IsApp apps a app
    → tally (touches x) (places_of b nic apps) ≤ app_places b (touches x) nic app → IsByLine b x nic apps
one-app b x nic apps a app here all = inr (record {
  a = a;
  app = app;
  here = here;
  all = omega (
    arith,
    all,
    app_places-all b (touches x) nic apps a app here,
    app_places-of b (touches x) nic app,
    count-tally (touches x) (app_places_of b nic app),
    count-tally (touches x) (places_of b nic apps),
  );
})

-- so with sums: by the cases of the rule
by-cases : (C : Type 0) (b x : ℕ) (nic : NicSide) (apps : List AppSide) → IsByLine b x nic apps → (tally (touches x) (places_of b nic apps) ≤ 1 → C)
    → ((a : ℕ) (app : AppSide) → IsApp apps a app → tally (touches x) (places_of b nic apps) ≤ app_places b (touches x) nic app → C) → C
by-cases C b x nic apps is few one =
    ⊎_elim
    (λ le. few (omega (arith, le, count-tally (touches x) (places_of b nic apps))))
    (λ (o : IsOneApps b x nic apps). one o.a o.app o.here (omega (
      arith,
      o.all,
      app_places-of b (touches x) nic o.app,
      count-tally (touches x) (app_places_of b nic o.app),
      count-tally (touches x) (places_of b nic apps),
    )))
    is

-- an application is found once, and stays where another changed
pub same-app : (apps : List AppSide) (a c : ℕ) (app other : AppSide) → a ≡ c → IsApp apps a app → IsApp apps c other → app ≡ other
same-app apps a c app other e here there =
    sym here.is ∙ (get_or_default apps a app other here.there ∙ (ap (λ n. get_or apps n other) e ∙ there.is))

pub other-app : (apps : List AppSide) (a c : ℕ) (now other : AppSide) → c ≢ a → IsApp apps c other → IsApp (set apps a now) c other
other-app apps a c now other ne there = record {
  there = omega (arith, there.there, length-set apps a now);
  is = get_or-set_other apps a c now other ne ∙ there.is;
  number = there.number;
}

-- where an application has something in a line, all of it is that application's
pub line-own : (b x : ℕ) (nic : NicSide) (apps : List AppSide) (a : ℕ) (app : AppSide) → IsByLine b x nic apps → IsApp apps a app
    → 0 < app_places b (touches x) nic app → tally (touches x) (places_of b nic apps) ≤ app_places b (touches x) nic app
line-own b x nic apps a app is here some =
    by-cases (tally (touches x) (places_of b nic apps) ≤ app_places b (touches x) nic app) b x nic apps is (λ few. omega arith)
    (λ c other there all.
    ⊎_elim
    (λ t. omega (arith, ap (app_places b (touches x) nic) (same-app apps a c app other t.1 here there)))
    (λ t. absurd (omega (arith, app_places-two b (touches x) nic apps a c app other t.1 here there)))
    (eqb_tells a c))

-- ---- an application's events

module _ (b : ℕ) (nic : NicSide) (apps : List AppSide) (a : ℕ) (app now : AppSide) (here : IsApp apps a app) (number : now.view.app ≡ app.view.app) where
  -- all that lies in the line is its own,
  line-mine : (x : ℕ) → tally (touches x) (places_of b nic apps) ≤ app_places b (touches x) nic app → IsByLine b x nic (set apps a now)
  line-mine x all =
      one-app b x nic (set apps a now) a now
      (record { there = omega (arith, here.there, length-set apps a now); is = get_or-set_same apps a now now here.there; number = number ∙ here.number })
      (omega (arith, all, places-app b (touches x) nic apps a app now here))

  -- or no more of it does
  line-fewer : (x : ℕ) → app_places b (touches x) nic now ≤ app_places b (touches x) nic app → IsByLine b x nic apps → IsByLine b x nic (set apps a now)
  line-fewer x fewer is =
      let all = places-app b (touches x) nic apps a app now here in
      by-cases (IsByLine b x nic (set apps a now)) b x nic apps is (λ few. one-place b x nic (set apps a now) (omega arith))
      (λ c other there own.
      ⊎_elim
      (λ t. line-mine x (omega (arith, ap (app_places b (touches x) nic) (same-app apps c a other app t.1 there here))))
      (λ t. one-app b x nic (set apps a now) c other (other-app apps a c now other t.1 there) (omega arith))
      (eqb_tells c a))

  -- an event by which this application has no more places
  pub AreByLine-app : ((test : Place → Bool) → app_places b test nic now ≤ app_places b test nic app) → AreByLine b nic apps → AreByLine b nic (set apps a now)
  AreByLine-app fewer rule x = line-fewer x (fewer (touches x)) (rule x)

-- ---- parts of a place

and-weight : (c d e f : Bool) → one_if c ≤ one_if d → one_if e ≤ one_if f → one_if (c && e) ≤ one_if (d && f)
and-weight false d e f less more = omega arith
and-weight true true e f less more = more
and-weight true false e f less more = absurd (omega arith)

-- a line that a part of a place touches is touched by the whole
part-touches : (x : ℕ) (p q : Place) → p.offset ≤ q.offset → q.offset + q.len ≤ p.offset + p.len → one_if (touches x q) ≤ one_if (touches x p)
part-touches x p q from within =
    and-weight (nat_lt q.offset (64 * x + 64)) (nat_lt p.offset (64 * x + 64)) (nat_lt (64 * x) (q.offset + q.len)) (nat_lt (64 * x) (p.offset + p.len))
    (end-weight p.offset q.offset (64 * x + 64) from)
    (⊎_elim
    (λ less. omega (arith, ap one_if (lt-ltb (64 * x) (p.offset + p.len) (omega arith)), one_if-le (nat_lt (64 * x) (q.offset + q.len))))
    (λ more. omega (arith, ap one_if (le-ltb (64 * x) (q.offset + q.len) more)))
    (cases_lt (64 * x) (q.offset + q.len)))

part-there : (b x : ℕ) (p q : Place) → q.buffer ≡ p.buffer → p.offset ≤ q.offset → q.offset + q.len ≤ p.offset + p.len
    → one_if (in_buffer b (touches x) q) ≤ one_if (in_buffer b (touches x) p)
part-there b x p q same from within =
    and-weight (q.buffer == b) (p.buffer == b) (touches x q) (touches x p) (omega (arith, ap (λ c. one_if (c == b)) same)) (part-touches x p q from within)

pub AreByLine-cut : (b : ℕ) (nic : NicSide) (apps : List AppSide) (a : ℕ) (app : AppSide) (place : Place) (at : ℕ) → IsApp apps a app
    → HasHeld app.view place → at ≤ place.len → AreByLine b nic apps → AreByLine b nic (set apps a (app_at app (cut app.view place at)))
AreByLine-cut b nic apps a app place at here out within rule x =
    let now = app_at app (cut app.view place at) in
    let parts = app_places-cut b (touches x) nic app place at out in
    let whole = app_places-released b (touches x) nic app place out in
    let front = part-there b x place (front_place place at) refl (omega arith) (omega arith) in
    let rest = part-there b x place (rest_place place at) refl (omega arith) (omega arith) in
    ⊎_elim
    (λ none. line-fewer b nic apps a app now here refl x (omega arith) (rule x))
    (λ some. line-mine b nic apps a app now here refl x (line-own b x nic apps a app (rule x) here (omega arith)))
    (cases_lt (one_if (in_buffer b (touches x) place)) 1)

-- ---- other events of an application

module _ (b : ℕ) (nic : NicSide) (apps : List AppSide) (a : ℕ) (app : AppSide) where
  -- it stays so where the application's view is this
  abbrev ViewStays : AppView → Type 0
  ViewStays v = AreByLine b nic apps → AreByLine b nic (set apps a (app_at app v))

  pub AreByLine-lent : (place : Place) → IsApp apps a app → HasHeld app.view place → ViewStays (lent app.view place)
  AreByLine-lent place here out =
      AreByLine-app b nic apps a app (app_at app (lent app.view place)) here refl (λ test. omega (arith, app_places-then (lends place) b test nic app out))

  pub AreByLine-abandoned : (place : Place) → IsApp apps a app → HasLoan app.view place → EndedWereReturned b nic app → ViewStays (abandoned app.view place)
  AreByLine-abandoned place here out ended =
      AreByLine-app b nic apps a app (app_at app (abandoned app.view place)) here refl (λ test. omega (arith, app_places-abandoned b test nic app place out ended))

  pub AreByLine-lent_own : (own : Filling) → IsApp apps a app → IsFilled app.view own → ViewStays (lent_own app.view own)
  AreByLine-lent_own own here some =
      AreByLine-app b nic apps a app (app_at app (lent_own app.view own)) here refl
      (λ test. omega (arith, app_places-lent_own b test nic app own (lt-ltb 0 (length (own_bytes app.view own)) some)))

  -- a spare's buffer has no other holder
  pub AreByLine-filled : (own : Filling) (bytes : List ℕ) → IsApp apps a app → HasSpare app.view own → IsFilledByOne b nic apps
      → ViewStays (filled app.view own bytes)
  AreByLine-filled own bytes here out by_one rule x =
      let now = app_at app (filled app.view own bytes) in
      let less = less_spare app own in
      let place = begin_place own.buffer (length bytes) in
      ⊎_elim
      (λ t.
      let none = places-none b (touches x) nic (set apps a less) (spare-free b nic apps a app own here out by_one t.1) in
      line-mine b nic apps a app now here refl x (omega (
        arith,
        none,
        count-tally (touches x) (places_of b nic (set apps a less)),
        places-app b (touches x) nic apps a app less here,
      )))
      (λ t. line-fewer b nic apps a app now here refl x (omega (
        arith,
        app_places-filled b (touches x) nic app own bytes out,
        right-weight (nat_lt 0 (length bytes)) (in_buffer b (touches x) place),
        in-other b (touches x) place t.0,
      )) (rule x))
      (eqb_tells own.buffer b)

-- ---- the card's events

module _ (b : ℕ) (nic : NicSide) (apps : List AppSide) where
  abbrev StaysByLine : NicSide → Type 0
  StaysByLine now = AreByLine b nic apps → AreByLine b now apps

  -- no place comes, and none goes to others than an application
  by-card : (now : NicSide) (x : ℕ) → tally (touches x) (places_of b now apps) ≤ tally (touches x) (places_of b nic apps)
      → ((a : ℕ) (app : AppSide) → IsApp apps a app
      → tally (touches x) (places_of b now apps) + app_places b (touches x) nic app ≤ tally (touches x) (places_of b nic apps) + app_places b (touches x) now app)
      → IsByLine b x nic apps → IsByLine b x now apps
  by-card now x fewer others is =
      by-cases (IsByLine b x now apps) b x nic apps is (λ few. one-place b x now apps (omega arith))
      (λ a app here all. one-app b x now apps a app here (omega (arith, others a app here)))

  -- an event by which no place comes, and no application has fewer
  pub AreByLine-card : (now : NicSide) → ((test : Place → Bool) → tally test (places_of b now apps) ≤ tally test (places_of b nic apps))
      → ((test : Place → Bool) (app : AppSide) → app_places b test nic app ≤ app_places b test now app) → StaysByLine now
  AreByLine-card now fewer more rule x =
      by-card now x (fewer (touches x)) (λ a app here. omega (arith, fewer (touches x), more (touches x) app)) (rule x)

  -- or one that leaves its pieces, notes and entries
  pub AreByLine-like : (now : NicSide) → ((test : Place → Bool) → piece_places b test now ≡ piece_places b test nic)
      → ((test : Place → Bool) (app : AppSide) → app_places b test now app ≡ app_places b test nic app) → StaysByLine now
  AreByLine-like now pieces same =
      AreByLine-card now
      (λ test. omega (
        arith,
        places-parts b test nic apps,
        places-parts b test now apps,
        pieces test,
        total-agree (app_places b test now) (app_places b test nic) (same test) apps,
      ))
      (λ test app. omega (arith, same test app))

  pub AreByLine-text_done : (own : Filling) (bytes : List ℕ) (making : Making) → nic.inside.making ≡ Some making
      → making.place ≡ next_place own (length bytes) → StaysByLine (making_at nic (text_done nic.view own bytes) None)
  AreByLine-text_done own bytes making busy place =
      AreByLine-card (making_at nic (text_done nic.view own bytes) None)
      (λ test. omega (arith, places-text_done b test nic apps own bytes making busy place)) (λ test app. omega arith)

  -- The new piece begins with a line, and nothing of its buffer ends behind that: the lines that it has bytes of had none.
  pub AreByLine-begun : (own : Filling) (n : ℕ) (words : List ℕ) → HasOwn nic.view own → nic.inside.making ≡ None → FillingsFit nic apps → ArePlaced b nic apps
      → StaysByLine (making_at nic (begun nic.view own n) (Some (record { place = next_place own n; bytes = words })))
  AreByLine-begun own n words out idle fit placed rule x =
      let now = making_at nic (begun nic.view own n) (Some (record { place = next_place own n; bytes = words })) in
      let p = next_place own n in
      let ps = places_of b nic apps in
      let all = places-begun b (touches x) nic apps own n words idle in
      let same : (app : AppSide) → app_places b (touches x) now app ≡ app_places b (touches x) nic app = λ app. refl in
      let aligned = (FillingsFit-own nic apps own out fit).0.aligned in
      let mine = in_buffer b (touches x) p in
      ⊎_elim
      (λ e.
      let at = and_parts (own.buffer == b) (touches x p) e in
      let there = and_parts (nat_lt own.start (64 * x + 64)) (nat_lt (64 * x) (own.start + n)) at.1 in
      let begins : own.start < 64 * x + 64 = ltb-true own.start (64 * x + 64) there.0 in
      let none = All-contains (IsBehind b nic apps) nic.view.owns own placed.behind out (eqb-true own.buffer b at.0) in
      one-place b x now apps (omega (
        arith,
        all,
        one_if-le mine,
        none,
        count-tally (ends_behind own.start) ps,
        tally-fewer (touches x) (ends_behind own.start) (λ q. touch-ends own.start x q (omega arith)) ps,
      )))
      (λ e. by-card now x (omega (arith, ap one_if e)) (λ a app here. omega (arith, same app, ap one_if e)) (rule x))
      (cases_Bool mine)

  -- what was a piece of the card's is an application's
  pub AreByLine-sent : (a : ℕ) (note : Note) (app : AppSide) → HasPiece nic.view note.place → note.split ≡ true → AreNumbered 0 apps → IsApp apps a app
      → length app.view.taken ≤ length (sent_to a nic) → StaysByLine (nic_at nic (sent nic.view a note))
  AreByLine-sent a note app out split numbered here within =
      AreByLine-card (nic_at nic (sent nic.view a note)) (λ test. omega (arith, places-sent b test nic apps a note app out split numbered here within))
      (λ test other. way-more b test nic other (sent nic.view a note) _ refl refl)

  pub AreByLine-sent_linear : (a : ℕ) (note : Note) (bytes : List ℕ) (app : AppSide) → note.split ≡ false → AreNumbered 0 apps → IsApp apps a app
      → length app.view.taken ≤ length (sent_to a nic) → StaysByLine (nic_at nic (sent_linear nic.view a note bytes))
  AreByLine-sent_linear a note bytes app split numbered here within =
      AreByLine-card (nic_at nic (sent_linear nic.view a note bytes))
      (λ test. omega (arith, places-sent_linear b test nic apps a note bytes app split numbered here within))
      (λ test other. way-more b test nic other (sent_linear nic.view a note bytes) _ refl refl)

-- its entry in hand changes, or it dealt with an entry: no application has more places
pub AreByLine-stretch : (b : ℕ) (nic nic' : NicSide) (apps : List AppSide) → nic'.view.sent ≡ nic.view.sent → nic'.view.pieces ≡ nic.view.pieces
    → nic'.inside.making ≡ nic.inside.making
    → ((app : AppSide) → Contains apps app → returning_count b nic app ≤ ended_in b nic app)
    → ((app : AppSide) → Contains apps app → returning_count b nic' app ≤ ended_in b nic' app)
    → ((app : AppSide) → Contains apps app → ended_in b nic app + returning_count b nic' app ≤ ended_in b nic' app + returning_count b nic app)
    → AreByLine b nic apps → AreByLine b nic' apps
AreByLine-stretch b nic nic' apps sents pieces making small small' later rule x =
    let t = touches x in
    let same : piece_places b t nic' ≡ piece_places b t nic = rw (pieces, making) refl in
    let each : (app : AppSide) → Contains apps app → app_places b t nic' app ≤ app_places b t nic app =
    λ app has. app_places-stretch b t nic nic' app app.inside sents (small app has) (small' app has) (later app has) in
    by-card b nic apps nic' x (places-stretch b t nic nic' apps sents pieces making small small' later)
    (λ a app here. omega (
      arith,
      places-parts b t nic apps,
      places-parts b t nic' apps,
      same,
      total-others (app_places b t nic') (app_places b t nic) apps a app each here.there here.is,
    ))
    (rule x)

pub AreByLine-opened : (b : ℕ) (setting : Setting) (apps : List AppSide) → All (IsNew setting) apps → AreByLine b (new_nic setting) apps
AreByLine-opened b setting apps news x =
    inl (omega (arith, places-none b (touches x) (new_nic setting) apps (pool_count-opened b setting apps news)))
