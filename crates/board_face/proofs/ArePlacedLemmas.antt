-- The places of a buffer stay as they are to be under each event: none is empty, none ends behind the buffer, no byte lies
-- in two, and none ends behind where the card fills next.
use Rattle.std.{specs.Prelude.{◌≢◌}, proofs.Common.{◌≡◌, ℕ, ◌+◌, ◌-◌, ◌<◌, ◌≤◌, Bool, true, false, cond, List, [], ◌∷◌, ◌++◌, length, get_or, set}}
use Rattle.board_face.proofs.Counting.{All-none as none-of}
use Rattle.zr_kinds.{proofs.Booleans.{if-none}, specs.declared.place.{Place.{Place}, Note.{Note}}}
use Rattle.board_face.{specs.BoardSteps.{AppStep, AppCan, app_view, lends, spares}, proofs.PlacesByEvent.{app_places-then}}
use Rattle.board_face.specs.Holdings.{app_ends, app_begins, weight_in as weights}
use Rattle.board_face.proofs.PlaceTallies.{placed as placed_test}
use Rattle.std.proofs.Common.{drop, refl, ap, subst, ⊎_elim, arith, length-drop, length-take}
use Rattle.std.specs.Prelude.{filter, ◌==◌, ◌&&◌, nat_lt, nat_le, count_by, All, Contains, Some, None}
use Rattle.std.proofs.lemmas.{Bool.{eq-eqb, cases_lt, lt-ltb, le-ltb, lt-leb, le-leb, Decides.{eqb_tells}}, List.Elements.{All-push, All-weaker, All-contains}}
use Rattle.area_layout.specs.Layout.{IsLayout, size_of}
use Rattle.board_face.specs.{Lists.{without}, Tokens.{next_start, next_place, filled_by, same_filling}, Texts.{front_place, rest_place}}
use Rattle.board_face.specs.NicEvents.{begun, text_done, fresh, took, swept, placed, sent, sent_linear, shut}
use Rattle.board_face.specs.AppEvents.{cut, released, lent, abandoned, gave, spare_begun, owns_without, filled, own_bytes}
use Rattle.board_face.specs.{AppEvents.{begin_place, lent_own}, NicCalls.{HasOwn, HasPiece}, AppCalls.{HasHeld, HasLoan, HasSpare, IsFilled}}
use Rattle.board_face.specs.Sides.{nic_at, app_at, IsApp, AreNumbered}
use Rattle.board_face.specs.Holders.{sent_to, on_way, returned_in, ended_in, returning_count, owed_in, returning_in, making_places}
use Rattle.board_face.specs.{Counts.{pool_count, EndedWereReturned}, Fillings.{IsFilledByOne, FillingsFit}}
use Rattle.board_face.specs.{Places.{places_of, has_byte, is_empty, ends_behind, ArePlaced}, declared.views.parts.{Filling.{Filling}, Making.{Making}}}
use Rattle.board_face.specs.declared.views.{nic.{PlacedText.{PlacedText}, SentNote.{SentNote}, NicView.{NicView}, NicSide.{NicSide}}, app.HeldPiece.{HeldPiece}}
use Rattle.board_face.specs.declared.views.app.{LentPiece.{LentPiece}, SpareOwn.{SpareOwn}, AppSide.{AppSide}}
use Rattle.board_face.proofs.{ListLemmas.{All-without, not-eqb}, Tallies.{total-le, one_if, tally, tally-le, tally-push, one_if-le, total-set}}
use Rattle.board_face.proofs.{Parts.{owns_in, spares_in, app_count, returned_in-count, pool_count-parts, count-tally}, NicLemmas.{making_at, owns-without}}
use Rattle.board_face.proofs.AppLemmas.{pool_count-app, owns-without as spares-without}
use Rattle.board_face.proofs.PlaceTallies.{in_buffer, piece_places, app_places, places-parts}
use Rattle.board_face.proofs.PlacesByEvent.{places-stretch, places-nic, places-placed, places-begun, places-text_done, places-sent}
use Rattle.board_face.proofs.PlacesByEvent.{places-sent_linear, places-app, app_places-cut, app_places-released, app_places-abandoned}
use Rattle.board_face.proofs.{PlacesByEvent.{app_places-lent_own}, IsFilledByOneLemmas.{fillings-one, fillings-alone}}
use Rattle.board_face.{proofs.FillingsFitLemmas.{FillingsFit-own, FillingsFit-spare, few-within}}

-- ---- a buffer has no more places than holders

-- no place of the buffer ends behind where this is filled next, if it is the same buffer
abbrev pub IsBehind : ℕ → NicSide → List AppSide → Filling → Type 0
IsBehind b nic apps o = o.buffer ≡ b → count_by (ends_behind o.start) (places_of b nic apps) ≡ 0

left-weight : (c d : Bool) → one_if (c && d) ≤ one_if c
left-weight true d = one_if-le d
left-weight false d = omega arith

pub right-weight : (c d : Bool) → one_if (c && d) ≤ one_if d
right-weight true d = omega arith
right-weight false d = omega arith

-- a test that is met by no more
pub tally-fewer : {A : Type 0} (p q : A → Bool) → ((x : A) → one_if (p x) ≤ one_if (q x)) → (xs : List A) → tally p xs ≤ tally q xs
tally-fewer p q less [] = omega arith
tally-fewer p q less (x ∷ xs) = omega (arith, less x, tally-fewer p q less xs)

less-case : {A : Type 0} (test : A → Bool) (c : Bool) (x : A) (xs ys : List A) → tally test ys ≤ tally test xs
    → tally test (cond c xs (x ∷ ys)) ≤ one_if (test x) + tally test xs
less-case test true x xs ys less = omega arith
less-case test false x xs ys less = omega arith

-- where an element is taken out, or none, no more meet a test
pub tally-without_le : {A : Type 0} (test m : A → Bool) (xs : List A) → tally test (without m xs) ≤ tally test xs
tally-without_le test m [] = omega arith
tally-without_le test m (x ∷ xs) = less-case test (m x) x xs (without m xs) (tally-without_le test m xs)

few-in : {A : Type 0} (b : ℕ) (test : Place → Bool) (f : A → Place) (xs : List A)
    → tally (λ x. in_buffer b test (f x)) xs ≤ tally (λ x. (f x).buffer == b) xs
few-in b test f xs = tally-fewer (λ x. in_buffer b test (f x)) (λ x. (f x).buffer == b) (λ x. left-weight ((f x).buffer == b) (test (f x))) xs

few-spare : (b : ℕ) (test : Place → Bool) (s : SpareOwn)
    → one_if (nat_lt 0 (length s.bytes) && in_buffer b test (begin_place s.own.buffer (length s.bytes))) ≤ one_if (s.own.buffer == b)
few-spare b test s =
    let place = begin_place s.own.buffer (length s.bytes) in
    omega (arith, right-weight (nat_lt 0 (length s.bytes)) (in_buffer b test place), left-weight (s.own.buffer == b) (test place))

pub app_places-le : (b : ℕ) (test : Place → Bool) (nic : NicSide) (app : AppSide) → app_places b test nic app ≤ app_count b nic app
app_places-le b test nic app =
    let sents = few-in b test (λ (s : SentNote). s.note.place) (filter (λ s. s.note.split) (on_way nic app)) in
    let helds = few-in b test (λ (h : HeldPiece). h.place) app.view.helds in
    let loans = few-in b test (λ (l : LentPiece). l.place) app.view.loans in
    let spares = tally-fewer (λ (s : SpareOwn). nat_lt 0 (length s.bytes) && in_buffer b test (begin_place s.own.buffer (length s.bytes)))
    (λ s. s.own.buffer == b) (few-spare b test) app.view.owns in
    let h = ended_in b nic app in
    let r = returning_count b nic app in
    let many = returned_in-count b app in
    let oweds = tally-le test (owed_in b nic app) in
    let oweds_many = length-drop h (returned_in b app) in
    let returnings = tally-le test (returning_in b nic app) in
    let returnings_many = length-take r (drop (h - r) (returned_in b app)) in
    let returnings_left = length-drop (h - r) (returned_in b app) in
    omega arith

-- a buffer has no more places than holders that don't fill it for the card
pub places-held : (b : ℕ) (test : Place → Bool) (nic : NicSide) (apps : List AppSide)
    → tally test (places_of b nic apps) + owns_in b nic ≤ pool_count b nic apps
places-held b test nic apps =
    let pieces = few-in b test (λ (p : PlacedText). p.place) nic.view.pieces in
    let making = few-in b test (λ (p : Place). p) (making_places nic.inside.making) in
    omega (
      arith,
      pieces,
      making,
      places-parts b test nic apps,
      pool_count-parts b nic apps,
      total-le (app_places b test nic) (app_count b nic) apps (λ app _. app_places-le b test nic app),
    )

-- a buffer that nobody has has no place
pub places-none : (b : ℕ) (test : Place → Bool) (nic : NicSide) (apps : List AppSide) → pool_count b nic apps ≡ 0
    → count_by test (places_of b nic apps) ≡ 0
places-none b test nic apps free = omega (arith, free, places-held b test nic apps, count-tally test (places_of b nic apps))

-- ---- where no place comes

none-more : (test : Place → Bool) (ps ps' : List Place) → tally test ps' ≤ tally test ps → count_by test ps ≡ 0 → count_by test ps' ≡ 0
none-more test ps ps' fewer none = omega (arith, count-tally test ps, count-tally test ps', fewer, none)

-- where no place comes, and the card's buffers for filling fit the places that there were, all stays as it is to be
pub ArePlaced-fewer : (b : ℕ) (nic nic' : NicSide) (apps apps' : List AppSide) → nic'.view.setting ≡ nic.view.setting
    → ((test : Place → Bool) → tally test (places_of b nic' apps') ≤ tally test (places_of b nic apps)) → All (IsBehind b nic apps) nic'.view.owns
    → ArePlaced b nic apps → ArePlaced b nic' apps'
ArePlaced-fewer b nic nic' apps apps' setting fewer owns sound =
    let ps = places_of b nic apps in
    let ps' = places_of b nic' apps' in
    record {
      some_bytes = none-more is_empty ps ps' (fewer is_empty) sound.some_bytes;
      within = rw setting (none-more (ends_behind (size_of nic.view.setting.layout b)) ps ps' (fewer _) sound.within);
      apart = λ x. omega (arith, sound.apart x, count-tally (has_byte x) ps, count-tally (has_byte x) ps', fewer (has_byte x));
      behind = All-weaker (IsBehind b nic apps) (IsBehind b nic' apps')
          (λ o is here. none-more (ends_behind o.start) ps ps' (fewer _) (is here)) nic'.view.owns owns;
    }

module _ (b : ℕ) (nic : NicSide) (apps : List AppSide) where
  -- it stays so where the card's side is this
  abbrev pub CardStays : NicSide → Type 0
  CardStays now = ArePlaced b nic apps → ArePlaced b now apps

  -- the card's buffers for filling are the same
  pub ArePlaced-card : (now : NicSide) → now.view.setting ≡ nic.view.setting → now.view.owns ≡ nic.view.owns
      → ((test : Place → Bool) → tally test (places_of b now apps) ≤ tally test (places_of b nic apps)) → CardStays now
  ArePlaced-card now setting owns fewer sound = ArePlaced-fewer b nic now apps apps setting fewer (rw owns sound.behind) sound

  -- an event of the card that leaves its pieces, notes and entries
  ArePlaced-owns : (v : NicView) → v.setting ≡ nic.view.setting → v.pieces ≡ nic.view.pieces → v.sent ≡ nic.view.sent → v.dealt ≡ nic.view.dealt
      → All (IsBehind b nic apps) v.owns → CardStays (nic_at nic v)
  ArePlaced-owns v setting pieces sents deals owns sound =
      let same : (test : Place → Bool) → piece_places b test (nic_at nic v) ≡ piece_places b test nic = λ test. rw pieces refl in
      ArePlaced-fewer b nic (nic_at nic v) apps apps setting (λ test. omega (arith, same test, places-nic b test nic v apps sents deals)) owns sound

  -- and its buffers for filling too
  pub ArePlaced-nic : (v : NicView) → v.setting ≡ nic.view.setting → v.owns ≡ nic.view.owns → v.pieces ≡ nic.view.pieces → v.sent ≡ nic.view.sent
      → v.dealt ≡ nic.view.dealt → CardStays (nic_at nic v)
  ArePlaced-nic v setting owns pieces sents deals sound = ArePlaced-owns v setting pieces sents deals (rw owns sound.behind) sound

  pub ArePlaced-swept : (word : ℕ) (found : List ℕ) → CardStays (nic_at nic (swept nic.view word found))
  ArePlaced-swept word found sound = ArePlaced-nic (swept nic.view word found) refl refl refl refl refl sound

  -- a buffer is taken that nobody has, so no place lies in it
  pub ArePlaced-took : (buffer : ℕ) → pool_count buffer nic apps ≡ 0 → CardStays (nic_at nic (took nic.view buffer))
  ArePlaced-took buffer free sound =
      ArePlaced-owns (took nic.view buffer) refl refl refl refl
      (All-push (IsBehind b nic apps) nic.view.owns (fresh nic.view.setting buffer) sound.behind
      (λ e. places-none b (ends_behind 0) nic apps (subst (λ c. pool_count c nic apps ≡ 0) e free)))
      sound

  pub ArePlaced-shut : (own : Filling) (last : Bool) → CardStays (nic_at nic (shut nic.view own last))
  ArePlaced-shut own last sound =
      ArePlaced-owns (shut nic.view own last) refl refl refl refl (All-without (IsBehind b nic apps) (same_filling own) nic.view.owns sound.behind) sound

  pub ArePlaced-sent : (a : ℕ) (note : Note) (app : AppSide) → HasPiece nic.view note.place → note.split ≡ true → AreNumbered 0 apps → IsApp apps a app
      → length app.view.taken ≤ length (sent_to a nic) → CardStays (nic_at nic (sent nic.view a note))
  ArePlaced-sent a note app out split numbered here within =
      ArePlaced-card (nic_at nic (sent nic.view a note)) refl refl
      (λ test. omega (arith, places-sent b test nic apps a note app out split numbered here within))

  pub ArePlaced-sent_linear : (a : ℕ) (note : Note) (bytes : List ℕ) (app : AppSide) → note.split ≡ false → AreNumbered 0 apps → IsApp apps a app
      → length app.view.taken ≤ length (sent_to a nic) → CardStays (nic_at nic (sent_linear nic.view a note bytes))
  ArePlaced-sent_linear a note bytes app split numbered here within =
      ArePlaced-card (nic_at nic (sent_linear nic.view a note bytes)) refl refl
      (λ test. omega (arith, places-sent_linear b test nic apps a note bytes app split numbered here within))

  pub ArePlaced-text_done : (own : Filling) (bytes : List ℕ) (making : Making) → nic.inside.making ≡ Some making
      → making.place ≡ next_place own (length bytes) → CardStays (making_at nic (text_done nic.view own bytes) None)
  ArePlaced-text_done own bytes making busy place =
      ArePlaced-card (making_at nic (text_done nic.view own bytes) None) refl refl
      (λ test. omega (arith, places-text_done b test nic apps own bytes making busy place))

-- ---- where one place comes

-- no element has this number, so any fact holds of those that have it
pub All-none : {A : Type 0} (f : A → ℕ) (b : ℕ) (P : A → Type 0) (xs : List A) → tally (λ x. f x == b) xs ≡ 0 → All (λ x. f x ≡ b → P x) xs
All-none f b P xs none =
    All-weaker (λ x. f x ≢ b) (λ x. f x ≡ b → P x) (λ x other e. absurd (other e)) xs (none-of f b xs none)

end-weight : (m n e : ℕ) → m ≤ n → one_if (nat_lt n e) ≤ one_if (nat_lt m e)
end-weight m n e le =
    ⊎_elim
    (λ less. let one : one_if (nat_lt m e) ≡ 1 = ap one_if (lt-ltb m e (omega arith)) in omega (arith, one_if-le (nat_lt n e)))
    (λ more. let none : one_if (nat_lt n e) ≡ 0 = ap one_if (le-ltb n e more) in omega arith)
    (cases_lt n e)

-- a place that has a byte ends behind each byte before
byte-ends : (m x : ℕ) (p : Place) → m ≤ x → one_if (has_byte x p) ≤ one_if (ends_behind m p)
byte-ends m x p le = omega (arith, right-weight (nat_le p.offset x) (nat_lt x (p.offset + p.len)), end-weight m x (p.offset + p.len) le)

-- where no place ends behind m, none has a byte from m on, and none ends behind a later one
pub none-has : (m x : ℕ) (ps : List Place) → m ≤ x → count_by (ends_behind m) ps ≡ 0 → count_by (has_byte x) ps ≡ 0
none-has m x ps le none = omega (
  arith,
  none,
  count-tally (has_byte x) ps,
  count-tally (ends_behind m) ps,
  tally-fewer (has_byte x) (ends_behind m) (λ p. byte-ends m x p le) ps,
)

pub none-later : (m x : ℕ) (ps : List Place) → m ≤ x → count_by (ends_behind m) ps ≡ 0 → count_by (ends_behind x) ps ≡ 0
none-later m x ps le none = omega (
  arith,
  none,
  count-tally (ends_behind x) ps,
  count-tally (ends_behind m) ps,
  tally-fewer (ends_behind x) (ends_behind m) (λ p. end-weight m x (p.offset + p.len) le) ps,
)

not-empty : (p : Place) → 0 < p.len → one_if (is_empty p) ≡ 0
not-empty p some_bytes = ap one_if (not-eqb p.len 0 (λ e. absurd (omega arith)))

pub not-behind : (x : ℕ) (p : Place) → p.offset + p.len ≤ x → one_if (ends_behind x p) ≡ 0
not-behind x p within = ap one_if (le-ltb x (p.offset + p.len) within)

before-byte : (x : ℕ) (p : Place) → x < p.offset → one_if (has_byte x p) ≡ 0
before-byte x p before = omega (arith, left-weight (nat_le p.offset x) (nat_lt x (p.offset + p.len)), ap one_if (lt-leb p.offset x before))

pub in-none : (b : ℕ) (test : Place → Bool) (p : Place) → one_if (test p) ≡ 0 → one_if (in_buffer b test p) ≡ 0
in-none b test p none = omega (arith, none, right-weight (p.buffer == b) (test p))

pub in-other : (b : ℕ) (test : Place → Bool) (p : Place) → (p.buffer == b) ≡ false → one_if (in_buffer b test p) ≡ 0
in-other b test p other = ap (λ c. one_if (c && test p)) other

one-none : (b : ℕ) (test : Place → Bool) (ps ps' : List Place) (p : Place) → tally test ps' ≤ tally test ps + one_if (in_buffer b test p)
    → one_if (in_buffer b test p) ≡ 0 → count_by test ps ≡ 0 → count_by test ps' ≡ 0
one-none b test ps ps' p more none was = omega (arith, more, none, was, count-tally test ps, count-tally test ps')

-- Where one place comes that has bytes and ends within its buffer, where no place of its buffer ended behind its begin, and
-- where the card's buffers for filling are filled next behind it, all stays as it is to be.
pub ArePlaced-more : (b : ℕ) (nic nic' : NicSide) (apps apps' : List AppSide) (p : Place) → nic'.view.setting ≡ nic.view.setting
    → ((test : Place → Bool) → tally test (places_of b nic' apps') ≤ tally test (places_of b nic apps) + one_if (in_buffer b test p))
    → 0 < p.len → p.offset + p.len ≤ size_of nic.view.setting.layout p.buffer
    → (p.buffer ≡ b → count_by (ends_behind p.offset) (places_of b nic apps) ≡ 0)
    → All (IsBehind b nic apps) nic'.view.owns → (p.buffer ≡ b → All (λ o. o.buffer ≡ b → p.offset + p.len ≤ o.start) nic'.view.owns)
    → ArePlaced b nic apps → ArePlaced b nic' apps'
ArePlaced-more b nic nic' apps apps' p setting more some_bytes within free owns behind sound =
    let ps = places_of b nic apps in
    let ps' = places_of b nic' apps' in
    ⊎_elim
    (λ t.
    let none = free t.1 in
    let later = behind t.1 in
    let ends = subst (λ c. p.offset + p.len ≤ size_of nic.view.setting.layout c) t.1 within in
    record {
      some_bytes = one-none b is_empty ps ps' p (more is_empty) (in-none b is_empty p (not-empty p some_bytes)) sound.some_bytes;
      within = rw setting (let n = size_of nic.view.setting.layout b in one-none b (ends_behind n) ps ps' p (more (ends_behind n))
          (in-none b (ends_behind n) p (not-behind n p ends)) sound.within);
      apart = λ x.
          let one = one_if-le (in_buffer b (has_byte x) p) in
          let here = more (has_byte x) in
          ⊎_elim
          (λ before. omega (
            arith,
            sound.apart x,
            here,
            in-none b (has_byte x) p (before-byte x p before),
            count-tally (has_byte x) ps,
            count-tally (has_byte x) ps',
          ))
          (λ from. omega (arith, none-has p.offset x ps from none, here, one, count-tally (has_byte x) ps, count-tally (has_byte x) ps'))
          (cases_lt x p.offset);
      behind = λ k d small e.
          let o = get_or nic'.view.owns k d in
          one-none b (ends_behind o.start) ps ps' p (more (ends_behind o.start)) (in-none b (ends_behind o.start) p (not-behind o.start p (later k d small e)))
          (owns k d small e);
    })
    (λ t. ArePlaced-fewer b nic nic' apps apps' setting (λ test. omega (arith, more test, in-other b test p t.0)) owns sound)
    (eqb_tells p.buffer b)

-- The card fills n bytes more of a buffer: they lie behind all places of it, and the next begin behind them.
placed-on : (b : ℕ) (nic nic' : NicSide) (apps : List AppSide) (own : Filling) (n : ℕ) → HasOwn nic.view own → 0 < n → own.start + n ≤ own.size
    → FillingsFit nic apps → IsFilledByOne b nic apps
    → nic'.view.setting ≡ nic.view.setting → nic'.view.owns ≡ without (same_filling own) nic.view.owns ++ filled_by own n ∷ []
    → ((test : Place → Bool) → tally test (places_of b nic' apps)
    ≤ tally test (places_of b nic apps) + one_if (in_buffer b test (next_place own n)))
    → ArePlaced b nic apps → ArePlaced b nic' apps
placed-on b nic nic' apps own n out some_bytes within fit by_one setting owns more sound =
    let rest = without (same_filling own) nic.view.owns in
    let p = next_place own n in
    let is = FillingsFit-own nic apps own out fit in
    let size = is.1 in
    let free : IsBehind b nic apps own = All-contains (IsBehind b nic apps) nic.view.owns own sound.behind out in
    let one = fillings-one b nic apps by_one in
    let mine = owns-without b nic own out in
    let others : own.buffer ≡ b → All (λ (o : Filling). o.buffer ≡ b → p.offset + p.len ≤ o.start) rest = λ e.
    let here : one_if (own.buffer == b) ≡ 1 = ap one_if (eq-eqb own.buffer b e) in
    All-none (λ (o : Filling). o.buffer) b (λ o. p.offset + p.len ≤ o.start) rest (omega arith) in
    ArePlaced-more b nic nic' apps apps p setting more some_bytes (omega arith) free
    (rw owns (All-push (IsBehind b nic apps) rest (filled_by own n) (All-without (IsBehind b nic apps) (same_filling own) nic.view.owns sound.behind)
    (λ e. none-later own.start (next_start (own.start + n)) (places_of b nic apps) (omega arith) (free e))))
    (λ e. rw owns (All-push (λ (o : Filling). o.buffer ≡ b → p.offset + p.len ≤ o.start) rest (filled_by own n) (others e) (λ _. omega arith)))
    sound

pub ArePlaced-placed : (b : ℕ) (nic : NicSide) (apps : List AppSide) (own : Filling) (bytes : List ℕ) → HasOwn nic.view own → 0 < length bytes
    → own.start + length bytes ≤ own.size → FillingsFit nic apps → IsFilledByOne b nic apps
    → ArePlaced b nic apps → ArePlaced b (nic_at nic (placed nic.view own bytes)) apps
ArePlaced-placed b nic apps own bytes out some_bytes within fit by_one sound =
    placed-on b nic (nic_at nic (placed nic.view own bytes)) apps own (length bytes) out some_bytes within fit by_one refl refl
    (λ test. omega (arith, places-placed b test nic apps own bytes)) sound

-- the two parts of a placing
pub ArePlaced-begun : (b : ℕ) (nic : NicSide) (apps : List AppSide) (own : Filling) (n : ℕ) (bytes : List ℕ) → HasOwn nic.view own → 0 < n
    → own.start + n ≤ own.size → nic.inside.making ≡ None → FillingsFit nic apps → IsFilledByOne b nic apps
    → ArePlaced b nic apps → ArePlaced b (making_at nic (begun nic.view own n) (Some (record { place = next_place own n; bytes = bytes }))) apps
ArePlaced-begun b nic apps own n bytes out some_bytes within idle fit by_one sound =
    placed-on b nic (making_at nic (begun nic.view own n) (Some
    (record { place = next_place own n; bytes = bytes }))) apps own n out some_bytes within fit by_one refl refl
    (λ test. omega (arith, places-begun b test nic apps own n bytes idle)) sound

-- ---- an application's events

module _ (b : ℕ) (nic : NicSide) (apps : List AppSide) (a : ℕ) (app : AppSide) where
  -- it stays so where the application's side is this
  abbrev pub SideStays : AppSide → Type 0
  SideStays now = ArePlaced b nic apps → ArePlaced b nic (set apps a now)

  -- an event by which this application has no more places
  pub ArePlaced-app : (now : AppSide) → IsApp apps a app → ((test : Place → Bool) → app_places b test nic now ≤ app_places b test nic app) → SideStays now
  ArePlaced-app now here fewer sound =
      ArePlaced-fewer b nic nic apps (set apps a now) refl (λ test. omega (arith, places-app b test nic apps a app now here, fewer test)) sound.behind sound

  -- a step by which no place comes
  pub ArePlaced-by : (step : AppStep) → IsApp apps a app → AppCan step nic app
      → ((test : Place → Bool) → weights (placed_test test) b (app_begins app.view.app step app.view) ≤ weights (placed_test test) b (app_ends app.view.app step app.view))
      → SideStays (app_at app (app_view step app.view))
  ArePlaced-by step here can fewer =
      ArePlaced-app (app_at app (app_view step app.view)) here (λ test. omega (arith, app_places-then step b test nic app can, fewer test))

  pub ArePlaced-lent : (place : Place) → IsApp apps a app → HasHeld app.view place → SideStays (app_at app (lent app.view place))
  ArePlaced-lent place here out = ArePlaced-by (lends place) here out (λ test. omega arith)

  pub ArePlaced-abandoned : (place : Place) → IsApp apps a app → HasLoan app.view place → EndedWereReturned b nic app
      → SideStays (app_at app (abandoned app.view place))
  ArePlaced-abandoned place here out ended =
      ArePlaced-app (app_at app (abandoned app.view place)) here (λ test. omega (arith, app_places-abandoned b test nic app place out ended))

  pub ArePlaced-lent_own : (own : Filling) → IsApp apps a app → IsFilled app.view own → SideStays (app_at app (lent_own app.view own))
  ArePlaced-lent_own own here some_bytes =
      ArePlaced-app (app_at app (lent_own app.view own)) here
      (λ test. omega (arith, app_places-lent_own b test nic app own (lt-ltb 0 (length (own_bytes app.view own)) some_bytes)))

pub app_places-gave : (b : ℕ) (test : Place → Bool) (nic : NicSide) (app : AppSide) (place : Place) → HasLoan app.view place
    → EndedWereReturned b nic app → app_places b test nic (app_at app (gave app.view place)) ≡ app_places b test nic app
app_places-gave = app_places-abandoned

pub app_places-spare_begun : (b : ℕ) (test : Place → Bool) (nic : NicSide) (app : AppSide) (buffer : ℕ)
    → app_places b test nic (app_at app (spare_begun app.view buffer)) ≡ app_places b test nic app
app_places-spare_begun b test nic app buffer = omega (arith, app_places-then (spares buffer) b test nic app tt, if-none (buffer == b) 0 refl)

-- ---- a piece that is cut

both-weight : (c d e : Bool) → one_if d ≤ one_if e → one_if (c && d) ≤ one_if (c && e)
both-weight true d e le = le
both-weight false d e le = omega arith

-- the two parts of a place end behind no byte behind which it doesn't end
pub front-ends : (b x : ℕ) (place : Place) (at : ℕ) → at ≤ place.len
    → one_if (in_buffer b (ends_behind x) (front_place place at)) ≤ one_if (in_buffer b (ends_behind x) place)
front-ends b x place at within =
    both-weight (place.buffer == b) (ends_behind x (front_place place at)) (ends_behind x place)
    (⊎_elim
    (λ less. let one : one_if (ends_behind x place) ≡ 1 = ap one_if (lt-ltb x (place.offset + place.len) (omega arith)) in omega
    (arith, one_if-le (ends_behind x (front_place place at))))
    (λ more. omega (arith, not-behind x (front_place place at) more))
    (cases_lt x (place.offset + at)))

pub rest-ends : (b x : ℕ) (place : Place) (at : ℕ) → at ≤ place.len
    → one_if (in_buffer b (ends_behind x) (rest_place place at)) ≤ one_if (in_buffer b (ends_behind x) place)
rest-ends b x place at within =
    let same : place.offset + at + (place.len - at) ≡ place.offset + place.len = omega arith in
    let is : one_if (ends_behind x (rest_place place at)) ≡ one_if (ends_behind x place) = ap (λ e. one_if (nat_lt x e)) same in
    both-weight (place.buffer == b) (ends_behind x (rest_place place at)) (ends_behind x place) (omega (arith, is))

-- and have each byte of it once
parts-once : (b x : ℕ) (place : Place) (at : ℕ) → at ≤ place.len
    → one_if (in_buffer b (has_byte x) (front_place place at)) + one_if (in_buffer b (has_byte x) (rest_place place at))
    ≤ one_if (in_buffer b (has_byte x) place)
parts-once b x place at within =
    ⊎_elim
    (λ front.
    let no_rest = in-none b (has_byte x) (rest_place place at) (before-byte x (rest_place place at) front) in
    let mine = both-weight (place.buffer == b) (has_byte x (front_place place at)) (has_byte x place)
    (both-weight (nat_le place.offset x) (nat_lt x (place.offset + at)) (nat_lt x (place.offset + place.len))
    (let one : one_if (nat_lt x (place.offset + place.len)) ≡ 1 = ap one_if (lt-ltb x (place.offset + place.len) (omega arith)) in omega
    (arith, one_if-le (nat_lt x (place.offset + at))))) in
    omega (arith, no_rest, mine))
    (λ rest.
    let no_front : one_if (in_buffer b (has_byte x) (front_place place at))
    ≡ 0 = in-none b (has_byte x) (front_place place at)
    (omega (arith, right-weight (nat_le place.offset x) (nat_lt x (place.offset + at)), not-behind x (front_place place at) rest)) in
    let same : place.offset + at + (place.len - at) ≡ place.offset + place.len = omega arith in
    let ends : one_if (nat_lt x (place.offset + at + (place.len - at)))
    ≡ one_if (nat_lt x (place.offset + place.len)) = ap (λ e. one_if (nat_lt x e)) same in
    let begins : one_if (nat_le place.offset x) ≡ 1 = ap one_if (le-leb place.offset x (omega arith)) in
    let both : one_if (has_byte x place) ≡ one_if (nat_lt x (place.offset + place.len)) = ap (λ c. one_if (c && nat_lt x (place.offset + place.len)))
    (le-leb place.offset x (omega arith)) in
    let mine = both-weight (place.buffer == b) (has_byte x (rest_place place at)) (has_byte x place)
    (omega (arith, right-weight (nat_le (place.offset + at) x) (nat_lt x (place.offset + at + (place.len - at))), ends, both)) in
    omega (arith, no_front, mine))
    (cases_lt x (place.offset + at))

pub ArePlaced-cut : (b : ℕ) (nic : NicSide) (apps : List AppSide) (a : ℕ) (app : AppSide) (place : Place) (at : ℕ) → IsApp apps a app
    → HasHeld app.view place → 0 < at → at < place.len → ArePlaced b nic apps
    → ArePlaced b nic (set apps a (app_at app (cut app.view place at)))
ArePlaced-cut b nic apps a app place at here out front rest sound =
    let now = app_at app (cut app.view place at) in
    let less = app_at app (released app.view place) in
    let ps = places_of b nic apps in
    let ps' = places_of b nic (set apps a now) in
    let more : (test : Place → Bool) → tally test ps' + one_if (in_buffer b test place)
    ≡ tally test ps + (one_if (in_buffer b test (front_place place at)) + one_if (in_buffer b test (rest_place place at))) = λ test.
    omega (arith, places-app b test nic apps a app now here, app_places-cut b test nic app place at out) in
    let has : (test : Place → Bool) → one_if (in_buffer b test place) ≤ tally test ps = λ test.
    omega (arith, places-app b test nic apps a app less here, app_places-released b test nic app place out) in
    let ends : (x : ℕ) → count_by (ends_behind x) ps ≡ 0 → count_by (ends_behind x) ps' ≡ 0 = λ x none.
    omega (
      arith,
      none,
      count-tally (ends_behind x) ps,
      count-tally (ends_behind x) ps',
      more (ends_behind x),
      has (ends_behind x),
      front-ends b x place at (omega arith),
      rest-ends b x place at (omega arith),
    ) in
    record {
      some_bytes =
          let no_front = in-none b is_empty (front_place place at) (not-empty (front_place place at) front) in
          let no_rest = in-none b is_empty (rest_place place at) (not-empty (rest_place place at) (omega arith)) in
          omega (arith, sound.some_bytes, count-tally is_empty ps, count-tally is_empty ps', more is_empty, no_front, no_rest);
      within = ends (size_of nic.view.setting.layout b) sound.within;
      apart = λ x. omega (
        arith,
        sound.apart x,
        count-tally (has_byte x) ps,
        count-tally (has_byte x) ps',
        more (has_byte x),
        parts-once b x place at (omega arith),
      );
      behind = All-weaker (IsBehind b nic apps) (IsBehind b nic (set apps a now)) (λ o is e. ends o.start (is e)) nic.view.owns sound.behind;
    }

-- ---- a spare that is filled

-- the application without a spare
abbrev pub less_spare : AppSide → Filling → AppSide
less_spare app own = app_at app (record app.view { owns = owns_without app.view own })

-- nobody else has a spare's buffer
pub spare-free : (b : ℕ) (nic : NicSide) (apps : List AppSide) (a : ℕ) (app : AppSide) (own : Filling) → IsApp apps a app → HasSpare app.view own
    → IsFilledByOne b nic apps → own.buffer ≡ b → pool_count b nic (set apps a (less_spare app own)) ≡ 0
spare-free b nic apps a app own here out by_one e =
    let less = less_spare app own in
    let one : one_if (own.buffer == b) ≡ 1 = ap one_if (eq-eqb own.buffer b e) in
    let mine = spares-without b app.view own out in
    let all = total-set (spares_in b) apps a app less here.there here.is in
    let alone = fillings-alone b nic apps by_one (omega arith) in
    omega (arith, alone, one, mine, pool_count-app b nic apps a app less here)

-- a spare is filled from its begin, and nobody else has its buffer
pub ArePlaced-filled : (b : ℕ) (nic : NicSide) (apps : List AppSide) (a : ℕ) (app : AppSide) (own : Filling) (bytes : List ℕ) → IsApp apps a app
    → HasSpare app.view own → own.start ≡ 0 → 0 < length bytes → length bytes ≤ 256 → IsLayout nic.view.setting.layout
    → FillingsFit nic apps → IsFilledByOne b nic apps → ArePlaced b nic apps → ArePlaced b nic (set apps a (app_at app (filled app.view own bytes)))
ArePlaced-filled b nic apps a app own bytes here out begin some_bytes few layout fit by_one sound =
    let less = less_spare app own in
    let now = app_at app (filled app.view own bytes) in
    let place = begin_place own.buffer (length bytes) in
    let g : (Place → Bool) → SpareOwn → Bool = λ test s. nat_lt 0 (length s.bytes) && in_buffer b test (begin_place s.own.buffer (length s.bytes)) in
    let one : SpareOwn = record { own = filled_by own (length bytes); bytes = bytes } in
    let is = FillingsFit-spare nic apps a app own here out fit in
    let within = few-within nic own (length bytes) layout is begin few in
    let size = is.1 in
    let fewer : (test : Place → Bool) → app_places b test nic less
    ≤ app_places b test nic app = λ test. omega (arith, tally-without_le (g test) (λ (s : SpareOwn). same_filling own s.own) app.view.owns) in
    let sound_less = ArePlaced-app b nic apps a app less here fewer sound in
    let more : (test : Place → Bool) → tally test (places_of b nic (set apps a now))
    ≤ tally test (places_of b nic (set apps a less)) + one_if (in_buffer b test place) = λ test.
    omega (
      arith,
      places-app b test nic apps a app less here,
      places-app b test nic apps a app now here,
      tally-push (g test) (owns_without app.view own) one,
      right-weight (nat_lt 0 (length bytes)) (in_buffer b test place),
    ) in
    ArePlaced-more b nic nic (set apps a less) (set apps a now) place refl more some_bytes (omega arith)
    (λ e. places-none b (ends_behind 0) nic (set apps a less) (spare-free b nic apps a app own here out by_one e))
    sound_less.behind
    (λ e. let free = spare-free b nic apps a app own here out by_one e in
    All-none (λ (o : Filling). o.buffer) b (λ (o : Filling). place.offset + place.len ≤ o.start) nic.view.owns
    (omega (arith, free, places-held b is_empty nic (set apps a less))))
    sound_less

-- ---- what a board is in the middle of

-- The card's side changes in its entry in hand, or by an entry that was dealt with: for each application the stretch of what
-- is owed and returning begins no earlier.
pub ArePlaced-stretch : (b : ℕ) (nic nic' : NicSide) (apps : List AppSide) → nic'.view.setting ≡ nic.view.setting → nic'.view.owns ≡ nic.view.owns
    → nic'.view.sent ≡ nic.view.sent → nic'.view.pieces ≡ nic.view.pieces → nic'.inside.making ≡ nic.inside.making
    → ((app : AppSide) → Contains apps app → returning_count b nic app ≤ ended_in b nic app)
    → ((app : AppSide) → Contains apps app → returning_count b nic' app ≤ ended_in b nic' app)
    → ((app : AppSide) → Contains apps app → ended_in b nic app + returning_count b nic' app ≤ ended_in b nic' app + returning_count b nic app)
    → ArePlaced b nic apps → ArePlaced b nic' apps
ArePlaced-stretch b nic nic' apps setting owns sents pieces making small small' later sound =
    ArePlaced-fewer b nic nic' apps apps setting (λ test. places-stretch b test nic nic' apps sents pieces making small small' later)
    (rw owns sound.behind) sound
