-- What each event does to the places of a buffer: how many of them meet a test, as that a byte lies there.
use Rattle.board_face.specs.Holdings.{Hold, spare as kind_spare, here, card_weight, app_weight, weigh, kind_of, hold_place}
use Rattle.board_face.specs.declared.views.{parts.Filling.{Filling}, nic.PlacedText.{PlacedText}}
use Rattle.board_face.specs.declared.views.app.{HeldPiece.{HeldPiece}, LentPiece.{LentPiece}, SpareOwn.{SpareOwn}}
use Rattle.board_face.{proofs.{CardExchange.{sides}, Weighing.{kinds-weigh}, Sums.{none}}, specs.{AppEvents.{begin_place}, Holders.{on_way, owed_in, returning_in}}}
use Rattle.std.proofs.Common.{◌≡◌, ℕ, ◌+◌, ◌<◌, Bool, true, false, cond, List, [], ◌∷◌, length, refl, ap, ◌∙◌, arith, ⊎_elim}
use Rattle.std.{specs.{Prelude.{filter, ◌==◌, ◌&&◌, nat_lt, if◌then◌else◌, All}, List.{flat_map}}, proofs.lemmas.List.Elements.{All-nil, All-cons}}
use Rattle.std.proofs.lemmas.Bool.{eq-eqb, cases_lt}
use Rattle.zr_kinds.specs.declared.place.Place.{Place}
use Rattle.board_face.specs.{Holders.{making_places, holders_of}, Places.{kind_place, filled_places, places_of, is_empty}}
use Rattle.board_face.specs.declared.views.{nic.NicSide.{NicSide}, app.AppSide.{AppSide}}
use Rattle.board_face.proofs.{Tallies.{one_if, tally, total, tally-append, tally-map, tally-flat, total-agree}}
use Rattle.board_face.{specs.declared.views.nic.SentNote.{SentNote}, proofs.ListLemmas.{eqb_same}}

-- a place in the buffer that meets the test
abbrev pub in_buffer : ℕ → (Place → Bool) → Place → Bool
in_buffer b test p = (p.buffer == b) && test p

-- ---- the numbers, one for each kind of holding

abbrev pub piece_places : ℕ → (Place → Bool) → NicSide → ℕ
piece_places b test nic = tally (λ p. in_buffer b test p.place) nic.view.pieces + tally (in_buffer b test) (making_places nic.inside.making)

abbrev pub way_places : ℕ → (Place → Bool) → NicSide → AppSide → ℕ
way_places b test nic app = tally (λ s. in_buffer b test s.note.place) (filter (λ s. s.note.split) (on_way nic app))

abbrev pub held_places : ℕ → (Place → Bool) → AppSide → ℕ
held_places b test app = tally (λ h. in_buffer b test h.place) app.view.helds

abbrev pub loan_places : ℕ → (Place → Bool) → AppSide → ℕ
loan_places b test app = tally (λ l. in_buffer b test l.place) app.view.loans

abbrev pub spare_places : ℕ → (Place → Bool) → AppSide → ℕ
spare_places b test app = tally (λ s. nat_lt 0 (length s.bytes) && in_buffer b test (begin_place s.own.buffer (length s.bytes))) app.view.owns

abbrev pub app_places : ℕ → (Place → Bool) → NicSide → AppSide → ℕ
app_places b test nic app =
    way_places b test nic app + (held_places b test app + (loan_places b test app +
    (tally test (owed_in b nic app) + (tally test (returning_in b nic app) + spare_places b test app))))

-- ---- the places are as many

filter-case : {A : Type 0} (q : A → Bool) (c : Bool) (x : A) (ys : List A) (n : ℕ) → tally q ys ≡ n
    → tally q (cond c (x ∷ ys) ys) ≡ one_if (c && q x) + n
filter-case q true x ys n e = omega (arith, e)
filter-case q false x ys n e = omega (arith, e)

pub tally-filter : {A : Type 0} (p q : A → Bool) (xs : List A) → tally q (filter p xs) ≡ tally (λ x. p x && q x) xs
tally-filter p q [] = refl
tally-filter p q (x ∷ xs) = filter-case q (p x) x (filter p xs) _ (tally-filter p q xs)

-- ---- as a weight of the holdings

-- how many of a holding's places meet the test
abbrev pub placed : (Place → Bool) → Hold → ℕ
placed test h = tally test (hold_place h)

pub in-case : (c d : Bool) → one_if (c && d) ≡ (if c then one_if d + 0 else 0)
in-case true d = omega arith
in-case false d = refl

in-total : {A : Type 0} (b : ℕ) (test : Place → Bool) (f : A → Place) (xs : List A)
    → tally (λ x. in_buffer b test (f x)) xs ≡ total (λ x. here b (f x).buffer (tally test (f x ∷ []))) xs
in-total b test f [] = refl
in-total b test f (x ∷ xs) = omega (arith, in-case ((f x).buffer == b) (test (f x)), in-total b test f xs)

in-all : (test : Place → Bool) (ps : List Place) → tally test ps ≡ total (λ p. tally test (p ∷ [])) ps
in-all test [] = refl
in-all test (p ∷ ps) = omega (arith, in-all test ps)

pub spare-case : (test : Place → Bool) (c d : Bool) (p : Place) → one_if (c && (d && test p)) ≡ (if d then tally test (if c then p ∷ [] else []) else 0)
spare-case test true true p = omega arith
spare-case test true false p = refl
spare-case test false true p = refl
spare-case test false false p = refl

spare-total : (b : ℕ) (test : Place → Bool) (a : ℕ) (xs : List SpareOwn)
    → tally (λ (s : SpareOwn). nat_lt 0 (length s.bytes) && in_buffer b test (begin_place s.own.buffer (length s.bytes))) xs
    ≡ total (λ s. here b s.own.buffer (placed test (kind_spare a s.own (length s.bytes)))) xs
spare-total b test a [] = refl
spare-total b test a (s ∷ xs) = omega (
  arith,
  spare-case test (nat_lt 0 (length s.bytes)) (s.own.buffer == b) (begin_place s.own.buffer (length s.bytes)),
  spare-total b test a xs,
)

pub card-placed : (b : ℕ) (test : Place → Bool) (nic : NicSide) → piece_places b test nic ≡ card_weight (placed test) b nic
card-placed b test nic =
    omega (
      arith,
      none (λ (o : Filling). o.buffer) b nic.view.owns,
      in-total b test (λ (p : PlacedText). p.place) nic.view.pieces,
      in-total b test (λ (p : Place). p) (making_places nic.inside.making),
    )

pub app-placed : (b : ℕ) (test : Place → Bool) (nic : NicSide) (x : AppSide) → app_places b test nic x ≡ app_weight (placed test) b nic x
app-placed b test nic x =
    omega (
      arith,
      in-total b test (λ (s : SentNote). s.note.place) (filter (λ s. s.note.split) (on_way nic x)),
      in-total b test (λ (h : HeldPiece). h.place) x.view.helds,
      in-total b test (λ (l : LentPiece). l.place) x.view.loans,
      in-all test (owed_in b nic x),
      in-all test (returning_in b nic x),
      spare-total b test x.view.app x.view.owns,
    )

-- ---- the places are as many

spares-placed : (b : ℕ) (test : Place → Bool) (a : ℕ) (x : AppSide)
    → tally test (filled_places b x) ≡ total (λ (s : SpareOwn). here b s.own.buffer (placed test (kind_spare a s.own (length s.bytes)))) x.view.owns
spares-placed b test a x =
    let f : SpareOwn → Place = λ s. begin_place s.own.buffer (length s.bytes) in
    let full = filter (λ (s : SpareOwn). nat_lt 0 (length s.bytes)) x.view.owns in
    tally-map test f (filter (λ (s : SpareOwn). s.own.buffer == b) full)
    ∙ tally-filter (λ s. s.own.buffer == b) (λ s. test (f s)) full
    ∙ tally-filter (λ s. nat_lt 0 (length s.bytes)) (λ s. in_buffer b test (f s)) x.view.owns
    ∙ spare-total b test a x.view.owns

total-sum : {A : Type 0} (f g h : A → ℕ) → ((x : A) → f x ≡ g x + h x) → (xs : List A) → total f xs ≡ total g xs + total h xs
total-sum f g h each [] = refl
total-sum f g h each (x ∷ xs) = omega (arith, each x, total-sum f g h each xs)

pub places-weigh : (b : ℕ) (test : Place → Bool) (nic : NicSide) (apps : List AppSide)
    → tally test (places_of b nic apps) ≡ weigh (placed test) b (sides nic apps)
places-weigh b test nic apps =
    let kinds : Hold → ℕ = λ h. tally test (kind_place (kind_of h)) in
    omega (
      arith,
      tally-append test (flat_map kind_place (holders_of b nic apps)) (flat_map (filled_places b) apps),
      tally-flat test kind_place (holders_of b nic apps),
      kinds-weigh (λ k. tally test (kind_place k)) b (sides nic apps),
      tally-flat test (filled_places b) apps,
      total-sum (app_weight (placed test) b nic) (app_weight kinds b nic) (λ x. tally test (filled_places b x))
          (λ x. omega (arith, spares-placed b test x.view.app x, none (λ (s : SpareOwn). s.own.buffer) b x.view.owns)) apps,
    )

-- how many places of a buffer meet a test, as a sum
pub places-parts : (b : ℕ) (test : Place → Bool) (nic : NicSide) (apps : List AppSide)
    → tally test (places_of b nic apps) ≡ piece_places b test nic + total (app_places b test nic) apps
places-parts b test nic apps =
    omega (arith, places-weigh b test nic apps, card-placed b test nic, total-agree (app_places b test nic) (app_weight (placed test) b nic) (app-placed b test nic) apps)

-- ---- one among many

pub first-of : (f : Place → Bool) (c : Bool) (s : SentNote) (rest : List SentNote) → c ≡ true
    → tally (λ (t : SentNote). f t.note.place) (if c then s ∷ rest else rest) ≡ one_if (f s.note.place) + tally (λ (t : SentNote). f t.note.place) rest
first-of f true s rest is = refl
first-of f false s rest is = absurd (let none : ⊥ = cc in none)

pub in-own : (test : Place → Bool) (p : Place) → in_buffer p.buffer test p ≡ test p
in-own test p = ap (λ c. c && test p) (eqb_same p.buffer)

-- where no place is empty in any buffer, each has a byte
pub All-some : {A : Type 0} (f : A → Place) (xs : List A) → ((b : ℕ) → tally (λ y. in_buffer b is_empty (f y)) xs ≡ 0)
    → All (λ y. 0 < (f y).len) xs
All-some f [] none = All-nil (λ y. 0 < (f y).len)
All-some f (y ∷ ys) none =
    All-cons (λ z. 0 < (f z).len) y ys
    (⊎_elim
    (λ some. some)
    (λ empty. let e : (f y).len ≡ 0 = omega arith in absurd
    (omega (arith, none (f y).buffer, ap one_if (in-own is_empty (f y)), ap one_if (eq-eqb (f y).len 0 e))))
    (cases_lt 0 (f y).len))
    (All-some f ys (λ b. omega (arith, none b)))
