-- How many holders a buffer has at most: its places have a byte each, and share none.
use Rattle.std.proofs.{Common.{◌≡◌, ℕ, zero, suc, ◌+◌, ◌<◌, ◌≤◌, List, [], ◌∷◌, length, refl, ap, ⊎_elim, arith, length-append}, lemmas.Bool.{eq-eqb, cases_lt, lt-ltb}}
use Rattle.std.specs.List.{flat_map}
use Rattle.zr_kinds.specs.declared.place.Place.{Place}
use Rattle.area_layout.specs.Layout.{size_of}
use Rattle.board_face.specs.Places.{kind_place, filled_places, places_of, has_byte, is_empty, ends_behind, ArePlaced}
use Rattle.board_face.specs.{Holders.{Kind, own, piece, sent, held, spare, loan, owed, returning, holders_of}, Counts.{pool_count}}
use Rattle.board_face.{specs.{Fillings.{is_filling, IsFilledByOne}, declared.views.{nic.NicSide.{NicSide}, app.AppSide.{AppSide}}}, proofs.Tallies.{one_if, tally}}
use Rattle.board_face.proofs.{Parts.{count-tally}, ApartLemmas.{has-weight}}

-- a sum over the numbers below n
abbrev sum_below : (ℕ → ℕ) → ℕ → ℕ
sum_below f zero = 0
sum_below f (suc n) = f n + sum_below f n

sum-once : (f : ℕ → ℕ) → ((x : ℕ) → f x ≤ 1) → (n : ℕ) → sum_below f n ≤ n
sum-once f once zero = omega arith
sum-once f once (suc n) = omega (arith, once n, sum-once f once n)

sum-both : (f g : ℕ → ℕ) (n : ℕ) → sum_below (λ x. f x + g x) n ≡ sum_below f n + sum_below g n
sum-both f g zero = refl
sum-both f g (suc n) = omega (arith, sum-both f g n)

sum-at : (f : ℕ → ℕ) (x n : ℕ) → x < n → f x ≤ sum_below f n
sum-at f x zero small = absurd (omega arith)
sum-at f x (suc n) small =
    ⊎_elim
    (λ less. omega (arith, sum-at f x n less))
    (λ at. let e : x ≡ n = omega arith in omega (arith, ap f e))
    (cases_lt x n)

-- places of which none is empty and none ends behind n are at most as many as the bytes that lie in them
many-bytes : (n : ℕ) (ps : List Place) → tally is_empty ps ≡ 0 → tally (ends_behind n) ps ≡ 0
    → length ps ≤ sum_below (λ x. tally (has_byte x) ps) n
many-bytes n [] some within = omega arith
many-bytes n (p ∷ ps) some within =
    let full : 0 < p.len = ⊎_elim (λ less. less) (λ none. absurd (let e : p.len ≡ 0 = omega arith in omega (arith, some, ap one_if (eq-eqb p.len 0 e))))
    (cases_lt 0 p.len) in
    let inside : p.offset + p.len ≤ n = ⊎_elim (λ behind. absurd (omega (arith, within, ap one_if (lt-ltb n (p.offset + p.len) behind))))
    (λ in_time. in_time) (cases_lt n (p.offset + p.len)) in
    let here = sum-at (λ x. one_if (has_byte x p)) p.offset n (omega arith) in
    let one = has-weight p.offset p (omega arith) (omega arith) in
    omega (
      arith,
      sum-both (λ x. one_if (has_byte x p)) (λ x. tally (has_byte x) ps) n,
      here,
      one,
      many-bytes n ps (omega (arith, some)) (omega (arith, within)),
    )

-- the places of a buffer are at most as many as its bytes
pub places-few : (b : ℕ) (nic : NicSide) (apps : List AppSide) → ArePlaced b nic apps
    → length (places_of b nic apps) ≤ size_of nic.view.setting.layout b
places-few b nic apps placed =
    let ps = places_of b nic apps in
    let n = size_of nic.view.setting.layout b in
    let once : (x : ℕ) → tally (has_byte x) ps ≤ 1 = λ x. omega (arith, placed.apart x, count-tally (has_byte x) ps) in
    omega (
      arith,
      many-bytes n ps (omega (arith, placed.some_bytes, count-tally is_empty ps)) (omega (arith, placed.within, count-tally (ends_behind n) ps)),
      sum-once (λ x. tally (has_byte x) ps) once n,
    )

kind-one : (k : Kind) → length (kind_place k) + one_if (is_filling k) ≡ 1
kind-one own = refl
kind-one (piece p) = refl
kind-one (sent a p) = refl
kind-one (held a p) = refl
kind-one (spare a) = refl
kind-one (loan a p) = refl
kind-one (owed a p) = refl
kind-one (returning a p) = refl

kinds-few : (ks : List Kind) → length ks ≡ length (flat_map kind_place ks) + tally is_filling ks
kinds-few [] = refl
kinds-few (k ∷ ks) = omega (arith, kind-one k, length-append (kind_place k) (flat_map kind_place ks), kinds-few ks)

-- So a buffer has at most as many holders as it has bytes, and one that fills it.
pub pool_count-few : (b : ℕ) (nic : NicSide) (apps : List AppSide) → ArePlaced b nic apps → IsFilledByOne b nic apps
    → pool_count b nic apps ≤ size_of nic.view.setting.layout b + 1
pool_count-few b nic apps placed filled =
    omega (
      arith,
      kinds-few (holders_of b nic apps),
      places-few b nic apps placed,
      length-append (flat_map kind_place (holders_of b nic apps)) (flat_map (filled_places b) apps),
      filled.one,
      count-tally is_filling (holders_of b nic apps),
    )
