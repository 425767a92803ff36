-- Where held pieces and loans lie: in a buffer of the area, with a byte at least.
use Rattle.std.proofs.Common.{◌≡◌, ⊎_elim, ℕ, zero, suc, ◌+◌, ◌<◌, ◌≤◌, Bool, List, [], ◌∷◌, length, map, get_or, ap, arith}
use Rattle.std.{specs.Prelude.{◌==◌, ◌&&◌, count_by, Contains}, proofs.lemmas.Bool.{cases_lt, lt-ltb, eq-eqb}}
use Rattle.zr_kinds.specs.declared.place.Place.{Place}
use Rattle.area_layout.specs.Layout.{all_buffers, size_of, LiesIn}
use Rattle.board_face.specs.{Lists.{same_place}, Sides.{IsApp}, AppCalls.{HasLoan}, Counts.{pool_count}, Places.{ArePlaced, places_of, is_empty, ends_behind}}
use Rattle.board_face.specs.declared.views.{nic.NicSide.{NicSide}, app.{HeldPiece.{HeldPiece}, LentPiece.{LentPiece}, AppSide.{AppSide}}}
use Rattle.board_face.proofs.{ListLemmas.{eqb_same, same_place-is, same_place-refl}, Tallies.{one_if, tally, tally-without, total}}
use Rattle.board_face.proofs.{Parts.{app_count, count-tally, pool_count-parts}, PlaceTallies.{in_buffer, app_places, places-parts}}

-- ---- one among many

pub total-of : {A : Type 0} (f : A → ℕ) (xs : List A) (k : ℕ) (d : A) → k < length xs → f (get_or xs k d) ≤ total f xs
total-of f [] k d there = absurd (omega arith)
total-of f (x ∷ xs) zero d there = omega arith
total-of f (x ∷ xs) (suc k) d there = omega (arith, total-of f xs k d (omega arith))

pub total-at : {A : Type 0} (f : A → ℕ) (xs : List A) (i : ℕ) (v : A) → i < length xs → get_or xs i v ≡ v → f v ≤ total f xs
total-at f xs i v there is = omega (arith, total-of f xs i v there, ap f is)

-- what a token shows meets a test as often as its element does
pub helds-at : (v : List HeldPiece) (place : Place) (test : Place → Bool) → Contains (map (λ h. h.place) v) place
    → one_if (test place) ≤ tally (λ h. test h.place) v
helds-at v place test out = omega (
  arith,
  tally-without (λ (h : HeldPiece). h.place) (same_place place) place (same_place-is place)
      (same_place-refl place) test v out,
)

pub loans-at : (v : List LentPiece) (place : Place) (test : Place → Bool) → Contains (map (λ l. l.place) v) place
    → one_if (test place) ≤ tally (λ l. test l.place) v
loans-at v place test out = omega (
  arith,
  tally-without (λ (l : LentPiece). l.place) (same_place place) place (same_place-is place)
      (same_place-refl place) test v out,
)

module _ (nic : NicSide) (apps : List AppSide) (a : ℕ) (x : AppSide) (here : IsApp apps a x) (p : Place) (placed : ArePlaced p.buffer nic apps)
    (inside : all_buffers nic.view.setting.layout ≤ p.buffer → pool_count p.buffer nic apps ≡ 0) where
  part-le : app_count p.buffer nic x ≤ pool_count p.buffer nic apps
  part-le = omega (arith, pool_count-parts p.buffer nic apps, total-at (app_count p.buffer nic) apps a x here.there here.is)

  -- a test that no place of the buffer meets
  met-none : (test : Place → Bool) → count_by test (places_of p.buffer nic apps) ≡ 0 → app_places p.buffer test nic x ≡ 0
  met-none test none =
      omega (
        arith,
        none,
        count-tally test (places_of p.buffer nic apps),
        places-parts p.buffer test nic apps,
        total-at (app_places p.buffer test nic) apps a x here.there here.is,
      )

  in-own : (test : Place → Bool) → one_if (in_buffer p.buffer test p) ≡ one_if (test p)
  in-own test = ap (λ c. one_if (c && test p)) (eqb_same p.buffer)

  -- where the place is one of its buffer's, it lies in the area and has a byte
  pub lies-by : 0 < app_count p.buffer nic x
      → ((test : Place → Bool) → one_if (in_buffer p.buffer test p) ≤ app_places p.buffer test nic x)
      → LiesIn nic.view.setting.layout p × (0 < p.len)
  lies-by held met =
      let size = size_of nic.view.setting.layout p.buffer in
      let short : one_if (ends_behind size p) ≡ 0 =
      omega (arith, met (ends_behind size), met-none (ends_behind size) placed.within, in-own (ends_behind size)) in
      let full : one_if (is_empty p) ≡ 0 = omega (arith, met is_empty, met-none is_empty placed.some_bytes, in-own is_empty) in (
        record {
          buffer = ⊎_elim (λ within. within) (λ past. absurd (omega (arith, part-le, inside past, held)))
              (cases_lt p.buffer (all_buffers nic.view.setting.layout));
          bytes = ⊎_elim (λ behind. absurd (omega (arith, short, ap one_if (lt-ltb size (p.offset + p.len) behind))))
              (λ in_time. omega arith) (cases_lt size (p.offset + p.len));
        },
        ⊎_elim (λ some. some) (λ none. absurd (let e : p.len ≡ 0 = omega arith in omega (arith, full, ap one_if (eq-eqb p.len 0 e)))) (cases_lt 0 p.len),
      )

  -- a loan that is out
  pub loan-lies : HasLoan x.view p → LiesIn nic.view.setting.layout p × (0 < p.len)
  loan-lies out =
      lies-by
      (omega (arith, loans-at x.view.loans p (λ q. q.buffer == p.buffer) out, ap one_if (eqb_same p.buffer)))
      (λ test. omega (arith, loans-at x.view.loans p (in_buffer p.buffer test) out))
