-- Areas that make a layout, and the layout of their shape.
use Rattle.std.proofs.{Common.{◌≡◌, ℕ, zero, suc, ◌+◌, ◌*◌, ◌≤◌, List, [], ◌∷◌, length, sum_by, refl, ap, inl, inr, add-one, arith}, lemmas.Bool.{cases_lt}}
use Rattle.std.proofs.lemmas.List.{get_or_past}
use Rattle.area_layout.specs.declared.layout.Area.{Area}
use Rattle.area_layout.specs.Layout.{IsLayout, MakeLayout, IsBufferSize, no_area, listed_area, shape_of_areas, shape_of, area_at, buffers_in, bytes_in}

listed-past : (areas : List (ℕ × ℕ)) (n : ℕ) → length areas ≤ n → listed_area areas n ≡ no_area
listed-past areas n past = ap (λ (a : ℕ × ℕ). let listed : Area = record { buffers = a.0; size = a.1 } in listed) (get_or_past areas n (0, 0) past)

listed-size : (areas : List (ℕ × ℕ)) (reserves n : ℕ) → MakeLayout areas reserves → 1 ≤ (listed_area areas n).buffers → IsBufferSize (listed_area areas n).size
listed-size areas reserves n m some =
    elim (cases_lt n (length areas)) [
      | inl lt ↦ (m.each n (0, 0) lt).fits
      | inr ge ↦ let none = ap (λ (a : Area). a.buffers) (listed-past areas n ge) in absurd (omega arith)
    ]

listed-missing : (areas : List (ℕ × ℕ)) (reserves n : ℕ) → MakeLayout areas reserves → (listed_area areas n).buffers ≡ 0
    → (listed_area areas n ≡ no_area) × (listed_area areas (n + 1) ≡ no_area)
listed-missing areas reserves n m none =
    elim (cases_lt n (length areas)) [
      | inl lt ↦ let some = (m.each n (0, 0) lt).some.0 in absurd (omega arith)
      | inr ge ↦ (listed-past areas n ge, listed-past areas (n + 1) (omega arith))
    ]

shape-sizes : (areas : List (ℕ × ℕ)) (reserves : ℕ) → MakeLayout areas reserves → (n : ℕ)
    → 1 ≤ (area_at (shape_of_areas areas reserves) n).buffers → IsBufferSize (area_at (shape_of_areas areas reserves) n).size
shape-sizes areas reserves m zero some = listed-size areas reserves 0 m some
shape-sizes areas reserves m (suc zero) some = listed-size areas reserves 1 m some
shape-sizes areas reserves m (suc (suc zero)) some = listed-size areas reserves 2 m some
shape-sizes areas reserves m (suc (suc (suc zero))) some = listed-size areas reserves 3 m some
shape-sizes areas reserves m (suc (suc (suc (suc n)))) some = absurd (omega arith)

shape-missing : (areas : List (ℕ × ℕ)) (reserves : ℕ) → MakeLayout areas reserves → (n : ℕ)
    → (area_at (shape_of_areas areas reserves) n).buffers ≡ 0
    → (area_at (shape_of_areas areas reserves) n ≡ no_area) × (area_at (shape_of_areas areas reserves) (n + 1) ≡ no_area)
shape-missing areas reserves m zero none = listed-missing areas reserves 0 m none
shape-missing areas reserves m (suc zero) none = listed-missing areas reserves 1 m none
shape-missing areas reserves m (suc (suc zero)) none = listed-missing areas reserves 2 m none
shape-missing areas reserves m (suc (suc (suc zero))) none = ((listed-missing areas reserves 3 m none).0, refl)
shape-missing areas reserves m (suc (suc (suc (suc n)))) none = (refl, rw (add-one (suc (suc (suc (suc n))))) refl)

record AreSums (areas : List (ℕ × ℕ)) (shape : List Area) : Type 0 where
  pub buffers : buffers_in shape ≡ sum_by (λ (a : ℕ × ℕ). a.0) areas
  pub bytes : bytes_in shape ≡ sum_by (λ (a : ℕ × ℕ). a.0 * a.1) areas

shape-sums : (areas : List (ℕ × ℕ)) (reserves : ℕ) → length areas ≤ 4 → AreSums areas (shape_of_areas areas reserves).areas
shape-sums [] reserves few = record { buffers = omega arith; bytes = omega arith }
shape-sums (a ∷ []) reserves few = record { buffers = omega arith; bytes = omega arith }
shape-sums (a ∷ (b ∷ [])) reserves few = record { buffers = omega arith; bytes = omega arith }
shape-sums (a ∷ (b ∷ (c ∷ []))) reserves few = record { buffers = omega arith; bytes = omega arith }
shape-sums (a ∷ (b ∷ (c ∷ (d ∷ [])))) reserves few = record { buffers = omega arith; bytes = omega arith }
shape-sums (a ∷ (b ∷ (c ∷ (d ∷ (e ∷ more))))) reserves few = absurd (omega arith)

pub made : (areas : List (ℕ × ℕ)) (reserves : ℕ) → MakeLayout areas reserves → IsLayout (shape_of_areas areas reserves)
made areas reserves m =
    let sums = shape-sums areas reserves m.few.1 in
    record {
      four = refl;
      first = (m.each 0 (0, 0) m.few.0).some.0;
      sizes = shape-sizes areas reserves m;
      missing = shape-missing areas reserves m;
      buffers = let few = m.buffers in let same = sums.buffers in omega arith;
      bytes = let few = m.bytes in let same = sums.bytes in omega arith;
      reserves = m.kept;
    }

-- a layout of one area is made of it
pub one-made : (buffers reserves size : ℕ) → IsLayout (shape_of buffers reserves size) → MakeLayout ((buffers, size) ∷ []) reserves
one-made buffers reserves size l =
    let few = l.buffers in
    let bytes = l.bytes in
    record {
      few = (omega arith, omega arith);
      each = λ k d lt. let e : k ≡ 0 = omega arith in rw e (record { some = (l.first, omega arith); fits = l.sizes 0 l.first });
      buffers = omega arith;
      bytes = omega arith;
      kept = l.reserves;
    }
