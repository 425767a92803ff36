-- The places of the packing are those of the fresh buffers, in order.
use Rattle.std.proofs.Common.{◌≡◌, ℕ, zero, suc, ◌-◌, List, [], ◌∷◌, ◌++◌, length, map, min, append_assoc, length-append, refl, sym, ap, arith, Option}
use Rattle.std.specs.Prelude.{slice_index}
use Rattle.area_layout.specs.Layout.{Shape, size_of}
use Rattle.board_face.specs.declared.views.parts.Filling.{Filling}
use Rattle.page_pool.specs.{Packing.{fresh_parts}, Offer.{place_of}, Placing.{fresh_places}}

index_seam : (pre bs : List ℕ) (b : ℕ) → slice_index (pre ++ b ∷ bs) (length pre) ≡ b
index_seam [] bs b = refl
index_seam (p ∷ pre) bs b = index_seam pre bs b

pub parts_places : (own : Option Filling) (layout : Shape) (pre bs : List ℕ) (len : ℕ)
    → map (place_of own (pre ++ bs)) (fresh_parts (length pre) (map (size_of layout) bs) len) ≡ fresh_places layout bs len
parts_places own layout pre [] len = refl
parts_places own layout pre (b ∷ bs) zero = refl
parts_places own layout pre (b ∷ bs) (suc rest) =
    let size : ℕ = size_of layout b in
    let number : slice_index (pre ++ b ∷ bs) (length pre) ≡ b = index_seam pre bs b in
    let next : suc (length pre) ≡ length (pre ++ b ∷ []) = simp length-append (omega arith) in
    let all : (pre ++ b ∷ []) ++ bs ≡ pre ++ b ∷ bs = append_assoc pre (b ∷ []) bs in
    let later : map (place_of own (pre ++ b ∷ bs)) (fresh_parts (suc (length pre)) (map (size_of layout) bs) (suc rest - size))
    ≡ fresh_places layout bs (suc rest - size) =
    rw (next, sym all) (parts_places own layout (pre ++ b ∷ []) bs (suc rest - size)) in
    rw number (ap (λ places. record { buffer = b; offset = 0; len = min size (suc rest) } ∷ places) later)
