-- A board's setting as its record says it: as many buffers, of the same sizes.
use Rattle.std.proofs.{Common.{◌≡◌, ◌∙◌, ℕ, ◌+◌, ◌-◌, ◌<◌, ◌≤◌, List, [], ◌∷◌, map, get_or, refl, sym, ap, arith, ⊎_elim}, lemmas.Bool.{cases_lt, lt-ltb, le-ltb}}
use Rattle.std.proofs.lemmas.List.Sums.{sum_by-cons}
use Rattle.area_layout.specs.{declared.layout.Area.{Area}, Layout.{Shape, IsLayout, buffers_in, pool_buffers, all_buffers, areas_before, area_at, size_of, no_area}}
use Rattle.area_layout.proofs.Words.{area-pool, area-reserve}
use Rattle.zr_kinds.specs.Setting.{total_buffers, size_of_buffer, size_among, first_size, buffers_of_areas as run_pool_buffers}
use Rattle.plain_board.specs.Settings.{areas_of, setting_of_layout}

abbrev counted : List (ℕ × ℕ) → ℕ
counted areas = run_pool_buffers areas

counted-cons : (area : ℕ × ℕ) (areas : List (ℕ × ℕ)) → counted (area ∷ areas) ≡ area.0 + counted areas
counted-cons area areas = sum_by-cons (λ (n : ℕ). n) area.0 (map (λ (x : ℕ × ℕ). x.0) areas)

pub in-cons : (a : Area) (areas : List Area) → buffers_in (a ∷ areas) ≡ a.buffers + buffers_in areas
in-cons a areas = sum_by-cons (λ (x : Area). x.buffers) a areas

counted-areas : (areas : List Area) → counted (areas_of areas) ≡ buffers_in areas
counted-areas [] = refl
counted-areas (a ∷ areas) =
    ⊎_elim
    (λ some. rw (lt-ltb 0 a.buffers some)
    (omega (arith, counted-cons (a.buffers, a.size) (areas_of areas), in-cons a areas, counted-areas areas)))
    (λ none. rw (le-ltb 0 a.buffers none) (omega (arith, in-cons a areas, counted-areas areas)))
    (cases_lt 0 a.buffers)

pub pool_buffers-same : (layout : Shape) → run_pool_buffers (setting_of_layout layout).areas ≡ pool_buffers layout
pool_buffers-same layout = counted-areas layout.areas

pub total-same : (layout : Shape) → total_buffers (setting_of_layout layout) ≡ all_buffers layout
total-same layout = ap (λ n. n + layout.reserves) (pool_buffers-same layout)

-- ---- sizes

size-among : (areas : List Area) (reserve b : ℕ) → b < buffers_in areas
    → size_among (areas_of areas) reserve b ≡ (get_or areas (areas_before areas b) no_area).size
size-among [] reserve b within = absurd (omega arith)
size-among (a ∷ areas) reserve b within =
    ⊎_elim
    (λ some.
    ⊎_elim
    (λ first. rw (lt-ltb 0 a.buffers some, lt-ltb b a.buffers first) refl)
    (λ later. rw (lt-ltb 0 a.buffers some, le-ltb b a.buffers later)
    (size-among areas reserve (b - a.buffers) (omega (arith, in-cons a areas))))
    (cases_lt b a.buffers))
    (λ none.
    let all : b - a.buffers ≡ b = omega arith in
    let behind : a.buffers ≤ b = omega arith in
    let rest : b < buffers_in areas = omega (arith, in-cons a areas) in
    rw (le-ltb 0 a.buffers none, le-ltb b a.buffers behind, all) (size-among areas reserve b rest))
    (cases_lt 0 a.buffers)

size-past : (areas : List Area) (reserve b : ℕ) → buffers_in areas ≤ b → size_among (areas_of areas) reserve b ≡ reserve
size-past [] reserve b past = refl
size-past (a ∷ areas) reserve b past =
    ⊎_elim
    (λ some. rw (lt-ltb 0 a.buffers some, le-ltb b a.buffers (omega (arith, in-cons a areas)))
    (size-past areas reserve (b - a.buffers) (omega (arith, in-cons a areas))))
    (λ none. rw (le-ltb 0 a.buffers none) (size-past areas reserve b (omega (arith, in-cons a areas))))
    (cases_lt 0 a.buffers)

first-size : (areas : List Area) → 1 ≤ (get_or areas 0 no_area).buffers → first_size (areas_of areas) ≡ (get_or areas 0 no_area).size
first-size [] some = absurd (omega arith)
first-size (a ∷ areas) some = rw (lt-ltb 0 a.buffers some) refl

pub size-same : (layout : Shape) → IsLayout layout → (b : ℕ) → size_of_buffer (setting_of_layout layout).areas b ≡ size_of layout b
size-same layout good b =
    let reserve = first_size (areas_of layout.areas) in
    let size : ℕ → ℕ = λ n. (area_at layout n).size in
    ⊎_elim
    (λ within. size-among layout.areas reserve b within ∙ ap size (sym (area-pool layout b within)))
    (λ past. size-past layout.areas reserve b past ∙ first-size layout.areas good.first ∙ ap size (sym (area-reserve layout b past)))
    (cases_lt b (pool_buffers layout))
