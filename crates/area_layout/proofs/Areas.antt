-- Lists of areas: which one a buffer lies in, how many bytes lie before it, and the least size.
use Rattle.std.proofs.Common.{◌≡◌, ℕ, zero, suc, ◌+◌, ◌-◌, ◌*◌, ◌<◌, ◌≤◌, ◌==◌, nat_lt, min, Bool, if◌then◌else◌}
use Rattle.std.proofs.{Common.{List, [], ◌∷◌, length, take, drop, get_or, refl, sym, ap, subst, ◌∙◌, inl, inr, arith}, Math.Nat.{min-eq_left, min-eq_right}}
use Rattle.std.proofs.{Math.Seq.{drop-cons}, lemmas.{Bool.{cases_lt, cases_eq, lt-ltb, le-ltb, eq-eqb, ne_eqb}, List.{drop_all, Sums.{sum_by-cons}}}}
use Rattle.area_layout.specs.{declared.layout.Area.{Area}, Layout.{IsBufferSize, no_area, buffers_in, bytes_in, areas_before, least_among}}

-- ---- in which area a buffer lies

pub before-here : (a : Area) (areas : List Area) (buffer : ℕ) → buffer < a.buffers → areas_before (a ∷ areas) buffer ≡ 0
before-here a areas buffer lt =
    ap (λ (less : Bool). if less then 0 else suc (areas_before areas (buffer - a.buffers))) (lt-ltb buffer a.buffers lt)

pub before-later : (a : Area) (areas : List Area) (buffer : ℕ) → a.buffers ≤ buffer
    → areas_before (a ∷ areas) buffer ≡ suc (areas_before areas (buffer - a.buffers))
before-later a areas buffer ge =
    ap (λ (less : Bool). if less then 0 else suc (areas_before areas (buffer - a.buffers))) (le-ltb buffer a.buffers ge)

pub record IsFound (areas : List Area) (buffer n : ℕ) : Type 0 where
  pub there : n < length areas
  pub from : buffers_in (take n areas) ≤ buffer
  pub until : buffer < buffers_in (take n areas) + (get_or areas n no_area).buffers

pub found : (areas : List Area) (buffer : ℕ) → buffer < buffers_in areas → IsFound areas buffer (areas_before areas buffer)
found [] buffer h = absurd (omega arith)
found (a ∷ areas) buffer h =
    let all = sum_by-cons (λ (x : Area). x.buffers) a areas in
    let P : ℕ → Type 0 = IsFound (a ∷ areas) buffer in
    elim (cases_lt buffer a.buffers) [
      | inl lt ↦ subst P (sym (before-here a areas buffer lt)) (record { there = omega arith; from = omega arith; until = omega arith })
      | inr ge ↦
          let rest = found areas (buffer - a.buffers) (omega arith) in
          let taken = sum_by-cons (λ (x : Area). x.buffers) a (take (areas_before areas (buffer - a.buffers)) areas) in
          subst P (sym (before-later a areas buffer ge))
          (record {
            there = let there = rest.there in omega arith;
            from = let from = rest.from in omega arith;
            until = let until = rest.until in omega arith;
          })
    ]

-- ---- how many bytes lie before a buffer, where those behind all areas have this size

abbrev pub size_among : ℕ → List Area → ℕ → ℕ
size_among size [] buffer = size
size_among size (a ∷ areas) buffer = if nat_lt buffer a.buffers then a.size else size_among size areas (buffer - a.buffers)

abbrev pub bytes_upto : ℕ → List Area → ℕ → ℕ
bytes_upto size [] buffer = buffer * size
bytes_upto size (a ∷ areas) buffer = min buffer a.buffers * a.size + bytes_upto size areas (buffer - a.buffers)

among-here : (size : ℕ) (a : Area) (areas : List Area) (buffer : ℕ) → buffer < a.buffers → size_among size (a ∷ areas) buffer ≡ a.size
among-here size a areas buffer lt =
    ap (λ (less : Bool). if less then a.size else size_among size areas (buffer - a.buffers)) (lt-ltb buffer a.buffers lt)

among-later : (size : ℕ) (a : Area) (areas : List Area) (buffer : ℕ) → a.buffers ≤ buffer
    → size_among size (a ∷ areas) buffer ≡ size_among size areas (buffer - a.buffers)
among-later size a areas buffer ge =
    ap (λ (less : Bool). if less then a.size else size_among size areas (buffer - a.buffers)) (le-ltb buffer a.buffers ge)

pub among-found : (size : ℕ) (areas : List Area) (buffer : ℕ) → buffer < buffers_in areas
    → size_among size areas buffer ≡ (get_or areas (areas_before areas buffer) no_area).size
among-found size [] buffer h = absurd (omega arith)
among-found size (a ∷ areas) buffer h =
    let all = sum_by-cons (λ (x : Area). x.buffers) a areas in
    elim (cases_lt buffer a.buffers) [
      | inl lt ↦ among-here size a areas buffer lt ∙ ap (λ (n : ℕ). (get_or (a ∷ areas) n no_area).size) (sym (before-here a areas buffer lt))
      | inr ge ↦
          among-later size a areas buffer ge ∙ among-found size areas (buffer - a.buffers) (omega arith)
          ∙ ap (λ (n : ℕ). (get_or (a ∷ areas) n no_area).size) (sym (before-later a areas buffer ge))
    ]

pub among-behind : (size : ℕ) (areas : List Area) (buffer : ℕ) → buffers_in areas ≤ buffer → size_among size areas buffer ≡ size
among-behind size [] buffer h = refl
among-behind size (a ∷ areas) buffer h =
    let all = sum_by-cons (λ (x : Area). x.buffers) a areas in
    among-later size a areas buffer (omega arith) ∙ among-behind size areas (buffer - a.buffers) (omega arith)

pub upto-none : (size : ℕ) (areas : List Area) → bytes_upto size areas 0 ≡ 0
upto-none size [] = omega arith
upto-none size (a ∷ areas) =
    let none : min 0 a.buffers ≡ 0 = min-eq_left (omega arith) in
    let rest = upto-none size areas in
    let gone : 0 - a.buffers ≡ 0 = omega arith in
    rw (none, gone) (omega arith)

pub upto-within : (size : ℕ) (a : Area) (areas : List Area) (left : ℕ) → left ≤ a.buffers → bytes_upto size (a ∷ areas) left ≡ left * a.size
upto-within size a areas left within =
    let gone : left - a.buffers ≡ 0 = omega arith in
    let none = upto-none size areas in
    ap (λ (n : ℕ). n * a.size + bytes_upto size areas (left - a.buffers)) (min-eq_left within)
    ∙ ap (λ (n : ℕ). left * a.size + bytes_upto size areas n) gone ∙ omega arith

pub upto-past : (size : ℕ) (a : Area) (areas : List Area) (left : ℕ) → a.buffers ≤ left
    → bytes_upto size (a ∷ areas) left ≡ a.buffers * a.size + bytes_upto size areas (left - a.buffers)
upto-past size a areas left ge = ap (λ (n : ℕ). n * a.size + bytes_upto size areas (left - a.buffers)) (min-eq_right ge)

-- one buffer more
pub upto-next : (size : ℕ) (areas : List Area) (buffer : ℕ)
    → bytes_upto size areas (suc buffer) ≡ bytes_upto size areas buffer + size_among size areas buffer
upto-next size [] buffer = omega arith
upto-next size (a ∷ areas) buffer =
    elim (cases_lt buffer a.buffers) [
      | inl lt ↦
          let more = upto-within size a areas (suc buffer) (omega arith) in
          let less = upto-within size a areas buffer (omega arith) in
          let here = among-here size a areas buffer lt in
          omega arith
      | inr ge ↦
          let more = upto-past size a areas (suc buffer) (omega arith) in
          let less = upto-past size a areas buffer ge in
          let left : suc buffer - a.buffers ≡ suc (buffer - a.buffers) = omega arith in
          let same = ap (λ (n : ℕ). bytes_upto size areas n) left in
          let rest = upto-next size areas (buffer - a.buffers) in
          let later = among-later size a areas buffer ge in
          omega arith
    ]

-- all of them, and some behind
pub upto-all : (size : ℕ) (areas : List Area) (more : ℕ) → bytes_upto size areas (buffers_in areas + more) ≡ bytes_in areas + more * size
upto-all size [] more = omega arith
upto-all size (a ∷ areas) more =
    let buffers = sum_by-cons (λ (x : Area). x.buffers) a areas in
    let bytes = sum_by-cons (λ (x : Area). x.buffers * x.size) a areas in
    let here = upto-past size a areas (buffers_in (a ∷ areas) + more) (omega arith) in
    let later : buffers_in (a ∷ areas) + more - a.buffers ≡ buffers_in areas + more = omega arith in
    let same = ap (λ (n : ℕ). bytes_upto size areas n) later in
    let rest = upto-all size areas more in
    omega arith

-- ---- the same from one area to the next

pub next-area : (areas : List Area) (i : ℕ) (d : Area) → i < length areas → drop i areas ≡ get_or areas i d ∷ drop (suc i) areas
next-area areas i d there = drop-cons areas i d there

pub upto-here : (size : ℕ) (areas : List Area) (i left : ℕ) (d : Area) → i < length areas → left ≤ (get_or areas i d).buffers
    → bytes_upto size (drop i areas) left ≡ left * (get_or areas i d).size
upto-here size areas i left d there within =
    ap (λ (xs : List Area). bytes_upto size xs left) (next-area areas i d there)
    ∙ upto-within size (get_or areas i d) (drop (suc i) areas) left within

pub upto-later : (size : ℕ) (areas : List Area) (i left : ℕ) (d : Area) → i < length areas → (get_or areas i d).buffers ≤ left
    → bytes_upto size (drop i areas) left
    ≡ (get_or areas i d).buffers * (get_or areas i d).size + bytes_upto size (drop (suc i) areas) (left - (get_or areas i d).buffers)
upto-later size areas i left d there ge =
    ap (λ (xs : List Area). bytes_upto size xs left) (next-area areas i d there)
    ∙ upto-past size (get_or areas i d) (drop (suc i) areas) left ge

-- behind them all
pub upto-behind : (size : ℕ) (areas : List Area) (i left : ℕ) → length areas ≤ i → bytes_upto size (drop i areas) left ≡ left * size
upto-behind size areas i left behind = ap (λ (xs : List Area). bytes_upto size xs left) (drop_all i areas behind)

-- ---- the least size

abbrev pub or_less : ℕ → Area → ℕ
or_less least a = if a.buffers == 0 then least else min a.size least

or_less-le : (least : ℕ) (a : Area) → or_less least a ≤ least
or_less-le least a =
    elim (cases_eq a.buffers 0) [
      | inl none ↦ rw (eq-eqb a.buffers 0 none) (omega arith)
      | inr some ↦ rw (ne_eqb a.buffers 0 some) (omega arith)
    ]

or_less-size : (least : ℕ) (a : Area) → 1 ≤ a.buffers → or_less least a ≤ a.size
or_less-size least a some =
    let there : a.buffers ≡ 0 → ⊥ = λ none. omega arith in
    rw (ne_eqb a.buffers 0 there) (omega arith)

pub least-le-most : (most : ℕ) (areas : List Area) → least_among most areas ≤ most
least-le-most most [] = omega arith
least-le-most most (a ∷ areas) =
    let rest = least-le-most most areas in
    let here = or_less-le (least_among most areas) a in
    omega arith

pub least-le : (most : ℕ) (areas : List Area) (n : ℕ) → 1 ≤ (get_or areas n no_area).buffers → least_among most areas ≤ (get_or areas n no_area).size
least-le most [] n some = absurd (omega arith)
least-le most (a ∷ areas) zero some = or_less-size (least_among most areas) a some
least-le most (a ∷ areas) (suc n) some =
    let rest = least-le most areas n some in
    let here = or_less-le (least_among most areas) a in
    omega arith

-- what was the least of all, behind them all
pub least-end : (most least : ℕ) (areas : List Area) (i : ℕ) → length areas ≤ i → least ≤ most
    → least_among most areas ≡ min least (least_among most (drop i areas)) → least ≡ least_among most areas
least-end most least areas i behind within e =
    sym (e ∙ ap (λ (xs : List Area). min least (least_among most xs)) (drop_all i areas behind) ∙ min-eq_left within)

or_less-fits : (least : ℕ) (a : Area) → IsBufferSize least → (1 ≤ a.buffers → IsBufferSize a.size) → IsBufferSize (or_less least a)
or_less-fits least a fits sizes =
    elim (cases_eq a.buffers 0) [
      | inl none ↦ rw (eq-eqb a.buffers 0 none) fits
      | inr some ↦
          let size = sizes (omega arith) in
          rw (ne_eqb a.buffers 0 some)
          (elim (cases_lt a.size least) [
            | inl lt ↦ let e : min a.size least ≡ a.size = min-eq_left (omega arith) in rw e size
            | inr ge ↦ let e : min a.size least ≡ least = min-eq_right ge in rw e fits
          ])
    ]

pub least-fits : (most : ℕ) (areas : List Area) → IsBufferSize most
    → ((n : ℕ) → 1 ≤ (get_or areas n no_area).buffers → IsBufferSize (get_or areas n no_area).size) → IsBufferSize (least_among most areas)
least-fits most [] fits sizes = fits
least-fits most (a ∷ areas) fits sizes = or_less-fits (least_among most areas) a (least-fits most areas fits (λ n. sizes (suc n))) (sizes 0)
