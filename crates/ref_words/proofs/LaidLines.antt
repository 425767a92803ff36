-- Lines that are laid into the area change these lines alone. The bytes of a place stand in its lines.
use Rattle.std.proofs.Common.{◌≡◌, ⊎_elim, ℕ, zero, suc, ◌+◌, ◌-◌, ◌*◌, ◌/◌, ◌%◌, ◌<◌, ◌≤◌, min, Bool, true, false, cond, List, [], ◌∷◌, length}
use Rattle.std.{proofs.Common.{take, drop, get_or, set, refl, ap, sym, ◌∙◌, inl, inr, arith}, specs.Prelude.{◌⊎◌, nat_lt}}
use Rattle.std.proofs.lemmas.{Bool.{cases_lt, lt-ltb, le-ltb}, List.{get_or-set_other, get_or-set_same, length-set}}
use Rattle.std.proofs.lemmas.List.{length-take, length-drop, get_or-take, get_or-drop, get_or_append_left, get_or-append_right, ext_get_or}
use Rattle.std.proofs.lemmas.List.Elements.{All-head, All-tail, All-take, All-drop, All-set}
use Rattle.zr_kinds.specs.declared.place.Place.{Place}
use Rattle.area_layout.{specs.Layout.{Shape, IsLayout, LiesIn, size_of}, proofs.Words.{begins-apart}}
use Rattle.board_face.{specs.Shown.{IsShown}, proofs.StoresAtLemmas.{StoresAt}}
use Rattle.ref_words.specs.Lines.{joined, area_lines, line_at, byte_in_area, begin_line, line_count, lines_at, text_in, laid, AreWide, HaveText}
use Rattle.ref_words.proofs.{AreaLines.{begin-lines, line-within}, Laying.{joined-length}}

-- ---- lines that are laid

pub length-laid : (area : List (List ℕ)) (x : ℕ) (lines : List (List ℕ)) → length (laid area x lines) ≡ length area
length-laid area x [] = refl
length-laid area x (line ∷ lines) = length-laid (set area x line) (x + 1) lines ∙ length-set area x line

-- a line before them or behind them stays
pub laid-other : (area : List (List ℕ)) (x : ℕ) (lines : List (List ℕ)) (k : ℕ) → (k < x) ⊎ (x + length lines ≤ k)
    → get_or (laid area x lines) k [] ≡ get_or area k []
laid-other area x [] k away = refl
laid-other area x (line ∷ lines) k away =
    let next : (k < x + 1) ⊎ (x + 1 + length lines ≤ k) = ⊎_elim (λ before. inl (omega arith)) (λ behind. inr (omega (arith, behind))) away in
    laid-other (set area x line) (x + 1) lines k next
    ∙ get_or-set_other area x k line []
    (λ e. ⊎_elim (λ before. let none : ⊥ = omega arith in none) (λ behind. let none : ⊥ = omega (arith, behind) in none) away)

pub laid-at : (area : List (List ℕ)) (x : ℕ) (lines : List (List ℕ)) (j : ℕ) → x + length lines ≤ length area → j < length lines
    → get_or (laid area x lines) (x + j) [] ≡ get_or lines j []
laid-at area x [] j within less = absurd (omega arith)
laid-at area x (line ∷ lines) zero within less =
    let at : x + 0 ≡ x = omega arith in
    ap (λ k. get_or (laid (set area x line) (x + 1) lines) k []) at
    ∙ (laid-other (set area x line) (x + 1) lines x (inl (omega arith)) ∙ get_or-set_same area x line [] (omega (arith, within)))
laid-at area x (line ∷ lines) (suc j) within less =
    let at : x + suc j ≡ x + 1 + j = omega arith in
    ap (λ k. get_or (laid (set area x line) (x + 1) lines) k []) at
    ∙ laid-at (set area x line) (x + 1) lines j (omega (arith, within, length-set area x line)) (omega arith)

pub wide-laid : (area : List (List ℕ)) (x : ℕ) (lines : List (List ℕ)) → AreWide area → AreWide lines → AreWide (laid area x lines)
wide-laid area x [] wide wide' = wide
wide-laid area x (line ∷ lines) wide wide' =
    wide-laid (set area x line) (x + 1) lines
    (All-set (λ (l : List ℕ). length l ≡ 64) area x line (All-head (λ (l : List ℕ). length l ≡ 64) line lines wide') wide)
    (All-tail (λ (l : List ℕ). length l ≡ 64) line lines wide')

-- the lines of a place stay among which none of them is
pub lines_of-laid : (layout : Shape) (area : List (List ℕ)) (x : ℕ) (lines : List (List ℕ)) (q : Place)
    → ((k : ℕ) → begin_line layout q ≤ k → k < begin_line layout q + line_count q → (k < x) ⊎ (x + length lines ≤ k))
    → lines_at layout (laid area x lines) q ≡ lines_at layout area q
lines_of-laid layout area x lines q away =
    let n = line_count q in
    let b = begin_line layout q in
    let now = laid area x lines in
    let long : length (drop b now) ≡ length (drop b area) = length-drop b now ∙ (ap (λ m. m - b) (length-laid area x lines) ∙ sym (length-drop b area)) in
    ext_get_or [] (take n (drop b now)) (take n (drop b area))
    (length-take n (drop b now) ∙ (ap (λ m. min n m) long ∙ sym (length-take n (drop b area))))
    (λ i less.
    let small : i < n = omega (arith, less, length-take n (drop b now)) in
    get_or-take n (drop b now) i [] small
    ∙ (get_or-drop b now i []
    ∙ (laid-other area x lines (b + i) (away (b + i) (omega arith) (omega (arith, small)))
    ∙ sym (get_or-take n (drop b area) i [] small ∙ get_or-drop b area i []))))

-- and have 64 bytes where all do
pub lines-wide : (layout : Shape) (p : Place) (area : List (List ℕ)) → AreWide area → AreWide (lines_at layout area p)
lines-wide layout p area wide = All-take (λ (l : List ℕ). length l ≡ 64) (line_count p) (drop (begin_line layout p) area)
    (All-drop (λ (l : List ℕ). length l ≡ 64) (begin_line layout p) area wide)

-- ---- lines that are joined

pub joined-byte : (lines : List (List ℕ)) (i : ℕ) → AreWide lines → get_or (joined lines) i 0 ≡ get_or (get_or lines (i / 64) []) (i % 64) 0
joined-byte [] i wide = refl
joined-byte (line ∷ lines) i wide =
    let long : length line ≡ 64 = All-head (λ (l : List ℕ). length l ≡ 64) line lines wide in
    ⊎_elim
    (λ (less : i < 64).
    let first : i / 64 ≡ 0 = omega arith in
    let byte : i % 64 ≡ i = omega arith in
    get_or_append_left line (joined lines) 0 i (omega (arith, long, less))
    ∙ sym (ap (λ k. get_or (get_or (line ∷ lines) k []) (i % 64) 0) first ∙ ap (λ j. get_or line j 0) byte))
    (λ (from : 64 ≤ i).
    let later : i / 64 ≡ suc ((i - 64) / 64) = omega arith in
    let byte : i % 64 ≡ (i - 64) % 64 = omega arith in
    get_or-append_right line (joined lines) 64 i 0 long from
    ∙ (joined-byte lines (i - 64) (All-tail (λ (l : List ℕ). length l ≡ 64) line lines wide)
    ∙ sym (ap (λ k. get_or (get_or (line ∷ lines) k []) (i % 64) 0) later ∙ ap (λ j. get_or (get_or lines ((i - 64) / 64) []) j 0) byte)))
    (cases_lt i 64)

-- lines that are the same when joined are the same
pub joined-same : (xs ys : List (List ℕ)) → AreWide xs → AreWide ys → joined xs ≡ joined ys → xs ≡ ys
joined-same xs ys wide wide' same =
    let many : length xs ≡ length ys = omega (arith, joined-length 64 xs wide, joined-length 64 ys wide', ap length same) in
    ext_get_or [] xs ys many (λ k less.
    let x = get_or xs k [] in
    let y = get_or ys k [] in
    ext_get_or 0 x y (wide k [] less ∙ sym (wide' k [] (omega (arith, less, many))))
    (λ j small.
    let in_line : j < 64 = omega (arith, small, wide k [] less) in
    sym (at xs wide k j in_line) ∙ (ap (λ bs. get_or bs (64 * k + j) 0) same ∙ at ys wide' k j in_line)))
  where
    at : (lines : List (List ℕ)) → AreWide lines → (k j : ℕ) → j < 64 → get_or (joined lines) (64 * k + j) 0 ≡ get_or (get_or lines k []) j 0
    at lines wide k j small =
        let line : (64 * k + j) / 64 ≡ k = omega arith in
        let byte : (64 * k + j) % 64 ≡ j = omega arith in
        joined-byte lines (64 * k + j) wide
        ∙ (ap (λ n. get_or (get_or lines n []) ((64 * k + j) % 64) 0) line ∙ ap (λ n. get_or (get_or lines k []) n 0) byte)

-- ---- the bytes of a place

module _ (layout : Shape) (area : List (List ℕ)) (good : IsLayout layout) (many : length area ≡ area_lines layout) (wide : AreWide area) where
  byte-is : (b o : ℕ) → o < size_of layout b → byte_in_area layout area b o ≡ get_or (get_or area (line_at layout b o) []) (o % 64) 0
  byte-is b o less = ap (λ c. cond c (get_or (get_or area (line_at layout b o) []) (o % 64) 0) 0) (lt-ltb o (size_of layout b) less)

  module _ (p : Place) (lies : LiesIn layout p) (some : 0 < p.len) where
    -- its lines are there
    pub lines-inside : begin_line layout p + line_count p ≤ length area
    lines-inside =
        let fits = lies.bytes in
        omega (arith, line-within layout good p.buffer (p.offset + p.len - 1) lies.buffer (omega (arith, fits, some)), many, some)

    -- and have all its bytes
    pub length-text : length (text_in p (lines_at layout area p)) ≡ p.len
    length-text =
        let lines = lines_at layout area p in
        omega (
          arith,
          length-take p.len (drop (p.offset % 64) (joined lines)),
          length-drop (p.offset % 64) (joined lines),
          joined-length 64 lines (lines-wide layout p area wide),
          length-take (line_count p) (drop (begin_line layout p) area),
          length-drop (begin_line layout p) area,
          lines-inside,
        )

    pub text-byte : (i : ℕ) → i < p.len → get_or (text_in p (lines_at layout area p)) i 0 ≡ byte_in_area layout area p.buffer (p.offset + i)
    text-byte i less =
        let lines = lines_at layout area p in
        let fits = lies.bytes in
        let at : ℕ = p.offset % 64 + i in
        let line : begin_line layout p + at / 64 ≡ line_at layout p.buffer (p.offset + i) = omega arith in
        let byte : at % 64 ≡ (p.offset + i) % 64 = omega arith in
        get_or-take p.len (drop (p.offset % 64) (joined lines)) i 0 less
        ∙ (get_or-drop (p.offset % 64) (joined lines) i 0
        ∙ (joined-byte lines at (lines-wide layout p area wide)
        ∙ (ap (λ l. get_or l (at % 64) 0)
        (get_or-take (line_count p) (drop (begin_line layout p) area) (at / 64) [] (omega (arith, less))
        ∙ (get_or-drop (begin_line layout p) area (at / 64) [] ∙ ap (λ k. get_or area k []) line))
        ∙ (ap (λ j. get_or (get_or area (line_at layout p.buffer (p.offset + i)) []) j 0) byte
        ∙ sym (byte-is p.buffer (p.offset + i) (omega (arith, less, fits)))))))

-- ---- a text is laid

-- Whole lines change their own bytes alone.
pub stores-lines : (layout : Shape) (area : List (List ℕ)) → IsLayout layout → (p : Place) (lines : List (List ℕ)) → p.offset % 64 ≡ 0
    → p.len ≡ 64 * length lines → p.offset + p.len ≤ size_of layout p.buffer
    → StoresAt (byte_in_area layout area) (byte_in_area layout (laid area (begin_line layout p) lines)) p
stores-lines layout area good p lines aligned whole within c y outside =
    ⊎_elim
    (λ (inside : y < size_of layout c).
    ap (λ l. cond (nat_lt y (size_of layout c)) (get_or l (y % 64) 0) 0)
    (laid-other area (begin_line layout p) lines (line_at layout c y) (away inside)))
    (λ (past : size_of layout c ≤ y). no-byte (nat_lt y (size_of layout c)) _ _ (le-ltb y (size_of layout c) past))
    (cases_lt y (size_of layout c))
  where
    no-byte : (c : Bool) (v v' : ℕ) → c ≡ false → cond c v 0 ≡ cond c v' 0
    no-byte true v v' e = absurd (let none : ⊥ = cc in none)
    no-byte false v v' e = refl

    away : y < size_of layout c → (line_at layout c y < begin_line layout p) ⊎ (begin_line layout p + length lines ≤ line_at layout c y)
    away inside =
        let ours = begin-lines layout p.buffer good in
        let theirs = begin-lines layout c good in
        ⊎_elim
        (λ before. inl (omega (arith, begins-apart layout c p.buffer before, ours, theirs, inside)))
        (λ from.
        ⊎_elim
        (λ behind. inr (omega (arith, begins-apart layout p.buffer c behind, ours, theirs, aligned, whole, within)))
        (λ to.
        let same : c ≡ p.buffer = omega arith in
        ⊎_elim
        (λ other. absurd (other same))
        (λ bytes.
        let line : line_at layout c y ≡ line_at layout p.buffer y = ap (λ b. line_at layout b y) same in
        ⊎_elim (λ before. inl (omega (arith, aligned, before, line))) (λ behind. inr (omega (arith, aligned, whole, behind, line))) bytes)
        outside)
        (cases_lt p.buffer c))
        (cases_lt c p.buffer)

-- And they show their text.
pub shown-lines : (layout : Shape) (area : List (List ℕ)) → IsLayout layout → length area ≡ area_lines layout → (p : Place) → LiesIn layout p
    → p.offset % 64 ≡ 0 → (lines : List (List ℕ)) (bytes : List ℕ) → p.len ≡ length bytes → HaveText lines bytes
    → IsShown (byte_in_area layout (laid area (begin_line layout p) lines)) p bytes
shown-lines layout area good many p lies aligned lines bytes len have = record {
  len = sym len;
  bytes = λ i less.
      let o : ℕ = p.offset + i in
      let fits = lies.bytes in
      let rows = have.many in
      let small : i < length bytes = omega (arith, less, len) in
      let line : line_at layout p.buffer o ≡ begin_line layout p + i / 64 = omega (arith, aligned) in
      let byte : o % 64 ≡ i % 64 = omega (arith, aligned) in
      let inside : nat_lt o (size_of layout p.buffer) ≡ true = lt-ltb o (size_of layout p.buffer) (omega (arith, less, fits)) in
      let last = line-within layout good p.buffer (p.offset + p.len - 1) lies.buffer (omega (arith, less, fits)) in
      let now = laid area (begin_line layout p) lines in
      ap (λ c. cond c (get_or (get_or now (line_at layout p.buffer o) []) (o % 64) 0) 0) inside
      ∙ (ap (λ k. get_or (get_or now k []) (o % 64) 0) line
      ∙ (ap (λ l. get_or l (o % 64) 0)
      (laid-at area (begin_line layout p) lines (i / 64) (omega (arith, last, many, rows, less, len, aligned)) (omega (arith, rows, small)))
      ∙ (ap (λ j. get_or (get_or lines (i / 64) []) j 0) byte
      ∙ (sym (joined-byte lines i have.wide)
      ∙ (sym (get_or-take (length bytes) (joined lines) i 0 small) ∙ ap (λ bs. get_or bs i 0) have.text)))));
}
