-- The words of a group in the table.
use Rattle.std.proofs.Common.{◌≡◌, ℕ, zero, suc, ◌*◌, suc-mul, mul-le-mul_right, ◌+◌, ◌-◌, ◌<◌, ◌≤◌, List, [], ◌∷◌, ◌++◌, length, set, get_or}
use Rattle.std.{proofs.Common.{refl, ap, sym, ◌∙◌, arith, length-append, map, subst}, specs.{List.{flat_map}, Prelude.{All}}}
use Rattle.std.proofs.lemmas.List.{get_or-append-add, get_or_append_left, set-append_left, set-append_right, Elements.{All-head, All-tail}}
use Rattle.area_layout.specs.Layout.{all_buffers}
use Rattle.board_face.specs.{NicCalls.{apps_of}, declared.views.parts.Setting.{Setting}}
use Rattle.ref_words.specs.{Words.{Words, WordsHaveSizes, AreSlots, groups, group_sizes, begins, begin_at, table_of}, Lines.{joined}}
use Rattle.ref_words.specs.Words.{pool_at, pool_word_of, with_pool, user_word_at, user_word_of, with_user, role_at, with_role, table_words}
use Rattle.ref_words.specs.Words.{slot_word, with_slot_word, note_at, with_note, refill_at, with_refill, free_at, free_word_of, with_free}
use Rattle.word_rings.specs.Slots.{note_width, refill_width}

-- ---- lists that lie one behind another

set-append-add : {A : Type 0} (xs ys : List A) (i : ℕ) (a : A) → set (xs ++ ys) (length xs + i) a ≡ xs ++ set ys i a
set-append-add xs ys i a =
    let e : length xs + i - length xs ≡ i = omega arith in
    set-append_right xs ys (length xs) (length xs + i) a refl (omega arith) ∙ ap (λ n. xs ++ set ys n a) e

-- an element of one of them
pub joined-word : (rows : List (List ℕ)) (g i : ℕ) → g < length rows → i < length (get_or rows g [])
    → get_or (joined rows) (begins (map length rows) g + i) 0 ≡ get_or (get_or rows g []) i 0
joined-word [] g i there inside = absurd (omega arith)
joined-word (row ∷ rows) zero i there inside =
    let at : 0 + i ≡ i = omega arith in
    ap (λ n. get_or (row ++ joined rows) n 0) at ∙ get_or_append_left row (joined rows) 0 i inside
joined-word (row ∷ rows) (suc g) i there inside =
    let at : begins (map length (row ∷ rows)) (suc g) + i ≡ length row + (begins (map length rows) g + i) = omega arith in
    ap (λ n. get_or (row ++ joined rows) n 0) at
    ∙ (get_or-append-add row (joined rows) (begins (map length rows) g + i) 0 ∙ joined-word rows g i (omega arith) inside)

pub joined-set : (rows : List (List ℕ)) (g i n : ℕ) → g < length rows → i < length (get_or rows g [])
    → set (joined rows) (begins (map length rows) g + i) n ≡ joined (set rows g (set (get_or rows g []) i n))
joined-set [] g i n there inside = absurd (omega arith)
joined-set (row ∷ rows) zero i n there inside =
    let at : 0 + i ≡ i = omega arith in
    ap (λ m. set (row ++ joined rows) m n) at ∙ set-append_left row (joined rows) i n inside
joined-set (row ∷ rows) (suc g) i n there inside =
    let at : begins (map length (row ∷ rows)) (suc g) + i ≡ length row + (begins (map length rows) g + i) = omega arith in
    ap (λ m. set (row ++ joined rows) m n) at
    ∙ (set-append-add row (joined rows) (begins (map length rows) g + i) n ∙ ap (λ xs. row ++ xs) (joined-set rows g i n (omega arith) inside))

-- ---- rows of one length

module _ (t : ℕ) where
  pub begins-rows : (rows : List (List ℕ)) (a : ℕ) → All (λ r. length r ≡ t) rows → a < length rows → begins (map length rows) a ≡ a * t
  begins-rows [] a wide there = absurd (omega arith)
  begins-rows (row ∷ rows) zero wide there = omega arith
  begins-rows (row ∷ rows) (suc a) wide there =
      omega (
        arith,
        All-head (λ r. length r ≡ t) row rows wide,
        begins-rows rows a (All-tail (λ r. length r ≡ t) row rows wide) (omega arith),
        suc-mul a t,
      )

  pub joined-length : (rows : List (List ℕ)) → All (λ r. length r ≡ t) rows → length (joined rows) ≡ length rows * t
  joined-length [] wide = omega arith
  joined-length (row ∷ rows) wide =
      omega (
        arith,
        length-append row (joined rows),
        All-head (λ r. length r ≡ t) row rows wide,
        joined-length rows (All-tail (λ r. length r ≡ t) row rows wide),
        suc-mul (length rows) t,
      )

  pub row-bound : (a b n : ℕ) → a < n → b < t → a * t + b < n * t
  row-bound a b n small less = let m : suc a * t ≤ n * t = mul-le-mul_right t small in omega (arith, suc-mul a t)

-- slots of one width, in rings of as many slots
slots-length : (places width : ℕ) (rings : List (List (List ℕ))) → All (AreSlots places width) rings
    → length (flat_map joined rings) ≡ length rings * (places * width)
slots-length places width [] all = omega arith
slots-length places width (ring ∷ rings) all =
    let here = All-head (AreSlots places width) ring rings all in
    omega (
      arith,
      length-append (joined ring) (flat_map joined rings),
      joined-length width ring here.wide,
      ap (λ n. n * width) here.many,
      slots-length places width rings (All-tail (AreSlots places width) ring rings all),
      suc-mul (length rings) (places * width),
    )

-- a word of a slot lies in its ring
inside-ring : (places width : ℕ) (ring : List (List ℕ)) (s i : ℕ) → AreSlots places width ring → s < places → i < width
    → begins (map length ring) s + i < length (joined ring)
inside-ring places width ring s i here small less =
    omega (
      arith,
      begins-rows width ring s here.wide (omega (arith, small, here.many)),
      joined-length width ring here.wide,
      ap (λ n. n * width) here.many,
      row-bound width s i places small less,
    )

module _ (places width : ℕ) where
  -- a word of a slot
  pub ring-word : (rings : List (List (List ℕ))) (a s i : ℕ) → All (AreSlots places width) rings → a < length rings → s < places → i < width
      → get_or (flat_map joined rings) (a * (places * width) + (s * width + i)) 0 ≡ slot_word rings a s i
  ring-word [] a s i all there small less = absurd (omega arith)
  ring-word (ring ∷ rings) zero s i all there small less =
      let here = All-head (AreSlots places width) ring rings all in
      let at : 0 * (places * width) + (s * width + i) ≡ begins (map length ring) s + i =
      omega (arith, begins-rows width ring s here.wide (omega (arith, small, here.many))) in
      ap (λ n. get_or (joined ring ++ flat_map joined rings) n 0) at
      ∙ (get_or_append_left (joined ring) (flat_map joined rings) 0 (begins (map length ring) s + i) (inside-ring places width ring s i here small less)
      ∙ joined-word ring s i (omega (arith, small, here.many)) (omega (arith, less, here.wide s [] (omega (arith, small, here.many)))))
  ring-word (ring ∷ rings) (suc a) s i all there small less =
      let here = All-head (AreSlots places width) ring rings all in
      let at : suc a * (places * width) + (s * width + i) ≡ length (joined ring) + (a * (places * width) + (s * width + i)) =
      omega (arith, suc-mul a (places * width), joined-length width ring here.wide, ap (λ n. n * width) here.many) in
      ap (λ n. get_or (joined ring ++ flat_map joined rings) n 0) at
      ∙ (get_or-append-add (joined ring) (flat_map joined rings) (a * (places * width) + (s * width + i)) 0
      ∙ ring-word rings a s i (All-tail (AreSlots places width) ring rings all) (omega arith) small less)

  -- another word there
  pub ring-set : (rings : List (List (List ℕ))) (a s i n : ℕ) → All (AreSlots places width) rings → a < length rings → s < places → i < width
      → set (flat_map joined rings) (a * (places * width) + (s * width + i)) n ≡ flat_map joined (with_slot_word rings a s i n)
  ring-set [] a s i n all there small less = absurd (omega arith)
  ring-set (ring ∷ rings) zero s i n all there small less =
      let here = All-head (AreSlots places width) ring rings all in
      let at : 0 * (places * width) + (s * width + i) ≡ begins (map length ring) s + i =
      omega (arith, begins-rows width ring s here.wide (omega (arith, small, here.many))) in
      ap (λ m. set (joined ring ++ flat_map joined rings) m n) at
      ∙ (set-append_left (joined ring) (flat_map joined rings) (begins (map length ring) s + i) n (inside-ring places width ring s i here small less)
      ∙ ap (λ xs. xs ++ flat_map joined rings)
      (joined-set ring s i n (omega (arith, small, here.many)) (omega (arith, less, here.wide s [] (omega (arith, small, here.many))))))
  ring-set (ring ∷ rings) (suc a) s i n all there small less =
      let here = All-head (AreSlots places width) ring rings all in
      let at : suc a * (places * width) + (s * width + i) ≡ length (joined ring) + (a * (places * width) + (s * width + i)) =
      omega (arith, suc-mul a (places * width), joined-length width ring here.wide, ap (λ n. n * width) here.many) in
      ap (λ m. set (joined ring ++ flat_map joined rings) m n) at
      ∙ (set-append-add (joined ring) (flat_map joined rings) (a * (places * width) + (s * width + i)) n
      ∙ ap (λ xs. joined ring ++ xs) (ring-set rings a s i n (All-tail (AreSlots places width) ring rings all) (omega arith) small less))

slot-inside-of : (places width : ℕ) (rings : List (List (List ℕ))) (a s i : ℕ) → All (AreSlots places width) rings → a < length rings → s < places
    → i < width → a * (places * width) + (s * width + i) < length (flat_map joined rings)
slot-inside-of places width rings a s i all there small less =
    omega (
      arith,
      slots-length places width rings all,
      row-bound (places * width) a (s * width + i) (length rings) there (row-bound width s i places small less),
    )

-- ---- the groups

module _ (setting : Setting) (w : Words) (sizes : WordsHaveSizes setting w) where
  pub lengths : map length (groups w) ≡ group_sizes setting
  lengths =
      let users : length (joined w.users) ≡ apps_of setting * all_buffers setting.layout =
      joined-length (all_buffers setting.layout) w.users sizes.rows ∙ ap (λ n. n * all_buffers setting.layout) sizes.users in
      let notes : length (flat_map joined w.notes) ≡ apps_of setting * (setting.places * note_width) =
      slots-length setting.places note_width w.notes sizes.note_slots ∙ ap (λ n. n * (setting.places * note_width)) sizes.notes in
      let refills : length (flat_map joined w.refills) ≡ apps_of setting * (setting.places * refill_width) =
      slots-length setting.places refill_width w.refills sizes.refill_slots ∙ ap (λ n. n * (setting.places * refill_width)) sizes.refills in
      rw (sizes.roles, sizes.phases, sizes.pool, users, sizes.free, notes, refills) refl

  pub group-word : (g i : ℕ) → g < 7 → i < length (get_or (groups w) g [])
      → get_or (table_of w) (begin_at setting g + i) 0 ≡ get_or (get_or (groups w) g []) i 0
  group-word g i there inside =
      subst (λ ls. get_or (table_of w) (begins ls g + i) 0 ≡ get_or (get_or (groups w) g []) i 0) lengths (joined-word (groups w) g i there inside)

  pub group-set : (g i n : ℕ) → g < 7 → i < length (get_or (groups w) g [])
      → set (table_of w) (begin_at setting g + i) n ≡ joined (set (groups w) g (set (get_or (groups w) g []) i n))
  group-set g i n there inside =
      subst (λ ls. set (table_of w) (begins ls g + i) n ≡ joined (set (groups w) g (set (get_or (groups w) g []) i n))) lengths
      (joined-set (groups w) g i n there inside)

  pub role-word : (r : ℕ) → r < length w.roles → get_or (table_of w) (role_at setting r) 0 ≡ get_or w.roles r 0
  role-word r there = group-word 0 r (omega arith) there

  pub role-set : (r : ℕ) → r < length w.roles → set (table_of w) (role_at setting r) 1 ≡ table_of (with_role w r)
  role-set r there = group-set 0 r 1 (omega arith) there

  pub pool-word : (b : ℕ) → b < length w.pool → get_or (table_of w) (pool_at setting b) 0 ≡ pool_word_of w b
  pool-word b there = group-word 2 b (omega arith) there

  pub pool-set : (b n : ℕ) → b < length w.pool → set (table_of w) (pool_at setting b) n ≡ table_of (with_pool w b n)
  pool-set b n there = group-set 2 b n (omega arith) there

  pub free-word : (j : ℕ) → j < length w.free → get_or (table_of w) (free_at setting j) 0 ≡ free_word_of w j
  free-word j there = group-word 4 j (omega arith) there

  pub free-set : (j n : ℕ) → j < length w.free → set (table_of w) (free_at setting j) n ≡ table_of (with_free w j n)
  free-set j n there = group-set 4 j n (omega arith) there

  abbrev t : ℕ
  t = all_buffers setting.layout

  user-inside : (a b : ℕ) → a < length w.users → b < t → a * t + b < length (joined w.users)
  user-inside a b there small = omega (arith, joined-length t w.users sizes.rows, row-bound t a b (length w.users) there small)

  row-length : (a : ℕ) → a < length w.users → length (get_or w.users a []) ≡ t
  row-length a there = sizes.rows a [] there

  pub user-word : (a b : ℕ) → a < length w.users → b < t → get_or (table_of w) (user_word_at setting a b) 0 ≡ user_word_of w a b
  user-word a b there small =
      group-word 3 (a * t + b) (omega arith) (user-inside a b there small)
      ∙ (ap (λ n. get_or (joined w.users) (n + b) 0) (sym (begins-rows t w.users a sizes.rows there))
      ∙ joined-word w.users a b there (omega (arith, row-length a there)))

  pub user-set : (a b n : ℕ) → a < length w.users → b < t → set (table_of w) (user_word_at setting a b) n ≡ table_of (with_user w a b n)
  user-set a b n there small =
      group-set 3 (a * t + b) n (omega arith) (user-inside a b there small)
      ∙ ap (λ us. joined (set (groups w) 3 us))
      (ap (λ m. set (joined w.users) (m + b) n) (sym (begins-rows t w.users a sizes.rows there))
      ∙ joined-set w.users a b n there (omega (arith, row-length a there)))

  pub note-word : (a s i : ℕ) → a < length w.notes → s < setting.places → i < note_width
      → get_or (table_of w) (note_at setting a s i) 0 ≡ slot_word w.notes a s i
  note-word a s i there small less =
      group-word 5 (a * (setting.places * note_width) + (s * note_width + i)) (omega arith)
      (slot-inside-of setting.places note_width w.notes a s i sizes.note_slots there small less)
      ∙ ring-word setting.places note_width w.notes a s i sizes.note_slots there small less

  pub note-set : (a s i n : ℕ) → a < length w.notes → s < setting.places → i < note_width
      → set (table_of w) (note_at setting a s i) n ≡ table_of (with_note w a s i n)
  note-set a s i n there small less =
      group-set 5 (a * (setting.places * note_width) + (s * note_width + i)) n (omega arith)
      (slot-inside-of setting.places note_width w.notes a s i sizes.note_slots there small less)
      ∙ ap (λ rs. joined (set (groups w) 5 rs)) (ring-set setting.places note_width w.notes a s i n sizes.note_slots there small less)

  pub refill-word : (a s i : ℕ) → a < length w.refills → s < setting.places → i < refill_width
      → get_or (table_of w) (refill_at setting a s i) 0 ≡ slot_word w.refills a s i
  refill-word a s i there small less =
      group-word 6 (a * (setting.places * refill_width) + (s * refill_width + i)) (omega arith)
      (slot-inside-of setting.places refill_width w.refills a s i sizes.refill_slots there small less)
      ∙ ring-word setting.places refill_width w.refills a s i sizes.refill_slots there small less

  pub refill-set : (a s i n : ℕ) → a < length w.refills → s < setting.places → i < refill_width
      → set (table_of w) (refill_at setting a s i) n ≡ table_of (with_refill w a s i n)
  refill-set a s i n there small less =
      group-set 6 (a * (setting.places * refill_width) + (s * refill_width + i)) n (omega arith)
      (slot-inside-of setting.places refill_width w.refills a s i sizes.refill_slots there small less)
      ∙ ap (λ rs. joined (set (groups w) 6 rs)) (ring-set setting.places refill_width w.refills a s i n sizes.refill_slots there small less)

  pub table-length : length (table_of w) ≡ table_words setting
  table-length = joined-all (groups w) ∙ ap (λ ls. begins ls 7) lengths
    where
      joined-all : (rows : List (List ℕ)) → length (joined rows) ≡ begins (map length rows) (length rows)
      joined-all [] = refl
      joined-all (row ∷ rows) = omega (arith, length-append row (joined rows), joined-all rows)

-- ---- no two groups share a word

begins-step : (sizes : List ℕ) (g : ℕ) → begins sizes (suc g) ≡ begins sizes g + get_or sizes g 0
begins-step [] zero = refl
begins-step [] (suc g) = refl
begins-step (s ∷ sizes) zero = omega arith
begins-step (s ∷ sizes) (suc g) = omega (arith, begins-step sizes g)

begins-later : (sizes : List ℕ) (g d : ℕ) → begins sizes g + get_or sizes g 0 ≤ begins sizes (suc g + d)
begins-later sizes g zero = let e : suc g + 0 ≡ suc g = omega arith in omega (arith, begins-step sizes g, ap (begins sizes) e)
begins-later sizes g (suc d) =
    let e : suc g + suc d ≡ suc (suc g + d) = omega arith in
    omega (arith, ap (begins sizes) e, begins-step sizes (suc g + d), begins-later sizes g d)

pub begins-apart : (sizes : List ℕ) (g h i j : ℕ) → g < h → i < get_or sizes g 0 → begins sizes g + i < begins sizes h + j
begins-apart sizes g h i j less inside =
    let e : suc g + (h - suc g) ≡ h = omega arith in
    omega (arith, begins-later sizes g (h - suc g), ap (begins sizes) e)
