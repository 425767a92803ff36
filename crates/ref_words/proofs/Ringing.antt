-- Each step at a ring keeps it, whatever is written there and however many words a slot has.
use Rattle.std.proofs.Common.{◌≡◌, ⊎_elim, inl, inr, ℕ, suc, ◌+◌, ◌%◌, ◌<◌, ◌≤◌, true, List, [], ◌∷◌, ◌++◌}
use Rattle.std.{proofs.Common.{length, take, drop, set, get_or, refl, ap, sym, ◌∙◌, arith, subst, mod-lt}, specs.Prelude.{◌≢◌, ◌⊎◌}}
use Rattle.std.proofs.lemmas.List.{length-set, get_or-set_same, get_or-set_other, length_push, get_or_append_left, get_or_push, take_more, take_more_set, take_all}
use Rattle.std.proofs.{Math.Nat.{add-mod_right}, lemmas.Bool.{cases_lt, Decides.{eqb_tells}}}
use Rattle.atomic_table.proofs.Lists.{one_turn}
use Rattle.board_face.specs.{declared.views.parts.Slot.{Slot}, Opened.{unseen}, SlotSteps.{seen_with, one_more}}
use Rattle.ref_words.specs.{Rings.{slot_of, IsSoFar, IsRing}, Words.{with_word}}

pub apart : (k j p : ℕ) → k < j → j < k + p → k % p ≢ j % p
apart k j p less near e = let same : k ≡ j = one_turn k j p (omega arith) near e in absurd (omega arith)

pub apart' : (k j p : ℕ) → k < j → j < k + p → j % p ≢ k % p
apart' k j p less near e = apart k j p less near (sym e)

same-or : (x y : ℕ) → (x ≡ y) ⊎ (x ≢ y)
same-or x y = ⊎_elim (λ t. inl t.1) (λ t. inr t.1) (eqb_tells x y)

-- ---- the words of one slot

stored : (slot ws : List ℕ) (n : ℕ) → 1 + length ws < length slot → IsSoFar slot ws → IsSoFar (set slot (1 + length ws) n) (ws ++ n ∷ [])
stored [] ws n there so = absurd (omega arith)
stored (flag ∷ slot) ws n there so =
    let at : 1 + length ws ≡ suc (length ws) = omega arith in
    let m : length (ws ++ n ∷ []) ≡ length ws + 1 = length_push ws n in
    ap (λ i. take (length (ws ++ n ∷ [])) (drop 1 (set (flag ∷ slot) i n))) at
    ∙ (ap (λ l. take l (set slot (length ws) n)) m ∙ (take_more_set slot (length ws) n (omega arith) ∙ ap (λ xs. xs ++ n ∷ []) so))

loaded : (slot ws : List ℕ) → 1 + length ws < length slot → IsSoFar slot ws → IsSoFar slot (ws ++ get_or slot (1 + length ws) 0 ∷ [])
loaded [] ws there so = absurd (omega arith)
loaded (flag ∷ slot) ws there so =
    let at : 1 + length ws ≡ suc (length ws) = omega arith in
    let found : get_or (flag ∷ slot) (1 + length ws) 0 ≡ get_or slot (length ws) 0 = ap (λ i. get_or (flag ∷ slot) i 0) at in
    let m : length (ws ++ get_or (flag ∷ slot) (1 + length ws) 0 ∷ []) ≡ length ws + 1 = length_push ws (get_or (flag ∷ slot) (1 + length ws) 0) in
    ap (λ l. take l slot) m ∙ (take_more slot (length ws) 0 (omega arith) ∙ (ap (λ xs. xs ++ get_or slot (length ws) 0 ∷ []) so
    ∙ ap (λ n. ws ++ n ∷ []) (sym found)))

whole : (slot ws : List ℕ) → length slot ≡ suc (length ws) → IsSoFar slot ws → drop 1 slot ≡ ws
whole [] ws many so = absurd (omega arith)
whole (flag ∷ slot) ws many so = sym (take_all (length ws) slot (omega arith)) ∙ so

published : (slot : List ℕ) → 0 < length slot → set slot 0 1 ≡ 1 ∷ drop 1 slot
published [] some = absurd (omega arith)
published (flag ∷ slot) some = refl

module _ {X : Type 0} (width : ℕ) (words_of : X → List ℕ) (places : ℕ) (slots : List (List ℕ)) (written : List X) (taken : ℕ)
    (writer reader : Slot) (ring : IsRing width words_of places slots written taken writer reader) where
  abbrev Ring : List (List ℕ) → List X → ℕ → Slot → Slot → Type 0
  Ring = IsRing width words_of places

  within : (k : ℕ) → k % places < length slots
  within k = let b : k % places < places = mod-lt k ring.some in omega (arith, ring.many)

  pub here : (k i n : ℕ) → slot_of places (with_word slots (k % places) i n) k ≡ set (slot_of places slots k) i n
  here k i n = get_or-set_same slots (k % places) (set (slot_of places slots k) i n) [] (within k)

  pub other : (k j i n : ℕ) → k % places ≢ j % places → slot_of places (with_word slots (j % places) i n) k ≡ slot_of places slots k
  other k j i n ne = get_or-set_other slots (j % places) (k % places) (set (slot_of places slots j) i n) [] ne

  many-after : (j i n : ℕ) → length (with_word slots (j % places) i n) ≡ places
  many-after j i n = length-set slots (j % places) (set (slot_of places slots j) i n) ∙ ring.many

  wide-after : (j i n k : ℕ) → length (slot_of places (with_word slots (j % places) i n) k) ≡ width
  wide-after j i n k =
      ⊎_elim
      (λ (t : k % places ≡ j % places). ap (λ x. length (get_or (with_word slots (j % places) i n) x [])) t ∙ (ap length (here j i n)
      ∙ (length-set (slot_of places slots j) i n ∙ ring.wide j)))
      (λ (t : k % places ≢ j % places). ap length (other k j i n t) ∙ ring.wide k)
      (same-or (k % places) (j % places))

  one-of : (xs : List X) → 0 < length xs → X
  one-of [] some_there = absurd (omega arith)
  one-of (x ∷ xs) some_there = x

  -- the flag of what was written and not taken
  flag-full : (k : ℕ) → taken ≤ k → k < length written → get_or (slot_of places slots k) 0 0 ≡ 1
  flag-full k from to = ap (λ ws. get_or ws 0 0) (ring.full k (one-of written (omega arith)) from to)

  -- ---- the writer

  -- it sees the flag 0
  pub sees-free : get_or (slot_of places slots (length written)) 0 0 ≡ 0 → Ring slots written taken (seen_with []) reader
  sees-free flag =
      let room : length written < taken + places =
      ⊎_elim
      (λ less. less)
      (λ past.
      let at : length written ≡ taken + places = omega (arith, ring.room) in
      let turn : length written % places ≡ taken % places = ap (λ n. n % places) at ∙ add-mod_right taken places in
      let one = flag-full taken (omega arith) (omega (arith, ring.some)) in
      let none : get_or (slot_of places slots taken) 0 0 ≡ 0 = ap (λ i. get_or (get_or slots i []) 0 0) (sym turn) ∙ flag in
      absurd (omega arith))
      (cases_lt (length written) (taken + places)) in
      assumption (ring, room)

  -- it stores the next word
  pub stores : (n : ℕ) → writer.seen ≡ true → 1 + length writer.words < width
      → Ring (with_word slots (length written % places) (1 + length writer.words) n) written taken (one_more writer n) reader
  stores n saw more =
      let w = length written in
      let near = ring.writer_seen saw in
      record {
        some = ring.some;
        many = many-after w (1 + length writer.words) n;
        wide = wide-after w (1 + length writer.words) n;
        order = ring.order;
        room = ring.room;
        full = λ k d from to. other k w (1 + length writer.words) n (apart k w places to (omega arith)) ∙ ring.full k d from to;
        free = λ k from to.
            ⊎_elim
            (λ (at : k ≡ w).
            ap (λ j. get_or (slot_of places (with_word slots (w % places) (1 + length writer.words) n) j) 0 0) at
            ∙ (ap (λ ws. get_or ws 0 0) (here w (1 + length writer.words) n)
            ∙ (get_or-set_other (slot_of places slots w) (1 + length writer.words) 0 n 0 (λ e. absurd (omega arith)) ∙ ring.free w (omega arith) near)))
            (λ (ne : k ≢ w). ap (λ ws. get_or ws 0 0) (other k w (1 + length writer.words) n (apart' w k places (omega arith) (omega
            (arith, ring.order)))) ∙ ring.free k from to)
            (same-or k w);
        writer_seen = λ _. near;
        writer_words = λ _.
            subst (λ ws. IsSoFar ws (writer.words ++ n ∷ [])) (sym (here w (1 + length writer.words) n)) (stored
            (slot_of places slots w) writer.words n (omega (arith, ring.wide w)) (ring.writer_words saw));
        reader_seen = ring.reader_seen;
        reader_words = λ saw'.
            let less = ring.reader_seen saw' in
            subst (λ ws. IsSoFar ws reader.words) (sym (other taken w (1 + length writer.words) n (apart taken w places less near))) (ring.reader_words saw');
      }

  -- it has stored all words of what it writes
  pub has-stored : (x : X) → writer.seen ≡ true → writer.words ≡ words_of x → 1 + length (words_of x) ≡ width
      → drop 1 (slot_of places slots (length written)) ≡ words_of x
  has-stored x saw is all =
      let w = length written in
      whole (slot_of places slots w) (words_of x) (omega (arith, ring.wide w))
      (subst (IsSoFar (slot_of places slots w)) is (ring.writer_words saw))

  -- it stores the flag 1
  pub publishes : (x : X) → writer.seen ≡ true → drop 1 (slot_of places slots (length written)) ≡ words_of x → 0 < width
      → Ring (with_word slots (length written % places) 0 1) (written ++ x ∷ []) taken unseen reader
  publishes x saw words_are some_width =
      let w = length written in
      let near = ring.writer_seen saw in
      let more : length (written ++ x ∷ []) ≡ length written + 1 = length_push written x in
      record {
        some = ring.some;
        many = many-after w 0 1;
        wide = wide-after w 0 1;
        order = omega (arith, more, ring.order);
        room = omega (arith, more);
        full = λ k d from to.
            ⊎_elim
            (λ (less : k < w).
            other k w 0 1 (apart k w places less (omega arith)) ∙ (ring.full k d from less
            ∙ ap (λ y. 1 ∷ words_of y) (sym (get_or_append_left written (x ∷ []) d k less))))
            (λ (past : w ≤ k).
            let at : k ≡ w = omega (arith, more) in
            ap (slot_of places (with_word slots (w % places) 0 1)) at
            ∙ (here w 0 1 ∙ (published (slot_of places slots w) (omega (arith, ring.wide w)) ∙ (ap (λ ws. 1 ∷ ws) words_are
            ∙ ap (λ y. 1 ∷ words_of y) (sym (ap (λ j. get_or (written ++ x ∷ []) j d) at ∙ get_or_push written x d w refl))))))
            (cases_lt k w);
        free = λ k from to. ap (λ ws. get_or ws 0 0) (other k w 0 1 (apart' w k places (omega (arith, more)) (omega (arith, ring.order))))
            ∙ ring.free k (omega (arith, more)) to;
        writer_seen = λ e. absurd (let none : ⊥ = cc in none);
        writer_words = λ e. absurd (let none : ⊥ = cc in none);
        reader_seen = λ saw'. omega (arith, more, ring.reader_seen saw');
        reader_words = λ saw'.
            let less = ring.reader_seen saw' in
            subst (λ ws. IsSoFar ws reader.words) (sym (other taken w 0 1 (apart taken w places less near))) (ring.reader_words saw');
      }

  -- ---- the reader

  -- it sees the flag 1
  pub sees-full : get_or (slot_of places slots taken) 0 0 ≡ 1 → Ring slots written taken writer (seen_with [])
  sees-full flag =
      let some : taken < length written =
      ⊎_elim
      (λ less. less)
      (λ past. absurd (omega (arith, ring.free taken past (omega (arith, ring.some)), flag)))
      (cases_lt taken (length written)) in
      assumption (ring, some)

  -- it loads the next word
  pub loads : reader.seen ≡ true → 1 + length reader.words < width → Ring slots written taken writer (one_more reader (get_or
      (slot_of places slots taken) (1 + length reader.words) 0))
  loads saw more =
      assumption (
        ring,
        ring.reader_seen saw,
        loaded (slot_of places slots taken) reader.words (omega (arith, ring.wide taken)) (ring.reader_words saw),
      )

  -- what it has loaded are the first words of what was written next
  pub has-front : (d : X) → reader.seen ≡ true → take (length reader.words) (words_of (get_or written taken d)) ≡ reader.words
  has-front d saw =
      ap (λ ws. take (length reader.words) (drop 1 ws)) (sym (ring.full taken d (omega arith) (ring.reader_seen saw))) ∙ ring.reader_words saw

  -- and once it has loaded all, that is it
  pub has-next : (d : X) → reader.seen ≡ true → 1 + length reader.words ≡ width → reader.words ≡ words_of (get_or written taken d)
  has-next d saw all =
      let so = ring.reader_words saw in
      let full = ring.full taken d (omega arith) (ring.reader_seen saw) in
      let long : 1 + length (words_of (get_or written taken d)) ≡ width = omega (arith, ap length full, ring.wide taken) in
      sym so ∙ (ap (λ ws. take (length reader.words) (drop 1 ws)) full ∙ take_all (length reader.words) (words_of (get_or written taken d)) (omega arith))

  -- it stores the flag 0
  pub frees : reader.seen ≡ true → Ring (with_word slots (taken % places) 0 0) written (suc taken) writer unseen
  frees saw =
      let less = ring.reader_seen saw in
      let wide_some : 0 < length (slot_of places slots taken) = omega (
        arith,
        ap length (ring.full taken (one-of written (omega
            (arith, less))) (omega arith) less),
      ) in
      record {
        some = ring.some;
        many = many-after taken 0 0;
        wide = wide-after taken 0 0;
        order = omega arith;
        room = omega (arith, ring.room);
        full = λ k d from to. other k taken 0 0 (apart' taken k places (omega arith) (omega (arith, ring.room))) ∙ ring.full k d (omega arith) to;
        free = λ k from to.
            ⊎_elim
            (λ (near : k < taken + places). ap (λ ws. get_or ws 0 0) (other k taken 0 0 (apart' taken k places (omega arith) near)) ∙ ring.free k from near)
            (λ (past : taken + places ≤ k).
            let at : k ≡ taken + places = omega arith in
            let turn : k % places ≡ taken % places = ap (λ n. n % places) at ∙ add-mod_right taken places in
            ap (λ i. get_or (get_or (with_word slots (taken % places) 0 0) i []) 0 0) turn
            ∙ (ap (λ ws. get_or ws 0 0) (here taken 0 0) ∙ get_or-set_same (slot_of places slots taken) 0 0 0 wide_some))
            (cases_lt k (taken + places));
        writer_seen = λ saw'. let near = ring.writer_seen saw' in omega arith;
        writer_words = λ saw'.
            let near = ring.writer_seen saw' in
            subst (λ ws. IsSoFar ws writer.words) (sym (other (length written) taken 0 0 (apart' taken (length written) places less near)))
            (ring.writer_words saw');
        reader_seen = λ e. absurd (let none : ⊥ = cc in none);
        reader_words = λ e. absurd (let none : ⊥ = cc in none);
      }

  -- ---- flags

  -- a flag stays as it is where another word is stored
  pub flag-kept : (k i n s : ℕ) → i ≢ 0 → get_or (get_or (with_word slots (k % places) i n) s []) 0 0 ≡ get_or (get_or slots s []) 0 0
  flag-kept k i n s ne =
      ⊎_elim
      (λ (t : s ≡ k % places).
      ap (λ x. get_or (get_or (with_word slots (k % places) i n) x []) 0 0) t
      ∙ (ap (λ ws. get_or ws 0 0) (here k i n)
      ∙ (get_or-set_other (slot_of places slots k) i 0 n 0 (λ e. ne (sym e)) ∙ ap (λ x. get_or (get_or slots x []) 0 0) (sym t))))
      (λ (t : s ≢ k % places). ap (λ ws. get_or ws 0 0) (get_or-set_other slots (k % places) s (set (slot_of places slots k) i n) [] t))
      (same-or s (k % places))

  -- a free slot stays so where a flag becomes 0
  pub flag-freed : (k s : ℕ) → get_or (get_or slots s []) 0 0 ≡ 0 → get_or (get_or (with_word slots (k % places) 0 0) s []) 0 0 ≡ 0
  flag-freed k s free =
      ⊎_elim
      (λ (t : s ≡ k % places).
      ap (λ x. get_or (get_or (with_word slots (k % places) 0 0) x []) 0 0) t
      ∙ (ap (λ ws. get_or ws 0 0) (here k 0 0) ∙ first-zero (slot_of places slots k)))
      (λ (t : s ≢ k % places). ap (λ ws. get_or ws 0 0) (get_or-set_other slots (k % places) s (set (slot_of places slots k) 0 0) [] t) ∙ free)
      (same-or s (k % places))
    where
      first-zero : (ws : List ℕ) → get_or (set ws 0 0) 0 0 ≡ 0
      first-zero [] = refl
      first-zero (w ∷ ws) = refl
