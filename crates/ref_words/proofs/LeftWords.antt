-- What the slots have that aren't full, after each step at a ring.
use Rattle.std.proofs.Common.{◌≡◌, ⊎_elim, ℕ, suc, ◌+◌, ◌%◌, ◌<◌, true, List, [], ◌∷◌, ◌++◌, append_assoc}
use Rattle.std.proofs.{Common.{length, map, replicate, drop, get_or, ap, sym, ◌∙◌, arith, subst}, Math.Nat.{add-mod_right}, lemmas.Bool.{cases_lt}}
use Rattle.std.proofs.lemmas.List.{length_push, length-append, length-replicate, get_or_append_left, take-append-drop, drop-drop}
use Rattle.std.proofs.lemmas.List.{drop-set-lt, drop-set-add, map-append, length-map, get_or-map, get_or-append-add}
use Rattle.board_face.specs.{Opened.{unseen}, SlotSteps.{seen_with, one_more}, declared.views.parts.Slot.{Slot}}
use Rattle.ref_words.specs.{Rings.{slot_of, IsRing, AreLeft, left_for}, Words.{with_word}}
use Rattle.ref_words.proofs.Ringing as ringing

module _ {X : Type 0} (width : ℕ) (words_of : X → List ℕ) (places : ℕ) (written : List X) where
  abbrev zeros : List ℕ
  zeros = drop 1 (replicate width 0)

  abbrev first_turn : List (List ℕ)
  first_turn = replicate places zeros

  -- what is written changes nothing of what was left before,
  pub left-more : (x : X) (k : ℕ) → k < places + length written → left_for width words_of places (written ++ x ∷ []) k ≡ left_for width words_of places written k
  left-more x k less =
      ap (λ ws. get_or (first_turn ++ ws) k []) (map-append words_of written (x ∷ []))
      ∙ (ap (λ ws. get_or ws k []) (sym (append_assoc first_turn (map words_of written) (words_of x ∷ [])))
      ∙ get_or_append_left (first_turn ++ map words_of written) (words_of x ∷ []) [] k
      (omega (arith, length-append first_turn (map words_of written), length-replicate places zeros, length-map written words_of)))

  -- and is left there a turn later
  pub left-turn : (k : ℕ) (d : X) → k < length written → left_for width words_of places written (k + places) ≡ words_of (get_or written k d)
  left-turn k d less =
      let many : length first_turn ≡ places = length-replicate places zeros in
      let at : k + places ≡ length first_turn + k = omega arith in
      ap (λ j. get_or (first_turn ++ map words_of written) j []) at
      ∙ (get_or-append-add first_turn (map words_of written) k [] ∙ get_or-map words_of written k d [] less)

module _ {X : Type 0} (width : ℕ) (words_of : X → List ℕ) (places : ℕ) (slots : List (List ℕ)) (written : List X) (taken : ℕ)
    (writer reader : Slot) (ring : IsRing width words_of places slots written taken writer reader)
    (left : AreLeft width words_of places slots written taken writer) where
  abbrev Left : List (List ℕ) → List X → ℕ → Slot → Type 0
  Left = AreLeft width words_of places

  abbrev w : ℕ
  w = length written

  -- ---- the writer

  -- it looks before it stores a word
  pub looks : writer.words ≡ [] → Left slots written taken (seen_with [])
  looks none = record {
    next = λ less. subst (λ ws. drop (length ws) (drop 1 (slot_of places slots w)) ≡ drop (length ws) (left_for width words_of places written w)) none (left.next less);
    others = left.others;
  }

  -- it stores the next word
  pub stores : (n : ℕ) → writer.seen ≡ true → Left (with_word slots (w % places) (1 + length writer.words) n) written taken (one_more writer n)
  stores n saw =
      let ws = writer.words in
      let slot = slot_of places slots w in
      let behind = left_for width words_of places written w in
      let more : length (ws ++ n ∷ []) ≡ length ws + 1 = length_push ws n in
      let near = ring.writer_seen saw in
      record {
        next = λ less.
            ap (λ s. drop (length (ws ++ n ∷ [])) (drop 1 s)) (ringing.here _ _ _ _ _ _ _ _ ring w (1 + length ws) n)
            ∙ (ap (drop (length (ws ++ n ∷ []))) (drop-set-add 1 slot (length ws) n)
            ∙ (drop-set-lt (length (ws ++ n ∷ [])) (drop 1 slot) (length ws) n (omega (arith, more))
            ∙ (ap (λ m. drop m (drop 1 slot)) more
            ∙ (sym (drop-drop 1 (length ws) (drop 1 slot))
            ∙ (ap (drop 1) (left.next less)
            ∙ (drop-drop 1 (length ws) behind ∙ ap (λ m. drop m behind) (sym more)))))));
        others = λ k from to.
            ap (drop 1) (ringing.other _ _ _ _ _ _ _ _ ring k w (1 + length ws) n (ringing.apart' w k places from (omega (arith, ring.order))))
            ∙ left.others k from to;
      }

  -- what it finds behind the flag: its own words, and then those that were left
  pub so-far : writer.seen ≡ true → drop 1 (slot_of places slots w) ≡ writer.words ++ drop (length writer.words) (left_for width words_of places written w)
  so-far saw =
      let rest = drop 1 (slot_of places slots w) in
      let ws = writer.words in
      sym (take-append-drop (length ws) rest)
      ∙ (ap (λ xs. xs ++ drop (length ws) rest) (ring.writer_words saw) ∙ ap (λ xs. ws ++ xs) (left.next (ring.writer_seen saw)))

  -- it stores the flag 1
  pub publishes : (x : X) → writer.seen ≡ true → Left (with_word slots (w % places) 0 1) (written ++ x ∷ []) taken unseen
  publishes x saw =
      let near = ring.writer_seen saw in
      let more : length (written ++ x ∷ []) ≡ w + 1 = length_push written x in
      let stays : (k : ℕ) → w < k → k < taken + places
      → drop 1 (slot_of places (with_word slots (w % places) 0 1) k) ≡ left_for width words_of places (written ++ x ∷ []) k =
      λ k from to.
      ap (drop 1) (ringing.other _ _ _ _ _ _ _ _ ring k w 0 1 (ringing.apart' w k places from (omega (arith, ring.order))))
      ∙ (left.others k from to ∙ sym (left-more width words_of places written x k (omega (arith, ring.order)))) in
      record {
        next = λ less. stays (length (written ++ x ∷ [])) (omega (arith, more)) less;
        others = λ k from to. stays k (omega (arith, more)) to;
      }

  -- ---- the reader

  -- it stores the flag 0
  pub frees : (d : X) → reader.seen ≡ true → Left (with_word slots (taken % places) 0 0) written (suc taken) writer
  frees d saw =
      let less = ring.reader_seen saw in
      let slot = slot_of places slots taken in
      let now = with_word slots (taken % places) 0 0 in
      let freed : drop 1 (slot_of places now (taken + places)) ≡ left_for width words_of places written (taken + places) =
      ap (λ i. drop 1 (get_or now i [])) (add-mod_right taken places)
      ∙ (ap (drop 1) (ringing.here _ _ _ _ _ _ _ _ ring taken 0 0)
      ∙ (drop-set-lt 1 slot 0 0 (omega arith)
      ∙ (ap (drop 1) (ring.full taken d (omega arith) less) ∙ sym (left-turn width words_of places written taken d less)))) in
      let then : (k : ℕ) → k ≡ taken + places → drop 1 (slot_of places now k) ≡ left_for width words_of places written k =
      λ k e. subst (λ j. drop 1 (slot_of places now j) ≡ left_for width words_of places written j) (sym e) freed in
      let same : (k : ℕ) → taken < k → k < taken + places → slot_of places now k ≡ slot_of places slots k =
      λ k from to. ringing.other _ _ _ _ _ _ _ _ ring k taken 0 0 (ringing.apart' taken k places from to) in
      record {
        next = λ more.
            ⊎_elim
            (λ near. ap (λ s. drop (length writer.words) (drop 1 s)) (same w less near) ∙ left.next near)
            (λ past. ap (drop (length writer.words)) (then w (omega arith)))
            (cases_lt w (taken + places));
        others = λ k from to.
            ⊎_elim
            (λ near. ap (drop 1) (same k (omega arith) near) ∙ left.others k from near)
            (λ past. then k (omega arith))
            (cases_lt k (taken + places));
      }
