-- What the card knows of the words that are left in its note slots, as it begins and behind each note.
use Rattle.std.proofs.Common.{◌≡◌, ⊎_elim, ℕ, zero, suc, ◌+◌, ◌*◌, ◌%◌, ◌<◌, ◌≤◌, List, [], ◌∷◌, ◌++◌, length, replicate, set}
use Rattle.std.{proofs.{Common.{get_or, refl, ap, sym, ◌∙◌, subst, arith, mod-lt}, Math.Nat.{add-mod_right}, lemmas.Bool.{cases_lt}}, specs.Prelude.{◌≢◌, ◌==◌, filter}}
use Rattle.std.proofs.lemmas.Bool.Decides.{eqb_tells}
use Rattle.std.proofs.lemmas.List.{get_or-set_same, get_or-set_other, get_or-replicate, get_or_append_left, length-set, length-replicate, length_push, get_or_push}
use Rattle.atomic_table.proofs.Lists.{one_turn}
use Rattle.board_face.specs.{NicCalls.{apps_of}, Opened.{unseen}, SlotSteps.{next_slot}, declared.views.{nic.{NicSide.{NicSide}, SentNote.{SentNote}}, parts.Setting.{Setting}}}
use Rattle.board_face.{specs.declared.views.parts.Slot.{Slot}, proofs.{NicLemmas.{sent_to-same, sent_to-other}, OpenedLemmas.{all-alike}}}
use Rattle.word_rings.{specs.Slots.{note_width, field_words, payload_width, IsBlankFrom}, proofs.NoteSlots.{note-blank, zeros-blank}}
use Rattle.ref_words.{specs.Rings.{left_for, left_in_note, writes_note_at, area_of_note, words_of_note, linear_bytes}, proofs.LeftWords.{left-more, left-turn}}
use Rattle.word_board.specs.Hands.{KnowsLeft}

-- the card begins with slots of zeros
pub KnowsLeft-new : (setting : Setting) → KnowsLeft setting [] (replicate (apps_of setting) unseen) (replicate 2048 0)
KnowsLeft-new setting = record {
  many = length-replicate {A = ℕ} 2048 0;
  most = λ i. omega (arith, all-alike 2048 i 0);
  blank = λ a k there from to.
      let zeros : List ℕ = replicate (field_words + payload_width) 0 in
      let turn : List (List ℕ) = replicate setting.places zeros in
      let left : left_for note_width (words_of_note setting) setting.places [] k ≡ zeros =
      get_or_append_left turn [] [] k (omega (arith, length-replicate setting.places zeros, to))
      ∙ get_or-replicate setting.places k zeros [] (omega (arith, to)) in
      let n : ℕ = get_or (replicate 2048 0) (256 * a + k % setting.places) 0 in
      subst (IsBlankFrom n) (sym left) (zeros-blank n);
  unstored = λ a. alike (apps_of setting) a;
}
  where
    alike : (n a : ℕ) → (next_slot (replicate n unseen) a).words ≡ []
    alike zero a = refl
    alike (suc n) zero = refl
    alike (suc n) (suc a) = alike n a

-- of its next note slot to an application
pub next-left : (setting : Setting) (nic : NicSide) (filled : List ℕ) → KnowsLeft setting nic.view.sent nic.inside.note_slots filled → (a : ℕ)
    → a < apps_of setting → 0 < setting.places → (get_or filled (256 * a + writes_note_at setting nic a) 0 ≤ payload_width)
    × IsBlankFrom (get_or filled (256 * a + writes_note_at setting nic a) 0) (left_in_note setting nic a)
next-left setting nic filled knows a here some = (
  knows.most (256 * a + writes_note_at setting nic a),
  knows.blank a (length (filter (λ (s : SentNote). s.app == a) nic.view.sent)) here (omega arith) (omega (arith, some)),
)

-- a slot to which nothing more is stored
unstored-then : (slots : List Slot) (a k : ℕ) → (next_slot slots k).words ≡ [] → (next_slot (set slots a unseen) k).words ≡ []
unstored-then [] a k was = was
unstored-then (x ∷ slots) zero zero was = refl
unstored-then (x ∷ slots) zero (suc k) was = was
unstored-then (x ∷ slots) (suc a) zero was = was
unstored-then (x ∷ slots) (suc a) (suc k) was = unstored-then slots a k was

module _ (setting : Setting) (sent : List SentNote) (slots : List Slot) (filled : List ℕ) (knows : KnowsLeft setting sent slots filled)
    (s : SentNote) (count : ℕ) (fits : (s.app < 8) × (0 < setting.places) × (setting.places ≤ 256)) (most : count ≤ payload_width)
    (long : length (linear_bytes s) ≤ 8 * count) where
  abbrev a : ℕ
  a = s.app

  abbrev p : ℕ
  p = setting.places

  abbrev mine : List SentNote
  mine = filter (λ (x : SentNote). x.app == a) sent

  -- where the card keeps what it knows of the slot
  abbrev here : ℕ
  here = 256 * a + length mine % p

  abbrev sent' : List SentNote
  sent' = sent ++ s ∷ []

  within : here < length filled
  within = omega (arith, knows.many, fits.0, fits.2, mod-lt (length mine) fits.1)

  other : (i : ℕ) → i ≢ here → get_or (set filled here count) i 0 ≡ get_or filled i 0
  other i ne = get_or-set_other filled here i count 0 ne

  blank-mine : (k : ℕ) → a < apps_of setting → length mine < k → k < length mine + 1 + p
      → IsBlankFrom (get_or (set filled here count) (256 * a + k % p) 0) (left_for note_width (words_of_note setting) p (mine ++ s ∷ []) k)
  blank-mine k there from to =
      ⊎_elim
      (λ near.
      let ne : 256 * a + k % p ≢ here = λ e.
      let same : length mine ≡ k = one_turn (length mine) k p (omega arith) near (omega arith) in absurd (omega arith) in
      subst (λ n. IsBlankFrom n (left_for note_width (words_of_note setting) p (mine ++ s ∷ []) k)) (sym (other (256 * a + k % p) ne))
      (subst (IsBlankFrom (get_or filled (256 * a + k % p) 0)) (sym (left-more note_width (words_of_note setting) p mine s k (omega arith)))
      (knows.blank a k there (omega arith) near)))
      (λ past.
      let at : k ≡ length mine + p = omega arith in
      let turn : k % p ≡ length mine % p = ap (λ n. n % p) at ∙ add-mod_right (length mine) p in
      let number : get_or (set filled here count) (256 * a + k % p) 0 ≡ count =
      ap (λ m. get_or (set filled here count) (256 * a + m) 0) turn ∙ get_or-set_same filled here count 0 within in
      let left : left_for note_width (words_of_note setting) p (mine ++ s ∷ []) k ≡ words_of_note setting s =
      ap (left_for note_width (words_of_note setting) p (mine ++ s ∷ [])) at
      ∙ (left-turn note_width (words_of_note setting) p (mine ++ s ∷ []) (length mine) s (omega (arith, length_push mine s))
      ∙ ap (words_of_note setting) (get_or_push mine s s (length mine) refl)) in
      subst (λ n. IsBlankFrom n (left_for note_width (words_of_note setting) p (mine ++ s ∷ []) k)) (sym number)
      (subst (IsBlankFrom count) (sym left) (note-blank s.note (linear_bytes s) (area_of_note setting s.note) count long)))
      (cases_lt k (length mine + p))

  -- a note was sent, whose bytes take so many words
  pub KnowsLeft-sent : KnowsLeft setting sent' (set slots a unseen) (set filled here count)
  KnowsLeft-sent = record {
    many = length-set filled here count ∙ knows.many;
    most = λ i.
        ⊎_elim
        (λ t. let e : i ≡ here = t.1 in omega (arith, ap (λ j. get_or (set filled here count) j 0) e, get_or-set_same filled here count 0 within))
        (λ t. omega (arith, other i t.1, knows.most i))
        (eqb_tells i here);
    blank = λ k n there from to.
        ⊎_elim
        (λ t.
        let e : k ≡ a = t.1 in
        let now : filter (λ (x : SentNote). x.app == k) sent' ≡ mine ++ s ∷ [] =
        ap (λ j. filter (λ (x : SentNote). x.app == j) sent') e ∙ sent_to-same a sent s refl in
        let more : length (filter (λ (x : SentNote). x.app == k) sent') ≡ length mine + 1 = ap length now ∙ length_push mine s in
        subst (λ xs. IsBlankFrom (get_or (set filled here count) (256 * k + n % p) 0) (left_for note_width (words_of_note setting) p xs n)) (sym now)
        (subst (λ j. IsBlankFrom (get_or (set filled here count) (256 * j + n % p) 0) (left_for note_width (words_of_note setting) p (mine ++ s ∷ []) n)) (sym e)
        (blank-mine n (subst (λ j. j < apps_of setting) e there) (omega arith) (omega arith))))
        (λ t.
        let ne : k ≢ a = t.1 in
        let same : filter (λ (x : SentNote). x.app == k) sent' ≡ filter (λ (x : SentNote). x.app == k) sent = sent_to-other k sent s (λ e. ne (sym e)) in
        let many = ap length same in
        let apart : 256 * k + n % p ≢ here = λ e. ne (omega (arith, fits.2, mod-lt n fits.1, mod-lt (length mine) fits.1)) in
        subst (λ xs. IsBlankFrom (get_or (set filled here count) (256 * k + n % p) 0) (left_for note_width (words_of_note setting) p xs n)) (sym same)
        (subst (λ m. IsBlankFrom m (left_for note_width (words_of_note setting) p (filter (λ (x : SentNote). x.app == k) sent) n))
        (sym (other (256 * k + n % p) apart))
        (knows.blank k n there (omega arith) (omega arith))))
        (eqb_tells k a);
    unstored = λ k. unstored-then slots a k (knows.unstored k);
  }
