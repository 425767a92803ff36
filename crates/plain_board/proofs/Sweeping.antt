-- A word of the free list is swept.
use Rattle.std.proofs.Common.{◌≡◌, ℕ, zero, suc, ◌+◌, ◌*◌, ◌<◌, ◌≤◌, Bool, true, false, List, [], ◌∷◌, ◌++◌, length, refl}
use Rattle.std.proofs.Common.{ap, sym, ◌∙◌, subst, arith, ⊎_elim, inl, inr, length-append}
use Rattle.std.{specs.Prelude.{◌⊎◌, nat_eq, count_by, ◌==◌, ◌/◌, if◌then◌else◌, All, AllPairs}, proofs.lemmas.List.Elements.{All-nil, All-cons, All-weaker}}
use Rattle.std.proofs.lemmas.{List.Kept.{AllPairs-cons}, Bool.{cases_lt, Decides.{eqb_tells}}}
use Rattle.board_face.specs.{NicEvents.{swept, word_bits, cache_room}, NicCalls.{SweptWord, free_words_of}, declared.views.nic.NicLook.TheVariants.{Swept}}
use Rattle.board_face.{specs.{Sides.{nic_at}, FreeOnce.{free_places}}, proofs.{NicLemmas.{pool_count-swept}, FreeLemmas.{free_places-swept}}}
use Rattle.board_face.proofs.{FillingsFitLemmas.{FillingsFit-nic}, IsFilledByOneLemmas.{IsFilledByOne-swept}, OwnBufferLemmas.{LieInOwn-nic}}
use Rattle.board_face.proofs.{AreShownLemmas.{AreShown-swept}, LookLemmas.{NicRose-nic_saw}, Tallies.{one_if}}
use Rattle.board_face.proofs.Counting.{weight-same, weight-other, count-push, count-append}
use Rattle.area_layout.specs.Layout.{pool_buffers}
use Rattle.board_parts.{specs.Free.{listed_in, listed_from, listed_in_word, word_len, word_end}, proofs.Moving.{length-listed_from}}
use Rattle.plain_board.specs.{Stand.{Stand, byte_of}, Sound.{IsSound}}
use Rattle.plain_board.proofs.{Card.{IsSet-nic, AreCounted-same, AreRelayed-nic, AreReturns-nic, AreBooked-nic, ArePhased-nic}, AppFrames.{pools}}
use Rattle.zr_kinds.proofs.Booleans.{if-none, if-one}

-- ---- the buffers found

module _ (listed : List Bool) (first : ℕ) where
  found-case : (c : Bool) (b x : ℕ) (rest : List ℕ) → count_by (nat_eq b) ((if c then x ∷ [] else []) ++ rest)
      ≡ (if c then one_if (b == x) else 0) + count_by (nat_eq b) rest
  found-case true b x rest = omega (arith, count-append b (x ∷ []) rest, count-push b x [])
  found-case false b x rest = omega arith

  pub found-outside : (n b : ℕ) → (b < first) ⊎ (first + n ≤ b) → count_by (nat_eq b) (listed_from listed first n) ≡ 0
  found-outside zero b where_ = refl
  found-outside (suc n) b where_ = omega (
    arith,
    found-case (listed_in listed (first + n)) b (first + n) (listed_from listed first n),
    if-none (listed_in listed (first + n)) _ (weight-other b (first + n)
        (λ e. ⊎_elim (λ under. absurd (omega arith)) (λ over. absurd (omega arith)) where_)),
    found-outside n b (⊎_elim (λ under. inl under) (λ over. inr (omega arith)) where_),
  )

  pub found-inside : (n b : ℕ) → first ≤ b → b < first + n → count_by (nat_eq b) (listed_from listed first n) ≡ one_if (listed_in listed b)
  found-inside zero b from to = absurd (omega arith)
  found-inside (suc n) b from to =
      ⊎_elim
      (λ less. omega (
        arith,
        found-case (listed_in listed (first + n)) b (first + n) (listed_from listed first n),
        if-none (listed_in listed (first + n)) _ (weight-other b (first + n) (λ e. absurd (omega arith))),
        found-inside n b from less,
      ))
      (λ more. let same : b ≡ first + n = omega arith in
      subst (λ x. count_by (nat_eq x) (listed_from listed first (suc n)) ≡ one_if (listed_in listed x)) (sym same) (omega (
        arith,
        found-case (listed_in listed (first + n)) (first + n) (first + n) (listed_from listed first n),
        if-one (listed_in listed (first + n)) _ (weight-same (first + n)),
        found-outside n (first + n) (inr (omega arith)),
      )))
      (cases_lt b (first + n))

abbrev pub IsBetween : ℕ → ℕ → ℕ → Type 0
IsBetween first n b = (first ≤ b) × (b < first + n)

module _ (listed : List Bool) (first : ℕ) where
  between-case : (c : Bool) (n : ℕ) → All (IsBetween first n) (listed_from listed first n)
      → All (IsBetween first (suc n)) ((if c then (first + n) ∷ [] else []) ++ listed_from listed first n)
  between-case true n rest = All-cons (IsBetween first (suc n)) (first + n) (listed_from listed first n) (omega arith, omega arith)
      (All-weaker (IsBetween first n) (IsBetween first (suc n)) (λ b h. (h.0, omega arith)) (listed_from listed first n) rest)
  between-case false n rest = All-weaker (IsBetween first n) (IsBetween first (suc n)) (λ b h. (h.0, omega arith)) (listed_from listed first n) rest

  pub found-between : (n : ℕ) → All (IsBetween first n) (listed_from listed first n)
  found-between zero = All-nil (IsBetween first zero)
  found-between (suc n) = between-case (listed_in listed (first + n)) n (found-between n)

  falling-case : (c : Bool) (n : ℕ) → AllPairs (λ a b. b < a) (listed_from listed first n)
      → AllPairs (λ a b. b < a) ((if c then (first + n) ∷ [] else []) ++ listed_from listed first n)
  falling-case true n rest = AllPairs-cons (λ a b. b < a) (first + n) (listed_from listed first n)
      (All-weaker (IsBetween first n) (λ b. b < first + n) (λ b h. h.1) (listed_from listed first n) (found-between n)) rest
  falling-case false n rest = rest

  pub found-falling : (n : ℕ) → AllPairs (λ a b. b < a) (listed_from listed first n)
  found-falling zero = λ i j d less within. absurd (omega arith)
  found-falling (suc n) = falling-case (listed_in listed (first + n)) n (found-falling n)

-- ---- the board

module _ (board : Stand) (word : ℕ) (sound : IsSound board) (inside : word < free_words_of board.nic.view.setting) where
  -- how often each buffer was found
  pub found-times : (listed' : List Bool)
      → ((b : ℕ) → word_bits * word ≤ b → b < word_end board.arrays.listed word → listed_in listed' b ≡ false)
      → ((b : ℕ) → (b < word_bits * word) ⊎ (word_end board.arrays.listed word ≤ b) → listed_in listed' b ≡ listed_in board.arrays.listed b)
      → (b : ℕ) → one_if (listed_in listed' b) + count_by (nat_eq b) (listed_in_word board.arrays.listed word) ≡ one_if (listed_in board.arrays.listed b)
  found-times listed' gone others b =
      let first = word_bits * word in
      let n = word_len board.arrays.listed word in
      ⊎_elim
      (λ under. omega (arith, ap one_if (others b (inl under)), found-outside board.arrays.listed first n b (inl under)))
      (λ from. ⊎_elim
      (λ to. omega (arith, ap one_if (gone b from to), found-inside board.arrays.listed first n b from to))
      (λ over. omega (arith, ap one_if (others b (inr over)), found-outside board.arrays.listed first n b (inr over)))
      (cases_lt b (first + n)))
      (cases_lt b first)

  pub found-of_word : (listed' : List Bool) → ((b : ℕ) → word_bits * word ≤ b → b < word_end board.arrays.listed word
      → listed_in listed' b ≡ false)
      → (b : ℕ) → b < pool_buffers board.arrays.layout → b / word_bits ≡ word → one_if (listed_in listed' b) ≡ 0
  found-of_word listed' gone b within same = let l = sound.sizes.listed in ap one_if (gone b (omega arith) (omega arith))

  pub IsSound-swept : (listed' : List Bool) → length board.arrays.cache < 64 → length listed' ≡ length board.arrays.listed
      → ((b : ℕ) → word_bits * word ≤ b → b < word_end board.arrays.listed word → listed_in listed' b ≡ false)
      → ((b : ℕ) → (b < word_bits * word) ⊎ (word_end board.arrays.listed word ≤ b) → listed_in listed' b ≡ listed_in board.arrays.listed b)
      → IsSound (record {
        arrays = record board.arrays { listed = listed'; cache = board.arrays.cache ++ listed_in_word board.arrays.listed word };
        nic = nic_at board.nic (swept board.nic.view word (listed_in_word board.arrays.listed word));
        apps = board.apps;
      })
  IsSound-swept listed' short same gone others =
      let found = listed_in_word board.arrays.listed word in
      let v = swept board.nic.view word found in
      record {
        sizes = let cache : length (board.arrays.cache ++ found) ≤ cache_room = omega (
          arith,
          length-append board.arrays.cache found,
          length-listed_from board.arrays.listed (word_bits * word) (word_len board.arrays.listed word),
        ) in
            assumption (same ∙ sound.sizes.listed, cache, sound.sizes);
        cached = ap (λ cache. cache ++ found) sound.cached;
        set = IsSet-nic _ board.nic v board.apps refl sound.set;
        counted = AreCounted-same board.arrays _ board.nic v board.apps refl refl refl refl
            (λ b. pool_count-swept b board.nic board.apps word found) sound.counted;
        free = record {
          pool = λ b within. free-same b ∙ (sound.free.pool b within
              ∙ ap (λ p. if p == 0 then 1 else 0) (sym (pool_count-swept b board.nic board.apps word found)));
          reserves = λ b past. free-same b ∙ sound.free.reserves b past;
        };
        relayed = AreRelayed-nic board.arrays _ board.nic v board.apps refl refl refl refl refl sound.relayed;
        returns = λ a app here. AreReturns-nic board.nic v app refl (sound.returns a app here);
        flags = assumption sound.flags;
        kept = record {
          kept = λ b within. omega (arith, sound.kept.kept b within, found-times listed' gone others b, count-append b board.nic.view.cache found);
          swept = λ b within seen.
              ⊎_elim
              (λ t. let here : b / word_bits ≡ word = t.1 in
              omega (
                arith,
                sound.kept.kept b within,
                found-times listed' gone others b,
                found-of_word listed' gone b (rw (← pools sound) within) here,
                count-append b board.nic.view.cache found,
              ))
              (λ t. let before : 1 ≤ count_by (nat_eq (b / word_bits)) board.nic.view.swept = omega
              (arith, seen, count-push (b / word_bits) word board.nic.view.swept, ap one_if t.0) in
              omega (arith, sound.kept.swept b within before, count-append b board.nic.view.cache found))
              (eqb_tells (b / word_bits) word);
        };
        due = sound.due;
        filled = FillingsFit-nic board.nic v board.apps refl refl sound.filled;
        by_one = λ b. IsFilledByOne-swept b board.nic board.apps word found (sound.by_one b);
        shown = AreShown-swept (byte_of board.arrays) board.nic board.apps word found sound.shown;
        notes = sound.notes;
        own_buffers = LieInOwn-nic board.nic v board.apps refl refl refl sound.own_buffers;
        judged = sound.judged;
        booked = AreBooked-nic board.arrays _ board.nic v board.apps refl refl refl refl refl sound.booked;
        phased = ArePhased-nic board.nic v board.apps refl refl (λ e. e)
            (λ e. assumption (sound.phased.card e)) sound.phased;
      }
    where
      free-same : (b : ℕ) → free_places (listed_in listed') b (nic_at board.nic (swept board.nic.view word (listed_in_word board.arrays.listed word)))
          board.apps
          ≡ free_places (listed_in board.arrays.listed) b board.nic board.apps
      free-same b = omega (
        arith,
        found-times listed' gone others b,
        free_places-swept (listed_in listed') b board.nic board.apps word (listed_in_word board.arrays.listed word),
      )

  pub SweptWord-swept : (count : ℕ) (found : List ℕ) → found ≡ listed_in_word board.arrays.listed word → count ≡ length found
      → SweptWord board.nic.view (swept board.nic.view word found) word count
  SweptWord-swept count found is many =
      let first = word_bits * word in
      let n = word_len board.arrays.listed word in
      let l = sound.sizes.listed in
      let p = pools sound in
      record {
        found = found;
        event = refl;
        look = record { rose = (NicRose-nic_saw board.nic.view (Swept word)).rose };
        many = sym many;
        within = rw is (All-weaker (IsBetween first n) (λ b. (b / word_bits ≡ word) × (b < pool_buffers board.nic.view.setting.layout))
            (λ b h. let from = h.0 in let to = h.1 in (omega arith, omega arith)) (listed_in_word board.arrays.listed word)
            (found-between board.arrays.listed first n));
        falling = rw is (found-falling board.arrays.listed first n);
      }
