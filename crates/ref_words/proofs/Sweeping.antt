-- The card sweeps a word of the free list.
use Rattle.std.proofs.Common.{◌≡◌, ⊎_elim, ℕ, ◌+◌, ◌/◌, ◌%◌, ◌<◌, ◌≤◌, true, List, length, refl, ap, ◌∙◌, arith, length-append}
use Rattle.std.{specs.{Prelude.{◌==◌, nat_eq, count_by}, Int.{bit_at}}, proofs.lemmas.{Nat.Bits.{bit_at-zero}, Bool.Decides.{eqb_tells}, List.Elements.{All-weaker}}}
use Rattle.area_layout.specs.Layout.{pool_buffers}
use Rattle.board_face.specs.{NicCalls.{SweptWord, free_words_of, lost_of, sent_unsplit_bytes}, NicEvents.{word_bits, cache_room, swept}, Used.{AreKept}}
use Rattle.board_face.specs.declared.views.{nic.{NicLook.TheVariants.{Swept}, NicSide.{NicSide}, NicView.{NicView}}, parts.Setting.{Setting}, app.AppSide.{AppSide}}
use Rattle.board_face.proofs.{NicLemmas.{pool_count-swept, user_count-nic}, FreeLemmas.{free_places-swept}, ArePlacedLemmas.{ArePlaced-swept}}
use Rattle.board_face.proofs.{MadeLastLemmas.{IsMadeLast-nic}, IsFilledByOneLemmas.{IsFilledByOne-swept}, FillingsFitLemmas.{FillingsFit-nic}}
use Rattle.board_face.proofs.{LookLemmas.{NicRose-nic_saw}, Tallies.{one_if}, Losing.{lost-bound}, Counting.{count-append, count-push}}
use Rattle.ref_words.specs.{Words.{Words, listed_bit, free_word_of, with_free}, FreeSteps.{all_listed_in, side_swept}, Rule.{RefRule}}
use Rattle.ref_words.proofs.{Found.{IsFound, found-none, found-one, found-all, found-falling, found-few}, FreeWords.{RefRule-free, listed-here, listed-there, of-pool}}
use Rattle.ref_words.proofs.{RingSteps.{rings-card}, CardSteps.{SidesRule-card}, LineLemmas.{AreByLine-like}}

module _ (setting : Setting) (words : Words) (nic : NicSide) (apps : List AppSide) (j : ℕ) (rule : RefRule setting words nic apps)
    (within : j < free_words_of setting) where
  abbrev n : ℕ
  n = free_word_of words j

  abbrev found : List ℕ
  found = all_listed_in j n

  abbrev now : NicSide
  now = side_swept nic j n

  abbrev v : NicView
  v = swept nic.view j found

  there : j < length words.free
  there = omega (arith, within, rule.sizes.free)

  -- a buffer is listed then, or was found
  moved : (b : ℕ) → one_if (listed_bit (with_free words j 0) b) + count_by (nat_eq b) found ≡ one_if (listed_bit words b)
  moved b =
      ⊎_elim
      (λ t. let here : b / word_bits ≡ j = t.1 in
      omega (
        arith,
        ap one_if (listed-here words j 0 b there here ∙ ap (λ x. x == 1) (bit_at-zero (b % word_bits))),
        found-one j n 64 b (omega arith) here (omega arith),
        ap (λ x. one_if (bit_at (free_word_of words x) (b % word_bits) == 1)) here,
      ))
      (λ t. omega (arith, ap one_if (listed-there words j 0 b t.1), found-none j n 64 b (omega arith) (λ e. absurd (t.1 e))))
      (eqb_tells (b / word_bits) j)

  -- of the word none is listed any more
  gone : (b : ℕ) → b / word_bits ≡ j → one_if (listed_bit (with_free words j 0) b) ≡ 0
  gone b here = ap one_if (listed-here words j 0 b there here ∙ ap (λ x. x == 1) (bit_at-zero (b % word_bits)))

  kept : AreKept (listed_bit (with_free words j 0)) now apps
  kept = record {
    kept = λ b small. omega (arith, rule.kept.kept b small, moved b, count-append b nic.view.cache found);
    swept = λ b small seen.
        ⊎_elim
        (λ t. omega (arith, rule.kept.kept b small, moved b, gone b t.1, count-append b nic.view.cache found))
        (λ t. let before : 1 ≤ count_by (nat_eq (b / word_bits)) nic.view.swept = omega
        (arith, seen, count-push (b / word_bits) j nic.view.swept, ap one_if t.0) in
        omega (arith, rule.kept.swept b small before, count-append b nic.view.cache found))
        (eqb_tells (b / word_bits) j);
  }

  pub sweeps : RefRule setting (with_free words j 0) now apps
  sweeps = RefRule-free setting words nic now apps apps j 0 rule (record {
    sides = SidesRule-card setting nic now apps rule.sides (record {
      placed = λ b. ArePlaced-swept b nic apps j found (rule.sides.placed b);
      lines = λ b. AreByLine-like b nic apps now (λ test. refl) (λ test app. refl) (rule.sides.lines b);
      by_one = λ b. IsFilledByOne-swept b nic apps j found (rule.sides.by_one b);
      fit = FillingsFit-nic nic v apps refl refl rule.sides.fit;
      made = IsMadeLast-nic nic v apps refl refl refl rule.sides.made;
      taken = λ k x here. assumption (rule.sides.taken k x here);
      unheld = λ b past none. omega (arith, pool_count-swept b nic apps j found, none);
      own = assumption rule.sides;
    });
    pool = λ b. pool_count-swept b nic apps j found;
    users = λ a b. user_count-nic a b nic v apps refl;
    free = λ b. omega (arith, moved b, free_places-swept (listed_bit (with_free words j 0)) b nic apps j found);
    kept = kept;
    rings = rings-card setting words nic now apps refl refl refl refl rule.rings;
  })

  -- ---- what the card knows then

  of-this-word : (b : ℕ) → IsFound j n 64 b → (b / word_bits ≡ j) × (b < pool_buffers nic.view.setting.layout)
  of-this-word b h =
      let bit : (bit_at (free_word_of words (b / word_bits)) (b % word_bits) == 1) ≡ true = ap (λ x. bit_at (free_word_of words x) (b % word_bits) == 1) h.0
      ∙ ap (λ x. x == 1) h.2 in
      let small = of-pool setting words nic apps b rule (omega (arith, ap one_if bit)) in
      (h.0, omega (arith, small, ap (λ s. pool_buffers s.layout) rule.sides.set.card))

  pub event : SweptWord nic.view now.view j (length found)
  event = record {
    found = found;
    event = refl;
    look = record { rose = (NicRose-nic_saw nic.view (Swept j)).rose };
    many = refl;
    within = All-weaker (IsFound j n 64) (λ b. (b / word_bits ≡ j) × (b < pool_buffers nic.view.setting.layout)) of-this-word found
        (found-all j n 64 (omega arith));
    falling = found-falling j n 64 (omega arith);
  }

  pub room : length nic.view.cache < 64 → length now.view.cache ≤ cache_room
  room short = omega (arith, length-append nic.view.cache found, found-few j n 64)

  pub bound : lost_of now.view ≤ sent_unsplit_bytes nic.view
  bound = lost-bound (listed_bit (with_free words j 0)) now apps kept rule.sides.set.numbers rule.sides.few
      (λ k x here. (rule.sides.taken k x here).order)
