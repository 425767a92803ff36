-- A board that was just opened.
use Rattle.std.proofs.Common.{◌≡◌, ⊎_elim, ℕ, zero, suc, ◌+◌, ◌-◌, ◌*◌, ◌/◌, ◌%◌, ◌<◌, ◌≤◌, List, [], ◌∷◌, length, get_or}
use Rattle.std.{proofs.Common.{mod-lt, replicate, drop, length-drop, refl, ap, sym, ◌∙◌, arith, subst, length-append}, specs.Prelude.{true, ◌==◌, min, All}}
use Rattle.std.{specs.Int.{bit_at}, proofs.lemmas.List.{length-replicate, get_or-replicate, get_or_append_left, get_or-append-add, get_or_past}}
use Rattle.std.proofs.lemmas.{List.Elements.{All-nil, All-replicate}, Bool.{cases_lt, false≢true}, Nat.Bits.{bit_at_ones, bit_at_ones_above, bit_at-zero}}
use mathlib.Core.Option.{some, some-injective, some-ne-none}
use lib.ListN.{get_elem?}
use Rattle.area_layout.specs.Layout.{IsLayout, all_buffers, pool_buffers}
use Rattle.board_face.specs.{NicCalls.{apps_of, free_words_of}, NicEvents.{word_bits}, Opened.{new_nic, new_app, new_apps, unseen}, Counts.{EndedWereReturned}}
use Rattle.board_face.specs.{Holders.{ended_in}, Used.{HasFewPicks}, Returns.{AreReturns}, declared.views.{parts.Setting.{Setting}, app.AppSide.{AppSide}}}
use Rattle.board_face.proofs.{Tallies.{one_if}, MadeLastLemmas.{IsMadeLast-idle}}
use Rattle.board_face.proofs.OpenedLemmas.{all-alike, news, length-new_apps, numbered-new_apps, All-new, hands-new, count-new, users-new}
use Rattle.board_face.proofs.OpenedLemmas.{FillingsFit-opened, IsFilledByOne-opened, ArePlaced-opened}
use Rattle.zr_kinds.specs.declared.place.Place.{Place}
use Rattle.ref_words.specs.{declared.view.View.{View}, Lines.{area_lines}, Words.{AreSlots, opened_words, free_list, free_word, listed_bit, user_word_of, roles_of}}
use Rattle.ref_words.specs.{Seated.{Seated, no_role, side_at}, Sides.{HasScrubLists, HasFreeReserve, IsDealtInOrder, IsTakenInOrder, HasNoneOwed, IsScrubbedSoFar}}
use Rattle.ref_words.specs.{Rings.{slot_of, IsRing, AreLeft, left_for, AreRings, EntryFits, words_of_entry, words_of_note}, Rule.{RefRule}}
use Rattle.word_rings.specs.Slots.{note_width, refill_width}
use Rattle.ref_words.proofs.LineLemmas.{AreByLine-opened}

module _ (setting : Setting) where
  abbrev apps : List AppSide
  apps = new_apps setting 0 (apps_of setting)

  -- ---- one seat, without a role

  none-there : (i : ℕ) (v : View) → get_elem? (no_role ∷ []) i ≡ some v → no_role ≡ v
  none-there zero v e = some-injective no_role v e
  none-there (suc i) v e = absurd (some-ne-none v (sym e))

  new-at : (first n k : ℕ) (d : AppSide) → k < n → get_or (new_apps setting first n) k d ≡ new_app setting (first + k)
  new-at first zero k d small = absurd (omega arith)
  new-at first (suc n) zero d small = ap (new_app setting) (omega arith)
  new-at first (suc n) (suc k) d small = new-at (suc first) n k d (omega arith) ∙ ap (new_app setting) (omega arith)

  pub seated : Seated setting (opened_words setting).roles (no_role ∷ []) (new_nic setting) apps
  seated = record {
    card = record {
      told = λ k small. sym (all-alike (roles_of setting) 0 0);
      once = λ k small. omega (arith, all-alike (roles_of setting) 0 0);
      untaken = λ k small none. refl;
      has = λ i m v s at there. absurd (some-ne-none s (sym (ap (λ (x : View). get_elem? x.nics m) (none-there i v at) ∙ there)));
    };
    others = record {
      told = λ k small. sym (all-alike (roles_of setting) (1 + k) 0);
      once = λ k small. omega (arith, all-alike (roles_of setting) (1 + k) 0);
      untaken = λ k small none. side-new k small;
      has = λ i m v s at there. absurd (some-ne-none s (sym (ap (λ (x : View). get_elem? x.apps m) (none-there i v at) ∙ there)));
    };
    dealt = record {
      sum = λ r small. omega (arith, all-alike (roles_of setting) r 0);
      once = λ r small. omega arith;
      desk = λ i v at ne. sym (ap (λ (x : View). x.dealt) (none-there i v at));
    };
  }
    where
      side-new : (k : ℕ) → k < apps_of setting → side_at setting apps k ≡ new_app setting k
      side-new k small = new-at 0 (apps_of setting) k (new_app setting k) small ∙ ap (new_app setting) (omega arith)

  -- ---- the free list

  length-free : (buffers n : ℕ) → length (free_list buffers n) ≡ n
  length-free buffers zero = refl
  length-free buffers (suc n) = omega (arith, length-append (free_list buffers n) (free_word buffers n ∷ []), length-free buffers n)

  free-at : (buffers n j : ℕ) → j < n → get_or (free_list buffers n) j 0 ≡ free_word buffers j
  free-at buffers zero j small = absurd (omega arith)
  free-at buffers (suc n) j small =
      ⊎_elim
      (λ less. get_or_append_left (free_list buffers n) (free_word buffers n ∷ []) 0 j (omega (arith, less, length-free buffers n))
      ∙ free-at buffers n j less)
      (λ past.
      let same : j ≡ n = omega arith in
      let at : j ≡ length (free_list buffers n) + 0 = omega (arith, length-free buffers n) in
      ap (λ i. get_or (free_list buffers (suc n)) i 0) at
      ∙ (get_or-append-add (free_list buffers n) (free_word buffers n ∷ []) 0 0 ∙ ap (free_word buffers) (sym same)))
      (cases_lt j n)

  abbrev buffers : ℕ
  buffers = pool_buffers setting.layout

  bit-set : (b : ℕ) → b < buffers → one_if (listed_bit (opened_words setting) b) ≡ 1
  bit-set b small =
      let j = b / word_bits in
      let there : j < free_words_of setting = omega arith in
      let bit : bit_at (get_or (free_list buffers (free_words_of setting)) j 0) (b % word_bits) ≡ 1 =
      ap (λ w. bit_at w (b % word_bits)) (free-at buffers (free_words_of setting) j there)
      ∙ bit_at_ones (min (buffers - word_bits * j) word_bits) (b % word_bits) (omega arith) in
      ap (λ n. one_if (n == 1)) bit

  bit-free : (b : ℕ) → buffers ≤ b → one_if (listed_bit (opened_words setting) b) ≡ 0
  bit-free b past =
      let j = b / word_bits in
      let bit : bit_at (get_or (free_list buffers (free_words_of setting)) j 0) (b % word_bits) ≡ 0 =
      ⊎_elim
      (λ less. ap (λ w. bit_at w (b % word_bits)) (free-at buffers (free_words_of setting) j less)
      ∙ bit_at_ones_above (min (buffers - word_bits * j) word_bits) (b % word_bits) (omega arith))
      (λ beyond. ap (λ w. bit_at w (b % word_bits)) (get_or_past (free_list buffers (free_words_of setting)) j 0
      (omega (arith, beyond, length-free buffers (free_words_of setting)))) ∙ bit_at-zero (b % word_bits))
      (cases_lt j (free_words_of setting)) in
      ap (λ n. one_if (n == 1)) bit

  -- ---- the rule

  user-zero : (n t a b : ℕ) → a < n → user_word_of (record (opened_words setting) { users = replicate n (replicate t 0) }) a b ≡ 0
  user-zero n t a b small = ap (λ row. get_or row b 0) (get_or-replicate n a (replicate t 0) [] small) ∙ all-alike t b 0

  -- in each ring nothing was written, and each slot is free
  empty-ring : {X : Type 0} (width : ℕ) (body : X → List ℕ) → 0 < setting.places
      → IsRing width body setting.places (replicate setting.places (replicate width 0)) [] 0 unseen unseen
  empty-ring width body places_some = record {
    some = places_some;
    many = length-replicate setting.places (replicate width 0);
    wide = λ k. ap length (slot-is k) ∙ length-replicate width 0;
    order = omega arith;
    room = omega arith;
    full = λ k d taken written. absurd (omega (arith, taken, written));
    free = λ k written taken. ap (λ slot. get_or slot 0 0) (slot-is k) ∙ all-alike width 0 0;
    writer_seen = λ e. absurd (false≢true e);
    writer_words = λ e. absurd (false≢true e);
    reader_seen = λ e. absurd (false≢true e);
    reader_words = λ e. absurd (false≢true e);
  }
    where
      slot-is : (k : ℕ) → slot_of setting.places (replicate setting.places (replicate width 0)) k ≡ replicate width 0
      slot-is k = get_or-replicate setting.places (k % setting.places) (replicate width 0) [] (mod-lt k places_some)

  empty-left : {X : Type 0} (width : ℕ) (body : X → List ℕ) → 0 < setting.places
      → AreLeft width body setting.places (replicate setting.places (replicate width 0)) [] 0 unseen
  empty-left width body places_some = record { next = λ less. zeros 0 less; others = λ k from to. zeros k to }
    where
      zeros : (k : ℕ) → k < 0 + setting.places
          → drop 1 (slot_of setting.places (replicate setting.places (replicate width 0)) k) ≡ left_for width body setting.places [] k
      zeros k less =
          let none = drop 1 (replicate width 0) in
          let turn = replicate setting.places none in
          ap (drop 1) (get_or-replicate setting.places (k % setting.places) (replicate width 0) [] (mod-lt k places_some))
          ∙ (sym (get_or-replicate setting.places k none [] (omega arith))
          ∙ sym (get_or_append_left turn [] [] k (omega (arith, length-replicate setting.places none))))

  rings : 0 < setting.places → (a : ℕ) → a < apps_of setting → AreRings setting (opened_words setting) (new_nic setting) (new_app setting a)
  rings places_some a small =
      let refills : get_or (opened_words setting).refills a [] ≡ replicate setting.places (replicate refill_width 0) =
      get_or-replicate (apps_of setting) a (replicate setting.places (replicate refill_width 0)) [] small in
      let notes : get_or (opened_words setting).notes a [] ≡ replicate setting.places (replicate note_width 0) =
      get_or-replicate (apps_of setting) a (replicate setting.places (replicate note_width 0)) [] small in
      let ends : get_or (replicate (apps_of setting) unseen) a unseen ≡ unseen = get_or-replicate (apps_of setting) a unseen unseen small in
      record {
        refills = rw (refills, ends) (record {
          ring = empty-ring refill_width words_of_entry places_some;
          free_slots = All-nil _;
          raw_slot = λ s e. absurd (let none : ⊥ = cc in none);
          none_raw = λ e. All-nil _;
        });
        notes = rw (notes, ends) (empty-ring note_width (words_of_note setting) places_some);
        left = rw (notes, ends) (empty-left note_width (words_of_note setting) places_some);
      }

  pub rule : IsLayout setting.layout → 0 < setting.places → RefRule setting (opened_words setting) (new_nic setting) apps
  rule layout places_some = record {
    layout = layout;
    sizes = record {
      roles = length-replicate (roles_of setting) 0;
      phases = length-replicate (roles_of setting) 0;
      pool = length-replicate (all_buffers setting.layout) 0;
      users = length-replicate (apps_of setting) (replicate (all_buffers setting.layout) 0);
      rows = All-replicate (λ row. length row ≡ all_buffers setting.layout) (apps_of setting) _ (length-replicate (all_buffers setting.layout) 0);
      free = length-free buffers (free_words_of setting);
      area = length-replicate (area_lines setting.layout) (replicate 64 0);
      lines = All-replicate (λ line. length line ≡ 64) (area_lines setting.layout) _ (length-replicate {A = ℕ} 64 0);
      notes = length-replicate (apps_of setting) (replicate setting.places (replicate note_width 0));
      note_slots = All-replicate (AreSlots setting.places note_width) (apps_of setting) _ (slots note_width);
      refills = length-replicate (apps_of setting) (replicate setting.places (replicate refill_width 0));
      refill_slots = All-replicate (AreSlots setting.places refill_width) (apps_of setting) _ (slots refill_width);
    };
    sides = record {
      set = record {
        card = refl;
        many = length-new_apps setting 0 (apps_of setting);
        numbers = numbered-new_apps setting 0 (apps_of setting);
        others = All-new (λ app. app.view.setting ≡ setting) setting 0 (apps_of setting) (λ a. refl);
      };
      lists = All-new (HasScrubLists setting) setting 0 (apps_of setting)
          (λ a. record { took = length-replicate (all_buffers setting.layout) 0; owes = length-replicate (all_buffers setting.layout) 0 });
      placed = λ b. ArePlaced-opened b setting apps (news setting 0 (apps_of setting));
      lines = λ b. AreByLine-opened b setting apps (news setting 0 (apps_of setting));
      by_one = λ b. IsFilledByOne-opened b setting apps (news setting 0 (apps_of setting));
      fit = FillingsFit-opened setting apps (news setting 0 (apps_of setting));
      made = IsMadeLast-idle (new_nic setting) apps refl;
      returned = λ b. All-new (EndedWereReturned b (new_nic setting)) setting 0 (apps_of setting)
          (λ a. record {
            ended = omega (arith, all-alike (all_buffers setting.layout) b 0);
            returning =
                omega (arith, all-alike (all_buffers setting.layout) b 0);
          });
      reserves = λ a app here. subst (HasFreeReserve (new_nic setting) apps) here.is
          (All-new (HasFreeReserve (new_nic setting) apps) setting 0 (apps_of setting) (λ n. record {
            unheld = λ e. absurd
                (false≢true e);
          }) a app here.there);
      few = All-new HasFewPicks setting 0 (apps_of setting) (λ a. record { picks = omega arith; spares = omega arith });
      returns = λ a app here. subst (AreReturns (new_nic setting)) here.is
          (All-new (AreReturns (new_nic setting)) setting 0 (apps_of setting)
          (λ n. record {
            written = λ b. omega arith;
            owed = λ b. omega arith;
            no_more = λ b. omega (arith, length-drop {A = Place} (ended_in b (new_nic setting) (new_app setting n)) []);
            clear = λ b. tt;
            named = All-nil _;
            settled = λ e. All-nil _;
            quiet = λ e. refl;
            scrubbed = λ e. refl;
            strays = All-nil _;
          }) a app here.there);
      dealt = λ a app here. subst (IsDealtInOrder (new_nic setting)) here.is
          (All-new (IsDealtInOrder (new_nic setting)) setting 0 (apps_of setting) (λ n. record { order = refl }) a app here.there);
      taken = λ a app here. subst (IsTakenInOrder (new_nic setting)) here.is
          (All-new (IsTakenInOrder (new_nic setting)) setting 0 (apps_of setting) (λ n. record { order = refl }) a app here.there);
      proper = All-nil _;
      honoured = All-nil _;
      slots = record { notes = length-replicate (apps_of setting) unseen; refills = length-replicate (apps_of setting) unseen };
      entries = All-new (λ app. All EntryFits app.view.written) setting 0 (apps_of setting) (λ a. All-nil _);
      notes = All-nil _;
      hand = λ inhand e. absurd (let none : ⊥ = cc in none);
      scrub = λ a app here.
          let some : 0 < all_buffers setting.layout = omega (arith, here.there, length-new_apps setting 0 (apps_of setting)) in
          subst (IsScrubbedSoFar (new_nic setting)) here.is
          (All-new (IsScrubbedSoFar (new_nic setting)) setting 0 (apps_of setting)
          (λ n. record {
            within = omega arith;
            done = λ e. absurd (false≢true e);
            whole = λ e. absurd (omega (arith, e, some));
            taken = λ b less. absurd (omega (arith, less));
            untaken = λ b past. all-alike (all_buffers setting.layout) b 0;
            quiet = λ less. absurd (omega (arith, less));
            loans = λ less. refl;
          }) a app here.there);
      scrubbed = λ a app here. subst (λ x. x.view.scrubbed ≡ true → HasNoneOwed (new_nic setting) x) here.is
          (All-new (λ x. x.view.scrubbed ≡ true → HasNoneOwed (new_nic setting) x) setting 0 (apps_of setting) (λ n e. absurd
          (false≢true e)) a app here.there);
    };
    pool = λ b small. all-alike (all_buffers setting.layout) b 0 ∙ sym (count-new b setting (apps_of setting));
    users = λ a b app small. user-zero (apps_of setting) (all_buffers setting.layout) a b app ∙ sym (users-new a b setting (apps_of setting));
    free = record {
      pool = λ b small. omega (
        arith,
        bit-set b small,
        hands-new b setting 0 (apps_of setting),
        ap (λ n. one_if (n == 0)) (count-new b setting (apps_of setting)),
      );
      reserves = λ b past. omega (arith, bit-free b past, hands-new b setting 0 (apps_of setting));
    };
    kept = record {
      kept = λ b small. omega (arith, bit-set b small);
      swept = λ b small gone. absurd (omega (arith, gone));
    };
    rings = λ a app here.
        let inside : a < apps_of setting = omega (arith, here.there, length-new_apps setting 0 (apps_of setting)) in
        let is : app ≡ new_app setting a = sym here.is ∙ (new-at 0 (apps_of setting) a app inside ∙ ap (new_app setting) (omega arith)) in
        subst (AreRings setting (opened_words setting) (new_nic setting)) (sym is) (rings places_some a inside);
  }
    where
      slots : (width : ℕ) → AreSlots setting.places width (replicate setting.places (replicate width 0))
      slots width = record {
        many = length-replicate setting.places (replicate width 0);
        wide = All-replicate (λ slot. length slot ≡ width) setting.places _ (length-replicate width 0);
      }
