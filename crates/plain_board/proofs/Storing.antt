-- Bytes that are stored at a place of a buffer lie there alone. The area is one list, so the same bytes are also named from
-- each buffer before, past its end. No text lies there: so all texts stay shown, one buffer after another.
use Rattle.std.proofs.Common.{◌≡◌, ℕ, zero, suc, ◌+◌, ◌-◌, ◌<◌, ◌≤◌, List, ◌++◌, length, take, drop, get_or, refl, ap, sym}
use Rattle.std.{proofs.Common.{◌∙◌, arith, ⊎_elim, inl, inr, append_assoc, length-append, length-take, length-drop}, specs.Prelude.{◌⊎◌, nat_lt, if◌then◌else◌}}
use Rattle.std.proofs.lemmas.{Bool.{cases_lt, lt-ltb, le-ltb}, List.{get_or_append_left, get_or-take, get_or-append_right, get_or-drop}}
use Rattle.zr_kinds.specs.declared.place.Place.{Place}
use Rattle.area_layout.{specs.Layout.{all_buffers, size_of, begin_of}, proofs.Words.{in_order}}
use Rattle.board_face.specs.{Shown.{IsShown, AreShown}, declared.views.{nic.NicSide.{NicSide}, app.AppSide.{AppSide}}}
use Rattle.board_face.proofs.{StoresAtLemmas.{StoresAt, HasNoText, HasNoText-behind}, AreShownLemmas.{AreShown-stored_at}}
use Rattle.board_parts.specs.Area.{stored}
use Rattle.plain_board.specs.{Stand.{Arrays, byte_of}, Sound.{HasSizes}}

-- ---- the area

module _ (area bytes : List ℕ) (at : ℕ) (fits : at + length bytes ≤ length area) where
  length-front : length (take at area) ≡ at
  length-front = omega (arith, length-take at area)

  in_parts : stored area at bytes ≡ take at area ++ (bytes ++ drop (at + length bytes) area)
  in_parts = append_assoc (take at area) bytes (drop (at + length bytes) area)

  pub length-stored : length (stored area at bytes) ≡ length area
  length-stored = simp length-append (omega (arith, length-front, length-drop (at + length bytes) area))

  pub stored-before : (k : ℕ) → k < at → get_or (stored area at bytes) k 0 ≡ get_or area k 0
  stored-before k less = ap (λ xs. get_or xs k 0) in_parts ∙
      (get_or_append_left (take at area) (bytes ++ drop (at + length bytes) area) 0 k (omega (arith, length-front)) ∙ get_or-take at area k 0 less)

  after-front : (k : ℕ) → at ≤ k → get_or (stored area at bytes) k 0 ≡ get_or (bytes ++ drop (at + length bytes) area) (k - at) 0
  after-front k past = ap (λ xs. get_or xs k 0) in_parts ∙ get_or-append_right (take at area)
      (bytes ++ drop (at + length bytes) area) at k 0 length-front past

  pub stored-here : (k i : ℕ) → k ≡ at + i → i < length bytes → get_or (stored area at bytes) k 0 ≡ get_or bytes i 0
  stored-here k i is small =
      let spot : k - at ≡ i = omega arith in
      after-front k (omega arith)
      ∙ (ap (λ j. get_or (bytes ++ drop (at + length bytes) area) j 0) spot ∙ get_or_append_left bytes (drop (at + length bytes) area) 0 i small)

  pub stored-behind : (k : ℕ) → at + length bytes ≤ k → get_or (stored area at bytes) k 0 ≡ get_or area k 0
  stored-behind k past =
      let spot : at + length bytes + (k - at - length bytes) ≡ k = omega arith in
      after-front k (omega arith)
      ∙ (get_or-append_right bytes (drop (at + length bytes) area) (length bytes) (k - at) 0 refl (omega arith)
      ∙ (get_or-drop (at + length bytes) area (k - at - length bytes) 0 ∙ ap (λ j. get_or area j 0) spot))

-- ---- a place in a buffer

module _ (arrays : Arrays) (b offset : ℕ) (bytes : List ℕ) (sizes : HasSizes arrays) (inside : b < all_buffers arrays.layout)
    (lies : offset + length bytes ≤ size_of arrays.layout b) where
  abbrev spot : ℕ
  spot = begin_of arrays.layout b + offset

  -- a buffer ends before those behind it
  ends-before : (c d : ℕ) → c < d → begin_of arrays.layout c + size_of arrays.layout c ≤ begin_of arrays.layout d
  ends-before = (in_order arrays.layout sizes.layout).apart

  pub in_area : spot + length bytes ≤ length arrays.area
  in_area = omega (arith, sizes.area, ends-before b (all_buffers arrays.layout) inside)

  abbrev pub stored_then : Arrays
  stored_then = record arrays { area = stored arrays.area spot bytes }

  abbrev place_then : Place
  place_then = record { buffer = b; offset = offset; len = length bytes }

  kept : (c x : ℕ) → (begin_of arrays.layout c + x < spot) ⊎ (spot + length bytes ≤ begin_of arrays.layout c + x)
      → byte_of stored_then c x ≡ byte_of arrays c x
  kept c x where_ = ⊎_elim (λ before. stored-before arrays.area bytes spot in_area (begin_of arrays.layout c + x) before)
      (λ behind. stored-behind arrays.area bytes spot in_area (begin_of arrays.layout c + x) behind) where_

  pub IsShown-stored : IsShown (byte_of stored_then) place_then bytes
  IsShown-stored = record {
    len = refl;
    bytes = λ i small. stored-here arrays.area bytes spot in_area (begin_of arrays.layout b + (offset + i)) i (omega arith) small;
  }

  -- the bytes, where only those named from the first k buffers are as they are then
  abbrev pub byte_upto : ℕ → ℕ → ℕ → ℕ
  byte_upto k c x = if nat_lt c k then byte_of stored_then c x else byte_of arrays c x

  upto-below : (k c x : ℕ) → c < k → byte_upto k c x ≡ byte_of stored_then c x
  upto-below k c x less = ap (λ t. if t then byte_of stored_then c x else byte_of arrays c x) (lt-ltb c k less)

  upto-from : (k c x : ℕ) → k ≤ c → byte_upto k c x ≡ byte_of arrays c x
  upto-from k c x past = ap (λ t. if t then byte_of stored_then c x else byte_of arrays c x) (le-ltb c k past)

  -- past the end of a buffer
  abbrev past_end : ℕ → Place
  past_end k = record { buffer = k; offset = size_of arrays.layout k; len = length arrays.area }

  StoresAt-next : (k : ℕ) → k < b → StoresAt (byte_upto k) (byte_upto (suc k)) (past_end k)
  StoresAt-next k less c x where_ =
      ⊎_elim
      (λ below. upto-below (suc k) c x (omega arith) ∙ sym (upto-below k c x below))
      (λ from. ⊎_elim
      (λ above. upto-from (suc k) c x (omega arith) ∙ sym (upto-from k c x from))
      (λ at. let same : c ≡ k = omega arith in
      let begins : begin_of arrays.layout c ≡ begin_of arrays.layout k = ap (begin_of arrays.layout) same in
      let here : byte_of stored_then c x ≡ byte_of arrays c x =
      kept c x (⊎_elim (λ other. absurd (other same)) (λ there. ⊎_elim (λ before. inl (omega (arith, ends-before k b less)))
      (λ behind. inr (omega (arith, in_area))) there) where_) in
      upto-below (suc k) c x (omega arith) ∙ (here ∙ sym (upto-from k c x from)))
      (cases_lt k c))
      (cases_lt c k)

  pub StoresAt-last : StoresAt (byte_upto b) (byte_of stored_then) place_then
  StoresAt-last c x where_ =
      ⊎_elim
      (λ below. sym (upto-below b c x below))
      (λ from. kept c x (⊎_elim
      (λ above. inr (omega (arith, ends-before b c above)))
      (λ at. let same : c ≡ b = omega arith in
      let begins : begin_of arrays.layout c ≡ begin_of arrays.layout b = ap (begin_of arrays.layout) same in
      ⊎_elim (λ other. absurd (other same)) (λ there. ⊎_elim (λ before. inl (omega arith)) (λ behind. inr (omega arith)) there) where_)
      (cases_lt b c))
      ∙ sym (upto-from b c x from))
      (cases_lt c b)

  module _ (nic : NicSide) (apps : List AppSide) (layout : nic.view.setting.layout ≡ arrays.layout) where
    no_text : (k : ℕ) → AreShown (byte_upto k) nic apps → HasNoText nic apps (past_end k)
    no_text k shown = HasNoText-behind nic apps (past_end k) (rw layout at (shown.places k).within)

    AreShown-upto : (k : ℕ) → k ≤ b → AreShown (byte_of arrays) nic apps → AreShown (byte_upto k) nic apps
    AreShown-upto zero some shown = AreShown-stored_at (byte_of arrays) (byte_upto 0) nic apps (record { buffer = 0; offset = 0; len = 0 })
        (λ c x _. upto-from 0 c x (omega arith)) (λ x from less. absurd (omega arith)) shown
    AreShown-upto (suc k) some shown =
        let before = AreShown-upto k (omega arith) shown in
        AreShown-stored_at (byte_upto k) (byte_upto (suc k)) nic apps (past_end k) (StoresAt-next k (omega arith)) (no_text k before) before

    -- all texts are shown as far as the bytes are named from the buffers before
    pub AreShown-before : AreShown (byte_of arrays) nic apps → AreShown (byte_upto b) nic apps
    AreShown-before shown = AreShown-upto b (omega arith) shown
