-- The kept pieces' values against those of the copying receiver.
use Rattle.std.proofs.Common.{◌≡◌, ℕ, zero, suc, ◌+◌, ◌-◌, ◌^◌, ◌<◌, ◌≤◌, List, [], ◌∷◌, length, nat_lt, true, false}
use Rattle.std.proofs.Common.{◌||◌, if◌then◌else◌, Option, None, Some, IsSome, is_some, refl, sym, ap, ◌∙◌, subst, ⊎_elim, arith, add-zero}
use Rattle.std.proofs.lemmas.Bool.{or_left, or_parts, lt-ltb, le-ltb, cases_lt, cases_Bool, cond_both, both_ways}
use Rattle.zr_kinds.specs.CopyingReceiver.{Placed, nothing_placed, next_missing, value_at, brought, first_of, filled_by_values, values_from}
use Rattle.zr_kinds.proofs.{LeastMissing.{value_at-past, next_missing-least, same_least}, InOrder.{first_of-nothing}}
use Rattle.tcp_reorder.specs.{declared.places.Span.{Span}, Queue.{Kept, Queue, end_of, covers, is_kept, has, positions_of, next_of, with_kept}}
use Rattle.tcp_reorder.specs.{Gaps.{kept_at, LosesFirst}, Values.{kept_value, AreSized, Holds}}
use Rattle.tcp_reorder.proofs.{Positions.{covers-within, covers-behind, covered, cases_piece, IsFree}, Least.{next_of-least, is_some-present}}

-- ---- values at places of a list

pub value_at-within : {A : Type 0} (values : List A) (place : ℕ) → place < length values → is_some (value_at values place) ≡ true
value_at-within [] place within = absurd (omega arith)
value_at-within (value ∷ values) zero within = refl
value_at-within (value ∷ values) (suc place) within = value_at-within values place (omega arith)

-- what a list brings, whose first value is at the position `from` less 2^31
pub brought-at : {A : Type 0} (values : List A) (from p : ℕ) → from ≤ p + 2 ^ 31 → brought values from p ≡ value_at values (p + 2 ^ 31 - from)
brought-at values from p within = rw (le-ltb (p + 2 ^ 31) from within) refl

pub brought-before : {A : Type 0} (values : List A) (from p : ℕ) → p + 2 ^ 31 < from → brought values from p ≡ None
brought-before values from p before = rw (lt-ltb (p + 2 ^ 31) from before) refl

pub brought-past : {A : Type 0} (values : List A) (from p : ℕ) → from + length values ≤ p + 2 ^ 31 → brought values from p ≡ None
brought-past values from p past = brought-at values from p (omega arith) ∙ value_at-past values (p + 2 ^ 31 - from) (omega arith)

pub first_of-there : {A : Type 0} (value later : Option A) → IsSome value → IsSome (first_of value later)
first_of-there None later there = cc
first_of-there (Some value) later there = refl

pub none_from : {A : Type 0} (value : Option A) → is_some value ≡ false → value ≡ None
none_from None none = refl
none_from (Some value) none = cc

pub values_from-list : {A : Type 0} (at : ℕ → Option A) (p : ℕ) (values : List A)
    → ((place : ℕ) → place < length values → at (p + place) ≡ value_at values place) → values_from at (length values) p ≡ values
values_from-list at p [] same = refl
values_from-list at p (value ∷ values) same =
    let here : at p ≡ Some value = ap at (sym (add-zero p)) ∙ same 0 (omega arith) in
    rw here (ap (λ others. value ∷ others) (values_from-list at (suc p) values (λ place below. ap at (omega arith) ∙ same (suc place) (omega arith))))

-- ---- the values of the kept pieces

module _ {A H : Type 0} (values : H → List A) where
  pub kept_value-covered : (one : Kept H) (others : List (Kept H)) (p : ℕ) → covers one p ≡ true
      → kept_value values (one ∷ others) p ≡ value_at (values one.piece) (p - one.position)
  kept_value-covered one others p within = rw within refl

  pub kept_value-others : (one : Kept H) (others : List (Kept H)) (p : ℕ) → covers one p ≡ false
      → kept_value values (one ∷ others) p ≡ kept_value values others p
  kept_value-others one others p apart = rw apart refl

  -- there is a value exactly where a piece is kept
  pub is_some-kept_value : (kept : List (Kept H)) (p : ℕ) → AreSized values kept → is_some (kept_value values kept p) ≡ is_kept kept p
  is_some-kept_value [] p sized = refl
  is_some-kept_value (one ∷ others) p sized = ⊎_elim
      (λ (within : covers one p ≡ true).
      let parts = covered one p within in
      let size : length (values one.piece) ≡ one.len = sized.0 in
      ap is_some (kept_value-covered one others p within) ∙ value_at-within (values one.piece) (p - one.position) (omega (arith, parts.0, parts.1))
      ∙ sym (or_left (covers one p) (is_kept others p) within))
      (λ (apart : covers one p ≡ false). rw apart (is_some-kept_value others p sized.1))
      (cases_Bool (covers one p))

  pub kept_value-with_covered : (kept : List (Kept H)) (one : Kept H) (p : ℕ) → covers one p ≡ true → is_kept kept p ≡ false
      → kept_value values (with_kept kept one) p ≡ value_at (values one.piece) (p - one.position)
  kept_value-with_covered [] one p within free = kept_value-covered one [] p within
  kept_value-with_covered (first ∷ others) one p within free =
      let parts = or_parts (covers first p) (is_kept others p) free in
      cond_both (nat_lt one.position first.position) (one ∷ first ∷ others) (first ∷ with_kept others one)
      (λ all. kept_value values all p ≡ value_at (values one.piece) (p - one.position))
      (λ _. kept_value-covered one (first ∷ others) p within)
      (λ _. kept_value-others first (with_kept others one) p parts.0 ∙ kept_value-with_covered others one p within parts.1)

  pub kept_value-with_others : (kept : List (Kept H)) (one : Kept H) (p : ℕ) → covers one p ≡ false
      → kept_value values (with_kept kept one) p ≡ kept_value values kept p
  kept_value-with_others [] one p apart = kept_value-others one [] p apart
  kept_value-with_others (first ∷ others) one p apart =
      cond_both (nat_lt one.position first.position) (one ∷ first ∷ others) (first ∷ with_kept others one)
      (λ all. kept_value values all p ≡ kept_value values (first ∷ others) p)
      (λ _. kept_value-others one (first ∷ others) p apart)
      (λ _. ap (λ value. if covers first p then value_at (values first.piece) (p - first.position) else value) (kept_value-with_others others one p apart))

  pub AreSized-with_kept : (kept : List (Kept H)) (one : Kept H) → AreSized values kept → length (values one.piece) ≡ one.len
      → AreSized values (with_kept kept one)
  AreSized-with_kept [] one sized size = (size, tt)
  AreSized-with_kept (first ∷ others) one sized size =
      cond_both (nat_lt one.position first.position) (one ∷ first ∷ others) (first ∷ with_kept others one)
      (λ all. AreSized values all)
      (λ _. (size, sized))
      (λ _. (sized.0, AreSized-with_kept others one sized.1 size))

  -- ---- what a queue holds

  pub Holds-nothing : (base : ℕ) → Holds values (record { base = base; popped = 0; kept = [] }) nothing_placed
  Holds-nothing base = record { popped = λ p below. absurd (omega arith); kept = λ p above. refl; sized = tt; past = λ p above. refl }

  pub Holds-same : (queue : Queue H) (placed later : Placed A) → Holds values queue placed → ((p : ℕ) → later.at p ≡ placed.at p)
      → ((p : ℕ) → later.top ≤ p → later.at p ≡ None) → Holds values queue later
  Holds-same queue placed later holds same past = record {
    popped = λ p below. ap is_some (same p) ∙ holds.popped p below;
    kept = λ p above. same p ∙ holds.kept p above;
    sized = holds.sized;
    past = past;
  }

  -- it holds something exactly at its positions
  pub is_some-held : (queue : Queue H) (placed : Placed A) → Holds values queue placed → (p : ℕ) → is_some (placed.at p) ≡ has queue p
  is_some-held queue placed holds p = ⊎_elim
      (λ (below : p < queue.popped). holds.popped p below ∙ sym (or_left (nat_lt p queue.popped) (is_kept queue.kept p) (lt-ltb p queue.popped below)))
      (λ (above : queue.popped ≤ p). ap is_some (holds.kept p above) ∙ is_some-kept_value queue.kept p holds.sized
      ∙ ap (λ b. b || is_kept queue.kept p) (sym (le-ltb p queue.popped above)))
      (cases_lt p queue.popped)

  -- the first missing position is that of the copying receiver
  pub next_missing-held : (queue : Queue H) (placed : Placed A) → Holds values queue placed → next_missing placed ≡ next_of queue
  next_missing-held queue placed holds =
      same_least placed (positions_of queue) (next_missing placed) (next_of queue) (next_missing-least placed (record { past = holds.past }))
      (next_of-least queue)
      (λ p. is_some-held queue placed holds p ∙ sym (is_some-present (has queue p)))

  -- one piece more, at free positions: its values are put there
  pub Holds-with_kept : (queue : Queue H) (placed : Placed A) (one : Kept H) → Holds values queue placed → IsFree queue.kept one
      → length (values one.piece) ≡ one.len → queue.popped ≤ one.position
      → Holds values (record queue { kept = with_kept queue.kept one }) (filled_by_values placed (one.position + 2 ^ 31) (values one.piece))
  Holds-with_kept queue placed one holds free size from = record {
    popped = λ p below. first_of-there (placed.at p) (brought (values one.piece) (one.position + 2 ^ 31) p) (holds.popped p below);
    kept = λ p above. ⊎_elim
        (λ (within : covers one p ≡ true).
        let parts = covered one p within in
        let missing : is_kept queue.kept p ≡ false = free.free p parts.0 parts.1 in
        let none : placed.at p ≡ None =
        none_from (placed.at p) (ap is_some (holds.kept p above) ∙ is_some-kept_value queue.kept p holds.sized ∙ missing) in
        ap (λ value. first_of value (brought (values one.piece) (one.position + 2 ^ 31) p)) none
        ∙ brought-at (values one.piece) (one.position + 2 ^ 31) p (omega (arith, parts.0))
        ∙ ap (value_at (values one.piece)) (omega arith)
        ∙ sym (kept_value-with_covered queue.kept one p within missing))
        (λ (apart : covers one p ≡ false).
        ap (first_of (placed.at p)) (brings_nothing p apart)
        ∙ first_of-nothing (placed.at p)
        ∙ holds.kept p above
        ∙ sym (kept_value-with_others queue.kept one p apart))
        (cases_Bool (covers one p));
    sized = AreSized-with_kept queue.kept one holds.sized size;
    past = λ p past. ap (λ value. first_of value (brought (values one.piece) (one.position + 2 ^ 31) p)) (holds.past p (omega arith))
        ∙ brought-past (values one.piece) (one.position + 2 ^ 31) p (omega arith);
  }
    where
      brings_nothing : (p : ℕ) → covers one p ≡ false → brought (values one.piece) (one.position + 2 ^ 31) p ≡ None
      brings_nothing p apart = ⊎_elim
          (λ (before : p < one.position). brought-before (values one.piece) (one.position + 2 ^ 31) p (omega arith))
          (λ rest. ⊎_elim
          (λ (from, until). absurd (both_ways _ apart (covers-within one p from until)))
          (λ (behind : end_of one ≤ p). brought-past (values one.piece) (one.position + 2 ^ 31) p (omega arith))
          rest)
          (cases_piece one p)

  -- the first piece leaves from the front: its values are those placed there, and what is placed stays
  pub record IsPopped (queue : Queue H) (placed : Placed A) (piece : H) (from len : ℕ) : Type 0 where
    pub holds : Holds values queue placed
    pub values_are : values piece ≡ values_from placed.at len from

  pub Holds-popped : (old new : Queue H) (placed : Placed A) (piece : H) (span : Span) → Holds values old placed → LosesFirst old new piece span
      → span.position ≡ old.popped → IsPopped new placed piece old.popped span.len
  Holds-popped old new placed piece span holds loses begins =
      let one : Kept H = kept_at span piece in
      let sized : AreSized values (one ∷ new.kept) = subst (λ kept. AreSized values kept) loses.first holds.sized in
      let size : length (values piece) ≡ span.len = sized.0 in
      let popped : new.popped ≡ span.position + span.len = loses.popped in
      let here : (p : ℕ) → old.popped ≤ p → p < span.position + span.len
      → placed.at p ≡ value_at (values piece) (p - span.position) = λ p above below.
      holds.kept p above ∙ ap (λ kept. kept_value values kept p) loses.first
      ∙ kept_value-covered one new.kept p (covers-within one p (omega arith) below) in
      record {
        holds = record {
          popped = λ p below. ⊎_elim
              (λ (before : p < old.popped). holds.popped p before)
              (λ (within : old.popped ≤ p). ap is_some (here p within (omega arith)) ∙ value_at-within (values piece) (p - span.position) (omega arith))
              (cases_lt p old.popped);
          kept = λ p above. holds.kept p (omega arith) ∙ ap (λ kept. kept_value values kept p) loses.first
              ∙ kept_value-others one new.kept p (covers-behind one p (omega arith));
          sized = sized.1;
          past = holds.past;
        };
        values_are = sym (ap (λ n. values_from placed.at n old.popped) (sym size)
            ∙ values_from-list placed.at old.popped (values piece)
            (λ place below. here (old.popped + place) (omega arith) (omega arith) ∙ ap (value_at (values piece)) (omega arith)));
      }
