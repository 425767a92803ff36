-- Counts in a list, and what a buffer's count says of its free places.
use Rattle.std.proofs.Common.{◌≡◌, ℕ, zero, suc, ◌+◌, ◌≤◌, Bool, true, false, List, [], ◌∷◌, ◌++◌, length, refl, ap, sym, ◌∙◌, arith, cond}
use Rattle.std.specs.Prelude.{◌==◌, ◌&&◌, not, nat_eq, nat_lt, count_by, if◌then◌else◌}
use Rattle.board_face.{specs.NicEvents.{cached, cache_room}, proofs.{ListLemmas.{not-eqb}, Tallies.{one_if}, Counting.{count-push}}}

-- a buffer that has a holder, and comes to have more, is in no free place before and after
pub once-more : (p p' f w : ℕ) → f ≡ (if p == 0 then 1 else 0) → p' ≡ p + w → w ≤ p → f ≡ (if p' == 0 then 1 else 0)
once-more zero p' f w e more few = let none : p' ≡ 0 = omega arith in rw none e
once-more (suc p) p' f w e more few = e ∙ (ap one_if (not-eqb (suc p) 0 (λ z. omega arith)) ∙ sym (ap one_if (not-eqb p' 0 (λ z. omega arith))))

-- w where the test holds
abbrev pub if_so : Bool → ℕ → ℕ
if_so c w = if c then w else 0

pub if_so-weight : (c : Bool) → if_so c 1 ≡ one_if c
if_so-weight true = refl
if_so-weight false = refl

pub and-false : (c d : Bool) → d ≡ false → (c && d) ≡ false
and-false true d e = e
and-false false d e = refl

-- a buffer that came to be free enters the cache, or the hands
room-case : (room : Bool) (cache hands : List ℕ) (i b : ℕ)
    → count_by (nat_eq b) (cond room (cache ++ i ∷ []) cache) + count_by (nat_eq b) (cond (not room) (hands ++ i ∷ []) hands) ≡ count_by
    (nat_eq b) cache + count_by (nat_eq b) hands + one_if (b == i)
room-case true cache hands i b = omega (arith, count-push b i cache)
room-case false cache hands i b = omega (arith, count-push b i hands)

pub cached-or-in_hand : (came : Bool) (cache hands : List ℕ) (i b : ℕ)
    → count_by (nat_eq b) (cond came (cached cache i) cache) + count_by (nat_eq b) (cond (came && not (nat_lt (length cache) cache_room))
    (hands ++ i ∷ []) hands) ≡ count_by (nat_eq b) cache + count_by (nat_eq b) hands + (if came then one_if (b == i) else 0)
cached-or-in_hand true cache hands i b = room-case (nat_lt (length cache) cache_room) cache hands i b
cached-or-in_hand false cache hands i b = omega arith
