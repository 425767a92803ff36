-- A buffer whose last holder goes enters the cache or the free list.
use Rattle.std.proofs.Common.{◌≡◌, ℕ, ◌+◌, ◌<◌, ◌≤◌, Bool, true, false, List, [], ◌∷◌, ◌++◌, length, set, refl, ap, sym, subst, arith, ⊎_elim, length-append}
use Rattle.std.{specs.Prelude.{◌≢◌, ◌&&◌, nat_eq, count_by, ◌==◌, if◌then◌else◌, nat_lt}, proofs.lemmas.List.{get_or-set_same, get_or-set_other, length-set}}
use Rattle.std.proofs.lemmas.Bool.{Decides.{eqb_tells}, ltb-true}
use Rattle.board_face.{specs.NicEvents.{cached, cache_room}, proofs.{Tallies.{one_if}, Counting.{weight-swap, count-push}}}
use Rattle.board_parts.specs.Free.{listed_in, relisted}

pub and-right : (c d : Bool) → (c && d) ≡ true → d ≡ true
and-right true d e = e
and-right false d e = absurd (let none : ⊥ = cc in none)

-- the cache after a buffer came to be free, or not
abbrev pub cache_after : Bool → List ℕ → ℕ → List ℕ
cache_after last cache i = if last then cached cache i else cache

-- and the free list
abbrev pub listed_after : Bool → List ℕ → List Bool → ℕ → List Bool
listed_after last cache listed i = if last then relisted cache listed i else listed

pub listed-set : (listed : List Bool) (i b : ℕ) → i < length listed → listed_in listed i ≡ false
    → one_if (listed_in (set listed i true) b) ≡ one_if (listed_in listed b) + one_if (i == b)
listed-set listed i b there was =
    ⊎_elim
    (λ t. let e : i ≡ b = t.1 in
    let now : one_if (listed_in (set listed i true) b) ≡ 1 = subst (λ x. one_if (listed_in (set listed i true) x) ≡ 1) e
    (ap one_if (get_or-set_same listed i true false there)) in
    let before : one_if (listed_in listed b) ≡ 0 = subst (λ x. one_if (listed_in listed x) ≡ 0) e (ap one_if was) in
    omega (arith, now, before, ap one_if t.0))
    (λ t. let ne : b ≢ i = λ e. t.1 (sym e) in omega (arith, ap one_if (get_or-set_other listed i b true false ne), ap one_if t.0))
    (eqb_tells i b)

room-case : (c : Bool) (cache : List ℕ) (listed : List Bool) (i b : ℕ) → i < length listed → listed_in listed i ≡ false
    → one_if (listed_in (if c then listed else set listed i true) b) + count_by (nat_eq b) (if c then cache ++ i ∷ [] else cache)
    ≡ one_if (listed_in listed b) + count_by (nat_eq b) cache + one_if (i == b)
room-case true cache listed i b there was = omega (arith, count-push b i cache, weight-swap b i)
room-case false cache listed i b there was = omega (arith, listed-set listed i b there was)

-- Free places of a buffer, on the free list and in the cache.
pub places-after : (last : Bool) (cache : List ℕ) (listed : List Bool) (i b : ℕ) → i < length listed → listed_in listed i ≡ false
    → one_if (listed_in (listed_after last cache listed i) b) + count_by (nat_eq b) (cache_after last cache i)
    ≡ one_if (listed_in listed b) + count_by (nat_eq b) cache + (if last then one_if (i == b) else 0)
places-after true cache listed i b there was = room-case (nat_lt (length cache) cache_room) cache listed i b there was
places-after false cache listed i b there was = omega arith

cache-case : (c : Bool) (cache : List ℕ) (i b : ℕ) → count_by (nat_eq b) cache ≤ count_by (nat_eq b) (if c then cache ++ i ∷ [] else cache)
cache-case true cache i b = omega (arith, count-push b i cache)
cache-case false cache i b = omega arith

pub cache-grows : (last : Bool) (cache : List ℕ) (i b : ℕ) → count_by (nat_eq b) cache ≤ count_by (nat_eq b) (cache_after last cache i)
cache-grows true cache i b = cache-case (nat_lt (length cache) cache_room) cache i b
cache-grows false cache i b = omega arith

room-length : (c : Bool) (cache : List ℕ) (i : ℕ) → (c ≡ true → length cache < cache_room) → length cache ≤ cache_room
    → length (if c then cache ++ i ∷ [] else cache) ≤ cache_room
room-length true cache i room short = let less = room refl in omega (arith, length-append cache (i ∷ []))
room-length false cache i room short = short

pub cache-short : (last : Bool) (cache : List ℕ) (i : ℕ) → length cache ≤ cache_room → length (cache_after last cache i) ≤ cache_room
cache-short true cache i short = room-length (nat_lt (length cache) cache_room) cache i (λ e. ltb-true (length cache) cache_room e) short
cache-short false cache i short = short

relist-case : (c : Bool) (listed : List Bool) (i : ℕ) → length (if c then listed else set listed i true) ≡ length listed
relist-case true listed i = refl
relist-case false listed i = length-set listed i true

pub length-listed_after : (last : Bool) (cache : List ℕ) (listed : List Bool) (i : ℕ) → length (listed_after last cache listed i) ≡ length listed
length-listed_after true cache listed i = relist-case (nat_lt (length cache) cache_room) listed i
length-listed_after false cache listed i = refl

-- ---- free once
