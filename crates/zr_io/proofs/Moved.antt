-- How what moved over several calls goes together.
use Rattle.std.proofs.Common.{ℕ, ◌≤◌, List, [], ◌++◌, Option, None, Some, sym, ap, ◌∙◌, append_assoc, append-nil, arith}
use Rattle.std.specs.Io.KnownBytes.{Keeps, Appends, Consumes}
use Rattle.zr_io.specs.Moved.{Rose, Gained, Took}

-- nothing was taken from what stayed as it was
pub Took-nothing : (a b : Option (List ℕ)) (P : List ℕ → Type 0) → Keeps a b → P [] → Took a b P
Took-nothing None b P kept p = tt
Took-nothing (Some xs) None P kept p = absurd kept
Took-nothing (Some xs) (Some ys) P kept p = ([], sym kept, p)

-- one read took the bytes that it consumed
pub Took-consumed : (a b : Option (List ℕ)) (bytes : List ℕ) (P : List ℕ → Type 0) → Consumes a b bytes → P bytes → Took a b P
Took-consumed None b bytes P consumed p = tt
Took-consumed (Some xs) None bytes P consumed p = absurd consumed
Took-consumed (Some xs) (Some ys) bytes P consumed p = (bytes, consumed, p)

-- what is taken by two calls, one after the other
pub Took-then : (a b c : Option (List ℕ)) (P Q R : List ℕ → Type 0) → ((xs ys : List ℕ) → P xs → Q ys → R (xs ++ ys)) → Took a b P
    → Took b c Q → Took a c R
Took-then None b c P Q R join first second = tt
Took-then (Some xs) None c P Q R join first second = absurd first
Took-then (Some xs) (Some ys) None P Q R join first second = absurd second
Took-then (Some xs) (Some ys) (Some zs) P Q R join (bs, e, p) (cs, f, q) =
    (bs ++ cs, e ∙ ap (λ l. bs ++ l) f ∙ sym (append_assoc bs cs zs), join bs cs p q)

-- a weaker fact about what was taken
pub Took-weaker : (a b : Option (List ℕ)) (P Q : List ℕ → Type 0) → ((xs : List ℕ) → P xs → Q xs) → Took a b P → Took a b Q
Took-weaker None b P Q weaken took = tt
Took-weaker (Some xs) None P Q weaken took = took
Took-weaker (Some xs) (Some ys) P Q weaken (bs, e, p) = (bs, e, weaken bs p)

-- nothing was gained where all stayed as it was
pub Gained-nothing : (a b : Option (List ℕ)) (P : List ℕ → Type 0) → Keeps a b → P [] → Gained a b P
Gained-nothing None b P kept p = tt
Gained-nothing (Some xs) None P kept p = absurd kept
Gained-nothing (Some xs) (Some ys) P kept p = ([], kept ∙ sym (append-nil xs), p)

-- one call gained the bytes that it appended
pub Gained-added : (a b : Option (List ℕ)) (bytes : List ℕ) (P : List ℕ → Type 0) → Appends a b bytes → P bytes → Gained a b P
Gained-added None b bytes P added p = tt
Gained-added (Some xs) None bytes P added p = absurd added
Gained-added (Some xs) (Some ys) bytes P added p = (bytes, added, p)

-- what is gained by two calls, one after the other
pub Gained-then : (a b c : Option (List ℕ)) (P Q R : List ℕ → Type 0) → ((xs ys : List ℕ) → P xs → Q ys → R (xs ++ ys)) → Gained a b P
    → Gained b c Q → Gained a c R
Gained-then None b c P Q R join first second = tt
Gained-then (Some xs) None c P Q R join first second = absurd first
Gained-then (Some xs) (Some ys) None P Q R join first second = absurd second
Gained-then (Some xs) (Some ys) (Some zs) P Q R join (bs, e, p) (cs, f, q) =
    (bs ++ cs, f ∙ ap (λ l. l ++ cs) e ∙ append_assoc xs bs cs, join bs cs p q)

-- a weaker fact about what was gained
pub Gained-weaker : (a b : Option (List ℕ)) (P Q : List ℕ → Type 0) → ((xs : List ℕ) → P xs → Q xs) → Gained a b P → Gained a b Q
Gained-weaker None b P Q weaken gained = tt
Gained-weaker (Some xs) None P Q weaken gained = gained
Gained-weaker (Some xs) (Some ys) P Q weaken (bs, e, p) = (bs, e, weaken bs p)

-- a count that rose from a later value rose from an earlier one
pub Rose-earlier : (a b c : ℕ) → a ≤ b → Rose b c → Rose a c
Rose-earlier a b c earlier rose = omega arith
