-- What a list's items are read as, one after another.
use Rattle.std.proofs.Common.{◌≡◌, ◌∙◌, ℕ, ◌+◌, ◌++◌, ◌<◌, ◌≤◌, List, [], ◌∷◌, length, drop, map, get_or, Option, Some, None, option_map, refl, sym, ap}
use Rattle.std.{proofs.{Common.{add-one, append_assoc, append-nil}, Math.Seq.{drop-cons}, lemmas.List.{drop_all}}, specs.{Borrow.{Bor}, Prelude.{option_and_then}}}
use Rattle.run_check.specs.Reading.{all_of}

abbrev pub first_then : {B : Type 0} → Option B → Option (List B) → Option (List B)
first_then first rest = option_and_then (λ f. option_map (λ r. f ∷ r) rest) first

pub first_and_rest : {B : Type 0} (first : Option B) (rest : Option (List B)) (all : List B) → first_then first rest ≡ Some all
    → (f : B) × (others : List B) × (first ≡ Some f) × (rest ≡ Some others) × (all ≡ f ∷ others)
first_and_rest None rest all is = cc
first_and_rest (Some f) None all is = cc
first_and_rest (Some f) (Some others) all is = (f, others, refl, refl, cc)

-- ---- by places

abbrev pub texts : List (Bor (List ℕ)) → List (List ℕ)
texts words = map (λ word. word.now) words

abbrev pub onto : {B : Type 0} → List B → Option (List B) → Option (List B)
onto done = option_map (λ rest. done ++ rest)

-- what the items from the place i on are read as
abbrev pub all_from : {B : Type 0} → (List ℕ → Option B) → List (Bor (List ℕ)) → ℕ → Option (List B)
all_from read words i = all_of read (texts (drop i words))

next_item : {B : Type 0} (read : List ℕ → Option B) (words : List (Bor (List ℕ))) (i : ℕ) (d : Bor (List ℕ)) → i < length words
    → all_from read words i ≡ first_then (read (get_or words i d).now) (all_from read words (i + 1))
next_item read words i d lt = rw (add-one, drop-cons words i d lt) refl

onto_next : {B : Type 0} (done : List B) (n : B) (rest : Option (List B)) → onto done (first_then (Some n) rest) ≡ onto (done ++ n ∷ []) rest
onto_next done n None = refl
onto_next done n (Some rest) = ap Some (sym (append_assoc done (n ∷ []) rest))

pub item_read : {B : Type 0} (read : List ℕ → Option B) (words : List (Bor (List ℕ))) (i : ℕ) (d : Bor (List ℕ)) (done : List B) (n : B)
    → i < length words → Some n ≡ read (get_or words i d).now
    → all_of read (texts words) ≡ onto done (all_from read words i) → all_of read (texts words) ≡ onto (done ++ n ∷ []) (all_from read words (i + 1))
item_read read words i d done n lt is before =
    before ∙ ap (onto done) (next_item read words i d lt ∙ ap (λ o. first_then o (all_from read words (i + 1))) (sym is))
    ∙ onto_next done n (all_from read words (i + 1))

pub item_missing : {B : Type 0} (read : List ℕ → Option B) (words : List (Bor (List ℕ))) (i : ℕ) (d : Bor (List ℕ)) (done : List B)
    → i < length words → None ≡ read (get_or words i d).now
    → all_of read (texts words) ≡ onto done (all_from read words i) → None ≡ all_of read (texts words)
item_missing read words i d done lt is before =
    sym (before ∙ ap (onto done) (next_item read words i d lt ∙ ap (λ o. first_then o (all_from read words (i + 1))) (sym is)))

pub all_read : {B : Type 0} (read : List ℕ → Option B) (words : List (Bor (List ℕ))) (i : ℕ) (done : List B) → length words ≤ i
    → all_of read (texts words) ≡ onto done (all_from read words i) → Some done ≡ all_of read (texts words)
all_read read words i done past before = sym (before ∙ rw (drop_all i words past) (ap Some (append-nil done)))
