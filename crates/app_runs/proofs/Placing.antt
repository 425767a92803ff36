-- Lists of marks at positions, and the marks placed by the definition.
use Rattle.std.proofs.Common.{◌≡◌, ℕ, zero, suc, ◌+◌, ◌-◌, ◌^◌, ◌<◌, List, [], ◌∷◌, ◌++◌, length, take, get_or, Option, Some, None, Bool, true, false}
use Rattle.std.{proofs.{Common.{if◌then◌else◌, refl, sym, ap, ◌∙◌, ⊎_elim, arith, length-take-le, append_assoc}, lemmas.List.{take_more}}, specs.{Prelude.{◌==◌, nat_eq}, Map.{lookup}}}
use Rattle.zr_kinds.specs.CopyingReceiver.{Placed, missing_within, next_missing, values_from, brought, first_of, front_of}
use Rattle.zr_kinds.proofs.{InOrder.{front_of-steps, cases_Option}, Pushed.{brought-push}}
use Rattle.flow_queues.specs.Marks.{Mark, marks_from}

-- ---- the marks of a note

pub one-mark-more : (note len place : ℕ) (marks more : List Mark) (whole : List Mark) → place < len
    → more ≡ marks ++ record { note = note; place = place } ∷ [] → marks ++ marks_from note place (len - place) ≡ whole
    → more ++ marks_from note (place + 1) (len - (place + 1)) ≡ whole
one-mark-more note len place marks more whole below pushed so_far =
    let rest : List Mark = marks_from note (place + 1) (len - (place + 1)) in
    let steps : len - place ≡ suc (len - (place + 1)) = omega arith in
    let next : suc place ≡ place + 1 = omega arith in
    ap (λ ms. ms ++ rest) pushed ∙ append_assoc marks (record { note = note; place = place } ∷ []) rest
    ∙ sym (ap (λ n. marks ++ marks_from note place n) steps
    ∙ ap (λ q. let m : Mark = record { note = note; place = place } in marks ++ m ∷ marks_from note q (len - (place + 1))) next)
    ∙ so_far

-- ---- the front

missing-length : {A : Type 0} (at : ℕ → Option A) (steps p : ℕ) → missing_within at steps p ≡ p + length (values_from at steps p)
missing-length at zero p = omega arith
missing-length at (suc steps) p = ⊎_elim
    (λ (here : at p ≡ None). rw here (omega arith))
    (λ (there, here). let later = missing-length at steps (suc p) in rw here (later ∙ omega arith))
    (cases_Option (at p))

pub front-length : {A : Type 0} (placed : Placed A) → length (front_of placed) ≡ next_missing placed
unfolding next_missing
front-length placed =
    let m : missing_within placed.at placed.top 0 ≡ 0 + length (values_from placed.at placed.top 0) = missing-length placed.at placed.top 0 in
    ap length (front_of-steps placed) ∙ (omega (arith, m))

pub front-begins : {A : Type 0} (placed : Placed A) (items : List A) → items ≡ [] → items ++ values_from placed.at (placed.top - 0) 0 ≡ front_of placed
front-begins placed items none =
    ap (λ xs. xs ++ values_from placed.at (placed.top - 0) 0) none ∙ ap (λ n. values_from placed.at n 0) (omega arith) ∙ sym (front_of-steps placed)

pub front-goes_on : {A : Type 0} (at : ℕ → Option A) (top p : ℕ) (items more front : List A) (m : A) → p < top
    → Some m ≡ at p → more ≡ items ++ m ∷ [] → items ++ values_from at (top - p) p ≡ front → more ++ values_from at (top - (p + 1)) (p + 1) ≡ front
front-goes_on at top p items more front m below here pushed so_far =
    let rest : List _ = values_from at (top - (p + 1)) (p + 1) in
    let steps : top - p ≡ suc (top - (p + 1)) = omega arith in
    let next : suc p ≡ p + 1 = omega arith in
    let opened : values_from at (suc (top - (p + 1))) p ≡ m ∷ values_from at (top - (p + 1)) (suc p) = rw (sym here) refl in
    ap (λ xs. xs ++ rest) pushed ∙ append_assoc items (m ∷ []) rest
    ∙ sym (ap (λ n. items ++ values_from at n p) steps ∙ ap (λ xs. items ++ xs) opened
    ∙ ap (λ q. items ++ m ∷ values_from at (top - (p + 1)) q) next)
    ∙ so_far

-- ---- one mark more

first_of-assoc : {A : Type 0} (a b c : Option A) → first_of (first_of a b) c ≡ first_of a (first_of b c)
first_of-assoc None b c = refl
first_of-assoc (Some a) b c = refl

in_front : {A : Type 0} (b : Bool) (x : A) (found more last : Option A) → more ≡ first_of found last
    → (if b then Some x else more) ≡ first_of (if b then Some x else found) last
in_front true x found more last e = refl
in_front false x found more last e = e

-- an entry more at the end counts where no other stands
lookup-push : {A : Type 0} (es : List (ℕ × A)) (k : ℕ) (x : A) (q : ℕ)
    → lookup (nat_eq q) (es ++ (k, x) ∷ []) ≡ first_of (lookup (nat_eq q) es) (if q == k then Some x else None)
lookup-push [] k x q = refl
lookup-push (e ∷ es) k x q = in_front (nat_eq q e.0) e.1 (lookup (nat_eq q) es) (lookup (nat_eq q) (es ++ (k, x) ∷ []))
    (if q == k then Some x else None) (lookup-push es k x q)

pub placed-more : {A : Type 0} (old : ℕ → Option A) (so_far : List (ℕ × A)) (marks : List A) (from i : ℕ) (x : A) → i < length marks → x ≡ get_or marks i x
    → ((p : ℕ) → lookup (nat_eq (p + 2 ^ 31)) so_far ≡ first_of (old p) (brought (take i marks) from p))
    → (p : ℕ) → lookup (nat_eq (p + 2 ^ 31)) (so_far ++ (from + i, x) ∷ []) ≡ first_of (old p) (brought (take (i + 1) marks) from p)
placed-more {A = A} old so_far marks from i x below is placed p =
    let next : ℕ → Option A = λ n. if p + 2 ^ 31 == from + n then Some (get_or marks i x) else None in
    ap (λ y. lookup (nat_eq (p + 2 ^ 31)) (so_far ++ (from + i, y) ∷ [])) is
    ∙ lookup-push so_far (from + i) (get_or marks i x) (p + 2 ^ 31) ∙ ap (λ o. first_of o (next i)) (placed p)
    ∙ first_of-assoc (old p) (brought (take i marks) from p) (next i)
    ∙ ap (first_of (old p)) (sym (ap (λ ms. brought ms from p) (take_more marks i x below) ∙ brought-push (take i marks) (get_or marks i x) from p
    ∙ ap (λ n. first_of (brought (take i marks) from p) (next n)) (length-take-le i marks (omega arith))))
