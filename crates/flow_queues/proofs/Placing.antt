-- What a flow received grows at its end, and what stood stays.
use Rattle.std.proofs.Common.{◌≡◌, ◌≢◌, ℕ, zero, suc, ◌+◌, ◌<◌, ◌≤◌, true, false, if◌then◌else◌, List, [], ◌∷◌}
use Rattle.std.{proofs.Common.{◌++◌, Option, Some, None, IsSome, length, refl, ap, ◌∙◌, arith, ⊎_elim, append-nil}, specs.Prelude.{◌==◌}}
use Rattle.std.proofs.lemmas.Bool.{cases_Bool, eq-eqb, Decides.{nat_tests}}
use Rattle.zr_kinds.specs.CopyingReceiver.{Placed, next_missing, accepts, values_from}
use Rattle.board_face.specs.declared.views.app.TakenNote.{TakenNote}
use Rattle.flow_queues.specs.{Marks.{Mark, NumberedNote, numbered_notes, notes_of_flow}, Core.{received_note, received_notes, own_notes, BeginAt}}

-- ---- the notes of a flow

numbered-push : (n : ℕ) (taken : List TakenNote) (t : TakenNote)
    → numbered_notes n (taken ++ t ∷ []) ≡ numbered_notes n taken ++ record { number = n + length taken; note = t.note } ∷ []
numbered-push n [] t = (let e : n ≡ n + 0 = omega arith in ap (λ k. record { number = k; note = t.note } ∷ []) e)
numbered-push n (u ∷ taken) t =
    let e : suc n + length taken ≡ n + suc (length taken) = omega arith in
    ap (λ ns. record { number = n; note = u.note } ∷ ns) (numbered-push (suc n) taken t
    ∙ ap (λ k. numbered_notes (suc n) taken ++ record { number = k; note = t.note } ∷ []) e)

of_flow-push : (flow : ℕ) (ns : List NumberedNote) (n : NumberedNote)
    → notes_of_flow flow (ns ++ n ∷ []) ≡ notes_of_flow flow ns ++ (if n.note.flow == flow then n ∷ [] else [])
of_flow-push flow [] n = ⊎_elim (λ (yes : (n.note.flow == flow) ≡ true). rw yes refl) (λ (no : (n.note.flow == flow) ≡ false). rw no refl)
    (cases_Bool (n.note.flow == flow))
of_flow-push flow (m ∷ ns) n = ⊎_elim
    (λ (yes : (m.note.flow == flow) ≡ true). rw yes (ap (λ xs. m ∷ xs) (of_flow-push flow ns n)))
    (λ (no : (m.note.flow == flow) ≡ false). rw no (of_flow-push flow ns n))
    (cases_Bool (m.note.flow == flow))

-- the note that comes to those taken
abbrev pub next_note : List TakenNote → TakenNote → NumberedNote
next_note taken t = record { number = length taken; note = t.note }

pub own-notes-push : (flow : ℕ) (taken : List TakenNote) (t : TakenNote)
    → own_notes flow (taken ++ t ∷ []) ≡ own_notes flow taken ++ (if t.note.flow == flow then next_note taken t ∷ [] else [])
own-notes-push flow taken t =
    let e : 0 + length taken ≡ length taken = omega arith in
    ap (notes_of_flow flow) (numbered-push 0 taken t ∙ ap (λ k. numbered_notes 0 taken ++ record { number = k; note = t.note } ∷ []) e)
    ∙ of_flow-push flow (numbered_notes 0 taken) (next_note taken t)

pub own-notes-other : (flow : ℕ) (taken : List TakenNote) (t : TakenNote) → t.note.flow ≢ flow
    → own_notes flow (taken ++ t ∷ []) ≡ own_notes flow taken
own-notes-other flow taken t other =
    let no : (t.note.flow == flow) ≡ false = grind (arith, nat_tests) in
    own-notes-push flow taken t ∙ ap (λ b. own_notes flow taken ++ (if b then next_note taken t ∷ [] else [])) no ∙ append-nil (own_notes flow taken)

pub own-notes-here : (flow : ℕ) (taken : List TakenNote) (t : TakenNote) → t.note.flow ≡ flow
    → own_notes flow (taken ++ t ∷ []) ≡ own_notes flow taken ++ next_note taken t ∷ []
own-notes-here flow taken t here =
    let yes : (t.note.flow == flow) ≡ true = eq-eqb t.note.flow flow here in
    own-notes-push flow taken t ∙ ap (λ b. own_notes flow taken ++ (if b then next_note taken t ∷ [] else [])) yes

pub received-push : (base : ℕ) (placed : Placed Mark) (ns : List NumberedNote) (n : NumberedNote)
    → received_notes base placed (ns ++ n ∷ []) ≡ received_note base (received_notes base placed ns) n
received-push base placed [] n = refl
received-push base placed (m ∷ ns) n = received-push base (received_note base placed m) ns n

pub begin-push : (base : ℕ) (ns : List NumberedNote) (n : NumberedNote) → BeginAt base ns → BeginAt base (ns ++ n ∷ [])
begin-push base [] n begin = absurd begin
begin-push base (m ∷ ns) n begin = begin

-- ---- what stood stays

pub some_of : (found : Option Mark) → IsSome found → (value : Mark) × (found ≡ Some value)
some_of None is = absurd (cc)
some_of (Some value) is = (value, refl)

pub still-there : (base : ℕ) (placed : Placed Mark) (n : NumberedNote) (q : ℕ) (value : Mark) → placed.at q ≡ Some value
    → (received_note base placed n).at q ≡ Some value
still-there base placed n q value here = ⊎_elim
    (λ (yes : accepts base (next_missing placed) n.note.seq n.note.total ≡ true). rw (yes, here) refl)
    (λ (no : accepts base (next_missing placed) n.note.seq n.note.total ≡ false). rw no here)
    (cases_Bool (accepts base (next_missing placed) n.note.seq n.note.total))

values_from-same : (at later : ℕ → Option Mark) (k p : ℕ)
    → ((q : ℕ) → p ≤ q → q < p + k → (value : Mark) × (at q ≡ Some value) × (later q ≡ Some value))
    → values_from later k p ≡ values_from at k p
values_from-same at later zero p same = refl
values_from-same at later (suc k) p same =
    let others = values_from-same at later k (suc p) (λ q from until. same q (omega arith) (omega arith)) in
    let (value, before, now) = same p (omega arith) (omega arith) in
    with_both before now others
  where
    with_both : {value : Mark} → at p ≡ Some value → later p ≡ Some value → values_from later k (suc p) ≡ values_from at k (suc p)
        → values_from later (suc k) p ≡ values_from at (suc k) p
    with_both {value} before now others = rw (before, now) (ap (λ xs. value ∷ xs) others)

pub values-stay : (base : ℕ) (placed : Placed Mark) (n : NumberedNote) (k p : ℕ) → ((q : ℕ) → q < p + k → IsSome (placed.at q))
    → values_from (received_note base placed n).at k p ≡ values_from placed.at k p
values-stay base placed n k p there =
    values_from-same placed.at (received_note base placed n).at k p
    (λ q from until. let (value, here) = some_of (placed.at q) (there q until) in (value, here, still-there base placed n q value here))

pub values-split : (at : ℕ → Option Mark) (k m p : ℕ) → ((q : ℕ) → p ≤ q → q < p + k → IsSome (at q))
    → values_from at (k + m) p ≡ values_from at k p ++ values_from at m (p + k)
values-split at zero m p there =
    let none_more : 0 + m ≡ m = omega arith in
    let here : p ≡ p + 0 = omega arith in
    ap (λ n. values_from at n p) none_more ∙ ap (values_from at m) here
values-split at (suc k) m p there =
    let (value, here) = some_of (at p) (there p (omega arith) (omega arith)) in
    let steps : suc k + m ≡ suc (k + m) = omega arith in
    let behind : suc p + k ≡ p + suc k = omega arith in
    rw (steps, here) (ap (λ others. value ∷ others) (values-split at k m (suc p) (λ q from until. there q (omega arith) (omega arith))
    ∙ ap (λ n. values_from at k (suc p) ++ values_from at m n) behind))

pub values-length : (at : ℕ → Option Mark) (k p : ℕ) → ((q : ℕ) → p ≤ q → q < p + k → IsSome (at q)) → length (values_from at k p) ≡ k
values-length at zero p there = refl
values-length at (suc k) p there =
    let (value, here) = some_of (at p) (there p (omega arith) (omega arith)) in
    rw here (ap suc (values-length at k (suc p) (λ q from until. there q (omega arith) (omega arith))))
