-- A note chooses its flow, whose queue changes then.
use Rattle.std.proofs.Common.{◌≡◌, ◌≢◌, ℕ, ◌+◌, ◌<◌, ◌≤◌, false, List, [], ◌∷◌, ◌++◌, length, set, get_or, refl, sym, ap, subst, ◌∙◌, arith, ⊎_elim, inl, inr}
use Rattle.std.{specs.Prelude.{◌==◌}, proofs.lemmas.Bool.{cases_eq, ne_eqb}}
use Rattle.zr_kinds.specs.declared.place.Note.{Note}
use Rattle.tcp_reorder.specs.Queue.{Queue}
use Rattle.flow_queues.specs.{declared.queues.{Waiting.{Waiting}, FlowQueue.{FlowQueue}}, Core.{total, Each, many}, Flows.{fresh_flow, IsChosen}}
use Rattle.flow_queues.proofs.Tokens.{total-append}
use Rattle.flow_queues.proofs.Standing.{At, split-at, each-map, each-join, each-left, each-right, is_number, number-is, total-changed, many-same}
use Rattle.flow_queues.proofs.Took.{get-last, set-last}

-- the flow that was chosen stood among the others, or was put behind them
pub data Chosen (was : List FlowQueue) (note : Note) (own : FlowQueue) (put : FlowQueue → List FlowQueue) : Type 0 where
  there : (before after : List FlowQueue) → was ≡ before ++ own ∷ after → ((x : FlowQueue) → put x ≡ before ++ x ∷ after)
      → own.number ≡ note.flow → Chosen was note own put
  begun : many note.flow was ≡ 0 → own ≡ fresh_flow note → ((x : FlowQueue) → put x ≡ was ++ x ∷ []) → Chosen was note own put

pub is-chosen : (was flows : List FlowQueue) (note : Note) (i : ℕ) (own : FlowQueue) → IsChosen was flows note i → i < length flows
    → own ≡ get_or flows i own → Chosen was note own (λ x. set flows i x)
is-chosen was flows note i own (inl same) within value =
    let at : At flows i own = split-at flows i own within value in
    there at.before at.after (sym same.0 ∙ at.is) at.set_is (ap (λ (o : FlowQueue). o.number) value ∙ same.1 own)
is-chosen was flows note i own (inr new) within value =
    let own_is : own ≡ fresh_flow note = value ∙ ap (λ (fs : List FlowQueue). get_or fs i own) new.1
    ∙ ap (λ k. get_or (was ++ fresh_flow note ∷ []) k own) new.2 ∙ get-last was (fresh_flow note) own in
    begun new.0 own_is (λ x. ap (λ (fs : List FlowQueue). set fs i x) new.1 ∙ ap (λ k. set (was ++ fresh_flow note ∷ []) k x) new.2
    ∙ set-last was (fresh_flow note) x)

module _ (was : List FlowQueue) (note : Note) (own : FlowQueue) (put : FlowQueue → List FlowQueue) (q : Queue Waiting)
    (base : q.base ≡ own.queue.base) where
  pub each-noted : (P Q : FlowQueue → Type 0) → Chosen was note own put → Each P was
      → ((f : FlowQueue) (r : Queue Waiting) → r.base ≡ f.queue.base → P f → Q (record f { queue = r }))
      → (many note.flow was ≡ 0 → (r : Queue Waiting) → r.base ≡ note.base → Q (record (fresh_flow note) { queue = r }))
      → Each Q (put (record own { queue = q }))
  each-noted P Q (there before after is put_is number) each step fresh =
      let parts : Each P (before ++ own ∷ after) = subst (Each P) is each in
      let behind : Each P (own ∷ after) = each-right P before (own ∷ after) parts in
      subst (Each Q) (sym (put_is (record own { queue = q })))
      (each-join Q before (record own { queue = q } ∷ after)
      (each-map P Q before (λ f _ p. step f f.queue refl p) (each-left P before (own ∷ after) parts))
      (step own q base behind.0, each-map P Q after (λ f _ p. step f f.queue refl p) behind.1))
  each-noted P Q (begun none own_is put_is) each step fresh =
      let here : Q (record (fresh_flow note) { queue = q }) = fresh none q (base ∙ ap (λ (o : FlowQueue). o.queue.base) own_is) in
      subst (Each Q) (sym (put_is (record own { queue = q })))
      (each-join Q was (record own { queue = q } ∷ []) (each-map P Q was (λ f _ p. step f f.queue refl p) each)
      (subst (λ (o : FlowQueue). Q (record o { queue = q })) (sym own_is) here, tt))

  pub bytes-noted : Chosen was note own put → total (λ f. f.bytes) (put (record own { queue = q })) ≡ total (λ f. f.bytes) was
  bytes-noted (there before after is put_is number) =
      let b : FlowQueue → ℕ = λ f. f.bytes in
      ap (total b) (put_is (record own { queue = q })) ∙ omega (arith, total-changed before after own (record own { queue = q }) b) ∙ sym (ap (total b) is)
  bytes-noted (begun none own_is put_is) =
      let b : FlowQueue → ℕ = λ f. f.bytes in
      let zero_bytes : own.bytes ≡ 0 = ap b own_is in
      ap (total b) (put_is (record own { queue = q })) ∙ omega (arith, total-append b was (record own { queue = q } ∷ []), zero_bytes)

  -- and what is said of its queue changes with it
  pub total-noted : (h : FlowQueue → ℕ) → Chosen was note own put → h (fresh_flow note) ≡ 0
      → total h (put (record own { queue = q })) + h own ≡ total h was + h (record own { queue = q })
  total-noted h (there before after is put_is number) none =
      omega (
        arith,
        ap (total h) (put_is (record own { queue = q })),
        total-changed before after own (record own { queue = q }) h,
        ap (total h) is,
      )
  total-noted h (begun new own_is put_is) none =
      omega (
        arith,
        ap (total h) (put_is (record own { queue = q })),
        total-append h was (record own { queue = q } ∷ []),
        ap h own_is,
        none,
      )

  -- its number may be new, and no other's
  pub many-noted : Chosen was note own put → (n : ℕ) → (many n was ≤ many n (put (record own { queue = q })))
      × (many n was ≤ 1 → many n (put (record own { queue = q })) ≤ 1)
  many-noted (there before after is put_is number) n =
      let same : many n (put (record own { queue = q })) ≡ many n was = ap (many n) (put_is (record own { queue = q }))
      ∙ many-same before after own (record own { queue = q }) refl n ∙ sym (ap (many n) is) in
      (omega (arith, same), λ few. omega (arith, same, few))
  many-noted (begun none own_is put_is) n =
      let sum : many n (put (record own { queue = q })) ≡ many n was + is_number n (record own { queue = q }) = ap (many n)
      (put_is (record own { queue = q })) ∙ omega (arith, total-append (is_number n) was (record own { queue = q } ∷ [])) in
      let number : own.number ≡ note.flow = ap (λ (o : FlowQueue). o.number) own_is in (
        omega (arith, sum),
        λ few. ⊎_elim
            (λ (is : n ≡ note.flow). let none_here : many n was
            ≡ 0 = subst (λ k. many k was ≡ 0) (sym is) none in omega
            (arith, sum, none_here, number-is n (record own { queue = q }) (number ∙ sym is)))
            (λ (other : n ≢ note.flow). (let no : (own.number == n)
            ≡ false = ne_eqb own.number n (λ e. other (sym e ∙ number)) in let z : is_number n (record own { queue = q })
            ≡ 0 = rw no refl in omega (arith, sum, z, few)))
            (cases_eq n note.flow),
      )
