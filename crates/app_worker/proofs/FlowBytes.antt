-- How many bytes of a flow were appended.
use Rattle.std.proofs.Common.{◌≡◌, ◌≢◌, ℕ, zero, suc, ◌<◌, ◌≤◌, List, [], ◌∷◌, length, get_or, refl, arith, eq-eqb, Option, subst, ◌∙◌, ⊎_elim}
use Rattle.std.{proofs.lemmas.Bool.{cases_eq}, specs.{Io.KnownBytes.{Keeps}, Prelude.{◌==◌, false, true}}}
use Rattle.zr_io.{specs.Moved.{Gained}, proofs.Moved.{Gained-weaker}}
use Rattle.zr_kinds.specs.CopyingReceiver.{values_from}
use Rattle.flow_queues.{specs.{Shelves.{IsShelved, AreShelved, FlowEnds}, declared.queues.FlowQueue.{FlowQueue}}, proofs.Placing.{values-length}}
use Rattle.flow_queues.{specs.{Core.{many, Each, AreReadAt, placed_of}, Totals.{queue_bytes_of}}, proofs.{Standing.{number-is, number-not}, ReadLemmas.{are-many}, Done.{gained-nothing}}}
use Rattle.app_worker.{specs.{Streams.{HasCounted}, State.{State, AppStands, Bare, Working}, Kept.{flow_bytes}}, proofs.{NoteTaken.{all-end}, StreamLemmas.{by-mode}}}
use Rattle.board_face.{proofs.ListLemmas.{not-eqb}, specs.declared.views.app.AppView.{AppView}}

-- a flow that is there is counted
some-number : (number i : ℕ) (flows : List FlowQueue) (d : FlowQueue) → i < length flows → (get_or flows i d).number ≡ number
    → 1 ≤ many number flows
some-number number i [] d within is = absurd (omega arith)
some-number number zero (f ∷ fs) d within is = omega (arith, number-is number f is)
some-number number (suc i) (f ∷ fs) d within is = omega (arith, some-number number i fs d (omega arith) is)

pub bytes-at : (number i : ℕ) (flows : List FlowQueue) (d : FlowQueue) → i < length flows → (get_or flows i d).number ≡ number
    → many number flows ≤ 1 → flow_bytes number flows ≡ (get_or flows i d).bytes
bytes-at number i [] d within is one = absurd (omega arith)
bytes-at number zero (f ∷ fs) d within is one = let yes : (f.number == number) ≡ true = eq-eqb f.number number is in rw yes refl
bytes-at number (suc i) (f ∷ fs) d within is one =
    let there : 1 ≤ many number fs = some-number number i fs d (omega arith) is in
    let other : f.number ≢ number = number-not number f (omega (arith, there, one)) in
    let no : (f.number == number) ≡ false = not-eqb f.number number other in
    rw no (bytes-at number i fs d (omega arith) is (omega (arith, one)))

pub bytes-none : (number : ℕ) (flows : List FlowQueue) → many number flows ≡ 0 → flow_bytes number flows ≡ 0
bytes-none number [] none = refl
bytes-none number (f ∷ fs) none =
    let other : f.number ≢ number = number-not number f (omega (arith, none)) in
    let no : (f.number == number) ≡ false = not-eqb f.number number other in
    rw no (bytes-none number fs (omega (arith, none)))

-- where a flow is there once at most, these are all
sum-none : (number : ℕ) (flows : List FlowQueue) → many number flows ≡ 0 → queue_bytes_of number flows ≡ 0
sum-none number [] none = refl
sum-none number (f ∷ fs) none =
    let other : f.number ≢ number = number-not number f (omega (arith, none)) in
    let no : (f.number == number) ≡ false = not-eqb f.number number other in
    rw no (omega (arith, sum-none number fs (omega (arith, none))))

pub bytes-sum : (number : ℕ) (flows : List FlowQueue) → many number flows ≤ 1 → flow_bytes number flows ≡ queue_bytes_of number flows
bytes-sum number [] one = refl
bytes-sum number (f ∷ fs) one = ⊎_elim
    (λ (here : f.number ≡ number).
    let yes : (f.number == number) ≡ true = eq-eqb f.number number here in
    let none : queue_bytes_of number fs ≡ 0 = sum-none number fs (omega (arith, one, number-is number f here)) in
    rw yes (omega (arith, none)))
    (λ (other : f.number ≢ number).
    let no : (f.number == number) ≡ false = not-eqb f.number number other in
    rw no (omega (arith, bytes-sum number fs (omega (arith, one)))))
    (cases_eq f.number number)

-- ---- what the shelf has

-- of one flow there are as many bytes as are counted
shelved-count : (first kept : ℕ → Option (List ℕ)) (v : AppView) (f : FlowQueue) → FlowEnds v.taken f → IsShelved first kept v.taken v.reads f
    → Gained (first f.number) (kept f.number) (λ bytes. length bytes ≡ f.bytes)
shelved-count first kept v f ends shelved = Gained-weaker (first f.number) (kept f.number)
    (λ bytes. AreReadAt v.taken v.reads (values_from (placed_of f v.taken).at f.bytes 0) bytes) (λ bytes. length bytes ≡ f.bytes)
    (λ bytes are. are-many v.taken v.reads (values_from (placed_of f v.taken).at f.bytes 0) bytes are
    ∙ values-length (placed_of f v.taken).at f.bytes 0 (λ q from until. ends.below q (omega (arith, until)))) shelved.gained

counts-of : (first kept : ℕ → Option (List ℕ)) (v : AppView) (number : ℕ) (flows : List FlowQueue) → Each (FlowEnds v.taken) flows
    → Each (IsShelved first kept v.taken v.reads) flows → (many number flows ≡ 0 → Keeps (first number) (kept number))
    → Gained (first number) (kept number) (λ bytes. length bytes ≡ flow_bytes number flows)
counts-of first kept v number [] ends shelved others = gained-nothing (first number) (kept number) (λ bytes. length bytes ≡ 0) refl (others refl)
counts-of first kept v number (f ∷ fs) ends shelved others = ⊎_elim
    (λ (here : f.number ≡ number).
    let yes : (f.number == number) ≡ true = eq-eqb f.number number here in
    rw yes (subst (λ n. Gained (first n) (kept n) (λ bytes. length bytes ≡ f.bytes)) here (shelved-count first kept v f ends.0 shelved.0)))
    (λ (other : f.number ≢ number).
    let no : (f.number == number) ≡ false = not-eqb f.number number other in
    rw no
    (counts-of first kept v number fs ends.1 shelved.1 (λ none. others (rw no (omega (arith, none))))))
    (cases_eq f.number number)

pub stands-counted : (first kept : ℕ → Option (List ℕ)) (st : State) (v : AppView) → AppStands st v → AreShelved first kept st.flows v
    → HasCounted first kept st.flows
stands-counted first kept st v stands shelved flow = by-mode st.bare (Bare st v) (Working st v)
    (Gained (first flow) (kept flow) (λ bytes. length bytes ≡ flow_bytes flow st.flows)) stands.mode
    (λ _ bare. counts-of first kept v flow st.flows bare.flows shelved.flows (shelved.others flow))
    (λ _ works. counts-of first kept v flow st.flows (all-end st v works) shelved.flows (shelved.others flow))
