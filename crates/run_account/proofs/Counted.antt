-- How many bytes of a flow are counted, and how many its shelf gained.
use Rattle.std.proofs.Common.{◌≡◌, ◌≢◌, ℕ, List, [], ◌∷◌, length, true, false, ◌==◌, Option, Some, None, refl, sym, subst, ◌∙◌, arith, ⊎_elim, ◌⊎◌, inl, inr}
use Rattle.std.{specs.Io.KnownBytes.{Keeps}, proofs.lemmas.{Bool.{eq-eqb, ne_eqb, cases_eq}, List.{append_cancel_left}}}
use Rattle.zr_kinds.{specs.{declared.behaviour.Stopped.{Stopped}, CopyingReceiver.{values_from}}, proofs.ValuesFrom.{length-values_from}}
use Rattle.zr_kinds.specs.declared.behaviour.Stopped.TheVariants as stop
use Rattle.zr_io.{specs.Moved.{Gained}, proofs.Moved.{Gained-weaker, Gained-nothing}}
use Rattle.board_face.specs.declared.views.app.AppView.{AppView}
use Rattle.flow_queues.specs.{declared.queues.FlowQueue.{FlowQueue}, Ends.{IsCounted}}
use Rattle.flow_queues.{specs.Shelves.{FlowEnds, kept_loans, IsShelved, AreShelved, ReadsFront, IsFrontShelved, AreFronts}, proofs.ReadLemmas.{are-many}}
use Rattle.app_worker.specs.{Core.{Each, many, AreReadAt, placed_of}, Kept.{flow_bytes}}

pub is-write : (s : Stopped) → (s ≡ stop.Write) ⊎ (s ≢ stop.Write)
is-write stop.Write = inl refl
is-write stop.No = inr (λ e. absurd (cc))
is-write stop.Quit = inr (λ e. absurd (cc))
is-write stop.Memory = inr (λ e. absurd (cc))

-- two facts of what was gained
pub gained-both : (a b : Option (List ℕ)) (P Q R : List ℕ → Type 0) → ((bytes : List ℕ) → P bytes → Q bytes → R bytes)
    → Gained a b P → Gained a b Q → Gained a b R
gained-both None b P Q R join first second = tt
gained-both (Some xs) None P Q R join first second = first
gained-both (Some xs) (Some ys) P Q R join (bytes, is, p) (same, too, q) =
    (bytes, is, join bytes p (subst Q (append_cancel_left xs same bytes (sym too ∙ is)) q))

-- the flow of a number, with what holds of it
pub record IsThere (P : FlowQueue → Type 0) (number count : ℕ) : Type 0 where
  pub flow : FlowQueue
  pub number_is : flow.number ≡ number
  pub bytes_is : count ≡ flow.bytes
  pub holds : P flow

pub find : (P : FlowQueue → Type 0) (own : List FlowQueue) (number : ℕ) → Each P own
    → ((many number own ≡ 0) × (flow_bytes number own ≡ 0)) ⊎ IsThere P number (flow_bytes number own)
find P [] number each = inl (refl, refl)
find P (f ∷ fs) number each = ⊎_elim
    (λ (same : f.number ≡ number).
    let test : (f.number == number) ≡ true = eq-eqb f.number number same in
    rw test (inr (record { flow = f; number_is = same; bytes_is = refl; holds = each.0 })))
    (λ (other : f.number ≢ number).
    let test : (f.number == number) ≡ false = ne_eqb f.number number other in
    rw test (⊎_elim
    (λ (none : (many number fs ≡ 0) × (flow_bytes number fs ≡ 0)). inl (omega (arith, none.0), none.1))
    (λ (there : IsThere P number (flow_bytes number fs)). inr there)
    (find P fs number each.1)))
    (cases_eq f.number number)

pub both : {A : Type 0} (P Q : A → Type 0) (xs : List A) → Each P xs → Each Q xs → Each (λ x. P x × Q x) xs
both P Q [] first second = tt
both P Q (x ∷ xs) first second = ((first.0, second.0), both P Q xs first.1 second.1)

-- as many bytes were gained as are counted
pub shelved-long : (first kept : ℕ → Option (List ℕ)) (v : AppView) (f : FlowQueue) → FlowEnds v.taken f → IsShelved first kept v.taken v.reads f
    → Gained (first f.number) (kept f.number) (λ bytes. f.bytes ≡ length bytes)
shelved-long first kept v f ends shelved =
    let size : length (values_from (placed_of f v.taken).at f.bytes 0) ≡ f.bytes =
    length-values_from (placed_of f v.taken).at f.bytes 0 (record { there = λ q from until. ends.below q (omega (arith, until)) }) in
    Gained-weaker (first f.number) (kept f.number) (λ bytes. AreReadAt v.taken v.reads (values_from (placed_of f v.taken).at f.bytes 0) bytes)
    (λ bytes. f.bytes ≡ length bytes) (λ bytes are. sym size ∙ sym (are-many v.taken v.reads _ bytes are)) shelved.gained

module _ (first kept : ℕ → Option (List ℕ)) (v : AppView) (own : List FlowQueue) (number : ℕ) (stopped : Stopped)
    (ends : Each (FlowEnds v.taken) own) where
  none-counted : Keeps (first number) (kept number) → flow_bytes number own ≡ 0
      → Gained (first number) (kept number) (IsCounted stopped (flow_bytes number own))
  none-counted keeps none = Gained-nothing (first number) (kept number) (IsCounted stopped (flow_bytes number own)) keeps
      (record { counted = λ goes. none; at_least = omega (arith, none) })

  pub shelved-counted : AreShelved first kept own v → Gained (first number) (kept number) (IsCounted stopped (flow_bytes number own))
  shelved-counted shelved = ⊎_elim
      (λ (none : (many number own ≡ 0) × (flow_bytes number own ≡ 0)). none-counted (shelved.others number none.0) none.1)
      (λ (there : IsThere (λ f. FlowEnds v.taken f × IsShelved first kept v.taken v.reads f) number (flow_bytes number own)).
      let f : FlowQueue = there.flow in
      subst (λ n. Gained (first n) (kept n) (IsCounted stopped (flow_bytes number own))) there.number_is
      (Gained-weaker (first f.number) (kept f.number) (λ bytes. f.bytes ≡ length bytes) (IsCounted stopped (flow_bytes number own))
      (λ bytes long. record { counted = λ goes. there.bytes_is ∙ long; at_least = omega (arith, there.bytes_is, long) })
      (shelved-long first kept v f there.holds.0 there.holds.1)))
      (find (λ f. FlowEnds v.taken f × IsShelved first kept v.taken v.reads f) own number
      (both (FlowEnds v.taken) (IsShelved first kept v.taken v.reads) own ends shelved.flows))

  pub fronts-counted : stopped ≡ stop.Write → AreFronts first kept own v
      → Gained (first number) (kept number) (IsCounted stopped (flow_bytes number own))
  fronts-counted failed fronts = ⊎_elim
      (λ (none : (many number own ≡ 0) × (flow_bytes number own ≡ 0)). none-counted (fronts.others number none.0) none.1)
      (λ (there : IsThere (IsFrontShelved first kept v.taken v.reads (kept_loans v)) number (flow_bytes number own)).
      let f : FlowQueue = there.flow in
      subst (λ n. Gained (first n) (kept n) (IsCounted stopped (flow_bytes number own))) there.number_is
      (Gained-weaker (first f.number) (kept f.number) (ReadsFront v.taken v.reads (kept_loans v) f) (IsCounted stopped (flow_bytes number own))
      (λ bytes front.
      let size : length (values_from (placed_of f v.taken).at front.count 0) ≡ front.count =
      length-values_from (placed_of f v.taken).at front.count 0 (record { there = λ q from until. front.below q (omega (arith, until)) }) in
      let long : length (values_from (placed_of f v.taken).at front.count 0) ≡ length bytes = sym (are-many v.taken v.reads _ bytes front.are) in
      record { counted = λ goes. absurd (goes failed); at_least = omega (arith, there.bytes_is, front.at_least, size, long) })
      there.holds.gained))
      (find (IsFrontShelved first kept v.taken v.reads (kept_loans v)) own number fronts.flows)

  pub flow-counted : (stopped ≢ stop.Write → AreShelved first kept own v) → (stopped ≡ stop.Write → AreFronts first kept own v)
      → Gained (first number) (kept number) (IsCounted stopped (flow_bytes number own))
  flow-counted shelved fronts = ⊎_elim
      (λ (failed : stopped ≡ stop.Write). fronts-counted failed (fronts failed))
      (λ (goes : stopped ≢ stop.Write). shelved-counted (shelved goes))
      (is-write stopped)
