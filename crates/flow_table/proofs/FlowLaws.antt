-- What becomes of the flows as one more segment is steered.
use Rattle.std.proofs.Common.{◌≡◌, ℕ, zero, suc, ◌+◌, ◌<◌, ◌≤◌, List, [], ◌∷◌, ◌++◌, length, Option, Some, None, Bool, true}
use Rattle.std.proofs.Common.{false, refl, sym, ap, subst, ◌∙◌, arith, if◌then◌else◌, ◌==◌, ◌&&◌, option_to_list, ⊎_elim, ◌≢◌, ◌⊎◌, inl, inr, length-append}
use Rattle.std.{specs.List.{slice_get}, proofs.lemmas.{Bool.{cases_lt, eqb-true}, List.{append-nil}}}
use Rattle.frame_headers.specs.FrameClass.{TcpSegment}
use Rattle.flow_table.specs.Steered.{SteeredTcp, app_of, steer, steered_from, steered_of}
use Rattle.flow_table.specs.Flows.{Flow, FlowKey, Numbered, same_addr, same_key, key_of, later_or, newest_from, newest, begins_anew, number_among}
use Rattle.flow_table.specs.Flows.{number_of_flow, new_flow, seen_by, with_segment, flows_with, flows_of, of_flow}
use Rattle.flow_table.proofs.Laws.{steered_from-append, flows_after-append, of_flow_after-append}
use Rattle.flow_table.proofs.Listing.{newest-stands, number_among-within, with_segment-last, length-with_segment-seen}

-- ---- one more segment

pub steered_of-push : (ports : List ℕ) (xs : List (Option TcpSegment)) (x : Option TcpSegment)
    → steered_of ports (xs ++ x ∷ []) ≡ steered_of ports xs ++ option_to_list (steer ports (1 + length xs) x)
unfolding steered_of
steered_of-push ports xs x = steered_from-append ports 1 xs (x ∷ [])
    ∙ ap (λ more. steered_from ports 1 xs ++ more) (append-nil (option_to_list (steer ports (1 + length xs) x)))

pub flows_of-push : (xs : List SteeredTcp) (x : SteeredTcp) → flows_of (xs ++ x ∷ []) ≡ flows_with (flows_of xs) x
flows_of-push xs x = flows_after-append [] xs (x ∷ [])

pub of_flow-push : (n : ℕ) (xs : List SteeredTcp) (x : SteeredTcp)
    → of_flow n (xs ++ x ∷ []) ≡ of_flow n xs ++ (if number_of_flow (flows_of xs) x == n then x ∷ [] else [])
of_flow-push n xs x = of_flow_after-append n [] xs (x ∷ [])
    ∙ ap (λ more. of_flow n xs ++ more) (append-nil (if number_of_flow (flows_of xs) x == n then x ∷ [] else []))

-- ---- how many there are

pub number_of_flow-within : (flows : List Flow) (steered : SteeredTcp) → number_of_flow flows steered ≤ length flows
unfolding number_of_flow
number_of_flow-within flows steered = number_among-within flows steered.segment

-- ---- the flow of the segment, and the others

pub with_segment-here : (flows : List Flow) (number : ℕ) (steered : SteeredTcp) (own : Flow) → slice_get flows number ≡ Some own
    → slice_get (with_segment flows number steered) number ≡ Some (seen_by own steered.segment)
with_segment-here [] number steered own is = absurd (cc)
with_segment-here (flow ∷ flows) zero steered own is = (let same : flow ≡ own = cc in rw same refl)
with_segment-here (flow ∷ flows) (suc number) steered own is = with_segment-here flows number steered own is

pub with_segment-next : (flows : List Flow) (number : ℕ) (steered : SteeredTcp) → number ≡ length flows
    → slice_get (with_segment flows number steered) number ≡ Some (new_flow steered)
with_segment-next [] zero steered is = refl
with_segment-next [] (suc number) steered is = absurd (omega arith)
with_segment-next (flow ∷ flows) zero steered is = absurd (omega arith)
with_segment-next (flow ∷ flows) (suc number) steered is = with_segment-next flows number steered (omega arith)

with_segment-other : (flows : List Flow) (number f : ℕ) (steered : SteeredTcp) → number < length flows → f ≢ number
    → slice_get (with_segment flows number steered) f ≡ slice_get flows f
with_segment-other [] number f steered within other = absurd (omega arith)
with_segment-other (flow ∷ flows) zero zero steered within other = absurd (other refl)
with_segment-other (flow ∷ flows) zero (suc f) steered within other = refl
with_segment-other (flow ∷ flows) (suc number) zero steered within other = refl
with_segment-other (flow ∷ flows) (suc number) (suc f) steered within other = with_segment-other flows number f steered (omega arith) (λ e. other (ap suc e))

module _ (flows : List Flow) (steered : SteeredTcp) where
  pub flows_with-here : (own : Flow) → slice_get flows (number_of_flow flows steered) ≡ Some own
      → slice_get (flows_with flows steered) (number_of_flow flows steered) ≡ Some (seen_by own steered.segment)
  unfolding flows_with
  flows_with-here own is = with_segment-here flows (number_of_flow flows steered) steered own is

  pub flows_with-other : (f : ℕ) → number_of_flow flows steered < length flows → f ≢ number_of_flow flows steered
      → slice_get (flows_with flows steered) f ≡ slice_get flows f
  unfolding flows_with
  flows_with-other f within other = with_segment-other flows (number_of_flow flows steered) f steered within other

  pub length-flows_with-seen : number_of_flow flows steered < length flows → length (flows_with flows steered) ≡ length flows
  unfolding flows_with
  length-flows_with-seen within = length-with_segment-seen flows (number_of_flow flows steered) steered within

  pub flows_with-begun : number_of_flow flows steered ≡ length flows → flows_with flows steered ≡ flows ++ new_flow steered ∷ []
  unfolding flows_with
  flows_with-begun is = with_segment-last flows (number_of_flow flows steered) steered is

  pub number_of_flow-cases : (number_of_flow flows steered < length flows) ⊎ (number_of_flow flows steered ≡ length flows)
  number_of_flow-cases = ⊎_elim
      (λ (there : number_of_flow flows steered < length flows). inl there)
      (λ (past : length flows ≤ number_of_flow flows steered). (let most = number_of_flow-within flows steered in inr (omega arith)))
      (cases_lt (number_of_flow flows steered) (length flows))

  -- none is lost, and the segment's flow is there
  pub flows_with-grow : (length flows ≤ length (flows_with flows steered)) × (number_of_flow flows steered < length (flows_with flows steered))
  flows_with-grow = ⊎_elim
      (λ (there : number_of_flow flows steered < length flows). let same = length-flows_with-seen there in (omega (arith, same), omega (arith, same)))
      (λ (next : number_of_flow flows steered ≡ length flows).
      let more : length (flows_with flows steered) ≡ length flows + 1 = ap length (flows_with-begun next) ∙ length-append flows (new_flow steered ∷ []) in
      (omega arith, omega arith))
      number_of_flow-cases

-- ---- a flow stays what it is

-- the same flow, which may have been closed since
pub record IsLater (before after : Flow) : Type 0 where
  pub key_is : after.key ≡ before.key
  pub app_is : after.app ≡ before.app
  pub base_is : after.base ≡ before.base

seen_later : (flow : Flow) (segment : TcpSegment) → IsLater flow (seen_by flow segment)
seen_later flow segment = record { key_is = refl; app_is = refl; base_is = refl }

same_later : (flow : Flow) → IsLater flow flow
same_later flow = record { key_is = refl; app_is = refl; base_is = refl }

with_segment-keeps : (flows : List Flow) (n : ℕ) (steered : SteeredTcp) (i : ℕ) (flow : Flow) → slice_get flows i ≡ Some flow → (later : Flow)
    × (slice_get (with_segment flows n steered) i ≡ Some later) × IsLater flow later
with_segment-keeps [] n steered i flow at = cc
with_segment-keeps (f ∷ flows) zero steered zero flow at = let same : f ≡ flow = cc in
    (seen_by f steered.segment, refl, subst (λ (g : Flow). IsLater g (seen_by f steered.segment)) same (seen_later f steered.segment))
with_segment-keeps (f ∷ flows) zero steered (suc i) flow at = (flow, at, same_later flow)
with_segment-keeps (f ∷ flows) (suc n) steered zero flow at = (flow, at, same_later flow)
with_segment-keeps (f ∷ flows) (suc n) steered (suc i) flow at = with_segment-keeps flows n steered i flow at

pub flows_with-keeps : (flows : List Flow) (steered : SteeredTcp) (i : ℕ) (flow : Flow) → slice_get flows i ≡ Some flow → (later : Flow)
    × (slice_get (flows_with flows steered) i ≡ Some later) × IsLater flow later
unfolding flows_with
flows_with-keeps flows steered i flow at = with_segment-keeps flows (number_of_flow flows steered) steered i flow at

-- ---- a flow's application is that of its port

abbrev pub HaveApps : List ℕ → List Flow → Type 0
HaveApps ports flows = (i : ℕ) (flow : Flow) → slice_get flows i ≡ Some flow → app_of ports flow.key.dport ≡ Some flow.app

with_segment-apps : (ports : List ℕ) (flows : List Flow) (n : ℕ) (steered : SteeredTcp) → app_of ports steered.segment.dport ≡ Some steered.app
    → HaveApps ports flows → HaveApps ports (with_segment flows n steered)
with_segment-apps ports [] n steered place have zero flow at = let same : new_flow steered ≡ flow = cc in
    subst (λ (g : Flow). app_of ports g.key.dport ≡ Some g.app) same place
with_segment-apps ports [] n steered place have (suc i) flow at = cc
with_segment-apps ports (f ∷ flows) zero steered place have zero flow at = let same : seen_by f steered.segment ≡ flow = cc in
    subst (λ (g : Flow). app_of ports g.key.dport ≡ Some g.app) same (have 0 f refl)
with_segment-apps ports (f ∷ flows) zero steered place have (suc i) flow at = have (suc i) flow at
with_segment-apps ports (f ∷ flows) (suc n) steered place have zero flow at = have 0 flow at
with_segment-apps ports (f ∷ flows) (suc n) steered place have (suc i) flow at = with_segment-apps ports flows n steered place (λ j. have (suc j)) i flow at

pub flows_with-apps : (ports : List ℕ) (flows : List Flow) (steered : SteeredTcp) → app_of ports steered.segment.dport ≡ Some steered.app
    → HaveApps ports flows → HaveApps ports (flows_with flows steered)
unfolding flows_with
flows_with-apps ports flows steered place have = with_segment-apps ports flows (number_of_flow flows steered) steered place have

-- ---- the flow of a segment has the segment's key

later_has_key : (first : ℕ) (key : FlowKey) (flow : Flow) (later : Option Numbered) (found : Numbered)
    → ((l : Numbered) → later ≡ Some l → same_key l.flow.key key ≡ true)
    → later_or later (if same_key flow.key key then Some (record { number = first; flow = flow }) else None) ≡ Some found
    → same_key found.flow.key key ≡ true
later_has_key first key flow (Some l) found among is = among found is
later_has_key first key flow None found among is = by (same_key flow.key key) refl is
  where
    by : (b : Bool) → same_key flow.key key ≡ b → (if b then Some (record { number = first; flow = flow }) else None) ≡ Some found
        → same_key found.flow.key key ≡ true
    by true e is = let same : record { number = first; flow = flow } ≡ found = cc in subst (λ (n : Numbered). same_key n.flow.key key ≡ true) same e
    by false e is = cc

newest_from-has_key : (first : ℕ) (key : FlowKey) (flows : List Flow) (found : Numbered) → newest_from first key flows ≡ Some found
    → same_key found.flow.key key ≡ true
newest_from-has_key first key [] found is = cc
newest_from-has_key first key (flow ∷ flows) found is =
    later_has_key first key flow (newest_from (suc first) key flows) found (λ l. newest_from-has_key (suc first) key flows l) is

last_of_four : (p q r s : Bool) → (p && q && r && s) ≡ true → s ≡ true
last_of_four true true true s is = is
last_of_four p q r true is = refl
last_of_four false q r false is = cc
last_of_four true false r false is = cc
last_of_four true true false false is = cc

same_dport : (a b : FlowKey) → same_key a b ≡ true → a.dport ≡ b.dport
same_dport a b same = eqb-true a.dport b.dport (last_of_four (same_addr a.src b.src) (same_addr a.dst b.dst) (a.sport == b.sport) (a.dport == b.dport) same)

-- flows of one key have one application
same_app : (ports : List ℕ) (flow : Flow) (steered : SteeredTcp) → same_key flow.key (key_of steered.segment) ≡ true
    → app_of ports flow.key.dport ≡ Some flow.app → app_of ports steered.segment.dport ≡ Some steered.app → flow.app ≡ steered.app
same_app ports flow steered same here place =
    let dport : flow.key.dport ≡ steered.segment.dport = same_dport flow.key (key_of steered.segment) same in
    let both : Some flow.app ≡ Some steered.app = sym here ∙ ap (app_of ports) dport ∙ place in
    cc

with_segment-at : (flows : List Flow) (n : ℕ) (steered : SteeredTcp) (f flow : Flow) → slice_get flows n ≡ Some f
    → slice_get (with_segment flows n steered) n ≡ Some flow → flow.app ≡ f.app
with_segment-at [] n steered f flow before after = cc
with_segment-at (g ∷ flows) zero steered f flow before after =
    let one : g ≡ f = cc in let other : seen_by g steered.segment ≡ flow = cc in
    sym (ap (λ (x : Flow). x.app) other) ∙ ap (λ (x : Flow). x.app) one
with_segment-at (g ∷ flows) (suc n) steered f flow before after = with_segment-at flows n steered f flow before after

with_segment-app_at_end : (flows : List Flow) (steered : SteeredTcp) (flow : Flow)
    → slice_get (with_segment flows (length flows) steered) (length flows) ≡ Some flow → flow.app ≡ steered.app
with_segment-app_at_end [] steered flow at = let same : new_flow steered ≡ flow = cc in sym (ap (λ (x : Flow). x.app) same)
with_segment-app_at_end (f ∷ flows) steered flow at = with_segment-app_at_end flows steered flow at

-- the flow of a segment has the segment's application
pub flows_with-app : (ports : List ℕ) (flows : List Flow) (steered : SteeredTcp) (flow : Flow) → app_of ports steered.segment.dport ≡ Some steered.app
    → HaveApps ports flows → slice_get (flows_with flows steered) (number_of_flow flows steered) ≡ Some flow → flow.app ≡ steered.app
unfolding number_of_flow flows_with
flows_with-app ports flows steered flow place have at =
    by (newest (key_of steered.segment) flows) refl (subst (λ n. slice_get (with_segment flows n steered) n ≡ Some flow) refl at)
  where
    chosen : (b : Bool) (found : Numbered) → newest (key_of steered.segment) flows ≡ Some found → (n : ℕ)
        → n ≡ (if b then length flows else found.number) → slice_get (with_segment flows n steered) n ≡ Some flow → flow.app ≡ steered.app
    chosen true found e n is at = with_segment-app_at_end flows steered flow (subst (λ k. slice_get (with_segment flows k steered) k ≡ Some flow) is at)
    chosen false found e n is at =
        let stands = newest-stands (key_of steered.segment) flows found e in
        with_segment-at flows found.number steered found.flow flow stands (subst (λ k. slice_get (with_segment flows k steered) k ≡ Some flow) is at)
        ∙ same_app ports found.flow steered (newest_from-has_key 0 (key_of steered.segment) flows found e) (have found.number found.flow stands) place

    by : (found : Option Numbered) → newest (key_of steered.segment) flows ≡ found
        → slice_get (with_segment flows (number_among (length flows) steered.segment found) steered)
        (number_among (length flows) steered.segment found) ≡ Some flow → flow.app ≡ steered.app
    by None e at = with_segment-app_at_end flows steered flow at
    by (Some found) e at = chosen (begins_anew found.flow steered.segment) found e _ refl at
