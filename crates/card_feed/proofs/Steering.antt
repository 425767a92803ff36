-- Where a segment goes, and what keeps it from there.
use Rattle.std.proofs.Common.{◌≡◌, ◌≢◌, inl, inr, ℕ, ◌-◌, ◌^◌, ◌<◌, ◌≤◌, List, length, Bool, true, false, not, Option, Some, None}
use Rattle.std.{proofs.{Common.{option_map, Ok, Err, refl, sym, ap, ◌∙◌, arith, if◌then◌else◌}, lemmas.Bool.{eq-eqb, ne_eqb}}, specs.List.{slice_get}}
use Rattle.std.proofs.{lemmas.List.{length-take-le}, Math.Nat.{min-le_left}}
use Rattle.zr_kinds.specs.{declared.fault.Fault.TheVariants.{Memory, TooManyFlows}, CopyingReceiver.{lead}, Limits.{most_flows}}
use Rattle.frame_headers.specs.FrameClass.{TcpSegment}
use Rattle.page_pool.specs.Frames.{Offered}
use Rattle.flow_table.specs.{Steered.{SteeredTcp, app_of, steer_to, first_byte}, CountedPart.{FlowClose, before_fin, counted_len, counted_part}}
use Rattle.flow_table.specs.{Flows.{Flow, number_of_flow, flows_with}, KnownFlows.{KnownFlows}, Placing.{steered_to, number_for, counted_at, counted_for, IsPlaced}}
use Rattle.flow_table.proofs.FlowLaws.{HaveApps, flows_with-apps}
use Rattle.card_feed.specs.{Ending.{flow_ending}, Offered.{flow_base, close_of, offered_one, has_payload, IsLong}, declared.intake.Route.{Route}, Intake.{Steers}}

-- ---- how many bytes count

before-most : (fin : Option ℕ) (first len : ℕ) → before_fin fin first len ≤ len
before-most None first len = omega arith
before-most (Some f) first len = min-le_left len (lead first 0 f - 2 ^ 31)

pub counted-most : (close : FlowClose) (segment : TcpSegment) → counted_len close segment ≤ length segment.payload
counted-most close segment = by close.reset
  where
    by : (reset : Bool) → (if reset then 0 else before_fin close.fin (first_byte segment) (length segment.payload)) ≤ length segment.payload
    by true = omega arith
    by false = before-most close.fin (first_byte segment) (length segment.payload)

counted-there : (found : Option Flow) (segment : TcpSegment) (len : ℕ) → option_map (λ (f : Flow). counted_len f.close segment) found ≡ Some len
    → counted_len (close_of found) segment ≡ len
counted-there None segment len is = absurd (cc)
counted-there (Some flow) segment len is = cc

part-length : (found : Option Flow) (segment : TcpSegment) (len : ℕ) → option_map (λ (f : Flow). counted_len f.close segment) found ≡ Some len
    → length (counted_part (close_of found) segment) ≡ len
part-length found segment len is =
    length-take-le (counted_len (close_of found) segment) segment.payload (counted-most (close_of found) segment)
    ∙ counted-there found segment len is

-- ---- where it goes

module _ (old : KnownFlows) (segment : TcpSegment) (number : ℕ) where
  abbrev pub next : Option SteeredTcp
  next = steer_to number segment (app_of old.ports segment.dport)

  not_last : (app : ℕ) → number_of_flow old.flows (steered_to app segment number) ≢ most_flows → flow_ending old.flows
      (Some (steered_to app segment number)) ≡ None
  not_last app few = let test = ne_eqb (number_of_flow old.flows (steered_to app segment number)) most_flows few in rw test refl

  number-is : (app : ℕ) → app_of old.ports segment.dport ≡ Some app
      → number_for old segment number ≡ Some (number_of_flow old.flows (steered_to app segment number))
  number-is app is = ap (option_map (λ a. number_of_flow old.flows (steered_to a segment number))) is

  some_app : (found : Option ℕ) → found ≢ None → (app : ℕ) × (found ≡ Some app)
  some_app None there = absurd (there refl)
  some_app (Some app) there = (app, refl)

  long-offered : (split : ℕ) (o : Offered) → split < length o.payload → IsLong split (if has_payload o then Some o else None)
  long-offered split o long =
      let some : has_payload o ≡ true = ap not (ne_eqb (length o.payload) 0 (λ none. absurd (omega (arith, none, long)))) in
      rw some long

  -- so many of its bytes count
  counted-many : (app len : ℕ) → app_of old.ports segment.dport ≡ Some app → counted_for old segment number ≡ Some len
      → length (offered_one old.flows (steered_to app segment number)).payload ≡ len
  counted-many app len is counts =
      part-length (slice_get (flows_with old.flows (steered_to app segment number)) (number_of_flow old.flows (steered_to app segment number)))
      segment len (rw is at counts)

  -- there is no room to note that it was refused
  pub no_room : (split len : ℕ) → app_of old.ports segment.dport ≢ None → number_for old segment number ≢ Some most_flows
      → counted_for old segment number ≡ Some len → split < len → Steers split old old next (Err Memory)
  no_room split len steered few counts long =
      let (app, is) = some_app (app_of old.ports segment.dport) steered in
      let many = counted-many app len is counts in
      rw is (
        not_last app (λ last. few (number-is app is ∙ ap Some last)),
        inr (long-offered split (offered_one old.flows (steered_to app segment number)) (omega (arith, many, long))),
        refl,
      )

  -- there is no memory for the flow that begins
  pub no_flow : (split : ℕ) (new : KnownFlows) → number_for old segment number ≡ Some (length old.flows) → number_for old segment number ≢ Some most_flows
      → new ≡ old → Steers split old new next (Err Memory)
  no_flow split new begins few same = by_app (app_of old.ports segment.dport) refl
    where
      by_app : (found : Option ℕ) → app_of old.ports segment.dport ≡ found → Steers split old new next (Err Memory)
      by_app None is = absurd (let none : number_for old segment number ≡ None = ap
          (option_map (λ a. number_of_flow old.flows (steered_to a segment number))) is in cc)
      by_app (Some app) is =
          let here : number_of_flow old.flows (steered_to app segment number) ≡ length old.flows = (let both = sym (number-is app is) ∙ begins in cc) in
          rw is (not_last app (λ last. few (number-is app is ∙ ap Some last)), inl here, same)

  pub too_many : (split : ℕ) (new : KnownFlows) → number_for old segment number ≡ Some most_flows → new ≡ old → Steers split old new next
      (Err TooManyFlows)
  too_many split new last same = by_app (app_of old.ports segment.dport) refl
    where
      by_app : (found : Option ℕ) → app_of old.ports segment.dport ≡ found → Steers split old new next (Err TooManyFlows)
      by_app None is = absurd (let none : number_for old segment number ≡ None = ap
          (option_map (λ a. number_of_flow old.flows (steered_to a segment number))) is in cc)
      by_app (Some app) is =
          let here : number_of_flow old.flows (steered_to app segment number) ≡ most_flows = (let both = sym (number-is app is) ∙ last in cc) in
          let test = eq-eqb (number_of_flow old.flows (steered_to app segment number)) most_flows here in
          rw (is, test) (refl, same)

  pub known_is : (k : KnownFlows) (ports : List ℕ) (flows : List Flow) → k.ports ≡ ports → k.flows ≡ flows
      → k ≡ record { ports = ports; flows = flows }
  known_is k ports flows same_ports same_flows = rw (sym same_ports, sym same_flows) refl

  base_there : (found : Option Flow) (base : ℕ) → option_map (λ (f : Flow). f.base) found ≡ Some base → flow_base found ≡ base
  base_there None base is = absurd (cc)
  base_there (Some flow) base is = cc

  -- the segment goes to its flow
  pub goes : (split : ℕ) (new : KnownFlows) (r : Route) → IsPlaced old new segment r.flow r.app r.base r.seq r.len r.fin → new.ports ≡ old.ports
      → number_for old segment number ≢ Some most_flows → r.frame ≡ number
      → Steers split old new next (Ok (Some r))
  goes split new r placed ports few frame =
      let s : SteeredTcp = steered_to r.app segment number in
      let flows : new.flows ≡ flows_with old.flows s = placed.flows_are number in
      let flow : r.flow ≡ number_of_flow old.flows s = placed.flow_is number in
      let base : flow_base (slice_get (flows_with old.flows s) (number_of_flow old.flows s)) ≡ r.base =
      base_there _ r.base (rw (flows, flow) at placed.base_is) in
      let found : Option Flow = slice_get (flows_with old.flows s) (number_of_flow old.flows s) in
      let counts : counted_at (flows_with old.flows s) (number_of_flow old.flows s) segment ≡ Some r.len = rw (flows, flow) at placed.len_is in
      let many : counted_len (close_of found) segment ≡ r.len = counted-there found segment r.len counts in
      rw placed.app_is (
        not_last r.app (λ last. few (number-is r.app placed.app_is ∙ ap Some last)),
        record {
          offered_is = rw (base, many, sym flow, frame, placed.seq_is, placed.fin_is) refl;
          len = sym (part-length found segment r.len counts);
          known = known_is new old.ports (flows_with old.flows s) ports flows;
        },
      )

  -- and so many of its bytes would have counted
  pub counts-placed : (new : KnownFlows) (flow app base seq len : ℕ) (fin : Bool) → IsPlaced old new segment flow app base seq len fin
      → counted_for old segment number ≡ Some len
  counts-placed new flow app base seq len fin placed =
      rw placed.app_is (rw (placed.flows_are number, placed.flow_is number) at placed.len_is)

  pub apps_stay : (new : KnownFlows) (flow app base seq len : ℕ) (fin : Bool) → IsPlaced old new segment flow app base seq len fin
      → new.ports ≡ old.ports → HaveApps old.ports old.flows → HaveApps new.ports new.flows
  apps_stay new flow app base seq len fin placed ports have =
      rw (ports, placed.flows_are number) (flows_with-apps old.ports old.flows (steered_to app segment number) placed.app_is have)
