-- One more frame is counted, its flow sees it, and it is at hand where it is offered.
use Rattle.std.proofs.Common.{◌≡◌, ◌≢◌, ℕ, suc, ◌+◌, ◌<◌, List, [], ◌∷◌, ◌++◌, length, take, nat_lt, Bool, true, false, not, Option}
use Rattle.std.proofs.Common.{Some, None, is_some, option_to_list, Ok, Err, refl, sym, ap, subst, ◌∙◌, append-nil, arith, ◌==◌, if◌then◌else◌}
use Rattle.std.proofs.lemmas.Bool.{ne_eqb, lt-ltb}
use Rattle.zr_kinds.specs.{Limits.{most_records}, declared.fault.Fault.{Fault}}
use Rattle.zr_kinds.specs.declared.fault.Fault.TheVariants.{Memory, Usage, NotPcap, Version, LinkType, Cut, LongRecord, Read, Write, TooManyFlows}
use Rattle.zr_kinds.specs.declared.{fault.Fault.TheVariants.{TooManyFrames, BadBlock, BadRun}, outcome.Tally.{Tally}}
use Rattle.frame_headers.specs.{FrameClass.{TcpSegment, class_of}, Seen.{class_seen, segment_seen, segment_of}, declared.segment.Seen.{Seen}}
use Rattle.flow_table.{specs.{Steered.{SteeredTcp, app_of, steer, steer_to}, Flows.{flows_of}, KnownFlows.{KnownFlows}}, proofs.FlowLaws.{flows_of-push}}
use Rattle.card_feed.specs.{Ending.{steered_in, steered_next, flow_ending, ending_at}, FramesRead.{EndsAt}, Tally.{tally_of, counted}}
use Rattle.card_feed.proofs.{Framing.{steered-more, ending-flow, ending-limit, seen-segment}, Tallies.{tally-more}}
use Rattle.page_pool.specs.Frames.{Offered}
use Rattle.card_feed.specs.{Offered.{offered_one, offer_one, offer_next, has_payload, payload_in, WantsRoom}, declared.intake.{Route.{Route}, Intake.{Intake}}}
use Rattle.card_feed.specs.{Hand.{offered_by, at_hand, with_payload}, Intake.{RoutesTo, Steers, Knows}}

-- ---- the segment of a frame

segment-steered : (ports : List ℕ) (number : ℕ) (segment : Option TcpSegment) (s : SteeredTcp) → steer ports number segment ≡ Some s
    → segment ≡ Some s.segment
segment-steered ports number None s is = absurd (cc)
segment-steered ports number (Some segment) s is = by_app (app_of ports segment.dport) is
  where
    by_app : (app : Option ℕ) → steer_to number segment app ≡ Some s → Some segment ≡ Some s.segment
    by_app None is = absurd (cc)
    by_app (Some app) is = ap (λ (t : SteeredTcp). Some t.segment) (same is)
      where
        same : {a b : SteeredTcp} → Some a ≡ Some b → a ≡ b
        same e = cc

module _ (split : ℕ) (ports : List ℕ) (frames : List (List ℕ)) (frame : List ℕ) (old : Intake) (knows : Knows ports frames old) where
  -- what was seen is steered as the definition says
  pub next-is : (found : Seen) → class_seen found ≡ class_of frame
      → steer old.table.ports (old.counting.tally.records + 1) (segment_seen found) ≡ steered_next ports frames frame
  next-is found class =
      let number : old.counting.tally.records + 1 ≡ suc (length frames) =
      (let records = ap (λ (t : Tally). t.records) knows.tally in omega (arith, records)) in
      ap (λ n. steer old.table.ports n (segment_seen found)) number
      ∙ ap (λ (k : KnownFlows). steer k.ports (suc (length frames)) (segment_seen found)) knows.known
      ∙ ap (steer ports (suc (length frames))) (seen-segment found ∙ ap segment_of class)

  pub below-limit : old.counting.tally.records ≢ most_records → length frames ≢ most_records
  below-limit few limit = few (ap (λ (t : Tally). t.records) knows.tally ∙ limit)

  -- ---- it was taken

  is_found : (known new : KnownFlows) (next : Option SteeredTcp) (found : Option Route) → RoutesTo known new next found → is_some found ≡ is_some next
  is_found known new None None routes = refl
  is_found known new (Some s) (Some r) routes = refl
  is_found known new None (Some r) routes = absurd routes
  is_found known new (Some s) None routes = absurd routes

  abbrev known_at : List SteeredTcp → KnownFlows
  known_at steered = record { ports = ports; flows = flows_of steered }

  known-more : (new : KnownFlows) (next : Option SteeredTcp) (found : Option Route) → RoutesTo (known_at (steered_in ports frames)) new next found
      → new ≡ known_at (steered_in ports frames ++ option_to_list next)
  known-more new None None routes = routes ∙ ap known_at (sym (append-nil (steered_in ports frames)))
  known-more new (Some s) (Some r) routes = routes.known ∙ ap (λ flows. record { ports = ports; flows = flows })
      (sym (flows_of-push (steered_in ports frames) s))
  known-more new None (Some r) routes = absurd routes
  known-more new (Some s) None routes = absurd routes

  some-payload : (payload : List ℕ) → not (length payload == 0) ≡ nat_lt 0 (length payload)
  some-payload [] = refl
  some-payload (b ∷ bs) =
      let there : 0 < length (b ∷ bs) = omega arith in
      let some : (length (b ∷ bs) == 0) ≡ false = ne_eqb (length (b ∷ bs)) 0 (λ e. omega (arith, e, there)) in
      rw (some, lt-ltb 0 (length (b ∷ bs)) there) refl

  hand-is : (new : KnownFlows) (next : Option SteeredTcp) (found : Option Route) → ((s : SteeredTcp) → next ≡ Some s → payload_in frame ≡ s.segment.payload)
      → RoutesTo (known_at (steered_in ports frames)) new next found
      → at_hand (with_payload found) frame ≡ offer_one (flows_of (steered_in ports frames)) next
  hand-is new None None payload routes = refl
  hand-is new (Some s) (Some r) payload routes =
      let o : Offered = offered_one (flows_of (steered_in ports frames)) s in
      let offered : offered_by r (take r.len (payload_in frame)) ≡ o = ap (λ bytes. offered_by r (take r.len bytes)) (payload s refl) ∙ routes.offered_is in
      let test : nat_lt 0 r.len ≡ has_payload o = ap (nat_lt 0) routes.len ∙ sym (some-payload o.payload) in
      by_test (nat_lt 0 r.len) (has_payload o) test offered
    where
      by_test : (a b : Bool) → a ≡ b → offered_by r (take r.len (payload_in frame)) ≡ offered_one (flows_of (steered_in ports frames)) s
          → at_hand (if a then Some r else None) frame ≡ (if b then Some (offered_one (flows_of (steered_in ports frames)) s) else None)
      by_test true b same offered = rw (sym same) (ap Some offered)
      by_test false b same offered = rw (sym same) refl
  hand-is new None (Some r) payload routes = absurd routes
  hand-is new (Some s) None payload routes = absurd routes

  pub frame-taken : (seen : Seen) → class_seen seen ≡ class_of frame → old.counting.tally.records ≢ most_records → (found : Option Route)
      (tally : Tally) (new : KnownFlows)
      → Steers split old.table new (steer old.table.ports (old.counting.tally.records + 1) (segment_seen seen)) (Ok found)
      → tally ≡ counted old.counting.tally (class_seen seen) (is_some found)
      → (ending_at ports frames frame ≡ None)
      × ((tally ≡ tally_of ports (frames ++ frame ∷ [])) × (new ≡ record {
        ports = ports;
        flows = flows_of
            (steered_in ports (frames ++ frame ∷ []));
      }))
      × (at_hand (with_payload found) frame ≡ offer_next ports frames frame)
  frame-taken seen class few found tally new steers counts =
      let next : Option SteeredTcp = steered_next ports frames frame in
      let is = next-is seen class in
      let here : Steers split (known_at (steered_in ports frames)) new next (Ok found) =
      subst (λ (k : KnownFlows). Steers split k new next (Ok found)) knows.known
      (subst (λ (n : Option SteeredTcp). Steers split old.table new n (Ok found)) is steers) in
      let more = steered-more ports frames frame in (
        ending-flow ports frames frame (below-limit few) ∙ here.0,
        (
          counts ∙ ap (λ c. counted old.counting.tally c (is_some found)) class
              ∙ tally-more ports frames frame old.counting.tally (is_some found) knows.tally
              (is_found (known_at (steered_in ports frames)) new next found here.1) more,
          known-more new next found here.1 ∙ ap known_at (sym more),
        ),
        hand-is new next found (λ s there. ap payload_at (segment-steered ports (suc (length frames)) (segment_of (class_of frame)) s there)) here.1,
      )
    where
      payload_at : Option TcpSegment → List ℕ
      payload_at None = []
      payload_at (Some segment) = segment.payload

  -- ---- it ends the reading

  pub frame-ends : (seen : Seen) → class_seen seen ≡ class_of frame → old.counting.tally.records ≢ most_records → (fault : Fault) (new : KnownFlows)
      → Steers split old.table new (steer old.table.ports (old.counting.tally.records + 1) (segment_seen seen)) (Err fault)
      → EndsAt (WantsRoom split ports) ports frames frame fault × (new ≡ record { ports = ports; flows = flows_of (steered_in ports frames) })
  frame-ends seen class few fault new steers =
      by_fault fault (subst (λ (k : KnownFlows). Steers split k new (steered_next ports frames frame) (Err fault)) knows.known
      (subst (λ (n : Option SteeredTcp). Steers split old.table new n (Err fault)) (next-is seen class) steers))
    where
      ends : (end : Option Fault) → flow_ending (flows_of (steered_in ports frames)) (steered_next ports frames frame) ≡ end
          → ending_at ports frames frame ≡ end
      ends end is = ending-flow ports frames frame (below-limit few) ∙ is

      by_fault : (fault : Fault) → Steers split (known_at (steered_in ports frames)) new (steered_next ports frames frame) (Err fault)
          → EndsAt (WantsRoom split ports) ports frames frame fault × (new ≡ known_at (steered_in ports frames))
      by_fault Memory (goes, wants, same) = ((ends None goes, wants), same)
      by_fault Usage (is, same) = (ends (Some Usage) is, same)
      by_fault NotPcap (is, same) = (ends (Some NotPcap) is, same)
      by_fault Version (is, same) = (ends (Some Version) is, same)
      by_fault LinkType (is, same) = (ends (Some LinkType) is, same)
      by_fault Cut (is, same) = (ends (Some Cut) is, same)
      by_fault LongRecord (is, same) = (ends (Some LongRecord) is, same)
      by_fault Read (is, same) = (ends (Some Read) is, same)
      by_fault Write (is, same) = (ends (Some Write) is, same)
      by_fault TooManyFlows (is, same) = (ends (Some TooManyFlows) is, same)
      by_fault TooManyFrames (is, same) = (ends (Some TooManyFrames) is, same)
      by_fault BadBlock (is, same) = (ends (Some BadBlock) is, same)
      by_fault BadRun (is, same) = (ends (Some BadRun) is, same)

  pub frame-limit : old.counting.tally.records ≡ most_records → ending_at ports frames frame ≡ Some TooManyFrames
  frame-limit limit = ending-limit ports frames frame (sym (ap (λ (t : Tally). t.records) knows.tally) ∙ limit)
