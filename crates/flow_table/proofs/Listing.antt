-- What a list of flows says of its newest flows, and what becomes of that when a flow of it sees a segment or one more
-- begins.
use Rattle.std.proofs.Common.{◌≡◌, ℕ, zero, suc, ◌+◌, ◌<◌, ◌≤◌, List, [], ◌∷◌, ◌++◌, length, Option, Some, None, Bool, true}
use Rattle.std.proofs.{Common.{false, refl, sym, ap, ◌∙◌, arith, if◌then◌else◌, option_map, ◌==◌, Result, Ok, Err, IfOk, OnOk}, lemmas.Bool.Decides.{nat_tests}}
use Rattle.std.{specs.List.{slice_get}, proofs.lemmas.Option.{slice_get_within}}
use Rattle.frame_headers.specs.FrameClass.{TcpSegment}
use Rattle.flow_table.specs.Steered.{SteeredTcp}
use Rattle.flow_table.specs.Flows.{Flow, FlowKey, Numbered, same_key, key_of, later_or, newest_from, newest, begins_anew, number_among, new_flow, seen_by, with_segment}

abbrev number_in : Option Numbered → Option ℕ
number_in found = option_map (λ (f : Numbered). f.number) found

-- ---- a newest flow stands at its number

pub record StandsAt (flows : List Flow) (first : ℕ) (found : Numbered) : Type 0 where
  pub place : ℕ
  pub number_is : found.number ≡ first + place
  pub flow_is : slice_get flows place ≡ Some found.flow

first_stands : (b : Bool) (first : ℕ) (flow : Flow) (flows : List Flow) (found : Numbered)
    → (if b then Some (record { number = first; flow = flow }) else None) ≡ Some found → StandsAt (flow ∷ flows) first found
first_stands true first flow flows found is =
    let same : record { number = first; flow = flow } ≡ found = cc in
    record { place = 0; number_is = sym (ap (λ (n : Numbered). n.number) same) ∙ omega arith; flow_is = ap (λ (n : Numbered). Some n.flow) same }
first_stands false first flow flows found is = cc

later_stands : (first : ℕ) (key : FlowKey) (flow : Flow) (flows : List Flow) (later : Option Numbered) (found : Numbered)
    → ((l : Numbered) → later ≡ Some l → StandsAt flows (suc first) l)
    → later_or later (if same_key flow.key key then Some (record { number = first; flow = flow }) else None) ≡ Some found
    → StandsAt (flow ∷ flows) first found
later_stands first key flow flows None found among is = first_stands (same_key flow.key key) first flow flows found is
later_stands first key flow flows (Some later) found among is =
    let stands : StandsAt flows (suc first) found = among found is in
    record { place = suc stands.place; number_is = stands.number_is ∙ omega arith; flow_is = stands.flow_is }

newest_from-stands : (first : ℕ) (key : FlowKey) (flows : List Flow) (found : Numbered) → newest_from first key flows ≡ Some found
    → StandsAt flows first found
newest_from-stands first key [] found is = cc
newest_from-stands first key (flow ∷ flows) found is =
    later_stands first key flow flows (newest_from (suc first) key flows) found (λ l. newest_from-stands (suc first) key flows l) is

pub newest-stands : (key : FlowKey) (flows : List Flow) (found : Numbered) → newest key flows ≡ Some found
    → slice_get flows found.number ≡ Some found.flow
newest-stands key flows found is =
    let stands : StandsAt flows 0 found = newest_from-stands 0 key flows found is in
    ap (slice_get flows) (stands.number_is ∙ omega arith) ∙ stands.flow_is

-- the newest flow, by its number
pub newest-numbered : (key : FlowKey) (flows : List Flow) (number : ℕ) → Some number ≡ number_in (newest key flows) → (flow : Flow)
    × (newest key flows ≡ Some (record { number = number; flow = flow })) × (slice_get flows number ≡ Some flow)
newest-numbered key flows number is = by (newest key flows) refl is
  where
    by : (found : Option Numbered) → newest key flows ≡ found → Some number ≡ number_in found → (flow : Flow)
        × (newest key flows ≡ Some (record { number = number; flow = flow })) × (slice_get flows number ≡ Some flow)
    by None e is = cc
    by (Some found) e is =
        let same : found.number ≡ number = cc in
        (found.flow, e ∙ ap (λ n. Some (record { number = n; flow = found.flow })) same, ap (slice_get flows) (sym same) ∙ newest-stands key flows found e)

chosen-within : (b : Bool) (last n : ℕ) → n ≤ last → (if b then last else n) ≤ last
chosen-within true last n within = omega arith
chosen-within false last n within = within

pub number_among-within : (flows : List Flow) (segment : TcpSegment) → number_among (length flows) segment (newest (key_of segment) flows) ≤ length flows
number_among-within flows segment = by (newest (key_of segment) flows) refl
  where
    by : (found : Option Numbered) → newest (key_of segment) flows ≡ found → number_among (length flows) segment found ≤ length flows
    by None e = omega arith
    by (Some found) e = chosen-within (begins_anew found.flow segment) (length flows) found.number
        (omega (arith, slice_get_within flows found.number found.flow (newest-stands (key_of segment) flows found e)))

pub number_among-newest : (flows : List Flow) (segment : TcpSegment) (number : ℕ) (flow : Flow) → Some number ≡ number_in (newest (key_of segment) flows)
    → slice_get flows number ≡ Some flow
    → number_among (length flows) segment (newest (key_of segment) flows) ≡ (if begins_anew flow segment then length flows else number)
number_among-newest flows segment number flow is at =
    let found = newest-numbered (key_of segment) flows number is in
    let same : found.0 ≡ flow = cc (found.2, at) in
    ap (number_among (length flows) segment) found.1 ∙ ap (λ f. if begins_anew f segment then length flows else number) same

-- ---- a flow that sees a segment keeps its key

later_or-number : (later seen earlier also : Option Numbered) → number_in later ≡ number_in seen → number_in earlier ≡ number_in also
    → number_in (later_or later earlier) ≡ number_in (later_or seen also)
later_or-number None None earlier also same before = before
later_or-number (Some l) (Some s) earlier also same before = same
later_or-number None (Some s) earlier also same before = cc
later_or-number (Some l) None earlier also same before = cc

same_number : (b : Bool) (n : ℕ) (flow seen : Flow)
    → number_in (if b then Some (record { number = n; flow = flow }) else None) ≡ number_in (if b then Some (record { number = n; flow = seen }) else None)
same_number true n flow seen = refl
same_number false n flow seen = refl

newest_from-seen : (first : ℕ) (key : FlowKey) (flows : List Flow) (n : ℕ) (steered : SteeredTcp) → n < length flows
    → number_in (newest_from first key (with_segment flows n steered)) ≡ number_in (newest_from first key flows)
newest_from-seen first key [] n steered below = absurd (omega arith)
newest_from-seen first key (flow ∷ flows) zero steered below =
    later_or-number (newest_from (suc first) key flows) (newest_from (suc first) key flows) _ _ refl
    (same_number (same_key flow.key key) first (seen_by flow steered.segment) flow)
newest_from-seen first key (flow ∷ flows) (suc n) steered below =
    later_or-number (newest_from (suc first) key (with_segment flows n steered)) (newest_from (suc first) key flows) _ _
    (newest_from-seen (suc first) key flows n steered (omega arith)) refl

pub newest-seen : (key : FlowKey) (flows : List Flow) (n : ℕ) (steered : SteeredTcp) → n < length flows
    → number_in (newest key (with_segment flows n steered)) ≡ number_in (newest key flows)
newest-seen key flows n steered below = newest_from-seen 0 key flows n steered below

-- ---- the list itself

pub with_segment-last : (flows : List Flow) (n : ℕ) (steered : SteeredTcp) → n ≡ length flows
    → with_segment flows n steered ≡ flows ++ new_flow steered ∷ []
with_segment-last [] n steered past = refl
with_segment-last (flow ∷ flows) zero steered past = absurd (omega arith)
with_segment-last (flow ∷ flows) (suc n) steered past = ap (λ fs. flow ∷ fs) (with_segment-last flows n steered (omega arith))

pub length-with_segment-seen : (flows : List Flow) (n : ℕ) (steered : SteeredTcp) → n < length flows → length (with_segment flows n steered) ≡ length flows
length-with_segment-seen [] n steered below = absurd (omega arith)
length-with_segment-seen (flow ∷ flows) zero steered below = refl
length-with_segment-seen (flow ∷ flows) (suc n) steered below = ap suc (length-with_segment-seen flows n steered (omega arith))

pub with_segment-seen : (flows : List Flow) (n : ℕ) (steered : SteeredTcp) → n < length flows → (n < length (with_segment flows n steered))
    × (length (with_segment flows n steered) ≡ length flows + (if n == length flows then 1 else 0))
with_segment-seen flows n steered below =
    let same : length (with_segment flows n steered) ≡ length flows = length-with_segment-seen flows n steered below in
    (omega (arith, same), same ∙ grind (arith, nat_tests))

-- a flow that begins is the last
pub begun-with_segment : {E : Type 0} (r : Result ℕ E) (old new : List Flow) (begun : Flow) (steered : ℕ → SteeredTcp) → IfOk r (λ n. n ≡ length old)
    → OnOk r (new ≡ old ++ begun ∷ []) → ((k : ℕ) → begun ≡ new_flow (steered k))
    → IfOk r (λ n. (k : ℕ) → new ≡ with_segment old n (steered k))
begun-with_segment (Ok n) old new begun steered last pushed is = λ k. pushed ∙ ap (λ f. old ++ f ∷ []) (is k)
    ∙ sym (with_segment-last old n (steered k) last)
begun-with_segment (Err e) old new begun steered last pushed is = tt
