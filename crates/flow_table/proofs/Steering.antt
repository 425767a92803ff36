-- What a table of flows says of a segment, whichever record it comes in.
use Rattle.std.proofs.Common.{◌≡◌, ℕ, ◌≢◌, ◌+◌, ◌↔◌, List, length, Some, Bool, sym, ap, subst, ◌∙◌, option_map, Option, refl, if◌then◌else◌, ◌==◌, Result, Ok, Err}
use Rattle.std.specs.List.{slice_get}
use Rattle.frame_headers.specs.FrameClass.{TcpSegment}
use Rattle.flow_table.specs.{Steered.{app_of, has_fin, first_byte}, CountedPart.{counted_len}}
use Rattle.flow_table.specs.{Flows.{Flow, key_of, newest, number_among, number_of_flow, with_segment, flows_with}, KnownFlows.{KnownFlows}}
use Rattle.flow_table.specs.Placing.{steered_to, number_for, counted_at, counted_for, IsPlaced}
use Rattle.zr_kinds.specs.Limits.{most_flows}

module _ (known : KnownFlows) (ports : List ℕ) (flows : List Flow) (segment : TcpSegment) (app : ℕ)
    (view : record { ports = ports; flows = flows } ≡ known) (place : Some app ≡ app_of ports segment.dport) where
  number_for-is : (record_number : ℕ)
      → number_for (record { ports = ports; flows = flows }) segment record_number ≡ Some
      (number_among (length flows) segment (newest (key_of segment) flows))
  unfolding number_of_flow
  number_for-is record_number = ap (option_map (λ app. number_of_flow flows (steered_to app segment record_number))) (sym place)

  pub too_many-for : (Told : Type 0) → (Told ↔ (number_among (length flows) segment (newest (key_of segment) flows) ≡ most_flows)) → (record_number : ℕ)
      → Told ↔ (number_for known segment record_number ≡ Some most_flows)
  too_many-for Told too_many record_number =
      subst (λ (k : KnownFlows). Told ↔ (number_for k segment record_number ≡ Some most_flows)) view (
        (λ told. number_for-is record_number ∙ ap Some (too_many.0 told)),
        (λ number. let same : Some (number_among (length flows) segment (newest (key_of segment) flows)) ≡ Some most_flows = sym (number_for-is record_number)
            ∙ number in too_many.1 cc),
      )

  -- a flow begins with the segment
  pub begins-for : number_among (length flows) segment (newest (key_of segment) flows) ≡ length flows → (record_number : ℕ)
      → number_for known segment record_number ≡ Some (length known.flows)
  begins-for next record_number =
      subst (λ (k : KnownFlows). number_for k segment record_number ≡ Some (length k.flows)) view (number_for-is record_number ∙ ap Some next)

  pub begins-among : (record_number : ℕ) → number_for known segment record_number ≡ Some (length known.flows)
      → number_among (length flows) segment (newest (key_of segment) flows) ≡ length flows
  begins-among record_number begins =
      let here : number_for (record { ports = ports; flows = flows }) segment record_number ≡ Some (length flows) =
      subst (λ (k : KnownFlows). number_for k segment record_number ≡ Some (length k.flows)) (sym view) begins in
      let same : Some (number_among (length flows) segment (newest (key_of segment) flows)) ≡ Some (length flows) = sym (number_for-is record_number)
      ∙ here in
      cc

  pub few-for : length flows ≢ most_flows → length known.flows ≢ most_flows
  few-for few = subst (λ (k : KnownFlows). length k.flows ≢ most_flows) view few

  pub few-among : length known.flows ≢ most_flows → length flows ≢ most_flows
  few-among few = subst (λ (k : KnownFlows). length k.flows ≢ most_flows) (sym view) few

  placed_in : (after : List Flow) (number base seq len : ℕ) (fin : Bool) (flow : Flow)
      → number ≡ number_among (length flows) segment (newest (key_of segment) flows)
      → ((k : ℕ) → after ≡ with_segment flows number (steered_to app segment k))
      → length after ≡ length flows + (if number == length flows then 1 else 0)
      → slice_get after number ≡ Some flow → flow.base ≡ base → seq ≡ first_byte segment → len ≡ counted_len flow.close segment
      → fin ≡ has_fin segment
      → IsPlaced (record { ports = ports; flows = flows }) (record { ports = ports; flows = after }) segment number app base seq len fin
  unfolding number_of_flow flows_with
  placed_in after number base seq len fin flow number_is after_is count at base_is seq_is len_is fin_is = record {
    app_is = sym place;
    flow_is = λ record_number. number_is;
    flows_are = λ record_number. after_is record_number ∙ ap (λ n. with_segment flows n (steered_to app segment record_number)) number_is;
    base_is = ap (option_map (λ (f : Flow). f.base)) at ∙ ap Some base_is;
    seq_is = seq_is;
    len_is = ap (option_map (λ (f : Flow). counted_len f.close segment)) at ∙ ap Some (sym len_is);
    fin_is = fin_is;
    count_is = count;
  }

  pub is_placed : (after : List Flow) (number base seq len : ℕ) (fin : Bool) (flow : Flow)
      → number ≡ number_among (length flows) segment (newest (key_of segment) flows)
      → ((k : ℕ) → after ≡ with_segment flows number (steered_to app segment k))
      → length after ≡ length flows + (if number == length flows then 1 else 0)
      → slice_get after number ≡ Some flow → flow.base ≡ base → seq ≡ first_byte segment → len ≡ counted_len flow.close segment
      → fin ≡ has_fin segment
      → IsPlaced known (record { ports = ports; flows = after }) segment number app base seq len fin
  is_placed after number base seq len fin flow number_is after_is count at base_is seq_is len_is fin_is =
      subst (λ (k : KnownFlows). IsPlaced k (record { ports = ports; flows = after }) segment number app base seq len fin) view
      (placed_in after number base seq len fin flow number_is after_is count at base_is seq_is len_is fin_is)

  -- what would count of the segment
  pub counted-for : (len : ℕ)
      → ((k number : ℕ) → number ≡ number_among (length flows) segment (newest (key_of segment) flows)
      → counted_at (with_segment flows number (steered_to app segment k)) number segment ≡ Some len)
      → (record_number : ℕ) → counted_for known segment record_number ≡ Some len
  unfolding number_of_flow flows_with
  counted-for len counted record_number =
      subst (λ (k : KnownFlows). counted_for k segment record_number ≡ Some len) view
      (let here : Option ℕ = counted_at (flows_with flows (steered_to app segment record_number))
      (number_of_flow flows (steered_to app segment record_number)) segment in
      rw (sym place) (counted record_number _ refl))

-- ---- an answer that is turned round

-- ---- a fault that is handed on

-- what a fault was told by holds where it is handed on
pub told_by : {S T F : Type 0} {N : Type 0} (r : Result T F) (fault told wanted : F) → r ≡ Err fault → fault ≡ told
    → (◌≡◌ {A = Result S F} (Err told) (Err wanted) → N) → r ≡ Err wanted → N
told_by {S} {T} {F} {N} r fault told wanted is same leads by = let there : told ≡ wanted = cc in leads (ap Err there)

pub handed_on : {S T F N : Type 0} (r : Result T F) (fault told wanted : F) → r ≡ Err fault → fault ≡ told
    → (◌≡◌ {A = Result S F} (Err told) (Err wanted) ↔ N) → (r ≡ Err wanted) ↔ N
handed_on {S} {T} {F} {N} r fault told wanted is same both = (
  (λ e. let there : told ≡ wanted = cc in both.0 (ap Err there)),
  (λ n. let there : ◌≡◌ {A = Result S F} (Err told) (Err wanted) = both.1 n in cc),
)

pub no_fault : {S T F N : Type 0} (x : S) (y : T) (wanted : F) → (◌≡◌ {A = Result S F} (Ok x) (Err wanted) ↔ N)
    → ◌≡◌ {A = Result T F} (Ok y) (Err wanted) ↔ N
no_fault {S} {T} {F} {N} x y wanted both = (
  (λ e. cc),
  (λ n. let there : ◌≡◌ {A = Result S F} (Ok x) (Err wanted) = both.1 n in cc),
)
