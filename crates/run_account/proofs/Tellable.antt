-- What is told of a run, as plain lists; each run has it.
use Rattle.std.{proofs.Common.{◌≡◌, ℕ, zero, suc, ◌+◌, List, [], ◌∷◌, length, Option, Some, None, refl, ap, ◌∙◌, arith}, specs.List.{slice_get}}
use Rattle.flow_table.specs.Flows.{Flow}
use Rattle.zr_kinds.specs.declared.outcome.FlowLine.{FlowLine}
use Rattle.flow_queues.specs.Ends.{AppEnd, bytes_written_of}
use Rattle.card_feed.specs.{Feed.{FeedState, fault_of_stage}, Outcomes.{AreLinesOf, HavePorts, line_of_flow as flow_line_of}}
use Rattle.run_account.{specs.Ran.{app_lines_of, AreCounts, Told}, proofs.AppLines.{one-value}}

-- this is told of what the card keeps and the applications left with
pub record OutcomeTells (feed : FeedState) (ends : List AppEnd) (ports : List ℕ) (told : Told) : Type 0 where
  pub counts : List ℕ
  pub are : AreCounts feed.flows ends counts
  pub tally : told.tally ≡ feed.tally
  pub apps_are : told.apps ≡ app_lines_of ports ends
  pub flows : HavePorts feed.ports (app_lines_of ports ends) → AreLinesOf feed.flows counts told.flows
  pub refused : told.refused ≡ feed.refused
  pub pool : told.pool ≡ feed.pool.stats
  pub end : told.end ≡ fault_of_stage feed.stage

bytes_by : ℕ → Option AppEnd → ℕ
bytes_by number None = 0
bytes_by number (Some end) = bytes_written_of number end.flows

counts_from : ℕ → List AppEnd → List Flow → List ℕ
counts_from number ends [] = []
counts_from number ends (flow ∷ flows) = bytes_by number (slice_get ends flow.app) ∷ counts_from (suc number) ends flows

lines_with : List Flow → List ℕ → List FlowLine
lines_with [] counts = []
lines_with (flow ∷ flows) [] = flow_line_of flow 0 ∷ lines_with flows []
lines_with (flow ∷ flows) (count ∷ counts) = flow_line_of flow count ∷ lines_with flows counts

many-counts : (number : ℕ) (ends : List AppEnd) (flows : List Flow) → length (counts_from number ends flows) ≡ length flows
unfolding counts_from
many-counts number ends [] = refl
many-counts number ends (flow ∷ flows) = ap suc (many-counts (suc number) ends flows)

count-at : (first : ℕ) (ends : List AppEnd) (flows : List Flow) (i : ℕ) (flow : Flow) (end : AppEnd) → slice_get flows i ≡ Some flow
    → slice_get ends flow.app ≡ Some end → slice_get (counts_from first ends flows) i ≡ Some (bytes_written_of (first + i) end.flows)
unfolding counts_from bytes_by
count-at first ends [] i flow end at end_at = absurd (cc)
count-at first ends (f ∷ flows) zero flow end at end_at =
    let same : f ≡ flow = one-value at in
    let place : first ≡ first + 0 = omega arith in
    ap (λ (g : Flow). Some (bytes_by first (slice_get ends g.app))) same ∙ ap (λ found. Some (bytes_by first found)) end_at
    ∙ ap (λ n. Some (bytes_written_of n end.flows)) place
count-at first ends (f ∷ flows) (suc i) flow end at end_at =
    let place : suc first + i ≡ first + suc i = omega arith in
    count-at (suc first) ends flows i flow end at end_at ∙ ap (λ n. Some (bytes_written_of n end.flows)) place

many-lines-with : (flows : List Flow) (counts : List ℕ) → length (lines_with flows counts) ≡ length flows
unfolding lines_with
many-lines-with [] counts = refl
many-lines-with (flow ∷ flows) [] = ap suc (many-lines-with flows [])
many-lines-with (flow ∷ flows) (count ∷ counts) = ap suc (many-lines-with flows counts)

line-with : (flows : List Flow) (counts : List ℕ) (i : ℕ) (flow : Flow) (count : ℕ) → slice_get flows i ≡ Some flow
    → slice_get counts i ≡ Some count → slice_get (lines_with flows counts) i ≡ Some (flow_line_of flow count)
unfolding lines_with
line-with [] counts i flow count at count_at = absurd (cc)
line-with (f ∷ flows) [] i flow count at count_at = absurd (cc)
line-with (f ∷ flows) (k ∷ counts) zero flow count at count_at =
    ap (λ (g : Flow). Some (flow_line_of g k)) (one-value at) ∙ ap (λ n. Some (flow_line_of flow n)) (one-value count_at)
line-with (f ∷ flows) (k ∷ counts) (suc i) flow count at count_at = line-with flows counts i flow count at count_at

pub all-told : FeedState → List AppEnd → List ℕ → Told
all-told feed ends ports = record {
  tally = feed.tally;
  apps = app_lines_of ports ends;
  flows = lines_with feed.flows (counts_from 0 ends feed.flows);
  refused = feed.refused;
  pool = feed.pool.stats;
  end = fault_of_stage feed.stage;
}

pub all-tells : (feed : FeedState) (ends : List AppEnd) (ports : List ℕ) → OutcomeTells feed ends ports (all-told feed ends ports)
unfolding all-told
all-tells feed ends ports = record {
  counts = counts_from 0 ends feed.flows;
  are = record {
    many = many-counts 0 ends feed.flows;
    each = λ number flow end at end_at. (
        let place : 0 + number ≡ number = omega arith in
        count-at 0 ends feed.flows number flow end at end_at ∙ ap (λ n. Some (bytes_written_of n end.flows)) place);
  };
  tally = refl;
  apps_are = refl;
  flows = λ have. record {
    many = many-lines-with feed.flows (counts_from 0 ends feed.flows);
    each = λ number flow count at count_at. line-with feed.flows (counts_from 0 ends feed.flows) number flow count at count_at;
  };
  refused = refl;
  pool = refl;
  end = refl;
}
