-- Lines and counts, one after another.
use Rattle.std.proofs.Common.{◌≡◌, ℕ, zero, suc, ◌+◌, ◌<◌, ◌≤◌, List, [], ◌∷◌, ◌++◌, length, map, take, Option, Some, None, option_map}
use Rattle.std.{proofs.{Common.{sym, ap, ◌∙◌, length-append, arith, ⊎_elim}, lemmas.Bool.{cases_lt}}, specs.List.{slice_get}}
use Rattle.std.proofs.lemmas.Option.{slice_get-map, slice_get_within}
use Rattle.flow_table.specs.Flows.{Flow}
use Rattle.flow_queues.specs.Ends.{AppEnd, bytes_written_of}
use Rattle.run_account.{specs.Ran.{app_line_of, app_lines_of, AreCounts}, proofs.AppLines.{one-value}}
use Rattle.card_feed.proofs.Lines.{get-before, get-last}

-- ---- lines

-- what the application at a place leaves
pub end-at : {E : Type 0} (end : E → AppEnd) (own : List E) (a : ℕ) (e : E) → slice_get own a ≡ Some e → slice_get (map end own) a ≡ Some (end e)
end-at end own a e at = slice_get-map end own a ∙ ap (option_map end) at

next-line : (ports : List ℕ) (ends : List AppEnd) (i port : ℕ) (end : AppEnd) → slice_get ports i ≡ Some port → slice_get ends i ≡ Some end
    → app_lines_of (take (suc i) ports) (take (suc i) ends) ≡ app_lines_of (take i ports) (take i ends) ++ app_line_of port end ∷ []
next-line [] ends i port end first second = absurd (cc)
next-line (p ∷ ports) [] i port end first second = absurd (cc)
next-line (p ∷ ports) (e ∷ ends) zero port end first second =
    ap (λ q. app_line_of q e ∷ []) (one-value first) ∙ ap (λ u. app_line_of port u ∷ []) (one-value second)
next-line (p ∷ ports) (e ∷ ends) (suc i) port end first second =
    ap (λ lines. app_line_of p e ∷ lines) (next-line ports ends i port end first second)

pub lines-more : (ports : List ℕ) (ends : List AppEnd) (i port : ℕ) (end : AppEnd) → slice_get ports i ≡ Some port → slice_get ends i ≡ Some end
    → app_lines_of (take (i + 1) ports) (take (i + 1) ends) ≡ app_lines_of (take i ports) (take i ends) ++ app_line_of port end ∷ []
lines-more ports ends i port end first second =
    let next : i + 1 ≡ suc i = omega arith in
    ap (λ n. app_lines_of (take n ports) (take n ends)) next ∙ next-line ports ends i port end first second

-- ---- counts

-- those of the flows below a number
pub record AreCountsBelow (n : ℕ) (flows : List Flow) (ends : List AppEnd) (counts : List ℕ) : Type 0 where
  pub many : length counts ≡ n
  pub each : (number : ℕ) (flow : Flow) (end : AppEnd) → number < n → slice_get flows number ≡ Some flow → slice_get ends flow.app ≡ Some end
      → slice_get counts number ≡ Some (bytes_written_of number end.flows)

app-of : (found : Option Flow) (app : ℕ) (flow : Flow) → option_map (λ (f : Flow). f.app) found ≡ Some app → found ≡ Some flow → flow.app ≡ app
app-of None app flow is at = absurd (cc)
app-of (Some f) app flow is at = let same : f ≡ flow = one-value at in ap (λ (g : Flow). g.app) (sym same) ∙ one-value is

pub counts-more : (n : ℕ) (flows : List Flow) (ends : List AppEnd) (counts : List ℕ) (app count : ℕ) (own : AppEnd)
    → AreCountsBelow n flows ends counts → option_map (λ (f : Flow). f.app) (slice_get flows n) ≡ Some app
    → slice_get ends app ≡ Some own → count ≡ bytes_written_of n own.flows → AreCountsBelow (n + 1) flows ends (counts ++ count ∷ [])
counts-more n flows ends counts app count own so_far app_is own_at is = record {
  many = length-append counts (count ∷ []) ∙ omega (arith, so_far.many);
  each = λ number flow end below at e_at. ⊎_elim
      (λ (earlier : number < n). get-before counts count number (omega (arith, earlier, so_far.many)) ∙ so_far.each number flow end earlier at e_at)
      (λ (late : n ≤ number).
      let now : number ≡ n = omega (arith, below, late) in
      let goes : flow.app ≡ app = app-of (slice_get flows n) app flow app_is (ap (slice_get flows) (sym now) ∙ at) in
      let same : own ≡ end = one-value (sym own_at ∙ ap (slice_get ends) (sym goes) ∙ e_at) in
      get-last counts count number (omega (arith, now, so_far.many))
      ∙ ap Some (is ∙ ap (λ k. bytes_written_of k own.flows) (sym now) ∙ ap (λ (e : AppEnd). bytes_written_of number e.flows) same))
      (cases_lt number n);
}

pub counts-all : (n : ℕ) (flows : List Flow) (ends : List AppEnd) (counts : List ℕ) → AreCountsBelow n flows ends counts → n ≡ length flows
    → AreCounts flows ends counts
counts-all n flows ends counts below all = record {
  many = below.many ∙ all;
  each = λ number flow end at e_at. below.each number flow end (omega (arith, all, slice_get_within flows number flow at)) at e_at;
}
