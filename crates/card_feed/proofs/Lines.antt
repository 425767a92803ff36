-- The lines of the flows, one after another.
use Rattle.std.proofs.Common.{◌≡◌, ⊎_elim, ℕ, zero, suc, ◌+◌, ◌<◌, ◌≤◌, List, [], ◌∷◌, ◌++◌, length, map, get_or, Option}
use Rattle.std.{proofs.{Common.{Some, None, option_map, refl, sym, ap, ◌∙◌, length-append, arith, ◌==◌}, lemmas.Bool.{cases_lt, eqb-true}}, specs.List.{slice_get}}
use Rattle.std.proofs.lemmas.List.Quantifiers.{position-Some}
use Rattle.zr_kinds.specs.declared.behaviour.Stopped.TheVariants as stop
use Rattle.zr_kinds.specs.declared.outcome.{AppLine.{AppLine}, FlowLine.{FlowLine}}
use Rattle.flow_table.specs.{Flows.{Flow}, Placing.{info_of}, declared.placed.FlowInfo.{FlowInfo}}
use Rattle.card_feed.specs.{Hand.{HaveApps}, Outcomes.{HavePorts, line_of_flow, AreLinesOf}}

-- stands where there is no line
abbrev pub none_line : AppLine
none_line = record { port = 0; written = 0; loans = 0; copied = 0; stopped = stop.No }

-- those of the flows below a number
pub record AreLinesBelow (n : ℕ) (flows : List Flow) (bytes : List ℕ) (lines : List FlowLine) : Type 0 where
  pub many : length lines ≡ n
  pub each : (number : ℕ) (flow : Flow) (count : ℕ) → number < n → slice_get flows number ≡ Some flow → slice_get bytes number ≡ Some count
      → slice_get lines number ≡ Some (line_of_flow flow count)

pub told_of : (found : Option Flow) (info : FlowInfo) → option_map info_of found ≡ Some info → (flow : Flow) × (found ≡ Some flow) ×
    (info_of flow ≡ info)
told_of None info is = absurd (cc)
told_of (Some flow) info is = (flow, refl, same is)
  where
    same : {a b : FlowInfo} → Some a ≡ Some b → a ≡ b
    same e = cc

pub get-before : {A : Type 0} (xs : List A) (x : A) (i : ℕ) → i < length xs → slice_get (xs ++ x ∷ []) i ≡ slice_get xs i
get-before [] x i within = absurd (omega arith)
get-before (y ∷ xs) x zero within = refl
get-before (y ∷ xs) x (suc i) within = get-before xs x i (omega arith)

pub get-last : {A : Type 0} (xs : List A) (x : A) (i : ℕ) → i ≡ length xs → slice_get (xs ++ x ∷ []) i ≡ Some x
get-last [] x i is = rw is refl
get-last (y ∷ xs) x zero is = absurd (omega (arith, is))
get-last (y ∷ xs) x (suc i) is = get-last xs x i (omega (arith, is))

-- the port of an application
port_at : (apps : List AppLine) (i : ℕ) (d : AppLine) → i < length apps → get_or (map (λ (a : AppLine). a.port) apps) i 0 ≡ (get_or apps i d).port
port_at [] i d within = absurd (omega arith)
port_at (a ∷ apps) zero d within = refl
port_at (a ∷ apps) (suc i) d within = port_at apps i d (omega arith)

pub app-within : (ports : List ℕ) (apps : List AppLine) (flows : List Flow) → length apps ≡ length ports → HaveApps ports flows → (number : ℕ)
    (flow : Flow) → slice_get flows number ≡ Some flow → flow.app < length apps
app-within ports apps flows many have number flow is =
    let found = position-Some (λ p. p == flow.key.dport) ports flow.app 0 (have number flow is) in
    omega (arith, found.0, many)

pub port-is : (ports : List ℕ) (apps : List AppLine) (flows : List Flow) → HavePorts ports apps → length apps ≡ length ports → HaveApps ports flows
    → (number : ℕ) (flow : Flow) → slice_get flows number ≡ Some flow → (d : AppLine) → (get_or apps flow.app d).port ≡ flow.key.dport
port-is ports apps flows have_ports many have number flow is d =
    let found = position-Some (λ p. p == flow.key.dport) ports flow.app 0 (have number flow is) in
    sym (port_at apps flow.app d (app-within ports apps flows many have number flow is)) ∙ ap (λ ps. get_or ps flow.app 0) have_ports
    ∙ eqb-true (get_or ports flow.app 0) flow.key.dport found.1

pub lines-none : (flows : List Flow) (bytes : List ℕ) → AreLinesBelow 0 flows bytes []
lines-none flows bytes = record { many = refl; each = λ number flow count below. absurd (omega (arith, below)) }

pub lines-more : (n : ℕ) (flows : List Flow) (bytes : List ℕ) (lines : List FlowLine) (flow : Flow) (count : ℕ) (line : FlowLine)
    → AreLinesBelow n flows bytes lines
    → slice_get flows n ≡ Some flow → slice_get bytes n ≡ Some count → line ≡ line_of_flow flow count → AreLinesBelow (n + 1) flows bytes
    (lines ++ line ∷ [])
lines-more n flows bytes lines flow count line so_far here counted is = record {
  many = length-append lines (line ∷ []) ∙ omega (arith, so_far.many);
  each = λ number f k below at_flow at_count. ⊎_elim
      (λ (earlier : number < n). get-before lines line number (omega (arith, earlier, so_far.many)) ∙ so_far.each number f k earlier at_flow at_count)
      (λ (late : n ≤ number).
      let now : number ≡ n = omega (arith, below, late) in
      let same_flow : Some flow ≡ Some f = sym here ∙ ap (slice_get flows) (sym now) ∙ at_flow in
      let same_count : Some count ≡ Some k = sym counted ∙ ap (slice_get bytes) (sym now) ∙ at_count in
      get-last lines line number (omega (arith, now, so_far.many)) ∙ ap Some (is ∙ by same_flow same_count))
      (cases_lt number n);
}
  where
    by : {f : Flow} {k : ℕ} → Some flow ≡ Some f → Some count ≡ Some k → line_of_flow flow count ≡ line_of_flow f k
    by same_flow same_count = cc

pub lines-all : (n : ℕ) (flows : List Flow) (bytes : List ℕ) (lines : List FlowLine) → AreLinesBelow n flows bytes lines → length flows ≤ n
    → n ≤ length flows
    → AreLinesOf flows bytes lines
lines-all n flows bytes lines below reached most = record {
  many = omega (arith, below.many, reached, most);
  each = λ number flow count at_flow at_count. below.each number flow count
      (let within = within_of flows number flow at_flow in omega (arith, within, reached)) at_flow at_count;
}
  where
    within_of : (fs : List Flow) (i : ℕ) (f : Flow) → slice_get fs i ≡ Some f → i < length fs
    within_of [] i f at = absurd (cc)
    within_of (x ∷ fs) zero f at = omega arith
    within_of (x ∷ fs) (suc i) f at = let more = within_of fs i f at in omega (arith, more)
