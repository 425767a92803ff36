-- The newest flow of a key, found by going back from the end of the list.
use Rattle.std.proofs.Common.{◌≡◌, ℕ, suc, ◌+◌, ◌-◌, ◌<◌, ◌≤◌, List, [], ◌∷◌, ◌++◌, length, map, take, get_or, Option, Some}
use Rattle.std.proofs.{Common.{None, Bool, true, false, refl, sym, ap, ◌∙◌, arith, if◌then◌else◌, length-take-le}, lemmas.List.{take_more, map-append, length-map}}
use Rattle.std.proofs.lemmas.Bool.{cond-true, cond-false}
use Rattle.flow_table.specs.Flows.{Flow, FlowKey, Numbered, same_key, later_or, newest_from, newest}

later_or-if : (b : Bool) (found : Numbered) (earlier before : Option Numbered)
    → later_or (if b then Some found else earlier) before ≡ (if b then Some found else later_or earlier before)
later_or-if true found earlier before = refl
later_or-if false found earlier before = refl

pub newest_from-push : (key : FlowKey) (number : ℕ) (flows : List Flow) (flow : Flow)
    → newest_from number key
    (flows ++ flow ∷ []) ≡ (if same_key flow.key key then Some (record { number = number + length flows; flow = flow }) else newest_from number key flows)
newest_from-push key number [] flow = ap (λ n. if same_key flow.key key then Some (record { number = n; flow = flow }) else None) (omega arith)
newest_from-push key number (f ∷ flows) flow =
    let before : Option Numbered = if same_key f.key key then Some (record { number = number; flow = f }) else None in
    ap (λ later. later_or later before) (newest_from-push key (suc number) flows flow)
    ∙ later_or-if (same_key flow.key key) (record { number = suc number + length flows; flow = flow }) (newest_from (suc number) key flows) before
    ∙ ap (λ n. if same_key flow.key key then Some (record { number = n; flow = flow }) else later_or (newest_from (suc number) key flows) before)
    (omega arith)

module _ {E : Type 0} (shown : E → Flow) where
  -- among the first n + 1 flows: the flow of number n, or else the newest among the first n
  newest-take : (key : FlowKey) (flows : List E) (n : ℕ) (d : E) → n < length flows
      → newest key (map shown (take (n + 1) flows)) ≡ (if same_key (shown (get_or flows n d)).key key then
      Some (record { number = n; flow = shown (get_or flows n d) }) else newest key (map shown (take n flows)))
  newest-take key flows n d below =
      let flow : E = get_or flows n d in
      let count : length (map shown (take n flows)) ≡ n = length-map (take n flows) shown ∙ length-take-le n flows (omega arith) in
      ap (λ fs. newest key (map shown fs)) (take_more flows n d below)
      ∙ ap (newest key) (map-append shown (take n flows) (flow ∷ []))
      ∙ newest_from-push key 0 (map shown (take n flows)) (shown flow)
      ∙ ap (λ k. if same_key (shown flow).key key then
      Some (record { number = k; flow = shown flow }) else newest key (map shown (take n flows))) (omega (arith, count))

  -- going back, with no flow of the key from m on: the flow before m has it, or it hasn't
  module _ (key : FlowKey) (flows : List E) (m : ℕ) (d : E) (more : 0 < m) (within : m ≤ length flows)
      (earlier : newest key (map shown flows) ≡ newest key (map shown (take m flows))) where
    before : newest key (map shown flows) ≡ (if same_key (shown (get_or flows (m - 1) d)).key key then
        Some (record { number = m - 1; flow = shown (get_or flows (m - 1) d) }) else newest key (map shown (take (m - 1) flows)))
    before = earlier ∙ ap (λ k. newest key (map shown (take k flows))) (omega arith) ∙ newest-take key flows (m - 1) d (omega arith)

    pub newest_found : true ≡ same_key (shown (get_or flows (m - 1) d)).key key
        → Some (record { number = m - 1; flow = shown (get_or flows (m - 1) d) }) ≡ newest key (map shown flows)
    newest_found has = sym (before ∙ cond-true _ _ _ (sym has))

    pub newest_passed : false ≡ same_key (shown (get_or flows (m - 1) d)).key key
        → newest key (map shown flows) ≡ newest key (map shown (take (m - 1) flows))
    newest_passed hasnt = before ∙ cond-false _ _ _ (sym hasnt)
