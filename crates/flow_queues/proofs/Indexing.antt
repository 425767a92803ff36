-- The index of flows.
use Rattle.std.proofs.Common.{◌≡◌, ◌≢◌, ℕ, zero, suc, ◌+◌, ◌<◌, ◌≤◌, List, [], ◌∷◌, ◌++◌, Option, Some, None, length, set}
use Rattle.std.{proofs.Common.{get_or, refl, sym, ap, subst, ◌∙◌, arith, ⊎_elim, length-append}, specs.{Prelude.{MatchOption, ◌==◌, false}, Ordering.{is_eq, nat_cmp}}}
use Rattle.std.{specs.{Cmp.{nat_cmp_is}, declared.cmp.Ordering.TheVariants.{Less, Greater}}, proofs.lemmas.Bool.{cases_eq, cases_lt}}
use Rattle.board_face.proofs.ListLemmas.{not-eqb}
use Rattle.flow_queues.{proofs.{Tokens.{total-append}, Took.{get-last}}, specs.{declared.queues.FlowQueue.{FlowQueue}, Core.{many}, Flows.{IsIndex, place_in_index}}}
use Rattle.flow_queues.proofs.{Standing.{At, split-at, many-same, is_number}, Releasing.{length-set-same}}

-- at the place that was set stands what was put there, elsewhere what stood
number-set : (flows : List FlowQueue) (i : ℕ) (own x : FlowQueue) → i < length flows → own ≡ get_or flows i own → x.number ≡ own.number
    → (k : ℕ) (d : FlowQueue) → k < length flows → (get_or (set flows i x) k d).number ≡ (get_or flows k d).number
number-set [] i own x within value same k d below = refl
number-set (f ∷ fs) zero own x within value same zero d below = same ∙ ap (λ (g : FlowQueue). g.number) value
number-set (f ∷ fs) zero own x within value same (suc k) d below = refl
number-set (f ∷ fs) (suc i) own x within value same zero d below = refl
number-set (f ∷ fs) (suc i) own x within value same (suc k) d below = number-set fs i own x (omega arith) value same k d (omega arith)

pub by-place : (found : Option ℕ) (P Q : Type 0) (R S : ℕ → Type 0) → (P → Q) → ((i : ℕ) → R i → S i) → MatchOption found P R
    → MatchOption found Q S
by-place None P Q R S none some is = none is
by-place (Some i) P Q R S none some is = some i is

-- a flow was put in the place of one with its number
pub index-set : (index : List (ℕ × ℕ)) (flows : List FlowQueue) (i : ℕ) (own x : FlowQueue) → i < length flows → own ≡ get_or flows i own
    → x.number ≡ own.number → IsIndex index flows → IsIndex index (set flows i x)
index-set index flows i own x within value same is number =
    let at : At flows i own = split-at flows i own within value in
    let size : length (set flows i x) ≡ length flows = length-set-same flows i x in
    by-place (place_in_index index number) (many number flows ≡ 0) (many number (set flows i x) ≡ 0)
    (λ k. (k < length flows) × ((d : FlowQueue) → (get_or flows k d).number ≡ number))
    (λ k. (k < length (set flows i x)) × ((d : FlowQueue) → (get_or (set flows i x) k d).number ≡ number))
    (λ none. ap (many number) (at.set_is x) ∙ many-same at.before at.after own x same number ∙ sym (ap (many number) at.is) ∙ none)
    (λ k there. (omega (arith, size, there.0), λ d. number-set flows i own x within value same k d there.0 ∙ there.1 d))
    (is number)

pub found-at : (index : List (ℕ × ℕ)) (flows : List FlowQueue) (number i : ℕ) → place_in_index index number ≡ Some i → IsIndex index flows
    → (i < length flows) × ((d : FlowQueue) → (get_or flows i d).number ≡ number)
found-at index flows number i is of = subst (λ o. MatchOption o (many number flows ≡ 0)
    (λ k. (k < length flows) × ((d : FlowQueue) → (get_or flows k d).number ≡ number))) is (of number)

pub none-at : (index : List (ℕ × ℕ)) (flows : List FlowQueue) (number : ℕ) → place_in_index index number ≡ None → IsIndex index flows
    → many number flows ≡ 0
none-at index flows number is of = subst (λ o. MatchOption o (many number flows ≡ 0)
    (λ k. (k < length flows) × ((d : FlowQueue) → (get_or flows k d).number ≡ number))) is (of number)

apart-keys : (k q : ℕ) → q ≢ k → is_eq (nat_cmp k q) ≡ false
apart-keys k q other = ⊎_elim
    (λ (below : k < q). ap is_eq (sym (nat_cmp_is k q Less below)))
    (λ (above : q ≤ k). (let over : q < k = omega arith in ap is_eq (sym (nat_cmp_is k q Greater over))))
    (cases_lt k q)

get-left : (flows : List FlowQueue) (f d : FlowQueue) (k : ℕ) → k < length flows → get_or (flows ++ f ∷ []) k d ≡ get_or flows k d
get-left [] f d k below = absurd (omega arith)
get-left (g ∷ fs) f d zero below = refl
get-left (g ∷ fs) f d (suc k) below = get-left fs f d k (omega arith)

-- a flow was put behind the others, and its place told
pub index-push : (index later : List (ℕ × ℕ)) (flows : List FlowQueue) (f : FlowQueue) → IsIndex index flows
    → place_in_index later f.number ≡ Some (length flows) → ((q : ℕ) → is_eq (nat_cmp f.number q) ≡ false → place_in_index later q ≡ place_in_index index q)
    → IsIndex later (flows ++ f ∷ [])
index-push index later flows f is here others q =
    let size : length (flows ++ f ∷ []) ≡ length flows + 1 = length-append flows (f ∷ []) in
    ⊎_elim
    (λ (same : q ≡ f.number). subst (λ o. MatchOption o (many q (flows ++ f ∷ []) ≡ 0)
    (λ i. (i < length (flows ++ f ∷ [])) × ((d : FlowQueue) → (get_or (flows ++ f ∷ []) i d).number ≡ q)))
    (sym (ap (place_in_index later) same ∙ here))
    (omega (arith, size), λ d. ap (λ (g : FlowQueue). g.number) (get-last flows f d) ∙ sym same))
    (λ (other : q ≢ f.number). subst (λ o. MatchOption o (many q (flows ++ f ∷ []) ≡ 0)
    (λ i. (i < length (flows ++ f ∷ [])) × ((d : FlowQueue) → (get_or (flows ++ f ∷ []) i d).number ≡ q)))
    (sym (others q (apart-keys f.number q other)))
    (by-place (place_in_index index q) (many q flows ≡ 0) (many q (flows ++ f ∷ []) ≡ 0)
    (λ i. (i < length flows) × ((d : FlowQueue) → (get_or flows i d).number ≡ q))
    (λ i. (i < length (flows ++ f ∷ [])) × ((d : FlowQueue) → (get_or (flows ++ f ∷ []) i d).number ≡ q))
    (λ none. (let no : is_number q f ≡ 0 = not-number q f (λ e. other (sym e)) in omega (arith, total-append (is_number q) flows (f ∷ []), none, no)))
    (λ i there. (omega (arith, size, there.0), λ d. ap (λ (g : FlowQueue). g.number) (get-left flows f d i there.0) ∙ there.1 d))
    (is q)))
    (cases_eq q f.number)
  where
    not-number : (n : ℕ) (g : FlowQueue) → g.number ≢ n → is_number n g ≡ 0
    not-number n g away = (let no : (g.number == n) ≡ false = not-eqb g.number n away in rw no refl)
