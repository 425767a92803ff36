-- What was given of each flow, as an item is given, and as pieces leave the queues.
use Rattle.std.{proofs.Common.{◌≡◌, ℕ, ◌<◌, List, [], ◌∷◌, ◌++◌, IsSome, map, sym, ap, subst, ◌∙◌, append_assoc, append-nil}, specs.Prelude.{◌==◌, if◌then◌else◌}}
use Rattle.zr_kinds.specs.CopyingReceiver.{nothing_placed, values_from}
use Rattle.board_face.specs.declared.views.app.TakenNote.{TakenNote}
use Rattle.flow_queues.specs.{declared.queues.FlowQueue.{FlowQueue}, Marks.{Mark}, Flows.{FlowFacts, facts_of}, Shelves.{FlowEnds}}
use Rattle.flow_queues.{specs.Core.{Each, many, own_notes, BeginAt, placed_of, received_notes, marks_of_loan}, proofs.Releasing.{each-facts, total-facts}}
use Rattle.zc_poll.specs.Items.{GivenItem, HasGiven, marks_given}

-- these items are of the first marks of the flow
abbrev pub IsGivenOf : List GivenItem → List TakenNote → FlowQueue → Type 0
IsGivenOf items taken f = marks_given f.number items ≡ values_from (placed_of f taken).at f.bytes 0

pub each-two : {A : Type 0} (P Q : A → Type 0) (xs : List A) → Each P xs → Each Q xs → Each (λ x. P x × Q x) xs
each-two P Q [] first second = tt
each-two P Q (x ∷ xs) first second = ((first.0, second.0), each-two P Q xs first.1 second.1)

-- ---- pieces left the queues

found-facts : (taken : List TakenNote) (f g : FlowQueue) → facts_of g ≡ facts_of f → FlowEnds taken f → FlowEnds taken g
found-facts taken f g same found =
    let P : FlowFacts → Type 0 = λ x. BeginAt x.base (own_notes x.number taken)
    × ((p : ℕ) → p < x.bytes → IsSome ((received_notes x.base nothing_placed (own_notes x.number taken)).at p)) in
    let moved : P (facts_of g) = subst P (sym same) (found.begun, found.below) in
    record { begun = moved.0; below = moved.1 }

given-facts : (items : List GivenItem) (taken : List TakenNote) (f g : FlowQueue) → facts_of g ≡ facts_of f → IsGivenOf items taken f
    → IsGivenOf items taken g
given-facts items taken f g same given =
    let P : FlowFacts → Type 0 = λ x. marks_given x.number items
    ≡ values_from (received_notes x.base nothing_placed (own_notes x.number taken)).at x.bytes 0 in
    let moved : P (facts_of g) = subst P (sym same) given in moved

module _ (was now : List FlowQueue) (taken : List TakenNote) (facts : map facts_of now ≡ map facts_of was) where
  pub many-released : (n : ℕ) → many n now ≡ many n was
  many-released n = total-facts (λ x. if x.number == n then 1 else 0) was now facts

  pub found-released : Each (FlowEnds taken) was → Each (FlowEnds taken) now
  found-released found = each-facts (FlowEnds taken) (FlowEnds taken) (found-facts taken) was now facts found

  pub items-released : (items : List GivenItem) → HasGiven items was taken → HasGiven items now taken
  items-released items given = record {
    flows = each-facts (IsGivenOf items taken) (IsGivenOf items taken) (given-facts items taken) was now facts given.flows;
    others = λ n none. given.others n (sym (many-released n) ∙ none);
  }

-- ---- one item more

pub given-push : (flow : ℕ) (items : List GivenItem) (g : GivenItem)
    → marks_given flow (items ++ g ∷ []) ≡ marks_given flow items ++ (if g.flow == flow then marks_of_loan g.lending else [])
given-push flow [] g = append-nil (if g.flow == flow then marks_of_loan g.lending else [])
given-push flow (h ∷ items) g =
    let mine : List Mark = if h.flow == flow then marks_of_loan h.lending else [] in
    ap (λ ms. mine ++ ms) (given-push flow items g) ∙ sym
    (append_assoc mine (marks_given flow items) (if g.flow == flow then marks_of_loan g.lending else []))
