-- What the shelf of an application gained that failed: what is counted, and at one flow some bytes of one loan more.
use Rattle.std.proofs.Common.{◌≡◌, ◌≢◌, ℕ, zero, suc, ◌+◌, ◌-◌, ◌<◌, ◌≤◌, List, [], ◌∷◌, ◌++◌, length, take, drop, Option, None, IsSome}
use Rattle.std.proofs.{Common.{sym, ap, subst, ◌∙◌, arith, ⊎_elim, length-append}, Math.Seq.{take-append_seam, drop-append_seam}, lemmas.Bool.{cases_eq}}
use Rattle.zr_kinds.{specs.CopyingReceiver.{Placed, next_missing, values_from, front_of}, proofs.InOrder.{cases_Option}}
use Rattle.zr_kinds.proofs.ValuesFrom.{AreThere, values_from-split, values_from-same, length-values_from}
use Rattle.zr_io.{specs.Moved.{Gained}, proofs.Moved.{Gained-weaker, Gained-nothing}}
use Rattle.board_face.specs.declared.views.app.{TakenNote.{TakenNote}, AppView.{AppView}}
use Rattle.flow_queues.specs.{declared.queues.FlowQueue.{FlowQueue}, Ends.{IsTorn}}
use Rattle.flow_queues.specs.{Shelves.{kept_loans, IsShelved, AreOfOneLoan, ReadsFront, IsFrontShelved, AreFronts, FlowEnds}, Totals.{loan_entries}}
use Rattle.flow_queues.{specs.Streams.{IsFront, HasFronts}, proofs.{InParts.{AreSame}, WholeFrames.{StandWhole, whole-own, placed-same}, ReadLemmas.{are-many}}}
use Rattle.app_worker.specs.{Marks.{Mark, FramesStandTogether, numbered_notes, placed_marks, marks_of}, Core.{Each, many, own_notes, BeginAt, placed_of}}
use Rattle.app_worker.specs.Kept.{flow_bytes}
use Rattle.run_account.proofs.Counted.{IsThere, find, both, gained-both, shelved-long}

-- ---- marks

few-values : (at : ℕ → Option Mark) (k p : ℕ) → length (values_from at k p) ≤ k
few-values at zero p = omega arith
few-values at (suc k) p = ⊎_elim
    (λ (none : at p ≡ None). rw none (omega arith))
    (λ (value, some). rw some (omega (arith, few-values at k (suc p))))
    (cases_Option (at p))

-- the pieces of each frame stand together in a flow, where they do among all notes
whole-of : (flow : ℕ) (taken : List TakenNote) → FramesStandTogether taken → StandWhole (own_notes flow taken)
whole-of flow [] whole = tt
whole-of flow (t ∷ taken) whole = whole-own flow (record { number = 0; note = t.note }) (numbered_notes 1 taken) whole.0 whole.1

part : {A : Type 0} (xs ys zs : List A) (from to : ℕ) → length xs ≡ from → length xs + length ys ≡ to
    → drop from (take to ((xs ++ ys) ++ zs)) ≡ ys
part xs ys zs from to first both =
    let size : length (xs ++ ys) ≡ to = length-append xs ys ∙ both in
    ap (λ n. drop from (take n ((xs ++ ys) ++ zs))) (sym size) ∙ ap (drop from) (take-append_seam (xs ++ ys) zs)
    ∙ ap (λ n. drop n (xs ++ ys)) (sym first) ∙ drop-append_seam xs ys

-- the marks from one position to another, as the queue has them
marks-between : (flow : FlowQueue) (taken : List TakenNote) (from to : ℕ) → BeginAt flow.queue.base (own_notes flow.number taken)
    → FramesStandTogether taken → ((p : ℕ) → p < to → IsSome ((placed_of flow taken).at p)) → from ≤ to → to ≤ length (marks_of flow.number taken)
    → drop from (take to (marks_of flow.number taken)) ≡ values_from (placed_of flow taken).at (to - from) from
unfolding front_of
marks-between flow taken from to begun whole below ordered within =
    let placed : Placed Mark = placed_of flow taken in
    let frames : Placed Mark = placed_marks flow.number taken in
    let same : AreSame placed frames = placed-same flow taken begun (whole-of flow.number taken whole) in
    let few : length (marks_of flow.number taken) ≤ next_missing frames = few-values frames.at (next_missing frames) 0 in
    let there : (k : ℕ) → k ≤ to → AreThere placed.at k 0 = λ k until. record { there = λ q from_here below_k. below q (omega arith) } in
    let more : ℕ = next_missing frames - to in
    let all : next_missing frames ≡ to + more = omega (arith, within, few) in
    let parts : to ≡ from + (to - from) = omega (arith, ordered) in
    let first : values_from placed.at to 0 ≡ values_from placed.at from 0 ++ values_from placed.at (to - from) from =
    ap (λ n. values_from placed.at n 0) parts ∙ values_from-split placed.at from (to - from) 0 (there from ordered)
    ∙ ap (λ n. values_from placed.at from 0 ++ values_from placed.at (to - from) n) (let e : 0 + from ≡ from = omega arith in e) in
    let marks : marks_of flow.number taken
    ≡ (values_from placed.at from 0 ++ values_from placed.at (to - from) from) ++ values_from placed.at more to =
    values_from-same placed.at frames.at (next_missing frames) 0 (record { same = λ q from_here until. sym (same q) })
    ∙ ap (λ n. values_from placed.at n 0) all ∙ values_from-split placed.at to more 0 (there to (omega arith))
    ∙ ap (λ n. values_from placed.at to 0 ++ values_from placed.at more n) (let e : 0 + to ≡ to = omega arith in e)
    ∙ ap (λ ms. ms ++ values_from placed.at more to) first in
    let size : length (values_from placed.at from 0) ≡ from = length-values_from placed.at from 0 (there from ordered) in
    let size_all : length (values_from placed.at to 0) ≡ to = length-values_from placed.at to 0 (there to (omega arith)) in
    ap (λ ms. drop from (take to ms)) marks
    ∙ part (values_from placed.at from 0) (values_from placed.at (to - from) from) (values_from placed.at more to) from to size
    (sym (length-append (values_from placed.at from 0) (values_from placed.at (to - from) from)) ∙ ap length (sym first) ∙ size_all)

-- ---- a flow

front-within : (v : AppView) (marks : List Mark) (bytes : List ℕ) → IsFront v.taken v.reads marks bytes → length bytes ≤ length marks
front-within v marks bytes front =
    omega (arith, ap length front.parts, length-append front.read front.rest, are-many v.taken v.reads front.read bytes front.are)

module _ (first kept : ℕ → Option (List ℕ)) (v : AppView) (own : List FlowQueue) (ends : Each (FlowEnds v.taken) own)
    (whole : FramesStandTogether v.taken) (none_out : v.loans ≡ []) (fronts : AreFronts first kept own v) (has : HasFronts first kept v) where
  -- what stands of a flow with a queue
  abbrev Stands : FlowQueue → Type 0
  Stands f = (FlowEnds v.taken f × IsFrontShelved first kept v.taken v.reads (kept_loans v) f)
      × (f.number ≢ fronts.torn → IsShelved first kept v.taken v.reads f)

  other-torn : (f : FlowQueue) (number : ℕ) → Stands f → f.number ≢ fronts.torn
      → Gained (first f.number) (kept f.number) (IsTorn v fronts.torn f.number f.bytes)
  other-torn f number stands other = Gained-weaker (first f.number) (kept f.number) (λ bytes. f.bytes ≡ length bytes)
      (IsTorn v fronts.torn f.number f.bytes)
      (λ bytes long. record { exact = λ away. long; at_once = omega (arith, long); more = λ less. absurd (omega (arith, long, less)) })
      (shelved-long first kept v f stands.0.0 (stands.1 other))

  torn-bytes : (f : FlowQueue) (bytes : List ℕ) → FlowEnds v.taken f → f.number ≡ fronts.torn
      → ReadsFront v.taken v.reads (kept_loans v) f bytes → IsFront v.taken v.reads (marks_of f.number v.taken) bytes
      → IsTorn v fronts.torn f.number f.bytes bytes
  torn-bytes f bytes end here front shown =
      let size : length (values_from (placed_of f v.taken).at front.count 0) ≡ front.count =
      length-values_from (placed_of f v.taken).at front.count 0 (record { there = λ q from until. front.below q (omega (arith, until)) }) in
      let long : front.count ≡ length bytes = sym size ∙ sym (are-many v.taken v.reads _ bytes front.are) in
      let within : front.count ≤ length (marks_of f.number v.taken) = omega (arith, long, front-within v _ bytes shown) in
      record {
        exact = λ away. absurd (away here);
        at_once = omega (arith, long, front.at_once);
        more = λ less.
            let one : AreOfOneLoan v.taken (kept_loans v) (values_from (placed_of f v.taken).at (front.count - f.bytes) f.bytes) =
            front.beyond (omega (arith, long, less)) in
            let marks = marks-between f v.taken f.bytes front.count end.begun whole front.below front.at_least within in
            subst (λ n. AreOfOneLoan v.taken (drop (loan_entries v) v.returned) (drop f.bytes (take n (marks_of f.number v.taken)))) long
            (subst (AreOfOneLoan v.taken (drop (loan_entries v) v.returned)) (sym marks)
            (subst (λ loans. AreOfOneLoan v.taken (loans ++ drop (loan_entries v) v.returned)
            (values_from (placed_of f v.taken).at (front.count - f.bytes) f.bytes)) none_out one));
      }

  one-torn : (f : FlowQueue) → Stands f → Gained (first f.number) (kept f.number) (IsTorn v fronts.torn f.number f.bytes)
  one-torn f stands = ⊎_elim
      (λ (here : f.number ≡ fronts.torn).
      gained-both (first f.number) (kept f.number) (ReadsFront v.taken v.reads (kept_loans v) f)
      (IsFront v.taken v.reads (marks_of f.number v.taken)) (IsTorn v fronts.torn f.number f.bytes)
      (λ bytes front shown. torn-bytes f bytes stands.0.0 here front shown) stands.0.1.gained (has f.number))
      (λ (other : f.number ≢ fronts.torn). other-torn f f.number stands other)
      (cases_eq f.number fronts.torn)

  pub flow-torn : (number : ℕ) → Gained (first number) (kept number) (IsTorn v fronts.torn number (flow_bytes number own))
  flow-torn number = ⊎_elim
      (λ (none : (many number own ≡ 0) × (flow_bytes number own ≡ 0)).
      Gained-nothing (first number) (kept number) (IsTorn v fronts.torn number (flow_bytes number own)) (fronts.others number none.0)
      (record { exact = λ away. none.1; at_once = omega arith; more = λ less. absurd (omega (arith, less)) }))
      (λ (there : IsThere Stands number (flow_bytes number own)).
      subst (λ n. Gained (first number) (kept number) (IsTorn v fronts.torn number n)) (sym there.bytes_is)
      (subst (λ n. Gained (first n) (kept n) (IsTorn v fronts.torn n there.flow.bytes)) there.number_is (one-torn there.flow there.holds)))
      (find Stands own number
      (both (λ f. FlowEnds v.taken f × IsFrontShelved first kept v.taken v.reads (kept_loans v) f)
      (λ f. f.number ≢ fronts.torn → IsShelved first kept v.taken v.reads f) own
      (both (FlowEnds v.taken) (IsFrontShelved first kept v.taken v.reads (kept_loans v)) own ends fronts.flows) fronts.exact))
