-- The marks of what is done with, by flow.
use Rattle.std.proofs.Common.{◌≡◌, ◌≢◌, ℕ, ◌+◌, ◌<◌, ◌≤◌, true, false, List, [], ◌∷◌, ◌++◌, Option, Some, None, IsSome, refl, sym, ap, subst, ◌∙◌, arith, inl, inr, ⊎_elim, append-nil, append_assoc}
use Rattle.std.{specs.{Prelude.{◌==◌, Bool, if◌then◌else◌}, Io.KnownBytes.{Keeps}}, proofs.lemmas.Bool.{cases_eq, eq-eqb, ne_eqb}}
use Rattle.zr_kinds.specs.CopyingReceiver.{Placed, values_from}
use Rattle.zr_io.{specs.Moved.{Gained}, proofs.Moved.{Gained-weaker}}
use Rattle.tcp_reorder.specs.Queue.{Queue}
use Rattle.board_face.specs.declared.views.app.{Reading.{Reading}, TakenNote.{TakenNote}, AppView.{AppView}}
use Rattle.flow_queues.specs.{declared.queues.{Waiting.{Waiting}, FlowQueue.{FlowQueue}}, Marks.{Mark, NumberedNote}}
use Rattle.flow_queues.specs.{Core.{Each, IsIn, many, own_notes, BeginAt, placed_of, AreReadAt}, Flows.{fresh_flow}, Shelves.{FlowEnds, IsShelved, AreShelved}}
use Rattle.flow_queues.proofs.{Tokens.{in-total}, Placing.{own-notes-other, own-notes-here, next_note, begin-push, values-stay, some_of, still-there}}
use Rattle.flow_queues.proofs.{Standing.{each-map, each-left, each-right, is_number, number-is}, Choosing.{Chosen, there, begun}}
use Rattle.flow_queues.{proofs.{Fronts.{is-some, placed-here, placed-other}, ReadLemmas.{all-noted}}, specs.Kept.{marks_done}}

-- ---- one flow, and one note more

module _ (taken : List TakenNote) (t : TakenNote) (f : FlowQueue) (q : Queue Waiting) (base : q.base ≡ f.queue.base) where
  -- what was placed stays
  some-note : (p : ℕ) → IsSome ((placed_of f taken).at p) → IsSome ((placed_of (record f { queue = q }) (taken ++ t ∷ [])).at p)
  some-note p stood = ⊎_elim
      (λ (is : t.note.flow ≡ f.number). let (value, here) = some_of ((placed_of f taken).at p) stood in
      subst (λ (pl : Placed Mark). IsSome (pl.at p)) (sym (placed-here taken t f q base is))
      (is-some _ value (still-there f.queue.base (placed_of f taken) (next_note taken t) p value here)))
      (λ (other : t.note.flow ≢ f.number). subst (λ (pl : Placed Mark). IsSome (pl.at p)) (sym (placed-other taken t f q base other)) stood)
      (cases_eq t.note.flow f.number)

  pub values-note : (many from : ℕ) → ((p : ℕ) → p < from + many → IsSome ((placed_of f taken).at p))
      → values_from (placed_of (record f { queue = q }) (taken ++ t ∷ [])).at many from ≡ values_from (placed_of f taken).at many from
  values-note many from stood = ⊎_elim
      (λ (is : t.note.flow ≡ f.number). ap (λ (p : Placed Mark). values_from p.at many from) (placed-here taken t f q base is)
      ∙ values-stay f.queue.base (placed_of f taken) (next_note taken t) many from (λ p below. stood p (omega (arith, below))))
      (λ (other : t.note.flow ≢ f.number). ap (λ (p : Placed Mark). values_from p.at many from) (placed-other taken t f q base other))
      (cases_eq t.note.flow f.number)

  pub ends-note : FlowEnds taken f → FlowEnds (taken ++ t ∷ []) (record f { queue = q })
  ends-note ends = record {
    begun = subst (λ b. BeginAt b (own_notes f.number (taken ++ t ∷ []))) (sym base) (⊎_elim
        (λ (is : t.note.flow ≡ f.number). subst (BeginAt f.queue.base) (sym (own-notes-here f.number taken t is))
        (begin-push f.queue.base (own_notes f.number taken) (next_note taken t) ends.begun))
        (λ (other : t.note.flow ≢ f.number). subst (BeginAt f.queue.base) (sym (own-notes-other f.number taken t other)) ends.begun)
        (cases_eq t.note.flow f.number));
    below = λ p below. some-note p (ends.below p below);
  }

pub ends-begun : (taken : List TakenNote) (t : TakenNote) → own_notes t.note.flow taken ≡ [] → (q : Queue Waiting) → q.base ≡ t.note.base
    → FlowEnds (taken ++ t ∷ []) (record (fresh_flow t.note) { queue = q })
ends-begun taken t no_notes q base =
    let n : NumberedNote = next_note taken t in
    let e : own_notes t.note.flow (taken ++ t ∷ []) ≡ n ∷ [] = own-notes-here t.note.flow taken t refl ∙ ap (λ ns. ns ++ n ∷ []) no_notes in
    record { begun = subst (BeginAt q.base) (sym e) (sym base); below = λ p below. absurd (omega arith) }

-- ---- all flows

abbrev pub done_in : List TakenNote → FlowQueue → List Mark
done_in taken f = values_from (placed_of f taken).at f.bytes 0

abbrev pub done_one : ℕ → List TakenNote → FlowQueue → List Mark
done_one n taken f = if f.number == n then done_in taken f else []

done-parts : (n : ℕ) (taken : List TakenNote) (before after : List FlowQueue) (x : FlowQueue)
    → marks_done n (before ++ x ∷ after) taken ≡ marks_done n before taken ++ (done_one n taken x ++ marks_done n after taken)
done-parts n taken [] after x = refl
done-parts n taken (f ∷ before) after x = ap (λ ms. done_one n taken f ++ ms) (done-parts n taken before after x)
    ∙ sym (append_assoc (done_one n taken f) (marks_done n before taken) (done_one n taken x ++ marks_done n after taken))

one-grown : (n : ℕ) (taken : List TakenNote) (t : TakenNote) (f : FlowQueue) (q : Queue Waiting) → q.base ≡ f.queue.base → FlowEnds taken f
    → done_one n (taken ++ t ∷ []) (record f { queue = q }) ≡ done_one n taken f
one-grown n taken t f q base ends = ap (λ ms. if f.number == n then ms else [])
    (values-note taken t f q base f.bytes 0 (λ p below. ends.below p (omega (arith, below))))

pub done-grown : (n : ℕ) (taken : List TakenNote) (t : TakenNote) (fs : List FlowQueue) → Each (FlowEnds taken) fs
    → marks_done n fs (taken ++ t ∷ []) ≡ marks_done n fs taken
done-grown n taken t [] ends = refl
done-grown n taken t (f ∷ fs) ends = ap (λ ms. ms ++ marks_done n fs (taken ++ t ∷ [])) (one-grown n taken t f f.queue refl ends.0)
    ∙ ap (λ ms. done_one n taken f ++ ms) (done-grown n taken t fs ends.1)

none-either : (b : Bool) (ms : List Mark) → ms ≡ [] → (if b then ms else []) ≡ []
none-either true ms is = is
none-either false ms is = refl

-- a note chose its flow, whose queue keeps something else now
pub done-noted : (n : ℕ) (taken : List TakenNote) (t : TakenNote) (was : List FlowQueue) (own : FlowQueue) (put : FlowQueue → List FlowQueue)
    (q : Queue Waiting) → q.base ≡ own.queue.base → Each (FlowEnds taken) was → Chosen was t.note own put
    → marks_done n (put (record own { queue = q })) (taken ++ t ∷ []) ≡ marks_done n was taken
done-noted n taken t was own put q base ends (there before after is put_is number) =
    let x : FlowQueue = record own { queue = q } in
    let more : List TakenNote = taken ++ t ∷ [] in
    let all : Each (FlowEnds taken) (before ++ own ∷ after) = subst (Each (FlowEnds taken)) is ends in
    let back : Each (FlowEnds taken) (own ∷ after) = each-right (FlowEnds taken) before (own ∷ after) all in
    ap (λ fs. marks_done n fs more) (put_is x) ∙ done-parts n more before after x
    ∙ ap (λ ms. ms ++ (done_one n more x ++ marks_done n after more)) (done-grown n taken t before (each-left (FlowEnds taken) before (own ∷ after) all))
    ∙ ap (λ ms. marks_done n before taken ++ (ms ++ marks_done n after more)) (one-grown n taken t own q base back.0)
    ∙ ap (λ ms. marks_done n before taken ++ (done_one n taken own ++ ms)) (done-grown n taken t after back.1)
    ∙ sym (done-parts n taken before after own) ∙ sym (ap (λ fs. marks_done n fs taken) is)
done-noted n taken t was own put q base ends (begun none own_is put_is) =
    let x : FlowQueue = record own { queue = q } in
    let more : List TakenNote = taken ++ t ∷ [] in
    let nothing : own.bytes ≡ 0 = ap (λ (f : FlowQueue). f.bytes) own_is in
    ap (λ fs. marks_done n fs more) (put_is x) ∙ done-parts n more was [] x
    ∙ ap (λ k. marks_done n was more ++ ((if own.number == n then values_from (placed_of x more).at k 0 else []) ++ [])) nothing
    ∙ ap (λ ms. marks_done n was more ++ (ms ++ [])) (none-either (own.number == n) (values_from (placed_of x more).at 0 0) refl)
    ∙ append-nil (marks_done n was more) ∙ done-grown n taken t was ends

-- ---- what is said of each flow, and of each number

pub done-none : (n : ℕ) (taken : List TakenNote) (fs : List FlowQueue) → many n fs ≡ 0 → marks_done n fs taken ≡ []
done-none n taken [] none = refl
done-none n taken (f ∷ fs) none = ⊎_elim
    (λ (is : f.number ≡ n). absurd (omega (arith, none, number-is n f is)))
    (λ (other : f.number ≢ n). (let no : (f.number == n) ≡ false = ne_eqb f.number n other in
    ap (λ b. (if b then done_in taken f else []) ++ marks_done n fs taken) no ∙ done-none n taken fs (omega (arith, none))))
    (cases_eq f.number n)

pub done-of : (taken : List TakenNote) (f : FlowQueue) (fs : List FlowQueue) → IsIn f fs → many f.number fs ≤ 1
    → marks_done f.number fs taken ≡ done_in taken f
done-of taken f [] is few = absurd is
done-of taken f (g ∷ fs) (inl same) few =
    let yes : (g.number == f.number) ≡ true = eq-eqb g.number f.number (ap (λ (h : FlowQueue). h.number) same) in
    let none : many f.number fs ≡ 0 = omega (arith, few, number-is f.number g (ap (λ (h : FlowQueue). h.number) same)) in
    ap (λ b. (if b then done_in taken g else []) ++ marks_done f.number fs taken) yes
    ∙ ap (λ ms. done_in taken g ++ ms) (done-none f.number taken fs none) ∙ append-nil (done_in taken g)
    ∙ ap (λ (h : FlowQueue). done_in taken h) same
done-of taken f (g ∷ fs) (inr behind) few =
    let one : is_number f.number f ≡ 1 = number-is f.number f refl in
    let other : g.number ≢ f.number = λ same. absurd (omega (arith, few, number-is f.number g same, in-total (is_number f.number) f fs behind, one)) in
    let no : (g.number == f.number) ≡ false = ne_eqb g.number f.number other in
    ap (λ b. (if b then done_in taken g else []) ++ marks_done f.number fs taken) no ∙ done-of taken f fs behind (omega (arith, few))

pub each-done : (P : ℕ → List Mark → Type 0) (n : ℕ) (taken : List TakenNote) (fs : List FlowQueue) → many n fs ≤ 1
    → Each (λ f. P f.number (done_in taken f)) fs → (many n fs ≡ 0 → P n []) → P n (marks_done n fs taken)
each-done P n taken [] few each none = none refl
each-done P n taken (f ∷ fs) few each none = ⊎_elim
    (λ (is : f.number ≡ n). let yes : (f.number == n) ≡ true = eq-eqb f.number n is in
    let others : many n fs ≡ 0 = omega (arith, few, number-is n f is) in
    let all : marks_done n (f ∷ fs) taken ≡ done_in taken f = ap (λ b. (if b then done_in taken f else []) ++ marks_done n fs taken) yes
    ∙ ap (λ ms. done_in taken f ++ ms) (done-none n taken fs others) ∙ append-nil (done_in taken f) in
    subst (P n) (sym all) (subst (λ k. P k (done_in taken f)) is each.0))
    (λ (other : f.number ≢ n). let no : (f.number == n) ≡ false = ne_eqb f.number n other in
    let all : marks_done n (f ∷ fs) taken ≡ marks_done n fs taken = ap (λ b. (if b then done_in taken f else []) ++ marks_done n fs taken) no in
    subst (P n) (sym all) (each-done P n taken fs (omega (arith, few)) each.1 (λ nothing. none (rw no (omega (arith, nothing))))))
    (cases_eq f.number n)

-- ---- what a shelf has

pub gained-nothing : (a b : Option (List ℕ)) (P : List ℕ → Type 0) → P [] → Keeps a b → Gained a b P
gained-nothing None b P none keeps = tt
gained-nothing (Some xs) None P none keeps = absurd keeps
gained-nothing (Some xs) (Some ys) P none keeps = ([], keeps ∙ sym (append-nil xs), none)

keeps-nothing : (taken : List TakenNote) (reads : List Reading) (a b : Option (List ℕ)) → Gained a b (λ bytes. AreReadAt taken reads [] bytes)
    → Keeps a b
keeps-nothing taken reads None b gained = tt
keeps-nothing taken reads (Some xs) None gained = absurd gained
keeps-nothing taken reads (Some xs) (Some ys) ([], is, are) = is ∙ append-nil xs
keeps-nothing taken reads (Some xs) (Some ys) (b ∷ bs, is, are) = absurd are

-- the bytes that are done with are those that were, so the shelf has them still
pub shelves-stay : (was now : List FlowQueue) (old new : AppView) (t : TakenNote) → new.taken ≡ old.taken ++ t ∷ [] → new.reads ≡ old.reads
    → ((n : ℕ) → marks_done n now new.taken ≡ marks_done n was old.taken) → ((n : ℕ) → many n was ≤ 1) → ((n : ℕ) → many n now ≤ 1)
    → Each (FlowEnds new.taken) now → (first kept : ℕ → Option (List ℕ)) → AreShelved first kept was old → AreShelved first kept now new
shelves-stay was now old new t taken reads done few later ends first kept shelved = record {
  flows = each-map (FlowEnds new.taken) (IsShelved first kept new.taken new.reads) now
      (λ f is _. record { gained = subst (Has new.taken new.reads f.number) (done-of new.taken f now is (later f.number)) (all f.number) }) ends;
  others = λ n none. keeps-nothing new.taken new.reads (first n) (kept n)
      (subst (Has new.taken new.reads n) (done-none n new.taken now none) (all n));
}
  where
    Has : List TakenNote → List Reading → ℕ → List Mark → Type 0
    Has ts rs n ms = Gained (first n) (kept n) (λ bytes. AreReadAt ts rs ms bytes)

    before : (n : ℕ) → Has old.taken old.reads n (marks_done n was old.taken)
    before n = each-done (Has old.taken old.reads) n old.taken was (few n)
        (each-map (IsShelved first kept old.taken old.reads) (λ f. Has old.taken old.reads f.number (done_in old.taken f)) was
        (λ f _ is. is.gained) shelved.flows)
        (λ none. gained-nothing (first n) (kept n) _ tt (shelved.others n none))

    all : (n : ℕ) → Has new.taken new.reads n (marks_done n now new.taken)
    all n = subst (Has new.taken new.reads n) (sym (done n)) (subst (λ rs. Has new.taken rs n (marks_done n was old.taken)) (sym reads)
        (subst (λ ts. Has ts old.reads n (marks_done n was old.taken)) (sym taken)
        (Gained-weaker (first n) (kept n) (λ bytes. AreReadAt old.taken old.reads (marks_done n was old.taken) bytes)
        (λ bytes. AreReadAt (old.taken ++ t ∷ []) old.reads (marks_done n was old.taken) bytes)
        (λ bytes are. all-noted old.taken t old.reads (marks_done n was old.taken) bytes are) (before n))))
