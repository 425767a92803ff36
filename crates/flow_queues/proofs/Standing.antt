-- How what is kept stands to what was seen, step by step.
use Rattle.std.proofs.Common.{◌≡◌, ◌≢◌, ℕ, zero, suc, ◌+◌, ◌-◌, ◌<◌, ◌≤◌, true, false, if◌then◌else◌, List, [], ◌∷◌}
use Rattle.std.{proofs.Common.{◌++◌, length, set, get_or, refl, sym, ap, subst, ◌∙◌, arith, inl, inr, append_assoc, append-nil}, specs.Prelude.{◌==◌}}
use Rattle.std.proofs.lemmas.Bool.{eq-eqb, Decides.{nat_tests}}
use Rattle.zr_kinds.specs.{declared.ring.Completion.{Completion}, CopyingReceiver.{Placed, nothing_placed, values_from}}
use Rattle.tcp_reorder.{specs.{declared.places.Span.{Span}, Queue.{Queue}, Gaps.{LosesFirst}, Values.{Holds}}, proofs.Holding.{IsPopped, Holds-popped}}
use Rattle.board_face.specs.{declared.views.app.{TakenNote.{TakenNote}, HeldPiece.{HeldPiece}, LentPiece.{LentPiece}, AppView.{AppView}}, AppEvents.{app_saw}}
use Rattle.board_face.specs.declared.views.app.AppLook.{AppLook}
use Rattle.flow_queues.specs.{declared.queues.{Waiting.{Waiting}, Lending.{Lending}, FlowQueue.{FlowQueue}}, Marks.{Mark}}
use Rattle.flow_queues.specs.Core.{total, IsIn, lent_piece, over_kept, marks_of_waiting, marks_of_loan, received_notes, own_notes, BeginAt, lent_marks}
use Rattle.flow_queues.{specs.{Core.{placed_of, IsOfNote, FlowStands, Each, many, over_read, Stands}, Lent.{LentNext}}, proofs.Tokens.{total-append, in-total}}
use Rattle.flow_queues.proofs.{Lends.{over-first, each-first}, Placing.{values-split}}

-- ---- lists

pub record At {A : Type 0} (xs : List A) (i : ℕ) (x : A) : Type 0 where
  pub before : List A
  pub after : List A
  pub is : xs ≡ before ++ x ∷ after
  pub set_is : (y : A) → set xs i y ≡ before ++ y ∷ after

pub split-at : {A : Type 0} (xs : List A) (i : ℕ) (x : A) → i < length xs → x ≡ get_or xs i x → At xs i x
split-at [] i x within e = absurd (omega arith)
split-at (y ∷ xs) zero x within e = record { before = []; after = xs; is = ap (λ z. z ∷ xs) (sym e); set_is = λ z. refl }
split-at (y ∷ xs) (suc i) x within e =
    let there : At xs i x = split-at xs i x (omega arith) e in
    record { before = y ∷ there.before; after = there.after; is = ap (λ zs. y ∷ zs) there.is; set_is = λ z. ap (λ zs. y ∷ zs) (there.set_is z) }

pub each-map : {A : Type 0} (P Q : A → Type 0) → (xs : List A) → ((x : A) → IsIn x xs → P x → Q x) → Each P xs → Each Q xs
each-map P Q [] step each = tt
each-map P Q (x ∷ xs) step each = (step x (inl refl) each.0, each-map P Q xs (λ y there. step y (inr there)) each.1)

pub each-left : {A : Type 0} (P : A → Type 0) (xs ys : List A) → Each P (xs ++ ys) → Each P xs
each-left P [] ys each = tt
each-left P (x ∷ xs) ys each = (each.0, each-left P xs ys each.1)

pub each-right : {A : Type 0} (P : A → Type 0) (xs ys : List A) → Each P (xs ++ ys) → Each P ys
each-right P [] ys each = each
each-right P (x ∷ xs) ys each = each-right P xs ys each.1

pub each-join : {A : Type 0} (P : A → Type 0) (xs ys : List A) → Each P xs → Each P ys → Each P (xs ++ ys)
each-join P [] ys first second = second
each-join P (x ∷ xs) ys first second = (first.0, each-join P xs ys first.1 second)

-- two parts of a list are those of as many elements
pub parts-alike : {A : Type 0} (xs ys zs ws : List A) → length xs ≡ length zs → xs ++ ys ≡ zs ++ ws → (xs ≡ zs) × (ys ≡ ws)
parts-alike [] ys [] ws size e = (refl, e)
parts-alike [] ys (z ∷ zs) ws size e = absurd (omega arith)
parts-alike (x ∷ xs) ys [] ws size e = absurd (omega arith)
parts-alike (x ∷ xs) ys (z ∷ zs) ws size e =
    let head : x ≡ z = cc in
    let tail : xs ++ ys ≡ zs ++ ws = cc in
    let (first, second) = parts-alike xs ys zs ws (omega arith) tail in
    (ap (λ y. y ∷ xs) head ∙ ap (λ l. z ∷ l) first, second)

-- ---- one flow of many changes

abbrev pub is_number : ℕ → FlowQueue → ℕ
is_number n f = if f.number == n then 1 else 0

pub number-is : (n : ℕ) (f : FlowQueue) → f.number ≡ n → is_number n f ≡ 1
number-is n f e = let yes : (f.number == n) ≡ true = eq-eqb f.number n e in rw yes refl

pub number-not : (n : ℕ) (f : FlowQueue) → is_number n f ≡ 0 → f.number ≢ n
number-not n f none = λ e. absurd (omega (arith, number-is n f e, none))

pub total-changed : (before after : List FlowQueue) (own now : FlowQueue) (h : FlowQueue → ℕ)
    → total h (before ++ now ∷ after) + h own ≡ total h (before ++ own ∷ after) + h now
total-changed before after own now h = omega (arith, total-append h before (now ∷ after), total-append h before (own ∷ after))

pub many-same : (before after : List FlowQueue) (own now : FlowQueue) → now.number ≡ own.number → (n : ℕ)
    → many n (before ++ now ∷ after) ≡ many n (before ++ own ∷ after)
many-same before after own now same n =
    let e : is_number n now ≡ is_number n own = ap (λ k. if k == n then 1 else 0) same in
    omega (arith, total-changed before after own now (is_number n), e)

-- the others have other numbers
pub each-changed : (P Q : FlowQueue → Type 0) (before after : List FlowQueue) (own now : FlowQueue) → many own.number (before ++ own ∷ after) ≤ 1
    → Each P (before ++ own ∷ after)
    → ((f : FlowQueue) → f.number ≢ own.number → P f → Q f) → Q now → Each Q (before ++ now ∷ after)
each-changed P Q before after own now one each step here =
    let n : ℕ = own.number in
    let parts : many n (before ++ own ∷ after) ≡ many n before + (is_number n own + many n after) = total-append (is_number n) before (own ∷ after) in
    let own_one : is_number n own ≡ 1 = number-is n own refl in
    let of_rest : Each P (own ∷ after) = each-right P before (own ∷ after) each in
    each-join Q before (now ∷ after)
    (each-map P Q before (λ f there. step f (number-not n f (omega (arith, in-total (is_number n) f before there, parts, own_one, one))))
    (each-left P before (own ∷ after) each))
    (here, each-map P Q after (λ f there. step f (number-not n f (omega (arith, in-total (is_number n) f after there, parts, own_one, one)))) of_rest.1)

-- ---- a piece is lent

lent-push : (flow : ℕ) (posted : List (Completion × Lending)) (p : Completion × Lending)
    → lent_marks flow (posted ++ p ∷ []) ≡ lent_marks flow posted ++ (if p.0.user_data == flow then marks_of_loan p.1 else [])
lent-push flow [] p = append-nil (if p.0.user_data == flow then marks_of_loan p.1 else [])
lent-push flow (q ∷ posted) p =
    let mine : List Mark = if q.0.user_data == flow then marks_of_loan q.1 else [] in
    ap (λ ms. mine ++ ms) (lent-push flow posted p) ∙ sym
    (append_assoc mine (lent_marks flow posted) (if p.0.user_data == flow then marks_of_loan p.1 else []))

lent-other : (flow : ℕ) (posted : List (Completion × Lending)) (p : Completion × Lending) → flow ≢ p.0.user_data
    → lent_marks flow (posted ++ p ∷ []) ≡ lent_marks flow posted
lent-other flow posted p other =
    let no : (p.0.user_data == flow) ≡ false = grind (arith, nat_tests) in
    lent-push flow posted p ∙ ap (λ b. lent_marks flow posted ++ (if b then marks_of_loan p.1 else [])) no ∙ append-nil (lent_marks flow posted)

lent-here : (flow : ℕ) (posted : List (Completion × Lending)) (p : Completion × Lending) → p.0.user_data ≡ flow
    → lent_marks flow (posted ++ p ∷ []) ≡ lent_marks flow posted ++ marks_of_loan p.1
lent-here flow posted p here =
    let yes : (p.0.user_data == flow) ≡ true = eq-eqb p.0.user_data flow here in
    lent-push flow posted p ∙ ap (λ b. lent_marks flow posted ++ (if b then marks_of_loan p.1 else [])) yes

-- of another flow than that of the completion
pub flow-posted-other : (taken : List TakenNote) (posted : List (Completion × Lending)) (p : Completion × Lending) (f : FlowQueue)
    → f.number ≢ p.0.user_data → FlowStands taken posted f → FlowStands taken (posted ++ p ∷ []) f
flow-posted-other taken posted p f other stands = record {
  begun = stands.begun;
  holds = stands.holds;
  notes = stands.notes;
  counted = stands.counted;
  lent = lent-other f.number posted p other ∙ stands.lent;
}

-- of the completion's flow
pub flow-lent : (taken : List TakenNote) (posted : List (Completion × Lending)) (own : FlowQueue) (q : Queue Waiting) (piece : Waiting) (span : Span)
    (completion : Completion) (l : Lending) → completion.user_data ≡ own.number → marks_of_loan l ≡ marks_of_waiting piece
    → LosesFirst own.queue q piece span → span.position ≡ own.queue.popped → FlowStands taken posted own
    → FlowStands taken (posted ++ (completion, l) ∷ []) (record own { queue = q })
flow-lent taken posted own q piece span completion l number marks loses begins stands =
    let placed : Placed Mark = placed_of own taken in
    let after_it : IsPopped marks_of_waiting q placed piece own.queue.popped span.len = Holds-popped marks_of_waiting own.queue q placed piece span stands.holds
    loses begins in
    let popped : q.popped ≡ own.queue.popped + span.len = loses.popped ∙ ap (λ n. n + span.len) begins in
    let same : placed_of own taken ≡ placed_of (record own { queue = q }) taken = ap (λ b. received_notes b nothing_placed (own_notes own.number taken))
    (sym loses.base) in
    let steps : q.popped - own.bytes ≡ (own.queue.popped - own.bytes) + span.len = omega (arith, popped, stands.counted) in
    let place : own.bytes + (own.queue.popped - own.bytes) ≡ own.queue.popped = omega (arith, stands.counted) in
    let all : values_from placed.at (q.popped - own.bytes) own.bytes
    ≡ values_from placed.at (own.queue.popped - own.bytes) own.bytes ++ values_from placed.at span.len own.queue.popped =
    ap (λ n. values_from placed.at n own.bytes) steps ∙ values-split placed.at (own.queue.popped - own.bytes) span.len own.bytes
    (λ p from until. stands.holds.popped p (omega arith))
    ∙ ap (λ p. values_from placed.at (own.queue.popped - own.bytes) own.bytes ++ values_from placed.at span.len p) place in
    record {
      begun = subst (λ b. BeginAt b (own_notes own.number taken)) (sym loses.base) stands.begun;
      holds = subst (Holds marks_of_waiting q) same after_it.holds;
      notes = (each-first (IsOfNote taken) own.queue q piece span loses stands.notes).1;
      counted = omega (arith, popped, stands.counted);
      lent = lent-here own.number posted (completion, l) number ∙ ap (λ ms. ms ++ marks_of_loan l) stands.lent
          ∙ ap (λ ms. values_from placed.at (own.queue.popped - own.bytes) own.bytes ++ ms) (marks ∙ after_it.values_are) ∙ sym all
          ∙ ap (λ (p : Placed Mark). values_from p.at (q.popped - own.bytes) own.bytes) same;
    }

-- all that is kept, once a piece was lent, and a completion tells of its flow
pub stands-lent : (count : ℕ) (before after : List FlowQueue) (own now : FlowQueue) (ring : List (Completion × Lending)) (completion : Completion)
    (l : Lending) (due : List Lending) (old new : AppView) → Stands count (before ++ own ∷ after) ring due old → LentNext old new own now l
    → completion.user_data ≡ own.number → Stands count (before ++ now ∷ after) (ring ++ (completion, l) ∷ []) due new
stands-lent count before after own now ring completion l due old new stands step user =
    let p : Completion × Lending = (completion, l) in
    let number : now.number ≡ own.number = ap (λ (f : FlowQueue). f.number) step.flow in
    let taken : new.taken ≡ old.taken = ap (λ (v : AppView). v.taken) step.view in
    let same : (n : ℕ) → many n (before ++ now ∷ after) ≡ many n (before ++ own ∷ after) = many-same before after own now number in
    let here : FlowStands old.taken (ring ++ p ∷ []) now =
    subst (FlowStands old.taken (ring ++ p ∷ [])) (sym step.flow)
    (flow-lent old.taken ring own now.queue step.piece step.span completion l user step.marks step.loses step.begins
    (each-right (FlowStands old.taken ring) before (own ∷ after) stands.flows).0) in
    let flows : Each (FlowStands old.taken (ring ++ p ∷ [])) (before ++ now ∷ after) =
    each-changed (FlowStands old.taken ring) (FlowStands old.taken (ring ++ p ∷ [])) before after own now
    (stands.distinct own.number) stands.flows
    (λ f other. flow-posted-other old.taken ring p f (λ e. other (e ∙ user))) here in
    let own_many : many own.number (before ++ own ∷ after) ≡ 1 =
    omega (arith, stands.distinct own.number, total-append (is_number own.number) before (own ∷ after), number-is own.number own refl) in
    let helds : (f : HeldPiece → ℕ) → total f new.helds ≡ total (λ flow. over_kept f flow.queue) (before ++ now ∷ after) = λ f.
    omega (
      arith,
      step.helds f,
      stands.tokens.helds f,
      total-changed before after own now (λ flow. over_kept f flow.queue),
      over-first f own.queue now.queue step.piece step.span step.loses,
    ) in
    let loans : (f : LentPiece → ℕ) → total f new.loans
    ≡ total (λ p. f (lent_piece old.taken p.1)) (ring ++ p ∷ []) + over_read old.taken f due = λ f.
    omega (arith, step.loans f, stands.tokens.loans f, total-append (λ p. f (lent_piece old.taken p.1)) ring (p ∷ [])) in
    record {
      tokens = record {
        apart = step.apart;
        helds = helds;
        loans = subst (λ ts. (f : LentPiece → ℕ) → total f new.loans
            ≡ total (λ p. f (lent_piece ts p.1)) (ring ++ p ∷ []) + over_read ts f due) (sym taken) loans;
      };
      notes = stands.notes ∙ sym (ap length taken);
      distinct = λ n. omega (arith, same n, stands.distinct n);
      flows = subst (λ (ts : List TakenNote). Each (FlowStands ts (ring ++ p ∷ [])) (before ++ now ∷ after)) (sym taken) flows;
      known = λ n none. ap (own_notes n) taken ∙ stands.known n (sym (same n) ∙ none);
      posted = each-join (λ p. many p.0.user_data (before ++ now ∷ after) ≡ 1) ring (p ∷ [])
          (each-map (λ p. many p.0.user_data (before ++ own ∷ after) ≡ 1) (λ p. many p.0.user_data (before ++ now ∷ after) ≡ 1) ring
          (λ p there one. same p.0.user_data ∙ one) stands.posted)
          (same completion.user_data ∙ ap (λ n. many n (before ++ own ∷ after)) user ∙ own_many, tt);
      lent = subst (λ ts. Each (λ p. p.1.note < length ts) (ring ++ p ∷ [])) (sym taken)
          (each-join (λ p. p.1.note < length old.taken) ring (p ∷ []) stands.lent (step.of_note, tt));
      due_lent = subst (λ ts. Each (λ l. l.note < length ts) due) (sym taken) stands.due_lent;
      counted = ap (λ (v : AppView). v.scrubbed) step.view ∙ stands.counted;
    }

pub flow-out : (count : ℕ) (before after : List FlowQueue) (own : FlowQueue) (posted : List (Completion × Lending)) (due : List Lending) (v : AppView)
    → Stands count (before ++ own ∷ after) posted due v → (f : HeldPiece → ℕ) → over_kept f own.queue ≤ total f v.helds
flow-out count before after own posted due v stands f = omega
    (arith, stands.tokens.helds f, total-append (λ flow. over_kept f flow.queue) before (own ∷ after))

-- a look changes nothing of it
pub stands-saw : (count : ℕ) (flows : List FlowQueue) (posted : List (Completion × Lending)) (due : List Lending) (old : AppView) (look : AppLook)
    → Stands count flows posted due old → Stands count flows posted due (app_saw old look)
stands-saw count flows posted due old look stands = record {
  tokens = record {
    apart = record { once = stands.tokens.apart.once; some = stands.tokens.apart.some };
    helds = stands.tokens.helds;
    loans = stands.tokens.loans;
  };
  notes = stands.notes;
  distinct = stands.distinct;
  flows = stands.flows;
  known = stands.known;
  posted = stands.posted;
  lent = stands.lent;
  due_lent = stands.due_lent;
  counted = stands.counted;
}
