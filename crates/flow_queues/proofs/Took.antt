-- A note was taken, and its piece entered.
use Rattle.std.proofs.Common.{◌≡◌, ◌≢◌, ℕ, ◌+◌, ◌<◌, ◌≤◌, false, List, [], ◌∷◌, ◌++◌, length, set, get_or, refl}
use Rattle.std.{proofs.{Common.{sym, ap, subst, ◌∙◌, arith, ⊎_elim, inl, inr, length-append}, lemmas.Bool.{cases_lt, cases_eq, ne_eqb}}, specs.Prelude.{◌==◌, All}}
use Rattle.std.proofs.lemmas.{Bool.Decides.{nat_tests}, List.Elements.{All-head, All-tail}}
use Rattle.zr_kinds.specs.{Limits.{longest_payload}, declared.{place.{Place.{Place}, Note.{Note}}, ring.Completion.{Completion}}}
use Rattle.zr_kinds.specs.CopyingReceiver.{Placed, nothing_placed}
use Rattle.tcp_reorder.{specs.{Queue.{Queue}, Values.{Holds}}, proofs.Holding.{Holds-nothing}}
use Rattle.board_face.specs.{Tokens.{AreApart}, AppCalls.{TookNote}, declared.views.app.{Origin.TheVariants.{Note as of_note}, TakenNote.{TakenNote}}}
use Rattle.board_face.specs.declared.views.{app.{HeldPiece.{HeldPiece}, LentPiece.{LentPiece}, AppView.{AppView}}, parts.Setting.{Setting}}
use Rattle.flow_queues.specs.{declared.queues.{Waiting.{Waiting}, Lending.{Lending}, FlowQueue.{FlowQueue}}, Marks.{Mark}}
use Rattle.flow_queues.specs.Core.{total, IsIn, LieApart, has_at, is_odd, held_piece, lent_piece, over_kept, over_read, IsOfNote, marks_of_waiting, received_note}
use Rattle.flow_queues.specs.{Core.{own_notes, FlowStands, Each, many, HasTokens, Stands}, Pieces.{whole_piece}, Flows.{fresh_flow, IsChosen}}
use Rattle.flow_queues.proofs.{Tokens.{total-append, in-right, in-total, not-odd}, Placing.{next_note, own-notes-other}}
use Rattle.flow_queues.proofs.Standing.{At, split-at, each-map, each-right, each-join, is_number, number-is, number-not, total-changed, many-same, each-changed}
use Rattle.flow_queues.proofs.NotesStay.{flow-took, flow-took-other, flow-begun, loans-still, due-still, due-known}

-- ---- a new place

has-le : (b x : ℕ) (p : Place) → has_at b x p ≤ 1
has-le b x p = grind (arith, nat_tests)

has-apart : (b x : ℕ) (p q : Place) → AreApart p q → has_at b x p + has_at b x q ≤ 1
has-apart b x p q (inl other) = ⊎_elim
    (λ (is : p.buffer ≡ b). let no : (q.buffer == b) ≡ false = ne_eqb q.buffer b (λ e. other (is ∙ sym e)) in rw no (omega (arith, has-le b x p)))
    (λ not. let no : (p.buffer == b) ≡ false = ne_eqb p.buffer b not in rw no (omega (arith, has-le b x q)))
    (cases_eq p.buffer b)
has-apart b x p q (inr (inl before)) = grind (arith, nat_tests)
has-apart b x p q (inr (inr behind)) = grind (arith, nat_tests)

none-there : {A : Type 0} (place : A → Place) (b x : ℕ) (p : Place) (xs : List A) → All (λ y. AreApart (place y) p) xs → has_at b x p ≡ 1
    → total (λ y. has_at b x (place y)) xs ≡ 0
none-there place b x p [] all has = refl
none-there place b x p (y ∷ ys) all has =
    omega (
      arith,
      has-apart b x (place y) p (All-head (λ y. AreApart (place y) p) y ys all),
      has,
      none-there place b x p ys (All-tail (λ y. AreApart (place y) p) y ys all) has,
    )

-- what a note that was taken adds
abbrev pub new_held : AppView → Note → HeldPiece
new_held v note = record { place = note.place; origin = of_note (length v.taken) 0 }

pub record Took (old mid : AppView) (note : Note) (number : ℕ) (held : Place) : Type 0 where
  pub apart : LieApart mid
  pub moved : (f : HeldPiece → ℕ) → total f mid.helds ≡ total f old.helds + f (held_piece (whole_piece number held))
  pub out : IsIn (held_piece (whole_piece number held)) mid.helds

pub is-took : (old mid : AppView) (note : Note) (number : ℕ) (held : Place) → LieApart old → number ≡ length old.taken → TookNote old mid note held
    → Took old mid note number held
is-took old mid note number held lie count took =
    let h : HeldPiece = new_held old note in
    let same : h ≡ held_piece (whole_piece number held) = ap (λ (n : ℕ). the_held note.place n) (sym count)
    ∙ ap (λ (p : Place). the_held p number) (sym took.place) in
    let helds : mid.helds ≡ old.helds ++ h ∷ [] = ap (λ (v : AppView). v.helds) took.event in
    let loans : mid.loans ≡ old.loans = ap (λ (v : AppView). v.loans) took.event in
    let setting : mid.setting ≡ old.setting = ap (λ (v : AppView). v.setting) took.event in
    let moved : (f : HeldPiece → ℕ) → total f mid.helds
    ≡ total f old.helds + f h = λ f. omega (arith, ap (total f) helds, total-append f old.helds (h ∷ [])) in
    record {
      apart = record {
        once = λ b x. once b x (omega (arith, moved (λ h. has_at b x h.place))) (ap (total (λ l. has_at b x l.place)) loans);
        some = subst (λ (s : Setting). total (λ h. is_odd s.layout h.place) mid.helds + total (λ l. is_odd s.layout l.place) mid.loans ≡ 0) (sym setting)
            (omega (
              arith,
              moved (λ h. is_odd old.setting.layout h.place),
              ap (total (λ l. is_odd old.setting.layout l.place)) loans,
              lie.some,
              not-odd old.setting.layout note.place took.some_bytes few took.lies,
            ));
      };
      moved = λ f. omega (arith, moved f, ap f same);
      out = subst (λ k. IsIn k mid.helds) same (subst (IsIn h) (sym helds) (in-right h old.helds (h ∷ []) (inl refl)));
    }
  where
    the_held : Place → ℕ → HeldPiece
    the_held place n = record { place = place; origin = of_note n 0 }

    few : note.place.len ≤ longest_payload
    few = omega (arith, took.fields.within, took.fields.bounded)

    once : (b x : ℕ) → total (λ h. has_at b x h.place) mid.helds ≡ total (λ h. has_at b x h.place) old.helds + has_at b x note.place
        → total (λ l. has_at b x l.place) mid.loans ≡ total (λ l. has_at b x l.place) old.loans
        → total (λ h. has_at b x h.place) mid.helds + total (λ l. has_at b x l.place) mid.loans ≤ 1
    once b x helds loans = ⊎_elim
        (λ (none : has_at b x note.place < 1). omega (arith, helds, loans, lie.once b x, none))
        (λ (some : 1 ≤ has_at b x note.place).
        let one : has_at b x note.place ≡ 1 = omega (arith, some, has-le b x note.place) in
        omega (
          arith,
          helds,
          loans,
          one,
          none-there (λ h. h.place) b x note.place old.helds took.apart.helds one,
          none-there (λ l. l.place) b x note.place old.loans took.apart.loans one,
        ))
        (cases_lt (has_at b x note.place) 1)

-- ---- all that is kept then

abbrev pub taken_note : Note → TakenNote
taken_note note = record { note = note; bytes = [] }

-- the loans are the same, and have the origins that they had
loans-grown : (count : ℕ) (flows : List FlowQueue) (posted : List (Completion × Lending)) (due : List Lending) (old new : AppView) (t : TakenNote)
    → Stands count flows posted due old → new.taken ≡ old.taken ++ t ∷ [] → new.loans ≡ old.loans
    → (f : LentPiece → ℕ) → total f new.loans ≡ total (λ p. f (lent_piece new.taken p.1)) posted + over_read new.taken f due
loans-grown count flows posted due old new t stands taken loans = subst
    (λ ts. (f : LentPiece → ℕ) → total f new.loans ≡ total (λ p. f (lent_piece ts p.1)) posted + over_read ts f due) (sym taken)
    (λ f. omega (
      arith,
      ap (total f) loans,
      stands.tokens.loans f,
      loans-still old.taken t posted stands.lent f,
      due-still old.taken t due stands.due_lent f,
    ))

module _ (count : ℕ) (posted : List (Completion × Lending)) (due : List Lending) (old new : AppView) (t : TakenNote)
    (view : new ≡ record old { taken = old.taken ++ t ∷ []; helds = new.helds }) (lie : LieApart new) (number : ℕ) (count_is : number ≡ count) where
  taken_is : new.taken ≡ old.taken ++ t ∷ []
  taken_is = ap (λ (v : AppView). v.taken) view

  lent-too : Each (λ p. p.1.note < length old.taken) posted → Each (λ p. p.1.note < length new.taken) posted
  lent-too each = subst (λ ts. Each (λ p. p.1.note < length ts) posted) (sym taken_is)
      (each-map (λ p. p.1.note < length old.taken) (λ p. p.1.note < length (old.taken ++ t ∷ [])) posted
      (λ p _ below. omega (arith, below, length-append old.taken (t ∷ []))) each)

  due-too : Each (λ l. l.note < length old.taken) due → Each (λ l. l.note < length new.taken) due
  due-too known = subst (λ ts. Each (λ l. l.note < length ts) due) (sym taken_is) (due-known old.taken t due known)

  -- in the queue of a flow that was there
  pub took-there : (before after : List FlowQueue) (own : FlowQueue) (q : Queue Waiting) → Stands count (before ++ own ∷ after) posted due old
      → own.number ≡ t.note.flow → q.base ≡ own.queue.base → q.popped ≡ own.queue.popped
      → ((f : HeldPiece → ℕ) → total f new.helds + over_kept f own.queue ≡ total f old.helds + over_kept f q)
      → ((placed : Placed Mark) → Holds marks_of_waiting own.queue placed
      → Holds marks_of_waiting q (received_note own.queue.base placed (record { number = number; note = t.note })))
      → (Each (λ k. IsOfNote (old.taken ++ t ∷ []) k.piece) own.queue.kept → Each (λ k. IsOfNote (old.taken ++ t ∷ []) k.piece) q.kept)
      → Stands (count + 1) (before ++ record own { queue = q } ∷ after) posted due new
  took-there before after own q stands flow base popped moved enters keeps =
      let now : FlowQueue = record own { queue = q } in
      let same : (n : ℕ) → many n (before ++ now ∷ after) ≡ many n (before ++ own ∷ after) = many-same before after own now refl in
      let loans : new.loans ≡ old.loans = ap (λ (v : AppView). v.loans) view in
      let enters_next : (placed : Placed Mark) → Holds marks_of_waiting own.queue placed
      → Holds marks_of_waiting q (received_note own.queue.base placed (next_note old.taken t)) =
      subst (λ k. (placed : Placed Mark) → Holds marks_of_waiting own.queue placed
      → Holds marks_of_waiting q (received_note own.queue.base placed (record { number = k; note = t.note }))) (count_is ∙ stands.notes) enters in
      let own_many : many own.number (before ++ own ∷ after)
      ≡ 1 = omega (arith, stands.distinct own.number, total-append (is_number own.number) before (own ∷ after), number-is own.number own refl) in
      record {
        tokens = record {
          apart = lie;
          helds = λ f. omega (arith, moved f, stands.tokens.helds f, total-changed before after own now (λ flow. over_kept f flow.queue));
          loans = loans-grown count (before ++ own ∷ after) posted due old new t stands taken_is loans;
        };
        notes = omega (arith, stands.notes, ap length taken_is, length-append old.taken (t ∷ []));
        distinct = λ n. omega (arith, same n, stands.distinct n);
        flows = subst (λ (ts : List TakenNote). Each (FlowStands ts posted) (before ++ now ∷ after)) (sym taken_is)
            (each-changed (FlowStands old.taken posted) (FlowStands (old.taken ++ t ∷ []) posted) before after own now
            (stands.distinct own.number) stands.flows
            (λ f other. flow-took-other old.taken t posted f (λ e. other (e ∙ sym flow)))
            (flow-took old.taken t posted own q flow base popped enters_next keeps
            (each-right (FlowStands old.taken posted) before (own ∷ after) stands.flows).0));
        known = λ n none. ap (own_notes n) taken_is ∙ own-notes-other n old.taken t
            (λ e. absurd (let one : many n (before ++ own ∷ after)
            ≡ 1 = subst (λ k. many k (before ++ own ∷ after) ≡ 1) (flow ∙ e) own_many in omega (arith, one, same n, none)))
            ∙ stands.known n (sym (same n) ∙ none);
        posted = each-map (λ p. many p.0.user_data (before ++ own ∷ after) ≡ 1) (λ p. many p.0.user_data (before ++ now ∷ after) ≡ 1) posted
            (λ p there one. same p.0.user_data ∙ one) stands.posted;
        lent = lent-too stands.lent;
        due_lent = due-too stands.due_lent;
        counted = ap (λ (v : AppView). v.scrubbed) view ∙ stands.counted;
      }

  -- in that of a flow that begins
  pub took-begun : (flows : List FlowQueue) (q : Queue Waiting) → Stands count flows posted due old → many t.note.flow flows ≡ 0
      → q.base ≡ t.note.base
      → q.popped ≡ 0
      → ((f : HeldPiece → ℕ) → total f new.helds ≡ total f old.helds + over_kept f q)
      → ((placed : Placed Mark) → Holds marks_of_waiting (fresh_flow t.note).queue placed
      → Holds marks_of_waiting q (received_note t.note.base placed (record { number = number; note = t.note })))
      → Each (λ k. IsOfNote (old.taken ++ t ∷ []) k.piece) q.kept
      → Stands (count + 1) (flows ++ record (fresh_flow t.note) { queue = q } ∷ []) posted due new
  took-begun flows q stands none base popped moved enters keeps =
      let now : FlowQueue = record (fresh_flow t.note) { queue = q } in
      let more : (n : ℕ) → many n (flows ++ now ∷ []) ≡ many n flows + is_number n now = λ n. omega
      (arith, total-append (is_number n) flows (now ∷ [])) in
      let loans : new.loans ≡ old.loans = ap (λ (v : AppView). v.loans) view in
      let holds : Holds marks_of_waiting q (received_note t.note.base nothing_placed (next_note old.taken t)) =
      subst (λ k. Holds marks_of_waiting q (received_note t.note.base nothing_placed (record { number = k; note = t.note }))) (count_is ∙ stands.notes)
      (enters nothing_placed (Holds-nothing marks_of_waiting t.note.base)) in
      let other : (n : ℕ) → n ≢ t.note.flow → is_number n now
      ≡ 0 = λ n away. (let no : (t.note.flow == n) ≡ false = ne_eqb t.note.flow n (λ e. away (sym e)) in rw no refl) in
      record {
        tokens = record {
          apart = lie;
          helds = λ f. omega (arith, moved f, stands.tokens.helds f, total-append (λ flow. over_kept f flow.queue) flows (now ∷ []));
          loans = loans-grown count flows posted due old new t stands taken_is loans;
        };
        notes = omega (arith, stands.notes, ap length taken_is, length-append old.taken (t ∷ []));
        distinct = λ n. ⊎_elim
            (λ (is : n ≡ t.note.flow). let zero_many : many n flows
            ≡ 0 = subst (λ k. many k flows ≡ 0) (sym is) none in omega (arith, more n, zero_many, number-is n now (sym is)))
            (λ away. omega (arith, more n, other n away, stands.distinct n))
            (cases_eq n t.note.flow);
        flows = subst (λ (ts : List TakenNote). Each (FlowStands ts posted) (flows ++ now ∷ [])) (sym taken_is)
            (each-join (FlowStands (old.taken ++ t ∷ []) posted) flows (now ∷ [])
            (each-map (FlowStands old.taken posted) (FlowStands (old.taken ++ t ∷ []) posted) flows
            (λ f there. flow-took-other old.taken t posted f
            (number-not t.note.flow f (omega (arith, in-total (is_number t.note.flow) f flows there, none)))) stands.flows)
            (flow-begun old.taken t posted flows q none (stands.known t.note.flow none) stands.posted base popped holds keeps, tt));
        known = λ n nothing. ap (own_notes n) taken_is ∙ own-notes-other n old.taken t
            (λ (e : t.note.flow ≡ n). absurd (omega (arith, more n, number-is n now e, nothing))) ∙ stands.known n (omega (arith, more n, nothing));
        posted = each-map (λ p. many p.0.user_data flows ≡ 1) (λ p. many p.0.user_data (flows ++ now ∷ []) ≡ 1) posted
            (λ p there one. omega (
              arith,
              more p.0.user_data,
              one,
              other p.0.user_data (λ e. absurd (let gone : many p.0.user_data flows
                  ≡ 0 = subst (λ k. many k flows ≡ 0) (sym e) none in omega (arith, gone, one))),
            )) stands.posted;
        lent = lent-too stands.lent;
        due_lent = due-too stands.due_lent;
        counted = ap (λ (v : AppView). v.scrubbed) view ∙ stands.counted;
      }

-- ---- the place of the queue

pub get-last : (was : List FlowQueue) (f d : FlowQueue) → get_or (was ++ f ∷ []) (length was) d ≡ f
get-last [] f d = refl
get-last (w ∷ was) f d = get-last was f d

pub set-last : (was : List FlowQueue) (f x : FlowQueue) → set (was ++ f ∷ []) (length was) x ≡ was ++ x ∷ []
set-last [] f x = refl
set-last (w ∷ was) f x = ap (λ fs. w ∷ fs) (set-last was f x)

module _ (count : ℕ) (posted : List (Completion × Lending)) (due : List Lending) (old new : AppView) (t : TakenNote)
    (view : new ≡ record old { taken = old.taken ++ t ∷ []; helds = new.helds }) (lie : LieApart new) (number : ℕ) (count_is : number ≡ count)
    (was flows : List FlowQueue) (i : ℕ) (own : FlowQueue) (q : Queue Waiting) (chosen : IsChosen was flows t.note i) (within : i < length flows)
    (value : own ≡ get_or flows i own) (stands : Stands count was posted due old)
    (moved : (f : HeldPiece → ℕ) → total f new.helds + over_kept f own.queue ≡ total f old.helds + over_kept f q) where
  loans_same : new.loans ≡ old.loans
  loans_same = ap (λ (v : AppView). v.loans) view

  -- the tokens that are out are those that are kept
  pub entered-tokens : HasTokens (set flows i (record own { queue = q })) posted due new
  entered-tokens = record {
    apart = lie;
    helds = helds;
    loans = loans-grown count was posted due old new t stands (ap (λ (v : AppView). v.taken) view) loans_same;
  }
    where
      helds : (f : HeldPiece → ℕ) → total f new.helds ≡ total (λ flow. over_kept f flow.queue) (set flows i (record own { queue = q }))
      helds f = ⊎_elim
          (λ (there : (flows ≡ was) × ((d : FlowQueue) → (get_or flows i d).number ≡ t.note.flow)).
          let at : At flows i own = split-at flows i own within value in
          let sum : total (λ flow. over_kept f flow.queue) was
          ≡ total (λ flow. over_kept f flow.queue) (at.before ++ own ∷ at.after) = ap (total (λ flow. over_kept f flow.queue))
          (sym there.0 ∙ at.is) in
          let changed : total (λ flow. over_kept f flow.queue) (set flows i (record own { queue = q }))
          ≡ total (λ flow. over_kept f flow.queue) (at.before ++ record own { queue = q } ∷ at.after) = ap (total (λ flow. over_kept f flow.queue))
          (at.set_is (record own { queue = q })) in
          omega (
            arith,
            moved f,
            stands.tokens.helds f,
            sum,
            changed,
            total-changed at.before at.after own (record own { queue = q }) (λ flow. over_kept f flow.queue),
          ))
          (λ (begun : (many t.note.flow was ≡ 0) × (flows ≡ was ++ fresh_flow t.note ∷ []) × (i ≡ length was)).
          let own_is : own ≡ fresh_flow t.note = value ∙ ap (λ (fs : List FlowQueue). get_or fs i own) begun.1
          ∙ ap (λ k. get_or (was ++ fresh_flow t.note ∷ []) k own) begun.2 ∙ get-last was (fresh_flow t.note) own in
          let none : over_kept f own.queue ≡ 0 = ap (λ (o : FlowQueue). over_kept f o.queue) own_is in
          let set_is : set flows i (record own { queue = q })
          ≡ was ++ record own { queue = q } ∷ [] = ap (λ (fs : List FlowQueue). set fs i (record own { queue = q })) begun.1
          ∙ ap (λ k. set (was ++ fresh_flow t.note ∷ []) k (record own { queue = q })) begun.2
          ∙ set-last was (fresh_flow t.note) (record own { queue = q }) in
          omega (
            arith,
            moved f,
            stands.tokens.helds f,
            none,
            ap (total (λ flow. over_kept f flow.queue)) set_is,
            total-append (λ flow. over_kept f flow.queue) was (record own { queue = q } ∷ []),
          ))
          chosen

  pub entered-stands : q.base ≡ own.queue.base → q.popped ≡ own.queue.popped
      → ((placed : Placed Mark) → Holds marks_of_waiting own.queue placed
      → Holds marks_of_waiting q (received_note own.queue.base placed (record { number = number; note = t.note })))
      → (Each (λ k. IsOfNote (old.taken ++ t ∷ []) k.piece) own.queue.kept → Each (λ k. IsOfNote (old.taken ++ t ∷ []) k.piece) q.kept)
      → Stands (count + 1) (set flows i (record own { queue = q })) posted due new
  entered-stands base popped enters keeps = ⊎_elim
      (λ (there : (flows ≡ was) × ((d : FlowQueue) → (get_or flows i d).number ≡ t.note.flow)).
      let at : At flows i own = split-at flows i own within value in
      let flow : own.number ≡ t.note.flow = ap (λ (o : FlowQueue). o.number) value ∙ there.1 own in
      let before : Stands count (at.before ++ own ∷ at.after) posted due old = subst (λ (fs : List FlowQueue). Stands count fs posted due old)
      (sym there.0 ∙ at.is) stands in
      subst (λ (fs : List FlowQueue). Stands (count + 1) fs posted due new) (sym (at.set_is (record own { queue = q })))
      (took-there count posted due old new t view lie number count_is at.before at.after own q before flow base popped moved enters keeps))
      (λ (begun : (many t.note.flow was ≡ 0) × (flows ≡ was ++ fresh_flow t.note ∷ []) × (i ≡ length was)).
      let own_is : own ≡ fresh_flow t.note = value ∙ ap (λ (fs : List FlowQueue). get_or fs i own) begun.1
      ∙ ap (λ k. get_or (was ++ fresh_flow t.note ∷ []) k own) begun.2 ∙ get-last was (fresh_flow t.note) own in
      let none : (f : HeldPiece → ℕ) → over_kept f own.queue ≡ 0 = λ f. ap (λ (o : FlowQueue). over_kept f o.queue) own_is in
      let set_is : set flows i (record own { queue = q }) ≡ was ++ record (fresh_flow t.note) { queue = q } ∷ [] =
      ap (λ (fs : List FlowQueue). set fs i (record own { queue = q })) begun.1
      ∙ ap (λ k. set (was ++ fresh_flow t.note ∷ []) k (record own { queue = q })) begun.2 ∙ set-last was (fresh_flow t.note) (record own { queue = q })
      ∙ ap (λ (o : FlowQueue). was ++ record o { queue = q } ∷ []) own_is in
      subst (λ (fs : List FlowQueue). Stands (count + 1) fs posted due new) (sym set_is)
      (took-begun count posted due old new t view lie number count_is was q stands begun.0 (base ∙ ap (λ (o : FlowQueue). o.queue.base) own_is)
      (popped ∙ ap (λ (o : FlowQueue). o.queue.popped) own_is) (λ f. omega (arith, moved f, none f))
      (subst (λ (o : FlowQueue). (placed : Placed Mark) → Holds marks_of_waiting o.queue placed
      → Holds marks_of_waiting q (received_note o.queue.base placed (record { number = number; note = t.note }))) own_is enters)
      (subst (λ (o : FlowQueue). Each (λ k. IsOfNote (old.taken ++ t ∷ []) k.piece) o.queue.kept
      → Each (λ k. IsOfNote (old.taken ++ t ∷ []) k.piece) q.kept) own_is keeps tt)))
      chosen

-- nothing of it is kept
pub kept-tokens : (count : ℕ) (flows : List FlowQueue) (posted : List (Completion × Lending)) (due : List Lending) (old new : AppView) (t : TakenNote)
    → new.taken ≡ old.taken ++ t ∷ [] → new.loans ≡ old.loans → LieApart new
    → ((f : HeldPiece → ℕ) → total f new.helds ≡ total f old.helds)
    → Stands count flows posted due old → HasTokens flows posted due new
kept-tokens count flows posted due old new t taken loans lie helds stands = record {
  apart = lie;
  helds = λ f. helds f ∙ stands.tokens.helds f;
  loans = loans-grown count flows posted due old new t stands taken loans;
}
