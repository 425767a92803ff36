-- A note is taken.
use Rattle.std.proofs.Common.{◌≡◌, ℕ, ◌+◌, ◌≤◌, true, false, List, [], ◌∷◌, ◌++◌, length, set, take, refl, sym, ap, subst, ◌∙◌, arith, inl, inr}
use Rattle.std.specs.Prelude.{Bool, ◌==◌, if◌then◌else◌}
use Rattle.zr_kinds.specs.declared.place.{Note.{Note}, Place.{Place}}
use Rattle.board_face.specs.{AppCalls.{TookNote, TookLinear}, AppEvents.{released}, declared.views.app.{HeldPiece.{HeldPiece}, TakenNote.{TakenNote}}}
use Rattle.board_face.specs.declared.views.app.AppView.{AppView}
use Rattle.flow_queues.specs.declared.queues.FlowQueue.{FlowQueue}
use Rattle.flow_queues.specs.Core.{total, Each, many, LieApart, held_piece, held_len, short_bytes, unsplit_len, Stands, HasTokens, FlowStands}
use Rattle.flow_queues.specs.{Flows.{IsAtRest, RestBut, IsIndex, fresh_flow, IsChosen}, Pieces.{whole_piece}, Shelves.{FlowEnds}}
use Rattle.flow_queues.specs.{Taking.{ChangesQueue, TakesPiece, LosesPiece, TakesPayload, LosesPayload}, Totals.{taken_len, queue_bytes_of, bytes_if}}
use Rattle.flow_queues.proofs.{Tokens.{total-append, is-released}, Standing.{each-map}, Took.{Took, is-took, taken_note, kept-tokens, set-last}, Indexing.{index-set}}
use Rattle.flow_queues.proofs.{Resting.{rest-all, rest-set, rest-push}, Choosing.{Chosen, is-chosen, each-noted, bytes-noted, total-noted, many-noted}}
use Rattle.flow_queues.specs.{Kept.{QueueState, LoansOut, marks_done, IsBounded, QueuesStand}, Noting.{Noted, NoteEntered}}
use Rattle.flow_queues.proofs.Done.{ends-note, ends-begun, done-grown, done-noted}

none-yet : (b : Bool) (z : ℕ) → (if b then z else z) ≡ z
none-yet true z = refl
none-yet false z = refl

-- what is done with has its place
pub ends-of : (st : QueueState) (out : LoansOut) (v : AppView) → QueuesStand st out v → Each (FlowEnds v.taken) st.flows
ends-of st out v stand = each-map (FlowStands v.taken out.unread) (FlowEnds v.taken) st.flows
    (λ f _ stands. record { begun = stands.begun; below = λ p below. stands.holds.popped p (omega (arith, below, stands.counted)) }) stand.stands.flows

abbrev pub queues_with : ℕ → List FlowQueue → List (ℕ × ℕ) → ℕ → QueueState
queues_with notes flows index active = record { notes = notes; flows = flows; index = index; active = active }

module _ (was : QueueState) (out : LoansOut) (old new : AppView) (t : TakenNote) (stand : QueuesStand was out old)
    (view : new ≡ record old { taken = old.taken ++ t ∷ []; helds = new.helds }) (lie : LieApart new) where
  taken-is : new.taken ≡ old.taken ++ t ∷ []
  taken-is = ap (λ (v : AppView). v.taken) view

  ends-before : Each (FlowEnds old.taken) was.flows
  ends-before = ends-of was out old stand

  bounded-noted : (flows : List FlowQueue)
      → total held_len new.helds + total (λ f. short_bytes f.queue) flows
      ≤ total held_len old.helds + total (λ f. short_bytes f.queue) was.flows + taken_len t
      → total (λ f. short_bytes f.queue) flows ≤ total (λ f. short_bytes f.queue) was.flows + unsplit_len t → IsBounded flows new
  bounded-noted flows few short = record {
    spares = omega (
      arith,
      short,
      stand.bounded.spares,
      ap (λ (v : AppView). v.spares) view,
      ap (total unsplit_len) taken-is,
      total-append unsplit_len old.taken (t ∷ []),
    );
    loans = omega (
      arith,
      few,
      stand.bounded.loans,
      ap (λ (v : AppView). length v.loans) view,
      ap (λ (v : AppView). length v.returned) view,
      ap (total taken_len) taken-is,
      total-append taken_len old.taken (t ∷ []),
    );
  }

  -- nothing of it is kept
  pub none-noted : ((f : HeldPiece → ℕ) → total f new.helds ≡ total f old.helds) → Noted was was old new
  none-noted helds = record {
    note = t;
    view = view;
    tokens = λ o k. kept-tokens was.notes was.flows o.unread o.read old new t taken-is (ap (λ (v : AppView). v.loans) view) lie helds k.stands;
    done = λ n. ap (marks_done n was.flows) taken-is ∙ done-grown n old.taken t was.flows ends-before;
    bytes = λ n. refl;
    sum = refl;
    sound = record {
      ends = subst (λ ts. Each (FlowEnds ts) was.flows) (sym taken-is) (each-map (FlowEnds old.taken) (FlowEnds (old.taken ++ t ∷ [])) was.flows
          (λ f _ e. ends-note old.taken t f f.queue refl e) ends-before);
      distinct = stand.stands.distinct;
      index = stand.index;
    };
    bounded = bounded-noted was.flows (omega (arith, helds held_len)) (omega arith);
  }

  module _ (flows : List FlowQueue) (index : List (ℕ × ℕ)) (i : ℕ) (change : ChangesQueue was.flows flows index t.note i)
      (few : total held_len new.helds + short_bytes change.queue ≤ total held_len old.helds + short_bytes change.own.queue + taken_len t)
      (short : short_bytes change.queue ≤ short_bytes change.own.queue + unsplit_len t) where
    put-in : Chosen was.flows t.note change.own (λ x. set change.flows i x)
    put-in = is-chosen was.flows change.flows t.note i change.own change.chosen change.within change.there

    abbrev now_flows : List FlowQueue
    now_flows = set change.flows i (record (change.own) { queue = change.queue })

    shorts : total (λ f. short_bytes f.queue) flows + short_bytes change.own.queue
        ≡ total (λ f. short_bytes f.queue) was.flows + short_bytes change.queue
    shorts = omega (
      arith,
      ap (total (λ f. short_bytes f.queue)) change.is,
      total-noted was.flows t.note change.own (λ x. set change.flows i x) change.queue change.base (λ f. short_bytes f.queue) put-in refl,
    )

    -- some of it entered
    pub noted-in : (notes active : ℕ) → ((o : LoansOut) → QueuesStand was o old → HasTokens flows o.unread o.read new)
        → Noted was (queues_with notes flows index active) old new
    noted-in notes active tokens = record {
      note = t;
      view = view;
      tokens = tokens;
      done = λ n. ap (λ fs. marks_done n fs new.taken) change.is ∙ ap (marks_done n now_flows) taken-is
          ∙ done-noted n old.taken t was.flows change.own (λ x. set change.flows i x) change.queue change.base ends-before put-in;
      bytes = λ n. omega (
        arith,
        ap (queue_bytes_of n) change.is,
        total-noted was.flows t.note change.own (λ x. set change.flows i x) change.queue
            change.base (bytes_if n) put-in (none-yet (t.note.flow == n) 0),
      );
      sum = ap (total (λ f. f.bytes)) change.is
          ∙ bytes-noted was.flows t.note change.own (λ x. set change.flows i x) change.queue change.base put-in;
      sound = record {
        ends = subst (Each (FlowEnds new.taken)) (sym change.is) (subst (λ ts. Each (FlowEnds ts) now_flows) (sym taken-is)
            (each-noted was.flows t.note change.own (λ x. set change.flows i x) change.queue change.base (FlowEnds old.taken)
            (FlowEnds (old.taken ++ t ∷ [])) put-in ends-before (λ f r same e. ends-note old.taken t f r same e)
            (λ none r same. ends-begun old.taken t (stand.stands.known t.note.flow none) r same)));
        distinct = λ n. subst (λ fs. many n fs ≤ 1) (sym change.is)
            ((many-noted was.flows t.note change.own (λ x. set change.flows i x) change.queue change.base put-in n).1 (stand.stands.distinct n));
        index = index-in;
      };
      bounded = bounded-noted flows (omega (arith, few, shorts)) (omega (arith, short, shorts));
    }
      where
        index-in : IsIndex index flows
        index-in = subst (IsIndex index) (sym change.is)
            (index-set index change.flows i change.own (record (change.own) { queue = change.queue }) change.within change.there refl change.index_is)

    rest-in : Each IsAtRest was.flows → RestBut i flows
    rest-in rest = subst (RestBut i) (sym change.is) (resting change.chosen (record (change.own) { queue = change.queue }))
      where
        resting : IsChosen was.flows change.flows t.note i → (x : FlowQueue) → RestBut i (set change.flows i x)
        resting (inl stood) x = rest-set i change.flows x (rest-all i change.flows (subst (Each IsAtRest) (sym stood.0) rest))
        resting (inr fresh) x =
            let put : set change.flows i x ≡ was.flows ++ x ∷ [] = ap (λ (fs : List FlowQueue). set fs i x) fresh.1
            ∙ ap (λ k. set (was.flows ++ fresh_flow t.note ∷ []) k x) fresh.2 ∙ set-last was.flows (fresh_flow t.note) x in
            subst (λ k. RestBut k (set change.flows i x)) (sym fresh.2) (subst (RestBut (length was.flows)) (sym put) (rest-push was.flows x rest))

    -- what its flow wants of it did
    pub took-in : (notes : ℕ) → notes ≡ was.notes + 1 → Each IsAtRest was.flows
        → ((o : LoansOut) → QueuesStand was o old → Stands (was.notes + 1) flows o.unread o.read new) → NoteEntered was (queues_with notes flows index i) old new
    took-in notes count rest stands =
        let noted : Noted was (queues_with notes flows index i) old new = noted-in notes i (λ o k. (stands o k).tokens) in
        record {
          noted = noted;
          stands = λ o k. record {
            stands = subst (λ n. Stands n flows o.unread o.read new) (sym count) (stands o k);
            rest = rest-in rest;
            index = noted.sound.index;
            bounded = noted.bounded;
          };
        }

-- ---- a piece

module _ (was : QueueState) (out : LoansOut) (old mid : AppView) (note : Note) (held : Place) (took : TookNote old mid note held) (stand : QueuesStand was out old) where
  pub took-it : Took old mid note was.notes held
  took-it = is-took old mid note was.notes held stand.stands.tokens.apart stand.stands.notes took

  piece-view : (new : AppView) → new ≡ record mid { helds = new.helds } → new ≡ record old { taken = old.taken ++ taken_note note ∷ []; helds = new.helds }
  piece-view new e = e ∙ ap (λ (v : AppView). record v { helds = new.helds }) took.event

  -- it is given up at once
  pub piece-released : (new : AppView) → new ≡ released mid held → Noted was was old new
  piece-released new is =
      let gone = is-released mid took-it.apart (held_piece (whole_piece was.notes held)) took-it.out in
      rw is (none-noted was out old (released mid held) (taken_note note) stand (rw took.event refl) gone.apart
      (λ f. omega (arith, gone.moved f, took-it.moved f)))

  -- it is lost, or some of it
  pub piece-lost : (new : AppView) (flows : List FlowQueue) (index : List (ℕ × ℕ)) → LosesPiece mid new was.flows flows was.index index note was.notes held
      → ((o : LoansOut) → QueuesStand was o old → HasTokens flows o.unread o.read new) → Noted was (queues_with was.notes flows index was.active) old new
  piece-lost new flows index (inl none) tokens = rw (none.0, none.1) (piece-released new none.2)
  piece-lost new flows index (inr part) tokens =
      noted-in was out old new (taken_note note) stand (piece-view new part.some.only.view) part.some.only.apart flows index part.place part.change
      (omega (arith, part.some.short, part.some.fewer, took-it.moved held_len, ap (λ (p : Place). p.len) took.place)) (omega (arith, part.some.short))
      was.notes was.active tokens

  pub piece-entered : (new : AppView) (flows : List FlowQueue) (index : List (ℕ × ℕ)) (i notes : ℕ)
      → TakesPiece mid new was.flows flows index note was.notes held i → notes ≡ was.notes + 1 → Each IsAtRest was.flows
      → ((o : LoansOut) → QueuesStand was o old → Stands (was.notes + 1) flows o.unread o.read new) → NoteEntered was (queues_with notes flows index i) old new
  piece-entered new flows index i notes takes count rest stands =
      took-in was out old new (taken_note note) stand (piece-view new takes.some.only.view) takes.some.only.apart flows index i takes.change
      (omega (arith, takes.some.short, takes.some.fewer, took-it.moved held_len, ap (λ (p : Place). p.len) took.place)) (omega (arith, takes.some.short))
      notes count rest stands

-- ---- a short payload

module _ (was : QueueState) (out : LoansOut) (old new : AppView) (linear : List ℕ) (note : Note) (took : TookLinear old new linear note) (stand : QueuesStand was out old) where
  abbrev short_note : TakenNote
  short_note = record { note = note; bytes = take note.total linear }

  short-view : new ≡ record old { taken = old.taken ++ short_note ∷ []; helds = new.helds }
  short-view = rw took.event refl

  short-helds : new.helds ≡ old.helds
  short-helds = ap (λ (v : AppView). v.helds) took.event

  short-apart : LieApart new
  short-apart = rw took.event (record { once = stand.stands.tokens.apart.once; some = stand.stands.tokens.apart.some })

  few-of : unsplit_len short_note ≡ note.total
  few-of = rw took.fields.split refl

  pub short-none : Noted was was old new
  short-none = none-noted was out old new short_note stand short-view short-apart (λ f. ap (total f) short-helds)

  pub short-lost : (flows : List FlowQueue) (index : List (ℕ × ℕ)) → LosesPayload was.flows flows was.index index note
      → ((o : LoansOut) → QueuesStand was o old → HasTokens flows o.unread o.read new) → Noted was (queues_with was.notes flows index was.active) old new
  short-lost flows index (inl none) tokens = rw (none.0, none.1) short-none
  short-lost flows index (inr part) tokens =
      noted-in was out old new short_note stand short-view short-apart flows index part.place part.change
      (omega (arith, part.some.short, ap (total held_len) short-helds, ap (λ (p : Place). p.len) took.fields.place))
      (omega (arith, part.some.short, few-of)) was.notes was.active tokens

  pub short-entered : (flows : List FlowQueue) (index : List (ℕ × ℕ)) (i notes : ℕ) (payload : List ℕ)
      → TakesPayload was.flows flows index note was.notes payload i → notes ≡ was.notes + 1 → Each IsAtRest was.flows
      → ((o : LoansOut) → QueuesStand was o old → Stands (was.notes + 1) flows o.unread o.read new) → NoteEntered was (queues_with notes flows index i) old new
  short-entered flows index i notes payload takes count rest stands =
      took-in was out old new short_note stand short-view short-apart flows index i takes.change
      (omega (arith, takes.some.short, ap (total held_len) short-helds, ap (λ (p : Place). p.len) took.fields.place))
      (omega (arith, takes.some.short, few-of)) notes count rest stands

-- ---- past the queues

none-held : (hs : List HeldPiece) → total (λ (h : HeldPiece). 1) hs ≡ 0 → hs ≡ []
none-held [] is = refl
none-held (h ∷ hs) is = absurd (omega (arith, is))

module _ (old mid : AppView) (note : Note) (held : Place) (took : TookNote old mid note held) (apart : LieApart old) where
  pub past-it : Took old mid note (length old.taken) held
  past-it = is-took old mid note (length old.taken) held apart refl took

  pub piece-past : (new : AppView) → old.helds ≡ [] → new ≡ released mid held → new ≡ record old { taken = old.taken ++ taken_note note ∷ [] }
  piece-past new none e =
      let gone = is-released mid past-it.apart (held_piece (whole_piece (length old.taken) held)) past-it.out in
      let size : total (λ (h : HeldPiece). 1) new.helds ≡ 0 =
      omega (
        arith,
        ap (λ (v : AppView). total (λ (h : HeldPiece). 1) v.helds) e,
        gone.moved (λ h. 1),
        past-it.moved (λ h. 1),
        ap (total (λ (h : HeldPiece). 1)) none,
      ) in
      e ∙ ap (λ (v : AppView). released v held) took.event ∙ ap (λ hs. record old { taken = old.taken ++ taken_note note ∷ []; helds = hs })
      (sym (ap (λ (v : AppView). v.helds) (e ∙ ap (λ (v : AppView). released v held) took.event)) ∙ none-held new.helds size ∙ sym none)
