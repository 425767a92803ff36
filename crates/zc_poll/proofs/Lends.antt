-- What was lent is an item, which counts its bytes.
use Rattle.std.proofs.Common.{◌≡◌, ◌≢◌, ℕ, ◌+◌, ◌-◌, ◌^◌, ◌<◌, Bool, true, false, List, [], ◌∷◌, ◌++◌, Option, length, map, set, get_or, take, drop, pos, refl, sym, ap, subst, ◌∙◌, arith, ⊎_elim, append_assoc, append-nil}
use Rattle.std.{specs.Prelude.{◌==◌, not, if◌then◌else◌}, proofs.lemmas.{Bool.{eq-eqb}, List.{get_or-set_same}}}
use Rattle.zr_kinds.specs.{declared.ring.Completion.{Completion}, CopyingReceiver.{values_from}}
use Rattle.tcp_reorder.specs.Queue.{IsSound}
use Rattle.board_face.{proofs.ListLemmas.{not-eqb}, specs.{AppEvents.{app_saw, came_to_rest}, declared.views.app.AppLook.TheVariants.{NoSpare as no_spare}}}
use Rattle.board_face.specs.declared.views.app.{Origin.TheVariants.{Note as of_note, Copied as of_copy}, LentPiece.{LentPiece}, TakenNote.{TakenNote}, AppView.{AppView}}
use Rattle.flow_queues.specs.{declared.queues.{Lending.{Lending}, FlowQueue.{FlowQueue}}, Marks.{Mark, FramesStandTogether, marks_of}, Flows.{facts_of}}
use Rattle.flow_queues.specs.Core.{total, Each, many, IsIn, lent_piece, is_copy, one_copy, origin_in, over_kept, short_bytes, placed_of, marks_of_loan, FlowStands, Stands}
use Rattle.flow_queues.specs.{Lent.{LentNext, SawNoSpare}, Kept.{QueueState, QueuesStand}, Active.{LentOne, with_unread}}
use Rattle.flow_queues.proofs.{Tokens.{total-append, in-contains, that-loan, is_that_loan, is-lent-there}, Entering.{marks-length}, Placing.{values-length, values-split}}
use Rattle.flow_queues.proofs.{Standing.{At, split-at, each-right, each-changed, is_number, number-is, total-changed, many-same}, Releasing.{map-set, length-set-same}}
use Rattle.flow_queues.proofs.{NotesStay.{note-there}, Resting.{rest-set}, Indexing.{index-set}, Fronts.{front-of-flow}, NoteTaken.{ends-of}}
use Rattle.zc_poll.specs.declared.step.{Lent.{Lent}, Step.TheVariants.{Item, Waiting as waiting}, Waits.TheVariants.{ReserveHeld}}
use Rattle.zc_poll.specs.{Standing.{Desk, DeskCommon, IsGoing, StreamStands, all_read, queues_of_desk}, Items.{GivenItem, HasGiven, marks_given, IsAt}, Steps.{Stepped}}
use Rattle.zc_poll.{specs.Steps.{counted_on}, proofs.{FlowsKept.{with_queues}, Marking.{IsGivenOf, given-push, items-released}, Views.{is-with}, Passing.{saw-stepped}}}

copied-is : (split b : Bool) (note at : ℕ) (bytes : List ℕ) → one_copy (if split then of_note note at else of_copy bytes) ≡ (if b then 1 else 0)
    → b ≡ not split
copied-is true true note at bytes is = absurd (omega (arith, is))
copied-is true false note at bytes is = refl
copied-is false true note at bytes is = refl
copied-is false false note at bytes is = absurd (omega (arith, is))

-- what tells of a loan of this flow
abbrev told_of : FlowQueue → Completion
told_of own = record { user_data = own.number; res = pos 0; flags = 0; off = 0 }

-- the flow, once the loan's bytes are counted
abbrev counting : FlowQueue → Lending → FlowQueue
counting own loan = record own { bytes = counted_on own.bytes loan.loan.len }

abbrev counted_in : QueueState → FlowQueue → Lending → QueueState
counted_in mid own loan = record mid { flows = set mid.flows mid.active (counting own loan) }

abbrev given_of : FlowQueue → Lending → GivenItem
given_of own loan = record { flow = own.number; lending = loan }

-- it was lent, as a copy or not
abbrev pub LentAs : QueueState → QueueState → AppView → AppView → Lending × Bool → Type 0
LentAs was now old new lent = LentOne was now old new lent.0 × (is_copy (lent_piece old.taken lent.0) ≡ (if lent.1 then 1 else 0))

-- ---- of one flow, of which this loan alone waits to be counted

module _ (taken : List TakenNote) (own : FlowQueue) (loan : Lending) (stands : FlowStands taken ((told_of own, loan) ∷ []) own)
    (sound : IsSound own.queue) where
  abbrev at : ℕ → Option Mark
  at = (placed_of own taken).at

  own-number : (own.number == own.number) ≡ true
  own-number = eq-eqb own.number own.number refl

  all-marks : marks_of_loan loan ≡ values_from at (own.queue.popped - own.bytes) own.bytes
  all-marks = sym (ap (λ b. (if b then marks_of_loan loan else []) ++ []) own-number ∙ append-nil (marks_of_loan loan)) ∙ stands.lent

  len-is : own.bytes + loan.loan.len ≡ own.queue.popped
  len-is = omega (
    arith,
    stands.counted,
    marks-length loan.note loan.at loan.loan.len,
    ap length all-marks,
    values-length at (own.queue.popped - own.bytes) own.bytes (λ p from until. stands.holds.popped p (omega (arith, until, stands.counted))),
  )

  fits : own.bytes + loan.loan.len < 2 ^ 64
  fits = omega (arith, len-is, sound.popped)

  counted-is : counted_on own.bytes loan.loan.len ≡ own.queue.popped
  counted-is = omega (arith, len-is, sound.popped)

  counting-stands : FlowStands taken [] (counting own loan)
  counting-stands =
      let none : own.queue.popped - counted_on own.bytes loan.loan.len ≡ 0 = omega (arith, counted-is) in
      record {
        begun = stands.begun;
        holds = stands.holds;
        notes = stands.notes;
        counted = omega (arith, counted-is);
        lent = sym (ap (λ k. values_from at k (counted_on own.bytes loan.loan.len)) none);
      }

  first-marks : values_from at own.queue.popped 0 ≡ values_from at own.bytes 0 ++ marks_of_loan loan
  first-marks =
      let more : ℕ = own.queue.popped - own.bytes in
      let parts : own.queue.popped ≡ own.bytes + more = omega (arith, stands.counted) in
      ap (λ k. values_from at k 0) parts
      ∙ values-split at own.bytes more 0 (λ p from until. stands.holds.popped p (omega (arith, until, stands.counted)))
      ∙ ap (λ p. values_from at own.bytes 0 ++ values_from at more p) (omega arith) ∙ ap (λ ms. values_from at own.bytes 0 ++ ms) (sym all-marks)

  bytes-long : length (values_from at own.bytes 0) ≡ own.bytes
  bytes-long = values-length at own.bytes 0 (λ p from until. stands.holds.popped p (omega (arith, until, stands.counted)))

  -- they stand there among the flow's
  stands-there : FramesStandTogether taken → IsAt (marks_of own.number taken) own.bytes (marks_of_loan loan)
  stands-there whole =
      let (rest, parts) = front-of-flow own taken own.queue.popped stands.begun stands.holds.popped whole in
      record {
        before = values_from at own.bytes 0;
        behind = rest;
        parts = parts ∙ ap (λ ms. ms ++ rest) first-marks ∙ append_assoc (values_from at own.bytes 0) (marks_of_loan loan) rest;
        at = bytes-long;
      }

  given-here : (items : List GivenItem) → IsGivenOf items taken own → IsGivenOf (items ++ given_of own loan ∷ []) taken (counting own loan)
  given-here items given =
      given-push own.number items (given_of own loan)
      ∙ ap (λ b. marks_given own.number items ++ (if b then marks_of_loan loan else [])) own-number
      ∙ ap (λ ms. ms ++ marks_of_loan loan) given ∙ sym first-marks ∙ ap (λ k. values_from at k 0) (sym counted-is)

flow-other : (taken : List TakenNote) (own : FlowQueue) (loan : Lending) (f : FlowQueue) → f.number ≢ own.number
    → FlowStands taken ((told_of own, loan) ∷ []) f → FlowStands taken [] f
flow-other taken own loan f other stands =
    let no : (own.number == f.number) ≡ false = not-eqb own.number f.number (λ e. other (sym e)) in
    record {
      begun = stands.begun;
      holds = stands.holds;
      notes = stands.notes;
      counted = stands.counted;
      lent = sym (ap (λ b. (if b then marks_of_loan loan else []) ++ []) no) ∙ stands.lent;
    }

given-other : (flow : ℕ) (items : List GivenItem) (g : GivenItem) → g.flow ≢ flow → marks_given flow (items ++ g ∷ []) ≡ marks_given flow items
given-other flow items g other =
    let no : (g.flow == flow) ≡ false = not-eqb g.flow flow other in
    given-push flow items g ∙ ap (λ b. marks_given flow items ++ (if b then marks_of_loan g.lending else [])) no ∙ append-nil (marks_given flow items)

-- ---- of all flows

module _ (mid : QueueState) (own : FlowQueue) (loan : Lending) (out : List Lending) (v : AppView) (within : mid.active < length mid.flows)
    (value : own ≡ get_or mid.flows mid.active own) (sound : IsSound own.queue)
    (stand : QueuesStand mid (with_unread (all_read out) (told_of own) loan) v) where
  abbrev x : FlowQueue
  x = counting own loan

  there : At mid.flows mid.active own
  there = split-at mid.flows mid.active own within value

  before-it : Stands mid.notes (there.before ++ own ∷ there.after) ((told_of own, loan) ∷ []) out v
  before-it = subst (λ (fs : List FlowQueue). Stands mid.notes fs ((told_of own, loan) ∷ []) out v) there.is stand.stands

  own-stands : FlowStands v.taken ((told_of own, loan) ∷ []) own
  own-stands = (each-right (FlowStands v.taken ((told_of own, loan) ∷ [])) there.before (own ∷ there.after) before-it.flows).0

  many-x : (n : ℕ) → many n (there.before ++ x ∷ there.after) ≡ many n (there.before ++ own ∷ there.after)
  many-x = many-same there.before there.after own x refl

  counted-stands : Stands mid.notes (there.before ++ x ∷ there.after) [] (loan ∷ out) v
  counted-stands = record {
    tokens = record {
      apart = before-it.tokens.apart;
      helds = λ f. omega (arith, before-it.tokens.helds f, total-changed there.before there.after own x (λ flow. over_kept f flow.queue));
      loans = λ f. omega (arith, before-it.tokens.loans f);
    };
    notes = before-it.notes;
    distinct = λ n. omega (arith, many-x n, before-it.distinct n);
    flows = each-changed (FlowStands v.taken ((told_of own, loan) ∷ [])) (FlowStands v.taken []) there.before there.after own x
        (before-it.distinct own.number) before-it.flows (flow-other v.taken own loan) (counting-stands v.taken own loan own-stands sound);
    known = λ n none. before-it.known n (sym (many-x n) ∙ none);
    posted = tt;
    lent = tt;
    due_lent = (before-it.lent.0, before-it.due_lent);
    counted = before-it.counted;
  }

  shorts-x : total (λ f. short_bytes f.queue) (set mid.flows mid.active x) ≡ total (λ f. short_bytes f.queue) mid.flows
  shorts-x = omega (
    arith,
    ap (total (λ f. short_bytes f.queue)) (there.set_is x),
    ap (total (λ f. short_bytes f.queue)) there.is,
    total-changed there.before there.after own x (λ f. short_bytes f.queue),
  )

  counted-stand : QueuesStand (counted_in mid own loan) (all_read (loan ∷ out)) v
  counted-stand = record {
    stands = subst (λ (fs : List FlowQueue). Stands mid.notes fs [] (loan ∷ out) v) (sym (there.set_is x)) counted-stands;
    rest = rest-set mid.active mid.flows x stand.rest;
    index = index-set mid.index mid.flows mid.active own x within value refl stand.index;
    bounded = record { spares = omega (arith, shorts-x, stand.bounded.spares); loans = omega (arith, shorts-x, stand.bounded.loans) };
  }

  items-counted : (items : List GivenItem) → HasGiven items mid.flows v.taken
      → (own.bytes ≡ length (marks_given own.number items)) × HasGiven (items ++ given_of own loan ∷ []) (counted_in mid own loan).flows v.taken
  items-counted items given =
      let g : GivenItem = given_of own loan in
      let each : Each (IsGivenOf items v.taken) (there.before ++ own ∷ there.after) = subst (Each (IsGivenOf items v.taken)) there.is given.flows in
      let here : IsGivenOf items v.taken own = (each-right (IsGivenOf items v.taken) there.before (own ∷ there.after) each).0 in
      let one : many own.number (there.before ++ own ∷ there.after) ≡ 1 =
      omega (arith, before-it.distinct own.number, total-append (is_number own.number) there.before (own ∷ there.after), number-is own.number own refl) in (
        sym (ap length here ∙ bytes-long v.taken own loan own-stands sound),
        subst (λ fs. HasGiven (items ++ g ∷ []) fs v.taken) (sym (there.set_is x)) (record {
          flows = each-changed (IsGivenOf items v.taken) (IsGivenOf (items ++ g ∷ []) v.taken) there.before there.after own x (before-it.distinct own.number)
              each (λ f other is. given-other f.number items g (λ e. other (sym e)) ∙ is) (given-here v.taken own loan own-stands sound items here);
          others = λ n none.
              let gone : many n (there.before ++ own ∷ there.after) ≡ 0 = sym (many-x n) ∙ none in
              given-other n items g (λ e. absurd (omega (arith, ap (λ k. many k (there.before ++ own ∷ there.after)) e, one, gone)))
              ∙ given.others n (ap (many n) there.is ∙ gone);
        }),
      )

-- ---- of the stream

module _ (was : Desk) (old new : AppView) (stands : StreamStands was old) (more : was.ended ≡ false) where
  -- the reserve was held
  pub held-stepped : was.stopped ≡ false → (now : Desk) → now ≡ was → SawNoSpare old new → Stepped was now old new (waiting ReserveHeld)
  held-stepped on now same saw =
      let rested : came_to_rest old ≡ old = ap (λ b. record old { settled = b }) (sym stands.common.settled) in
      saw-stepped was now old new no_spare ReserveHeld stands more same (saw.event ∙ ap (λ (w : AppView). app_saw w no_spare) rested) (saw.rose, on)

  module _ (on : was.stopped ≡ false) (mid : QueueState) (loan : Lending) (copied : Bool) (lends : LentAs (queues_of_desk was) mid old new (loan, copied))
      (own : FlowQueue) (value : own ≡ get_or mid.flows mid.active own) (sound : IsSound own.queue) where
    abbrev one : LentOne (queues_of_desk was) mid old new loan
    one = lends.0

    abbrev lent : LentNext old new one.own one.after loan
    lent = one.lent

    going : IsGoing was old
    going = stands.going on more

    within-now : mid.active < length mid.flows
    within-now = subst (λ (q : QueueState). q.active < length q.flows) (sym one.is) (omega (arith, one.within, length-set-same was.flows was.active one.after))

    own-is : own ≡ one.after
    own-is = value ∙ ap (λ (q : QueueState). get_or q.flows q.active own) one.is ∙ get_or-set_same was.flows was.active one.after own one.within

    taken-kept : old.taken ≡ new.taken
    taken-kept = sym (ap (λ (v : AppView). v.taken) lent.view)

    facts-kept : map facts_of mid.flows ≡ map facts_of was.flows
    facts-kept = ap (λ (q : QueueState). map facts_of q.flows) one.is ∙ map-set facts_of was.flows was.active one.own one.after one.within one.active
        (ap facts_of lent.flow ∙ ap (λ b. record { number = one.own.number; base = b; bytes = one.own.bytes }) lent.loses.base)

    loans-more : (f : LentPiece → ℕ) → total f new.loans ≡ total f old.loans + f (lent_piece new.taken loan)
    loans-more f = lent.loans f ∙ ap (λ ts. total f old.loans + f (lent_piece ts loan)) taken-kept

    loan-out : IsIn (lent_piece new.taken loan) new.loans
    loan-out = is-lent-there (lent_piece new.taken loan) new.loans
        (omega (arith, loans-more (is_that_loan (lent_piece new.taken loan)), that-loan (lent_piece new.taken loan)))

    lent-stand : QueuesStand mid (with_unread (all_read going.out) (told_of own) loan) new
    lent-stand = one.stands (all_read going.out) (told_of own) (ap (λ (f : FlowQueue). f.number) (own-is ∙ lent.flow)) going.stand

    later-stand : QueuesStand (counted_in mid own loan) (all_read (loan ∷ going.out)) new
    later-stand = counted-stand mid own loan going.out new within-now value sound lent-stand

    abbrev later : Desk
    later = with_queues was (counted_in mid own loan)

    later-common : DeskCommon later new
    later-common =
        let common : DeskCommon was old = stands.common in
        record {
          here = ap (λ (v : AppView). v.left) lent.view ∙ common.here;
          settled = ap (λ (v : AppView). v.settled) lent.view;
          counted = ap (λ (v : AppView). v.scrubbed) lent.view ∙ common.counted;
          bare = λ is. (let clash : true ≡ false = sym (common.bare is).0 ∙ on in absurd (cc));
          owns = ap (λ (v : AppView). v.owns) lent.view ∙ common.owns;
          app = ap (λ (v : AppView). v.app) lent.view ∙ common.app;
          ended = ap (λ (v : AppView). v.ended) lent.view ∙ common.ended;
          apart = lent.apart;
          found = ends-of (counted_in mid own loan) (all_read (loan ∷ going.out)) new later-stand;
          distinct = later-stand.stands.distinct;
          few = omega (arith, later-stand.bounded.loans);
        }

    item-stepped : Stepped was later old new (Item (record { flow = own.number; position = own.bytes; loan = loan.loan; copied = copied }))
    item-stepped =
        let flow-stands = own-stands mid own loan going.out new within-now value sound lent-stand in
        let (t, is) = note-there new.taken loan.note lent-stand.stands.lent.0 in
        record {
          stands = record {
            common = later-common;
            going = λ _ _. record { out = loan ∷ going.out; stand = later-stand };
            released = ⊎_elim (λ (is : was.stopped ≡ true). absurd (cc)) (λ (is : was.ended ≡ true). absurd (cc));
            whole = λ is _. absurd (cc);
          };
          only = record {
            view = is-with old new _ lent.view refl;
            more = [];
            taken = sym taken-kept ∙ sym (append-nil old.taken);
            looks = lent.looks;
          };
          steps = record {
            lending = loan;
            loan = refl;
            held = in-contains (λ (l : LentPiece). l.place) (lent_piece new.taken loan) new.loans loan-out;
            out = loan-out;
            lends = loans-more;
            note = t;
            is = is;
            copied = copied-is t.note.split copied loan.note loan.at (take loan.loan.len (drop loan.at t.bytes))
                (sym (ap (λ (found : Option TakenNote). one_copy (origin_in found loan.note loan.at loan.loan.len)) is)
                ∙ ap (λ ts. is_copy (lent_piece ts loan)) (sym taken-kept) ∙ lends.1);
            spares = omega (arith, lent.spares, lent.copy, lends.1);
            fits = fits new.taken own loan flow-stands sound;
            place = stands-there new.taken own loan flow-stands sound;
            items = λ items given. items-counted mid own loan going.out new within-now value sound lent-stand items
                (subst (HasGiven items mid.flows) taken-kept (items-released was.flows mid.flows old.taken facts-kept items given));
            going = (on, on);
            more = more;
          };
        }

    pub item-is : (item : Lent) (put : FlowQueue) → item ≡ record { flow = own.number; position = own.bytes; loan = loan.loan; copied = copied }
        → put ≡ counting own loan → Stepped was (with_queues was (record mid { flows = set mid.flows mid.active put })) old new (Item item)
    item-is item put is put_is =
        subst (λ (f : FlowQueue). Stepped was (with_queues was (record mid { flows = set mid.flows mid.active f })) old new (Item item)) (sym put_is)
        (subst (λ (l : Lent). Stepped was later old new (Item l)) (sym is) item-stepped)
