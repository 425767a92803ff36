-- What stands between two steps stands behind the calls that take none.
use Rattle.std.proofs.Common.{◌≡◌, ℕ, zero, suc, ◌+◌, ◌<◌, ◌≤◌, List, [], ◌∷◌, ◌++◌, length, map, get_or, length-append, refl, sym, ap, subst, ◌∙◌, arith, inl, inr, ⊎_elim, true, false}
use Rattle.std.{specs.Prelude.{Bool, MatchBool}, proofs.lemmas.Bool.{cases_lt}}
use Rattle.zr_kinds.specs.{declared.place.Place.{Place}, CopyingReceiver.{next_missing}}
use Rattle.board_face.specs.{AppCalls.{AppOnlySaw, HasLoan, ShowsCopy}, AppEvents.{app_saw, abandoned, gave, has_read, left_board, loan_origin}, declared.views.app.AppLook.{AppLook, TheVariants.{NotQuiet}}}
use Rattle.flow_queues.specs.{Leaving.{HasScrubbed, ScrubsOnce, LeavesOnce}, declared.queues.Lending.{Lending}}
use Rattle.board_face.specs.declared.views.app.{Reading.{Reading}, LentPiece.{LentPiece}, TakenNote.{TakenNote}, AppView.{AppView}}
use Rattle.flow_queues.specs.Core.{total, Each, IsIn, LieApart, lent_piece, over_read, own_notes, placed_of, held_len, unsplit_len, AreReadAt, FlowStands, Stands}
use Rattle.flow_queues.{specs.Marks.{marks_from}, proofs.Reading.{read-there}}
use Rattle.flow_queues.proofs.Tokens.{total-append, in-total, is_that_loan, that-loan, is-lent-there, is-given, TokenGiven}
use Rattle.flow_queues.{proofs.Standing.{each-left, each-right, each-join}, specs.{Totals.{taken_len}, Shelves.{FlowEnds}}}
use Rattle.zc_poll.specs.{Standing.{Desk, DeskCommon, IsGoing, IsWhole, StreamStands}, Fresh.{has_scrubbed, has_left}, Steps.{ScrubsOrWaits}}
use Rattle.zc_poll.proofs.Views.{total-one}

-- these are the loans that are out
pub record AreLoansOut (taken : List TakenNote) (loans : List LentPiece) (out : List Lending) : Type 0 where
  pub are : (f : LentPiece → ℕ) → total f loans ≡ over_read taken f out
  pub known : Each (λ l. l.note < length taken) out

-- what no step does
abbrev pub without_step : AppView → AppView → AppView
without_step old x = record old { quiet = x.quiet; loans = x.loans; returned = x.returned; written = x.written; reads = x.reads; looks = x.looks }

module _ (st : Desk) (old new : AppView) (view : new ≡ without_step old new) (apart : LieApart new)
    (counts : length new.loans + length new.returned ≡ length old.loans + length old.returned)
    (goes : (out : List Lending) → AreLoansOut old.taken old.loans out → (later : List Lending) × AreLoansOut old.taken new.loans later)
    (bare : (old.loans ≡ []) × (old.quiet ≡ true) → (new.loans ≡ []) × (new.quiet ≡ true)) where
  taken-kept : old.taken ≡ new.taken
  taken-kept = sym (ap (λ (v : AppView). v.taken) view)

  common-kept : DeskCommon st old → DeskCommon st new
  common-kept common = record {
    here = ap (λ (v : AppView). v.left) view ∙ common.here;
    settled = ap (λ (v : AppView). v.settled) view ∙ common.settled;
    counted = ap (λ (v : AppView). v.scrubbed) view ∙ common.counted;
    bare = λ is. (let (stopped, loans, quiet) = common.bare is in let (none, free) = bare (loans, quiet) in (stopped, none, free));
    owns = ap (λ (v : AppView). v.owns) view ∙ common.owns;
    app = ap (λ (v : AppView). v.app) view ∙ common.app;
    ended = ap (λ (v : AppView). v.ended) view ∙ common.ended;
    apart = apart;
    found = subst (λ ts. Each (FlowEnds ts) st.flows) taken-kept common.found;
    distinct = common.distinct;
    few = omega (arith, common.few, counts, ap (total taken_len) taken-kept);
  }

  going-kept : IsGoing st old → IsGoing st new
  going-kept going =
      let stands : Stands st.notes st.flows [] going.out old = going.stand.stands in
      let later = goes going.out (record { are = λ f. omega (arith, stands.tokens.loans f); known = stands.due_lent }) in
      record {
        out = later.0;
        stand = record {
          stands = record {
            tokens = record {
              apart = apart;
              helds = λ f. ap (λ (v : AppView). total f v.helds) view ∙ stands.tokens.helds f;
              loans = λ f. omega (arith, later.1.are f, ap (λ ts. over_read ts f later.0) taken-kept);
            };
            notes = stands.notes ∙ ap length taken-kept;
            distinct = stands.distinct;
            flows = subst (λ (ts : List TakenNote). Each (FlowStands ts []) st.flows) taken-kept stands.flows;
            known = λ n none. ap (own_notes n) (sym taken-kept) ∙ stands.known n none;
            posted = stands.posted;
            lent = tt;
            due_lent = subst (λ ts. Each (λ l. l.note < length ts) later.0) taken-kept later.1.known;
            counted = ap (λ (v : AppView). v.scrubbed) view ∙ stands.counted;
          };
          rest = going.stand.rest;
          index = going.stand.index;
          bounded = record {
            spares = omega (arith, going.stand.bounded.spares, ap (λ (v : AppView). v.spares) view, ap (total unsplit_len) taken-kept);
            loans = omega (arith, going.stand.bounded.loans, counts, ap (λ (v : AppView). total held_len v.helds) view, ap (total taken_len) taken-kept);
          };
        };
      }

  pub stands-kept : StreamStands st old → StreamStands st new
  stands-kept stands = record {
    common = common-kept stands.common;
    going = λ on more. going-kept (stands.going on more);
    released = λ is. ap (λ (v : AppView). v.helds) view ∙ stands.released is;
    whole = λ ended on. (let whole : IsWhole st old = stands.whole ended on in record {
      flows = subst (λ ts. Each (λ f. f.bytes ≡ next_missing (placed_of f ts)) st.flows) taken-kept whole.flows;
      known = λ n none. ap (own_notes n) (sym taken-kept) ∙ whole.known n none;
    });
  }

-- ---- a loan went

-- one of these is of the loan
record Among (taken : List TakenNote) (x : LentPiece) (out : List Lending) : Type 0 where
  before : List Lending
  after : List Lending
  lending : Lending
  parts : out ≡ before ++ lending ∷ after
  is : lent_piece taken lending ≡ x

among : (taken : List TakenNote) (x : LentPiece) (out : List Lending) → 0 < over_read taken (is_that_loan x) out → Among taken x out
among taken x [] some = absurd (omega arith)
among taken x (l ∷ out) some = ⊎_elim
    (λ (here : 0 < is_that_loan x (lent_piece taken l)).
    record { before = []; after = out; lending = l; parts = refl; is = is-here here })
    (λ (not : is_that_loan x (lent_piece taken l) ≤ 0).
    let there : Among taken x out = among taken x out (omega arith) in
    record { before = l ∷ there.before; after = there.after; lending = there.lending; parts = ap (λ ls. l ∷ ls) there.parts; is = there.is })
    (cases_lt 0 (is_that_loan x (lent_piece taken l)))
  where
    only : {y : LentPiece} → IsIn x (y ∷ []) → y ≡ x
    only (inl e) = e
    only (inr none) = absurd none

    is-here : 0 < is_that_loan x (lent_piece taken l) → lent_piece taken l ≡ x
    is-here here = only (is-lent-there x (lent_piece taken l ∷ []) (omega arith))

pub went-out : (taken : List TakenNote) (loans later : List LentPiece) (x : LentPiece) → IsIn x loans
    → ((f : LentPiece → ℕ) → total f later + f x ≡ total f loans) → (out : List Lending) → AreLoansOut taken loans out
    → (rest : List Lending) × AreLoansOut taken later rest
went-out taken loans later x there gone out are =
    let one : 0 < over_read taken (is_that_loan x) out = omega (arith, are.are (is_that_loan x), in-total (is_that_loan x) x loans there, that-loan x) in
    let found : Among taken x out = among taken x out one in
    let known : Each (λ (l : Lending). l.note < length taken) (found.before ++ found.lending ∷ found.after) =
    subst (Each (λ (l : Lending). l.note < length taken)) found.parts are.known in (
      found.before ++ found.after,
      record {
        are = λ f. omega (
          arith,
          gone f,
          are.are f,
          ap (over_read taken f) found.parts,
          total-append (λ l. f (lent_piece taken l)) found.before (found.lending ∷ found.after),
          total-append (λ l. f (lent_piece taken l)) found.before found.after,
          ap f found.is,
        );
        known = each-join (λ (l : Lending). l.note < length taken) found.before found.after
            (each-left (λ (l : Lending). l.note < length taken) found.before (found.lending ∷ found.after) known)
            (each-right (λ (l : Lending). l.note < length taken) found.before (found.lending ∷ found.after) known).1;
      },
    )

-- a loan that is out is one of these
loan-at : (loans : List LentPiece) (p : Place) (k : ℕ) → k < length (map (λ l. l.place) loans) → get_or (map (λ l. l.place) loans) k p ≡ p
    → (x : LentPiece) × IsIn x loans × (x.place ≡ p)
loan-at [] p k within is = absurd (omega arith)
loan-at (l ∷ loans) p zero within is = (l, inl refl, is)
loan-at (l ∷ loans) p (suc k) within is = let (x, there, place) = loan-at loans p k (omega arith) is in (x, inr there, place)

module _ (st : Desk) (v : AppView) (loan : Place) (stands : StreamStands st v) (out : HasLoan v loan) where
  the-loan : (x : LentPiece) × IsIn x v.loans × (x.place ≡ loan)
  the-loan = loan-at v.loans loan out.0 out.1 out.2

  -- it is one of those that went, and no more one of those that are out
  went-back : (x : LentPiece) → TokenGiven v stands.common.apart x → length (gave v x.place).loans + length (gave v x.place).returned ≡ length v.loans + length v.returned
  went-back x step = omega (
    arith,
    step.loans (λ _. 1),
    total-one (gave v x.place).loans,
    total-one v.loans,
    ap length step.returned,
    length-append v.returned (x ∷ []),
  )

  pub stands-gave : (new : AppView) → new ≡ gave v loan → StreamStands st new
  stands-gave new e =
      let (x, there, place) = the-loan in
      let step = is-given v stands.common.apart x there in
      subst (StreamStands st) (sym e) (subst (λ (p : Place). StreamStands st (gave v p)) place
      (stands-kept st v (gave v x.place) refl step.apart (went-back x step) (went-out v.taken v.loans (gave v x.place).loans x there step.loans)
      (λ none. absurd (subst (IsIn x) none.0 there)) stands))

  pub stands-abandoned : (new : AppView) → new ≡ abandoned v loan → StreamStands st new
  stands-abandoned new e =
      let (x, there, place) = the-loan in
      let step = is-given v stands.common.apart x there in
      subst (StreamStands st) (sym e) (subst (λ (p : Place). StreamStands st (abandoned v p)) place
      (stands-kept st v (abandoned v x.place) refl (record { once = step.apart.once; some = step.apart.some })
      (went-back x step) (went-out v.taken v.loans (abandoned v x.place).loans x there step.loans)
      (λ none. absurd (subst (IsIn x) none.0 there)) stands))

-- only what no step asks for changed
pub stands-beside : (st : Desk) (old new : AppView) → new ≡ record old { reads = new.reads; looks = new.looks }
    → StreamStands st old → StreamStands st new
stands-beside st old new e stands =
    let w : AppView = record old { reads = new.reads; looks = new.looks } in
    subst (StreamStands st) (sym e) (stands-kept st old w refl (record { once = stands.common.apart.once; some = stands.common.apart.some }) refl
    (λ out are. (out, are)) (λ is. is) stands)

pub saw-stands : (st : Desk) (old new : AppView) (look : AppLook) → new ≡ app_saw old look → StreamStands st old → StreamStands st new
saw-stands st old new look e stands = stands-beside st old new
    (subst (λ (v : AppView). v ≡ record old { reads = v.reads; looks = v.looks }) (sym e) refl) stands

pub read-stands : (st : Desk) (old new : AppView) (reads : List Reading) → new ≡ record old { reads = reads } → StreamStands st old → StreamStands st new
read-stands st old new reads e stands = stands-beside st old new
    (subst (λ (v : AppView). v ≡ record old { reads = v.reads; looks = v.looks }) (sym e) refl) stands

-- what was read of a loan stands at its marks
pub read-text : (old new : AppView) → LieApart old → (lending : Lending) (loan : Place) (from : ℕ) (text : List ℕ) → lending.loan ≡ loan
    → lending.note < length old.taken → IsIn (lent_piece old.taken lending) old.loans → ShowsCopy (loan_origin old loan) from text
    → from + length text ≤ loan.len → new ≡ has_read old loan from text
    → AreReadAt new.taken new.reads (marks_from lending.note (lending.at + from) (length text)) text
read-text old new apart lending loan from text same known out shows within view =
    subst (λ (v : AppView). AreReadAt v.taken v.reads (marks_from lending.note (lending.at + from) (length text)) text) (sym view)
    (subst (λ (p : Place). AreReadAt old.taken (has_read old p from text).reads (marks_from lending.note (lending.at + from) (length text)) text) same
    (read-there old.taken old apart lending from text out known (subst (λ (p : Place). ShowsCopy (loan_origin old p) from text) (sym same) shows)
    (omega (arith, within, ap (λ (p : Place). p.len) same))))

-- all was scrubbed
pub scrubbed-stands : (st : Desk) (v new : AppView) → StreamStands st v → st.stopped ≡ true → v.loans ≡ [] → new ≡ has_scrubbed v
    → StreamStands (record st { scrubbed = true }) new
scrubbed-stands st v new stands stopped none e = subst (StreamStands (record st { scrubbed = true })) (sym e) (record {
  common = record {
    here = stands.common.here;
    settled = stands.common.settled;
    counted = refl;
    bare = λ _. (stopped, none, refl);
    owns = stands.common.owns;
    app = stands.common.app;
    ended = stands.common.ended;
    apart = record { once = stands.common.apart.once; some = stands.common.apart.some };
    found = stands.common.found;
    distinct = stands.common.distinct;
    few = stands.common.few;
  };
  going = λ on _. (let clash : true ≡ false = sym stopped ∙ on in absurd (cc));
  released = stands.released;
  whole = λ _ on. (let clash : true ≡ false = sym stopped ∙ on in absurd (cc));
})

-- ---- scrubbing and leaving

-- each refill slot was seen free now, or stays free since the user counts were scrubbed
quiet-then : (st : Desk) (v new : AppView) → StreamStands st v → HasScrubbed v new → new ≡ has_scrubbed v
quiet-then st v new stands is = is.view ∙ ap (λ q. record v { scrubbed = true; quiet = q }) (quiet-now v.scrubbed refl)
  where
    quiet-now : (b : Bool) → v.scrubbed ≡ b → new.quiet ≡ true
    quiet-now true was = let (on, loans, quiet) = stands.common.bare (sym stands.common.counted ∙ was) in is.same was ∙ quiet
    quiet-now false was = is.seen was

module _ (st : Desk) (v new : AppView) (stands : StreamStands st v) (done : Bool) where
  abbrev now : Desk
  now = record st { scrubbed = done }

  pub scrubs-of : (result : Bool) → ScrubsOnce st.scrubbed done v new result → ScrubsOrWaits st now v new result
  scrubs-of true (is, scrubbed) = (ap (λ b. record st { scrubbed = b }) is, quiet-then st v new stands scrubbed)
  scrubs-of false (is, saw) = (ap (λ b. record st { scrubbed = b }) is, saw)

  pub stands-scrubbed : st.stopped ≡ true → v.loans ≡ [] → (result : Bool) → ScrubsOnce st.scrubbed done v new result → StreamStands now new
  stands-scrubbed stopped none true (is, scrubbed) = subst (λ b. StreamStands (record st { scrubbed = b }) new) (sym is)
      (scrubbed-stands st v new stands stopped none (quiet-then st v new stands scrubbed))
  stands-scrubbed stopped none false (is, saw) = subst (λ b. StreamStands (record st { scrubbed = b }) new) (sym is)
      (saw-stands st v new NotQuiet saw.event stands)

  pub left-of : (result : Bool) → LeavesOnce st.scrubbed done v new result
      → MatchBool result (new ≡ has_left v) (StreamStands st new × AppOnlySaw NotQuiet v new)
  left-of true (is, (mid, scrubbed, left)) = left ∙ ap left_board (quiet-then st v mid stands scrubbed)
  left-of false (is, saw) = (saw-stands st v new NotQuiet saw.event stands, saw)
