-- All that an application has out is given up: what is left.
use Rattle.std.proofs.Common.{zero, suc, get_or, ◌∷◌, ◌≡◌, ℕ, ◌+◌, ◌<◌, ◌≤◌, true, false, List, [], Option, None, IsSome, map, length, take, drop}
use Rattle.std.{proofs.Common.{refl, sym, ap, subst, ◌≢◌, ◌∙◌, arith, ◌++◌, append-nil, append_assoc, ◌-◌}, specs.Prelude.{◌==◌, if◌then◌else◌}}
use Rattle.std.proofs.Math.{Nat.{mul-le-mul_left}, Seq.{drop-append_seam, drop-length}}
use Rattle.zr_kinds.specs.{declared.{ring.Completion.{Completion}, place.Place.{Place}}, CopyingReceiver.{nothing_placed, values_from}}
use Rattle.zr_io.{specs.Moved.{Gained}, proofs.Moved.{Gained-weaker}}
use Rattle.board_face.specs.declared.views.app.{Reading.{Reading}, TakenNote.{TakenNote}, LentPiece.{LentPiece}, HeldPiece.{HeldPiece}, AppView.{AppView}}
use Rattle.flow_queues.specs.declared.queues.{Lending.{Lending}, FlowQueue.{FlowQueue}}
use Rattle.flow_queues.specs.Core.{total, many, over_due, over_read, short_bytes, lent_piece, own_notes, BeginAt, received_notes}
use Rattle.flow_queues.{specs.Core.{AreReadAt, most_at_once, is_copy, IsIn, unsplit_len}, proofs.Indexing.{by-place}}
use Rattle.flow_queues.specs.Shelves.{FlowEnds, kept_loans, IsShelved, AreShelved, AreOfOneLoan, ReadsFront, IsFrontShelved, AreFronts}
use Rattle.flow_queues.specs.{Totals.{capped, taken_len, lent_len, loan_entries}, Flows.{IsIndex, place_in_index, FlowFacts, facts_of}, Pieces.{AllReleased}}
use Rattle.flow_queues.proofs.{GivenBack.{gives-gone, gives-count, front-gone}, Tokens.{total-append, in-right, in-total, is_that_loan, that-loan, is-lent-there}}
use Rattle.flow_queues.proofs.{Looks.{looks-same}, Releasing.{total-none, each-facts, total-facts}}
use Rattle.app_worker.{specs.State.{State, Common, due_one, app_steps, one_if, read_of}, proofs.{Accounts.{sound-gone}, Origins.{origins-more, gone-origins}}}
use Rattle.app_worker.{proofs.{ReadWhole.{given-all, gives-still}, Written.{blocks-moved}}, specs.{Moves.{over_leaked}, Whole.{Torn}, Letting.{Abandons, LetGo}}}
use Rattle.app_worker.proofs.{Measure.{read-one, read-parts, due-most}, Moving.{total-one, due-is}}
use Rattle.circular_buffer.specs.Buffer.{buffer}

-- what is said of a flow is said by its facts
pub ends-facts : (taken : List TakenNote) (f g : FlowQueue) → facts_of g ≡ facts_of f → FlowEnds taken f → FlowEnds taken g
ends-facts taken f g same ends =
    let P : FlowFacts → Type 0 = λ x. BeginAt x.base (own_notes x.number taken)
    × ((p : ℕ) → p < x.bytes → IsSome ((received_notes x.base nothing_placed (own_notes x.number taken)).at p)) in
    let moved : P (facts_of g) = subst P (sym same) (ends.begun, ends.below) in
    record { begun = moved.0; below = moved.1 }

-- and so are the places of flows
length-facts : (xs ys : List FlowQueue) → map facts_of ys ≡ map facts_of xs → length ys ≡ length xs
length-facts [] [] same = refl
length-facts [] (y ∷ ys) same = absurd (cc)
length-facts (x ∷ xs) [] same = absurd (cc)
length-facts (x ∷ xs) (y ∷ ys) same = let tail : map facts_of ys ≡ map facts_of xs = cc in ap suc (length-facts xs ys tail)

number-facts : (xs ys : List FlowQueue) → map facts_of ys ≡ map facts_of xs → (k : ℕ) (d : FlowQueue)
    → (get_or ys k d).number ≡ (get_or xs k d).number
number-facts [] [] same k d = refl
number-facts [] (y ∷ ys) same k d = absurd (cc)
number-facts (x ∷ xs) [] same k d = absurd (cc)
number-facts (x ∷ xs) (y ∷ ys) same zero d =
    let head : facts_of y ≡ facts_of x = cc in ap (λ (f : FlowFacts). f.number) head
number-facts (x ∷ xs) (y ∷ ys) same (suc k) d = let tail : map facts_of ys ≡ map facts_of xs = cc in number-facts xs ys tail k d

index-facts : (index : List (ℕ × ℕ)) (flows now : List FlowQueue) → map facts_of now ≡ map facts_of flows → IsIndex index flows
    → IsIndex index now
index-facts index flows now facts is number = by-place (place_in_index index number) (many number flows ≡ 0) (many number now ≡ 0)
    (λ k. (k < length flows) × ((d : FlowQueue) → (get_or flows k d).number ≡ number))
    (λ k. (k < length now) × ((d : FlowQueue) → (get_or now k d).number ≡ number))
    (λ none. total-facts (λ x. if x.number == number then 1 else 0) flows now facts ∙ none)
    (λ k there. (omega (arith, length-facts flows now facts, there.0), λ d. number-facts flows now facts k d ∙ there.1 d))
    (is number)

pub shelved-facts : (first kept : ℕ → Option (List ℕ)) (taken : List TakenNote) (reads : List Reading) (f g : FlowQueue) → facts_of g ≡ facts_of f
    → IsShelved first kept taken reads f → IsShelved first kept taken reads g
shelved-facts first kept taken reads f g same shelved =
    let P : FlowFacts → Type 0 = λ x. Gained (first x.number) (kept x.number)
    (λ bytes. AreReadAt taken reads (values_from (received_notes x.base nothing_placed (own_notes x.number taken)).at x.bytes 0) bytes) in
    record { gained = subst P (sym same) shelved.gained }

-- Each loan that no entry gave back was out, and is abandoned.
still-kept : (old new : AppView) (more : List LentPiece) → loan_entries old ≡ length old.returned → drop (loan_entries new) new.returned ≡ more
    → ((f : LentPiece → ℕ) → total f more ≡ total f old.loans) → (x : LentPiece) → IsIn x (kept_loans old) → IsIn x (kept_loans new)
still-kept old new more all_given rest went x there =
    let none : drop (loan_entries old) old.returned ≡ [] = ap (λ n. drop n old.returned) all_given ∙ drop-length old.returned in
    let out : IsIn x old.loans = subst (IsIn x) (ap (λ ls. old.loans ++ ls) none ∙ append-nil old.loans) there in
    let gone : IsIn x more = is-lent-there x more
    (omega (arith, went (is_that_loan x), in-total (is_that_loan x) x old.loans out, that-loan x)) in
    in-right x new.loans (drop (loan_entries new) new.returned) (subst (IsIn x) (sym rest) gone)

-- the same of a shelf that failed
front-facts : (taken : List TakenNote) (reads : List Reading) (lent later : List LentPiece) → ((x : LentPiece) → IsIn x lent → IsIn x later)
    → (f g : FlowQueue) → facts_of g ≡ facts_of f → (bytes : List ℕ) → ReadsFront taken reads lent f bytes → ReadsFront taken reads later g bytes
front-facts taken reads lent later stay f g same bytes front =
    let P : FlowFacts → Type 0 = λ x. (x.bytes ≤ front.count)
    × (front.count ≤ x.bytes + most_at_once)
    × (x.bytes < front.count → AreOfOneLoan taken later
    (values_from (received_notes x.base nothing_placed (own_notes x.number taken)).at (front.count - x.bytes) x.bytes))
    × ((p : ℕ) → p < front.count → IsSome ((received_notes x.base nothing_placed (own_notes x.number taken)).at p))
    × AreReadAt taken reads (values_from (received_notes x.base nothing_placed (own_notes x.number taken)).at front.count 0) bytes in
    let moved : P (facts_of g) = subst P (sym same) (
      front.at_least,
      front.at_once,
      λ more. (let of = front.beyond more in record {
        lending = of.lending;
        known = of.known;
        out = stay (lent_piece taken of.lending) of.out;
        from = of.from;
        within = of.within;
        are = of.are;
      }),
      front.below,
      front.are,
    ) in
    record { count = front.count; at_least = moved.0; at_once = moved.1; beyond = moved.2; below = moved.3; are = moved.4 }

fronts-facts : (first kept : ℕ → Option (List ℕ)) (taken : List TakenNote) (reads : List Reading) (lent later : List LentPiece)
    → ((x : LentPiece) → IsIn x lent → IsIn x later) → (f g : FlowQueue) → facts_of g ≡ facts_of f
    → IsFrontShelved first kept taken reads lent f → IsFrontShelved first kept taken reads later g
fronts-facts first kept taken reads lent later stay f g same shelved =
    let number : f.number ≡ g.number = ap (λ (x : FlowFacts). x.number) (sym same) in
    record {
      gained = subst (λ n. Gained (first n) (kept n) (ReadsFront taken reads later g)) number
          (Gained-weaker (first f.number) (kept f.number) (ReadsFront taken reads lent f) (ReadsFront taken reads later g)
          (front-facts taken reads lent later stay f g same) shelved.gained);
    }

-- all flows, once pieces and loans went
module _ (first kept : ℕ → Option (List ℕ)) (flows now : List FlowQueue) (old : AppView) (helds : List HeldPiece) (loans returned : List LentPiece)
    (facts : map facts_of now ≡ map facts_of flows) where
  abbrev gone_view : AppView
  gone_view = record old { helds = helds; loans = loans; returned = returned }

  still-none : (n : ℕ) → many n now ≡ 0 → many n flows ≡ 0
  still-none n none = sym (total-facts (λ x. if x.number == n then 1 else 0) flows now facts) ∙ none

  shelves-facts : AreShelved first kept flows old → AreShelved first kept now gone_view
  shelves-facts shelved = record {
    flows = each-facts (IsShelved first kept old.taken old.reads) (IsShelved first kept old.taken old.reads)
        (shelved-facts first kept old.taken old.reads) flows now facts shelved.flows;
    others = λ n none. shelved.others n (still-none n none);
  }

  fronts-gone : ((x : LentPiece) → IsIn x (kept_loans old) → IsIn x (kept_loans gone_view)) → AreFronts first kept flows old
      → AreFronts first kept now gone_view
  fronts-gone stay shelved = record {
    flows = each-facts (IsFrontShelved first kept old.taken old.reads (kept_loans old))
        (IsFrontShelved first kept old.taken old.reads (kept_loans gone_view))
        (fronts-facts first kept old.taken old.reads (kept_loans old) (kept_loans gone_view) stay) flows now facts shelved.flows;
    torn = shelved.torn;
    exact = each-facts IsExact IsExact
        (λ f g same exact other. shelved-facts first kept old.taken old.reads f g same (exact (λ is. other (ap (λ (x : FlowFacts). x.number) same ∙ is))))
        flows now facts shelved.exact;
    others = λ n none. shelved.others n (still-none n none);
  }
    where
      IsExact : FlowQueue → Type 0
      IsExact f = f.number ≢ shelved.torn → IsShelved first kept old.taken old.reads f

-- what is unread is out
pub unread-out : (was : State) (old : AppView) → Torn was old → (f : LentPiece → ℕ)
    → total (λ (p : Completion × Lending). f (lent_piece old.taken p.1)) was.unread ≤ total f old.loans
unread-out was old torn f =
    omega (arith, torn.tokens.loans f, total-append (λ (p : Completion × Lending). f (lent_piece old.taken p.1)) was.unread was.posted.entries)

-- and what was read still is, once what is unread was abandoned
read-still-out : (was : State) (old v1 : AppView) → Torn was old
    → Abandons old v1 (λ f. total (λ p. f (lent_piece old.taken p.1)) was.unread) → (f : LentPiece → ℕ)
    → over_due v1.taken f was.due + over_read v1.taken f was.leaked.items ≤ total f v1.loans
read-still-out was old v1 torn first f =
    let taken : v1.taken ≡ old.taken = ap (λ (v : AppView). v.taken) first.only.view in
    subst (λ ts. over_due ts f was.due + over_read ts f was.leaked.items ≤ total f v1.loans) (sym taken)
    (omega (
      arith,
      torn.tokens.loans f,
      first.loans f,
      read-parts old.taken f was.due was.leaked.items,
      total-append (λ (p : Completion × Lending). f (lent_piece old.taken p.1)) was.unread was.posted.entries,
    ))

pub due-still-out : (was : State) (old v1 : AppView) → Torn was old
    → Abandons old v1 (λ f. total (λ p. f (lent_piece old.taken p.1)) was.unread) → (f : LentPiece → ℕ)
    → over_due v1.taken f was.due ≤ total f v1.loans
due-still-out was old v1 torn first f = omega (arith, read-still-out was old v1 torn first f)

-- and what is kept to the end, once that was abandoned too
pub leaked-still-out : (was : State) (old v1 v2 : AppView) → Torn was old
    → Abandons old v1 (λ f. total (λ p. f (lent_piece old.taken p.1)) was.unread) → Abandons v1 v2 (λ f. over_due v1.taken f was.due)
    → (f : LentPiece → ℕ) → over_read v2.taken f was.leaked.items ≤ total f v2.loans
leaked-still-out was old v1 v2 torn first second f =
    let taken : v2.taken ≡ v1.taken = ap (λ (v : AppView). v.taken) second.only.view in
    subst (λ ts. over_read ts f was.leaked.items ≤ total f v2.loans) (sym taken)
    (omega (arith, read-still-out was old v1 torn first f, second.loans f))

pub gone-all : (was : State) (now : List FlowQueue) (old v1 v2 v3 new : AppView) → was.posted.entries ≡ [] → was.bare ≡ false → was.stray.left ≡ 0
    → Torn was old
    → Common was old
    → Abandons old v1 (λ f. total (λ p. f (lent_piece old.taken p.1)) was.unread) → Abandons v1 v2 (λ f. over_due v1.taken f was.due)
    → Abandons v2 v3 (λ f. over_read v2.taken f was.leaked.items)
    → AllReleased v3 new was.flows now
    → LetGo was (record was { flows = now; unread = []; due = None; leaked = buffer [] was.leaked.capacity; bare = true }) old new
gone-all was now old v1 v2 v3 new reaped not_yet pushed torn common first second third released =
    let facts : map facts_of now ≡ map facts_of was.flows = released.facts in
    let tokens : v3 ≡ record old { helds = v3.helds; loans = v3.loans; returned = v3.returned } = third.only.view
    ∙ ap (λ (x : AppView). record x { helds = v3.helds; loans = v3.loans; returned = v3.returned }) second.only.view
    ∙ ap (λ (x : AppView). record x { helds = v3.helds; loans = v3.loans; returned = v3.returned }) first.only.view in
    let one : LentPiece → ℕ = λ _. 1 in
    let due : ℕ = due_one was.due in
    let kept : ℕ = length was.leaked.items in
    let all : total one old.loans ≡ length was.unread + (due + kept) = omega (
      arith,
      torn.tokens.loans one,
      total-append (λ (p : Completion × Lending). one (lent_piece old.taken p.1)) was.unread was.posted.entries,
      total-one was.unread,
      ap (total (λ (p : Completion × Lending). one (lent_piece old.taken p.1))) reaped,
      read-one old.taken was.due was.leaked.items,
    ) in
    let none : v3.loans ≡ [] = total-none v3.loans (omega (
      arith,
      first.loans one,
      second.loans one,
      third.loans one,
      all,
      total-one was.unread,
      due-is v1.taken was.due,
      total-one was.leaked.items,
    )) in
    let more : List LentPiece = first.behind.0 ++ second.behind.0 ++ third.behind.0 in
    let behind : v3.returned ≡ old.returned ++ more = third.behind.1
    ∙ ap (λ ls. ls ++ third.behind.0) (second.behind.1 ∙ ap (λ ls. ls ++ second.behind.0) first.behind.1
    ∙ append_assoc old.returned first.behind.0 second.behind.0)
    ∙ append_assoc old.returned (first.behind.0 ++ second.behind.0) third.behind.0 in
    let gone : AppView = record old { helds = []; loans = []; returned = old.returned ++ more } in
    let view : new ≡ gone = released.view ∙ ap (λ (x : AppView). record x { helds = [] }) tokens
    ∙ ap (λ ls. record old { helds = []; loans = ls; returned = v3.returned }) none ∙ ap (λ ls. record gone { returned = ls }) behind in
    let went : (f : LentPiece → ℕ) → total f more ≡ total f old.loans = λ f. omega (
      arith,
      first.back f,
      second.back f,
      third.back f,
      first.loans f,
      second.loans f,
      third.loans f,
      ap (total f) none,
      ap (total f) behind,
      total-append f old.returned more,
    ) in
    let back : (f : LentPiece → ℕ) → total f gone.returned ≡ total f old.returned + total f old.loans =
    λ f. omega (arith, went f, total-append f old.returned more) in
    let count : length gone.returned ≡ length old.returned + length old.loans =
    omega (arith, back one, total-one gone.returned, total-one old.returned, total-one old.loans) in
    let all_given : loan_entries old ≡ length old.returned = gives-count old old.returned torn.given in
    let rest : drop (loan_entries old) gone.returned ≡ more = ap (λ n. drop n gone.returned) all_given ∙ drop-append_seam old.returned more in
    let front : take (loan_entries old) gone.returned ≡ old.returned = front-gone old gone more refl refl refl torn.given in
    let all_leaked : (f : Place → ℕ) → over_leaked f was old ≤ total (λ l. f l.place) (drop (loan_entries old) gone.returned) = λ f. omega (
      arith,
      ap (λ b. if b then total (λ (l : LentPiece). f l.place) (drop (loan_entries old) old.returned) else total (λ (l : Lending). f l.loan) was.leaked.items)
          not_yet,
      ap (total (λ (l : LentPiece). f l.place)) rest,
      went (λ l. f l.place),
      torn.tokens.loans (λ l. f l.place),
      read-parts old.taken (λ l. f l.place) was.due was.leaked.items,
    ) in
    let all_gone : (f : Place → ℕ) → total (λ l. f l.place) old.returned + total (λ l. f l.loan) (read_of was)
    + total (λ (p : Completion × Lending). f p.1.loan) was.unread ≡ total (λ l. f l.place) gone.returned + 0 = λ f. omega (
      arith,
      back (λ l. f l.place),
      torn.tokens.loans (λ l. f l.place),
      total-append (λ (p : Completion × Lending). f p.1.loan) was.unread was.posted.entries,
      ap (total (λ (p : Completion × Lending). f p.1.loan)) reaped,
    ) in
    let longer : length old.returned ≤ length gone.returned = omega (arith, count) in
    let steps : app_steps was old
    < app_steps (record was { flows = now; unread = []; due = None; leaked = buffer [] was.leaked.capacity; bare = true }) gone = omega (
      arith,
      count,
      ap one_if not_yet,
      all,
      total-one old.loans,
      due-most was.due,
      mul-le-mul_left was.how.stray longer,
    ) in
    let bytes : total (λ f. f.bytes) now ≡ total (λ f. f.bytes) was.flows = total-facts (λ x. x.bytes) was.flows now facts in
    let copies : old.spares ≡ 0 + total is_copy gone.returned = omega (arith, back is_copy, common.copies) in
    let spares : old.spares + total (λ f. short_bytes f.queue) now ≤ total unsplit_len old.taken = omega (arith, released.short, common.spares) in
    let loans : was.loans ≡ capped (0 + length gone.returned) = common.loans ∙ ap capped (omega (arith, count)) in
    let leaks : 0 ≤ was.how.leak = omega arith in
    let entries : loan_entries old ≤ length gone.returned = omega (arith, common.entries, count) in
    let bound : 0 + length gone.returned + 0 + total (λ f. short_bytes f.queue) now ≤ total taken_len old.taken = omega (arith, count, released.short, common.bound) in
    rw view (record {
      helds = refl;
      loans = refl;
      back = back;
      behind = (more, refl);
      given = gives-gone old gone more refl refl refl torn.given;
      entries = all_given;
      same = refl;
      facts = facts;
      ends = each-facts (FlowEnds old.taken) (FlowEnds old.taken) (ends-facts old.taken) was.flows now facts torn.flows;
      distinct = λ n. omega (arith, total-facts (λ x. if x.number == n then 1 else 0) was.flows now facts, torn.distinct n);
      index = index-facts was.index was.flows now facts torn.index;
      within_lent = omega (arith, back lent_len, bytes, torn.within_lent);
      whole_given = omega (arith, ap (total lent_len) front, bytes, torn.whole_given);
      common = assumption (
        common.written ∙ ap capped (sym bytes),
        origins-more old gone more refl refl common.origins (gone-origins old.taken more (was.unread ++ was.posted.entries) (read_of was)
            (λ f. omega (arith, went f, torn.tokens.loans f)) torn.lent torn.due_lent),
        gives-still old gone refl (front ∙ sym (given-all old torn.given)) common.gives_whole,
        sound-gone old gone refl torn.tokens.apart back common.sound,
        blocks-moved was.how.stray old gone was.stray more refl refl refl (λ f. omega (arith, went f)) common.entries common.blocks,
        tt,
      );
      moves = record {
        same = (refl, refl, refl, omega arith);
        how = (refl, refl);
        places = refl;
        steps = omega (arith, steps);
        looks = looks-same old gone refl;
        keeps = λ n r before live. absurd (cc);
        stays = λ _. refl;
        leaked = λ live. absurd (cc);
        abandons = λ f. all_leaked f;
        reaps = record {
          read = was.unread;
          more = [];
          in_order = append-nil (was.unread ++ was.posted.entries);
          lent = λ f. omega (arith, back (λ l. f l.place));
          tells = tt;
          gone = λ f. all_gone f;
        };
        bytes = λ n. omega (arith, total-facts (λ x. if x.number == n then x.bytes else 0) was.flows now facts);
      };
      steps = steps;
      shelved = λ begin kept. shelves-facts begin kept was.flows now old [] [] (old.returned ++ more) facts;
      fronts = λ begin kept. fronts-gone begin kept was.flows now old [] [] (old.returned ++ more) facts (still-kept old gone more all_given rest went);
      none_left = pushed;
      taken = refl;
      left = refl;
    })
