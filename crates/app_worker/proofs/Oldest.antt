-- The oldest loan is read: all that is kept then.
use Rattle.std.proofs.Common.{◌≡◌, ◌≢◌, ℕ, ◌+◌, ◌-◌, ◌^◌, ◌<◌, ◌≤◌, min, Bool, true, false, List, [], ◌∷◌, ◌++◌, Option, Some, None, IsSome, length}
use Rattle.std.proofs.Common.{drop, set, get_or, refl, sym, ap, subst, ◌∙◌, arith, ◌⊎◌, ⊎_elim, append-nil, length-append, inl, inr}
use Rattle.std.{specs.{Prelude.{slice_get, ◌==◌, if◌then◌else◌}, Io.KnownBytes.{Keeps}}, proofs.{KnownBytes.{Keeps-trans}, lemmas.Bool.{cases_Bool}}}
use Rattle.board_face.specs.{declared.views.app.{LentPiece.{LentPiece}, TakenNote.{TakenNote}, AppView.{AppView}}, AppEvents.{reserve_of}}
use Rattle.zr_kinds.specs.{declared.{ring.Completion.{Completion}, behaviour.Stopped.{Stopped}}, CopyingReceiver.{values_from}}
use Rattle.zr_io.{specs.Moved.{Gained, Rose}, proofs.Moved.{Gained-weaker, Gained-then}}
use Rattle.flow_queues.specs.{Marks.{Mark, marks_from}, declared.queues.{Lending.{Lending}, FlowQueue.{FlowQueue}}}
use Rattle.flow_queues.specs.Core.{total, Each, Stands, FlowStands, HasTokens, OnlyReads, IsReadOf, AreReadAt, placed_of, marks_of_loan}
use Rattle.flow_queues.specs.Core.{many, short_bytes, IsIn, lent_piece, read_out, held_len, unsplit_len}
use Rattle.flow_queues.specs.Totals.{lent_bytes, Quits, capped, taken_len, lent_len, bytes_if, queue_bytes_of, loan_entries}
use Rattle.flow_queues.specs.Shelves.{FlowEnds, kept_loans, IsShelved, AreShelved, AreOfOneLoan, ReadsFront, IsFrontShelved, AreFronts}
use Rattle.flow_queues.proofs.Standing.{At, split-at, each-right, each-changed, many-same, total-changed, parts-alike, is_number, number-is}
use Rattle.flow_queues.proofs.{Tokens.{total-append, in-left}, Entering.{marks-length}, ReadLemmas.{all-grow, read-append, marks-split}}
use Rattle.flow_queues.proofs.{Placing.{values-split, values-length}, Looks.{looks-same}, Indexing.{index-set}, Resting.{rest-same, each-same}}
use Rattle.zr_kinds.specs.declared.behaviour.Stopped.TheVariants as stop
use Rattle.app_worker.specs.State.{State, read_of, TellsOfLoan, LiesOutside, Working, Common, due_one, loan_len, app_steps}
use Rattle.app_worker.specs.{Moves.{Moves, KeptSince, reads_of, reserve_loans}, Flushing.{FlushesUnread, loans_so_far}, Whole.{Torn, ReadOne, ReadQuit, ReadFailed}}
use Rattle.app_worker.specs.Whole.{Appended}
use Rattle.app_worker.proofs.{LoansStand.{IsNextRead, is-next, stands-read, tokens-read, appended, own-stands, oldest-out}, Shelved.{shelved-reaped, shelved-other}}
use Rattle.app_worker.{proofs.{EachBoth.{each-both}, Moving.{total-one, no-write, same-leaked}, Through.{moves-stopped}}, specs.ReadWhole.{IsReadWhole, AreReadWhole}}
use Rattle.app_worker.proofs.ReadWhole.{gives-more, read-more}

pub front-of : {A : Type 0} (xs : List A) (x : A) → slice_get xs 0 ≡ Some x → xs ≡ x ∷ drop 1 xs
front-of [] x is = absurd (cc)
front-of (y ∷ ys) x is = let e : y ≡ x = cc in ap (λ z. z ∷ ys) e

-- what was appended of a flow has its place, also of one more loan
pub ends-of : (taken : List TakenNote) (posted : List (Completion × Lending)) (f : FlowQueue) (b : ℕ) → b ≤ f.queue.popped → FlowStands taken posted f
    → FlowEnds taken (record f { bytes = b })
ends-of taken posted f b within stands = record { begun = stands.begun; below = λ p below. stands.holds.popped p (omega arith) }

-- ---- the shelf failed

-- what was appended of another flow
front-other : (first kept now : ℕ → Option (List ℕ)) (taken : List TakenNote) (posted : List (Completion × Lending)) (old new : AppView)
    (lent : List LentPiece) (f : FlowQueue)
    → OnlyReads old new → Keeps (kept f.number) (now f.number) → FlowStands taken posted f → IsShelved first kept taken old.reads f
    → IsFrontShelved first now taken new.reads lent f
front-other first kept now taken posted old new lent f only keeps stands shelved =
    let still : IsShelved first now taken new.reads f = shelved-other first kept now taken old new f only keeps shelved in
    record {
      gained = Gained-weaker (first f.number) (now f.number) (λ bytes. AreReadAt taken new.reads (values_from (placed_of f taken).at f.bytes 0) bytes)
          (ReadsFront taken new.reads lent f)
          (λ bytes are. record {
            count = f.bytes;
            at_least = omega arith;
            at_once = omega arith;
            beyond = λ more. absurd (omega (arith, more));
            below = λ p below. stands.holds.popped p (omega (arith, below, stands.counted));
            are = are;
          }) still.gained;
    }

-- and of the flow whose loan was read
front-own : (first kept now : ℕ → Option (List ℕ)) (taken : List TakenNote) (old new : AppView) (own : FlowQueue) (l : Lending) (bytes most : ℕ)
    (ps : List (Completion × Lending)) (lent : List LentPiece) → l.note < length taken → IsIn (lent_piece taken l) lent → OnlyReads old new
    → own.bytes ≤ bytes → most ≤ l.loan.len
    → ((q : ℕ) → q < own.queue.popped → IsSome ((placed_of own taken).at q)) → IsNextRead taken own l ps
    → IsShelved first kept taken old.reads own → Gained (kept own.number) (now own.number) (IsReadOf taken new.reads l (bytes - own.bytes) most)
    → IsFrontShelved first now taken new.reads lent (record own { bytes = bytes })
front-own first kept now taken old new own l bytes most ps lent known out only more part there next shelved gained =
    let at : ℕ → Option Mark = (placed_of own taken).at in
    let start : 0 + own.bytes ≡ own.bytes = omega arith in
    record {
      gained = Gained-then (first own.number) (kept own.number) (now own.number) (λ xs. AreReadAt taken old.reads (values_from at own.bytes 0) xs)
          (IsReadOf taken new.reads l (bytes - own.bytes) most) (ReadsFront taken new.reads lent (record own { bytes = bytes }))
          (λ xs ys was is.
          let k : ℕ = length ys in
          let r : ℕ = l.loan.len - k in
          let len : l.loan.len ≡ k + r = omega (arith, is.at_most, part) in
          let grow : AreReadAt taken new.reads (values_from at own.bytes 0) xs = subst (λ rs. AreReadAt taken rs (values_from at own.bytes 0) xs)
          (sym only.are)
          (all-grow taken old.reads only.more (values_from at own.bytes 0) xs was) in
          let split_marks : marks_of_loan l ≡ marks_from l.note l.at k ++ marks_from l.note (l.at + k) r = ap (marks_from l.note l.at) len
          ∙ marks-split l.note l.at k r in
          let split_values : values_from at l.loan.len own.bytes
          ≡ values_from at k own.bytes ++ values_from at r (own.bytes + k) = ap (λ n. values_from at n own.bytes) len
          ∙ values-split at k r own.bytes (λ q from until. there q (omega (arith, next.within, is.at_most, part))) in
          let size_marks : length (marks_from l.note l.at k) ≡ k = marks-length l.note l.at k in
          let size_values : length (values_from at k own.bytes)
          ≡ k = values-length at k own.bytes (λ q from until. there q (omega (arith, next.within, is.at_most, part))) in
          let (same, _) = parts-alike (marks_from l.note l.at k) (marks_from l.note (l.at + k) r) (values_from at k own.bytes)
          (values_from at r (own.bytes + k)) (size_marks ∙ sym size_values) (sym split_marks ∙ next.marks ∙ split_values) in
          let all : values_from at (own.bytes + k) 0 ≡ values_from at own.bytes 0 ++ values_from at k own.bytes =
          values-split at own.bytes k 0 (λ q from until. there q (omega (arith, next.within)))
          ∙ ap (λ p. values_from at own.bytes 0 ++ values_from at k p) start in
          let d : ℕ = bytes - own.bytes in
          let m : ℕ = k - d in
          let parts : k ≡ d + m = omega (arith, is.at_least) in
          let counted : own.bytes + d ≡ bytes = omega (arith, more) in
          let behind : own.bytes + k - bytes ≡ m = omega (arith, is.at_least, more) in
          let values_parts : values_from at k own.bytes ≡ values_from at d own.bytes ++ values_from at m bytes = ap (λ n. values_from at n own.bytes) parts
          ∙ values-split at d m own.bytes (λ q from until. there q (omega (arith, next.within, is.at_most, part, parts, until)))
          ∙ ap (λ q. values_from at d own.bytes ++ values_from at m q) counted in
          let marks_parts : marks_from l.note l.at k ≡ marks_from l.note l.at d ++ marks_from l.note (l.at + d) m = ap (marks_from l.note l.at) parts
          ∙ marks-split l.note l.at d m in
          let size_counted : length (values_from at d own.bytes) ≡ d = values-length at d own.bytes
          (λ q from until. there q (omega (arith, next.within, is.at_most, part, parts, until))) in
          let size_behind : length (values_from at m bytes) ≡ m = values-length at m bytes
          (λ q from until. there q (omega (arith, next.within, is.at_most, part, parts, until, counted))) in
          let (_, beyond) = parts-alike (marks_from l.note l.at d) (marks_from l.note (l.at + d) m) (values_from at d own.bytes) (values_from at m bytes)
          (marks-length l.note l.at d ∙ sym size_counted) (sym marks_parts ∙ same ∙ values_parts) in
          record {
            count = own.bytes + k;
            at_least = omega (arith, is.at_least, more);
            at_once = omega (arith, is.at_once, more);
            beyond = λ _. subst (λ n. AreOfOneLoan taken lent (values_from at n bytes)) (sym behind) (record {
              lending = l;
              known = known;
              out = out;
              from = d;
              within = omega (arith, size_behind, parts, is.at_most, part);
              are = sym beyond ∙ ap (marks_from l.note (l.at + d)) (sym size_behind);
            });
            below = λ q below. there q (omega (arith, next.within, is.at_most, part));
            are = subst (λ ms. AreReadAt taken new.reads ms (xs ++ ys)) (sym all)
                (read-append taken new.reads (values_from at own.bytes 0) (values_from at k own.bytes) xs ys grow
                (subst (λ ms. AreReadAt taken new.reads ms ys) same is.are));
          })
          shelved.gained gained;
    }

own-many : (before after : List FlowQueue) (own : FlowQueue) → many own.number (before ++ own ∷ after) ≤ 1
    → many own.number (before ++ own ∷ after) ≡ 1
own-many before after own few = omega (arith, few, total-append (is_number own.number) before (own ∷ after), number-is own.number own refl)

abbrev pub with_read : State → ℕ → FlowQueue → ℕ → List (Completion × Lending) → Lending → ℕ → Bool → State
with_read was i own bytes unread l written flush = record was {
  flows = set was.flows i (record own { bytes = bytes });
  unread = unread;
  due = Some l;
  written = written;
  flush = flush;
}

module _ (was : State) (i : ℕ) (own : FlowQueue) (p : Completion × Lending) (ps : List (Completion × Lending)) (old new : AppView)
    (unread : was.unread ≡ p ∷ ps) (due : was.due ≡ None) (pushed : was.stray.left ≡ 0) (within : i < length was.flows)
    (value : own ≡ get_or was.flows i own)
    (number : p.0.user_data ≡ own.number) (only : OnlyReads old new) (works : Working was old) (common : Common was old)
    (reaped : was.posted.entries ≡ []) (flush : Bool) (flush_on : flush ≡ true → (was.flush ≡ true) × (ps ≢ []))
    (flush_off : flush ≡ false → (was.flush ≡ false) ⊎ (ps ≡ []))
    (more_kept : was.ended ≡ false → was.flush ≡ false → was.how.hold < length was.unread) where
  at : At was.flows i own
  at = split-at was.flows i own within value

  all : was.unread ++ was.posted.entries ≡ p ∷ (ps ++ was.posted.entries)
  all = ap (λ es. es ++ was.posted.entries) unread

  stood : Stands was.notes (at.before ++ own ∷ at.after) (p ∷ (ps ++ was.posted.entries)) was.leaked.items old
  stood = subst (λ d. Stands was.notes (at.before ++ own ∷ at.after) (p ∷ (ps ++ was.posted.entries)) (read_out d was.leaked.items) old) due
      (subst (λ es. Stands was.notes (at.before ++ own ∷ at.after) es (read_of was) old) all
      (subst (λ (fs : List FlowQueue). Stands was.notes fs (was.unread ++ was.posted.entries) (read_of was) old) at.is works.stands))

  next : IsNextRead old.taken own p.1 (ps ++ was.posted.entries)
  next = is-next old.taken p (ps ++ was.posted.entries) own number
      (own-stands was.notes at.before at.after own (p ∷ (ps ++ was.posted.entries)) was.leaked.items old stood)

  same_setting : new.setting ≡ old.setting
  same_setting = ap (λ (v : AppView). v.setting) only.view

  same_returned : new.returned ≡ old.returned
  same_returned = ap (λ (v : AppView). v.returned) only.view

  same_taken : new.taken ≡ old.taken
  same_taken = ap (λ (v : AppView). v.taken) only.view

  sum-read : (bytes : ℕ) → total (λ o. o.bytes) (set was.flows i (record own { bytes = bytes })) + own.bytes ≡ total (λ o. o.bytes) was.flows + bytes
  sum-read bytes =
      let f : FlowQueue → ℕ = λ o. o.bytes in
      let later : FlowQueue = record own { bytes = bytes } in
      ap (λ n. n + own.bytes) (ap (total f) (at.set_is later)) ∙ total-changed at.before at.after own later f
      ∙ ap (λ n. n + bytes) (sym (ap (total f) at.is))

  common-read : (bytes written : ℕ) (stopped : Stopped) → own.bytes ≤ bytes → written ≡ min (was.written + (bytes - own.bytes)) (2 ^ 64 - 1)
      → Quits was.how.quit written stopped → Common (record (with_read was i own bytes ps p.1 written flush) { stopped = stopped }) new
  common-read bytes written stopped more count quits =
      let later : FlowQueue = record own { bytes = bytes } in
      let short : FlowQueue → ℕ = λ o. short_bytes o.queue in
      let shorts : total short (set was.flows i later) ≡ total short was.flows =
      ap (total short) (at.set_is later) ∙ omega (arith, total-changed at.before at.after own later short) ∙ sym (ap (total short) at.is) in
      let spares : old.spares + total short (set was.flows i later) ≤ total unsplit_len old.taken = omega (arith, shorts, common.spares) in
      let counted : written ≡ capped (total (λ o. o.bytes) (set was.flows i later)) = omega (arith, count, common.written, sum-read bytes, more) in
      let bound : length old.loans + length old.returned + total held_len old.helds + total short (set was.flows i later) ≤ total taken_len old.taken =
      omega (arith, shorts, common.bound) in
      rw only.view (assumption (rw only.view at (gives-more old new only common.gives_whole)))

  steps-read : (bytes written : ℕ) → app_steps (with_read was i own bytes ps p.1 written flush) new ≡ app_steps was old + 1
  steps-read bytes written = rw only.view (omega (arith, ap due_one due))

  same_lent : reserve_loans new ≡ reserve_loans old
  same_lent = rw only.view refl

  -- one more was read, which is the last of them where all were to be read
  flushes-read : (bytes written : ℕ) → FlushesUnread was (with_read was i own bytes ps p.1 written flush) old new
  flushes-read bytes written = record {
    reads = omega (arith, one_read);
    lent = omega (arith, lent_still);
    reserve = omega (arith, same_lent);
    all = all_read;
  }
    where
      lent_still : loans_so_far new ≡ loans_so_far old
      lent_still = ap loans_so_far only.view

      one_read : reads_of (with_read was i own bytes ps p.1 written flush) new ≡ reads_of was old + 1
      one_read = omega (arith, ap length same_returned, ap due_one due)

      one : LentPiece → ℕ
      one l = 1

      all_read : flush ≡ false → (was.flush ≡ true) ⊎ (reserve_loans old < reserve_loans new)
          → loans_so_far old ≤ reads_of (with_read was i own bytes ps p.1 written flush) new
      all_read off (inr more) = absurd (omega (arith, more, same_lent))
      all_read off (inl on) = ⊎_elim
          (λ (before : was.flush ≡ false). absurd (let e : true ≡ false = sym on ∙ before in cc))
          (λ (none : ps ≡ []). omega (
            arith,
            one_read,
            stood.tokens.loans one,
            total-one old.loans,
            total-one was.leaked.items,
            ap (λ (es : List (Completion × Lending)). total (λ (q : Completion × Lending). 1) (es ++ was.posted.entries)) none,
            ap (λ (es : List (Completion × Lending)). total (λ (q : Completion × Lending). 1) es) reaped,
            ap due_one due,
          ))
          (flush_off off)

  -- it isn't to be read whole where it wasn't
  no-flush : was.flush ≡ false → flush ≡ false
  no-flush off = ⊎_elim (λ (on : flush ≡ true). absurd (let e = (flush_on on).0 in cc)) (λ (not : flush ≡ false). not) (cases_Bool flush)

  moves-read : (bytes written : ℕ) → own.bytes ≤ bytes → Moves was (with_read was i own bytes ps p.1 written flush) old new
  moves-read bytes written more = rw only.view (record {
    same = (refl, refl, refl, omega arith);
    how = (refl, refl);
    places = refl;
    steps = omega (arith, ap due_one due);
    looks = looks-same old _ refl;
    keeps = λ n r before live.
        let k : KeptSince n r was old = before live in
        record {
          lent = k.lent;
          kept = λ notes same.
              let kept = k.kept notes same in
              (no-flush kept.0, λ _. omega (arith, more_kept notes kept.0, ap length unread, length-append ps was.posted.entries));
        };
    stays = λ _. refl;
    leaked = same-leaked was (with_read was i own bytes ps p.1 written flush) refl refl;
    abandons = λ f. omega arith;
    reaps = record {
      read = p ∷ [];
      more = [];
      in_order = append-nil (was.unread ++ was.posted.entries) ∙ all;
      lent = λ f. omega arith;
      tells = tt;
      gone = λ f. omega (arith, ap (λ d. total (λ (l : Lending). f l.loan) (read_out d was.leaked.items)) due);
    };
    bytes = λ n. (let later : FlowQueue = record own { bytes = bytes } in omega (
      arith,
      ap (queue_bytes_of n) (at.set_is later),
      total-changed at.before at.after own later (bytes_if n),
      ap (queue_bytes_of n) at.is,
      still-more (own.number == n),
    ));
  })
    where
      still-more : (b : Bool) → (if b then own.bytes else 0) ≤ (if b then bytes else 0)
      still-more true = more
      still-more false = omega arith

  -- what lies in the reserve
  rest_all : (ps ++ was.posted.entries ≡ []) → ps ≡ []
  rest_all none = sym (append-nil ps) ∙ ap (λ es. ps ++ es) (sym reaped) ∙ none

  still-outside : flush ≡ false → Each (LiesOutside (reserve_of new)) (ps ++ was.posted.entries)
  still-outside off = subst (λ b. Each (LiesOutside b) (ps ++ was.posted.entries)) (sym (ap reserve_of only.view)) (⊎_elim
      (λ (before : was.flush ≡ false). (subst (Each (LiesOutside (reserve_of old))) all (works.outside before)).1)
      (λ (none : ps ≡ []). subst (Each (LiesOutside (reserve_of old))) (sym (ap (λ xs. xs ++ was.posted.entries) none ∙ reaped)) tt)
      (flush_off off))

  -- all of it was read and appended
  pub oldest-read : (bytes written : ℕ) (kept kept_now : ℕ → Option (List ℕ)) → IsReadWhole new.reads (lent_piece old.taken p.1)
      → bytes ≡ own.bytes + p.1.loan.len
      → written ≡ min (was.written + p.1.loan.len) (2 ^ 64 - 1) → Quits was.how.quit written was.stopped
      → Gained (kept own.number) (kept_now own.number) (λ read. IsReadOf old.taken new.reads p.1 p.1.loan.len p.1.loan.len read)
      → ((other : ℕ) → other ≢ own.number → Keeps (kept other) (kept_now other))
      → ReadOne was (with_read was i own bytes ps p.1 written flush) old new kept kept_now
  oldest-read bytes written kept kept_now whole is count quits gained others =
      let later : FlowQueue = record own { bytes = own.bytes + p.1.loan.len } in
      let stands : Stands was.notes (at.before ++ later ∷ at.after) (ps ++ was.posted.entries)
      (p.1 ∷ was.leaked.items) new = stands-read was.notes at.before at.after own p
      (ps ++ was.posted.entries) was.leaked.items old new number only stood in
      let told : Each (TellsOfLoan old.setting.layout) (p ∷ (ps ++ was.posted.entries)) = subst (Each (TellsOfLoan old.setting.layout)) all works.completions in
      let added : Appended own old.taken new p.1.loan.len kept kept_now = appended old.taken p (ps ++ was.posted.entries) own p.1.loan.len new kept
      kept_now number (own-stands was.notes at.before at.after own (p ∷ (ps ++ was.posted.entries)) was.leaked.items old stood) (omega arith) gained others in
      let waits : 0 < was.stray.left → Some p.1 ≡ None = λ some. absurd (omega (arith, some, pushed)) in
      let appended : total lent_len old.returned + (loan_len p.1 + total loan_len was.leaked.items) ≡ total (λ o. o.bytes) (set was.flows i later) = omega (
        arith,
        ap (λ d. total loan_len (read_out d was.leaked.items)) due,
        works.appended,
        sum-read (own.bytes + p.1.loan.len),
      ) in
      rw is (record {
        working = rw only.view (assumption (
          rw only.view at (subst (λ (fs : List FlowQueue). Stands was.notes fs (ps ++ was.posted.entries) (p.1 ∷ was.leaked.items) new)
              (sym (at.set_is later)) stands),
          told.1,
          rest-same was.active i was.flows own later within (sym value) refl works.rest,
          index-set was.index was.flows i own later within value refl works.index,
          λ (over : was.ended ≡ true). each-same i was.flows own later within (sym value) refl (works.over over),
          rw only.view at still-outside,
          λ (on : flush ≡ true) (none : ps ++ was.posted.entries ≡ []). (flush_on on).1 (rest_all none),
          rw only.view at (read-more old new was.leaked.items only (subst (λ d. AreReadWhole old (read_out d was.leaked.items)) due works.read_whole)),
        ));
        common = common-read (own.bytes + p.1.loan.len) written was.stopped (omega arith) (omega (arith, count)) quits;
        goes = record {
          moves = moves-read (own.bytes + p.1.loan.len) written (omega arith);
          shelved = λ _ first shelved. subst (λ (fs : List FlowQueue). AreShelved first kept_now fs new) (sym (at.set_is later))
              (shelved-reaped first kept kept_now was.notes at.before at.after own p (ps ++ was.posted.entries) p.1.loan.len was.leaked.items old new number
              only stood
              (omega arith) added
              (subst (λ (fs : List FlowQueue). AreShelved first kept fs old) at.is shelved));
          failed = λ is. absurd (no-write was.stopped works.going is);
        };
        flushes = flushes-read (own.bytes + p.1.loan.len) written;
        steps = omega (arith, steps-read (own.bytes + p.1.loan.len) written);
        unread = ap length unread ∙ (omega arith);
        flush = flush_on;
        flushed = flush_off;
        rest = λ at_rest. each-same i was.flows own later within (sym value) refl at_rest;
        due = λ none. absurd (cc);
        same = refl;
        taken = same_taken;
        left = ap (λ (v : AppView). v.left) only.view;
      })

  -- the shelf failed
  -- what the shelf has then
  fronts-failed : (bytes most : ℕ) (kept kept_now : ℕ → Option (List ℕ)) → own.bytes ≤ bytes → most ≤ p.1.loan.len
      → Gained (kept own.number) (kept_now own.number) (IsReadOf old.taken new.reads p.1 (bytes - own.bytes) most)
      → ((other : ℕ) → other ≢ own.number → Keeps (kept other) (kept_now other))
      → (first : ℕ → Option (List ℕ)) → AreShelved first kept was.flows old
      → AreFronts first kept_now (set was.flows i (record own { bytes = bytes })) new
  fronts-failed bytes most kept kept_now more part gained others first shelved =
      let later : FlowQueue = record own { bytes = bytes } in
      let out : IsIn (lent_piece old.taken p.1) (kept_loans new) = in-left (lent_piece old.taken p.1) new.loans (drop (loan_entries new) new.returned)
      (subst (IsIn (lent_piece old.taken p.1)) (sym (ap (λ (v : AppView). v.loans) only.view))
      (oldest-out was.notes (at.before ++ own ∷ at.after) p (ps ++ was.posted.entries) was.leaked.items old stood)) in
      let before : Each (IsShelved first kept old.taken old.reads) (at.before ++ own ∷ at.after) = subst
      (Each (IsShelved first kept old.taken old.reads)) at.is shelved.flows in
      let both : Each (λ f. FlowStands old.taken (p ∷ (ps ++ was.posted.entries)) f × IsShelved first kept old.taken old.reads f)
      (at.before ++ own ∷ at.after) = each-both (FlowStands old.taken (p ∷ (ps ++ was.posted.entries))) (IsShelved first kept old.taken old.reads)
      (at.before ++ own ∷ at.after) stood.flows before in
      let own_stands : FlowStands old.taken (p ∷ (ps ++ was.posted.entries)) own = own-stands was.notes at.before at.after own
      (p ∷ (ps ++ was.posted.entries)) was.leaked.items old stood in
      let own_shelved : IsShelved first kept old.taken old.reads own =
      (each-right (IsShelved first kept old.taken old.reads) at.before (own ∷ at.after) before).0 in
      let flows : Each (IsFrontShelved first kept_now old.taken new.reads (kept_loans new)) (at.before ++ later ∷ at.after) =
      each-changed (λ f. FlowStands old.taken (p ∷ (ps ++ was.posted.entries)) f × IsShelved first kept old.taken old.reads f)
      (IsFrontShelved first kept_now old.taken new.reads (kept_loans new)) at.before at.after own later (stood.distinct own.number) both
      (λ f other e. front-other first kept kept_now old.taken (p ∷ (ps ++ was.posted.entries)) old new
      (kept_loans new) f only (others f.number other) e.0 e.1)
      (front-own first kept kept_now old.taken old new own p.1 bytes most (ps ++ was.posted.entries) (kept_loans new) stood.lent.0 out only more part
      own_stands.holds.popped next own_shelved gained) in
      let exact : Each (λ f. f.number ≢ own.number → IsShelved first kept_now old.taken new.reads f) (at.before ++ later ∷ at.after) =
      each-changed (IsShelved first kept old.taken old.reads) (λ f. f.number ≢ own.number → IsShelved first kept_now old.taken new.reads f)
      at.before at.after own later (stood.distinct own.number) before
      (λ f other e _. shelved-other first kept kept_now old.taken old new f only (others f.number other) e) (λ other. absurd (other refl)) in
      record {
        torn = own.number;
        exact = subst (λ ts. Each (λ f. f.number ≢ own.number → IsShelved first kept_now ts new.reads f) (set was.flows i later)) (sym same_taken)
            (subst (Each (λ f. f.number ≢ own.number → IsShelved first kept_now old.taken new.reads f)) (sym (at.set_is later)) exact);
        flows = subst (λ ts. Each (IsFrontShelved first kept_now ts new.reads (kept_loans new)) (set was.flows i later)) (sym same_taken)
            (subst (Each (IsFrontShelved first kept_now old.taken new.reads (kept_loans new))) (sym (at.set_is later)) flows);
        others = λ n none.
            let gone : many n was.flows ≡ 0 = ap (many n) at.is ∙ sym (many-same at.before at.after own later refl n)
            ∙ sym (ap (many n) (at.set_is later)) ∙ none in
            let here : many own.number was.flows ≡ 1 = ap (many own.number) at.is ∙ own-many at.before at.after own (stood.distinct own.number) in
            Keeps-trans (first n) (kept n) (kept_now n) (shelved.others n gone)
            (others n (λ e. absurd (let one : many n was.flows ≡ 1 = subst (λ k. many k was.flows ≡ 1) (sym e) here in omega (arith, one, gone))));
      }

  -- what is left of the flows, of which one had a loan read in part
  torn-read : (bytes written : ℕ) (stopped : Stopped) → own.bytes ≤ bytes → bytes ≤ own.bytes + p.1.loan.len
      → Torn (record (with_read was i own bytes ps p.1 written flush) { stopped = stopped }) new
  torn-read bytes written stopped more most =
      let later : FlowQueue = record own { bytes = bytes } in
      let flows : Each (FlowEnds old.taken) (at.before ++ later ∷ at.after) =
      each-changed (FlowStands old.taken (p ∷ (ps ++ was.posted.entries))) (FlowEnds old.taken) at.before at.after own later
      (stood.distinct own.number) stood.flows
      (λ f other stands. ends-of old.taken (p ∷ (ps ++ was.posted.entries)) f f.bytes stands.counted stands)
      (ends-of old.taken (p ∷ (ps ++ was.posted.entries)) own bytes (omega (arith, next.within))
      (own-stands was.notes at.before at.after own (p ∷ (ps ++ was.posted.entries)) was.leaked.items old stood)) in
      let distinct : (n : ℕ) → many n (set was.flows i later) ≤ 1 =
      λ n. omega (arith, ap (many n) (at.set_is later), many-same at.before at.after own later refl n, stood.distinct n) in
      let within_lent : total (λ o. o.bytes) (set was.flows i later) ≤ lent_bytes old = omega (
        arith,
        most,
        sum-read bytes,
        works.appended,
        ap (λ d. total loan_len (read_out d was.leaked.items)) due,
        stood.tokens.loans lent_len,
      ) in
      let whole_given : total lent_len old.returned ≤ total (λ o. o.bytes) (set was.flows i later) = omega (arith, more, sum-read bytes, works.appended) in
      rw only.view (assumption (
        rw only.view at (subst (λ (fs : List FlowQueue). HasTokens fs (ps ++ was.posted.entries) (p.1 ∷ was.leaked.items) new) (sym (at.set_is later))
            (tokens-read was.notes at.before at.after own bytes p (ps ++ was.posted.entries) was.leaked.items old new only stood)),
        subst (Each (FlowEnds old.taken)) (sym (at.set_is later)) flows,
        index-set was.index was.flows i own later within value refl works.index,
        stood,
      ))

  pub oldest-failed : (bytes written most faults faults_now : ℕ) (kept kept_now : ℕ → Option (List ℕ)) → own.bytes ≤ bytes
      → most ≤ p.1.loan.len → bytes ≤ own.bytes + most → written ≡ min (was.written + (bytes - own.bytes)) (2 ^ 64 - 1)
      → Quits was.how.quit written was.stopped → Rose faults faults_now
      → Gained (kept own.number) (kept_now own.number) (IsReadOf old.taken new.reads p.1 (bytes - own.bytes) most)
      → ((other : ℕ) → other ≢ own.number → Keeps (kept other) (kept_now other))
      → ReadFailed was (with_read was i own bytes ps p.1 written flush) old new kept kept_now faults faults_now
  oldest-failed bytes written most faults faults_now kept kept_now more part few count quits rose gained others = record {
    torn = torn-read bytes written was.stopped more (omega (arith, part, few));
    common = common-read bytes written was.stopped more count quits;
    moves = moves-read bytes written more;
    rose = rose;
    fronts = fronts-failed bytes most kept kept_now more part gained others;
    same = refl;
    taken = same_taken;
    left = ap (λ (v : AppView). v.left) only.view;
  }

  -- it was appended up to the byte at which the application quits
  pub oldest-quit : (bytes written most : ℕ) (kept kept_now : ℕ → Option (List ℕ)) → most ≤ p.1.loan.len → bytes ≡ own.bytes + most
      → written ≡ min (was.written + most) (2 ^ 64 - 1) → Quits was.how.quit written stop.Quit
      → Gained (kept own.number) (kept_now own.number) (λ read. IsReadOf old.taken new.reads p.1 most most read)
      → ((other : ℕ) → other ≢ own.number → Keeps (kept other) (kept_now other))
      → ReadQuit was (record (with_read was i own bytes ps p.1 written flush) { stopped = stop.Quit }) old new kept kept_now
  oldest-quit bytes written most kept kept_now part is count quits gained others =
      let later : FlowQueue = record own { bytes = own.bytes + most } in
      let added : Appended own old.taken new most kept kept_now = appended old.taken p (ps ++ was.posted.entries) own most new kept kept_now number
      (own-stands was.notes at.before at.after own (p ∷ (ps ++ was.posted.entries)) was.leaked.items old stood) part gained others in
      rw is (record {
        torn = torn-read (own.bytes + most) written stop.Quit (omega arith) (omega (arith, part));
        common = common-read (own.bytes + most) written stop.Quit (omega arith) (omega (arith, count)) quits;
        moves = moves-stopped was (with_read was i own (own.bytes + most) ps p.1 written flush) old new stop.Quit works.going
            (moves-read (own.bytes + most) written (omega arith));
        shelved = λ first shelved. subst (λ (fs : List FlowQueue). AreShelved first kept_now fs new) (sym (at.set_is later))
            (shelved-reaped first kept kept_now was.notes at.before at.after own p (ps ++ was.posted.entries) most was.leaked.items old new number only stood
            part
            added (subst (λ (fs : List FlowQueue). AreShelved first kept fs old) at.is shelved));
        stopped = refl;
        same = refl;
        taken = same_taken;
        left = ap (λ (v : AppView). v.left) only.view;
      })
