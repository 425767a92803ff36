-- The end of an application.
use Rattle.std.proofs.Common.{◌≡◌, ◌≢◌, ℕ, ◌+◌, ◌<◌, ◌≤◌, ◌-◌, min, Bool, true, false, List, [], ◌∷◌, ◌++◌, Option, None, length, drop, refl, sym, ap}
use Rattle.std.proofs.{Common.{subst, ◌∙◌, arith, inl, inr, ⊎_elim}, Math.Seq.{drop-append_seam}, lemmas.{List.{nil_from_length}, Bool.{cases_lt, ne_eqb}}}
use Rattle.std.specs.Prelude.{◌==◌, if◌then◌else◌}
use Rattle.zr_kinds.specs.{CopyingReceiver.{nothing_placed, next_missing, values_from}, declared.ring.Completion.{Completion}}
use Rattle.tcp_reorder.proofs.Holding.{next_missing-held}
use Rattle.board_face.specs.{AppEvents.{app_saw, left_board, reserve_of}, declared.views.app.{AppLook.{AppLook, TheVariants.{NotQuiet}}, LentPiece.{LentPiece}}}
use Rattle.board_face.specs.declared.views.app.{TakenNote.{TakenNote}, AppView.{AppView}}
use Rattle.flow_queues.specs.declared.queues.{FlowQueue.{FlowQueue}, Lending.{Lending}}
use Rattle.flow_queues.specs.Core.{total, Each, many, own_notes, received_notes, placed_of, marks_of_waiting, lent_piece, over_read, read_out, FlowStands}
use Rattle.flow_queues.specs.{Entries.{lies_in, returned_aside}, Totals.{lent_len, loan_entries}, Flows.{IsAtRest, FlowFacts, facts_of}, Leaving.{LeavesOnce}}
use Rattle.flow_queues.proofs.{Placing.{values-length}, Standing.{each-map}, Releasing.{each-facts, total-facts}, Looks.{looks-same}, Tokens.{total-append}}
use Rattle.app_worker.specs.{declared.turn.Turn.TheVariants.{Did, Finished}, State.{State, Working, Common, Bare, app_steps, one_if}, Moves.{Goes}, Letting.{LetGo}}
use Rattle.app_worker.{specs.{Stages.{Through}, Turns.{Rests, Turns}}, proofs.{EachBoth.{each-both}, Moving.{total-one, reserve-same, no-write, rose-after}}}
use Rattle.app_worker.proofs.{Seeing.{common-saw, goes-saw, goes-still}, Measure.{one-most}, Through.{goes-then}, TurnLemmas.{turns-bare}}
use Rattle.zr_kinds.specs.declared.behaviour.Stopped.TheVariants as stop

-- all of the flow was appended
abbrev pub IsWhole : List TakenNote → FlowQueue → Type 0
IsWhole taken f = f.bytes ≡ next_missing (placed_of f taken)

whole-facts : (taken : List TakenNote) (f g : FlowQueue) → facts_of g ≡ facts_of f → IsWhole taken f → IsWhole taken g
whole-facts taken f g same whole =
    let P : FlowFacts → Type 0 = λ x. x.bytes ≡ next_missing (received_notes x.base nothing_placed (own_notes x.number taken)) in
    subst P (sym same) whole

-- where nothing is lent, and nothing is in order
whole-flow : (taken : List TakenNote) (f : FlowQueue) → FlowStands taken [] f → IsAtRest f → IsWhole taken f
whole-flow taken f stands rest =
    let size : length (values_from (placed_of f taken).at (f.queue.popped - f.bytes) f.bytes) ≡ f.queue.popped - f.bytes =
    values-length (placed_of f taken).at (f.queue.popped - f.bytes) f.bytes (λ q from until. stands.holds.popped q (omega (arith, stands.counted))) in
    let none : 0 ≡ length (values_from (placed_of f taken).at (f.queue.popped - f.bytes) f.bytes) = ap length stands.lent in
    let all : f.bytes ≡ f.queue.popped = omega (arith, size, none, stands.counted) in
    all ∙ rest ∙ sym (next_missing-held marks_of_waiting f.queue (placed_of f taken) stands.holds)

-- each that is kept to the end lies outside the reserve
abbrev outside : ℕ → LentPiece → ℕ
outside reserve l = if l.place.buffer == reserve then 0 else 1

outside-all : (reserve : ℕ) (taken : List TakenNote) (leaked : List Lending) → Each (λ (l : Lending). l.loan.buffer ≢ reserve) leaked
    → (over_read taken (outside reserve) leaked ≡ length leaked) × (over_read taken (lies_in reserve) leaked ≡ 0)
outside-all reserve taken [] each = (refl, refl)
outside-all reserve taken (l ∷ leaked) each =
    let rest = outside-all reserve taken leaked each.1 in
    let no : (l.loan.buffer == reserve) ≡ false = ne_eqb l.loan.buffer reserve each.0 in
    let one : outside reserve (lent_piece taken l) ≡ 1 = rw no refl in
    let none : lies_in reserve (lent_piece taken l) ≡ 0 = rw no refl in
    (omega (arith, rest.0, one), omega (arith, rest.1, none))

-- those that are kept to the end are abandoned, and no others
closed-abandoned : (b c : State) (v w : AppView) → Working b v → b.unread ++ b.posted.entries ≡ [] → b.due ≡ None → Common b v → LetGo b c v w
    → (length w.returned ≡ loan_entries w + min c.how.leak (returned_aside w))
    × (total (lies_in (reserve_of w)) (drop (loan_entries w) w.returned) ≡ 0)
closed-abandoned b c v w works none due common gone =
    let reserve : reserve_of w ≡ reserve_of v = reserve-same v w gone.moves.same.0 gone.moves.same.1 in
    let aside : returned_aside w ≡ total (outside (reserve_of v)) w.returned = ap (λ n. total (outside n) w.returned) reserve in
    let lent : (f : LentPiece → ℕ) → total f v.loans ≡ over_read v.taken f b.leaked.items = λ f. omega (
      arith,
      works.stands.tokens.loans f,
      ap (total (λ (p : Completion × Lending). f (lent_piece v.taken p.1))) none,
      ap (λ d. over_read v.taken f (read_out d b.leaked.items)) due,
    ) in
    let kept = outside-all (reserve_of v) v.taken b.leaked.items common.leak_aside in
    let count : length w.returned ≡ length v.returned + length b.leaked.items = omega (
      arith,
      gone.back (λ _. 1),
      lent (λ _. 1),
      total-one w.returned,
      total-one v.returned,
      total-one b.leaked.items,
    ) in
    let all_aside : returned_aside w ≡ returned_aside v + length b.leaked.items = omega (
      arith,
      aside,
      gone.back (outside (reserve_of v)),
      lent (outside (reserve_of v)),
      kept.0,
    ) in
    let leak : c.how.leak ≡ b.how.leak = ap (λ (s : State). s.how.leak) gone.same in
    let (more, behind) = gone.behind in
    let rest : drop (loan_entries w) w.returned ≡ more = ap (λ n. drop n w.returned) gone.entries ∙ ap (drop (length v.returned)) behind
    ∙ drop-append_seam v.returned more in
    let lies : LentPiece → ℕ = lies_in (reserve_of v) in
    let inside : total lies more ≡ 0 = omega (
      arith,
      gone.back lies,
      lent lies,
      kept.1,
      ap (total lies) behind,
      total-append lies v.returned more,
    ) in (
      ⊎_elim
          (λ (some : 0 < returned_aside v). omega (arith, count, all_aside, leak, gone.entries, works.keeps_first some))
          (λ (no : returned_aside v ≤ 0). omega (arith, count, all_aside, leak, gone.entries, no, common.leaks))
          (cases_lt 0 (returned_aside v)),
      ap (λ n. total (lies_in n) (drop (loan_entries w) w.returned)) reserve ∙ ap (total lies) rest ∙ inside,
    )

-- all is given up once all is read
pub closed-bare : (b c : State) (v w : AppView) → Working b v → b.ended ≡ true → length b.unread ≤ 0 → b.posted.entries ≡ [] → b.due ≡ None
    → Common b v → LetGo b c v w → Bare c w
closed-bare b c v w works ended few reaped due common gone =
    let none : b.unread ++ b.posted.entries ≡ [] = ap (λ es. es ++ b.posted.entries) (nil_from_length b.unread (omega (arith, few))) ∙ reaped in
    let flows : Each (FlowStands v.taken []) b.flows = subst (λ es. Each (FlowStands v.taken es) b.flows) none works.stands.flows in
    let whole : Each (IsWhole v.taken) b.flows =
    each-map (λ f. FlowStands v.taken [] f × IsAtRest f) (IsWhole v.taken) b.flows (λ f _ p. whole-flow v.taken f p.0 p.1)
    (each-both (FlowStands v.taken []) IsAtRest b.flows flows (works.over ended)) in
    let appended : c.stopped ≡ stop.No → total lent_len w.returned ≡ total (λ f. f.bytes) c.flows = λ going. omega (
      arith,
      gone.back lent_len,
      works.stands.tokens.loans lent_len,
      ap (total (λ (p : Completion × Lending). p.1.loan.len)) none,
      works.appended,
      total-facts (λ x. x.bytes) b.flows c.flows gone.facts,
    ) in
    assumption (
      ap (λ (s : State). s.due) gone.same,
      ap (λ (s : State). s.leaked.items) gone.same,
      ap (λ (s : State). s.unread) gone.same,
      ap (λ (s : State). s.ended) gone.same ∙ ended,
      closed-abandoned b c v w works none due common gone,
      subst (λ ts. Each (IsWhole ts) c.flows) (sym gone.taken)
          (each-facts (IsWhole v.taken) (IsWhole v.taken) (whole-facts v.taken) b.flows c.flows gone.facts whole),
      λ (n : ℕ) (nothing : many n c.flows ≡ 0). ap (own_notes n) gone.taken
          ∙ works.stands.known n (sym (total-facts (λ x. if x.number == n then 1 else 0) b.flows c.flows gone.facts) ∙ nothing),
    )

-- ---- the last look

pub bare-saw : (st : State) (v : AppView) (look : AppLook) → Bare st v → Bare st (app_saw v look)
bare-saw st v look bare = assumption

-- ---- it has scrubbed, and perhaps left

abbrev pub scrubbed_state : State → State
scrubbed_state st = record st { scrubbed = true }

-- scrubbed now, or before
abbrev pub scrubbed_view : AppView → Bool → Bool → AppView
scrubbed_view v quiet left = record v { scrubbed = true; quiet = quiet; left = left }

pub bare-scrubbed : (st : State) (v : AppView) (quiet left : Bool) → Bare st v → Bare (scrubbed_state st) (scrubbed_view v quiet left)
bare-scrubbed st v quiet left bare = assumption

pub common-scrubbed : (st : State) (v : AppView) (quiet left : Bool) → Common st v → Common (scrubbed_state st) (scrubbed_view v quiet left)
common-scrubbed st v quiet left common = assumption

-- it comes no less far by that
pub goes-scrubbed : (st : State) (v : AppView) (quiet left : Bool) (kept : ℕ → Option (List ℕ)) → one_if v.left ≤ one_if left
    → Goes st (scrubbed_state st) v (scrubbed_view v quiet left) kept kept
goes-scrubbed st v quiet left kept stays = goes-still st v (scrubbed_view v quiet left) st.ended true kept (omega (arith, stays, one-most st.scrubbed))
    (looks-same v (scrubbed_view v quiet left) refl) (λ more. more)

-- what is known once it has nothing out
pub record IsOut (a c : State) (u w : AppView) (k m : ℕ → Option (List ℕ)) : Type 0 where
  pub bare : Bare c w
  pub is_bare : c.bare ≡ true
  pub ended : c.ended ≡ true
  pub common : Common c w
  pub reaped : c.posted.entries ≡ []
  pub goes : Goes a c u w k m
  pub taken : w.taken ≡ u.taken
  pub left : w.left ≡ u.left
  pub here : u.left ≡ false
  pub same : c.stopped ≡ a.stopped
  pub rests : a.bare ≡ true → Rests a c u w k m
  pub quiet : a.bare ≡ true → w.quiet ≡ u.quiet

pub turns-finished : (a c : State) (u w x : AppView) (k m : ℕ → Option (List ℕ)) (f f2 : ℕ) (done : Bool) → IsOut a c u w k m
    → LeavesOnce c.scrubbed done w x true → Turns a (record c { scrubbed = done }) u x k m f f2 Finished
turns-finished a c u w x k m f f2 done out leaves =
    let (now, (mid, scrubbed, left)) = leaves in
    let quiet : Bool = mid.quiet in
    let is : x ≡ scrubbed_view w quiet true = left ∙ ap left_board scrubbed.view in
    rw (now, is) (turns-bare (bare-scrubbed c w quiet true out.bare) out.is_bare (common-scrubbed c w quiet true out.common) out.reaped
    (goes-then out.goes (goes-scrubbed c w quiet true m (omega (arith, one-most w.left)))) (out.here, refl, out.is_bare) (inl out.taken)
    (λ why e. absurd (cc)) (λ other. absurd (other refl)) (λ _ differs. absurd (differs out.taken)) out.same
    (λ bare. (let r = out.rests bare in record {
      state = ap scrubbed_state r.state;
      view = ap (λ (v : AppView). scrubbed_view v quiet true) r.view;
      kept_is = r.kept_is;
    }))
    (λ _ _. inr (inr out.ended)) (λ _ _. inl refl))

pub turns-not-quiet : (a c : State) (u w x : AppView) (k m : ℕ → Option (List ℕ)) (f f2 : ℕ) (done : Bool) → IsOut a c u w k m
    → app_steps a u < app_steps c w
    → LeavesOnce c.scrubbed done w x false → Turns a (record c { scrubbed = done }) u x k m f f2 Did
turns-not-quiet a c u w x k m f f2 done out steps leaves =
    let (same, saw) = leaves in
    rw (same, saw.event) (turns-bare (bare-saw c w NotQuiet out.bare) out.is_bare (common-saw c w NotQuiet out.common) out.reaped
    (goes-then out.goes (goes-saw c w NotQuiet m)) (omega (arith, steps)) (inl out.taken) (λ why e. absurd (cc)) (λ _. out.left)
    (λ _ differs. absurd (differs out.taken)) out.same
    (λ bare. (let r = out.rests bare in record {
      state = r.state;
      view = ap (λ (v : AppView). app_saw v NotQuiet) r.view;
      kept_is = r.kept_is;
    }))
    (λ _ _. inr (inr out.ended)) (λ bare _. inr (rose-after out.goes.moves.looks (rw saw.event at saw.rose), out.quiet bare)))

-- by way of reading all
pub out-of : {a b c : State} {u v w : AppView} {k m : ℕ → Option (List ℕ)} → a.ended ≡ true → a.stopped ≡ stop.No
    → a.bare ≡ false → u.left ≡ false → Through a b u v k m → length b.unread ≤ 0 → b.due ≡ None → LetGo b c v w → IsOut a c u w k m
out-of {a} {b} {c} {u} {v} {w} {k} {m} ended going live here through few due gone = record {
  bare = closed-bare b c v w through.working (through.ended ∙ ended) few through.reaped due through.common gone;
  is_bare = ap (λ (s : State). s.bare) gone.same;
  ended = ap (λ (s : State). s.ended) gone.same ∙ through.ended ∙ ended;
  common = gone.common;
  reaped = ap (λ (s : State). s.posted.entries) gone.same ∙ through.reaped;
  goes = goes-then through.goes (record {
    moves = gone.moves;
    shelved = λ _ begin. gone.shelved begin m;
    failed = λ is. absurd (no-write c.stopped (ap (λ (s : State). s.stopped) gone.same ∙ through.working.going) is);
  });
  taken = gone.taken ∙ through.taken;
  left = gone.left ∙ through.left;
  here = here;
  same = ap (λ (s : State). s.stopped) gone.same ∙ through.working.going ∙ sym going;
  rests = λ is. absurd (cc);
  quiet = λ is. absurd (cc);
}
