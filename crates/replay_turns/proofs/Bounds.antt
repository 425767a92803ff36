-- No run goes further than its records, their bytes and the plan let it.
use Rattle.std.proofs.Common.{◌≡◌, ℕ, suc, ◌+◌, ◌*◌, ◌<◌, ◌≤◌, ◌==◌, Bool, true, false, List, [], ◌∷◌}
use Rattle.std.{proofs.Common.{length, length-append, map, refl, sym, ap, subst, arith, Some}, specs.Prelude.{All, filter, MatchBool, if◌then◌else◌}}
use Rattle.std.{specs.List.{slice_get}, proofs.{lemmas.{Option.{slice_get_within}, List.{length-map}}, Math.Nat.{mul-le-mul_left}}}
use Rattle.card_feed.{specs.Coming.{is_over}, proofs.OfFlow.{there}}
use Rattle.zr_kinds.specs.Limits.{most_records}
use Rattle.board_face.specs.{Holders.{sent_to}, Relay.{as_taken, dealt_entries}, declared.views.{nic.Dealt.{Dealt}, app.AppView.{AppView}}}
use Rattle.board_face.{specs.declared.views.app.WrittenEntry.{WrittenEntry}, proofs.Tallies.{tally, length-tally}}
use Rattle.plain_board.specs.{Board.{Board, side_of}, Sound.{taken_of, notes_of, refills_of}}
use Rattle.app_worker.{specs.{Core.{total}, State.{State, AppStands, Bare, Working, app_steps, furthest}}, proofs.Measure.{working-within, bare-within, one-most}}
use Rattle.flow_queues.{specs.Totals.{raw_entries, loan_entries, taken_len}, proofs.Tokens.{total-append}}
use Rattle.replay_turns.specs.{Running.{RunFits}, Steps.{worker_steps, steps_from, run_steps, most_bytes, entries_most, worker_most, run_most, RunsStayWithin}}
use Rattle.replay_turns.proofs.BoardOver.{side-is}
use Rattle.run_account.{specs.{Views.{Streams}, declared.run.{Run.{Run}, Worker.{Worker}}}, proofs.{Shares.{shares, over-most}, NoteSums.{note_len, AreFew}}}
use Rattle.run_account.proofs.SentFew.{notes-few, own-few, taken-sum}

-- ---- entries

kinds-one : (b : Bool) → (if b then 0 else 1) + (if b then 1 else 0) ≡ 1
kinds-one true = refl
kinds-one false = refl

kinds : (ws : List WrittenEntry) → total (λ (w : WrittenEntry). if w.of_loan then 0 else 1) ws + total (λ (w : WrittenEntry). if w.of_loan then 1 else 0) ws
    ≡ length ws
kinds [] = refl
kinds (w ∷ ws) = omega (arith, kinds ws, kinds-one w.of_loan)

-- ---- a run

module _ (board : Board) (run : Run) (shelves : ℕ) (fits : RunFits board run shelves)
    (records : run.feed.tally.records ≤ most_records) (dealt_all : All (λ (d : Dealt). d.app < length run.workers.items) board.nic.view.dealt)
    (notes : AreFew most_bytes board.nic.view.sent) (stray : ℕ)
    (hows : (a : ℕ) (w : Worker) → slice_get run.workers.items a ≡ Some w → w.state.how.stray ≡ stray) where
  -- what an application took is what was sent to it, or less
  pub record TookFew (a : ℕ) : Type 0 where
    pub many : length (side_of board a).view.taken ≤ most_bytes
    pub bytes : total taken_len (side_of board a).view.taken ≤ most_bytes
    pub dealt : tally (λ d. d.app == a) board.nic.view.dealt ≤ length (side_of board a).view.written

  pub took-few : (a : ℕ) → a < length run.workers.items → TookFew a
  took-few a below =
      let here = side-is board run shelves fits a below in
      let x = side_of board a in
      let relayed = fits.sound.relayed.relayed a x here in
      let number : x.view.app ≡ a = here.number in
      let own = own-few x.view.app board.nic.view.sent in
      let some = notes.some in
      let bytes = notes.bytes in
      let many : length x.view.taken ≤ length (sent_to x.view.app board.nic) = omega (
        arith,
        ap length relayed.notes,
        length-append x.view.taken (map taken_of (notes_of board.arrays a)),
        length-map (sent_to x.view.app board.nic) as_taken,
      ) in
      let sums : total taken_len x.view.taken ≤ total note_len (sent_to x.view.app board.nic) = omega (
        arith,
        ap (total taken_len) relayed.notes,
        total-append taken_len x.view.taken (map taken_of (notes_of board.arrays a)),
        taken-sum (sent_to x.view.app board.nic),
      ) in
      let entries : tally (λ (d : Dealt). d.app == x.view.app) board.nic.view.dealt ≤ length x.view.written = omega (
        arith,
        ap length relayed.entries,
        length-append (dealt_entries x.view.app board.nic) (refills_of board.arrays a),
        length-map (filter (λ (d : Dealt). d.app == x.view.app) board.nic.view.dealt) (λ (d : Dealt). d.entry),
        length-map x.view.written (λ (w : WrittenEntry). w.entry),
        length-tally (λ (d : Dealt). d.app == x.view.app) board.nic.view.dealt,
      ) in
      record {
        many = omega (arith, many, own.0, some, bytes);
        bytes = omega (arith, sums, own.1, bytes);
        dealt = subst (λ n. tally (λ (d : Dealt). d.app == n) board.nic.view.dealt ≤ length x.view.written) number entries;
      }

  stands-within : (st : State) (v : AppView) → AppStands st v → app_steps st v ≤ furthest st.how.stray v
  stands-within st v stands = case st.bare stands.mode
    where
      case : (b : Bool) → MatchBool b (Bare st v) (Working st v) → app_steps st v ≤ furthest st.how.stray v
      case true bare = bare-within st v bare stands.common
      case false works = working-within st v works stands.common

  worker-within : (a : ℕ) (w : Worker) → slice_get run.workers.items a ≡ Some w → a < length run.workers.items
      → (worker_steps (side_of board a).view w ≤ worker_most stray) × (length (side_of board a).view.written ≤ entries_most stray)
  worker-within a w at below =
      let v = (side_of board a).view in
      let took = took-few a below in
      let many = took.many in
      let bytes = took.bytes in
      let stands = (fits.roles.worker a w at).stands in
      let how = hows a w at in
      let far : app_steps w.state v ≤ furthest stray v = subst (λ n. app_steps w.state v ≤ furthest n v) how (stands-within w.state v stands) in
      let follow : stray * total taken_len v.taken ≤ stray * most_bytes = mul-le-mul_left stray bytes in
      let bound = stands.common.bound in
      let loans : loan_entries v ≤ most_bytes = let entries = stands.common.entries in omega (arith, entries, bound, bytes) in
      let raw : raw_entries v ≤ stray * loan_entries v = let strays = subst
      (λ n. raw_entries v + w.state.stray.left ≤ n * loan_entries v) how stands.common.strays in omega (arith, strays) in
      let raws : stray * loan_entries v ≤ stray * most_bytes = mul-le-mul_left stray loans in (
        omega (arith, far, follow, many, bytes, one-most w.state.bare, one-most w.left),
        omega (arith, kinds v.written, raw, raws, loans),
      )

  all-within : (a : ℕ) (workers : List Worker) →
      ((i : ℕ) (w : Worker) → slice_get workers i ≡ Some w → worker_steps (side_of board (a + i)).view w ≤ worker_most stray)
      → steps_from board a workers ≤ length workers * worker_most stray
  all-within a [] each = omega arith
  all-within a (w ∷ workers) each =
      let first : worker_steps (side_of board a).view w ≤ worker_most stray = subst (λ n. worker_steps (side_of board n).view w ≤ worker_most stray)
      (let e : a + 0 ≡ a = omega arith in e) (each 0 w refl) in
      let rest = all-within (suc a) workers
      (λ i u at. subst (λ n. worker_steps (side_of board n).view u ≤ worker_most stray) (let e : a + suc i ≡ suc a + i = omega arith in e)
      (each (suc i) u at)) in
      omega (arith, first, rest)

  pub run-within : run_steps board run ≤ run_most (length run.workers.items) stray
  run-within =
      let n = length run.workers.items in
      let dealt : length board.nic.view.dealt ≤ n * entries_most stray =
      let all = shares n board.nic.view.dealt dealt_all in
      let most = over-most (λ a. tally (λ (d : Dealt). d.app == a) board.nic.view.dealt) (entries_most stray) 0 n (λ a above below.
      let within : a < n = omega (arith, below) in
      let own = there run.workers.items a within in
      let took = (took-few a within).dealt in
      let few = (worker-within a own.0 own.1 within).1 in omega (arith, took, few)) in omega (arith, all, most) in
      let apps : steps_from board 0 run.workers.items ≤ n * worker_most stray = all-within 0 run.workers.items
      (λ i w at. subst (λ m. worker_steps (side_of board m).view w ≤ worker_most stray) (let e : i ≡ 0 + i = omega arith in e)
      (worker-within i w at (slice_get_within run.workers.items i w at)).0) in
      let some = notes.some in
      let bytes = notes.bytes in
      omega (arith, records, some, bytes, dealt, apps, one-most run.feed.closed, one-most (is_over run.feed.stage))

pub runs-within : {S T : Type 0} (m : Streams S T) → RunsStayWithin m
runs-within m first now plan fits runs =
    let board = now.board in
    let run = now.run in
    let notes = notes-few m.source.left m.source.failed first.source now.ends.source plan.ports.items plan.options.split runs.frames run.feed board.nic.view
    runs.feed runs.records fits.sound.notes in
    let dealt = subst (λ n. All (λ (d : Dealt). d.app < n) board.nic.view.dealt) (sym runs.many) runs.dealt in
    subst (λ n. run_steps board run ≤ run_most n plan.options.how.stray) runs.many
    (run-within board run (length now.ends.shelves) fits runs.records dealt notes plan.options.how.stray
    (λ a w at. ap (λ how. how.stray) (runs.worker a w at).runs.how_is))
