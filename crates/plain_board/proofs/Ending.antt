-- All have left, so nobody has a buffer, nothing is on its way, and each pool buffer is free once.
use Rattle.std.proofs.Common.{◌≡◌, ℕ, ◌+◌, ◌*◌, ◌<◌, ◌≤◌, List, [], ◌++◌, length, map, get_or, refl, ap, sym, ◌∙◌, arith, ⊎_elim, length-drop}
use Rattle.std.{specs.{Prelude.{◌==◌, ◌/◌, ◌%◌, All, nat_eq, count_by, if◌then◌else◌}, List.{flat_map}}, proofs.Math.Nat.{mul-le-mul_left}}
use Rattle.std.proofs.lemmas.{List.{append-nil, get_or_default}, Bool.{cases_lt}}
use Rattle.area_layout.specs.Layout.{pool_buffers, all_buffers}
use Rattle.board_face.specs.{Sides.{IsApp}, AppCalls.{CanLeave}, Counts.{pool_count, user_count}, Holders.{on_way, ended_in, returned_in, returning_count}}
use Rattle.board_face.{specs.{Relay.{as_taken, dealt_entries}, declared.views.app.{WrittenEntry.{WrittenEntry}, AppSide.{AppSide}}}, proofs.SideLemmas.{IsApp-at}}
use Rattle.board_face.proofs.Tallies.{one_if, tally, tally-flat}
use Rattle.board_face.proofs.Parts.{nic_count, app_count, helds_in, spares_in, loans_in, notes_in, owed_count, returned_in-count, pool_count-parts, count-tally}
use Rattle.board_face.proofs.{FreeLemmas.{user_count-le}, RelayLemmas.{way-taken}, Counting.{total-zero}}
use Rattle.board_parts.{specs.Free.{listed_in, listed_below}, proofs.FreeLists.{IsEachOnce-free, free-fit}}
use Rattle.plain_board.specs.{Stand.{Stand}, Finish.{IsBoardOver, free_buffers_of, IsEachOnce, HasNoCounts, IsServed, BoardsEndWell}, Sound.{IsSound, IsPhased}}
use Rattle.plain_board.proofs.{Dealing.{entries-relayed}, AppFrames.{pools}}

-- ---- nobody has anything

module _ (board : Stand) (sound : IsSound board) (over : IsBoardOver board) where
  module _ (k : ℕ) (d : AppSide) (there : k < length board.apps) where
    abbrev app : AppSide
    app = get_or board.apps k d

    it : IsApp board.apps k app
    it = IsApp-at board.apps k d sound.set.numbers there

    phase : IsPhased board.nic app
    phase = sound.phased.sides k d there

    could : CanLeave app.view
    could = phase.left (over.apps k d there)

    way-empty : on_way board.nic app ≡ []
    way-empty = (phase.ended could.ended).1

    owes-none : (b : ℕ) → owed_count b board.nic app ≡ 0
    owes-none b =
        let none = (phase.scrubbed could.scrubbed).1 b in
        omega (arith, length-drop (ended_in b board.nic app) (returned_in b app), returned_in-count b app, none)

    returns-none : (b : ℕ) → returning_count b board.nic app ≡ 0
    returns-none b =
        let rest = sound.set.roles_rest k d there in
        rw sound.set.card_rest (omega (arith, rest.owes b))

    has-none : (b : ℕ) → app_count b board.nic app ≡ 0
    has-none b =
        let sent : notes_in b (on_way board.nic app) ≡ 0 = rw way-empty refl in
        let helds : helds_in b app ≡ 0 = rw could.helds refl in
        let spares : spares_in b app ≡ 0 = rw could.spares refl in
        let loans : loans_in b app ≡ 0 = rw could.loans refl in
        omega (arith, sent, helds, spares, loans, owes-none b, returns-none b)

    served : IsServed board.nic app
    served =
        let relayed = sound.relayed.relayed k app it in
        let none = sym (way-taken board.nic app _ _ relayed) ∙ ap (map as_taken) way-empty in
        let returns = sound.returns k app it in
        let dealt = dealt_entries app.view.app board.nic in
        let empty = sym (entries-relayed board.nic app _ _ relayed) ∙ ap (map (λ (w : WrittenEntry). w.entry)) (returns.scrubbed could.scrubbed) in
        record {
          taken = sym (append-nil app.view.taken) ∙ (ap (λ ns. app.view.taken ++ ns) (sym none) ∙ relayed.notes);
          reads = relayed.reads;
          entries = sym (append-nil dealt) ∙ (ap (λ es. dealt ++ es) (sym empty) ∙ relayed.entries);
          strays = returns.strays;
        }

  card-none : (b : ℕ) → nic_count b board.nic ≡ 0
  card-none b =
      let none = sound.phased.card over.card in
      rw (none.owns, none.pieces, sound.set.card_rest) refl

  pub holders-none : (b : ℕ) → pool_count b board.nic board.apps ≡ 0
  holders-none b = omega (
    arith,
    pool_count-parts b board.nic board.apps,
    card-none b,
    total-zero (app_count b board.nic) board.apps (λ k d there. has-none k d there b),
  )

  pub users-none : (a b : ℕ) → user_count a b board.nic board.apps ≡ 0
  users-none a b = omega (arith, user_count-le a b board.nic board.apps, holders-none b)

  -- each place of the user counts is one of an application's buffer
  users-zero : (i : ℕ) → i < length board.arrays.users → get_or board.arrays.users i 0 ≡ 0
  users-zero i there =
      let n = all_buffers board.arrays.layout in
      let some : 0 < n = let reserves = sound.sizes.layout.reserves in omega arith in
      let a = i / n in
      let b = i % n in
      let within : b < n = omega arith in
      let is : n * a + b ≡ i = omega arith in
      let app_there : a < length board.apps =
      ⊎_elim (λ less. less) (λ past. absurd (omega (arith, mul-le-mul_left n past, is, there, sound.sizes.users, ap (λ r. n * r) sound.set.many)))
      (cases_lt a (length board.apps)) in
      ap (λ j. get_or board.arrays.users j 0) (sym is ∙ omega arith) ∙ (sound.counted.users a b app_there within ∙ users-none a b)

  pub HasNoCounts-over : HasNoCounts board
  HasNoCounts-over = record {
    pool = λ k d there. get_or_default board.arrays.pool k d 0 there ∙ (sound.counted.pool k (omega (arith, sound.sizes.pool)) ∙ holders-none k);
    users = λ k d there. get_or_default board.arrays.users k d 0 there ∙ users-zero k there;
    holders = holders-none;
    owed = users-none;
  }

  pub served-all : All (IsServed board.nic) board.apps
  served-all k d there = served k d there

  -- ---- the free buffers

  hands-none : (b : ℕ) → count_by (nat_eq b) (flat_map (λ app. app.inside.hands) board.apps) ≡ 0
  hands-none b =
      let hands : AppSide → List ℕ = λ app. app.inside.hands in
      omega (
        arith,
        count-tally (nat_eq b) (flat_map hands board.apps),
        tally-flat (nat_eq b) hands board.apps,
        total-zero (λ app. tally (nat_eq b) (hands app)) board.apps (λ k d there. ap (tally (nat_eq b)) (sound.set.roles_rest k d there).hands),
      )

  card-hands : (b : ℕ) → count_by (nat_eq b) board.nic.inside.hands ≡ 0
  card-hands b = rw sound.set.card_rest refl

  -- a buffer is cached or listed, and not both, and no reserve is cached
  once-there : (b : ℕ) → b < pool_buffers board.arrays.layout
      → count_by (nat_eq b) board.arrays.cache + one_if (listed_in board.arrays.listed b) ≡ 1
  once-there b within =
      let one = sound.free.pool b (rw (pools sound) within) ∙ ap (λ n. if n == 0 then 1 else 0) (holders-none b) in
      omega (arith, ap (count_by (nat_eq b)) sound.cached, one, card-hands b, hands-none b)

  none-past : (b : ℕ) → pool_buffers board.arrays.layout ≤ b → count_by (nat_eq b) board.arrays.cache ≡ 0
  none-past b past = omega (arith, ap (count_by (nat_eq b)) sound.cached, sound.free.reserves b (rw (pools sound) past))

  pub IsEachOnce-over : IsEachOnce (pool_buffers board.arrays.layout) (free_buffers_of board.arrays)
  IsEachOnce-over =
      IsEachOnce-free (pool_buffers board.arrays.layout) board.arrays.cache board.arrays.listed sound.sizes.listed once-there none-past

  -- so they fit the memory that was kept for them
  pub fits-room : (room : ℕ) → pool_buffers board.arrays.layout ≤ room
      → length board.arrays.cache + length (listed_below board.arrays.listed (length board.arrays.listed)) ≤ room
  fits-room room enough =
      free-fit (pool_buffers board.arrays.layout) board.arrays.cache board.arrays.listed sound.sizes.listed once-there none-past room enough

pub boards-end_well : BoardsEndWell
boards-end_well board sound over = record {
  once = IsEachOnce-over board sound over;
  counts = HasNoCounts-over board sound over;
  served = served-all board sound over;
}
