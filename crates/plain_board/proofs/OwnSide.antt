-- What an application knows of itself counts as its side does: before its scrub nothing was taken by one, and then it owes nothing.
use Rattle.std.proofs.Common.{◌≡◌, ℕ, ◌+◌, ◌-◌, ◌<◌, ◌≤◌, Bool, true, false, List, [], ◌∷◌, set, refl, ap, sym, ◌∙◌, arith, length-drop}
use Rattle.std.{specs.{Prelude.{◌==◌, nat_eq, count_by, if◌then◌else◌, All}, List.{flat_map}}, proofs.lemmas.List.{set-set, Elements.{All-head, All-tail}}}
use Rattle.area_layout.specs.Layout.{pool_buffers, all_buffers}
use Rattle.board_face.specs.{Sides.{IsApp}, Holders.{returning_in_hand, returned_in, ended_in}, Counts.{pool_count, user_count}, AppEvents.{app_gist}}
use Rattle.board_face.{specs.declared.views.app.{LentPiece.{LentPiece}, AppSide.{AppSide}}, proofs.Tallies.{one_if, tally, total, tally-flat}}
use Rattle.board_face.proofs.{Parts.{app_count, user_part, loans_in, owed_count, returned_in-count, count-tally}, AppLemmas.{pool_count-app, user_count-app}}
use Rattle.board_face.{specs.Blank.{blank_app}, proofs.OpenedLemmas.{all-alike}}
use Rattle.board_parts.specs.Free.{listed_in, HasNoneListed}
use Rattle.plain_board.specs.{Stand.{Stand, others_of}, Seen.{self_of, all_app_sides, HasNothingListed}, Sound.{IsSound, IsAppAtRest}}
use Rattle.plain_board.proofs.AppFrames.{has-setting, was-at_rest, was-phased}

-- applications at rest have no buffer in hand
hands-none : (b : ℕ) (apps : List AppSide) → All IsAppAtRest apps → total (λ app. tally (nat_eq b) app.inside.hands) apps ≡ 0
hands-none b [] rest = refl
hands-none b (app ∷ apps) rest =
    let here = All-head IsAppAtRest app apps rest in
    omega (arith, ap (tally (nat_eq b)) here.hands, hands-none b apps (All-tail IsAppAtRest app apps rest))

module _ (board : Stand) (a : ℕ) (x : AppSide) (sound : IsSound board) (here : IsApp board.apps a x) where
  abbrev self : AppSide
  self = self_of (app_gist x.view)

  no-returning : (b : ℕ) → returning_in_hand x.view.app b board.nic.inside.entry ≡ 0
  no-returning b = ap (λ inside. returning_in_hand x.view.app b inside.entry) sound.set.card_rest

  ended-same : (b : ℕ) → x.view.scrubbed ≡ false → ended_in b board.nic self ≡ ended_in b board.nic x
  ended-same b is = let rest = was-at_rest board a x x sound here in omega (arith, rest.unscrubbed is b, all-alike (all_buffers x.view.setting.layout) b 0)

  owed-by : (b : ℕ) (c : Bool) → x.view.scrubbed ≡ c → tally (λ (l : LentPiece). l.place.buffer == b)
      (if c then [] else x.view.returned) - ended_in b board.nic self ≡ owed_count b board.nic x
  owed-by b true is = let phase = was-phased board a x x sound here in omega
      (arith, (phase.scrubbed is).1 b, length-drop (ended_in b board.nic x) (returned_in b x), returned_in-count b x)
  owed-by b false is = omega (arith, ended-same b is)

  self-count : (b : ℕ) → app_count b board.nic self ≡ app_count b board.nic x
  self-count b =
      let rest = was-at_rest board a x x sound here in
      omega (arith, owed-by b x.view.scrubbed refl, no-returning b, rest.owes b, all-alike (all_buffers x.view.setting.layout) b 0)

  sides : all_app_sides (app_gist x.view) (others_of board a) ≡ set board.apps a self
  sides = ap (λ n. set (set board.apps a blank_app) n self) here.number ∙ set-set board.apps a blank_app self

  -- a buffer has as many holders as the application knows of, with the others
  pub seen-count : (b : ℕ) → pool_count b board.nic (all_app_sides (app_gist x.view) (others_of board a)) ≡ pool_count b board.nic board.apps
  seen-count b = omega (arith, ap (pool_count b board.nic) sides, pool_count-app b board.nic board.apps a x self here, self-count b)

  self-part : (k b : ℕ) → user_part k b board.nic self ≡ user_part k b board.nic x
  self-part k b = ap (λ n. if x.view.app == k then loans_in b x + n else 0) (owed-by b x.view.scrubbed refl)

  -- and as many users
  pub seen-users : (k b : ℕ) → user_count k b board.nic (all_app_sides (app_gist x.view) (others_of board a)) ≡ user_count k b board.nic board.apps
  seen-users k b = omega (arith, ap (user_count k b board.nic) sides, user_count-app k b board.nic board.apps a x self here, self-part k b)

  -- one that isn't listed and has no holder is cached,
  pub unlisted-cached : (b : ℕ) → b < pool_buffers x.view.setting.layout → listed_in board.arrays.listed b ≡ false
      → pool_count b board.nic (all_app_sides (app_gist x.view) (others_of board a)) ≡ 0 → 1 ≤ count_by (nat_eq b) board.nic.view.cache
  unlisted-cached b within none free =
      let before : pool_count b board.nic board.apps ≡ 0 = sym (seen-count b) ∙ free in
      let once = sound.free.pool b (rw sound.set.card (rw (has-setting board a x x sound here) at within)) in
      let hands : AppSide → List ℕ = λ app. app.inside.hands in
      omega (
        arith,
        rw before at once,
        ap one_if none,
        ap (λ inside. count_by (nat_eq b) inside.hands) sound.set.card_rest,
        count-tally (nat_eq b) (flat_map hands board.apps),
        tally-flat (nat_eq b) hands board.apps,
        hands-none b board.apps sound.set.roles_rest,
      )

  -- and one that is listed has no holder and isn't cached
  pub listed-free : (b : ℕ) → b < pool_buffers x.view.setting.layout → listed_in board.arrays.listed b ≡ true → pool_count b board.nic board.apps ≡ 0
      → (pool_count b board.nic (all_app_sides (app_gist x.view) (others_of board a)) ≡ 0) × (count_by (nat_eq b) board.nic.view.cache ≡ 0)
  listed-free b within there free =
      let once = sound.free.pool b (rw sound.set.card (rw (has-setting board a x x sound here) at within)) in
      (seen-count b ∙ free, omega (arith, rw free at once, ap one_if there))

  -- where no buffer is listed, one without holder is cached
  pub nothing-listed : HasNoneListed board.arrays.listed → HasNothingListed (app_gist x.view) (others_of board a)
  nothing-listed none b within free = unlisted-cached b within (none b) free
