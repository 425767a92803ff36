-- The counts of a buffer and its places, from what its holders weigh.
use Rattle.std.proofs.Common.{◌≡◌, ◌∙◌, ℕ, ◌+◌, ◌<◌, ◌≤◌, Bool, true, false, List, [], ◌∷◌, length, refl, sym, arith, ⊎_elim}
use Rattle.std.{specs.{Prelude.{filter, All, ◌==◌, nat_lt, slice_index, None, count_by}, List.{flat_map, list_any}}, proofs.lemmas.Bool.{cases_lt, lt-ltb}}
use Rattle.std.proofs.lemmas.List.Elements.{All-head, All-tail}
use Rattle.zr_kinds.specs.{declared.{place.Place.{Place}, holding.Holding.{Holding}}, Holders.{Holdings, is_same, is_user, is_buffer}, Setting.{total_buffers}}
use Rattle.area_layout.specs.Layout.{all_buffers, size_of}
use Rattle.zr_kinds.proofs.Weighing.{one_if, weight-length}
use Rattle.zr_kinds.specs.declared.holding.Holding.TheVariants as holding
use Rattle.board_face.specs.Holders.{Kind, own, piece, sent, held, spare, loan, owed, returning, holders_of, on_way, making_places, returning_count}
use Rattle.board_face.specs.{Counts.{is_user_kind}, Laws.{AllSides, pool_of, user_of}, Places.{kind_place, filled_places, places_of, ends_behind}}
use Rattle.board_face.{specs.declared.views.{nic.NicSide.{NicSide}, app.AppSide.{AppSide}}, proofs.Parts.{nic_count, app_count, pool_count-parts, count-tally}}
use Rattle.board_face.proofs.Tallies.{one_if as one, tally, total, tally-append, tally-flat, total-agree, total-le}
use Rattle.plain_board.specs.{IsLogged.{AreSound, NoneReturns, setting_of_sides}, Plain.{AreHoldersOf, plain_holders, weight}}
use Rattle.plain_board.proofs.{Parts.{card_weight, app_weight, kind_weight, weight-kinds, weight-parts}, Settings.{total-same}, Weighing.{weight-among}}

pub tally-total : {A : Type 0} (test : A → Bool) (xs : List A) → tally test xs ≡ total (λ x. one (test x)) xs
tally-total test [] = refl
tally-total test (x ∷ xs) = omega (arith, tally-total test xs)

-- ---- users

kind-user : (a : ℕ) (k : Kind) → kind_weight (one_if (is_user a)) k ≡ one (is_user_kind a k)
kind-user a own = refl
kind-user a (piece p) = refl
kind-user a (sent app p) = refl
kind-user a (held app p) = refl
kind-user a (spare app) = refl
kind-user a (loan app p) = refl
kind-user a (owed app p) = refl
kind-user a (returning app p) = refl

pub user-weight : (s : AllSides) (a b : ℕ) → weight (one_if (is_user a)) (plain_holders s b) ≡ user_of s a b
user-weight s a b =
    let kinds = holders_of b s.nic s.apps in
    weight-kinds (one_if (is_user a)) kinds
    ∙ total-agree (kind_weight (one_if (is_user a))) (λ k. one (is_user_kind a k)) (kind-user a) kinds
    ∙ sym (tally-total (is_user_kind a) kinds)
    ∙ sym (count-tally (is_user_kind a) kinds)

-- ---- all holders

abbrev unit : Holding → ℕ
unit h = 1

card-count : (b : ℕ) (nic : NicSide) → card_weight unit b nic ≡ nic_count b nic
card-count b nic =
    let making = making_places nic.inside.making in
    omega (
      arith,
      tally-total (λ o. o.buffer == b) nic.view.owns,
      tally-total (λ p. p.place.buffer == b) nic.view.pieces,
      tally-total (λ (p : Place). p.buffer == b) making,
    )

app-count : (b : ℕ) (nic : NicSide) (app : AppSide) → nic.inside.entry ≡ None → slice_index app.inside.scrub_owes b ≡ 0
    → app_weight unit b nic app ≡ app_count b nic app
app-count b nic app no_entry owes =
    let none : returning_count b nic app ≡ 0 = rw no_entry (omega (arith, owes)) in
    omega (
      arith,
      none,
      tally-total (λ s. s.note.place.buffer == b) (filter (λ s. s.note.split) (on_way nic app)),
      tally-total (λ h. h.place.buffer == b) app.view.helds,
      tally-total (λ s. s.own.buffer == b) app.view.owns,
      tally-total (λ l. l.place.buffer == b) app.view.loans,
    )

apps-count : (b : ℕ) (nic : NicSide) → nic.inside.entry ≡ None → (apps : List AppSide)
    → All (λ app. (c : ℕ) → slice_index app.inside.scrub_owes c ≡ 0) apps → total (app_weight unit b nic) apps ≡ total (app_count b nic) apps
apps-count b nic no_entry [] owes = refl
apps-count b nic no_entry (app ∷ apps) owes =
    let P : AppSide → Type 0 = λ x. (c : ℕ) → slice_index x.inside.scrub_owes c ≡ 0 in
    let here = app-count b nic app no_entry (All-head P app apps owes b) in
    let there = apps-count b nic no_entry apps (All-tail P app apps owes) in
    omega (arith, here, there)

pub pool-weight : (s : AllSides) → NoneReturns s → (b : ℕ) → weight (λ h. 1) (plain_holders s b) ≡ pool_of s b
pool-weight s none b =
    omega (
      arith,
      weight-parts unit b s.nic s.apps,
      card-count b s.nic,
      apps-count b s.nic none.entry s.apps none.owes,
      pool_count-parts b s.nic s.apps,
    )

-- ---- a holder that is there

-- the holding's bytes, if it has any, end behind this one
abbrev pub ends : ℕ → Holding → Bool
ends x (holding.Piece o l) = nat_lt x (o + l)
ends x (holding.Sent a o l) = nat_lt x (o + l)
ends x (holding.Held a o l) = nat_lt x (o + l)
ends x (holding.Loan a o l) = nat_lt x (o + l)
ends x other = false

kind-ends : (x : ℕ) (k : Kind) → kind_weight (one_if (ends x)) k ≤ tally (ends_behind x) (kind_place k)
kind-ends x own = omega arith
kind-ends x (piece p) = omega arith
kind-ends x (sent a p) = omega arith
kind-ends x (held a p) = omega arith
kind-ends x (spare a) = omega arith
kind-ends x (loan a p) = omega arith
kind-ends x (owed a p) = omega arith
kind-ends x (returning a p) = omega arith

-- as many end behind a byte as places do, at most
pub ends-weight : (s : AllSides) (b x : ℕ) → weight (one_if (ends x)) (plain_holders s b) ≤ count_by (ends_behind x) (places_of b s.nic s.apps)
ends-weight s b x =
    let kinds = holders_of b s.nic s.apps in
    omega (
      arith,
      weight-kinds (one_if (ends x)) kinds,
      total-le (kind_weight (one_if (ends x))) (λ k. tally (ends_behind x) (kind_place k)) kinds (λ k has. kind-ends x k),
      tally-flat (ends_behind x) kind_place kinds,
      tally-append (ends_behind x) (flat_map kind_place kinds) (flat_map (filled_places b) s.apps),
      count-tally (ends_behind x) (places_of b s.nic s.apps),
    )

module _ (s : AllSides) (sound : AreSound s) (h : Holdings) (same : AreHoldersOf h s) where
  pub length-held : (b : ℕ) → length (h b) ≡ pool_of s b
  length-held b = sym (weight-length (h b)) ∙ same b (λ k. 1) ∙ pool-weight s sound.returns b

  -- a buffer with a holder is one of the board's
  pub buffer-there : (b : ℕ) → 0 < pool_of s b → is_buffer (setting_of_sides s) b ≡ true
  buffer-there b some =
      let layout = s.nic.view.setting.layout in
      let within : b < total_buffers (setting_of_sides s) = ⊎_elim (λ less. omega (arith, less, total-same layout))
      (λ past. absurd (let none = (sound.by_one b).inside past in omega (arith, none))) (cases_lt b (all_buffers layout)) in
      lt-ltb b (total_buffers (setting_of_sides s)) within

  pub held-some : (b : ℕ) (old : Holding) → list_any (is_same old) (h b) ≡ true → 0 < pool_of s b
  held-some b old there = omega (arith, weight-among old (h b) there (λ k. 1), weight-length (h b), length-held b)

  -- and none lies behind its buffer's end
  pub held-within : (b : ℕ) (old : Holding) → list_any (is_same old) (h b) ≡ true
      → one (ends (size_of s.nic.view.setting.layout b) old) ≡ 0
  held-within b old there =
      let size = size_of s.nic.view.setting.layout b in
      omega (
        arith,
        weight-among old (h b) there (one_if (ends size)),
        same b (one_if (ends size)),
        ends-weight s b size,
        (sound.places b).within,
      )
