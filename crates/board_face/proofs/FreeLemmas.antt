-- What each event does to the free places of every buffer, and that a buffer without holder has no user.
use Rattle.std.proofs.Common.{◌≡◌, ℕ, ◌+◌, ◌<◌, ◌≤◌, Bool, true, false, cond, List, [], ◌∷◌, ◌++◌, length, set, refl, ap, ⊎_elim, arith}
use Rattle.std.{specs.{Prelude.{if◌then◌else◌, ◌==◌, nat_lt, nat_eq, count_by, ◌&&◌}, List.{flat_map}}, proofs.lemmas.Bool.{eq-eqb, Decides.{eqb_tells}}}
use Rattle.area_layout.specs.Layout.{pool_buffers}
use Rattle.board_face.specs.{NicEvents.{cached, cache_room, took, swept, gave_up}, Sides.{nic_at, app_at, IsApp}, Holders.{holders_of}}
use Rattle.board_face.specs.{Counts.{pool_count, user_count, is_user_kind}, FreeOnce.{free_places, IsFreeOnce}, declared.views.nic.NicView.{NicView}}
use Rattle.board_face.specs.declared.views.nic.NicSide.{NicSide}
use Rattle.board_face.{specs.declared.views.app.{AppView.{AppView}, AppSide.{AppSide}}, proofs.Tallies.{one_if, tally, tally-le, tally-flat, total-set}}
use Rattle.board_face.proofs.{Parts.{count-tally}, Counting.{count-push, count-append}}

-- a user of a buffer is one of its holders
pub user_count-le : (a b : ℕ) (nic : NicSide) (apps : List AppSide) → user_count a b nic apps ≤ pool_count b nic apps
user_count-le a b nic apps = omega (arith, count-tally (is_user_kind a) (holders_of b nic apps), tally-le (is_user_kind a) (holders_of b nic apps))

-- a buffer that was taken stood in the cache
pub free_places-took : (listed : ℕ → Bool) (b : ℕ) (nic : NicSide) (apps : List AppSide) (buffer : ℕ)
    → nic.view.cache ≡ (took nic.view buffer).cache ++ buffer ∷ []
    → free_places listed b (nic_at nic (took nic.view buffer)) apps + one_if (b == buffer) ≡ free_places listed b nic apps
free_places-took listed b nic apps buffer last = omega (arith, ap (count_by (nat_eq b)) last, count-push b buffer (took nic.view buffer).cache)

-- the buffers that a sweep found stand in the cache
pub free_places-swept : (listed : ℕ → Bool) (b : ℕ) (nic : NicSide) (apps : List AppSide) (word : ℕ) (found : List ℕ)
    → free_places listed b (nic_at nic (swept nic.view word found)) apps ≡ free_places listed b nic apps + count_by (nat_eq b) found
free_places-swept listed b nic apps word found = omega (arith, count-append b nic.view.cache found)

cached-case : (c : Bool) (b buffer : ℕ) (cache : List ℕ)
    → count_by (nat_eq b) (cond c (cache ++ buffer ∷ []) cache) ≡ count_by (nat_eq b) cache + (if c then one_if (b == buffer) else 0)
cached-case true b buffer cache = count-push b buffer cache
cached-case false b buffer cache = omega arith

-- a pool buffer that came to be free stands in the cache, where that had room
abbrev pub comes_in : NicSide → ℕ → Bool → Bool
comes_in nic buffer last = (last && nat_lt buffer (pool_buffers nic.view.setting.layout)) && nat_lt (length nic.view.cache) cache_room

gave_up-case : (c : Bool) (b buffer : ℕ) (cache : List ℕ)
    → count_by (nat_eq b) (cond c (cached cache buffer) cache)
    ≡ count_by (nat_eq b) cache + (if c && nat_lt (length cache) cache_room then one_if (b == buffer) else 0)
gave_up-case true b buffer cache = cached-case (nat_lt (length cache) cache_room) b buffer cache
gave_up-case false b buffer cache = omega arith

pub free_places-gave_up : (listed : ℕ → Bool) (b : ℕ) (nic : NicSide) (apps : List AppSide) (buffer : ℕ) (last : Bool)
    → free_places listed b (nic_at nic (gave_up nic.view buffer last)) apps
    ≡ free_places listed b nic apps + (if comes_in nic buffer last then one_if (b == buffer) else 0)
free_places-gave_up listed b nic apps buffer last = omega (
  arith,
  gave_up-case (last && nat_lt buffer (pool_buffers nic.view.setting.layout)) b buffer nic.view.cache,
)

-- an event that leaves the cache leaves the free places
pub free_places-nic : (listed : ℕ → Bool) (b : ℕ) (nic : NicSide) (v : NicView) (apps : List AppSide) → v.cache ≡ nic.view.cache
    → free_places listed b (nic_at nic v) apps ≡ free_places listed b nic apps
free_places-nic listed b nic v apps same = rw same refl

-- and so does what leaves the hands of an application
pub free-side : (listed : ℕ → Bool) (b : ℕ) (nic : NicSide) (apps : List AppSide) (a : ℕ) (app now : AppSide) → IsApp apps a app
    → now.inside.hands ≡ app.inside.hands → free_places listed b nic (set apps a now) ≡ free_places listed b nic apps
free-side listed b nic apps a app now here same =
    let hands : AppSide → List ℕ = λ x. x.inside.hands in
    omega (
      arith,
      count-tally (nat_eq b) (flat_map hands (set apps a now)),
      count-tally (nat_eq b) (flat_map hands apps),
      tally-flat (nat_eq b) hands (set apps a now),
      tally-flat (nat_eq b) hands apps,
      total-set (λ x. tally (nat_eq b) (hands x)) apps a app now here.there here.is,
      ap (tally (nat_eq b)) same,
    )

-- and so does every event of an application
pub free_places-app : (listed : ℕ → Bool) (b : ℕ) (nic : NicSide) (apps : List AppSide) (a : ℕ) (app : AppSide) (v : AppView) → IsApp apps a app
    → free_places listed b nic (set apps a (app_at app v)) ≡ free_places listed b nic apps
free_places-app listed b nic apps a app v here = free-side listed b nic apps a app (app_at app v) here refl

-- a buffer that stands in a free place, as in the cache, has no holder
pub IsFreeOnce-unheld : (listed : ℕ → Bool) (b : ℕ) (nic : NicSide) (apps : List AppSide) → IsFreeOnce listed b nic apps
    → 0 < free_places listed b nic apps → pool_count b nic apps ≡ 0
IsFreeOnce-unheld listed b nic apps once free =
    ⊎_elim
    (λ t. t.1)
    (λ t. absurd (let none : free_places listed b nic apps ≡ 0 = rw t.0 at once in omega arith))
    (eqb_tells (pool_count b nic apps) 0)

pub IsFreeOnce-cached : (listed : ℕ → Bool) (b : ℕ) (nic : NicSide) (apps : List AppSide) (rest : List ℕ) → nic.view.cache ≡ rest ++ b ∷ []
    → IsFreeOnce listed b nic apps → pool_count b nic apps ≡ 0
IsFreeOnce-cached listed b nic apps rest last once =
    let one : one_if (b == b) ≡ 1 = ap one_if (eq-eqb b b refl) in
    IsFreeOnce-unheld listed b nic apps once (omega (arith, ap (count_by (nat_eq b)) last, count-push b b rest, one))
