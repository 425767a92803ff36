-- What the holders of a buffer weigh, as a sum of numbers, one for each kind of holding: any weight of the holders, and any count of places.
pub use Rattle.board_face.proofs.Tallies.{tally-total}
use Rattle.board_face.specs.Lists.{one_if as one}
use Rattle.std.{proofs.Common.{◌≡◌, ℕ, List, [], ◌∷◌, ◌++◌, length, map, refl, ◌∙◌, arith}, specs.{Prelude.{filter, count_by, ◌==◌, Bool}, List.{flat_map}}}
use Rattle.zr_kinds.specs.declared.place.Place.{Place}
use Rattle.board_face.specs.Holders.{Kind, own, piece, sent, held, spare, loan, owed, returning, places_in, on_way, owed_in, returning_in}
use Rattle.board_face.specs.{Holders.{making_places, nic_holders, app_holders, holders_of}, Laws.{AllSides, pool_of}, declared.views.nic.NicSide.{NicSide}}
use Rattle.board_face.{specs.declared.views.app.AppSide.{AppSide}, proofs.{Tallies.{total, total-append, total-agree}, Tallies.{count-tally}}}
use Rattle.board_face.{proofs.{Counting.{total-flat}, Sums.{total-map, total-filter}}, specs.Holdings.{here, card_weight, app_weight, weigh, kind_of}}

abbrev pub sides : NicSide → List AppSide → AllSides
sides nic apps = record { nic = nic; apps = apps }

-- the places of a list that are in this buffer
places-weight : {A : Type 0} (b : ℕ) (g : Kind → ℕ) (kind : Place → Kind) (f : A → Place) (xs : List A)
    → total g (map kind (places_in b (map f xs))) ≡ total (λ x. here b (f x).buffer (g (kind (f x)))) xs
places-weight b g kind f xs =
    total-map g kind (places_in b (map f xs))
    ∙ total-filter (λ p. g (kind p)) (λ p. p.buffer == b) (map f xs)
    ∙ total-map (λ p. here b p.buffer (g (kind p))) f xs

card-parts : (g : Kind → ℕ) (b : ℕ) (nic : NicSide) → total g (nic_holders b nic) ≡ card_weight (λ h. g (kind_of h)) b nic
card-parts g b nic =
    let owns = filter (λ o. o.buffer == b) nic.view.owns in
    let pieces = map (λ p. p.place) nic.view.pieces in
    let all = pieces ++ making_places nic.inside.making in
    let at : Place → ℕ = λ p. here b p.buffer (g (piece p)) in
    omega (
      arith,
      total-append g (map (λ o. own) owns) (map piece (places_in b all)),
      total-map g (λ o. own) owns,
      total-filter (λ o. g own) (λ o. o.buffer == b) nic.view.owns,
      total-map g piece (places_in b all),
      total-filter (λ p. g (piece p)) (λ (p : Place). p.buffer == b) all,
      total-append at pieces (making_places nic.inside.making),
      total-map at (λ p. p.place) nic.view.pieces,
    )

pub app-parts : (g : Kind → ℕ) (b : ℕ) (nic : NicSide) (x : AppSide) → total g (app_holders b nic x) ≡ app_weight (λ h. g (kind_of h)) b nic x
app-parts g b nic x =
    let n = x.view.app in
    let spares = filter (λ s. s.own.buffer == b) x.view.owns in
    simp total-append (
    omega (
      arith,
      places-weight b g (sent n) (λ s. s.note.place) (filter (λ s. s.note.split) (on_way nic x)),
      places-weight b g (held n) (λ h. h.place) x.view.helds,
      total-map g (λ s. spare n) spares,
      total-filter (λ s. g (spare n)) (λ s. s.own.buffer == b) x.view.owns,
      places-weight b g (loan n) (λ l. l.place) x.view.loans,
      total-map g (owed n) (owed_in b nic x),
      total-map g (returning n) (returning_in b nic x),
    )
    )

pub kinds-weigh : (g : Kind → ℕ) (b : ℕ) (s : AllSides) → total g (holders_of b s.nic s.apps) ≡ weigh (λ h. g (kind_of h)) b s
kinds-weigh g b s =
    omega (
      arith,
      total-append g (nic_holders b s.nic) (flat_map (app_holders b s.nic) s.apps),
      card-parts g b s.nic,
      total-flat g (app_holders b s.nic) s.apps,
      total-agree (λ x. total g (app_holders b s.nic x)) (app_weight (λ h. g (kind_of h)) b s.nic) (app-parts g b s.nic) s.apps,
    )

pub total-ones : {A : Type 0} (xs : List A) → length xs ≡ total (λ x. 1) xs
total-ones [] = refl
total-ones (x ∷ xs) = omega (arith, total-ones xs)

pub pool-weigh : (b : ℕ) (s : AllSides) → pool_of s b ≡ weigh (λ h. 1) b s
pool-weigh b s = total-ones (holders_of b s.nic s.apps) ∙ kinds-weigh (λ k. 1) b s

pub kinds-counted : (test : Kind → Bool) (b : ℕ) (s : AllSides) → count_by test (holders_of b s.nic s.apps) ≡ weigh (λ h. one (test (kind_of h))) b s
kinds-counted test b s =
    count-tally test (holders_of b s.nic s.apps) ∙ tally-total test (holders_of b s.nic s.apps) ∙ kinds-weigh (λ k. one (test k)) b s
