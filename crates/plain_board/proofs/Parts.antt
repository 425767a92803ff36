-- What the holders of a buffer weigh, as a sum of numbers, one for each kind of holding.
use Rattle.std.{proofs.Common.{◌≡◌, ℕ, ◌+◌, ◌*◌, List, [], ◌∷◌, ◌++◌, length, map, refl, ap, ◌∙◌, arith}, specs.Prelude.{if◌then◌else◌, filter, ◌==◌}}
use Rattle.std.specs.List.{flat_map, filter_map}
use Rattle.zr_kinds.specs.declared.{place.Place.{Place}, holding.Holding.{Holding}}
use Rattle.zr_kinds.specs.declared.holding.Holding.TheVariants as holding
use Rattle.board_face.specs.Holders.{Kind, own, piece, sent, held, spare, loan, owed, returning, places_in, on_way, owed_in, returning_in}
use Rattle.board_face.specs.{Holders.{making_places, nic_holders, app_holders, holders_of}, declared.views.{nic.NicSide.{NicSide}, app.AppSide.{AppSide}}}
use Rattle.board_face.proofs.{Tallies.{total, total-append, total-agree}, Parts.{owed_count, owed-count}, Counting.{total-flat}, Sums.{total-map, total-filter}}
use Rattle.plain_board.specs.Plain.{plain, weight}

-- what a holder of this buffer weighs, among those of all buffers
abbrev pub here : ℕ → ℕ → ℕ → ℕ
here b buffer n = if buffer == b then n else 0

abbrev pub place_here : ℕ → (ℕ → ℕ → ℕ) → Place → ℕ
place_here b weigh p = here b p.buffer (weigh p.offset p.len)

-- ---- the numbers

abbrev pub card_weight : (Holding → ℕ) → ℕ → NicSide → ℕ
card_weight f b nic =
    total (λ o. here b o.buffer (f holding.Own)) nic.view.owns
    + (total (λ p. place_here b (λ o l. f (holding.Piece o l)) p.place) nic.view.pieces
    + total (place_here b (λ o l. f (holding.Piece o l))) (making_places nic.inside.making))

abbrev pub way_weight : (Holding → ℕ) → ℕ → NicSide → AppSide → ℕ
way_weight f b nic app =
    total (λ s. place_here b (λ o l. f (holding.Sent app.view.app o l)) s.note.place) (filter (λ s. s.note.split) (on_way nic app))

abbrev pub held_weight : (Holding → ℕ) → ℕ → AppSide → ℕ
held_weight f b app = total (λ h. place_here b (λ o l. f (holding.Held app.view.app o l)) h.place) app.view.helds

abbrev pub spare_weight : (Holding → ℕ) → ℕ → AppSide → ℕ
spare_weight f b app = total (λ s. here b s.own.buffer (f (holding.Spare app.view.app))) app.view.owns

abbrev pub loan_weight : (Holding → ℕ) → ℕ → AppSide → ℕ
loan_weight f b app = total (λ l. place_here b (λ o m. f (holding.Loan app.view.app o m)) l.place) app.view.loans

abbrev pub owed_weight : (Holding → ℕ) → ℕ → NicSide → AppSide → ℕ
owed_weight f b nic app = owed_count b nic app * f (holding.Owed app.view.app)

abbrev pub app_weight : (Holding → ℕ) → ℕ → NicSide → AppSide → ℕ
app_weight f b nic app =
    way_weight f b nic app + (held_weight f b app + (spare_weight f b app + (loan_weight f b app + owed_weight f b nic app)))

-- ---- the holders weigh as much

abbrev pub kind_weight : (Holding → ℕ) → Kind → ℕ
kind_weight f own = f holding.Own
kind_weight f (piece p) = f (holding.Piece p.offset p.len)
kind_weight f (sent a p) = f (holding.Sent a p.offset p.len)
kind_weight f (held a p) = f (holding.Held a p.offset p.len)
kind_weight f (spare a) = f (holding.Spare a)
kind_weight f (loan a p) = f (holding.Loan a p.offset p.len)
kind_weight f (owed a p) = f (holding.Owed a)
kind_weight f (returning a p) = 0

pub weight-kinds : (f : Holding → ℕ) (kinds : List Kind) → weight f (filter_map plain kinds) ≡ total (kind_weight f) kinds
weight-kinds f [] = refl
weight-kinds f (own ∷ kinds) = omega (arith, weight-kinds f kinds)
weight-kinds f (piece p ∷ kinds) = omega (arith, weight-kinds f kinds)
weight-kinds f (sent a p ∷ kinds) = omega (arith, weight-kinds f kinds)
weight-kinds f (held a p ∷ kinds) = omega (arith, weight-kinds f kinds)
weight-kinds f (spare a ∷ kinds) = omega (arith, weight-kinds f kinds)
weight-kinds f (loan a p ∷ kinds) = omega (arith, weight-kinds f kinds)
weight-kinds f (owed a p ∷ kinds) = omega (arith, weight-kinds f kinds)
weight-kinds f (returning a p ∷ kinds) = omega (arith, weight-kinds f kinds)

-- the places of a list that are in this buffer
places-weight : {A : Type 0} (b : ℕ) (g : Kind → ℕ) (kind : Place → Kind) (f : A → Place) (xs : List A)
    → total g (map kind (places_in b (map f xs))) ≡ total (λ x. if (f x).buffer == b then g (kind (f x)) else 0) xs
places-weight b g kind f xs =
    total-map g kind (places_in b (map f xs))
    ∙ total-filter (λ p. g (kind p)) (λ p. p.buffer == b) (map f xs)
    ∙ total-map (λ p. if p.buffer == b then g (kind p) else 0) f xs

total-none : {A : Type 0} (g : A → ℕ) → ((x : A) → g x ≡ 0) → (xs : List A) → total g xs ≡ 0
total-none g none [] = refl
total-none g none (x ∷ xs) = omega (arith, none x, total-none g none xs)

total-alike : {A : Type 0} (n : ℕ) (xs : List A) → total (λ x. n) xs ≡ length xs * n
total-alike n [] = omega arith
total-alike n (x ∷ xs) = omega (arith, total-alike n xs)

card-parts : (f : Holding → ℕ) (b : ℕ) (nic : NicSide) → total (kind_weight f) (nic_holders b nic) ≡ card_weight f b nic
card-parts f b nic =
    let g = kind_weight f in
    let owns = filter (λ o. o.buffer == b) nic.view.owns in
    let pieces = map (λ p. p.place) nic.view.pieces in
    let all = pieces ++ making_places nic.inside.making in
    let at : Place → ℕ = place_here b (λ o l. f (holding.Piece o l)) in
    omega (
      arith,
      total-append g (map (λ o. own) owns) (map piece (places_in b all)),
      total-map g (λ o. own) owns,
      total-filter (λ o. f holding.Own) (λ o. o.buffer == b) nic.view.owns,
      total-map g piece (places_in b all),
      total-filter (λ p. g (piece p)) (λ (p : Place). p.buffer == b) all,
      total-append at pieces (making_places nic.inside.making),
      total-map at (λ p. p.place) nic.view.pieces,
    )

app-parts : (f : Holding → ℕ) (b : ℕ) (nic : NicSide) (app : AppSide) → total (kind_weight f) (app_holders b nic app) ≡ app_weight f b nic app
app-parts f b nic app =
    let g = kind_weight f in
    let n = app.view.app in
    let spares = filter (λ s. s.own.buffer == b) app.view.owns in
    let oweds = owed_in b nic app in
    let returnings = returning_in b nic app in
    simp total-append (
    omega (
      arith,
      places-weight b g (sent n) (λ s. s.note.place) (filter (λ s. s.note.split) (on_way nic app)),
      places-weight b g (held n) (λ h. h.place) app.view.helds,
      total-map g (λ s. spare n) spares,
      total-filter (λ s. f (holding.Spare n)) (λ s. s.own.buffer == b) app.view.owns,
      places-weight b g (loan n) (λ l. l.place) app.view.loans,
      total-map g (owed n) oweds,
      total-alike (f (holding.Owed n)) oweds,
      ap (λ k. k * f (holding.Owed n)) (owed-count b nic app),
      total-map g (returning n) returnings,
      total-none (λ p. g (returning n p)) (λ p. refl) returnings,
    )
    )

abbrev pub board_weight : (Holding → ℕ) → ℕ → NicSide → List AppSide → ℕ
board_weight f b nic apps = card_weight f b nic + total (app_weight f b nic) apps

pub weight-parts : (f : Holding → ℕ) (b : ℕ) (nic : NicSide) (apps : List AppSide)
    → weight f (filter_map plain (holders_of b nic apps)) ≡ board_weight f b nic apps
weight-parts f b nic apps =
    omega (
      arith,
      weight-kinds f (holders_of b nic apps),
      total-append (kind_weight f) (nic_holders b nic) (flat_map (app_holders b nic) apps),
      card-parts f b nic,
      total-flat (kind_weight f) (app_holders b nic) apps,
      total-agree (λ app. total (kind_weight f) (app_holders b nic app)) (app_weight f b nic) (app-parts f b nic) apps,
    )
