-- The counts of a buffer as sums of numbers, one for each kind of holding.
use Rattle.board_face.specs.Lists.{one_if as one}
use Rattle.zr_kinds.specs.declared.place.Place.{Place}
use Rattle.board_face.specs.{Holdings.{here, used, app_weight}, declared.views.{parts.Filling.{Filling}, nic.PlacedText.{PlacedText}}}
use Rattle.board_face.specs.declared.views.app.{HeldPiece.{HeldPiece}, LentPiece.{LentPiece}, SpareOwn.{SpareOwn}}
use Rattle.board_face.{proofs.{Weighing.{sides, kinds-counted, tally-total, total-ones}, Sums.{none, zeros}}, specs.Sides.{AreNumbered, IsApp}}
pub use Rattle.board_face.proofs.Tallies.{count-tally}
use Rattle.std.proofs.Common.{◌≡◌, ℕ, zero, suc, ◌+◌, ◌-◌, ◌<◌, min, Bool, true, false, List, [], ◌∷◌, length, map, get_or}
use Rattle.std.{proofs.Common.{refl, ap, ◌∙◌, arith, length-append, length-drop, length-take}, specs.Prelude.{if◌then◌else◌, ◌≢◌, filter, ◌==◌}}
use Rattle.std.{specs.List.{flat_map}, proofs.lemmas.{List.{length-map}, Bool.{eq-eqb, ne_eqb}}}
use Rattle.board_face.specs.Holders.{on_way, returned_in, ended_in, returning_count, owed_in, returning_in, making_places, nic_holders, app_holders}
use Rattle.board_face.specs.{Counts.{pool_count, is_user_kind, user_count}, declared.views.{nic.{SentNote.{SentNote}, NicSide.{NicSide}}, app.AppSide.{AppSide}}}
use Rattle.board_face.proofs.Tallies.{tally, total, tally-append, length-tally, tally-map, length-flat, total-agree}

-- ---- the numbers

abbrev pub owns_in : ℕ → NicSide → ℕ
owns_in b nic = tally (λ o. o.buffer == b) nic.view.owns

abbrev pub pieces_in : ℕ → NicSide → ℕ
pieces_in b nic = tally (λ p. p.place.buffer == b) nic.view.pieces

abbrev pub making_in : ℕ → NicSide → ℕ
making_in b nic = tally (λ p. p.buffer == b) (making_places nic.inside.making)

abbrev pub nic_count : ℕ → NicSide → ℕ
nic_count b nic = owns_in b nic + (pieces_in b nic + making_in b nic)

-- the pieces in a buffer among these notes
abbrev pub notes_in : ℕ → List SentNote → ℕ
notes_in b notes = tally (λ s. s.note.place.buffer == b) (filter (λ s. s.note.split) notes)

abbrev pub sent_in : ℕ → NicSide → AppSide → ℕ
sent_in b nic app = notes_in b (on_way nic app)

abbrev pub helds_in : ℕ → AppSide → ℕ
helds_in b app = tally (λ h. h.place.buffer == b) app.view.helds

abbrev pub spares_in : ℕ → AppSide → ℕ
spares_in b app = tally (λ s. s.own.buffer == b) app.view.owns

abbrev pub loans_in : ℕ → AppSide → ℕ
loans_in b app = tally (λ l. l.place.buffer == b) app.view.loans

abbrev pub came_back_in : ℕ → AppSide → ℕ
came_back_in b app = tally (λ l. l.place.buffer == b) app.view.returned

abbrev pub owed_count : ℕ → NicSide → AppSide → ℕ
owed_count b nic app = came_back_in b app - ended_in b nic app

abbrev pub returning_in_count : ℕ → NicSide → AppSide → ℕ
returning_in_count b nic app = min (returning_count b nic app) (came_back_in b app - (ended_in b nic app - returning_count b nic app))

abbrev pub app_count : ℕ → NicSide → AppSide → ℕ
app_count b nic app = sent_in b nic app + (helds_in b app + (spares_in b app + (loans_in b app + (owed_count b nic app + returning_in_count b nic app))))

-- ---- the holders are as many

pub returned_in-count : (b : ℕ) (app : AppSide) → length (returned_in b app) ≡ came_back_in b app
returned_in-count b app = length-tally (λ p. p.buffer == b) (map (λ l. l.place) app.view.returned)
    ∙ tally-map (λ p. p.buffer == b) (λ l. l.place) app.view.returned

pub length-nic_holders : (b : ℕ) (nic : NicSide) → length (nic_holders b nic) ≡ nic_count b nic
length-nic_holders b nic = simp (length-append, length-map, length-tally, tally-append, tally-map) refl

pub length-app_holders : (b : ℕ) (nic : NicSide) (app : AppSide) → length (app_holders b nic app) ≡ app_count b nic app
length-app_holders b nic app = simp (length-append, length-map, length-take, length-drop, returned_in-count, length-tally, tally-map) (omega arith)

pub pool_count-parts : (b : ℕ) (nic : NicSide) (apps : List AppSide) → pool_count b nic apps ≡ nic_count b nic + total (app_count b nic) apps
pool_count-parts b nic apps =
    omega (
      arith,
      length-append (nic_holders b nic) (flat_map (app_holders b nic) apps),
      length-nic_holders b nic,
      length-flat (app_holders b nic) apps,
      total-agree (λ app. length (app_holders b nic app)) (app_count b nic) (length-app_holders b nic) apps,
    )

-- ---- users

abbrev pub user_part : ℕ → ℕ → NicSide → AppSide → ℕ
user_part a b nic app = if app.view.app == a then loans_in b app + owed_count b nic app else 0

pub owed-count : (b : ℕ) (nic : NicSide) (app : AppSide) → length (owed_in b nic app) ≡ owed_count b nic app
owed-count b nic app = length-drop (ended_in b nic app) (returned_in b app) ∙ ap (λ n. n - ended_in b nic app) (returned_in-count b app)

users-weigh : (c : Bool) (b : ℕ) (loans : List LentPiece) (oweds : List Place)
    → total (λ (l : LentPiece). here b l.place.buffer (one c)) loans + total (λ (p : Place). one c) oweds
    ≡ (if c then tally (λ (l : LentPiece). l.place.buffer == b) loans + length oweds else 0)
users-weigh true b loans oweds = omega (arith, tally-total (λ (l : LentPiece). l.place.buffer == b) loans, total-ones oweds)
users-weigh false b loans oweds = omega (arith, none (λ (l : LentPiece). l.place.buffer) b loans, zeros oweds)

pub app-users : (a b : ℕ) (nic : NicSide) (x : AppSide) → app_weight (used a) b nic x ≡ user_part a b nic x
app-users a b nic x =
    omega (
      arith,
      none (λ (s : SentNote). s.note.place.buffer) b (filter (λ s. s.note.split) (on_way nic x)),
      none (λ (h : HeldPiece). h.place.buffer) b x.view.helds,
      none (λ (s : SpareOwn). s.own.buffer) b x.view.owns,
      users-weigh (x.view.app == a) b x.view.loans (owed_in b nic x),
      zeros (returning_in b nic x),
      ap (λ n. if x.view.app == a then loans_in b x + n else 0) (owed-count b nic x),
    )

pub user_count-parts : (a b : ℕ) (nic : NicSide) (apps : List AppSide) → user_count a b nic apps ≡ total (user_part a b nic) apps
user_count-parts a b nic apps =
    omega (
      arith,
      kinds-counted (is_user_kind a) b (sides nic apps),
      none (λ (o : Filling). o.buffer) b nic.view.owns,
      none (λ (p : PlacedText). p.place.buffer) b nic.view.pieces,
      none (λ (p : Place). p.buffer) b (making_places nic.inside.making),
      total-agree (app_weight (used a) b nic) (user_part a b nic) (app-users a b nic) apps,
    )

-- ---- one application among those that are numbered in order

same-after : (n : ℕ) (f g : AppSide → ℕ) (a : ℕ) → ((app : AppSide) → app.view.app ≢ a → f app ≡ g app) → (apps : List AppSide)
    → AreNumbered n apps → a < n → total f apps ≡ total g apps
same-after n f g a others [] numbered before = refl
same-after n f g a others (app ∷ apps) numbered before =
    let here : f app ≡ g app = others app (let e = numbered.0 in omega arith) in
    omega (arith, here, same-after (suc n) f g a others apps numbered.1 (omega arith))

-- where f and g differ by ends and begins at this application alone, their sums do
pub total-exchange : (n : ℕ) (f g : AppSide → ℕ) (ends begins a : ℕ) → ((app : AppSide) → app.view.app ≢ a → f app ≡ g app) → (apps : List AppSide)
    → AreNumbered n apps → (i : ℕ) (d : AppSide) → i < length apps → n + i ≡ a
    → f (get_or apps i d) + ends ≡ g (get_or apps i d) + begins → total f apps + ends ≡ total g apps + begins
total-exchange n f g ends begins a others [] numbered i d within is shift = absurd (omega arith)
total-exchange n f g ends begins a others (app ∷ apps) numbered zero d within is shift =
    omega (arith, same-after (suc n) f g a others apps numbered.1 (omega arith))
total-exchange n f g ends begins a others (app ∷ apps) numbered (suc i) d within is shift =
    let here : f app ≡ g app = others app (let e = numbered.0 in omega arith) in
    omega (arith, here, total-exchange (suc n) f g ends begins a others apps numbered.1 i d (omega arith) (omega arith) shift)

pub total-shift : (n : ℕ) (f g : AppSide → ℕ) (w a : ℕ) → ((app : AppSide) → app.view.app ≢ a → f app ≡ g app) → (apps : List AppSide)
    → AreNumbered n apps → (i : ℕ) (d : AppSide) → i < length apps → n + i ≡ a
    → f (get_or apps i d) ≡ g (get_or apps i d) + w → total f apps ≡ total g apps + w
total-shift n f g w a others apps numbered i d within is shift =
    omega (arith, total-exchange n f g 0 w a others apps numbered i d within is (omega (arith, shift)))

-- what only this application adds to is what it adds
pub total-only : (n : ℕ) (f : AppSide → ℕ) (a : ℕ) → ((app : AppSide) → app.view.app ≢ a → f app ≡ 0) → (apps : List AppSide)
    → AreNumbered n apps → (i : ℕ) (d : AppSide) → i < length apps → n + i ≡ a → total f apps ≡ f (get_or apps i d)
total-only n f a others apps numbered i d within is =
    omega (arith, total-shift n f (λ _. 0) (f (get_or apps i d)) a others apps numbered i d within is (omega arith), zeros apps)

-- an application's user count is of its own loans, out or owed
pub user_count-own : (a b : ℕ) (nic : NicSide) (apps : List AppSide) (app : AppSide) → AreNumbered 0 apps → IsApp apps a app
    → user_count a b nic apps ≡ loans_in b app + owed_count b nic app
user_count-own a b nic apps app numbered here =
    user_count-parts a b nic apps
    ∙ total-only 0 (user_part a b nic) a (λ other ne. rw (ne_eqb other.view.app a ne) refl) apps numbered a app here.there (omega arith)
    ∙ ap (user_part a b nic) here.is
    ∙ rw (eq-eqb app.view.app a here.number) refl
