-- What each event of an application does to the counts of every buffer.
use Rattle.std.proofs.Common.{◌∷◌, [], ◌++◌, ◌≡◌, ℕ, ◌+◌, ◌-◌, ◌≤◌, min, Bool, true, false, List, length, set, refl, ap, arith}
use Rattle.board_face.{proofs.Parts.{app-users}, specs.{Holdings.{used}, BoardSteps.{polls, polls_linear, cuts, releases, lends, spares, fills, lends_own}}}
use Rattle.board_face.{proofs.{AppExchange.{back-exchange}, Counted.{app-pool, app-counts}}, specs.Tokens.{same_filling}}
use Rattle.std.specs.Prelude.{if◌then◌else◌, ◌==◌, ◌&&◌, slice_index}
use Rattle.zr_kinds.{specs.declared.place.{Place.{Place}, Note.{Note}}}
use Rattle.board_face.specs.AppEvents.{took_note, took_linear, held_origin, cut, released, lent, loan_origin, abandoned, gave}
use Rattle.board_face.specs.{AppEvents.{got_spare, owns_without, filled, own_bytes, begin_place, lent_own, scrubbed}, AppCalls.{HasHeld, HasLoan, HasSpare}}
use Rattle.board_face.specs.{Sides.{app_at, IsApp}, Holders.{ended_in, returning_count}, Counts.{pool_count, user_count, EndedWereReturned}}
use Rattle.board_face.specs.declared.views.{parts.Filling.{Filling}, nic.{NicSide.{NicSide}}, app.{LentPiece.{LentPiece}}}
use Rattle.board_face.{specs.declared.views.app.{SpareOwn.{SpareOwn}, AppView.{AppView}, AppSide.{AppSide}}, proofs.ListLemmas.{same_filling-refl, same_filling-is}}
use Rattle.board_face.specs.declared.views.app.Origin.TheVariants.{Copied as of_copy}
use Rattle.board_face.proofs.Tallies.{one_if, tally, tally-push, tally-without, total-set}
use Rattle.board_face.proofs.Parts.{app_count, user_part, loans_in, came_back_in, owed_count, returned_in-count, pool_count-parts, user_count-parts}
use Rattle.board_face.{proofs.Counting.{weight-and}, specs.Laws.{IsNextNote}}
pub use Rattle.board_face.proofs.WayLemmas.{after-taken}

-- ---- one application's part

pub pool_count-app : (b : ℕ) (nic : NicSide) (apps : List AppSide) (a : ℕ) (app now : AppSide) → IsApp apps a app
    → pool_count b nic (set apps a now) + app_count b nic app ≡ pool_count b nic apps + app_count b nic now
pool_count-app b nic apps a app now here =
    omega (arith, pool_count-parts b nic (set apps a now), pool_count-parts b nic apps, total-set (app_count b nic) apps a app now here.there here.is)

pub user_count-app : (x b : ℕ) (nic : NicSide) (apps : List AppSide) (a : ℕ) (app now : AppSide) → IsApp apps a app
    → user_count x b nic (set apps a now) + user_part x b nic app ≡ user_count x b nic apps + user_part x b nic now
user_count-app x b nic apps a app now here =
    omega (arith, user_count-parts x b nic (set apps a now), user_count-parts x b nic apps, total-set (user_part x b nic) apps a app now here.there here.is)

-- ---- events that touch no holding

pub record SameHoldings (v w : AppView) : Type 0 where
  pub app : w.app ≡ v.app
  pub taken : w.taken ≡ v.taken
  pub helds : w.helds ≡ v.helds
  pub owns : w.owns ≡ v.owns
  pub loans : w.loans ≡ v.loans
  pub returned : w.returned ≡ v.returned

pub app_count-same : (b : ℕ) (nic : NicSide) (app : AppSide) (w : AppView) → SameHoldings app.view w
    → app_count b nic (app_at app w) ≡ app_count b nic app
app_count-same b nic app w same = rw (same.app, same.taken, same.helds, same.owns, same.loans, same.returned) refl

pub user_part-same : (x b : ℕ) (nic : NicSide) (app : AppSide) (w : AppView) → SameHoldings app.view w
    → user_part x b nic (app_at app w) ≡ user_part x b nic app
user_part-same x b nic app w same = rw (same.app, same.loans, same.returned) refl

-- an event that touches neither loans nor what came back changes no user count
pub user_part-kept : (x b : ℕ) (nic : NicSide) (app : AppSide) (w : AppView) → w.app ≡ app.view.app → w.loans ≡ app.view.loans
    → w.returned ≡ app.view.returned → user_part x b nic (app_at app w) ≡ user_part x b nic app
user_part-kept x b nic app w same loans returned = rw (same, loans, returned) refl

-- ---- notes

-- a piece that is taken only changes its kind
pub app_count-took_note : (b : ℕ) (nic : NicSide) (app : AppSide) (note : Note) → IsNextNote nic app note → note.split ≡ true
    → app_count b nic (app_at app (took_note app.view note)) ≡ app_count b nic app
app_count-took_note b nic app note next split = omega (arith, app-counts (polls note) b nic app (split, next))

-- a note in which its bytes travelled held nothing
pub app_count-took_linear : (b : ℕ) (nic : NicSide) (app : AppSide) (note : Note) (bytes : List ℕ) → IsNextNote nic app note → note.split ≡ false
    → app_count b nic (app_at app (took_linear app.view note bytes)) ≡ app_count b nic app
app_count-took_linear b nic app note bytes next split = omega (arith, app-counts (polls_linear note bytes) b nic app (split, next))

-- ---- pieces

pub owns-without : (b : ℕ) (v : AppView) (own : Filling) → HasSpare v own
    → tally (λ (s : SpareOwn). s.own.buffer == b) (owns_without v own) + one_if (own.buffer == b) ≡ tally (λ (s : SpareOwn). s.own.buffer == b) v.owns
owns-without b v own out = tally-without (λ (s : SpareOwn). s.own) (same_filling own) own (same_filling-is own) (same_filling-refl own)
    (λ o. o.buffer == b) v.owns out

-- a cut piece has one holder more
pub app_count-cut : (b : ℕ) (nic : NicSide) (app : AppSide) (place : Place) (at : ℕ) → HasHeld app.view place
    → app_count b nic (app_at app (cut app.view place at)) ≡ app_count b nic app + one_if (place.buffer == b)
app_count-cut b nic app place at out = omega (arith, app-counts (cuts place at) b nic app out)

-- a released piece has one less
pub app_count-released : (b : ℕ) (nic : NicSide) (app : AppSide) (place : Place) → HasHeld app.view place
    → app_count b nic (app_at app (released app.view place)) + one_if (place.buffer == b) ≡ app_count b nic app
app_count-released b nic app place out = omega (arith, app-counts (releases place) b nic app out)

-- ---- loans

-- a piece that is lent only changes its kind
pub app_count-lent : (b : ℕ) (nic : NicSide) (app : AppSide) (place : Place) → HasHeld app.view place
    → app_count b nic (app_at app (lent app.view place)) ≡ app_count b nic app
app_count-lent b nic app place out = omega (arith, app-counts (lends place) b nic app out)

user-case : (c : Bool) (m n w : ℕ) → m ≡ n + w → (if c then m else 0) ≡ (if c then n else 0) + (if c then w else 0)
user-case true m n w e = e
user-case false m n w e = refl

-- a loan more is one user more
user_part-more : (x b : ℕ) (nic : NicSide) (app : AppSide) (l : LentPiece)
    → user_part x b nic (app_at app (record app.view { loans = app.view.loans ++ l ∷ [] }))
    ≡ user_part x b nic app + one_if ((app.view.app == x) && (l.place.buffer == b))
user_part-more x b nic app l =
    let w = one_if (l.place.buffer == b) in
    let now = app_at app (record app.view { loans = app.view.loans ++ l ∷ [] }) in
    let more = tally-push (λ (k : LentPiece). k.place.buffer == b) app.view.loans l in
    let split = user-case (app.view.app == x) (loans_in b now + owed_count b nic app) (loans_in b app + owed_count b nic app) w (omega arith) in
    omega (arith, split, weight-and (app.view.app == x) (l.place.buffer == b))

-- and is one user more
pub user_part-lent : (x b : ℕ) (nic : NicSide) (app : AppSide) (place : Place)
    → user_part x b nic (app_at app (lent app.view place)) ≡ user_part x b nic app + one_if ((app.view.app == x) && (place.buffer == b))
user_part-lent x b nic app place = user_part-more x b nic app (record { place = place; origin = held_origin app.view place })

returned-push : (b : ℕ) (app : AppSide) (place : Place) → came_back_in b (app_at app (abandoned app.view place))
    ≡ came_back_in b app + one_if (place.buffer == b)
returned-push b app place = tally-push (λ (l : LentPiece). l.place.buffer == b) app.view.returned
    (record { place = place; origin = loan_origin app.view place })

pub app_count-abandoned : (b : ℕ) (nic : NicSide) (app : AppSide) (place : Place) → HasLoan app.view place → EndedWereReturned b nic app
    → app_count b nic (app_at app (abandoned app.view place)) ≡ app_count b nic app
app_count-abandoned b nic app place out sound =
    omega (arith, back-exchange nic app place out (λ h. 1) b sound, app-pool b nic app, app-pool b nic (app_at app (abandoned app.view place)))

pub user_part-abandoned : (x b : ℕ) (nic : NicSide) (app : AppSide) (place : Place) → HasLoan app.view place → EndedWereReturned b nic app
    → user_part x b nic (app_at app (abandoned app.view place)) ≡ user_part x b nic app
user_part-abandoned x b nic app place out sound =
    omega (arith, back-exchange nic app place out (used x) b sound, app-users x b nic app, app-users x b nic (app_at app (abandoned app.view place)))

pub app_count-gave : (b : ℕ) (nic : NicSide) (app : AppSide) (place : Place) → HasLoan app.view place → EndedWereReturned b nic app
    → app_count b nic (app_at app (gave app.view place)) ≡ app_count b nic app
app_count-gave = app_count-abandoned

pub user_part-gave : (x b : ℕ) (nic : NicSide) (app : AppSide) (place : Place) → HasLoan app.view place → EndedWereReturned b nic app
    → user_part x b nic (app_at app (gave app.view place)) ≡ user_part x b nic app
user_part-gave = user_part-abandoned

-- what a loan that came back leaves true: no more of them were ended than came back
pub EndedWereReturned-abandoned : (b : ℕ) (nic : NicSide) (app : AppSide) (place : Place) → EndedWereReturned b nic app
    → EndedWereReturned b nic (app_at app (abandoned app.view place))
EndedWereReturned-abandoned b nic app place sound =
    let now = app_at app (abandoned app.view place) in
    record { ended = omega (arith, sound.ended, returned_in-count b app, returned_in-count b now, returned-push b app place); returning = sound.returning }

-- ---- spares

-- a spare has one holder more
pub app_count-got_spare : (b : ℕ) (nic : NicSide) (app : AppSide) (buffer : ℕ)
    → app_count b nic (app_at app (got_spare app.view buffer)) ≡ app_count b nic app + one_if (buffer == b)
app_count-got_spare b nic app buffer = omega (arith, app-counts (spares buffer) b nic app tt)

-- filling changes no count
pub app_count-filled : (b : ℕ) (nic : NicSide) (app : AppSide) (own : Filling) (bytes : List ℕ) → HasSpare app.view own
    → app_count b nic (app_at app (filled app.view own bytes)) ≡ app_count b nic app
app_count-filled b nic app own bytes out = omega (arith, app-counts (fills own bytes) b nic app out)

-- a spare that is lent only changes its kind
pub app_count-lent_own : (b : ℕ) (nic : NicSide) (app : AppSide) (own : Filling) → HasSpare app.view own
    → app_count b nic (app_at app (lent_own app.view own)) ≡ app_count b nic app
app_count-lent_own b nic app own out = omega (arith, app-counts (lends_own own) b nic app out)

-- and is one user more
pub user_part-lent_own : (x b : ℕ) (nic : NicSide) (app : AppSide) (own : Filling)
    → user_part x b nic (app_at app (lent_own app.view own)) ≡ user_part x b nic app + one_if ((app.view.app == x) && (own.buffer == b))
user_part-lent_own x b nic app own =
    user_part-more x b nic app
    (record { place = begin_place own.buffer (length (own_bytes app.view own)); origin = of_copy (own_bytes app.view own) })

-- ---- scrubbing

-- the side of an application whose scrub took so much of each buffer in all
abbrev pub scrubbed_side : AppSide → List ℕ → AppSide
scrubbed_side app took = record { view = scrubbed app.view; inside = record app.inside { scrub_took = took } }

scrub_case : (l h h' r : ℕ) → h' ≡ h + (l - h) → r ≤ h → h ≤ l → l - h' + min r (l - (h' - r)) + (l - h) ≡ l - h + min r (l - (h - r))
scrub_case l h h' r e small within = omega arith

-- A scrub of all that is owed in a buffer takes as many holders.
pub app_count-scrubbed : (b : ℕ) (nic : NicSide) (app : AppSide) (took : List ℕ) → EndedWereReturned b nic app
    → slice_index took b ≡ slice_index app.inside.scrub_took b + owed_count b nic app
    → app_count b nic (scrubbed_side app took) + owed_count b nic app ≡ app_count b nic app
app_count-scrubbed b nic app took sound takes =
    let now = scrubbed_side app took in
    let ends : ended_in b nic now ≡ ended_in b nic app + owed_count b nic app = omega (arith, takes) in
    let within : ended_in b nic app ≤ came_back_in b app = rw (returned_in-count b app) at sound.ended in
    omega (arith, scrub_case (came_back_in b app) (ended_in b nic app) (ended_in b nic now) (returning_count b nic app) ends sound.returning within)

-- Loans alone are left as users.
pub user_part-scrubbed : (x b : ℕ) (nic : NicSide) (app : AppSide) (took : List ℕ) → EndedWereReturned b nic app
    → slice_index took b ≡ slice_index app.inside.scrub_took b + owed_count b nic app
    → user_part x b nic (scrubbed_side app took) ≡ (if app.view.app == x then loans_in b app else 0)
user_part-scrubbed x b nic app took sound takes =
    let now = scrubbed_side app took in
    let within : ended_in b nic app ≤ came_back_in b app = rw (returned_in-count b app) at sound.ended in
    let none : owed_count b nic now ≡ 0 = omega (arith, takes) in
    let left : loans_in b now + owed_count b nic now ≡ loans_in b app = omega (arith, none) in
    ap (λ n. if app.view.app == x then n else 0) left

-- A scrub of all that is owed in a buffer ends all loans of it that came back.
pub EndedWereReturned-scrubbed : (b : ℕ) (nic : NicSide) (app : AppSide) (took : List ℕ)
    → slice_index took b ≡ slice_index app.inside.scrub_took b + owed_count b nic app → EndedWereReturned b nic app
    → EndedWereReturned b nic (scrubbed_side app took)
EndedWereReturned-scrubbed b nic app took takes sound =
    let many = returned_in-count b app in
    let ended = sound.ended in
    record { ended = omega (arith, takes); returning = omega (arith, takes, sound.returning) }
