-- What each event of the card does to the counts of every buffer.
use Rattle.board_face.specs.Lists.{one_if as one}
use Rattle.std.proofs.Common.{◌∷◌, [], drop, take, length-drop, ◌≡◌, ℕ, ◌+◌, ◌-◌, ◌<◌, ◌≤◌, min, Bool, true, false, List}
use Rattle.zr_kinds.{specs.declared.{place.{Place.{Place}, Note.{Note}}, ring.Rqe.{Rqe}}, proofs.Booleans.{if-none}}
use Rattle.board_face.specs.{Holders.{returned_in, owed_in}, Counts.{is_user_kind}, Holdings.{used}}
use Rattle.board_face.{proofs.{CardExchange.{honoured-exchange, here-same}, Weighing.{kinds-counted}, Sums.{zeros}, Counted.{user-here}}, specs.Steps.{side_begun}}
use Rattle.board_face.{specs.{FineSteps.{begins, completes}, BoardSteps.{card, takes, sweeps, places, shuts, strays}}, proofs.Counted.{fine-counts}}
use Rattle.board_face.proofs.{CardExchange.{sides, sent-exchange, linear-exchange}, Weighing.{pool-weigh}, Counted.{counts}}
use Rattle.std.{proofs.{Common.{length, refl, ap, arith, subst}, lemmas.List.{map-id}}, specs.Prelude.{Option, Some, None, ◌≢◌, ◌==◌, ◌&&◌}}
use Rattle.board_face.specs.{Lists.{without}, Tokens.{next_place, same_filling}}
use Rattle.board_face.specs.NicEvents.{begun, text_done, took, swept, placed, sent, sent_linear, gave_up, shut, passed_over, honoured}
use Rattle.board_face.specs.{NicCalls.{HasOwn, HasPiece}, Sides.{nic_at, IsApp, AreNumbered}, Holders.{sent_to, ended_in, returning_count}}
use Rattle.board_face.specs.{Counts.{pool_count, user_count, EndedWereReturned}, declared.views.{parts.{Filling.{Filling}, Making.{Making}}}}
use Rattle.board_face.specs.declared.views.{nic.{NicView.{NicView}, NicSide.{NicSide}}, app.{AppInside.{AppInside}, AppSide.{AppSide}}}
use Rattle.board_face.proofs.{ListLemmas.{same_filling-refl, same_filling-is}, Tallies.{one_if, tally, total, tally-without}}
use Rattle.board_face.proofs.Parts.{returned_in-count, sent_in, returning_in_count, nic_count, app_count, user_part}
pub use Rattle.board_face.proofs.WayLemmas.{drop-push, sent_to-other, sent_to-same, ended_in-push, ended_in-honoured, honoured-other, honoured-target, ended_in-passed_over}
use Rattle.board_face.proofs.{Parts.{came_back_in, owed_count, pool_count-parts, user_count-parts, total-shift}}

-- ---- events that send nothing and deal with nothing

pub pool_count-nic : (b : ℕ) (nic : NicSide) (v : NicView) (apps : List AppSide) → v.sent ≡ nic.view.sent → v.dealt ≡ nic.view.dealt
    → pool_count b (nic_at nic v) apps + nic_count b nic ≡ pool_count b nic apps + nic_count b (nic_at nic v)
pool_count-nic b nic v apps sents deals =
    let same : total (app_count b (nic_at nic v)) apps ≡ total (app_count b nic) apps = rw (sents, deals) refl in
    omega (arith, pool_count-parts b (nic_at nic v) apps, pool_count-parts b nic apps)

pub user_count-nic : (a b : ℕ) (nic : NicSide) (v : NicView) (apps : List AppSide) → v.dealt ≡ nic.view.dealt
    → user_count a b (nic_at nic v) apps ≡ user_count a b nic apps
user_count-nic a b nic v apps deals =
    let same : total (user_part a b (nic_at nic v)) apps ≡ total (user_part a b nic) apps = rw deals refl in
    omega (arith, user_count-parts a b (nic_at nic v) apps, user_count-parts a b nic apps)

-- a taken buffer has one holder more
pub pool_count-took : (b : ℕ) (nic : NicSide) (apps : List AppSide) (buffer : ℕ)
    → pool_count b (nic_at nic (took nic.view buffer)) apps ≡ pool_count b nic apps + one_if (buffer == b)
pool_count-took b nic apps buffer = let now = counts (card (takes buffer)) (sides nic apps) tt in omega (arith, now.pool b)

pub owns-without : (b : ℕ) (nic : NicSide) (own : Filling) → HasOwn nic.view own
    → tally (λ (o : Filling). o.buffer == b) (without (same_filling own) nic.view.owns) + one_if (own.buffer == b)
    ≡ tally (λ (o : Filling). o.buffer == b) nic.view.owns
owns-without b nic own out =
    tally-without (λ o. o) (same_filling own) own (same_filling-is own) (same_filling-refl own) (λ o. o.buffer == b) nic.view.owns
    (rw (map-id nic.view.owns) out)

-- and so has a buffer in which a piece was placed
pub pool_count-placed : (b : ℕ) (nic : NicSide) (apps : List AppSide) (own : Filling) (bytes : List ℕ) → HasOwn nic.view own
    → pool_count b (nic_at nic (placed nic.view own bytes)) apps ≡ pool_count b nic apps + one_if (own.buffer == b)
pool_count-placed b nic apps own bytes out = let now = counts (card (places own bytes)) (sides nic apps) out in omega (arith, now.pool b)

-- a sweep, and a buffer that comes to be free, change no count
pub pool_count-swept : (b : ℕ) (nic : NicSide) (apps : List AppSide) (word : ℕ) (found : List ℕ)
    → pool_count b (nic_at nic (swept nic.view word found)) apps ≡ pool_count b nic apps
pool_count-swept b nic apps word found = let now = counts (card (sweeps word found)) (sides nic apps) tt in omega (arith, now.pool b)

pub pool_count-gave_up : (b : ℕ) (nic : NicSide) (apps : List AppSide) (buffer : ℕ) (last : Bool)
    → pool_count b (nic_at nic (gave_up nic.view buffer last)) apps ≡ pool_count b nic apps
pool_count-gave_up b nic apps buffer last = omega (arith, pool_count-nic b nic (gave_up nic.view buffer last) apps refl refl)

-- a closed buffer has one holder less
pub pool_count-shut : (b : ℕ) (nic : NicSide) (apps : List AppSide) (own : Filling) (last : Bool) → HasOwn nic.view own
    → pool_count b (nic_at nic (shut nic.view own last)) apps + one_if (own.buffer == b) ≡ pool_count b nic apps
pool_count-shut b nic apps own last out = let now = counts (card (shuts own last)) (sides nic apps) out in omega (arith, now.pool b)

-- ---- sending

-- a piece that is sent only changes its kind
pub pool_count-sent : (b : ℕ) (nic : NicSide) (apps : List AppSide) (a : ℕ) (note : Note) (app : AppSide) → HasPiece nic.view note.place
    → note.split ≡ true → AreNumbered 0 apps → IsApp apps a app → length app.view.taken ≤ length (sent_to a nic)
    → pool_count b (nic_at nic (sent nic.view a note)) apps ≡ pool_count b nic apps
pool_count-sent b nic apps a note app out split numbered here within =
    omega (
      arith,
      pool-weigh b (sides nic apps),
      pool-weigh b (sides (nic_at nic (sent nic.view a note)) apps),
      sent-exchange nic apps a note app out split numbered here within (λ h. 1) b,
    )

-- a note in which its bytes travel holds nothing
pub pool_count-sent_linear : (b : ℕ) (nic : NicSide) (apps : List AppSide) (a : ℕ) (note : Note) (bytes : List ℕ) (app : AppSide) → note.split ≡ false
    → AreNumbered 0 apps → IsApp apps a app → length app.view.taken ≤ length (sent_to a nic)
    → pool_count b (nic_at nic (sent_linear nic.view a note bytes)) apps ≡ pool_count b nic apps
pool_count-sent_linear b nic apps a note bytes app split numbered here within =
    omega (
      arith,
      pool-weigh b (sides nic apps),
      pool-weigh b (sides (nic_at nic (sent_linear nic.view a note bytes)) apps),
      linear-exchange nic apps a note bytes app split numbered here within (λ h. 1) b,
    )

-- ---- entries

-- the application owes something in the buffer
pub record Owes (b : ℕ) (nic : NicSide) (app : AppSide) : Type 0 where
  pub owes : ended_in b nic app < came_back_in b app
  pub returning : returning_count b nic app ≤ ended_in b nic app

first-of : (v : ℕ) (ps : List Place) → 0 < length ps → total (λ (p : Place). v) (take 1 ps) ≡ v
first-of v [] some = absurd (omega arith)
first-of v (p ∷ ps) some = omega arith

-- an entry that is honoured takes one holder of its buffer
pub pool_count-honoured : (b : ℕ) (nic : NicSide) (apps : List AppSide) (a buffer : ℕ) (entry : Rqe) (app : AppSide) → AreNumbered 0 apps
    → IsApp apps a app → Owes buffer nic app
    → pool_count b (nic_at nic (honoured nic.view a entry buffer)) apps + one_if (buffer == b) ≡ pool_count b nic apps
pool_count-honoured b nic apps a buffer entry app numbered here owes =
    let L = drop (ended_in b nic app - returning_count b nic app) (returned_in b app) in
    omega (
      arith,
      pool-weigh b (sides nic apps),
      pool-weigh b (sides (nic_at nic (honoured nic.view a entry buffer)) apps),
      honoured-exchange nic apps a buffer entry app numbered here owes.returning (λ h. 1) b,
      here-same b buffer _ 1 (λ e. let there : Owes b nic app = subst (λ c. Owes c nic app) e owes in
          let o = there.owes in first-of 1 L (omega (arith, length-drop (ended_in b nic app - returning_count b nic app) (returned_in b app), returned_in-count b app))),
    )

-- and one user of this application there
pub user_count-honoured : (x b : ℕ) (nic : NicSide) (apps : List AppSide) (a buffer : ℕ) (entry : Rqe) (app : AppSide) → AreNumbered 0 apps
    → IsApp apps a app → Owes buffer nic app
    → user_count x b (nic_at nic (honoured nic.view a entry buffer)) apps + one_if ((a == x) && (buffer == b)) ≡ user_count x b nic apps
user_count-honoured x b nic apps a buffer entry app numbered here owes =
    let one_user = one (app.view.app == x) in
    omega (
      arith,
      kinds-counted (is_user_kind x) b (sides nic apps),
      kinds-counted (is_user_kind x) b (sides (nic_at nic (honoured nic.view a entry buffer)) apps),
      honoured-exchange nic apps a buffer entry app numbered here owes.returning (used x) b,
      here-same b buffer _ one_user (λ e. let there : Owes b nic app = subst (λ c. Owes c nic app) e owes in
          let o = there.owes in first-of one_user (owed_in b nic app) (omega (arith, length-drop (ended_in b nic app) (returned_in b app), returned_in-count b app))),
      here-same b buffer _ 0 (λ _. zeros (take 1 (owed_in b nic app))),
      here-same b buffer _ 0 (λ _. zeros (take 1 (drop (ended_in b nic app - returning_count b nic app) (returned_in b app)))),
      if-none (buffer == b) 0 refl,
      user-here app.view.app x buffer b,
      ap (λ n. one_if ((n == x) && (buffer == b))) here.number,
    )

-- ---- strays

-- a stray changes no count
pub pool_count-passed_over : (b : ℕ) (nic : NicSide) (apps : List AppSide) (a : ℕ) (entry : Rqe)
    → pool_count b (nic_at nic (passed_over nic.view a entry)) apps ≡ pool_count b nic apps
pool_count-passed_over b nic apps a entry = let now = counts (card (strays a entry)) (sides nic apps) tt in omega (arith, now.pool b)

pub user_count-passed_over : (x b : ℕ) (nic : NicSide) (apps : List AppSide) (a : ℕ) (entry : Rqe)
    → user_count x b (nic_at nic (passed_over nic.view a entry)) apps ≡ user_count x b nic apps
user_count-passed_over x b nic apps a entry = let now = counts (card (strays a entry)) (sides nic apps) tt in omega (arith, now.users x b)

-- ---- a placing in its two parts

-- the card's side with a piece in the making, or none
abbrev pub making_at : NicSide → NicView → Option Making → NicSide
making_at nic view making = record { view = view; inside = record nic.inside { making = making } }

-- a piece in the making has its buffer
pub pool_count-begun : (b : ℕ) (nic : NicSide) (apps : List AppSide) (own : Filling) (n : ℕ) (bytes : List ℕ) → HasOwn nic.view own
    → nic.inside.making ≡ None
    → pool_count b (making_at nic (begun nic.view own n) (Some (record { place = next_place own n; bytes = bytes }))) apps
    ≡ pool_count b nic apps + one_if (own.buffer == b)
pool_count-begun b nic apps own n bytes out idle =
    let now = making_at nic (begun nic.view own n) (Some (record { place = next_place own n; bytes = bytes })) in
    let same : pool_count b now apps ≡ pool_count b (side_begun nic own n) apps = refl in
    let counts = fine-counts (begins own n) (sides nic apps) (out, idle) in
    omega (arith, same, counts.pool b)

-- and keeps it when its text is complete
pub pool_count-text_done : (b : ℕ) (nic : NicSide) (apps : List AppSide) (own : Filling) (bytes : List ℕ) (making : Making)
    → nic.inside.making ≡ Some making → making.place ≡ next_place own (length bytes)
    → pool_count b (making_at nic (text_done nic.view own bytes) None) apps ≡ pool_count b nic apps
pool_count-text_done b nic apps own bytes making busy place =
    let counts = fine-counts (completes own bytes) (sides nic apps) (record { making = making; busy = busy; place = place }) in
    omega (arith, counts.pool b)

-- ---- what a board is in the middle of

stretch : (k h h' r r' w : ℕ) → r ≤ h → r' ≤ h' → h ≤ k → h' ≤ k → h' + r ≡ h + r' + w
    → k - h' + min r' (k - (h' - r')) + w ≡ k - h + min r (k - (h - r))
stretch k h h' r r' w small small' within within' moves = omega arith

-- where the stretch of what is owed and returning begins w later, the application has w holdings less there
pub app_count-stretch : (b w : ℕ) (nic nic' : NicSide) (app : AppSide) (inside : AppInside) → nic'.view.sent ≡ nic.view.sent
    → EndedWereReturned b nic app → EndedWereReturned b nic' (record app { inside = inside })
    → ended_in b nic' (record app { inside = inside }) + returning_count b nic app
    ≡ ended_in b nic app + returning_count b nic' (record app { inside = inside }) + w
    → app_count b nic' (record app { inside = inside }) + w ≡ app_count b nic app
app_count-stretch b w nic nic' app inside sents sound sound' moves =
    let now : AppSide = record app { inside = inside } in
    let many = returned_in-count b app in
    let ended = sound.ended in
    let ended' = sound'.ended in
    let way : sent_in b nic' now ≡ sent_in b nic app = rw sents refl in
    let less = stretch (came_back_in b app) (ended_in b nic app) (ended_in b nic' now) (returning_count b nic app)
    (returning_count b nic' now) w sound.returning sound'.returning (omega arith) (omega arith) moves in
    omega (arith, way, less)

-- so it is for all holders, where the card's side changes for one application alone
pub pool_count-stretch : (b w : ℕ) (nic nic' : NicSide) (apps : List AppSide) (a : ℕ) (app : AppSide) → nic'.view.owns ≡ nic.view.owns
    → nic'.view.sent ≡ nic.view.sent → nic'.view.pieces ≡ nic.view.pieces → nic'.inside.making ≡ nic.inside.making
    → AreNumbered 0 apps → IsApp apps a app → ((x : AppSide) → x.view.app ≢ a → ended_in b nic' x ≡ ended_in b nic x)
    → ((x : AppSide) → x.view.app ≢ a → returning_count b nic' x ≡ returning_count b nic x) → EndedWereReturned b nic app
    → EndedWereReturned b nic' app
    → ended_in b nic' app + returning_count b nic app ≡ ended_in b nic app + returning_count b nic' app + w
    → pool_count b nic' apps + w ≡ pool_count b nic apps
pool_count-stretch b w nic nic' apps a app owns sents pieces making numbered here ends returns sound sound' moves =
    let card : nic_count b nic' ≡ nic_count b nic = rw (owns, pieces, making) refl in
    let others : (x : AppSide) → x.view.app ≢ a → app_count b nic x ≡ app_count b nic' x = λ x ne.
    let way : sent_in b nic' x ≡ sent_in b nic x = rw sents refl in
    let same : owed_count b nic' x + returning_in_count b nic' x ≡ owed_count b nic x + returning_in_count b nic x = rw (ends x ne, returns x ne) refl in
    omega (arith, way, same) in
    let mine = app_count-stretch b w nic nic' app app.inside sents sound sound' moves in
    let less = total-shift 0 (app_count b nic) (app_count b nic') w a others apps numbered a app here.there (omega arith) (rw here.is (omega (arith, mine))) in
    omega (arith, pool_count-parts b nic' apps, pool_count-parts b nic apps, card, less)
