-- What is being filled is what its token shows: what each event leaves of that.
use Rattle.std.{proofs.Common.{◌≡◌, ℕ, ◌+◌, ◌<◌, ◌≤◌, Bool, List, [], length, map, set, refl, subst, arith}, specs.Prelude.{All, Option}}
use Rattle.std.proofs.lemmas.List.Elements.{All-get_or, All-set, All-push, All-map, All-contains}
use Rattle.area_layout.{specs.Layout.{IsLayout, pool_buffers, size_of}, proofs.Words.{words_apart}}
use Rattle.board_face.specs.{Lists.{without}, Tokens.{FitsBuffer, filled_by, same_filling}, NicEvents.{begun, fresh, took, placed, shut}}
use Rattle.board_face.specs.{AppEvents.{got_spare, owns_without, filled, lent_own}, NicCalls.{HasOwn}, AppCalls.{HasSpare}, Sides.{nic_at, app_at, IsApp}}
use Rattle.board_face.specs.{Fillings.{FillingsFit}, declared.views.{parts.{Filling.{Filling}, Making.{Making}}, nic.{NicView.{NicView}, NicSide.{NicSide}}}}
use Rattle.board_face.{specs.declared.views.app.{SpareOwn.{SpareOwn}, AppSide.{AppSide}}, proofs.ListLemmas.{All-without}}
use Rattle.board_face.proofs.{TokenLemmas.{FitsBuffer-filled_by, FitsBuffer-fresh}, NicLemmas.{making_at}}

-- the filling is what a token of it shows
abbrev pub IsFit : NicSide → Filling → Type 0
IsFit nic o = FitsBuffer o × (o.size ≡ size_of nic.view.setting.layout o.buffer)

-- ---- the card's events

-- an event that leaves the card's buffers for filling
pub FillingsFit-nic : (nic : NicSide) (v : NicView) (apps : List AppSide) → v.setting ≡ nic.view.setting → v.owns ≡ nic.view.owns
    → FillingsFit nic apps → FillingsFit (nic_at nic v) apps
FillingsFit-nic nic v apps setting owns fit = record {
  of_pool = rw (setting, owns) fit.of_pool;
  card = rw (setting, owns) fit.card;
  sides = rw setting fit.sides;
}

pub FillingsFit-took : (nic : NicSide) (apps : List AppSide) (buffer : ℕ) → IsLayout nic.view.setting.layout
    → buffer < pool_buffers nic.view.setting.layout → FillingsFit nic apps → FillingsFit (nic_at nic (took nic.view buffer)) apps
FillingsFit-took nic apps buffer layout small fit = assumption (All-push (λ (o : Filling). o.buffer < pool_buffers nic.view.setting.layout) nic.view.owns (fresh nic.view.setting buffer) fit.of_pool small, All-push (IsFit nic) nic.view.owns (fresh nic.view.setting buffer) fit.card (FitsBuffer-fresh nic.view.setting buffer layout, refl))

pub FillingsFit-shut : (nic : NicSide) (apps : List AppSide) (own : Filling) (last : Bool) → FillingsFit nic apps
    → FillingsFit (nic_at nic (shut nic.view own last)) apps
FillingsFit-shut nic apps own last fit = assumption (All-without (λ (o : Filling). o.buffer < pool_buffers nic.view.setting.layout) (same_filling own) nic.view.owns fit.of_pool, All-without (IsFit nic) (same_filling own) nic.view.owns fit.card)

-- a buffer that is out is what its token shows
pub FillingsFit-own : (nic : NicSide) (apps : List AppSide) (own : Filling) → HasOwn nic.view own → FillingsFit nic apps → IsFit nic own
FillingsFit-own nic apps own out fit = All-contains (IsFit nic) nic.view.owns own fit.card out

pub FillingsFit-begun : (nic : NicSide) (apps : List AppSide) (own : Filling) (n : ℕ) (making : Option Making) → HasOwn nic.view own
    → own.start + n ≤ own.size → FillingsFit nic apps → FillingsFit (making_at nic (begun nic.view own n) making) apps
FillingsFit-begun nic apps own n making out within fit =
    let is = FillingsFit-own nic apps own out fit in
    let small = All-contains (λ (o : Filling). o.buffer < pool_buffers nic.view.setting.layout) nic.view.owns own fit.of_pool out in
    assumption (All-push (λ (o : Filling). o.buffer < pool_buffers nic.view.setting.layout) (without (same_filling own) nic.view.owns) (filled_by own n) (All-without (λ (o : Filling). o.buffer < pool_buffers nic.view.setting.layout) (same_filling own) nic.view.owns fit.of_pool) small, All-push (IsFit nic) (without (same_filling own) nic.view.owns) (filled_by own n) (All-without (IsFit nic) (same_filling own) nic.view.owns fit.card) (FitsBuffer-filled_by own n is.0 within, is.1))

pub FillingsFit-placed : (nic : NicSide) (apps : List AppSide) (own : Filling) (bytes : List ℕ) → HasOwn nic.view own
    → own.start + length bytes ≤ own.size → FillingsFit nic apps → FillingsFit (nic_at nic (placed nic.view own bytes)) apps
FillingsFit-placed nic apps own bytes out within fit = let is = FillingsFit-begun nic apps own
    (length bytes) nic.inside.making out within fit in assumption

-- the text of a piece that was begun is complete, or any other event that leaves the buffers for filling
pub FillingsFit-making : (nic : NicSide) (v : NicView) (making : Option Making) (apps : List AppSide) → v.setting ≡ nic.view.setting
    → v.owns ≡ nic.view.owns → FillingsFit nic apps → FillingsFit (making_at nic v making) apps
FillingsFit-making nic v making apps setting owns fit = record {
  of_pool = rw (setting, owns) fit.of_pool;
  card = rw (setting, owns) fit.card;
  sides = rw setting fit.sides;
}

-- ---- an application's events

-- each spare of this application is what its token shows
abbrev pub AreFit : NicSide → List SpareOwn → Type 0
AreFit nic owns = All (λ s. IsFit nic s.own) owns

pub FillingsFit-spares : (nic : NicSide) (apps : List AppSide) (a : ℕ) (app : AppSide) → IsApp apps a app → FillingsFit nic apps
    → AreFit nic app.view.owns
FillingsFit-spares nic apps a app here fit = subst (λ (x : AppSide). AreFit nic x.view.owns) here.is
    (All-get_or (λ (x : AppSide). AreFit nic x.view.owns) apps a app here.there fit.sides)

-- a spare that is out is what its token shows
pub FillingsFit-spare : (nic : NicSide) (apps : List AppSide) (a : ℕ) (app : AppSide) (own : Filling) → IsApp apps a app → HasSpare app.view own
    → FillingsFit nic apps → IsFit nic own
FillingsFit-spare nic apps a app own here out fit = All-contains (IsFit nic) (map (λ (s : SpareOwn). s.own) app.view.owns) own
    (All-map (IsFit nic) (λ (s : SpareOwn). s.own) app.view.owns (FillingsFit-spares nic apps a app here fit)) out

-- an event after which this application's spares are fit
pub FillingsFit-app : (nic : NicSide) (apps : List AppSide) (a : ℕ) (now : AppSide) → AreFit nic now.view.owns → FillingsFit nic apps
    → FillingsFit nic (set apps a now)
FillingsFit-app nic apps a now fits fit = assumption (All-set (λ (x : AppSide). AreFit nic x.view.owns) apps a now fits fit.sides)

-- an event that leaves the spares
pub FillingsFit-same : (nic : NicSide) (apps : List AppSide) (a : ℕ) (app now : AppSide) → IsApp apps a app → now.view.owns ≡ app.view.owns
    → FillingsFit nic apps → FillingsFit nic (set apps a now)
FillingsFit-same nic apps a app now here owns fit = FillingsFit-app nic apps a now (rw owns (FillingsFit-spares nic apps a app here fit)) fit

pub FillingsFit-got_spare : (nic : NicSide) (apps : List AppSide) (a : ℕ) (app : AppSide) (buffer : ℕ) → IsApp apps a app
    → app.view.setting ≡ nic.view.setting → IsLayout nic.view.setting.layout → FillingsFit nic apps
    → FillingsFit nic (set apps a (app_at app (got_spare app.view buffer)))
FillingsFit-got_spare nic apps a app buffer here setting layout fit =
    let one : SpareOwn = record { own = fresh app.view.setting buffer; bytes = [] } in
    let is : IsFit nic one.own = rw setting (FitsBuffer-fresh nic.view.setting buffer layout, refl) in
    FillingsFit-app nic apps a (app_at app (got_spare app.view buffer))
    (All-push (λ (s : SpareOwn). IsFit nic s.own) app.view.owns one (FillingsFit-spares nic apps a app here fit) is) fit

-- at most 256 bytes are filled in from the begin, and no buffer has fewer
pub few-within : (nic : NicSide) (own : Filling) (n : ℕ) → IsLayout nic.view.setting.layout → IsFit nic own → own.start ≡ 0 → n ≤ 256
    → own.start + n ≤ own.size
few-within nic own n layout is begin few =
    let size = is.1 in
    let least = ((words_apart nic.view.setting.layout layout).size own.buffer).least in
    omega arith

pub FillingsFit-filled : (nic : NicSide) (apps : List AppSide) (a : ℕ) (app : AppSide) (own : Filling) (bytes : List ℕ) → IsApp apps a app
    → HasSpare app.view own → own.start ≡ 0 → length bytes ≤ 256 → IsLayout nic.view.setting.layout → FillingsFit nic apps
    → FillingsFit nic (set apps a (app_at app (filled app.view own bytes)))
FillingsFit-filled nic apps a app own bytes here out begin few layout fit =
    let is = FillingsFit-spare nic apps a app own here out fit in
    let now : SpareOwn = record { own = filled_by own (length bytes); bytes = bytes } in
    let fits : IsFit nic now.own = (FitsBuffer-filled_by own (length bytes) is.0 (few-within nic own (length bytes) layout is begin few), is.1) in
    FillingsFit-app nic apps a (app_at app (filled app.view own bytes))
    (All-push (λ (s : SpareOwn). IsFit nic s.own) (owns_without app.view own) now
    (All-without (λ (s : SpareOwn). IsFit nic s.own) (λ (s : SpareOwn). same_filling own s.own) app.view.owns
    (FillingsFit-spares nic apps a app here fit)) fits)
    fit

pub FillingsFit-lent_own : (nic : NicSide) (apps : List AppSide) (a : ℕ) (app : AppSide) (own : Filling) → IsApp apps a app → FillingsFit nic apps
    → FillingsFit nic (set apps a (app_at app (lent_own app.view own)))
FillingsFit-lent_own nic apps a app own here fit =
    FillingsFit-app nic apps a (app_at app (lent_own app.view own))
    (All-without (λ (s : SpareOwn). IsFit nic s.own) (λ (s : SpareOwn). same_filling own s.own) app.view.owns
    (FillingsFit-spares nic apps a app here fit)) fit
