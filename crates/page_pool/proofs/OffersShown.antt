-- All notes show the frames that were accepted.
use Rattle.std.proofs.Common.{◌≡◌, ℕ, List, refl, ap, ◌∙◌}
use Rattle.board_face.specs.declared.views.nic.NicView.{NicView}
use Rattle.page_pool.specs.{declared.offer.{Offer.{Offer}, Verdict.{Verdict, TheVariants.{Accepted, NoRoom, Busy}}}, Frames.{Offered, offered, ShowFrames}}
use Rattle.page_pool.specs.{Pool.{PoolState, all_notes}, Offer.{Offers}, Laws.{HasAccepted, none, offers, keeps, OfferIsShown, AcceptedAreShown}}
use Rattle.page_pool.proofs.FramesShown.{ShowFrames-push}

pub offer_shown : OfferIsShown
offer_shown os was now old new o Accepted accepts shown = rw (accepts.split, accepts.notes) (ShowFrames-push was.split os (offered o)
    (all_notes was old) _ shown accepts.shows)
offer_shown os was now old new o (NoRoom cached need) refuses shown =
    let split : now.split ≡ was.split = ap (λ (p : PoolState). p.split) refuses.pool in
    rw (split, refuses.notes) shown
offer_shown os was now old new o Busy puts_off shown =
    let split : now.split ≡ was.split = ap (λ (p : PoolState). p.split) puts_off.sends.pool in
    rw (split, puts_off.sends.notes) shown

-- with the pool's own bound
abbrev pub AreShown : ℕ → List Offered → PoolState → NicView → Type 0
AreShown split os pool v = (pool.split ≡ split) × ShowFrames pool.split os (all_notes pool v)

split_stays : (was now : PoolState) (old new : NicView) (o : Offer) (verdict : Verdict) → Offers was now old new o verdict → now.split ≡ was.split
split_stays was now old new o Accepted accepts = accepts.split
split_stays was now old new o (NoRoom cached need) refuses = ap (λ (p : PoolState). p.split) refuses.pool
split_stays was now old new o Busy puts_off = ap (λ (p : PoolState). p.split) puts_off.sends.pool

all_shown : (split : ℕ) (os : List Offered) (pool : PoolState) (v : NicView) → HasAccepted split os pool v → AreShown split os pool v
all_shown split _ _ _ (none v sent) = (refl, rw sent refl)
all_shown split _ _ _ (offers os was now old new o verdict before offer) =
    let shown = all_shown split os was old before in
    (split_stays was now old new o verdict offer ∙ shown.0, offer_shown os was now old new o verdict offer shown.1)
all_shown split _ _ _ (keeps os was now old new before notes same) =
    let shown = all_shown split os was old before in
    (same ∙ shown.0, rw (same, notes) shown.1)

pub accepted_shown : AcceptedAreShown
accepted_shown split os pool v has = let shown = all_shown split os pool v has in rw shown.0 at shown.1
