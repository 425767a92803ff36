-- Laws of packing, and of all frames that were offered.
use Rattle.std.specs.Prelude.{◌≡◌, ℕ, ◌+◌, ◌%◌, ◌<◌, ◌≤◌, List, [], ◌∷◌, ◌++◌, length, sum_by, All, slice_get, Option, Some, None}
use Rattle.zr_kinds.specs.Limits.{longest_payload}
use Rattle.board_face.specs.declared.views.nic.NicView.{NicView}
use Rattle.page_pool.specs.{declared.offer.{Offer.{Offer}, Verdict.{Verdict, TheVariants.{Accepted, NoRoom, Busy}}}, Frames.{Offered, offered, ShowFrames}}
use Rattle.page_pool.specs.{Packing.{Current, Target, current, fresh, PayloadPart, needed, packing, taken}, Pool.{PoolState, new_pool, all_notes}, Offer.{Offers}}

-- ---- packing

-- there are as many fresh buffers as are needed, and none has fewer than `least` bytes
pub record AreEnough (least : ℕ) (own : Option Current) (sizes : List ℕ) (len : ℕ) : Type 0 where
  pub each : All (λ size. least ≤ size) sizes
  pub many : needed least own len ≤ length sizes

-- the size of a part's buffer
abbrev pub size_in : Option Current → List ℕ → Target → Option ℕ
size_in None sizes current = None
size_in (Some own) sizes current = Some own.size
size_in own sizes (fresh i) = slice_get sizes i

-- the part lies in its buffer, and begins there at a multiple of 64
pub record LiesWell (own : Option Current) (sizes : List ℕ) (part : PayloadPart) : Type 0 where
  pub size : ℕ
  pub size_is : size_in own sizes part.target ≡ Some size
  pub within : part.offset + part.len ≤ size
  pub aligned : part.offset % 64 ≡ 0

-- The parts of a packing have all bytes of the payload, and each lies well.
abbrev pub PackingIsWhole : Type 0
PackingIsWhole = (least : ℕ) (own : Option Current) (sizes : List ℕ) (len : ℕ) → 0 < least → AreEnough least own sizes len
    → (sum_by (λ p. p.len) (packing own sizes len) ≡ len) × All (LiesWell own sizes) (packing own sizes len)

-- No more fresh buffers are taken than are needed, and buffers of 1,024 bytes or more hold any payload in 64 parts.
abbrev pub PackingIsShort : Type 0
PackingIsShort = (least : ℕ) (own : Option Current) (sizes : List ℕ) (len : ℕ) → 1024 ≤ least → len ≤ longest_payload → AreEnough least own sizes len
    → (taken own sizes len ≤ needed least own len) × (length (packing own sizes len) ≤ 64)

-- ---- frames offered

-- the frames that were accepted, once one more was offered
abbrev pub accepted_after : List Offered → Offer → Verdict → List Offered
accepted_after os o Accepted = os ++ offered o ∷ []
accepted_after os o (NoRoom cached need) = os
accepted_after os o Busy = os

-- What calls with one pool left, from its begin on, and the frames that they accepted, in order. Calls other than an offer
-- neither add a note nor lose one.
pub data HasAccepted (split : ℕ) : List Offered → PoolState → NicView → Type 0 where
  none : (v : NicView) → v.sent ≡ [] → HasAccepted split [] (new_pool split) v
  offers : (os : List Offered) (was now : PoolState) (old new : NicView) (o : Offer) (verdict : Verdict) → HasAccepted split os was old
      → Offers was now old new o verdict
      → HasAccepted split (accepted_after os o verdict) now new
  keeps : (os : List Offered) (was now : PoolState) (old new : NicView) → HasAccepted split os was old → all_notes now new ≡ all_notes was old
      → now.split ≡ was.split
      → HasAccepted split os now new

-- All notes, those sent and those pending, show the frames that were accepted, one after another.
abbrev pub AcceptedAreShown : Type 0
AcceptedAreShown = (split : ℕ) (os : List Offered) (pool : PoolState) (v : NicView) → HasAccepted split os pool v
    → ShowFrames split os (all_notes pool v)

-- An offer keeps that.
abbrev pub OfferIsShown : Type 0
OfferIsShown = (os : List Offered) (was now : PoolState) (old new : NicView) (o : Offer) (verdict : Verdict) → Offers was now old new o verdict
    → ShowFrames was.split os (all_notes was old)
    → ShowFrames now.split (accepted_after os o verdict) (all_notes now new)
