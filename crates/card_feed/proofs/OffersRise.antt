-- The frames that are offered rise, and what one more frame adds to them.
use Rattle.std.proofs.Common.{◌≡◌, ℕ, suc, ◌<◌, ◌≤◌, List, [], ◌∷◌, ◌++◌, filter, Bool, true, false, if◌then◌else◌, Option}
use Rattle.std.proofs.{Common.{Some, None, option_to_list, ⊎_elim, refl, sym, ap, subst, ◌∙◌, arith, All}, lemmas.Bool.{cases_Bool}}
use Rattle.std.proofs.lemmas.List.Elements.{All-nil, All-cons, filter-append}
use Rattle.frame_headers.specs.FrameClass.{TcpSegment}
use Rattle.flow_table.specs.{Steered.{SteeredTcp, app_of, steer, steer_to, steered_from, steered_of, segments_of}, Flows.{Flow, flows_of, flows_with, flows_after}}
use Rattle.page_pool.specs.Frames.{Offered}
use Rattle.card_feed.{specs.Ending.{steered_in, steered_next}, proofs.Framing.{steered-more}}
use Rattle.card_feed.specs.Offered.{offered_one, offered_after, has_payload, offer_one, offer_next, offers_of}

-- ---- the numbers rise

abbrev pub RiseFrom : ℕ → List Offered → Type 0
RiseFrom n [] = Unit {0}
RiseFrom n (o ∷ os) = (n ≤ o.frame) × RiseFrom (suc o.frame) os

rise-lower : (m n : ℕ) (os : List Offered) → m ≤ n → RiseFrom n os → RiseFrom m os
rise-lower m n [] less rise = tt
rise-lower m n (o ∷ os) less rise = (omega (arith, less, rise.0), rise.1)

pub rise-filter : (p : Offered → Bool) (n : ℕ) (os : List Offered) → RiseFrom n os → RiseFrom n (filter p os)
rise-filter p n [] rise = tt
rise-filter p n (o ∷ os) rise = ⊎_elim
    (λ (is : p o ≡ true). rw is (rise.0, rise-filter p (suc o.frame) os rise.1))
    (λ (not_so : p o ≡ false). rw not_so (rise-lower n (suc o.frame) (filter p os) (omega (arith, rise.0)) (rise-filter p (suc o.frame) os rise.1)))
    (cases_Bool (p o))

number-steered : (n : ℕ) (segment : TcpSegment) (app : Option ℕ) (s : SteeredTcp) → steer_to n segment app ≡ Some s → s.record_number ≡ n
number-steered n segment None s is = absurd (cc)
number-steered n segment (Some app) s is = sym (ap (λ (t : SteeredTcp). t.record_number) (same is))
  where
    same : {a b : SteeredTcp} → Some a ≡ Some b → a ≡ b
    same e = cc

steered-number : (ports : List ℕ) (n : ℕ) (segment : Option TcpSegment) (s : SteeredTcp) → steer ports n segment ≡ Some s → s.record_number ≡ n
steered-number ports n None s is = absurd (cc)
steered-number ports n (Some segment) s is = number-steered n segment (app_of ports segment.dport) s is

rise-from : (ports : List ℕ) (flows : List Flow) (n : ℕ) (segments : List (Option TcpSegment)) → RiseFrom n
    (offered_after flows (steered_from ports n segments))
rise-from ports flows n [] = tt
rise-from ports flows n (segment ∷ segments) = by_next (λ later. rise-from ports later (suc n) segments) (steer ports n segment) refl
  where
    by_next : ((later : List Flow) → RiseFrom (suc n) (offered_after later (steered_from ports (suc n) segments)))
        → (next : Option SteeredTcp) → steer ports n segment ≡ next
        → RiseFrom n (offered_after flows (option_to_list (steer ports n segment) ++ steered_from ports (suc n) segments))
    by_next others None is = rw is (rise-lower n (suc n) _ (omega arith) (others flows))
    by_next others (Some s) is =
        let number : s.record_number ≡ n = steered-number ports n segment s is in
        rw is (
          omega (arith, number),
          subst (λ m. RiseFrom (suc m) (offered_after (flows_with flows s) (steered_from ports (suc n) segments))) (sym number) (others (flows_with flows s)),
        )

pub offers-rise : (ports : List ℕ) (frames : List (List ℕ)) → RiseFrom 1 (offers_of (steered_in ports frames))
unfolding steered_of
offers-rise ports frames = rise-filter has_payload 1 _ (rise-from ports [] 1 (segments_of frames))

rise-last : (n : ℕ) (os : List Offered) (o : Offered) → RiseFrom n (os ++ o ∷ []) → n ≤ o.frame
rise-last n [] o rise = rise.0
rise-last n (p ∷ os) o rise = (let last = rise-last (suc p.frame) os o rise.1 in omega (arith, rise.0, last))

-- the last is above the others
pub below-last : (n : ℕ) (os : List Offered) (o : Offered) → RiseFrom n (os ++ o ∷ []) → All (λ (p : Offered). p.frame < o.frame) os
below-last n [] o rise = All-nil _
below-last n (p ∷ os) o rise = All-cons (λ (q : Offered). q.frame < o.frame) p os (rise-last (suc p.frame) os o rise.1)
    (below-last (suc p.frame) os o rise.1)

-- ---- one frame more

offered_after-more : (flows : List Flow) (xs ys : List SteeredTcp) → offered_after flows (xs ++ ys) ≡ offered_after flows xs ++ offered_after
    (flows_after flows xs) ys
offered_after-more flows [] ys = refl
offered_after-more flows (x ∷ xs) ys = ap (λ more. offered_one flows x ∷ more) (offered_after-more (flows_with flows x) xs ys)

offers-one : (flows : List Flow) (next : Option SteeredTcp) → filter has_payload (offered_after flows (option_to_list next)) ≡ option_to_list
    (offer_one flows next)
offers-one flows None = refl
offers-one flows (Some s) = by_test (has_payload (offered_one flows s))
  where
    by_test : (b : Bool) → (if b then offered_one flows s ∷ [] else []) ≡ option_to_list (if b then Some (offered_one flows s) else None)
    by_test true = refl
    by_test false = refl

pub offers-more : (ports : List ℕ) (frames : List (List ℕ)) (frame : List ℕ)
    → offers_of (steered_in ports (frames ++ frame ∷ [])) ≡ offers_of (steered_in ports frames) ++ option_to_list (offer_next ports frames frame)
offers-more ports frames frame =
    let next : Option SteeredTcp = steered_next ports frames frame in
    ap offers_of (steered-more ports frames frame)
    ∙ ap (filter has_payload) (offered_after-more [] (steered_in ports frames) (option_to_list next))
    ∙ filter-append has_payload (offered_after [] (steered_in ports frames)) (offered_after (flows_of (steered_in ports frames)) (option_to_list next))
    ∙ ap (λ more. offers_of (steered_in ports frames) ++ more) (offers-one (flows_of (steered_in ports frames)) next)
