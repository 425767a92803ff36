-- A flow's frames go to its application and have its base.
use Rattle.std.proofs.Common.{◌≡◌, ℕ, zero, suc, ◌<◌, List, [], ◌∷◌, ◌++◌, length, filter, Bool, true, false, ◌==◌, Option, Some}
use Rattle.std.{proofs.{Common.{None, option_to_list, ⊎_elim, refl, sym, ap, subst, ◌∙◌, arith}, lemmas.Bool.{cases_Bool, eq-eqb, eqb-true}}, specs.List.{slice_get}}
use Rattle.frame_headers.specs.FrameClass.{TcpSegment}
use Rattle.flow_table.specs.Steered.{SteeredTcp, app_of, steer, steer_to, steered_from, steered_of, segments_of}
use Rattle.flow_table.specs.Flows.{Flow, flows_of, flows_with, flows_after, number_of_flow}
use Rattle.flow_table.proofs.FlowLaws.{HaveApps, flows_with-keeps, flows_with-grow, flows_with-app, flows_with-apps}
use Rattle.page_pool.specs.Frames.{Offered}
use Rattle.card_feed.specs.{Ending.{steered_in}, Offered.{flow_base, offered_after}}

-- ---- steered segments go to the application of their port

abbrev pub AreSteered : List ℕ → List SteeredTcp → Type 0
AreSteered ports [] = Unit {0}
AreSteered ports (s ∷ ss) = (app_of ports s.segment.dport ≡ Some s.app) × AreSteered ports ss

port-steered : (ports : List ℕ) (n : ℕ) (segment : TcpSegment) (app : Option ℕ) (s : SteeredTcp) → app_of ports segment.dport ≡ app
    → steer_to n segment app ≡ Some s
    → app_of ports s.segment.dport ≡ Some s.app
port-steered ports n segment None s place is = absurd (cc)
port-steered ports n segment (Some app) s place is = subst (λ (t : SteeredTcp). app_of ports t.segment.dport ≡ Some t.app) (same is) place
  where
    same : {a b : SteeredTcp} → Some a ≡ Some b → a ≡ b
    same e = cc

one-steered : (ports : List ℕ) (n : ℕ) (segment : Option TcpSegment) (s : SteeredTcp) → steer ports n segment ≡ Some s
    → app_of ports s.segment.dport ≡ Some s.app
one-steered ports n None s is = absurd (cc)
one-steered ports n (Some segment) s is = port-steered ports n segment (app_of ports segment.dport) s refl is

steered-from : (ports : List ℕ) (n : ℕ) (segments : List (Option TcpSegment)) → AreSteered ports (steered_from ports n segments)
steered-from ports n [] = tt
steered-from ports n (segment ∷ segments) = by_next (steered-from ports (suc n) segments) (steer ports n segment) refl
  where
    by_next : AreSteered ports (steered_from ports (suc n) segments) → (next : Option SteeredTcp) → steer ports n segment ≡ next
        → AreSteered ports (option_to_list (steer ports n segment) ++ steered_from ports (suc n) segments)
    by_next others None is = rw is others
    by_next others (Some s) is = rw is (one-steered ports n segment s is, others)

pub are-steered : (ports : List ℕ) (frames : List (List ℕ)) → AreSteered ports (steered_in ports frames)
unfolding steered_of
are-steered ports frames = steered-from ports 1 (segments_of frames)

-- ---- a flow stays what it is

pub there : {A : Type 0} (xs : List A) (i : ℕ) → i < length xs → (x : A) × (slice_get xs i ≡ Some x)
there [] i within = absurd (omega arith)
there (y ∷ xs) zero within = (y, refl)
there (y ∷ xs) (suc i) within = there xs i (omega arith)

record Stays (own last : Flow) : Type 0 where
  app_is : last.app ≡ own.app
  base_is : last.base ≡ own.base

stays : (flows : List Flow) (steered : List SteeredTcp) (i : ℕ) (own last : Flow) → slice_get flows i ≡ Some own → slice_get
    (flows_after flows steered) i ≡ Some last
    → Stays own last
stays flows [] i own last at now = record { app_is = cc; base_is = cc }
stays flows (s ∷ ss) i own last at now =
    let (later, later_is, is) = flows_with-keeps flows s i own at in
    let more = stays (flows_with flows s) ss i later last later_is now in
    record { app_is = more.app_is ∙ is.app_is; base_is = more.base_is ∙ is.base_is }

-- ---- the frames of a flow

abbrev pub AreOfFlow : ℕ → Flow → List Offered → Type 0
AreOfFlow number flow [] = Unit {0}
AreOfFlow number flow (o ∷ os) = (o.flow ≡ number → (o.app ≡ flow.app) × (o.base ≡ flow.base)) × AreOfFlow number flow os

of_flow : (ports : List ℕ) (flows : List Flow) (steered : List SteeredTcp) (number : ℕ) (flow : Flow) → HaveApps ports flows → AreSteered ports steered
    → slice_get (flows_after flows steered) number ≡ Some flow → AreOfFlow number flow (offered_after flows steered)
of_flow ports flows [] number flow have are last = tt
of_flow ports flows (s ∷ ss) number flow have are last =
    let after : List Flow = flows_with flows s in
    let mine : ℕ = number_of_flow flows s in
    let (own, own_is) = there after mine (flows_with-grow flows s).1 in (
      λ same.
          let kept = stays after ss mine own flow own_is (rw (sym same) at last) in
          let app : own.app ≡ s.app = flows_with-app ports flows s own are.0 have own_is in
          let base : flow_base (slice_get after mine) ≡ own.base = rw own_is refl in
          (sym (kept.app_is ∙ app), base ∙ sym kept.base_is),
      of_flow ports after ss number flow (flows_with-apps ports flows s are.0 have) are.1 last,
    )

pub no_apps : (ports : List ℕ) → HaveApps ports []
no_apps ports = λ i flow at. absurd (cc)

pub flow-frames : (ports : List ℕ) (frames : List (List ℕ)) (number : ℕ) (flow : Flow) → slice_get
    (flows_of (steered_in ports frames)) number ≡ Some flow
    → AreOfFlow number flow (offered_after [] (steered_in ports frames))
flow-frames ports frames number flow last = of_flow ports [] (steered_in ports frames) number flow (no_apps ports) (are-steered ports frames) last

pub AreOfFlow-filter : (number : ℕ) (flow : Flow) (p : Offered → Bool) (os : List Offered) → AreOfFlow number flow os → AreOfFlow number flow
    (filter p os)
AreOfFlow-filter number flow p [] are = tt
AreOfFlow-filter number flow p (o ∷ os) are = ⊎_elim
    (λ (is : p o ≡ true). rw is (are.0, AreOfFlow-filter number flow p os are.1))
    (λ (not_so : p o ≡ false). rw not_so (AreOfFlow-filter number flow p os are.1))
    (cases_Bool (p o))

-- the flow's frames are all among its application's
pub app-filter : (number : ℕ) (flow : Flow) (os : List Offered) → AreOfFlow number flow os
    → filter (λ o. o.flow == number) (filter (λ o. o.app == flow.app) os) ≡ filter (λ o. o.flow == number) os
app-filter number flow [] are = refl
app-filter number flow (o ∷ os) are = ⊎_elim
    (λ (mine : (o.flow == number) ≡ true).
    let to_app : (o.app == flow.app) ≡ true = eq-eqb o.app flow.app (are.0 (eqb-true o.flow number mine)).0 in
    rw (mine, to_app, mine) (ap (λ others. o ∷ others) (app-filter number flow os are.1)))
    (λ (other : (o.flow == number) ≡ false). ⊎_elim
    (λ (to_app : (o.app == flow.app) ≡ true). rw (other, to_app, other) (app-filter number flow os are.1))
    (λ (elsewhere : (o.app == flow.app) ≡ false). rw (other, elsewhere) (app-filter number flow os are.1))
    (cases_Bool (o.app == flow.app)))
    (cases_Bool (o.flow == number))

-- and each has its base
pub first-base : (number : ℕ) (flow : Flow) (os : List Offered) → AreOfFlow number flow os → (o : Offered) (later : List Offered)
    → filter (λ o. o.flow == number) os ≡ o ∷ later → o.base ≡ flow.base
first-base number flow [] are o later first = absurd (cc)
first-base number flow (p ∷ os) are o later first = ⊎_elim
    (λ (mine : (p.flow == number) ≡ true).
    let same : p ≡ o = head (rw mine at first) in sym (ap (λ (q : Offered). q.base) same) ∙ (are.0 (eqb-true p.flow number mine)).1)
    (λ (other : (p.flow == number) ≡ false). first-base number flow os are.1 o later (rw other at first))
    (cases_Bool (p.flow == number))
  where
    head : {a b : Offered} {xs ys : List Offered} → a ∷ xs ≡ b ∷ ys → a ≡ b
    head e = cc
