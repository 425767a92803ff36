-- Each port stands at one place, and a flow goes to the application of its port.
use Rattle.std.{proofs.Common.{◌≡◌, ◌≢◌, ℕ, zero, suc, List, [], ◌∷◌, false, ◌==◌, Some, refl, sym, ap, subst, ◌∙◌, ⊎_elim, get_or}, specs.Prelude.{nat_eq}}
use Rattle.std.{specs.List.{slice_get, IsDistinct, AllByRecursion}, proofs.lemmas.{Bool.{eq-eqb, eqb-true, ne_eqb, cases_eq, true≢false}, Option.{slice_get-get_or}}}
use Rattle.std.proofs.lemmas.List.Quantifiers.{position-Some}
use Rattle.flow_table.{specs.{Steered.{SteeredTcp, app_of}, Flows.{Flow, flows_of, flows_with, flows_after}}, proofs.FlowLaws.{HaveApps, flows_with-apps}}
use Rattle.card_feed.{specs.Ending.{steered_in}, proofs.OfFlow.{AreSteered, are-steered}}

all-other : (port : ℕ) (ports : List ℕ) (b : ℕ) → AllByRecursion (λ p. nat_eq port p ≡ false) ports → slice_get ports b ≡ Some port → ⊥
all-other port [] b all at = absurd (cc)
all-other port (p ∷ ports) zero all at = let same : port ≡ p = cc in true≢false (sym (eq-eqb port p same) ∙ all.0)
all-other port (p ∷ ports) (suc b) all at = all-other port ports b all.1 at

pub one-place : (ports : List ℕ) (a b port : ℕ) → IsDistinct nat_eq ports → slice_get ports a ≡ Some port
    → slice_get ports b ≡ Some port → a ≡ b
unfolding IsDistinct
one-place [] a b port distinct first second = absurd (cc)
one-place (p ∷ ports) zero zero port distinct first second = refl
one-place (p ∷ ports) zero (suc b) port distinct first second =
    let same : p ≡ port = cc in
    absurd (all-other port ports b (subst (λ q. AllByRecursion (λ r. nat_eq q r ≡ false) ports) same distinct.0) second)
one-place (p ∷ ports) (suc a) zero port distinct first second =
    let same : p ≡ port = cc in
    absurd (all-other port ports a (subst (λ q. AllByRecursion (λ r. nat_eq q r ≡ false) ports) same distinct.0) first)
one-place (p ∷ ports) (suc a) (suc b) port distinct first second = ap suc (one-place ports a b port distinct.1 first second)

-- the port of an application stands at its place
pub port-at : (ports : List ℕ) (port a : ℕ) → app_of ports port ≡ Some a → slice_get ports a ≡ Some port
port-at ports port a is =
    let found = position-Some (λ p. p == port) ports a 0 is in
    slice_get-get_or ports a 0 found.0 ∙ ap Some (eqb-true (get_or ports a 0) port found.1)

-- a flow is to a port exactly where it goes to that port's application
pub is-to-port : (ports : List ℕ) (dport app port a : ℕ) → IsDistinct nat_eq ports → app_of ports dport ≡ Some app → slice_get ports a ≡ Some port
    → (dport == port) ≡ (app == a)
is-to-port ports dport app port a distinct place at =
    let here : slice_get ports app ≡ Some dport = port-at ports dport app place in
    ⊎_elim
    (λ (same : app ≡ a).
    let both : Some dport ≡ Some port = sym here ∙ ap (slice_get ports) same ∙ at in
    let one : dport ≡ port = cc in
    eq-eqb dport port one ∙ sym (eq-eqb app a same))
    (λ (other : app ≢ a).
    let apart : dport ≢ port = λ same. other (one-place ports app a port distinct (here ∙ ap Some same) at) in
    ne_eqb dport port apart ∙ sym (ne_eqb app a other))
    (cases_eq app a)

have-after : (ports : List ℕ) (flows : List Flow) (steered : List SteeredTcp) → HaveApps ports flows → AreSteered ports steered
    → HaveApps ports (flows_after flows steered)
have-after ports flows [] have are = have
have-after ports flows (s ∷ ss) have are = have-after ports (flows_with flows s) ss (flows_with-apps ports flows s are.0 have) are.1

-- each flow's application is that of its port
pub flows-have-apps : (ports : List ℕ) (frames : List (List ℕ)) → HaveApps ports (flows_of (steered_in ports frames))
flows-have-apps ports frames = have-after ports [] (steered_in ports frames) (λ i flow at. absurd (cc)) (are-steered ports frames)
