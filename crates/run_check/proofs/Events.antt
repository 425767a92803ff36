-- What an event makes of the holders of all buffers.
use Rattle.std.proofs.Common.{◌≡◌, ◌∙◌, ℕ, zero, suc, ◌+◌, ◌++◌, ◌<◌, ◌≤◌, List, [], ◌∷◌, length, set, get_or, Bool, true, false}
use Rattle.std.proofs.{Common.{Some, None, refl, sym, ap, arith, IsTrue, ⊎_elim}, lemmas.List.{get_or_default, get_or-set_same, get_or-set_other, nil_from_length}}
use Rattle.std.{specs.{Bool.{MatchBool}, List.{AllWithin, HoldsAt}}, proofs.lemmas.Bool.{cases_eq, eq-eqb, ne_eqb, Decides.{nat_tests}}}
use Rattle.zr_kinds.specs.{declared.{holding.Holding.{Holding}, event.Event.{Event}}, Setting.{IsSetting, Setting, total_buffers}}
use Rattle.zr_kinds.specs.{Holders.{Holdings, after, buffer_of_event, changed, has_counts, is_in_range, only_if, with_holders}, EventFields.{bytes_of_event}}
use Rattle.zr_kinds.specs.declared.event.Event.TheVariants as event
use Rattle.run_check.{specs.Holding.{HasSmallApp, SameHolders, SameHoldings, holdings_of, weight}, proofs.Areas.{size_most}}

-- ---- the holders of all buffers

pub none_pushed : (buffers : List (List Holding)) (last : List Holding) → last ≡ [] → ((b : ℕ) → holdings_of buffers b ≡ [])
    → (b : ℕ) → holdings_of (buffers ++ last ∷ []) b ≡ []
none_pushed [] last e none zero = e
none_pushed [] last e none (suc b) = refl
none_pushed (first ∷ buffers) last e none zero = none zero
none_pushed (first ∷ buffers) last e none (suc b) = none_pushed buffers last e (λ k. none (suc k)) b

all_none : (buffers : List (List Holding)) → AllWithin (λ held. length held ≡ 0) buffers 0 (length buffers) → (b : ℕ) → holdings_of buffers b ≡ []
all_none [] h b = refl
all_none (first ∷ buffers) h zero = nil_from_length first (h 0 first (omega arith) (omega arith))
all_none (first ∷ buffers) h (suc b) = all_none buffers (λ k d low lt. h (suc k) d (omega arith) (omega arith)) b

some_held : (buffers : List (List Holding)) (k : ℕ) → k < length buffers → HoldsAt (λ held. length held ≡ 0 → ⊥) buffers k
    → ((b : ℕ) → holdings_of buffers b ≡ []) → ⊥
some_held buffers k lt at none = at [] (ap length (none k))

pub none_from_cases : (r : Bool) (buffers : List (List Holding))
    → MatchBool r (AllWithin (λ held. length held ≡ 0) buffers 0 (length buffers))
    ((k : ℕ) × (k < length buffers) × HoldsAt (λ held. length held ≡ 0 → ⊥) buffers k)
    → (IsTrue r → (b : ℕ) → holdings_of buffers b ≡ []) × (((b : ℕ) → holdings_of buffers b ≡ []) → IsTrue r)
none_from_cases true buffers h = (λ t. all_none buffers h, λ none. refl)
none_from_cases false buffers h = (λ t. cc, λ none. absurd (some_held buffers h.0 h.1 h.2 none))

pub holdings_set : (buffers : List (List Holding)) (buffer : ℕ) (now other : List Holding) → SameHolders other now → buffer < length buffers
    → SameHoldings (with_holders (holdings_of buffers) buffer other) (holdings_of (set buffers buffer now))
holdings_set buffers buffer now other alike lt = λ b. ⊎_elim
    (λ (same : b ≡ buffer). rw (eq-eqb b buffer same)
    (λ f. alike f ∙ ap (weight f) (sym (ap (λ k. get_or (set buffers buffer now) k []) same ∙ get_or-set_same buffers buffer now [] lt))))
    (λ (apart : b ≡ buffer → ⊥). rw (ne_eqb b buffer apart) (λ f. ap (weight f) (sym (get_or-set_other buffers buffer b now [] apart))))
    (cases_eq b buffer)

-- ---- one event

pub after_out : (s : Setting) (h : Holdings) (e : Event) → is_in_range s e ≡ false → after s h e ≡ None
unfolding after
after_out s h e out = rw out refl

pub after_nowhere : (s : Setting) (h : Holdings) (e : Event) → is_in_range s e ≡ true → None ≡ buffer_of_event e → after s h e ≡ Some h
unfolding after
after_nowhere s h e ranged nowhere = rw (ranged, ← nowhere) refl

pub after_unfit : (s : Setting) (h : Holdings) (e : Event) (b : ℕ) → is_in_range s e ≡ true → Some b ≡ buffer_of_event e
    → changed s (h b) e ≡ None → after s h e ≡ None
unfolding after
after_unfit s h e b ranged at unfit = rw (ranged, ← at, unfit) refl

pub after_fit : (s : Setting) (h : Holdings) (e : Event) (b : ℕ) (now : List Holding) (counts : Bool) → is_in_range s e ≡ true → Some b ≡ buffer_of_event e
    → changed s (h b) e ≡ Some now → has_counts now e ≡ counts → after s h e ≡ only_if counts (Some (with_holders h b now))
unfolding after
after_fit s h e b now true ranged at fit counted = rw (ranged, ← at, fit, counted) refl
after_fit s h e b now false ranged at fit counted = rw (ranged, ← at, fit, counted) refl

-- ---- the event's buffer

same_some : (a b : ℕ) → Some a ≡ Some b → a ≡ b
same_some a b is = cc

pub buffer_below : (s : Setting) (e : Event) (at : ℕ) → is_in_range s e ≡ true → Some at ≡ buffer_of_event e → at < total_buffers s
buffer_below s (event.Take b p) at ranged is = let same : at ≡ b = same_some at b is in grind (arith, nat_tests, same, ranged)
buffer_below s (event.Place b o l p) at ranged is = let same : at ≡ b = same_some at b is in grind (arith, nat_tests, same, ranged)
buffer_below s (event.Sent a b o l) at ranged is = let same : at ≡ b = same_some at b is in grind (arith, nat_tests, same, ranged)
buffer_below s (event.Held a b o l) at ranged is = let same : at ≡ b = same_some at b is in grind (arith, nat_tests, same, ranged)
buffer_below s (event.Cut a b o l m p) at ranged is = let same : at ≡ b = same_some at b is in grind (arith, nat_tests, same, ranged)
buffer_below s (event.Lend a b o l p u) at ranged is = let same : at ≡ b = same_some at b is in grind (arith, nat_tests, same, ranged)
buffer_below s (event.Back a b o l u) at ranged is = let same : at ≡ b = same_some at b is in grind (arith, nat_tests, same, ranged)
buffer_below s (event.Honour a b p u) at ranged is = let same : at ≡ b = same_some at b is in grind (arith, nat_tests, same, ranged)
buffer_below s (event.Free a b o l p) at ranged is = let same : at ≡ b = same_some at b is in grind (arith, nat_tests, same, ranged)
buffer_below s (event.Spare a b p) at ranged is = let same : at ≡ b = same_some at b is in grind (arith, nat_tests, same, ranged)
buffer_below s (event.Own a b l p u) at ranged is = let same : at ≡ b = same_some at b is in grind (arith, nat_tests, same, ranged)
buffer_below s (event.Shut b p) at ranged is = let same : at ≡ b = same_some at b is in grind (arith, nat_tests, same, ranged)
buffer_below s (event.Scrub a b p u) at ranged is = let same : at ≡ b = same_some at b is in grind (arith, nat_tests, same, ranged)
buffer_below s (event.Stray a) at ranged is = cc

pub held_here : (buffers : List (List Holding)) (b : ℕ) (held : List Holding) → held ≡ get_or buffers b held → b < length buffers
    → holdings_of buffers b ≡ held
held_here buffers b held is lt = get_or_default buffers b [] held lt ∙ sym is

-- ---- the event's numbers

-- its bytes end where the largest buffer ends, or before
pub bytes_near : (s : Setting) (e : Event) → IsSetting s → IsTrue (is_in_range s e) → (bytes_of_event e).0 + (bytes_of_event e).1 ≤ 65536
bytes_near s (event.Take b p) sound ranged = omega arith
bytes_near s (event.Place b o l p) sound ranged = let most = size_most s.areas b sound.areas.each in grind (arith, nat_tests, most, ranged)
bytes_near s (event.Sent a b o l) sound ranged = let most = size_most s.areas b sound.areas.each in grind (arith, nat_tests, most, ranged)
bytes_near s (event.Held a b o l) sound ranged = let most = size_most s.areas b sound.areas.each in grind (arith, nat_tests, most, ranged)
bytes_near s (event.Cut a b o l m p) sound ranged = let most = size_most s.areas b sound.areas.each in grind (arith, nat_tests, most, ranged)
bytes_near s (event.Lend a b o l p u) sound ranged = let most = size_most s.areas b sound.areas.each in grind (arith, nat_tests, most, ranged)
bytes_near s (event.Back a b o l u) sound ranged = let most = size_most s.areas b sound.areas.each in grind (arith, nat_tests, most, ranged)
bytes_near s (event.Honour a b p u) sound ranged = omega arith
bytes_near s (event.Stray a) sound ranged = omega arith
bytes_near s (event.Free a b o l p) sound ranged = let most = size_most s.areas b sound.areas.each in grind (arith, nat_tests, most, ranged)
bytes_near s (event.Spare a b p) sound ranged = omega arith
bytes_near s (event.Own a b l p u) sound ranged = let most = size_most s.areas b sound.areas.each in grind (arith, nat_tests, most, ranged)
bytes_near s (event.Shut b p) sound ranged = omega arith
bytes_near s (event.Scrub a b p u) sound ranged = omega arith

pub small_app : (s : Setting) (e : Event) → IsSetting s → IsTrue (is_in_range s e) → HasSmallApp e
small_app s (event.Take b p) sound ranged = tt
small_app s (event.Place b o l p) sound ranged = tt
small_app s (event.Sent a b o l) sound ranged = tt
small_app s (event.Held a b o l) sound ranged = tt
small_app s (event.Cut a b o l m p) sound ranged = tt
small_app s (event.Lend a b o l p u) sound ranged = let most : s.apps ≤ 8 = sound.apps.1 in grind (arith, nat_tests, most, ranged)
small_app s (event.Back a b o l u) sound ranged = let most : s.apps ≤ 8 = sound.apps.1 in grind (arith, nat_tests, most, ranged)
small_app s (event.Honour a b p u) sound ranged = let most : s.apps ≤ 8 = sound.apps.1 in grind (arith, nat_tests, most, ranged)
small_app s (event.Stray a) sound ranged = tt
small_app s (event.Free a b o l p) sound ranged = tt
small_app s (event.Spare a b p) sound ranged = tt
small_app s (event.Own a b l p u) sound ranged = let most : s.apps ≤ 8 = sound.apps.1 in grind (arith, nat_tests, most, ranged)
small_app s (event.Shut b p) sound ranged = tt
small_app s (event.Scrub a b p u) sound ranged = let most : s.apps ≤ 8 = sound.apps.1 in grind (arith, nat_tests, most, ranged)
