-- A fault is found by its number.
use Rattle.std.proofs.Common.{◌≡◌, ◌↔◌, ℕ, List, [], ◌∷◌, Bool, true, false, Option, Some, refl, sym, ap, ◌∙◌}
use Rattle.std.{specs.{Prelude.{◌==◌, if◌then◌else◌}, List.{find}}, proofs.lemmas.Bool.{eqb-true}}
use Rattle.zr_kinds.specs.{Fault.{number_of}, declared.fault.{TheConstants.Fault.{ALL}, Fault.{Fault}}}
use Rattle.zr_kinds.specs.declared.fault.Fault.TheVariants.{Memory, Usage, NotPcap, Version, LinkType, Cut, LongRecord, Read, Write, TooManyFlows}
use Rattle.zr_kinds.specs.declared.fault.Fault.TheVariants.{TooManyFrames, BadBlock, BadRun}

-- what is found passes the test
found_passes : (test : Fault → Bool) (faults : List Fault) (fault : Fault) → find test faults ≡ Some fault → test fault ≡ true
found_passes test [] fault is = cc
found_passes test (first ∷ rest) fault is = by_first (test first) refl (λ later. found_passes test rest fault later) is
  where
    by_first : (b : Bool) → test first ≡ b → (find test rest ≡ Some fault → test fault ≡ true)
        → (if b then Some first else find test rest) ≡ Some fault → test fault ≡ true
    by_first true passes later same = let here : fault ≡ first = cc in ap test here ∙ passes
    by_first false passes later same = later same

abbrev pub with_number : ℕ → Option Fault
with_number number = find (λ fault. number_of fault == number) ALL

own_found : (fault : Fault) → with_number (number_of fault) ≡ Some fault
own_found Memory = refl
own_found Usage = refl
own_found NotPcap = refl
own_found Version = refl
own_found LinkType = refl
own_found Cut = refl
own_found LongRecord = refl
own_found Read = refl
own_found Write = refl
own_found TooManyFlows = refl
own_found TooManyFrames = refl
own_found BadBlock = refl
own_found BadRun = refl

pub found_by_number : (number : ℕ) (found : Option Fault) → found ≡ with_number number
    → (fault : Fault) → (found ≡ Some fault) ↔ (number_of fault ≡ number)
found_by_number number found is fault = (
  (λ e. eqb-true (number_of fault) number (found_passes (λ f. number_of f == number) ALL fault (sym is ∙ e))),
  (λ e. is ∙ ap with_number (sym e) ∙ own_found fault),
)
