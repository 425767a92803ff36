-- A stopped one scrubs, once no tag is out, or it saw a refill slot in use.
use Rattle.std.specs.{Prelude.{IsSome, MatchOption, nat_eq}, Map.{lookup}}
use Rattle.std.proofs.Common.{◌≡◌, ◌≢◌, ◌≤◌, ℕ, true, false, List, [], ◌∷◌, Option, Some, None, refl, sym, ap, subst, ◌∙◌, ◌⊎◌, inl, inr, ⊎_elim, length, arith}
use Rattle.zr_kinds.specs.declared.place.Place.{Place}
use Rattle.board_face.specs.{Looks.{AppRose}, declared.views.app.{AppLook.TheVariants.{NotQuiet as not_quiet}, AppView.{AppView}}}
use Rattle.board_face.specs.AppEvents.{abandoned}
use Rattle.zc_poll.specs.{Standing.{Desk}, PourTurns.{ScrubsIfQuiet}, declared.to_shelf.PollTurn.{PollTurn, TheVariants.{Did, Idle, Ended}}}
use Rattle.zc_poll.{specs.{declared.to_shelf.Rests.TheVariants.{Stream, RefillFull, NotQuiet, NoNotice}, Stops.{without_loan}}, proofs.Scrubbing.{scrubbed-desk}}
use Rattle.zc_forward.specs.{Sending.{OutboxState, many_kept, most_out, of_one}, Tags.{Tags, TakesTag}, Turns.{CarriedItem, GaveDue, Scrubbed, ScrubsFirst, Stage, NoticeCame, TookStep, TurnDoes}}

-- a loan that is given up changes nothing of it
pub quiet-aside : (aside : Option Place) (old mid new : AppView) → mid ≡ without_loan aside old → ScrubsIfQuiet mid new → ScrubsIfQuiet old new
quiet-aside None old mid new same scrubs = subst (λ (v : AppView). ScrubsIfQuiet v new) same scrubs
quiet-aside (Some loan) old mid new same scrubs = λ no. ⊎_elim (λ (is : new.scrubbed ≡ true). inl is)
    (λ (saw : AppRose not_quiet (abandoned old loan) new × (new.quiet ≡ old.quiet)). inr (record { rose = saw.0.rose }, saw.1))
    (subst (λ (v : AppView). ScrubsIfQuiet v new) same scrubs no)

pub aside-app : (aside : Option Place) (v : AppView) → (without_loan aside v).app ≡ v.app
aside-app None v = refl
aside-app (Some loan) v = refl

-- an item that came is behind no scrub
pub carried-first : (was mid now : Stage) → ScrubsFirst was mid → CarriedItem mid now → CarriedItem was now
carried-first was mid now first item = ⊎_elim
    (λ (idle : ((was.desk.stopped ≡ false) ⊎ (was.work.out ≢ [])) × (mid ≡ was)). subst (λ (s : Stage). CarriedItem s now) idle.1 item)
    (λ (scrubbed : Scrubbed was mid).
    let desk = scrubbed-desk was.desk mid.desk (without_loan was.work.uncarried was.view) mid.view scrubbed.done scrubbed.scrubs in
    let clash : true ≡ false = sym scrubbed.stopped ∙ sym (ap (λ (d : Desk). d.stopped) desk) ∙ item.item.going.0 in absurd (cc))
    first

pub step-does : (was now : Stage) (ran : PollTurn) → was.work.tally.due ≡ None → TookStep was now ran → TurnDoes was now ran
step-does was now Did due took = subst (λ d. MatchOption d (NoticeCame was now ⊎ TookStep was now Did) (GaveDue was now)) (sym due) (inr took)
step-does was now (Idle (Stream why)) due took = (due, took)
step-does was now (Idle RefillFull) due took = absurd took.does
step-does was now (Idle NotQuiet) due took = absurd took.does
step-does was now (Idle NoNotice) due took = absurd took.does
step-does was now (Ended poured) due took = absurd took.does

-- no notice comes where no tag is out
pub none-told : (tags after : Tags) (told : Option ℕ) → TakesTag tags after told → tags ≡ [] → told ≡ None
none-told tags after None took none = refl
none-told tags after (Some tag) took none =
    let there = subst (λ (ts : Tags). IsSome (lookup (nat_eq tag) ts)) none took.0 in absurd (cc)

-- as many as none
pub none-out : {A : Type 0} (out : List A) → length out ≡ 0 → out ≡ []
none-out [] none = refl
none-out (x ∷ out) none = absurd (omega (arith, none))

few-aside : (aside : Option Place) → of_one (λ _. 1) aside ≤ 1
few-aside None = omega arith
few-aside (Some loan) = omega arith

-- and then more may go out
pub not-full : (w : OutboxState) → w.out ≡ [] → many_kept w ≡ most_out → ⊥
not-full w out full = absurd (omega (arith, full, few-aside w.uncarried, ap length out))
