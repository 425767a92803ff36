-- The user counts of a stopped stream are scrubbed, or a refill slot was seen in use.
use Rattle.std.specs.Prelude.{MatchBool}
use Rattle.std.proofs.Common.{◌≡◌, ℕ, Bool, true, false, List, [], Option, None, refl, sym, ap, subst, ◌∙◌, inl, inr, ⊎_elim, arith, append-nil}
use Rattle.zr_kinds.specs.declared.place.Place.{Place}
use Rattle.zr_kinds.specs.declared.behaviour.Stopped.TheVariants as stop
use Rattle.board_face.specs.{Looks.{AppRose}, declared.views.app.{AppLook.TheVariants.{NotQuiet as not_quiet}, AppView.{AppView}}}
use Rattle.flow_queues.specs.{Core.{total}, Counting.{TallyState}}
use Rattle.zc_poll.specs.{Standing.{Desk, StreamStands}, Items.{HasGiven}, Steps.{OnlySteps, ScrubsOrWaits}}
use Rattle.zc_poll.specs.{Pouring.{PourStands}, PourTurns.{PourStage, PourScrubsFirst, ScrubsIfQuiet, TookPourStep, PourTurnDoes, pour_stage}}
use Rattle.zc_poll.specs.declared.to_shelf.{PollTurn.{PollTurn, TheVariants.{Did, Idle, Ended}}, Rests.TheVariants.{Stream, RefillFull, NotQuiet, NoNotice}}
use Rattle.zc_poll.proofs.{EntriesFirst.{first-same}, ItemPoured.{poured-moved}, PourTurns.{same-counts}}
use Rattle.zr_io.specs.Moved.{ShelfCounts}

-- the view but for what a look for quiet slots and a scrub change
abbrev pub with_quiet : AppView → AppView → AppView
with_quiet v x = record v { quiet = x.quiet; scrubbed = x.scrubbed; looks = x.looks }

pub scrubbed-view : (was now : Desk) (old new : AppView) (done : Bool) → ScrubsOrWaits was now old new done → new ≡ with_quiet old new
scrubbed-view was now old new true (desk, view) = subst (λ (k : AppView). k ≡ with_quiet old k) (sym view) refl
scrubbed-view was now old new false (desk, saw) = subst (λ (k : AppView). k ≡ with_quiet old k) (sym saw.event) refl

pub scrubbed-desk : (was now : Desk) (old new : AppView) (done : Bool) → ScrubsOrWaits was now old new done → now ≡ record was { scrubbed = now.scrubbed }
scrubbed-desk was now old new true (desk, view) = subst (λ (d : Desk). d ≡ record was { scrubbed = d.scrubbed }) (sym desk) refl
scrubbed-desk was now old new false (desk, saw) = subst (λ (d : Desk). d ≡ record was { scrubbed = d.scrubbed }) (sym desk) refl

-- ---- what was poured stays so

module _ (first kept : ℕ → Option (List ℕ)) (losses losses_now : ShelfCounts) (u : TallyState) (st now : Desk) (v z : AppView)
    (before : PourStands first losses u st kept losses_now v) (view : z ≡ with_quiet v z) (desk : now ≡ record st { scrubbed = now.scrubbed })
    (stands : StreamStands now z) where
  abbrev w : AppView
  w = with_quiet v z

  stopped : now.stopped ≡ st.stopped
  stopped = ap (λ (d : Desk). d.stopped) desk

  pub scrub-pours : PourStands first losses u now kept losses_now z
  scrub-pours = subst (PourStands first losses u now kept losses_now) (sym view) (record {
    items = before.items;
    torn = before.torn;
    missing = before.missing;
    stands = subst (StreamStands now) view stands;
    poured = poured-moved (u.stopped ≡ stop.Write) (u.stopped ≡ stop.Write) first kept u u st now v w before.items before.torn before.missing
        before.poured (same-counts u)
        (subst (λ flows. HasGiven before.items flows v.taken) (sym (ap (λ (d : Desk). d.flows) desk)) before.poured.given)
        (record { notes = []; taken = sym (append-nil v.taken); more = []; reads = sym (append-nil v.reads) }) refl refl refl
        (first-same v w (total (λ f. f.1) u.counts) refl refl refl before.poured.back) refl
        (λ is. is);
    due = before.due;
    whole = before.whole;
    given_back = before.given_back;
    going = λ no. stopped ∙ before.going no;
    over = λ not. (let (on, none) = before.over not in (stopped ∙ on, none));
    no_quit = before.no_quit;
    later = before.later;
    cause = before.cause;
    still = before.still;
    appended = before.appended;
  })

-- and it is what comes before a step
pub scrubs-first : (due : Option Place) (was now : Desk) (old new : AppView) (done : Bool) → was.stopped ≡ true → ScrubsOrWaits was now old new done
    → PourScrubsFirst (pour_stage due was old) (pour_stage due now new)
scrubs-first due was now old new done stopped scrubs = (
  refl,
  subst (λ b. MatchBool b ((d : Bool) × ScrubsOrWaits was now old new d) ((now ≡ was) × (new ≡ old))) (sym stopped) (done, scrubs),
)

-- ---- it scrubbed if each refill slot was free

pub scrubs-quiet : (was now : Desk) (old new : AppView) (done : Bool) → ScrubsOrWaits was now old new done → ScrubsIfQuiet old new
scrubs-quiet was now old new true (desk, view) = λ _. inl (ap (λ (v : AppView). v.scrubbed) view)
scrubs-quiet was now old new false (desk, saw) = λ _. inr (saw.rose, ap (λ (v : AppView). v.quiet) saw.event)

-- and a step changes nothing of it
pub scrubs-then : (old mid new : AppView) → ScrubsIfQuiet old mid → OnlySteps mid new → ScrubsIfQuiet old new
scrubs-then old mid new scrubs only = λ no. ⊎_elim
    (λ (is : mid.scrubbed ≡ true). inl (ap (λ (v : AppView). v.scrubbed) only.view ∙ is))
    (λ (saw : AppRose not_quiet old mid × (mid.quiet ≡ old.quiet)).
    inr (record { rose = omega (arith, saw.0.rose, only.looks.later not_quiet) }, ap (λ (v : AppView). v.quiet) only.view ∙ saw.1))
    (scrubs no)

-- ---- a turn that took a step

pub step-does : (desk : Desk) (old : AppView) (now : PourStage) (ran : PollTurn) → TookPourStep (pour_stage None desk old) now ran
    → PourTurnDoes (pour_stage None desk old) now ran
step-does desk old now Did took = took
step-does desk old now (Idle (Stream why)) took = (refl, took)
step-does desk old now (Idle RefillFull) took = absurd took.does
step-does desk old now (Idle NotQuiet) took = absurd took.does
step-does desk old now (Idle NoNotice) took = absurd took.does
step-does desk old now (Ended poured) took = absurd took.does
