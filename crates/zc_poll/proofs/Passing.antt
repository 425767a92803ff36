-- A step is made of notes that were taken, and of what came then.
use Rattle.std.proofs.Common.{◌≡◌, ℕ, ◌+◌, false, refl, sym, ap, subst, ◌∙◌, arith}
use Rattle.board_face.specs.{AppEvents.{app_saw}, declared.views.app.{AppLook.{AppLook, TheVariants.{NoNote as no_note, NoSpare as no_spare}}, AppView.{AppView}}}
use Rattle.flow_queues.specs.Core.{total}
use Rattle.zc_poll.specs.declared.step.{Step.{Step, TheVariants.{Item, Waiting, Memory, Ended}}, Waits.{Waits, TheVariants.{NoNote, ReserveHeld, Enough}}}
use Rattle.zc_poll.specs.{Standing.{Desk, StreamStands}, Items.{HasGiven}, Steps.{Unlent, Steps, WaitsFor, PassedNotes, Stepped, TookOneAtMost}}
use Rattle.zc_poll.proofs.{Views.{only-then, only-saw, rose-then}, Keeping.{saw-stands}, Released.{unlent-then}}

-- more of them were taken
pub passed-then : (m n k : ℕ) (was mid now : Desk) (u v w : AppView) → k ≡ m + n → PassedNotes m was mid u v → PassedNotes n mid now v w
    → PassedNotes k was now u w
passed-then m n k was mid now u v w count first second = record {
  stands = second.stands;
  only = only-then u v w first.only second.only;
  unlent = unlent-then was mid now u v w first.unlent second.unlent;
  longer = omega (arith, first.longer, second.longer, count);
  stopped = second.stopped ∙ first.stopped;
  more = second.more;
}

-- nothing changed since
pub passed-still : (k : ℕ) (was mid now : Desk) (u v w : AppView) → now ≡ mid → w ≡ v → PassedNotes k was mid u v → PassedNotes k was now u w
passed-still k was mid now u v w desk view passed = subst (λ (d : Desk). PassedNotes k was d u w) (sym desk) (subst (λ (x : AppView). PassedNotes k was mid u x) (sym view) passed)

module _ (n : ℕ) (was mid now : Desk) (u v w : AppView) (passed : PassedNotes n was mid u v) where
  unlent-both : Unlent mid now v w → Unlent was now u w
  unlent-both second = unlent-then was mid now u v w passed.unlent second

  steps-then : (step : Step) → TookOneAtMost step → Steps mid now v w step → Steps was now u w step
  steps-then (Item lent) short item = record {
    lending = item.lending;
    loan = item.loan;
    held = item.held;
    out = item.out;
    lends = λ f. omega (arith, item.lends f, ap (total f) passed.unlent.loans);
    note = item.note;
    is = item.is;
    copied = item.copied;
    spares = omega (arith, item.spares, passed.unlent.spares);
    fits = item.fits;
    place = item.place;
    items = λ items given. item.items items (passed.unlent.items items given);
    going = (sym passed.stopped ∙ item.going.0, item.going.1);
    more = item.more;
  }
  steps-then (Waiting NoNote) short (unlent, (rose, rest), stopped, more) =
      (unlent-both unlent, (rose-then no_note u v w passed.only.looks rose, rest), stopped ∙ passed.stopped, more)
  steps-then (Waiting ReserveHeld) short (unlent, (rose, on), stopped, more) =
      (unlent-both unlent, (rose-then no_spare u v w passed.only.looks rose, on), stopped ∙ passed.stopped, more)
  steps-then (Waiting Enough) short steps = absurd short
  steps-then Memory short (unlent, on, stopped, more) = (unlent-both unlent, sym passed.stopped ∙ on, stopped, more)
  steps-then Ended short (unlent, stopped, ended) = (unlent-both unlent, stopped ∙ passed.stopped, ended)

  -- what came then came of the step
  pub stepped-then : (step : Step) → TookOneAtMost step → Stepped mid now v w step → Stepped was now u w step
  stepped-then step short stepped = record {
    stands = stepped.stands;
    only = only-then u v w passed.only stepped.only;
    steps = steps-then step short stepped.steps;
  }

-- it waits, on a look that was made
pub saw-stepped : (was now : Desk) (old new : AppView) (look : AppLook) (why : Waits) → StreamStands was old → was.ended ≡ false → now ≡ was
    → new ≡ app_saw old look → WaitsFor why was old new → Stepped was now old new (Waiting why)
saw-stepped was now old new look why stands more same event waits = subst (λ (d : Desk). Stepped was d old new (Waiting why)) (sym same) (record {
  stands = saw-stands was old new look event stands;
  only = only-saw old new look event;
  steps = (
    record {
      loans = ap (λ (v : AppView). v.loans) event;
      spares = ap (λ (v : AppView). v.spares) event;
      items = λ items given. subst (HasGiven items was.flows) (sym (ap (λ (v : AppView). v.taken) event)) given;
    },
    waits,
    refl,
    more,
  );
})
