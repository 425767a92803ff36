-- An answer that comes behind a pending poll came of the poll before it.
use Rattle.std.{proofs.Common.{◌≡◌, ℕ, List, [], ◌∷◌, Option, Some, None, sym, ap, subst, ◌∙◌, arith}, specs.Prelude.{Ok, Err}}
use Rattle.zr_io.specs.Moved.{ShelfCounts}
use Rattle.board_face.specs.declared.views.app.AppView.{AppView}
use Rattle.flow_queues.specs.{Core.{total}, Counting.{TallyState}}
use Rattle.zc_poll.specs.declared.step.{Step.TheVariants.{Waiting}, Waits.{Waits}}
use Rattle.zc_poll.specs.{Standing.{Desk}, Steps.{OnlySteps, Steps}, Pouring.{PourStands}, Polls.{Answer, GivesNext, IsLastPourTurn, TellsPoured, Yields}}
use Rattle.zc_poll.{specs.declared.to_shelf.Poured.{Poured}, proofs.{Views.{only-then}, Released.{unlent-then}}}

module _ (was mid : Desk) (old view : AppView) (why : Waits) (only : OnlySteps old view) (waited : Steps was mid old view (Waiting why)) where
  -- the next answer
  next-then : (now : Desk) (new : AppView) (next : Option Answer) → GivesNext mid now view new next → GivesNext was now old new next
  next-then now new (Some (Ok lent)) then = (let item = then.gives in record {
    only = only-then old view new only then.only;
    gives = record {
      lending = item.lending;
      loan = item.loan;
      held = item.held;
      out = item.out;
      lends = λ f. omega (arith, item.lends f, ap (total f) waited.0.loans);
      note = item.note;
      is = item.is;
      copied = item.copied;
      spares = omega (arith, item.spares, waited.0.spares);
      fits = item.fits;
      place = item.place;
      items = λ items given. item.items items (waited.0.items items given);
      going = (sym waited.2 ∙ item.going.0, item.going.1);
      more = item.more;
    };
  })
  next-then now new (Some (Err failed)) then = record {
    only = only-then old view new only then.only;
    gives = (unlent-then was mid now old view new waited.0 then.gives.0, sym waited.2 ∙ then.gives.1, then.gives.2, then.gives.3);
  }
  next-then now new None then = record {
    only = only-then old view new only then.only;
    gives = (unlent-then was mid now old view new waited.0 then.gives.0, then.gives.1 ∙ waited.2, then.gives.2);
  }

  -- and all of them
  pub yields-then : (xs : List Answer) (last : Option Answer) → Yields mid view xs last → Yields was old xs last
  yields-then [] last (now, new, next) = (now, new, next-then now new last next)
  yields-then (x ∷ xs) last (now, new, next, rest) = (now, new, next-then now new (Some x) next, rest)

-- ---- what is told at the end, behind a turn

pub tells-then : (u w : TallyState) (was now : Desk) (kept later : ℕ → Option (List ℕ)) (losses counts : ShelfCounts) (v z : AppView) (x : Poured)
    → ((first : ℕ → Option (List ℕ)) (n : ShelfCounts) → PourStands first n u was kept losses v → PourStands first n w now later counts z) → z.app ≡ v.app
    → TellsPoured w now later counts z x → TellsPoured u was kept losses v x
tells-then u w was now kept later losses counts v z x goes same tells = λ first n stands.
    let (last, count, new, told) = tells first n (goes first n stands) in
    (last, count, new, subst (λ app. IsLastPourTurn first n last count app new x) same told)
