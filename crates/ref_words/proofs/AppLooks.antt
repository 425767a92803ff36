-- What an application has seen, what it knows of its slots and its reserve, and whether it was told the end or left, are all that changes.
use Rattle.std.{proofs.Common.{◌≡◌, ℕ, true, List, [], set, refl, sym, arith, subst, ◌<◌}, specs.Prelude.{All}}
use Rattle.board_face.specs.{Sides.{IsApp}, AppEvents.{reserve_of}, Returns.{IsOfLoan, entries_on_way}, Counts.{pool_count, EndedWereReturned}}
use Rattle.board_face.{specs.declared.views.{parts.Setting.{Setting}, nic.NicSide.{NicSide}, app.AppSide.{AppSide}}, proofs.AppLemmas.{pool_count-app, user_count-app}}
use Rattle.board_face.proofs.{ArePlacedLemmas.{ArePlaced-app}, MadeLastLemmas.{IsMadeLast-app}, IsFilledByOneLemmas.{IsFilledByOne-app}}
use Rattle.board_face.proofs.FillingsFitLemmas.{FillingsFit-same}
use Rattle.ref_words.{specs.{Words.{Words, listed_bit}, Rule.{RefRule}}, proofs.{RingSteps.{AllRings}, SlotSteps.{DifferInSlots, RefRule-slot}}}
use Rattle.ref_words.proofs.{Frees.{AreKept-app, free_places-hands}, SideSteps.{own-was, SidesRule-app, mine}, LineLemmas.{AreByLine-app}}

-- the application's side with no other change
abbrev pub like-of : AppSide → AppSide → AppSide
like-of app now = record {
  view = record app.view {
    left = now.view.left;
    ended = now.view.ended;
    looks = now.view.looks;
    settled = now.view.settled;
    quiet = now.view.quiet;
  };
  inside = record app.inside {
    note_slot = now.inside.note_slot;
    refill_slot = now.inside.refill_slot;
    free_slots = now.inside.free_slots;
    end_seen = now.inside.end_seen;
    end_unseen = now.inside.end_unseen;
    words_without = now.inside.words_without;
    reserve_seen_free = now.inside.reserve_seen_free;
  };
}

module _ (setting : Setting) (words : Words) (nic : NicSide) (apps : List AppSide) (a : ℕ) (app : AppSide) (rule : RefRule setting words nic apps)
    (here : IsApp apps a app) (now : AppSide) (same : now ≡ like-of app now)
    (settled : now.view.settled ≡ true → All IsOfLoan (entries_on_way nic app))
    (quiet : now.view.quiet ≡ true → entries_on_way nic app ≡ []) (unscrubbed : app.view.quiet ≡ true → now.view.quiet ≡ true)
    (unheld : now.inside.reserve_seen_free ≡ true → pool_count (reserve_of app.view) nic apps ≡ 0) where
  abbrev like : AppSide
  like = like-of app now

  abbrev apps' : List AppSide
  apps' = set apps a like

  pools : (b : ℕ) → pool_count b nic apps' ≡ pool_count b nic apps
  pools b = omega (arith, pool_count-app b nic apps a app like here)

  pub RefRule-looked : (words' : Words) → DifferInSlots setting words words' → AllRings setting words' nic apps'
      → RefRule setting words' nic (set apps a now)
  RefRule-looked words' differ rings =
      subst (λ x. RefRule setting words' nic (set apps a x)) (sym same)
      (RefRule-slot setting words words' nic nic apps apps' rule differ (record {
        sides = SidesRule-app setting nic apps a app rule.sides here like (record {
          placed = λ b. ArePlaced-app b nic apps a app like here (λ test. omega arith) (rule.sides.placed b);
          lines = λ b. AreByLine-app b nic apps a app like here refl (λ test. omega arith) (rule.sides.lines b);
          by_one = λ b. IsFilledByOne-app b nic apps a app like here (omega arith) (omega arith) (rule.sides.by_one b);
          fit = FillingsFit-same nic apps a app like here refl rule.sides.fit;
          made = IsMadeLast-app nic apps a app like here (λ b test. omega arith) rule.sides.made;
          returned = λ b. assumption (mine setting nic apps a app rule.sides here (EndedWereReturned b nic) (rule.sides.returned b));
          reserve = record { unheld = λ free. omega (arith, pools (reserve_of app.view), unheld free) };
          unheld = λ b past ne none. omega (arith, pools b, none);
          scrubbed = λ done. assumption (rule.sides.scrubbed a app here done);
          own = let was = own-was setting nic apps a app rule.sides here in
              let still : 0 < app.inside.scrub_mark → like.view.quiet ≡ true = λ some. unscrubbed (was.scrub.quiet some) in
              assumption (was, settled, quiet, still);
        });
        pool = pools;
        users = λ x b. omega (arith, user_count-app x b nic apps a app like here);
        free = λ b. omega (arith, free_places-hands (listed_bit words) b nic apps a app like here);
        kept = AreKept-app (listed_bit words) nic apps a app like here refl rule.kept;
        rings = rings;
      }))

-- What it knows of its reserve stays too.
module _ (setting : Setting) (words : Words) (nic : NicSide) (apps : List AppSide) (a : ℕ) (app : AppSide) (rule : RefRule setting words nic apps)
    (here : IsApp apps a app) (now : AppSide)
    (same : now ≡ record {
      view = record app.view { looks = now.view.looks; settled = now.view.settled; quiet = now.view.quiet };
      inside = record app.inside {
        note_slot = now.inside.note_slot;
        refill_slot = now.inside.refill_slot;
        free_slots = now.inside.free_slots;
      };
    })
    (settled : now.view.settled ≡ true → All IsOfLoan (entries_on_way nic app))
    (quiet : now.view.quiet ≡ true → entries_on_way nic app ≡ []) (unscrubbed : app.view.quiet ≡ true → now.view.quiet ≡ true) where
  abbrev kept : AppSide
  kept = record {
    view = record app.view { looks = now.view.looks; settled = now.view.settled; quiet = now.view.quiet };
    inside = record app.inside {
      note_slot = now.inside.note_slot;
      refill_slot = now.inside.refill_slot;
      free_slots = now.inside.free_slots;
    };
  }

  pub RefRule-app : (words' : Words) → DifferInSlots setting words words' → AllRings setting words' nic (set apps a kept)
      → RefRule setting words' nic (set apps a now)
  RefRule-app words' differ rings =
      subst (λ x. RefRule setting words' nic (set apps a x)) (sym same)
      (RefRule-looked setting words nic apps a app rule here kept refl settled quiet unscrubbed (rule.sides.reserves a app here).unheld words' differ
      rings)
