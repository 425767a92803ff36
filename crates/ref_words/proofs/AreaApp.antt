-- An application takes lines, reads a text, or gives lines back, of a spare that it fills: counts, the free list and the slots have nothing
-- to do with it.
use Rattle.std.{proofs.Common.{◌≡◌, ℕ, ◌<◌, ◌≤◌, List, length, set, refl, sym, subst, arith}, specs.Prelude.{Option, None}}
use Rattle.std.proofs.lemmas.List.{set-set, get_or-set_same, length-set}
use Rattle.board_face.specs.{AppCalls.{HasSpare}, AppEvents.{filled, reserve_of}, Counts.{pool_count, EndedWereReturned}, Fillings.{IsFilledByOne, FillingsFit}}
use Rattle.board_face.specs.{Places.{ArePlaced, IsMadeLast}, Sides.{IsApp, app_at}, declared.views.parts.{Setting.{Setting}, Filling.{Filling}, Making.{Making}}}
use Rattle.board_face.specs.declared.views.{nic.NicSide.{NicSide}, app.{Reading.{Reading}, AppSide.{AppSide}}}
use Rattle.board_face.proofs.{AppLemmas.{pool_count-app, user_count-app, app_count-filled}, Parts.{app_count}, ArePlacedLemmas.{ArePlaced-app, ArePlaced-filled}}
use Rattle.board_face.proofs.{FillingsFitLemmas.{FillingsFit-same, FillingsFit-filled}, IsFilledByOneLemmas.{IsFilledByOne-app, IsFilledByOne-filled}}
use Rattle.board_face.proofs.MadeLastLemmas.{IsMadeLast-app, IsMadeLast-filled}
use Rattle.area_layout.specs.Layout.{IsLayout}
use Rattle.ref_words.{specs.{AreaSteps.{side_spare_filled}, Rule.{RefRule}, Words.{Words, listed_bit}}, proofs.Frees.{AreKept-app, free_places-hands}}
use Rattle.ref_words.proofs.{RingSteps.{rings-app, rings-words}, SideSteps.{own-was, SidesRule-app, mine}, SlotSteps.{DifferInSlots, RefRule-slot, no-word}}
use Rattle.ref_words.{specs.Sides.{AreByLine}, proofs.LineLemmas.{AreByLine-app, AreByLine-filled}}

module _ (setting : Setting) (words words' : Words) (nic : NicSide) (apps : List AppSide) (a : ℕ) (app : AppSide) (rule : RefRule setting words nic apps)
    (here : IsApp apps a app) (differ : DifferInSlots setting words words') (notes : words'.notes ≡ words.notes)
    (refills : words'.refills ≡ words.refills) where
  -- What is to be known of the side after the step: its spares, its readings and what it has at hand may change.
  pub record IsTextStep (now : AppSide) : Type 0 where
    pub same : now ≡ record {
      view = record app.view { owns = now.view.owns; reads = now.view.reads };
      inside = record app.inside { making = now.inside.making };
    }
    pub placed : (b : ℕ) → ArePlaced b nic (set apps a now)
    pub lines : (b : ℕ) → AreByLine b nic (set apps a now)
    pub by_one : (b : ℕ) → IsFilledByOne b nic (set apps a now)
    pub fit : FillingsFit nic (set apps a now)
    pub made : IsMadeLast nic (set apps a now)
    pub counts : (b : ℕ) → app_count b nic now ≡ app_count b nic app

  module _ (now : AppSide) (step : IsTextStep now) where
    abbrev like : AppSide
    like = record {
      view = record app.view { owns = now.view.owns; reads = now.view.reads };
      inside = record app.inside { making = now.inside.making };
    }

    is : IsTextStep like
    is = subst IsTextStep step.same step

    abbrev apps' : List AppSide
    apps' = set apps a like

    pools : (b : ℕ) → pool_count b nic apps' ≡ pool_count b nic apps
    pools b = omega (arith, pool_count-app b nic apps a app like here, is.counts b)

    pub RefRule-text : RefRule setting words' nic (set apps a now)
    RefRule-text =
        subst (λ x. RefRule setting words' nic (set apps a x)) (sym step.same)
        (RefRule-slot setting words words' nic nic apps apps' rule differ (record {
          sides = SidesRule-app setting nic apps a app rule.sides here like (record {
            placed = is.placed;
            lines = is.lines;
            by_one = is.by_one;
            fit = is.fit;
            made = is.made;
            returned = λ b. assumption (mine setting nic apps a app rule.sides here (EndedWereReturned b nic) (rule.sides.returned b));
            reserve = record { unheld = λ free. omega (arith, pools (reserve_of app.view), (rule.sides.reserves a app here).unheld free) };
            unheld = λ b past ne none. omega (arith, pools b, none);
            scrubbed = λ done. assumption (rule.sides.scrubbed a app here done);
            own = assumption (own-was setting nic apps a app rule.sides here);
          });
          pool = pools;
          users = λ x b. omega (arith, user_count-app x b nic apps a app like here);
          free = λ b. omega (arith, free_places-hands (listed_bit words) b nic apps a app like here);
          kept = AreKept-app (listed_bit words) nic apps a app like here refl rule.kept;
          rings = rings-words setting words words' nic apps' refills notes
              (rings-app setting words nic apps a app like here refl refl refl refl refl refl refl rule.rings);
        }))

  -- what it has at hand changes, or what it read
  pub has-at-hand : (reads : List Reading) (making : Option Making)
      → RefRule setting words' nic (set apps a (record { view = record app.view { reads = reads }; inside = record app.inside { making = making } }))
  has-at-hand reads making =
      let now : AppSide = record { view = record app.view { reads = reads }; inside = record app.inside { making = making } } in
      RefRule-text now (record {
        same = refl;
        placed = λ b. ArePlaced-app b nic apps a app now here (λ test. omega arith) (rule.sides.placed b);
        lines = λ b. AreByLine-app b nic apps a app now here refl (λ test. omega arith) (rule.sides.lines b);
        by_one = λ b. IsFilledByOne-app b nic apps a app now here (omega arith) (omega arith) (rule.sides.by_one b);
        fit = FillingsFit-same nic apps a app now here refl rule.sides.fit;
        made = IsMadeLast-app nic apps a app now here (λ b test. omega arith) rule.sides.made;
        counts = λ b. refl;
      })

  -- a spare is filled, while nothing is at hand
  fills : (own : Filling) (bytes : List ℕ) → HasSpare app.view own → own.start ≡ 0
      → 0 < length bytes → length bytes ≤ 256
      → RefRule setting words' nic (set apps a (app_at app (filled app.view own bytes)))
  fills own bytes out begin some few =
      let layout : IsLayout nic.view.setting.layout = subst (λ (s : Setting). IsLayout s.layout) (sym rule.sides.set.card) rule.layout in
      RefRule-text (app_at app (filled app.view own bytes)) (record {
        same = refl;
        placed = λ b. ArePlaced-filled b nic apps a app own bytes here out begin some few layout rule.sides.fit (rule.sides.by_one b) (rule.sides.placed b);
        lines = λ b. AreByLine-filled b nic apps a app own bytes here out (rule.sides.by_one b) (rule.sides.lines b);
        by_one = λ b. IsFilledByOne-filled b nic apps a app own bytes here out (rule.sides.by_one b);
        fit = FillingsFit-filled nic apps a app own bytes here out begin few layout rule.sides.fit;
        made = IsMadeLast-filled nic apps a app own bytes here out rule.sides.by_one rule.sides.made;
        counts = λ b. app_count-filled b nic app own bytes out;
      })

-- the lines of a spare are given back with its text
pub fills-spare : (setting : Setting) (words words' : Words) (nic : NicSide) (apps : List AppSide) (a : ℕ) (app : AppSide)
    → RefRule setting words nic apps → IsApp apps a app → DifferInSlots setting words words' → words'.notes ≡ words.notes
    → words'.refills ≡ words.refills → (own : Filling) (bytes : List ℕ) → HasSpare app.view own → own.start ≡ 0 → 0 < length bytes → length bytes ≤ 256
    → RefRule setting words' nic (set apps a (side_spare_filled app own bytes))
fills-spare setting words words' nic apps a app rule here differ notes refills own bytes out begin some few =
    let idle : AppSide = record app { inside = record app.inside { making = None } } in
    let was = has-at-hand setting words words nic apps a app rule here (no-word setting words rule.sizes) refl refl app.view.reads None in
    let there : IsApp (set apps a idle) a idle = record {
      there = omega (arith, here.there, length-set apps a idle);
      is = get_or-set_same apps a idle idle here.there;
      number = here.number;
    } in
    subst (RefRule setting words' nic) (set-set apps a idle (side_spare_filled app own bytes))
    (fills setting words words' nic (set apps a idle) a idle was there differ notes refills own bytes out begin some few)
