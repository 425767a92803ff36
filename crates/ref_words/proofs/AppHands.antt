-- What an application has in hand, what it picked and which words of the free list it looked at are all that changes.
use Rattle.std.proofs.Common.{◌≡◌, ℕ, List, set, refl, arith}
use Rattle.board_face.specs.{Sides.{IsApp}, AppEvents.{reserve_of}, Counts.{pool_count, user_count, EndedWereReturned}, Used.{HasFewPicks}}
use Rattle.board_face.{specs.declared.views.{parts.Setting.{Setting}, nic.NicSide.{NicSide}, app.AppSide.{AppSide}}, proofs.AppLemmas.{pool_count-app, user_count-app}}
use Rattle.board_face.proofs.{ArePlacedLemmas.{ArePlaced-app}, MadeLastLemmas.{IsMadeLast-app}, IsFilledByOneLemmas.{IsFilledByOne-app}}
use Rattle.board_face.proofs.FillingsFitLemmas.{FillingsFit-same}
use Rattle.ref_words.{specs.{Words.{Words}, Rule.{RefRule}, Sides.{SidesRule}}, proofs.{RingSteps.{AllRings, rings-app}, SideSteps.{own-was, SidesRule-app, mine}}}
use Rattle.ref_words.proofs.LineLemmas.{AreByLine-app}

module _ (setting : Setting) (words : Words) (nic : NicSide) (apps : List AppSide) (a : ℕ) (app : AppSide) (rule : RefRule setting words nic apps)
    (here : IsApp apps a app) (picked hands without : List ℕ) where
  abbrev pub now : AppSide
  now = record {
    view = record app.view { picked = picked };
    inside = record app.inside { hands = hands; words_without = without };
  }

  abbrev pub apps' : List AppSide
  apps' = set apps a now

  pub pools : (b : ℕ) → pool_count b nic apps' ≡ pool_count b nic apps
  pools b = omega (arith, pool_count-app b nic apps a app now here)

  pub users : (x b : ℕ) → user_count x b nic apps' ≡ user_count x b nic apps
  users x b = omega (arith, user_count-app x b nic apps a app now here)

  pub rings : AllRings setting words nic apps'
  rings = rings-app setting words nic apps a app now here refl refl refl refl refl refl refl rule.rings

  pub sides : HasFewPicks now → SidesRule setting nic apps'
  sides few = SidesRule-app setting nic apps a app rule.sides here now (record {
    placed = λ b. ArePlaced-app b nic apps a app now here (λ test. omega arith) (rule.sides.placed b);
    lines = λ b. AreByLine-app b nic apps a app now here refl (λ test. omega arith) (rule.sides.lines b);
    by_one = λ b. IsFilledByOne-app b nic apps a app now here (omega arith) (omega arith) (rule.sides.by_one b);
    fit = FillingsFit-same nic apps a app now here refl rule.sides.fit;
    made = IsMadeLast-app nic apps a app now here (λ b test. omega arith) rule.sides.made;
    returned = λ b. assumption (mine setting nic apps a app rule.sides here (EndedWereReturned b nic) (rule.sides.returned b));
    reserve = record { unheld = λ free. omega (arith, pools (reserve_of app.view), (rule.sides.reserves a app here).unheld free) };
    unheld = λ b past ne none. omega (arith, pools b, none);
    scrubbed = λ done. assumption (rule.sides.scrubbed a app here done);
    own = assumption (own-was setting nic apps a app rule.sides here, few);
  })
