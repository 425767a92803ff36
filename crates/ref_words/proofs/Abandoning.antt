-- An application abandons a loan: it is out no more, and owed for good, so no count of holders or users changes.
use Rattle.std.proofs.Common.{◌≡◌, ℕ, List, [], set, refl, ◌∙◌, arith, ◌<◌, ◌≤◌, length}
use Rattle.zr_kinds.specs.declared.place.Place.{Place}
use Rattle.board_face.specs.{AppEvents.{reserve_of}, AppCalls.{HasLoan}, Counts.{pool_count, user_count, EndedWereReturned}, Returns.{AreReturns, loans_out}}
use Rattle.board_face.specs.{Sides.{IsApp}, declared.views.{parts.Setting.{Setting}, nic.NicSide.{NicSide}, app.AppSide.{AppSide}}}
use Rattle.board_face.proofs.AppLemmas.{pool_count-app, user_count-app, app_count-abandoned, user_part-abandoned, EndedWereReturned-abandoned}
use Rattle.board_face.proofs.{ArePlacedLemmas.{ArePlaced-abandoned}, FillingsFitLemmas.{FillingsFit-same}, IsFilledByOneLemmas.{IsFilledByOne-abandoned}}
use Rattle.board_face.proofs.{MadeLastLemmas.{IsMadeLast-app}, OwnBufferLemmas.{AppLiesInOwn-abandoned}, PlacesByEvent.{app_places-abandoned}}
use Rattle.board_face.{proofs.WrittenLemmas.{loans-fewer, returned-more, owed-more, IsClear-fewer}, specs.Holders.{owed_in, returned_in}}
use Rattle.ref_words.specs.{Words.{Words, listed_bit}, Rule.{RefRule}, PhaseRule.{PhaseRule}, PhaseSteps.{side_abandoned}}
use Rattle.ref_words.proofs.{Frees.{AreKept-app, free_places-hands}, Phases.{phases-mine, phases-here}, PhasesByApp.{loan-here}, RingSteps.{rings-app}}
use Rattle.ref_words.proofs.{SideSteps.{mine, SidesRule-app, own-was}, SlotSteps.{no-word, RefRule-slot}, LineLemmas.{AreByLine-abandoned}}

module _ (setting : Setting) (words : Words) (nic : NicSide) (apps : List AppSide) (app : AppSide) (place : Place)
    (rule : RefRule setting words nic apps) (here : IsApp apps app.view.app app) (out : HasLoan app.view place) where
  abbrev a : ℕ
  a = app.view.app

  abbrev now : AppSide
  now = side_abandoned app place

  abbrev apps' : List AppSide
  apps' = set apps a now

  ended : (b : ℕ) → EndedWereReturned b nic app
  ended b = mine setting nic apps a app rule.sides here (EndedWereReturned b nic) (rule.sides.returned b)

  pools : (b : ℕ) → pool_count b nic apps' ≡ pool_count b nic apps
  pools b = omega (arith, pool_count-app b nic apps a app now here, app_count-abandoned b nic app place out (ended b))

  users : (x b : ℕ) → user_count x b nic apps' ≡ user_count x b nic apps
  users x b = omega (arith, user_count-app x b nic apps a app now here, user_part-abandoned x b nic app place out (ended b))

  some-loan : app.view.loans ≡ [] → ⊥
  some-loan none = let there = (rw none at out).1 in omega arith

  returns : AreReturns nic now
  returns =
      let was = rule.sides.returns a app here in
      record {
        written = λ b. omega (arith, was.written b, returned-more b app place);
        owed = λ b. omega (arith, was.owed b, owed-more b nic app place (ended b));
        no_more = λ b. omega (arith, was.written b, was.no_more b, owed-more b nic app place (ended b), returned-more b app place);
        clear = λ b. IsClear-fewer _ b (loans_out b app) (loans_out b now) _ (omega (arith, loans-fewer b app place out)) (was.clear b);
        named = was.named;
        settled = was.settled;
        quiet = was.quiet;
        scrubbed = was.scrubbed;
        strays = was.strays;
      }

  pub RefRule-abandoned : RefRule setting words nic apps'
  RefRule-abandoned =
      RefRule-slot setting words words nic nic apps apps' rule (no-word setting words rule.sizes) (record {
        sides = SidesRule-app setting nic apps a app rule.sides here now (record {
          placed = λ b. ArePlaced-abandoned b nic apps a app place here out (ended b) (rule.sides.placed b);
          lines = λ b. AreByLine-abandoned b nic apps a app place here out (ended b) (rule.sides.lines b);
          by_one = λ b. IsFilledByOne-abandoned b nic apps a app place here out (ended b) (rule.sides.by_one b);
          fit = FillingsFit-same nic apps a app now here refl rule.sides.fit;
          made = IsMadeLast-app nic apps a app now here (λ b test. omega (arith, app_places-abandoned b test nic app place out (ended b)))
              rule.sides.made;
          returned = λ b. EndedWereReturned-abandoned b nic app place (ended b);
          reserve = record { unheld = λ free. pools (reserve_of app.view) ∙ (rule.sides.reserves a app here).unheld free };
          unheld = λ b past ne none. pools b ∙ none;
          scrubbed = λ done. absurd (some-loan (rule.sides.scrubbed a app here done).loans);
          own = let was = own-was setting nic apps a app rule.sides here in
              let taken : (b : ℕ) → b < app.inside.scrub_mark → length (owed_in b nic now) ≡ 0 = λ b less.
              absurd (some-loan (was.scrub.loans (omega arith))) in
              let loans : 0 < app.inside.scrub_mark → now.view.loans ≡ [] = λ some. absurd (some-loan (was.scrub.loans some)) in
              let more : (b : ℕ) → length (returned_in b app) ≤ length (returned_in b now) = λ b. omega (arith, returned-more b app place) in
              assumption (was, returns, taken, loans, more);
        });
        pool = pools;
        users = users;
        free = λ b. omega (arith, free_places-hands (listed_bit words) b nic apps a app now here);
        kept = AreKept-app (listed_bit words) nic apps a app now here refl rule.kept;
        rings = rings-app setting words nic apps a app now here refl refl refl refl refl refl refl rule.rings;
      })

  pub abandoned-phases : PhaseRule setting words nic apps → PhaseRule setting words nic apps'
  abandoned-phases was =
      phases-here words.phases nic apps was a app here now refl refl refl refl refl (loan-here setting words nic apps rule was a app here place out)
      (AppLiesInOwn-abandoned app.view place out (phases-mine words.phases nic apps was a app here).lies)
