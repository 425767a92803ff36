-- A role lists a buffer that it has in hand.
use Rattle.std.{proofs.Common.{◌≡◌, ℕ, ◌+◌, ◌≤◌, false, List, set, refl, arith}, specs.Prelude.{◌==◌, nat_eq, count_by, Contains}}
use Rattle.board_face.specs.{Sides.{IsApp}, FreeOnce.{free_places}, Used.{HasFewPicks}, declared.views.{parts.Setting.{Setting}, nic.NicSide.{NicSide}}}
use Rattle.board_face.{specs.declared.views.app.AppSide.{AppSide}, proofs.{Tallies.{one_if}, Counting.{weight-none, weight-same}}}
use Rattle.ref_words.specs.{Words.{Words, listed_bit, with_listed}, FreeSteps.{side_nic_listed, side_app_listed}, Rule.{RefRule}}
use Rattle.ref_words.proofs.{Frees.{AreKept-app, free_places-hands, in-hands, count-taken}, RingSteps.{rings-card}, CardSteps.{SidesRule-card}, SideSteps.{mine}}
use Rattle.ref_words.proofs.{FreeWords.{RefRule-free, AreKept-listed, listed-more, in-list, one-place}, LineLemmas.{AreByLine-like}}
use Rattle.ref_words.proofs.AppHands as hands

-- a buffer in hand is counted there
has-one : (b : ℕ) (xs : List ℕ) → Contains xs b → 1 ≤ count_by (nat_eq b) xs
has-one b xs has = omega (arith, count-taken b xs has b, weight-same b)

module _ (setting : Setting) (words : Words) (nic : NicSide) (apps : List AppSide) (b : ℕ) (rule : RefRule setting words nic apps) where
  -- ---- the card

  module _ (has : Contains nic.inside.hands b) where
    abbrev now : NicSide
    now = side_nic_listed nic b

    some : 1 ≤ free_places (listed_bit words) b nic apps
    some = omega (arith, has-one b nic.inside.hands has)

    pub unlisted : listed_bit words b ≡ false
    unlisted = weight-none (listed_bit words b) (omega (arith, one-place setting words nic apps b rule some, has-one b nic.inside.hands has))

    more : (x : ℕ) → one_if (listed_bit (with_listed words b) x) ≡ one_if (listed_bit words x) + one_if (b == x)
    more = listed-more words b (in-list setting words nic apps b rule some) unlisted

    pub by-card : RefRule setting (with_listed words b) now apps
    by-card = RefRule-free setting words nic now apps apps _ _ rule (record {
      sides = SidesRule-card setting nic now apps rule.sides (record {
        placed = λ x. assumption (rule.sides.placed x);
        lines = λ x. AreByLine-like x nic apps now (λ test. refl) (λ test app. refl) (rule.sides.lines x);
        by_one = λ x. assumption (rule.sides.by_one x);
        fit = assumption rule.sides.fit;
        made = record { last = rule.sides.made.last };
        taken = λ k x here. assumption (rule.sides.taken k x here);
        unheld = λ x past none. none;
        own = assumption rule.sides;
      });
      pool = λ x. refl;
      users = λ x y. refl;
      free = λ x. omega (arith, more x, count-taken b nic.inside.hands has x);
      kept = assumption (AreKept-listed (listed_bit words) (listed_bit (with_listed words b)) nic apps (λ x. omega (arith, more x)) rule.kept);
      rings = rings-card setting words nic now apps refl refl refl refl rule.rings;
    })

  -- ---- an application

  module _ (a : ℕ) (app : AppSide) (here : IsApp apps a app) (has : Contains app.inside.hands b) where
    abbrev side : AppSide
    side = side_app_listed app b

    some-app : 1 ≤ free_places (listed_bit words) b nic apps
    some-app = omega (arith, in-hands (listed_bit words) b nic apps a app here, has-one b app.inside.hands has)

    elsewhere : free_places (listed_bit words) b nic (set apps a side) ≡ 0
    elsewhere = omega (
      arith,
      free_places-hands (listed_bit words) b nic apps a app side here,
      count-taken b app.inside.hands has b,
      weight-same b,
      one-place setting words nic apps b rule some-app,
    )

    pub unlisted-app : listed_bit words b ≡ false
    unlisted-app = weight-none (listed_bit words b) (let e = elsewhere in omega arith)

    more-app : (x : ℕ) → one_if (listed_bit (with_listed words b) x) ≡ one_if (listed_bit words x) + one_if (b == x)
    more-app = listed-more words b (in-list setting words nic apps b rule some-app) unlisted-app

    pub by-app : RefRule setting (with_listed words b) nic (set apps a side)
    by-app = RefRule-free setting words nic nic apps (set apps a side) _ _ rule (record {
      sides = hands.sides setting words nic apps a app rule here app.view.picked side.inside.hands app.inside.words_without
          (assumption (mine setting nic apps a app rule.sides here HasFewPicks rule.sides.few));
      pool = hands.pools setting words nic apps a app rule here app.view.picked side.inside.hands app.inside.words_without;
      users = hands.users setting words nic apps a app rule here app.view.picked side.inside.hands app.inside.words_without;
      free = λ x. omega (
        arith,
        more-app x,
        free_places-hands (listed_bit words) x nic apps a app side here,
        count-taken b app.inside.hands has x,
      );
      kept = AreKept-listed (listed_bit words) (listed_bit (with_listed words b)) nic (set apps a side) (λ x. omega (arith, more-app x))
          (AreKept-app (listed_bit words) nic apps a app side here refl rule.kept);
      rings = hands.rings setting words nic apps a app rule here app.view.picked side.inside.hands app.inside.words_without;
    })
