-- An application clears the bit of a buffer in the free list: it picks the buffer, or another was faster.
use Rattle.std.proofs.Common.{◌≡◌, ℕ, ◌+◌, ◌/◌, ◌<◌, ◌≤◌, Bool, true, false, List, [], ◌∷◌, ◌++◌, set, refl, ap, sym, arith, subst, length-append}
use Rattle.std.{specs.Prelude.{◌==◌, nat_eq, nat_lt, count_by, if◌then◌else◌}, proofs.lemmas.Bool.{lt-ltb}}
use Rattle.area_layout.specs.Layout.{pool_buffers}
use Rattle.board_face.specs.{AppCalls.{MaySpare}, NicCalls.{free_words_of}, NicEvents.{word_bits}, Sides.{IsApp}, FreeOnce.{free_places}, Steps.{side_picked}}
use Rattle.board_face.specs.{Used.{HasFewPicks, PicksAreGiven, picked_buffers}, declared.views.{parts.Setting.{Setting}, nic.NicSide.{NicSide}, app.AppSide.{AppSide}}}
use Rattle.board_face.proofs.{Tallies.{one_if}, Counting.{count-append, count-push, weight-swap}}
use Rattle.ref_words.specs.{Words.{Words, listed_bit, with_unlisted}, FreeSteps.{side_word_without, side_bit_cleared}, Rule.{RefRule}}
use Rattle.ref_words.proofs.{Frees.{AreKept-app, free_places-hands, picked-moved}, SideSteps.{mine, own-setting}}
use Rattle.ref_words.proofs.FreeWords.{RefRule-free, AreKept-listed, listed-fewer, listed-same, of-pool, in-list}
use Rattle.ref_words.proofs.AppHands as hands

module _ (setting : Setting) (words : Words) (nic : NicSide) (apps : List AppSide) (a : ℕ) (app : AppSide) (b : ℕ)
    (rule : RefRule setting words nic apps) (here : IsApp apps a app) where
  was-few : HasFewPicks app
  was-few = mine setting nic apps a app rule.sides here HasFewPicks rule.sides.few

  -- ---- the bit was set

  module _ (due : MaySpare app.view) (given : PicksAreGiven app) (listed : listed_bit words b ≡ true) where
    some : 1 ≤ free_places (listed_bit words) b nic apps
    some = omega (arith, ap one_if listed)

    pub small : b < pool_buffers setting.layout
    small = of-pool setting words nic apps b rule some

    abbrev picks : List ℕ
    picks = app.view.picked ++ b ∷ []

    abbrev held : List ℕ
    held = app.inside.hands ++ b ∷ []

    abbrev like : AppSide
    like = record { view = record app.view { picked = picks }; inside = record app.inside { hands = held } }

    abbrev apps' : List AppSide
    apps' = set apps a like

    is : side_picked app b ≡ like
    is =
        let inside : nat_lt b (pool_buffers app.view.setting.layout) ≡ true = lt-ltb b (pool_buffers app.view.setting.layout)
        (let s = small in omega (arith, ap (λ s. pool_buffers s.layout) (own-setting setting nic apps a app rule.sides here))) in
        ap (λ c. record { view = record app.view { picked = if c then picks else app.view.picked }; inside = record app.inside { hands = held } }) inside

    fewer : (x : ℕ) → one_if (listed_bit (with_unlisted words b) x) + one_if (b == x) ≡ one_if (listed_bit words x)
    fewer = listed-fewer words b (in-list setting words nic apps b rule some) listed

    used-more : (x : ℕ) → count_by (nat_eq x) (nic.view.used ++ picked_buffers apps') ≡ count_by (nat_eq x) (nic.view.used ++ picked_buffers apps)
        + one_if (b == x)
    used-more x = omega (
      arith,
      picked-moved x apps a app like here,
      count-push x b app.view.picked,
      weight-swap x b,
      count-append x nic.view.used (picked_buffers apps'),
      count-append x nic.view.used (picked_buffers apps),
    )

    pub picked : RefRule setting (with_unlisted words b) nic (set apps a (side_picked app b))
    picked = subst (λ x. RefRule setting (with_unlisted words b) nic (set apps a x)) (sym is)
        (RefRule-free setting words nic nic apps apps' _ _ rule (record {
          sides = hands.sides setting words nic apps a app rule here picks held app.inside.words_without
              (let f = was-few in record { picks = omega (arith, given, due, length-append app.view.picked (b ∷ [])); spares = f.spares });
          pool = hands.pools setting words nic apps a app rule here picks held app.inside.words_without;
          users = hands.users setting words nic apps a app rule here picks held app.inside.words_without;
          free = λ x. omega (
            arith,
            fewer x,
            free_places-hands (listed_bit words) x nic apps a app like here,
            count-push x b app.inside.hands,
            weight-swap x b,
          );
          kept = record {
            kept = λ x within. omega (arith, rule.kept.kept x within, fewer x, used-more x);
            swept = λ x within gone. omega (arith, rule.kept.swept x within gone, used-more x);
          };
          rings = hands.rings setting words nic apps a app rule here picks held app.inside.words_without;
        }))

  -- ---- the bit was clear

  module _ (there : b / word_bits < free_words_of setting) (unlisted : listed_bit words b ≡ false) where
    abbrev side : AppSide
    side = side_word_without app (b / word_bits)

    same : (x : ℕ) → listed_bit (with_unlisted words b) x ≡ listed_bit words x
    same = listed-same words b (omega (arith, there, rule.sizes.free)) unlisted

    pub lost : RefRule setting (with_unlisted words b) nic (set apps a side)
    lost = RefRule-free setting words nic nic apps (set apps a side) _ _ rule (record {
      sides = hands.sides setting words nic apps a app rule here app.view.picked app.inside.hands side.inside.words_without
          (assumption was-few);
      pool = hands.pools setting words nic apps a app rule here app.view.picked app.inside.hands side.inside.words_without;
      users = hands.users setting words nic apps a app rule here app.view.picked app.inside.hands side.inside.words_without;
      free = λ x. omega (arith, ap one_if (same x), free_places-hands (listed_bit words) x nic apps a app side here);
      kept = AreKept-listed (listed_bit words) (listed_bit (with_unlisted words b)) nic (set apps a side) (λ x. omega (arith, ap one_if (same x)))
          (AreKept-app (listed_bit words) nic apps a app side here refl rule.kept);
      rings = hands.rings setting words nic apps a app rule here app.view.picked app.inside.hands side.inside.words_without;
    })

  pub clears : b / word_bits < free_words_of setting → MaySpare app.view → PicksAreGiven app → (c : Bool) → listed_bit words b ≡ c
      → RefRule setting (with_unlisted words b) nic (set apps a (side_bit_cleared app (b / word_bits) b c))
  clears there due given true listed = picked due given listed
  clears there due given false unlisted = lost there unlisted
