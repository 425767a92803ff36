use Rattle.std.proofs.Common.{◌≡◌, ◌∷◌, [], refl, arith}
use Rattle.area_layout.{specs.Layout.{IsLayout}, proofs.Making.{made}}
use Rattle.ref_words.specs.{Runs.{MayRun, opened_state}, Middle.{small, steps}}
use Rattle.ref_words.proofs.laws.runs.the_rule_is_inhabited.Goals as goal

layout : IsLayout small.layout
layout = made ((2, 1024) ∷ []) 2 (record {
  few = (omega arith, omega arith);
  each = λ k d there.
      let e : k ≡ 0 = omega arith in
      rw e (record { some = (omega arith, omega arith); fits = record { power = (10, refl); least = omega arith; most = omega arith } });
  buffers = omega arith;
  bytes = omega arith;
  kept = (omega arith, omega arith);
})

may : MayRun small (opened_state small) steps
may = (
  (refl, refl),
  (
    (refl, refl),
    (
      (refl, refl),
      (
        refl,
        (
          (refl, omega arith),
          (
            (refl, omega arith),
            (
              (refl, (omega arith, omega arith)),
              ((refl, refl, tt), ((refl, (refl, refl)), ((refl, refl, omega arith), ((refl, ((0, omega arith, refl), omega arith, omega arith, refl)), tt)))),
            ),
          ),
        ),
      ),
    ),
  ),
)

pub returns : goal.returns
returns c = record {
  layout = layout;
  may = may;
  keeps = (c.runs_keep_the_rule.ensures small steps layout (omega arith) may).0;
  card = refl;
  count = refl;
  first = refl;
  second = refl;
}
