use Rattle.std.proofs.Common.{arith, ◌+◌, ◌<◌, refl, length}
use Rattle.ref_words.{specs.Seated.{due_view}, proofs.{Roles.{card-enters, app-enters, role-taken}, Seating.{due-untaken}}}
use Rattle.ref_words.proofs.laws.roles.role_is_taken.Goals as goal

pub returns : goal.returns
returns c = record {
  card = λ setting words views nic apps id seated rule at.
      let there : 0 < length words.roles = omega (arith, rule.refs.sizes.roles) in
      record {
        untaken = due-untaken words.roles views seated.dealt id 0 (due_view 0) at refl there;
        seated = card-enters setting words.roles views nic apps seated id at there;
        rule = record {
          texts = rule.texts;
          refs = role-taken setting words nic apps 0 rule.refs;
          phases = rule.phases;
        };
      };
  app = λ setting words views nic apps id a seated rule at small.
      let there : 1 + a < length words.roles = omega (arith, rule.refs.sizes.roles, small) in
      record {
        untaken = due-untaken words.roles views seated.dealt id (1 + a) (due_view (1 + a)) at refl there;
        seated = app-enters setting words.roles views nic apps seated id a at small there;
        rule = record {
          texts = rule.texts;
          refs = role-taken setting words nic apps (1 + a) rule.refs;
          phases = rule.phases;
        };
      };
}
