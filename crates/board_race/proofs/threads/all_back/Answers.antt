-- The last lane goes back, and once none is left all are.
use Rattle.std.proofs.{Common.{rules, ◌≡◌, ◌+◌, ◌++◌, ◌∷◌, [], ap, arith, length, refl, subst}, lemmas.List.{length_push}}
use Rattle.board_race.{specs.Lanes.{AreAt, SayLeft}, proofs.LaneLists.{AreAt-front, AreAt-last, SayLeft-front, back-more}}
use Rattle.board_race.proofs.threads.all_back.Goals as goal

pub loop-lane-init : goal.loop-lane-init
loop-lane-init c = (
  rw c.requires.desk c.requires.lanes,
  c.requires.left,
  rw c.back.ensures.desk refl,
  rw (c.back.ensures.desk, c.requires.bare.0) refl,
  (λ a from below. absurd (omega (arith, from, below, c.requires.all, ap (λ b. b.setting.layout.reserves) c.requires.desk))),
)

pub loop-lane-preserved : goal.loop-lane-preserved
loop-lane-preserved c =
    let was = c.loop-lane.invariant in
    let split : c.loop-lane.lanes.items ≡ c.pop.new.self.items ++ c.in-Some.lane ∷ [] = c.in-Some.ensures.items in
    let at = subst (AreAt c.args.desk.now.board) split was.0 in
    let last = AreAt-last c.args.desk.now.board c.pop.new.self.items c.in-Some.lane at in
    let many : length c.loop-lane.lanes.items ≡ length c.pop.new.self.items + 1 = omega (arith, ap length split, length_push c.pop.new.self.items c.in-Some.lane) in (
      AreAt-front c.args.desk.now.board c.pop.new.self.items c.in-Some.lane at,
      SayLeft-front c.pop.new.self.items c.in-Some.lane (subst SayLeft split was.1),
      rw c.back-in-Some.ensures.desk was.2,
      rw c.back-in-Some.ensures.desk (search rules),
      rw c.back-in-Some.ensures.desk (back-more (length c.pop.new.self.items) _ c.loop-lane.desk.view _ (λ a from. was.4 a (omega (arith, from, many))) last.1),
    )
