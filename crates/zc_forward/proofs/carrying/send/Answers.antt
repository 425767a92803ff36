use Rattle.std.proofs.Common.{rules, arith}
use Rattle.zc_poll.proofs.PourTurns.{only-reads-none}
use Rattle.zc_forward.proofs.{Live.{loan-has}, Sents.{found-push}}
use Rattle.zc_forward.proofs.carrying.send.Goals as goal

pub returns-then-is_err-clause-tags : goal.returns-then-is_err-clause-tags
returns-then-is_err-clause-tags g c = λ none.
    absurd (omega (arith, none, loan-has (g.F.AppFace.seen c.args.stream.now.face) c.requires.holds.stands.common.apart c.args.sent.now.loan c.requires.holds.out))

-- no byte was carried
pub returns-then-is_err-clause-carries : goal.returns-then-is_err-clause-carries
returns-then-is_err-clause-carries g c = record {
  only = only-reads-none (g.F.AppFace.seen c.args.stream.now.face);
  counted = search rules;
  gained = search rules;
  others = search rules;
  later = search rules;
  still = λ none.
      absurd (omega (arith, none, loan-has (g.F.AppFace.seen c.args.stream.now.face) c.requires.holds.stands.common.apart c.args.sent.now.loan c.requires.holds.out));
  cause = search rules;
  appended = search rules;
  pace = search rules;
}

pub carry_loan-requires-clause-begun : goal.carry_loan-requires-clause-begun
carry_loan-requires-clause-begun g c =
    let pushed = found-push c.args.sent.now.tag c.args.sent.now.flow (g.C.Carrier.tags c.args.carrier.now) c.requires.free in
    search rules
