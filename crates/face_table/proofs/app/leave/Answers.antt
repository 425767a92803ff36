-- Where the hand has no token, none is out.
use Rattle.std.proofs.Common.{rules}
use Rattle.face_table.proofs.Tokens.{helds-none, loans-none, owns-none}
use Rattle.face_table.proofs.app.leave.Goals as goal

pub leave-requires-clause-can : goal.leave-requires-clause-can
leave-requires-clause-can g c = record {
  scrubbed = search rules;
  ended = search rules;
  helds = helds-none _ _ c.requires (search rules) (search rules);
  loans = loans-none _ _ c.requires (search rules);
  spares = owns-none _ _ c.requires (search rules);
}
