use Rattle.std.proofs.Common.{append_assoc}
use Rattle.cap_make.proofs.frame.put_record_header.Goals as goal

pub returns : goal.returns
returns c =
    rw (
      c.put-4.ensures,
      c.put-3.ensures,
      c.put-2.ensures,
      c.put.ensures,
      c.to_le_bytes-4.ensures,
      c.to_le_bytes-3.ensures,
      c.to_le_bytes-2.ensures,
      c.to_le_bytes.ensures,
    ) (simp append_assoc)
