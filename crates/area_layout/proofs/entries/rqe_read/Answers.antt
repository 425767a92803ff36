use Rattle.std.proofs.Common.{◌≡◌, ◌∙◌, ap, rules}
use Rattle.area_layout.{specs.Entries.{refill_bytes, refill_of}, proofs.Bytes.{refill_back}}
use Rattle.area_layout.proofs.entries.rqe_read.Goals as goal

pub returns-clause-bytes_back : goal.returns-clause-bytes_back
returns-clause-bytes_back c =
    let read : record { off = c.read_u64.result; len = c.read_u32.result; pad = c.read_u32-2.result } ≡ refill_of c.args.b.now = search rules in
    ap refill_bytes read ∙ refill_back c.args.b.now (search rules) (search rules)
