-- The report's text at small values.
use Rattle.std.{proofs.Common.{◌≡◌, [], ◌∷◌, ◌++◌, true, codes, refl}, specs.Fmt.{digits}}
use Rattle.zr_kinds.specs.declared.{behaviour.Stopped.TheVariants.{No}, outcome.FlowEnd.TheVariants.{Whole}}
use Rattle.top_call.specs.Report.{report_of, capture_line, app_line, flow_line, pool_line}

-- three records, one application, one flow, no refused frame
one_flow :
    report_of record { records = 3; tcp = 3; steered = 3; other = 0; fragment = 0; cut = 0; bad = 0 }
    (record { port = 9000; written = 5; loans = 1; copied = 0; stopped = No } ∷ [])
    (record { port = 9000; base = 1001; bytes = 5; fin = true; end = Whole } ∷ []) []
    record { fast = 0; refill = 0; slow = 1; empty = 0; strays = 0 }
    0
    ≡ codes "capture records 3 tcp 3 steered 3 other 0 fragment 0 cut 0 bad 0" ++ 10 ∷ codes "app 0 port 9000 written 5 loans 1 copied 0 stopped no"
    ++ 10 ∷ codes "flow 0 port 9000 base 1001 bytes 5 fin yes end whole" ++ 10 ∷ codes "pool fast 0 refill 0 slow 1 empty 0 strays 0" ++ 10 ∷ codes "status 0"
    ++ 10 ∷ []
unfolding capture_line app_line flow_line pool_line digits
one_flow = refl

-- two refused frames and nothing else
two_refused :
    report_of record { records = 0; tcp = 0; steered = 0; other = 0; fragment = 0; cut = 0; bad = 0 } [] [] (2 ∷ 16 ∷ [])
    record { fast = 1; refill = 2; slow = 3; empty = 4; strays = 5 }
    9
    ≡ codes "capture records 0 tcp 0 steered 0 other 0 fragment 0 cut 0 bad 0" ++ 10 ∷ codes "refused 2" ++ 10 ∷ codes "refused 16" ++ 10
    ∷ codes "pool fast 1 refill 2 slow 3 empty 4 strays 5" ++ 10 ∷ codes "status 9" ++ 10 ∷ []
unfolding capture_line pool_line digits
two_refused = refl
