-- What went out before the sink failed is a front of the report.
use Rattle.std.{proofs.Common.{rules, ◌≡◌, ℕ, List, ◌++◌, take, drop, sym, ◌∙◌, take-append-drop}, specs.{Prelude.{Option}, Io.KnownBytes.{Appends}}}
use Rattle.zr_io.{specs.Moved.{Gained}, proofs.Moved.{Gained-added}}
use Rattle.top_call.specs.Report.{report_of}
use Rattle.top_call.proofs.report.write_report.Goals as goal

front : (old new : Option (List ℕ)) (text report : List ℕ) (n : ℕ) → Appends old new (take n text) → text ≡ report
    → Gained old new (λ sent. (rest : List ℕ) × (report ≡ sent ++ rest))
front old new text report n appends is =
    Gained-added old new (take n text) (λ sent. (rest : List ℕ) × (report ≡ sent ++ rest)) appends (drop n text, sym is ∙ sym (take-append-drop n text))

pub returns-clause-gained : goal.returns-clause-gained
returns-clause-gained g c =
    let said = c.args.report.now in
    let report = report_of said.tally.now said.apps.now said.flows.now said.refused.now said.pool.now said.status in
    let text : c.as_bytes.result.now ≡ report = search rules in (
      front (g.O.Sink.sent c.args.out.now) (g.O.Sink.sent c.write_all.new.self) c.as_bytes.result.now report c.in-Err.ensures.bytes.0 c.in-Err.ensures.bytes.1
          text,
      c.in-Err.ensures.cause.failed,
    )
