-- No first line, a first line that says no setting, and the lines behind it.
use Rattle.std.proofs.Common.{◌∙◌, true, sym, ap, subst, Some, None}
use Rattle.zr_kinds.specs.declared.fault.Fault.{Fault}
use Rattle.run_check.{specs.{Coming.{ReadsLine, ahead}, Reading.{IsSettingOfLine, setting_of}}, proofs.Telling.{first_behind, no_first_line, no_first_setting}}
use Rattle.run_check.proofs.checking.check.Goals as goal

pub returns-then-not-branch-clause-judges : goal.returns-then-not-branch-clause-judges
returns-then-not-branch-clause-judges g c =
    let reads = c.in_ok-read.ensures.reads in
    let fresh = c.in-Ok.ensures in
    no_first_line c.in-Ok.lines.bytes (g.S.Source.left c.args.source.now) fresh
    (subst (ReadsLine (ahead c.in-Ok.lines.bytes (g.S.Source.left c.args.source.now)) (ahead c.read.new.self.bytes (g.S.Source.left c.read.new.source)) c.read.new.self.line.items)
    c.if-not-branch.true reads)

pub returns-in-Ok-None-clause-judges : goal.returns-in-Ok-None-clause-judges
returns-in-Ok-None-clause-judges g c =
    let reads = c.in_ok-read.ensures.reads in
    let took : ReadsLine (ahead c.in-Ok.lines.bytes (g.S.Source.left c.args.source.now)) (ahead c.read.new.self.bytes (g.S.Source.left c.read.new.source)) c.read.new.self.line.items true =
    subst (ReadsLine (ahead c.in-Ok.lines.bytes (g.S.Source.left c.args.source.now)) (ahead c.read.new.self.bytes (g.S.Source.left c.read.new.source)) c.read.new.self.line.items)
    c.if-not-branch.false reads in
    let setting = c.in-Ok-None.ensures in
    no_first_setting c.in-Ok.lines.bytes (g.S.Source.left c.args.source.now) (ahead c.read.new.self.bytes (g.S.Source.left c.read.new.source)) c.read.new.self.line.items
    c.in-Ok.ensures took.0 took.1
    (subst (λ l. IsSettingOfLine l None) c.line.ensures (subst (IsSettingOfLine c.line.result.now) c.in-Ok-None.field-0-is setting))

pub returns-clause-judges : goal.returns-clause-judges
returns-clause-judges g c =
    let reads = c.in_ok-read.ensures.reads in
    let took : ReadsLine (ahead c.in-Ok.lines.bytes (g.S.Source.left c.args.source.now)) (ahead c.read.new.self.bytes (g.S.Source.left c.read.new.source)) c.read.new.self.line.items true =
    subst (ReadsLine (ahead c.in-Ok.lines.bytes (g.S.Source.left c.args.source.now)) (ahead c.read.new.self.bytes (g.S.Source.left c.read.new.source)) c.read.new.self.line.items)
    c.if-not-branch.false reads in
    let setting = c.in-Ok-Some.ensures in
    let told : IsSettingOfLine c.line.result.now (Some c.in-Ok-Some.setting) = subst (IsSettingOfLine c.line.result.now) c.in-Ok-Some.field-0-is setting in
    first_behind Fault c.in-Ok.lines.bytes (g.S.Source.left c.args.source.now) (ahead c.read.new.self.bytes (g.S.Source.left c.read.new.source))
    c.read.new.self.line.items c.in-Ok-Some.setting c.check_events.result c.in-Ok.ensures took.0 (ap setting_of (sym c.line.ensures) ∙ told.0)
    c.check_events.ensures.judges
