use Rattle.std.proofs.Common.{List, subst}
use Rattle.rv_text.specs.Sections.{SectionText}
use Rattle.rv_check.specs.Checks.{TellsAll}
use Rattle.rv_check.specs.Scripts.{judged, judging}
use Rattle.rv_check.proofs.Checked.{front_told, settings_told}
use Rattle.rv_check.proofs.Judged.{judged_told}
use Rattle.rv_check.proofs.script.check_script_text.Goals as goal

pub returns-in-Err : goal.returns-in-Err
returns-in-Err g c = rw c.refused.ensures (front_told judged c.args.text.now (g.W.Write.contents c.args.writer.now) c.in-Err.line c.in-Err.ensures.err)

pub returns-in-Err-settings_of : goal.returns-in-Err-settings_of
returns-in-Err-settings_of g c =
    settings_told judged c.args.text.now (g.W.Write.contents c.args.writer.now) _ c.in-Err-settings_of.failure c.in-Ok.ensures.ok c.in-Err-settings_of.ensures

pub returns : goal.returns
returns g c =
    let by = judging c.purpose_in.result c.settings_line-line.result c.devices.result.now in
    let told = subst (λ (sections : List SectionText). TellsAll by (g.W.Write.contents c.args.writer.now) (g.W.Write.contents c.check_all.new.writer) sections c.check_all.result) c.of.ensures c.check_all.ensures in
    judged_told c.args.text.now (g.W.Write.contents c.args.writer.now) (g.W.Write.contents c.check_all.new.writer) _ c.in-Ok-settings_of.settings c.purpose_in.result c.settings_line-line.result c.devices.result.now c.check_all.result
    c.in-Ok.ensures.ok c.in-Ok-settings_of.ensures (c.purpose_in.ensures _ c.in-Ok.ensures.ok) c.settings_line-line.ensures c.devices.ensures told
