use Rattle.rv_text.specs.Sections.{SectionText}
use Rattle.rv_fault.specs.Parts.{section_of}
use Rattle.rv_check.specs.Scripts.{OfRun, commands_line}
use Rattle.rv_check.proofs.Checking.{said_one}
use Rattle.rv_check.proofs.Judged.{commands_said, commands_told, devices_told}
use Rattle.rv_check.proofs.script.check_commands.Goals as goal

pub returns-in-Ok-count_commands : goal.returns-in-Ok-count_commands
returns-in-Ok-count_commands g c =
    let section : SectionText = section_of c.args.part.now in
    let count = c.in-Ok-count_commands.count in
    said_one _ _ (OfRun c.args.line c.args.devices.now c.args.catalogue section c.args.others) (commands_line count) c.say.result
    (commands_said c.args.line count c.args.devices.now c.args.catalogue c.load_devices.new.catalogue section c.args.others c.in-Ok.ensures c.in-Ok-count_commands.ensures) (c.say.ensures _ c.commands_line.ensures)

pub returns-in-Err-count_commands : goal.returns-in-Err-count_commands
returns-in-Err-count_commands g c =
    commands_told c.args.line c.args.devices.now c.args.catalogue c.load_devices.new.catalogue (section_of c.args.part.now) c.args.others (g.W.Write.contents c.args.writer.now) c.in-Err-count_commands.failure c.in-Ok.ensures c.in-Err-count_commands.ensures

pub returns-in-Err : goal.returns-in-Err
returns-in-Err g c = devices_told c.args.line c.args.devices.now c.args.catalogue c.load_devices.new.catalogue (section_of c.args.part.now) c.args.others (g.W.Write.contents c.args.writer.now) c.in-Err.failure c.in-Err.ensures
