use Rattle.rv_text.specs.Sections.{SectionText}
use Rattle.rv_fault.specs.Parts.{section_of}
use Rattle.rv_check.specs.ScriptLines.{lines_behind}
use Rattle.rv_check.proofs.Commanded.{lines_end}
use Rattle.rv_check.proofs.commands.count_commands.Goals as goal

pub returns : goal.returns
returns c =
    let section : SectionText = section_of c.args.part.now in
    lines_end c.args.catalogue (lines_behind section c.args.others) c.loop-number.review c.loop-number.lines c.end.result c.in_default.ensures.none c.loop-number.invariant c.end.ensures
