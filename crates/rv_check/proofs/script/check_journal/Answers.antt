use Rattle.std.proofs.Common.{ap, refl}
use Rattle.rv_fault.specs.Parts.{section_of}
use Rattle.rv_check.specs.Scripts.{OfJournal, journal_line}
use Rattle.rv_check.proofs.Checking.{said_one}
use Rattle.rv_check.proofs.script.check_journal.Goals as goal

pub returns : goal.returns
returns g c =
    said_one _ _ (OfJournal (section_of c.args.part.now)) (journal_line c.count_lines.result) c.say.result
    (ap journal_line c.count_lines.ensures, refl) (c.say.ensures _ c.journal_line.ensures)
