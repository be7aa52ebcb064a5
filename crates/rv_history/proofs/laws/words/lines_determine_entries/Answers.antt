use Rattle.rv_history.proofs.Room.{few_entries}
use Rattle.rv_history.proofs.Told.{line_tells}
use Rattle.rv_history.proofs.laws.words.lines_determine_entries.Goals as goal

pub returns : goal.returns
returns c = λ h number actor other request another word answer unit list more_unit more_list legal some most.
    line_tells h number actor other request another word answer unit list more_unit more_list legal (few_entries h some most legal)
