use Rattle.rv_history.proofs.Lines.{lines_tell}
use Rattle.rv_history.proofs.Room.{few_entries}
use Rattle.rv_history.proofs.laws.words.histories_differ_in_their_lines.Goals as goal

pub returns : goal.returns
returns c = λ h k legal lawful some most more least. lines_tell h k legal lawful (few_entries h some most legal) (few_entries k more least lawful)
