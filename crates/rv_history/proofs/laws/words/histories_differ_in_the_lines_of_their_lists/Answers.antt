use Rattle.rv_history.proofs.Lines.{lines_tell_lists}
use Rattle.rv_history.proofs.Room.{few_entries}
use Rattle.rv_history.proofs.laws.words.histories_differ_in_the_lines_of_their_lists.Goals as goal

pub returns : goal.returns
returns c = λ h k legal lawful spelled said some most more least.
    lines_tell_lists h k legal lawful spelled said (few_entries h some most legal) (few_entries k more least lawful)
