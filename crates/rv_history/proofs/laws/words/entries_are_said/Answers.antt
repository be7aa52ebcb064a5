use Rattle.rv_history.proofs.Room.{few_entries}
use Rattle.rv_history.proofs.Told.{entry_told}
use Rattle.rv_history.proofs.laws.words.entries_are_said.Goals as goal

pub returns : goal.returns
returns c = λ h actor request word legal some most said. entry_told h actor request word legal (few_entries h some most legal) said
