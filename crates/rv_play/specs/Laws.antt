-- The commands of what was told (own).
use Rattle.std.specs.Prelude.{List, [], ◌∷◌, Option, Some, None}
use Rattle.rv_event.specs.declared.entry.Answer.{Answer}
use Rattle.rv_history.specs.declared.command.Command.{Command}
use Rattle.rv_play.specs.Scripted.{Told}

-- a command, and its answer, where there is one, before others
abbrev pub commands_onto : Option Command → List Command → List Command
commands_onto None others = others
commands_onto (Some command) others = command ∷ others

abbrev pub answers_onto : Option Command → Answer → List Answer → List Answer
answers_onto None answer others = others
answers_onto (Some command) answer others = answer ∷ others

-- the commands of what was told, and their answers
abbrev pub commands : List Told → List Command
commands [] = []
commands (t ∷ told) = commands_onto t.deed.command (commands told)

abbrev pub answers : List Told → List Answer
answers [] = []
answers (t ∷ told) = answers_onto t.deed.command t.answer (answers told)
