-- What a list of commands leads to, answer by answer (own).
use Rattle.std.specs.Prelude.{◌≡◌, ◌⊎◌, List, [], ◌∷◌}
use Rattle.rv_access.specs.declared.change.Change.{Change}
use Rattle.rv_event.specs.declared.entry.Answer.{Answer}
use Rattle.rv_event.specs.declared.entry.Answer.TheVariants.{OutOfMemory}
use Rattle.rv_history.specs.declared.command.Command.{Command}
use Rattle.rv_history.specs.declared.command.Command.TheVariants as Commands
use Rattle.rv_history.specs.History.{History, force}
use Rattle.rv_access.specs.Changes.{changed}
use Rattle.rv_history.specs.Due.{out, nothing_more}
use Rattle.rv_history.specs.Legal.{after, out_load, after_load, out_list, after_list}

-- the answer that is due to a change of the list
abbrev pub due_change : History → Change → Answer
due_change h change = out_list h (changed (force h) change)

-- the history after an answer to it
abbrev pub after_change : History → Change → Answer → History
after_change h change answer = after_list h (changed (force h) change) answer

-- the answer that is due to a command
abbrev pub due_command : History → Command → Answer
due_command h (Commands.Ask actor request) = out h actor request
due_command h (Commands.Load shape) = out_load h shape
due_command h (Commands.Change change) = due_change h change

-- the history after an answer to a command
abbrev pub after_command : History → Command → Answer → History
after_command h (Commands.Ask actor request) answer = after h actor request answer
after_command h (Commands.Load shape) answer = after_load h shape answer
after_command h (Commands.Change change) answer = after_change h change answer

-- what takes memory may be answered OutOfMemory, where it was due to be accepted
abbrev pub MayLackMemory : Answer → Answer → Type 0
MayLackMemory due answer = (answer ≡ due) ⊎ ((answer ≡ OutOfMemory) × (due ≡ nothing_more))

-- an answer that a command may get
abbrev pub IsAnswer : History → Command → Answer → Type 0
IsAnswer h (Commands.Ask actor request) answer = answer ≡ out h actor request
IsAnswer h (Commands.Load shape) answer = MayLackMemory (out_load h shape) answer
IsAnswer h (Commands.Change change) answer = MayLackMemory (due_change h change) answer

-- from h the commands may get these answers, and lead to k
abbrev pub Steps : History → List Command → List Answer → History → Type 0
Steps h [] [] k = k ≡ h
Steps h (command ∷ commands) (answer ∷ answers) k =
    IsAnswer h command answer × Steps (after_command h command answer) commands answers k
Steps h [] (answer ∷ answers) k = ⊥
Steps h (command ∷ commands) [] k = ⊥

-- the answers that are due to commands one after another, memory aside
abbrev pub answers_to : History → List Command → List Answer
answers_to h [] = []
answers_to h (command ∷ commands) =
    let answer = due_command h command in
    answer ∷ answers_to (after_command h command answer) commands

-- the history that they lead to
abbrev pub history_after : History → List Command → History
history_after h [] = h
history_after h (command ∷ commands) =
    history_after (after_command h command (due_command h command)) commands
