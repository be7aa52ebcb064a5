-- What actors were answered since their texts began (own).
use Rattle.std.specs.Prelude.{ℕ, ◌==◌, if◌then◌else◌, List, [], ◌∷◌, ◌++◌}
use Rattle.rv_event.specs.declared.entry.Answer.{Answer}
use Rattle.rv_go.specs.declared.texts.Heard.{Heard}

-- an actor's answers with one more, behind which there are none before a start
abbrev pub with_answer : ℕ → Heard → List Answer → List Answer
with_answer actor h before =
    if h.actor == actor then (if h.starts then h.answer ∷ [] else before ++ h.answer ∷ []) else before

-- what an actor was answered since its text began, in order
abbrev pub answers_to : ℕ → List Heard → List Answer
answers_to actor [] = []
answers_to actor (h ∷ before) = with_answer actor h (answers_to actor before)
