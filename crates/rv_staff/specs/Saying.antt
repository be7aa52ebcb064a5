-- What is said to the operator. (own)
use Rattle.std.specs.Prelude.{◌⊎◌, ℕ, ◌+◌, ◌∷◌, [], ◌++◌, List, codes, Option, Result, Ok, Err}
use Rattle.std.specs.List.{flat_map}
use Rattle.std.specs.Io.KnownBytes.{Appends}
use Rattle.rv_script.specs.Prefixes.{WritesPrefix}
use Rattle.rv_shape.specs.Shape.{Shape}
use Rattle.rv_shape.specs.Catalogue.{Who, Line, who}
use Rattle.rv_shape.specs.Printed.{actor_text}
use Rattle.rv_port.specs.declared.ended.Ending.{Ending}
use Rattle.rv_port.specs.Endings.{ending_text}
use Rattle.rv_crew.specs.declared.notice.Notice.{Notice}

-- what a writer holds, where it tells
abbrev pub Known : Type 0
Known = Option (List ℕ)

-- a text is written, or, where writing fails, a prefix of it
abbrev pub Says : {X E : Type 0} → Known → Known → List ℕ → Result X E → Type 0
Says old new text (Ok x) = Appends old new text
Says old new text (Err error) = WritesPrefix old new text

-- an actor has no thread
abbrev pub no_thread_line : List Shape → ℕ → List ℕ
no_thread_line shapes actor = codes "no thread " ++ actor_text (who shapes actor) ++ 10 ∷ []

abbrev pub no_memory_line : List ℕ
no_memory_line = codes "nomemory\n"

-- that is said, or that memory was wanted for it
abbrev pub SaysNoThread : {X E : Type 0} → Known → Known → List Shape → ℕ → Result X E → Type 0
SaysNoThread old new shapes actor result =
    Says old new (no_thread_line shapes actor) result ⊎ Says old new no_memory_line result

-- of a raised line that has a handler: that its thread is told, that there is none, or that memory was wanted
abbrev pub SaysRaised : {X E : Type 0} → Known → Known → List Shape → ℕ → Result X E → Type 0
SaysRaised old new shapes line result =
    Says old new (codes "raised\n") result ⊎ SaysNoThread old new shapes (line + 1) result

-- an actor's port was lost, with all that its thread did after
abbrev pub lost_line : List Shape → ℕ → List ℕ
lost_line shapes actor = codes "lost " ++ actor_text (who shapes actor) ++ 10 ∷ []

-- one line for each actor whose port was lost, or that memory was wanted for them
abbrev pub SaysLost : {X E : Type 0} → Known → Known → List Shape → List ℕ → Result X E → Type 0
SaysLost old new shapes lost result =
    Says old new (flat_map (lost_line shapes) lost) result ⊎ Says old new no_memory_line result

-- a line has a handler, a task a text
abbrev pub ending_head : Who → List ℕ
ending_head (Line line) = codes "handler of"
ending_head who = codes "task"

-- the text of a task ended so, or a line's handler did, which raised an exception
abbrev pub ending_line : Who → Ending → List ℕ
ending_line who ending = (ending_head who ++ codes " " ++ actor_text who) ++ (codes " ended: " ++ (ending_text ending ++ 10 ∷ []))

-- that is said of a notice
abbrev pub notice_line : List Shape → Notice → List ℕ
notice_line shapes notice = ending_line (who shapes notice.actor) notice.ending
