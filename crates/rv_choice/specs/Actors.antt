-- The tasks that belong to other processes, by the words of `run`: each is TASK=IN,OUT. (own)
use Rattle.std.specs.Prelude.{◌≡◌, ℕ, Bool, ◌==◌, ◌&&◌, nat_lt, length, if◌then◌else◌, List, [], map, codes, Option, Some, None, is_some, unwrap_or}
use Rattle.std.specs.Str.{bytes_eq}
use Rattle.std.specs.List.{after_first, before_first, list_any, position_or_len}
use Rattle.clap.specs.Walk.{Row, Text, all_of}
use Rattle.clap.specs.Words.{subcommand_of}
use Rattle.rv_text.specs.Names.{dotted_parts, is_same_name}
use Rattle.rv_choice.specs.Choices.{program}
use Rattle.rv_choice.specs.declared.actors.ActorWords.{ActorWords}

-- a task, the pipe of its requests, and that of what they come to
pub record ActorText : Type 0 where
  pub task : Text
  pub requests : Text
  pub replies : Text

-- the same, of the program's own
abbrev pub actor_text : ActorWords → ActorText
actor_text actor = record { task = actor.task.now; requests = actor.requests.now; replies = actor.replies.now }

abbrev pub is_equals : ℕ → Bool
is_equals byte = byte == 61

abbrev pub is_comma : ℕ → Bool
is_comma byte = byte == 44

-- both parts of a word, where neither is empty
abbrev pub both : Text → Text → Option (Text × Text)
both front back = if nat_lt 0 (length front) && nat_lt 0 (length back) then Some (front, back) else None

-- what stands before and behind the first such byte, where neither is empty
abbrev pub parts_at : (ℕ → Bool) → Text → Option (Text × Text)
parts_at is_it word = if nat_lt (position_or_len is_it word) (length word) then both (before_first is_it word) (after_first is_it word) else None

-- a task of this name with two pipes
abbrev pub with_pipes : Text → Option (Text × Text) → Option ActorText
with_pipes task None = None
with_pipes task (Some pipes) = Some (record { task = task; requests = pipes.0; replies = pipes.1 })

-- the name of a task, and behind it two pipes
abbrev pub named_by : Option (Text × Text) → Option ActorText
named_by None = None
named_by (Some parts) = if is_some (dotted_parts parts.0) then with_pipes parts.0 (parts_at is_comma parts.1) else None

-- what a word says
abbrev pub actor_of : Text → Option ActorText
actor_of word = named_by (parts_at is_equals word)

-- what words say that gave these tasks
abbrev pub said_by : List ActorWords → List (Option ActorText)
said_by = map (λ a. Some (actor_text a))

-- the words that `run` is given for them, by what it was given
abbrev pub words_in : List Row → List Text
words_in rows = unwrap_or (all_of (codes "actor") rows) []

abbrev pub given_to : Text × List Row → List Text
given_to found = if bytes_eq found.0 (codes "run") then words_in found.1 else []

-- The tasks are what the words of a command line say, in order: each is as one word for it says.
abbrev pub AreActors : List Text → List ActorWords → Type 0
AreActors words actors = (found : Text × List Row) → subcommand_of program words ≡ Some found → said_by actors ≡ map actor_of (given_to found)

-- a task of this name is among them
abbrev pub has_task : Text → List ActorWords → Bool
has_task task = list_any (λ a. is_same_name a.task.now task)
