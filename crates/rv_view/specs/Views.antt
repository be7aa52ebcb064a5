-- What whoever looks at a host is shown of its history. (own)
use Rattle.std.specs.Prelude.{ℕ, Bool, List, Option, length, map}
use Rattle.std.specs.List.{range_with_len}
use Rattle.rv_access.specs.Words.{Words}
use Rattle.rv_shape.specs.Shape.{Shape}
use Rattle.rv_shape.specs.Catalogue.{all_objects, all_tasks, first_task}
use Rattle.rv_event.specs.Past.{clock, halted, mode, waiter}
use Rattle.rv_event.specs.declared.entry.Entry.{Entry}
use Rattle.rv_event.specs.declared.entry.Mode.{Mode}
use Rattle.rv_history.specs.History.{History, force, version}
use Rattle.rv_history.specs.Owed.{room}
use Rattle.rv_waiting.specs.Queues.{callers}

-- the clock; how many entries there may be, how many there are, and how many may still come beside those that are owed; whether
-- the host is halted; the list in force and its version; of each task its mode; of each object who waits in its queue, the one
-- that waits longest first, and who waits on it as a suspension object
pub record Shown : Type 0 where
  pub clock : ℕ
  pub capacity : ℕ
  pub used : ℕ
  pub room : ℕ
  pub halted : Bool
  pub version : ℕ
  pub list : List Words
  pub modes : List Mode
  pub queues : List (List ℕ)
  pub waiters : List (Option ℕ)

-- of each task, from the first on
abbrev pub modes : List Shape → List Entry → List Mode
modes shapes past = map (λ actor. mode shapes actor past) (range_with_len first_task (length (all_tasks shapes)))

-- of each object, from 1 on
abbrev pub queues : List Shape → List Entry → List (List ℕ)
queues shapes past = map (λ object. callers object past) (range_with_len 1 (length (all_objects shapes)))

abbrev pub waiters : List Shape → List Entry → List (Option ℕ)
waiters shapes past = map (λ object. waiter object past) (range_with_len 1 (length (all_objects shapes)))

-- what is shown of a history
abbrev pub shown : History → Shown
shown h =
    record {
      clock = clock h.past;
      capacity = h.limits.capacity;
      used = length h.past;
      room = room h;
      halted = halted h.past;
      version = version h;
      list = force h;
      modes = modes h.shapes h.past;
      queues = queues h.shapes h.past;
      waiters = waiters h.shapes h.past;
    }
