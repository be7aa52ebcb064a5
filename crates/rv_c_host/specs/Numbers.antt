-- An answer in numbers, as C has it (own).
use Rattle.std.specs.Prelude.{ℕ, ℤ, pos, negsuc, List, [], length, Some, None}
use Rattle.rv_event.specs.declared.entry.Answer.{Answer}
use Rattle.rv_event.specs.declared.entry.Answer.TheVariants.{Started, Queued, Refused, Done, Suspended, Delayed, Woken, Accepted}
use Rattle.rv_event.specs.declared.entry.Answer.TheVariants.{Misuse, Halted, Full, Busy, Waiting, Unattached, BadLine, OutOfMemory}
use Rattle.rv_event.specs.declared.entry.Next.TheVariants.{HandedTo, Dropped}
use Rattle.rv_event.specs.declared.entry.Rule.{Rule}
use Rattle.rv_event.specs.declared.entry.Rule.TheVariants.{Grant, Blocking, Reentry, Ceiling, Queue, Waiter}
use Rattle.rv_c_text.specs.Laid.{laid}
use Rattle.rv_c_host.specs.declared.told.Told.{Told}

-- the kind of an answer: above 0 what the journal keeps, below 0 what changes nothing
abbrev pub kind_of : Answer → ℤ
kind_of (Started values) = pos 1
kind_of Queued = pos 2
kind_of (Refused rule line version) = pos 3
kind_of (Done next) = pos 4
kind_of Suspended = pos 5
kind_of Delayed = pos 6
kind_of (Woken None) = pos 7
kind_of (Accepted value) = pos 8
kind_of (Woken (Some values)) = pos 9
kind_of Misuse = negsuc 0
kind_of Halted = negsuc 1
kind_of Full = negsuc 2
kind_of Busy = negsuc 3
kind_of Waiting = negsuc 4
kind_of Unattached = negsuc 5
kind_of BadLine = negsuc 6
kind_of OutOfMemory = negsuc 7

-- what a call comes to that asks nothing of a host: there is none; there is one already; the text is none; the request is none;
-- the name is none; the limit is none
abbrev pub no_host : ℤ
no_host = negsuc 8

abbrev pub has_host : ℤ
has_host = negsuc 9

abbrev pub bad_text : ℤ
bad_text = negsuc 10

abbrev pub bad_request : ℤ
bad_request = negsuc 11

abbrev pub unknown_name : ℤ
unknown_name = negsuc 12

abbrev pub bad_limit : ℤ
bad_limit = negsuc 13

-- the rules, in their order
abbrev pub rule_number : Rule → ℤ
rule_number Grant = pos 1
rule_number Blocking = pos 2
rule_number Reentry = pos 3
rule_number Ceiling = pos 4
rule_number Queue = pos 5
rule_number Waiter = pos 6

-- the rule that an answer names: of a refusal the violated one; of an end that drops a queued caller, the grant
abbrev pub rule_of : Answer → ℤ
rule_of (Refused rule line version) = rule_number rule
rule_of (Done (Dropped actor line)) = pos 1
rule_of answer = pos 0

-- the line of the list that decided it
abbrev pub line_of : Answer → ℕ
line_of (Refused rule line version) = line
line_of (Done (Dropped actor line)) = line
line_of answer = 0

-- the version of the list that a refusal names
abbrev pub version_of : Answer → ℕ
version_of (Refused rule line version) = version
version_of answer = 0

-- the queued caller that an end names
abbrev pub actor_of : Answer → ℕ
actor_of (Done (HandedTo actor)) = actor
actor_of (Done (Dropped actor line)) = actor
actor_of answer = 0

-- what was accepted with a value: a clock's ticks, a state
abbrev pub value_of : Answer → ℤ
value_of (Accepted value) = value
value_of answer = pos 0

-- the components that a body starts with
abbrev pub scalars_of : Answer → List ℤ
scalars_of (Started values) = values
scalars_of (Woken (Some values)) = values
scalars_of answer = []

-- the caller's answer: of the components only those that there are
abbrev pub told_of : Answer → Told → Told
told_of answer before = record {
  kind = kind_of answer;
  rule = rule_of answer;
  line = line_of answer;
  version = version_of answer;
  actor = actor_of answer;
  count = length (scalars_of answer);
  value = value_of answer;
  scalars = laid (scalars_of answer) before.scalars;
}

-- the caller's answer of this kind, where it has components alone, if it has any part
abbrev pub bare : ℤ → List ℤ → Told → Told
bare kind values before = record {
  kind = kind;
  rule = pos 0;
  line = 0;
  version = 0;
  actor = 0;
  count = length values;
  value = pos 0;
  scalars = laid values before.scalars;
}
