-- The limits of units (own), but for those that the standard sets.
use Rattle.std.specs.Prelude.{ℕ}

-- the most units, tasks and objects that are loaded
abbrev pub most_units : ℕ
most_units = 64

abbrev pub most_tasks : ℕ
most_tasks = 64

abbrev pub most_objects : ℕ
most_objects = 256

-- the most operations, components and entries (D.7, Max_Protected_Entries) of an object
abbrev pub most_operations : ℕ
most_operations = 16

abbrev pub most_components : ℕ
most_components = 32

abbrev pub most_entries : ℕ
most_entries = 1

-- the most parameters of an operation
abbrev pub most_parameters : ℕ
most_parameters = 4

-- the last line: they are 0 .. 9
abbrev pub last_line : ℕ
last_line = 9

-- the first priority of the lines, and the last of all: the first is 1 (D.1)
abbrev pub first_line_priority : ℕ
first_line_priority = 31

abbrev pub last_priority : ℕ
last_priority = 40
