use Rattle.std.proofs.Common.{ℕ, Option, length}
use Rattle.rv_fault.specs.declared.fault.ScriptFault.{ScriptFault}
use Rattle.rv_fault.specs.Parts.{section_of}
use Rattle.rv_check.specs.CommandLines.{TakesAll, before_commands}
use Rattle.rv_check.specs.ScriptLines.{lines_behind}
use Rattle.rv_check.proofs.commands.count_commands.Given as goal

-- the lines that are left go on behind those that were taken
abbrev pub invariant-loop-number : goal.invariant-loop-number
invariant-loop-number l =
    (count : ℕ) → (told : Option ScriptFault) → TakesAll l.review l.lines count told
    → TakesAll (before_commands l.fn.catalogue)
    (lines_behind (section_of l.part) l.fn.others) count told

abbrev pub decreases-loop-number : goal.decreases-loop-number
decreases-loop-number l = length l.lines
