use Rattle.std.proofs.Common.{◌≡◌, ◌++◌}
use Rattle.std.specs.Prelude.{string_bytes}
use Rattle.rv_history.specs.History.{force}
use Rattle.rv_state.specs.States.{lines_below}
use Rattle.rv_state.proofs.head.put_lines.Given as goal

abbrev pub invariant-loop-place : goal.invariant-loop-place
invariant-loop-place l = string_bytes l.text ≡ string_bytes l.initial.text ++ lines_below (force l.host) l.place
