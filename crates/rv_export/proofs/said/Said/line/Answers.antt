use Rattle.std.proofs.Common.{List, map, ap, ◌∙◌}
use Rattle.std.specs.Prelude.{String, string_bytes}
use Rattle.std.specs.Global.{Global}
use Rattle.rv_history.specs.History.{force}
use Rattle.rv_export.proofs.said.Said.line.Goals as goal

pub returns : goal.returns
returns c = λ h is. c.line_of.ensures (force h) (ap (λ (xs : List (String Global)). map string_bytes xs) c.as_slice.ensures.value ∙ is.lines)
