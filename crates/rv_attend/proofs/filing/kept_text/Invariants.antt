use Rattle.std.specs.Prelude.{◌≡◌, ◌++◌, length, string_bytes}
use Rattle.rv_text.specs.Sections.{sections_of}
use Rattle.rv_attend.specs.Filing.{kept_text}
use Rattle.rv_attend.proofs.filing.kept_text.Given as goal

abbrev pub invariant-each : goal.invariant-each
invariant-each l = string_bytes l.all ++ kept_text l.sections ≡ kept_text (sections_of l.fn.script)

abbrev pub decreases-each : goal.decreases-each
decreases-each l = length l.sections
