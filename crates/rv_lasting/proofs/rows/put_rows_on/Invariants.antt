use Rattle.std.proofs.Common.{◌≡◌, ◌++◌}
use Rattle.std.specs.Prelude.{string_bytes}
use Rattle.rv_lasting.specs.Rows.{rows_on}
use Rattle.rv_lasting.proofs.rows.put_rows_on.Given as goal

abbrev pub invariant-loop-object : goal.invariant-loop-object
invariant-loop-object l = string_bytes l.text ≡ string_bytes l.initial.text ++ rows_on l.word l.catalogue l.actor l.spans l.object
