use Rattle.std.proofs.Common.{◌≡◌, ◌++◌}
use Rattle.std.specs.Prelude.{string_bytes}
use Rattle.rv_lasting.specs.Rows.{rows_of}
use Rattle.rv_lasting.proofs.rows.put_rows.Given as goal

abbrev pub invariant-loop-actor : goal.invariant-loop-actor
invariant-loop-actor l = string_bytes l.text ≡ string_bytes l.initial.text ++ rows_of l.word l.catalogue l.spans l.actor
