use Rattle.std.proofs.Common.{◌≡◌, ◌++◌, map, take}
use Rattle.std.specs.Prelude.{string_bytes}
use Rattle.rv_tallied.specs.Tallies.{kept_for, rows_text}
use Rattle.rv_tallied.proofs.rows.put_rows.Given as goal

abbrev pub invariant-loop-words : goal.invariant-loop-words
invariant-loop-words l = string_bytes l.text ≡ string_bytes l.initial.text ++ rows_text l.how (kept_for l.tallies) (map string_bytes (take l.words-index l.seen))
