use Rattle.std.proofs.Common.{◌≡◌, true, drop}
use Rattle.rv_text.specs.Names.{is_spelled}
use Rattle.rv_text.proofs.names.is_spelled.Given as goal

abbrev pub invariant-loop-byte : goal.invariant-loop-byte
invariant-loop-byte l = is_spelled l.gap (drop l.byte-index l.name) ≡ is_spelled true l.name
