use Rattle.std.proofs.Common.{◌≡◌, drop}
use Rattle.rv_misread.specs.Words.{are_below}
use Rattle.rv_misread.proofs.words.are_below.Given as goal

abbrev pub invariant-loop-byte : goal.invariant-loop-byte
invariant-loop-byte l = are_below l.base (drop l.byte-index l.text) ≡ are_below l.base l.text
