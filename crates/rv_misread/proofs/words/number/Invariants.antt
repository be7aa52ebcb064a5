use Rattle.std.proofs.Common.{◌≡◌, ◌≤◌, take}
use Rattle.rv_lex.specs.Literals.{number}
use Rattle.rv_misread.proofs.words.number.Given as goal

abbrev pub invariant-loop-byte : goal.invariant-loop-byte
invariant-loop-byte l = (l.value ≡ number l.base (take l.byte-index l.text)) × (l.value ≤ 2147483648)
