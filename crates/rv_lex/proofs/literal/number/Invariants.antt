use Rattle.std.proofs.Common.{◌≡◌, ◌≤◌, take}
use Rattle.rv_lex.specs.Literals.{number}
use Rattle.rv_lex.proofs.literal.number.Given as goal

abbrev pub invariant-loop-b : goal.invariant-loop-b
invariant-loop-b l = (l.value ≡ number l.base (take l.b-index l.text)) × (l.value ≤ 2147483648)
