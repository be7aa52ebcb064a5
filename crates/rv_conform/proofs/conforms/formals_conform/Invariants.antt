use Rattle.std.proofs.Common.{◌≡◌, drop}
use Rattle.rv_conform.specs.Conforms.{formals_conform}
use Rattle.rv_conform.proofs.conforms.formals_conform.Given as goal

abbrev pub invariant-loop-index : goal.invariant-loop-index
invariant-loop-index l = formals_conform (drop l.index l.list) (drop l.index l.others) ≡ formals_conform l.list l.others
