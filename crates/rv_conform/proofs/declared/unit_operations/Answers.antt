use Rattle.rv_scope.proofs.Scopes.{left, declares_on}
use Rattle.rv_conform.proofs.declared.unit_operations.Goals as goal

pub returns-clause-scope : goal.returns-clause-scope
returns-clause-scope c =
    left c.args.scope.now c.enter.new.self c.private_part.new.scope c.leave.new.self c.leave.ensures c.in_ok-enter.ensures
    (declares_on c.enter.new.self c.operations.new.scope c.private_part.new.scope c.in_ok-operations.ensures.only c.in_ok-private_part.ensures.only)
