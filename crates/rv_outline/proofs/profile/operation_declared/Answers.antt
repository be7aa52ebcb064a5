use Rattle.rv_scope.proofs.Scopes.{left}
use Rattle.rv_outline.proofs.profile.operation_declared.Goals as goal

pub returns-clause-scope : goal.returns-clause-scope
returns-clause-scope c =
    left c.args.scope.now c.enter.new.self c.operation_inside.new.scope c.leave.new.self c.leave.ensures c.in_ok-enter.ensures c.in_ok-found.ensures.only
