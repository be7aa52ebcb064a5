use Rattle.rv_tree.specs.NameView.{identifier_view}
use Rattle.rv_scope.proofs.Scopes.{left_body}
use Rattle.rv_conform.proofs.bodies.body_operation.Goals as goal

pub returns-clause-scope : goal.returns-clause-scope
returns-clause-scope c =
    left_body c.args.scope.now c.enter_body.new.self c.profiled.new.scope c.leave_body.new.self (identifier_view c.head.inside.name.now) c.in_ok-around.around
    c.leave_body.ensures c.in_ok-around.ensures.scope c.in_ok-around.ensures.around c.in_ok-found.ensures.only
