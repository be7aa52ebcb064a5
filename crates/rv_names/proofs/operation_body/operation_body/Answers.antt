use Rattle.rv_tree.specs.NameView.{identifier_view}
use Rattle.rv_scope.proofs.Scopes.{left_body, declares_on}
use Rattle.rv_names.proofs.operation_body.operation_body.Goals as goal

pub returns-clause-scope : goal.returns-clause-scope
returns-clause-scope c =
    left_body c.args.scope.now c.enter_body.new.self c.block.new.scope c.leave_body.new.self (identifier_view c.name-declared.result.now) c.in_ok-around.around c.leave_body.ensures
    c.in_ok-around.ensures.scope c.in_ok-around.ensures.around
    (declares_on c.enter_body.new.self c.parameters.new.scope c.block.new.scope c.in_ok-parameters.ensures.only c.in_ok-block.ensures.only)
