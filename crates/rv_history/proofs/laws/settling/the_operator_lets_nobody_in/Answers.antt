use Rattle.rv_history.proofs.Entering.{lists_let_nobody_in, loads_let_nobody_in}
use Rattle.rv_history.proofs.laws.settling.the_operator_lets_nobody_in.Goals as goal

pub returns-clause-loads : goal.returns-clause-loads
returns-clause-loads c = loads_let_nobody_in

pub returns-clause-lists : goal.returns-clause-lists
returns-clause-lists c = lists_let_nobody_in
