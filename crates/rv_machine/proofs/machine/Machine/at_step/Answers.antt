use Rattle.std.proofs.Common.{rules, ◌≡◌, arith, subst, to_z, of_z, w64, ℤ}
use Rattle.rv_flat.specs.Tables.{trees}
use Rattle.rv_machine.specs.Machines.{MovesTo}
use Rattle.rv_machine.specs.Points.{control_in}
use Rattle.rv_machine.specs.Stacks.{below}
use Rattle.rv_machine.specs.declared.point.Step.TheVariants as step
use Rattle.rv_machine.proofs.Meetings.{at_within}
use Rattle.rv_machine.proofs.machine.Machine.at_step.Goals as goal

pub returns-in-Evaluates-clause-moves : goal.returns-in-Evaluates-clause-moves
returns-in-Evaluates-clause-moves c = at_within c.args.unit.now _ _ _ _ _ c.at_expression.new.self c.in-Evaluates.is c.at_expression.ensures.moves

pub returns-in-Links-clause-moves : goal.returns-in-Links-clause-moves
returns-in-Links-clause-moves c =
    let item : to_z w64 (of_z w64 c.in-Links.value) ≡ c.in-Links.value = Prim.first_of (Prim.search rules, Prim.grind arith) in
    at_within c.args.unit.now _ (step.Links c.in-Links.links c.in-Links.value) c.args.self.now.activation (below c.args.unit.now c.args.self.now.stack) c.args.self.now.setting c.at_links.new.self c.in-Links.is
    (subst (λ (z : ℤ). MovesTo c.args.unit.now (control_in (trees c.args.unit.now.code) (step.Links c.in-Links.links z) c.args.self.now.activation) (below c.args.unit.now c.args.self.now.stack) c.args.self.now.setting c.at_links.new.self) item c.at_links.ensures.moves)

pub returns-in-Argues-clause-moves : goal.returns-in-Argues-clause-moves
returns-in-Argues-clause-moves c = at_within c.args.unit.now _ _ _ _ _ c.at_arguments.new.self c.in-Argues.is c.at_arguments.ensures.moves

pub returns-in-Calls-clause-moves : goal.returns-in-Calls-clause-moves
returns-in-Calls-clause-moves c = at_within c.args.unit.now _ _ _ _ _ c.call.new.self c.in-Calls.is c.call.ensures.moves

pub returns-in-Runs-clause-moves : goal.returns-in-Runs-clause-moves
returns-in-Runs-clause-moves c = at_within c.args.unit.now _ _ _ _ _ c.at_statement.new.self c.in-Runs.is c.at_statement.ensures.moves

pub returns-in-RunsAll-clause-moves : goal.returns-in-RunsAll-clause-moves
returns-in-RunsAll-clause-moves c = at_within c.args.unit.now _ _ _ _ _ c.at_statements.new.self c.in-RunsAll.is c.at_statements.ensures.moves

pub returns-in-Tries-clause-moves : goal.returns-in-Tries-clause-moves
returns-in-Tries-clause-moves c = at_within c.args.unit.now _ _ _ _ _ c.at_branches.new.self c.in-Tries.is c.at_branches.ensures.moves

pub returns-in-Selects-clause-moves : goal.returns-in-Selects-clause-moves
returns-in-Selects-clause-moves c =
    let item : to_z w64 (of_z w64 c.in-Selects.value) ≡ c.in-Selects.value = Prim.first_of (Prim.search rules, Prim.grind arith) in
    at_within c.args.unit.now _ (step.Selects c.in-Selects.alternatives c.in-Selects.value) c.args.self.now.activation (below c.args.unit.now c.args.self.now.stack) c.args.self.now.setting c.at_alternatives.new.self c.in-Selects.is
    (subst (λ (z : ℤ). MovesTo c.args.unit.now (control_in (trees c.args.unit.now.code) (step.Selects c.in-Selects.alternatives z) c.args.self.now.activation) (below c.args.unit.now c.args.self.now.stack) c.args.self.now.setting c.at_alternatives.new.self) item c.at_alternatives.ensures.moves)

pub returns-in-Turns-clause-moves : goal.returns-in-Turns-clause-moves
returns-in-Turns-clause-moves c = at_within c.args.unit.now _ _ _ _ _ c.at_turns.new.self c.in-Turns.is c.at_turns.ensures.moves

pub returns-in-Counts-clause-moves : goal.returns-in-Counts-clause-moves
returns-in-Counts-clause-moves c = at_within c.args.unit.now _ _ _ _ _ c.at_values.new.self c.in-Counts.is c.at_values.ensures.moves

pub returns-in-Declares-clause-moves : goal.returns-in-Declares-clause-moves
returns-in-Declares-clause-moves c = at_within c.args.unit.now _ _ _ _ _ c.at_declarations.new.self c.in-Declares.is c.at_declarations.ensures.moves

pub returns-in-Valued-clause-moves : goal.returns-in-Valued-clause-moves
returns-in-Valued-clause-moves c = at_within c.args.unit.now _ _ _ _ _ c.value_comes.new.self c.in-Valued.is c.value_comes.ensures.moves

pub returns-in-Listed-clause-moves : goal.returns-in-Listed-clause-moves
returns-in-Listed-clause-moves c = at_within c.args.unit.now _ _ _ _ _ c.values_come.new.self c.in-Listed.is c.values_come.ensures.moves

pub returns-in-Done-clause-moves : goal.returns-in-Done-clause-moves
returns-in-Done-clause-moves c = at_within c.args.unit.now _ _ _ _ _ c.end_comes.new.self c.in-Done.is c.end_comes.ensures.moves
