use Rattle.rv_machine.proofs.AtOnceSteps.{null_at, assigned_at, exit_at, return_at, value_returned_at, raise_at}
use Rattle.rv_machine.proofs.at_once.end_at_once.Goals as goal

pub returns-in-Null-clause-some : goal.returns-in-Null-clause-some
returns-in-Null-clause-some c = null_at _ _ c.in-Null.ensures

pub returns-in-Some-clause-some : goal.returns-in-Some-clause-some
returns-in-Some-clause-some c = assigned_at _ _ _ _ _ _ _ c.in-Assign.ensures c.in-Some.ensures c.assign_after.ensures

pub returns-in-Some-value_at_once-clause-some : goal.returns-in-Some-value_at_once-clause-some
returns-in-Some-value_at_once-clause-some c = exit_at _ _ _ _ _ c.in-ExitWhen.ensures c.in-Some-value_at_once.ensures c.exit_after.ensures

pub returns-in-Return-clause-some : goal.returns-in-Return-clause-some
returns-in-Return-clause-some c = return_at _ _ c.in-Return.ensures

pub returns-in-Some-value_at_once-2-clause-some : goal.returns-in-Some-value_at_once-2-clause-some
returns-in-Some-value_at_once-2-clause-some c = value_returned_at _ _ _ _ _ c.in-ReturnValue.ensures c.in-Some-value_at_once-2.ensures c.return_after.ensures

pub returns-in-Raise-clause-some : goal.returns-in-Raise-clause-some
returns-in-Raise-clause-some c = raise_at _ _ _ c.in-Raise.ensures
