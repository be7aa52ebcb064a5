-- What is said of each callee that code names (own).
use Rattle.std.specs.Prelude.{ℕ, ◌+◌, Bool, true, ◌&&◌, List, [], ◌∷◌, Option, Some, None}
use Rattle.std.specs.List.{list_all}
use Rattle.rv_code.specs.Callees.{of_object}
use Rattle.rv_code.specs.declared.expression.Callee.{Callee}
use Rattle.rv_code.specs.Expressions.{Expression, literal, variable, component, prefixed, chain, within, call, Expressions, no_expressions, and_expression, Links, no_links, and_link}
use Rattle.rv_code.specs.Statements.{Statement, null_statement, assign, choice, selection, while_loop, for_loop, exit_when, returns, returns_value, raises, reraises, calls, Statements, no_statements, and_statement, Branches, no_branches, and_branch, Alternatives, no_alternatives, and_alternative}
use Rattle.rv_code.specs.Bodies.{Declaration, Handler, Body, UnitBodies}

abbrev mutual
  -- each callee of an expression is such a one
  pub expression_calls : (Callee → Bool) → Expression → Bool
  expression_calls such (literal n) = true
  expression_calls such (variable slot) = true
  expression_calls such (component index) = true
  expression_calls such (prefixed op e) = expression_calls such e
  expression_calls such (chain e ls) = expression_calls such e && links_call such ls
  expression_calls such (within range e) = expression_calls such e
  expression_calls such (call callee es) = such callee && expressions_call such es

  pub expressions_call : (Callee → Bool) → Expressions → Bool
  expressions_call such no_expressions = true
  expressions_call such (and_expression e es) = expression_calls such e && expressions_call such es

  pub links_call : (Callee → Bool) → Links → Bool
  links_call such no_links = true
  links_call such (and_link op e ls) = expression_calls such e && links_call such ls

abbrev mutual
  -- the same of a statement
  pub statement_calls : (Callee → Bool) → Statement → Bool
  statement_calls such null_statement = true
  statement_calls such (assign target e) = expression_calls such e
  statement_calls such (choice bs otherwise) = branches_call such bs && statements_call such otherwise
  statement_calls such (selection e more) = expression_calls such e && alternatives_call such more
  statement_calls such (while_loop e ss) = expression_calls such e && statements_call such ss
  statement_calls such (for_loop parameter is_reverse range low high ss) =
      (expression_calls such low && expression_calls such high) && statements_call such ss
  statement_calls such (exit_when e) = expression_calls such e
  statement_calls such returns = true
  statement_calls such (returns_value e) = expression_calls such e
  statement_calls such (raises exception) = true
  statement_calls such reraises = true
  statement_calls such (calls callee es targets) = such callee && expressions_call such es

  pub statements_call : (Callee → Bool) → Statements → Bool
  statements_call such no_statements = true
  statements_call such (and_statement s ss) = statement_calls such s && statements_call such ss

  pub branches_call : (Callee → Bool) → Branches → Bool
  branches_call such no_branches = true
  branches_call such (and_branch e ss bs) = (expression_calls such e && statements_call such ss) && branches_call such bs

  pub alternatives_call : (Callee → Bool) → Alternatives → Bool
  alternatives_call such no_alternatives = true
  alternatives_call such (and_alternative choices ss more) = statements_call such ss && alternatives_call such more

abbrev pub declaration_calls : (Callee → Bool) → Declaration → Bool
declaration_calls such d = expression_calls such d.initial

abbrev pub handler_calls : (Callee → Bool) → Handler → Bool
handler_calls such h = statements_call such h.statements

-- the same of a body
abbrev pub body_calls : (Callee → Bool) → Body → Bool
body_calls such b =
    list_all (declaration_calls such) b.declarations
    && (statements_call such b.statements && list_all (handler_calls such) b.handlers)

abbrev pub object_calls : (Callee → Bool) → List Body → Bool
object_calls such bodies = list_all (body_calls such) bodies

-- a task may have no body
abbrev pub task_calls : (Callee → Bool) → Option Body → Bool
task_calls such None = true
task_calls such (Some b) = body_calls such b

-- the callee is such a one in the body of the object of this number
abbrev pub such_in : (Callee → Bool) → ℕ → Callee → Bool
such_in such object callee = such (of_object object callee)

-- each callee of the bodies of objects is such a one, where the first of them has this number
abbrev pub objects_call : (Callee → Bool) → ℕ → List (List Body) → Bool
objects_call such number [] = true
objects_call such number (bodies ∷ more) = object_calls (such_in such number) bodies && objects_call such (number + 1) more

-- each callee that a unit's bodies name is such a one, where its first object has this number
abbrev pub calls_from : (Callee → Bool) → ℕ → UnitBodies → Bool
calls_from such number bodies = objects_call such number bodies.objects && list_all (task_calls (such_in such 0)) bodies.tasks

-- the same of the bodies of all units
abbrev pub every_call : (Callee → Bool) → UnitBodies → Bool
every_call such bodies = calls_from such 1 bodies
