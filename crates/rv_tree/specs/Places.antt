-- The place of a node: that of the first word of what derives it.
use Rattle.std.specs.Prelude.{◌≡◌, ℕ, List, [], ◌∷◌}
use Rattle.rv_lex.specs.Lexes.{Lexeme}
use Rattle.rv_tree.specs.Names.{Identifier, Name}
use Rattle.rv_tree.specs.Expressions.{Expression, literal, name, attribute, call, parenthesized, highest, product, signed, sum, relation, logical}
use Rattle.rv_tree.specs.Statements.{Statement, null_statement, assignment, call_statement, if_statement, case_statement, loop_statement, exit_statement, return_statement, raise_statement, delay_statement, abort_statement, requeue_statement, accept_statement, select_statement}
use Rattle.rv_tree.specs.Declarations.{Declaration, package_pragma, a_subtype, a_protected_unit, a_task, a_variable, a_constant}
use Rattle.rv_tree.specs.Bodies.{Local, an_object, local_pragma, local_protected_unit, local_task}

-- the words begin with one at this place
abbrev pub BeginsAt : ℕ → List Lexeme → Type 0
BeginsAt at words = (t : Lexeme) × (rest : List Lexeme) × (words ≡ t ∷ rest) × (t.place ≡ at)

abbrev pub name_place : Name → ℕ
name_place n = n.first.at

-- identifiers that stand one after another, at least one; none stand nowhere
abbrev pub names_place : List Identifier → ℕ
names_place [] = 0
names_place (i ∷ more) = i.at

-- a word of its own, or the place of the first part
abbrev pub expression_place : Expression → ℕ
expression_place (literal at value) = at
expression_place (name n) = name_place n
expression_place (attribute n i) = name_place n
expression_place (call n es) = name_place n
expression_place (parenthesized at e) = at
expression_place (highest at op e) = at
expression_place (product e fs) = expression_place e
expression_place (signed at op e) = at
expression_place (sum e ts) = expression_place e
expression_place (relation e op f) = expression_place e
expression_place (logical op e es) = expression_place e

abbrev pub statement_place : Statement → ℕ
statement_place (null_statement at) = at
statement_place (assignment n e) = name_place n
statement_place (call_statement n es) = name_place n
statement_place (if_statement at condition ss parts otherwise) = at
statement_place (case_statement at selector cases) = at
statement_place (loop_statement at iteration ss) = at
statement_place (exit_statement at condition) = at
statement_place (return_statement at e) = at
statement_place (raise_statement at n) = at
statement_place (delay_statement at is_until e) = at
statement_place (abort_statement at names) = at
statement_place (requeue_statement at target with_abort) = at
statement_place (accept_statement at entry parameters ss end_name) = at
statement_place (select_statement at choices otherwise aborted) = at

abbrev pub declaration_place : Declaration → ℕ
declaration_place (package_pragma p) = p.at
declaration_place (a_subtype at n mark range) = at
declaration_place (a_protected_unit u) = u.at
declaration_place (a_task t) = t.at
declaration_place (a_variable names mark) = names_place names
declaration_place (a_constant names mark value) = names_place names

abbrev pub local_place : Local → ℕ
local_place (an_object names is_constant mark range value) = names_place names
local_place (local_pragma p) = p.at
local_place (local_protected_unit u) = u.at
local_place (local_task t) = t.at
