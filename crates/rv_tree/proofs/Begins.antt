-- What derives a node begins with a word at the node's place.
use Rattle.std.proofs.Common.{ℕ, List, [], ◌∷◌}
use Rattle.rv_lex.specs.Lexes.{Lexeme}
use Rattle.rv_lex.specs.declared.kind.Kind.{Kind}
use Rattle.rv_tree.specs.Phrases.{IsAt}
use Rattle.rv_tree.specs.Names.{Identifier, Name}
use Rattle.rv_tree.specs.NameGrammar.{IsIdentifier, IsName, AreIdentifiers}
use Rattle.rv_tree.specs.Expressions.{Expression, literal, name, attribute, call, parenthesized, highest, product, signed, sum, relation, logical, no_expressions, and_expression, no_factors, and_factor, no_terms, and_term}
use Rattle.rv_tree.specs.ExpressionGrammar.{IsExpression}
use Rattle.rv_tree.specs.Statements.{Statement, null_statement, assignment, call_statement, if_statement, case_statement, loop_statement, exit_statement, return_statement, raise_statement, delay_statement, abort_statement, requeue_statement, accept_statement, select_statement, forever, while_true, for_each}
use Rattle.rv_tree.specs.StatementGrammar.{IsStatement}
use Rattle.rv_tree.specs.Declarations.{Pragma, ProtectedUnit, TaskUnit, Declaration, package_pragma, a_subtype, a_protected_unit, a_task, a_variable, a_constant}
use Rattle.rv_tree.specs.DeclarationGrammar.{IsDeclaration, IsPragma, IsProtectedUnit, IsTask}
use Rattle.rv_tree.specs.Bodies.{Local, an_object, local_pragma, local_protected_unit, local_task}
use Rattle.rv_tree.specs.BodyGrammar.{IsLocal}
use Rattle.rv_tree.specs.Places.{BeginsAt, name_place, names_place, expression_place, statement_place, declaration_place, local_place}

-- a word of a kind at a place
word_begins : (kind : Kind) (at : ℕ) (old new : List Lexeme) → IsAt kind at old new → BeginsAt at old
word_begins kind at old new h = (h.0, new, h.1, h.3)

identifier_begins : (i : Identifier) (old new : List Lexeme) → IsIdentifier i old new → BeginsAt i.at old
identifier_begins i old new h = (h.0, new, h.1, h.3)

name_begins : (n : Name) (old new : List Lexeme) → IsName n old new → BeginsAt (name_place n) old
name_begins n old new h = identifier_begins n.first old h.0 h.1

names_begin : (names : List Identifier) (old new : List Lexeme) → AreIdentifiers names old new → BeginsAt (names_place names) old
names_begin [] old new h = elim h [ ]
names_begin (i ∷ more) old new h = identifier_begins i old h.0 h.1

pub expression_begins : (e : Expression) (old new : List Lexeme) → IsExpression e old new → BeginsAt (expression_place e) old
expression_begins (literal at value) old new h = (h.0, new, h.1, h.3)
expression_begins (name n) old new h = name_begins n old new h
expression_begins (attribute n i) old new h = name_begins n old h.0 h.1
expression_begins (call n es) old new h = name_begins n old h.0 h.1
expression_begins (parenthesized at e) old new h = word_begins _ at old h.0 h.1
expression_begins (highest at op e) old new h = word_begins _ at old h.0 h.1
expression_begins (product e no_factors) old new h = elim h [ ]
expression_begins (product e (and_factor op f fs)) old new h = expression_begins e old h.0 h.1.1
expression_begins (signed at op e) old new h = word_begins _ at old h.0 h.1
expression_begins (sum e no_terms) old new h = elim h [ ]
expression_begins (sum e (and_term op t ts)) old new h = expression_begins e old h.0 h.1.1
expression_begins (relation e op f) old new h = expression_begins e old h.0 h.1.1
expression_begins (logical op e no_expressions) old new h = elim h [ ]
expression_begins (logical op e (and_expression f fs)) old new h = expression_begins e old h.0 h.1.1

pub statement_begins : (s : Statement) (old new : List Lexeme) → IsStatement s old new → BeginsAt (statement_place s) old
statement_begins (null_statement at) old new h = word_begins _ at old h.0 h.1
statement_begins (assignment n e) old new h = name_begins n old h.0 h.1
statement_begins (call_statement n es) old new h = name_begins n old h.0 h.1
statement_begins (if_statement at condition ss parts otherwise) old new h = word_begins _ at old h.0 h.1
statement_begins (case_statement at selector cases) old new h = word_begins _ at old h.0 h.1
statement_begins (loop_statement at forever ss) old new h = word_begins _ at old h.0 h.1
statement_begins (loop_statement at (while_true condition) ss) old new h = word_begins _ at old h.1.0 h.1.1
statement_begins (loop_statement at (for_each i is_reverse bounds) ss) old new h = word_begins _ at old h.1.0 h.1.1
statement_begins (exit_statement at condition) old new h = word_begins _ at old h.0 h.1
statement_begins (return_statement at e) old new h = word_begins _ at old h.0 h.1
statement_begins (raise_statement at n) old new h = word_begins _ at old h.0 h.1
statement_begins (delay_statement at is_until e) old new h = word_begins _ at old h.0 h.1
statement_begins (abort_statement at names) old new h = word_begins _ at old h.0 h.1
statement_begins (requeue_statement at target with_abort) old new h = word_begins _ at old h.0 h.1
statement_begins (accept_statement at entry parameters ss end_name) old new h = word_begins _ at old h.0 h.1
statement_begins (select_statement at choices otherwise aborted) old new h = word_begins _ at old h.0 h.1

pragma_begins : (p : Pragma) (old new : List Lexeme) → IsPragma p old new → BeginsAt p.at old
pragma_begins p old new h = word_begins _ p.at old h.0 h.1

protected_begins : (u : ProtectedUnit) (old new : List Lexeme) → IsProtectedUnit u old new → BeginsAt u.at old
protected_begins u old new h = word_begins _ u.at old h.0 h.1

task_begins : (t : TaskUnit) (old new : List Lexeme) → IsTask t old new → BeginsAt t.at old
task_begins t old new h = word_begins _ t.at old h.0 h.1

pub declaration_begins : (d : Declaration) (old new : List Lexeme) → IsDeclaration d old new → BeginsAt (declaration_place d) old
declaration_begins (package_pragma p) old new h = pragma_begins p old new h
declaration_begins (a_subtype at n mark range) old new h = word_begins _ at old h.0 h.1
declaration_begins (a_protected_unit u) old new h = protected_begins u old new h
declaration_begins (a_task t) old new h = task_begins t old new h
declaration_begins (a_variable names mark) old new h = names_begin names old h.0 h.1
declaration_begins (a_constant names mark value) old new h = names_begin names old h.0 h.1

pub local_begins : (l : Local) (old new : List Lexeme) → IsLocal l old new → BeginsAt (local_place l) old
local_begins (an_object names is_constant mark range value) old new h = names_begin names old h.0 h.1
local_begins (local_pragma p) old new h = pragma_begins p old new h
local_begins (local_protected_unit u) old new h = protected_begins u old new h
local_begins (local_task t) old new h = task_begins t old new h
