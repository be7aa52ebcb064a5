-- Rules that hold no statements go on over words, and are refused only where too many parentheses are open.
use Rattle.std.proofs.Common.{◌≡◌, Bool, true, false, cond, ◌&&◌, List, [], ◌∷◌, ◌++◌, Some, None, Ok, Err, refl, sym}
use Rattle.rv_lex.specs.declared.kind.Kind.{Kind}
use Rattle.rv_lex.specs.declared.kind.Kind.TheVariants as k
use Rattle.rv_lex.specs.Lexes.{Lexeme}
use Rattle.rv_tree.specs.Phrases.{Is}
use Rattle.rv_tree.specs.Names.{Identifier}
use Rattle.rv_tree.specs.Expressions as e
use Rattle.rv_tree.specs.Declarations as t
use Rattle.rv_tree.specs.Statements as s
use Rattle.rv_grammar.specs.Reading.{unexpected, too_deep, Outcome, Parser, and_then, pure, sees, next, after, expect, starts_by, listed, enclosed}
use Rattle.rv_grammar.specs.NameRules.{identifier, name}
use Rattle.rv_grammar.specs.ExpressionRules.{expression, begins_expression}
use Rattle.rv_grammar.specs.DeclarationRules.{any_expression, range, argument_name, pragma_argument, a_pragma, aspect, aspects, mode_of, mode, parameter, parameters, entry, function, procedure, begins_operation, operation_by, operation, component, begins_element, element, private_part, protected_unit, begins_task_item, task_item, task_definition, task, a_subtype, constant, variable, object, declaration_by, declaration}
use Rattle.rv_grammar.specs.StatementRules.{choice, two_from, bounds_from, bounds, for_loop, while_loop, iteration, null_statement, call_arguments, named_statement, exit_statement, return_statement, raise_statement, delay_statement, abort_statement, with_abort, requeue_statement, guard, simple_by, simple_statement}
use Rattle.rv_grammar.specs.Nesting.{ManyParentheses}
use Rattle.rv_grammar.proofs.Steps.{taken, eaten, not_eaten}
use Rattle.rv_grammar.proofs.Tame.{Walk, Tamed, Tame, tame_too, from_there, ◌⊳◌, pure_tame, refuse_tame, here_tamed, if_tamed, if_tame, choice_tame, expect_tame, eat_tame, identifier_tame, by_kind_tame, many_tame, optional_tame, optional_after_tame, listed_tame, name_tame, end_name_tame}
use Rattle.rv_grammar.proofs.TameExpression.{Fronts, walk, joined_up, one_more_open, expression_tame, arguments_within}

-- what is left is the end of what there was
pub record Ends (ts us : List Lexeme) : Type 0 where
  pub front : List Lexeme
  pub whole : ts ≡ front ++ us

pub ends_on : (a b c : List Lexeme) → Ends a b → Ends b c → Ends a c
ends_on a b c h g = record { front = h.front ++ g.front; whole = joined_up a b c h.front g.front h.whole g.whole }

pub ends_word : (what : Kind) (a b : List Lexeme) → Is what a b → Ends a b
ends_word what a b h = record { front = h.0 ∷ []; whole = h.1 }

pub more_before : (a b : List Lexeme) → Ends a b → ManyParentheses b → ManyParentheses a
more_before a b h g = record {
  before = h.front ++ g.before;
  nest = g.nest;
  behind = g.behind;
  whole = joined_up a b (g.nest ++ g.behind) h.front g.before h.whole g.whole;
  many = g.many;
}

-- over any words, with this told of words that nest too deep
abbrev pub telling : (fails : List Lexeme → Type 0) → ((a b : List Lexeme) → Ends a b → fails b → fails a) → Walk
telling deep before = record {
  via = Ends;
  fails = deep;
  same = λ a. record { front = []; whole = refl };
  on = ends_on;
  back = before;
  word = λ what a b o c h. ends_word what a b h;
}

-- with too many parentheses told
abbrev pub plain : Walk
plain = telling ManyParentheses more_before

many_of : (ts : List Lexeme) → Fronts 65 ts → ManyParentheses ts
many_of ts h = record { before = []; nest = h.front; behind = h.rest; whole = h.whole; many = h.count }

-- what may open 64 parentheses
within : {A : Type 0} (p : Parser A) → Tame (walk 65) p → Tame plain p
within = tame_too (walk 65) plain (λ a b h. record { front = h.front; whole = h.whole }) many_of

any_word_tame : (what : Kind) → Tame plain (expect what)
unfolding expect Tamed
any_word_tame what = record { at = λ ts. if_tamed plain (sees what ts) _ _ ts (λ g. ends_word what ts (next ts) (taken what ts g)) (λ g. tt) }

pub after_ends : (what : Kind) (ts : List Lexeme) → Ends ts (after what ts)
after_ends what ts = by_test (sees what ts) refl
  where
    by_test : (b : Bool) → sees what ts ≡ b → Ends ts (after what ts)
    by_test true g = ends_word what ts (after what ts) (eaten what ts g)
    by_test false g = record { front = []; whole = sym (not_eaten what ts g) }

pub any_expression_tame : Tame plain any_expression
any_expression_tame = within (expression 64) (expression_tame 64)

pub range_tame : Tame plain range
unfolding range
range_tame = expect_tame plain k.Range refl refl ⊳ (λ x_1. any_expression_tame ⊳ (λ x_2. expect_tame plain k.DoubleDot refl refl ⊳ (λ x_3. any_expression_tame ⊳ (λ x_4. pure_tame plain _))))

module _ (w : Walk) where
  argument_name_tame : Tame w argument_name
  unfolding argument_name
  argument_name_tame = choice_tame w (λ i. sees k.Identifier i && sees k.Arrow (next i)) _ _ (identifier_tame w ⊳ (λ n. expect_tame w k.Arrow refl refl ⊳ (λ _. pure_tame w (Some n)))) (pure_tame w None)

pragma_argument_tame : Tame (walk 64) pragma_argument
unfolding pragma_argument
pragma_argument_tame = argument_name_tame (walk 64) ⊳ (λ n. expression_tame 63 ⊳ (λ value. pure_tame (walk 64) _))

-- behind the parenthesis of a pragma
pragma_from : (ts us : List Lexeme) (r : Outcome (List t.PragmaArgument)) (f : List t.PragmaArgument → Parser (List t.PragmaArgument)) → Is k.LeftParenthesis ts us → Tamed (walk 64) us r → ((a : List t.PragmaArgument) → Tame plain (f a)) → Tamed plain ts (and_then r f)
unfolding Tamed
pragma_from ts us (Ok p) f h g more = from_there plain ts p.1 _ (ends_on ts us p.1 (ends_word k.LeftParenthesis ts us h) (record { front = g.front; whole = g.whole })) ((more p.0).at p.1)
pragma_from ts us (Err too_deep) f h g more = many_of ts (one_more_open 64 ts us h g)
pragma_from ts us (Err unexpected) f h g more = tt

pragma_arguments_tame : Tame plain (enclosed k.Comma pragma_argument)
unfolding enclosed
pragma_arguments_tame = record { at = λ ts. by_test ts (sees k.LeftParenthesis ts) refl }
  where
    by_test : (ts : List Lexeme) (b : Bool) → sees k.LeftParenthesis ts ≡ b → Tamed {A = List t.PragmaArgument} plain ts (cond b (λ us. and_then (listed k.Comma pragma_argument us) (λ found vs. and_then (expect k.RightParenthesis vs) (λ _. pure found))) (pure []) (after k.LeftParenthesis ts))
    by_test ts true g = pragma_from ts (after k.LeftParenthesis ts) (listed k.Comma pragma_argument (after k.LeftParenthesis ts)) _ (eaten k.LeftParenthesis ts g)
        ((listed_tame (walk 64) pragma_argument pragma_argument_tame k.Comma refl refl).at (after k.LeftParenthesis ts)) (λ found. any_word_tame k.RightParenthesis ⊳ (λ _. pure_tame plain found))
    by_test ts false g = from_there plain ts (after k.LeftParenthesis ts) _ (after_ends k.LeftParenthesis ts) (here_tamed plain [] (after k.LeftParenthesis ts))

pub a_pragma_tame : Tame plain a_pragma
unfolding a_pragma
a_pragma_tame = expect_tame plain k.Pragma refl refl ⊳ (λ x_1. identifier_tame plain ⊳ (λ x_2. pragma_arguments_tame ⊳ (λ x_3. expect_tame plain k.Semicolon refl refl ⊳ (λ x_4. pure_tame plain _))))

pub aspect_tame : Tame plain aspect
unfolding aspect
aspect_tame = identifier_tame plain ⊳ (λ x_1. optional_after_tame plain any_expression any_expression_tame k.Arrow refl refl ⊳ (λ x_2. pure_tame plain _))

aspects_tame : Tame plain aspects
unfolding aspects
aspects_tame = eat_tame plain k.With refl refl ⊳ (λ seen. if_tame plain seen _ _ (listed_tame plain aspect aspect_tame k.Comma refl refl) (pure_tame plain []))

pub mode_tame : Tame plain mode
unfolding mode
mode_tame = eat_tame plain k.In refl refl ⊳ (λ x_1. eat_tame plain k.Out refl refl ⊳ (λ x_2. pure_tame plain (mode_of x_1 x_2)))

pub parameter_tame : Tame plain parameter
unfolding parameter
parameter_tame = listed_tame plain identifier (identifier_tame plain) k.Comma refl refl ⊳ (λ x_1. expect_tame plain k.Colon refl refl ⊳ (λ x_2. mode_tame ⊳ (λ x_3. name_tame plain ⊳ (λ x_4. pure_tame plain _))))

pub parameters_tame : Tame plain parameters
unfolding parameters enclosed
parameters_tame = record {
  at = λ ts. from_there plain ts (after k.LeftParenthesis ts) _ (after_ends k.LeftParenthesis ts)
      ((if_tame plain (sees k.LeftParenthesis ts) _ _ (listed_tame plain parameter parameter_tame k.Semicolon refl refl ⊳ (λ found. any_word_tame k.RightParenthesis ⊳ (λ _. pure_tame plain found))) (pure_tame plain [])).at (after k.LeftParenthesis ts));
}

pub entry_tame : Tame plain entry
unfolding entry
entry_tame = expect_tame plain k.Entry refl refl ⊳ (λ x_1. identifier_tame plain ⊳ (λ x_2. parameters_tame ⊳ (λ x_3. expect_tame plain k.Semicolon refl refl ⊳ (λ x_4. pure_tame plain _))))

pub function_tame : Tame plain function
unfolding function
function_tame = expect_tame plain k.Function refl refl ⊳ (λ x_1. identifier_tame plain ⊳ (λ x_2. parameters_tame ⊳ (λ x_3. expect_tame plain k.Return refl refl ⊳ (λ x_4. name_tame plain ⊳ (λ x_5. expect_tame plain k.Semicolon refl refl ⊳ (λ x_6. pure_tame plain _))))))

pub procedure_tame : Tame plain procedure
unfolding procedure
procedure_tame = expect_tame plain k.Procedure refl refl ⊳ (λ x_1. identifier_tame plain ⊳ (λ x_2. parameters_tame ⊳ (λ x_3. aspects_tame ⊳ (λ x_4. expect_tame plain k.Semicolon refl refl ⊳ (λ x_5. pure_tame plain _)))))

operation_by_tame : (what : Kind) → Tame plain (operation_by what)
operation_by_tame k.Pragma = a_pragma_tame ⊳ (λ p. pure_tame plain _)
operation_by_tame k.Function = function_tame
operation_by_tame k.Procedure = procedure_tame
operation_by_tame k.Entry = entry_tame ⊳ (λ x. pure_tame plain _)
operation_by_tame _ = refuse_tame plain t.OperationDeclaration

operation_tame : Tame plain operation
unfolding operation
operation_tame = by_kind_tame plain operation_by operation_by_tame

pub component_tame : Tame plain component
unfolding component
component_tame = listed_tame plain identifier (identifier_tame plain) k.Comma refl refl ⊳ (λ x_1. expect_tame plain k.Colon refl refl ⊳ (λ x_2. name_tame plain ⊳ (λ x_3. optional_tame plain range range_tame (sees k.Range) ⊳ (λ x_4. optional_after_tame plain any_expression any_expression_tame k.Becomes refl refl ⊳ (λ x_5. expect_tame plain k.Semicolon refl refl ⊳ (λ x_6. pure_tame plain _))))))

element_tame : Tame plain element
unfolding element
element_tame = choice_tame plain (sees k.Identifier) _ _ component_tame (operation_tame ⊳ (λ o. pure_tame plain (t.an_operation o)))

private_part_tame : Tame plain private_part
unfolding private_part
private_part_tame = eat_tame plain k.Private refl refl ⊳ (λ seen. if_tame plain seen _ _ (many_tame plain element element_tame (starts_by begins_element) ⊳ (λ es. pure_tame plain (Some es))) (pure_tame plain None))

pub protected_unit_tame : Tame plain protected_unit
unfolding protected_unit
protected_unit_tame = expect_tame plain k.Protected refl refl ⊳ (λ x_1. eat_tame plain k.Type refl refl ⊳ (λ x_2. identifier_tame plain ⊳ (λ x_3. aspects_tame ⊳ (λ x_4. expect_tame plain k.Is refl refl ⊳ (λ x_5. many_tame plain operation operation_tame (starts_by begins_operation) ⊳ (λ x_6. private_part_tame ⊳ (λ x_7. end_name_tame plain ⊳ (λ x_8. pure_tame plain (record { at = x_1; is_type = x_2; name = x_3; aspects = x_4; operations = x_6; private = x_7; end_name = x_8 })))))))))

task_item_tame : Tame plain task_item
unfolding task_item
task_item_tame = choice_tame plain (sees k.Pragma) _ _ (a_pragma_tame ⊳ (λ p. pure_tame plain (t.task_pragma p))) (entry_tame ⊳ (λ x. pure_tame plain (t.task_entry x)))

task_definition_tame : Tame plain task_definition
unfolding task_definition
task_definition_tame = eat_tame plain k.Is refl refl ⊳ (λ seen. if_tame plain seen _ _
    (many_tame plain task_item task_item_tame (starts_by begins_task_item) ⊳ (λ items. end_name_tame plain ⊳ (λ end. pure_tame plain (Some (record { items = items; end_name = end })))))
    (expect_tame plain k.Semicolon refl refl ⊳ (λ _. pure_tame plain None)))

pub task_tame : Tame plain task
unfolding task
task_tame = expect_tame plain k.Task refl refl ⊳ (λ x_1. identifier_tame plain ⊳ (λ x_2. aspects_tame ⊳ (λ x_3. task_definition_tame ⊳ (λ x_4. pure_tame plain _))))

pub a_subtype_tame : Tame plain a_subtype
unfolding a_subtype
a_subtype_tame = expect_tame plain k.Subtype refl refl ⊳ (λ x_1. identifier_tame plain ⊳ (λ x_2. expect_tame plain k.Is refl refl ⊳ (λ x_3. name_tame plain ⊳ (λ x_4. optional_tame plain range range_tame (sees k.Range) ⊳ (λ x_5. expect_tame plain k.Semicolon refl refl ⊳ (λ x_6. pure_tame plain _))))))

constant_tame : (names : List Identifier) → Tame plain (constant names)
unfolding constant
constant_tame names = expect_tame plain k.Constant refl refl ⊳ (λ x_1. optional_tame plain name (name_tame plain) (sees k.Identifier) ⊳ (λ x_2. expect_tame plain k.Becomes refl refl ⊳ (λ x_3. any_expression_tame ⊳ (λ x_4. expect_tame plain k.Semicolon refl refl ⊳ (λ x_5. pure_tame plain _)))))

variable_tame : (names : List Identifier) → Tame plain (variable names)
unfolding variable
variable_tame names = name_tame plain ⊳ (λ x_1. expect_tame plain k.Semicolon refl refl ⊳ (λ x_2. pure_tame plain _))

object_tame : Tame plain object
unfolding object
object_tame = listed_tame plain identifier (identifier_tame plain) k.Comma refl refl ⊳ (λ x_1. expect_tame plain k.Colon refl refl ⊳ (λ x_2. choice_tame plain (sees k.Constant) _ _ (constant_tame x_1) (variable_tame x_1)))

declaration_by_tame : (what : Kind) → Tame plain (declaration_by what)
declaration_by_tame k.Pragma = a_pragma_tame ⊳ (λ p. pure_tame plain _)
declaration_by_tame k.Subtype = a_subtype_tame
declaration_by_tame k.Protected = protected_unit_tame ⊳ (λ u. pure_tame plain _)
declaration_by_tame k.Task = task_tame ⊳ (λ u. pure_tame plain _)
declaration_by_tame k.Identifier = object_tame
declaration_by_tame _ = refuse_tame plain t.Declaration

pub declaration_tame : Tame plain declaration
unfolding declaration
declaration_tame = by_kind_tame plain declaration_by declaration_by_tame

pub choice_of_tame : Tame plain choice
unfolding choice
choice_of_tame = choice_tame plain (sees k.Others) _ _ (expect_tame plain k.Others refl refl ⊳ (λ at. pure_tame plain (s.others at)))
    (any_expression_tame ⊳ (λ low. eat_tame plain k.DoubleDot refl refl ⊳ (λ seen. if_tame plain seen _ _ (any_expression_tame ⊳ (λ high. pure_tame plain (s.between low high))) (pure_tame plain (s.value low)))))

two_from_tame : (low : e.Expression) → Tame plain (two_from low)
two_from_tame low = eat_tame plain k.DoubleDot refl refl ⊳ (λ seen. if_tame plain seen _ _ (any_expression_tame ⊳ (λ high. pure_tame plain (s.two_bounds low high))) (pure_tame plain (s.whole_bounds low)))

bounds_from_tame : (low : e.Expression) → Tame plain (bounds_from low)
bounds_from_tame (e.name n) = choice_tame plain (sees k.Range) _ _ (range_tame ⊳ (λ r. pure_tame plain (s.constrained_bounds n r))) (two_from_tame (e.name n))
bounds_from_tame (e.literal at v) = two_from_tame (e.literal at v)
bounds_from_tame (e.attribute n i) = two_from_tame (e.attribute n i)
bounds_from_tame (e.call n es) = two_from_tame (e.call n es)
bounds_from_tame (e.parenthesized at x) = two_from_tame (e.parenthesized at x)
bounds_from_tame (e.highest at op x) = two_from_tame (e.highest at op x)
bounds_from_tame (e.product x fs) = two_from_tame (e.product x fs)
bounds_from_tame (e.signed at op x) = two_from_tame (e.signed at op x)
bounds_from_tame (e.sum x ss) = two_from_tame (e.sum x ss)
bounds_from_tame (e.relation x op y) = two_from_tame (e.relation x op y)
bounds_from_tame (e.logical op x es) = two_from_tame (e.logical op x es)

bounds_tame : Tame plain bounds
unfolding bounds
bounds_tame = any_expression_tame ⊳ bounds_from_tame

pub for_loop_tame : Tame plain for_loop
unfolding for_loop
for_loop_tame = identifier_tame plain ⊳ (λ x_1. expect_tame plain k.In refl refl ⊳ (λ x_2. eat_tame plain k.Reverse refl refl ⊳ (λ x_3. bounds_tame ⊳ (λ x_4. expect_tame plain k.Loop refl refl ⊳ (λ x_5. pure_tame plain (s.for_each x_1 x_3 x_4))))))

pub while_loop_tame : Tame plain while_loop
unfolding while_loop
while_loop_tame = any_expression_tame ⊳ (λ x_1. expect_tame plain k.Loop refl refl ⊳ (λ x_2. pure_tame plain _))

pub iteration_tame : Tame plain iteration
unfolding iteration
iteration_tame = eat_tame plain k.While refl refl ⊳ (λ a. if_tame plain a _ _ while_loop_tame
    (eat_tame plain k.For refl refl ⊳ (λ b. if_tame plain b _ _ for_loop_tame (expect_tame plain k.Loop refl refl ⊳ (λ _. pure_tame plain s.forever)))))

pub null_statement_tame : Tame plain null_statement
unfolding null_statement
null_statement_tame = expect_tame plain k.Null refl refl ⊳ (λ x_1. expect_tame plain k.Semicolon refl refl ⊳ (λ x_2. pure_tame plain _))

call_arguments_tame : Tame plain call_arguments
unfolding call_arguments
call_arguments_tame = choice_tame plain (sees k.LeftParenthesis) _ _ (within _ (arguments_within 64)) (pure_tame plain [])

named_statement_tame : Tame plain named_statement
unfolding named_statement
named_statement_tame = name_tame plain ⊳ (λ n. eat_tame plain k.Becomes refl refl ⊳ (λ seen. if_tame plain seen _ _
    (any_expression_tame ⊳ (λ value. expect_tame plain k.Semicolon refl refl ⊳ (λ _. pure_tame plain (s.assignment n value))))
    (call_arguments_tame ⊳ (λ es. expect_tame plain k.Semicolon refl refl ⊳ (λ _. pure_tame plain (s.call_statement n (e.expressions_of es)))))))

pub exit_statement_tame : Tame plain exit_statement
unfolding exit_statement
exit_statement_tame = expect_tame plain k.Exit refl refl ⊳ (λ x_1. optional_after_tame plain any_expression any_expression_tame k.When refl refl ⊳ (λ x_2. expect_tame plain k.Semicolon refl refl ⊳ (λ x_3. pure_tame plain _)))

return_statement_tame : Tame plain return_statement
unfolding return_statement
return_statement_tame = expect_tame plain k.Return refl refl ⊳ (λ at. optional_tame plain any_expression any_expression_tame (starts_by begins_expression) ⊳ (λ value. expect_tame plain k.Semicolon refl refl ⊳ (λ _. pure_tame plain _)))

pub raise_statement_tame : Tame plain raise_statement
unfolding raise_statement
raise_statement_tame = expect_tame plain k.Raise refl refl ⊳ (λ x_1. optional_tame plain name (name_tame plain) (sees k.Identifier) ⊳ (λ x_2. expect_tame plain k.Semicolon refl refl ⊳ (λ x_3. pure_tame plain _)))

pub delay_statement_tame : Tame plain delay_statement
unfolding delay_statement
delay_statement_tame = expect_tame plain k.Delay refl refl ⊳ (λ x_1. eat_tame plain k.Until refl refl ⊳ (λ x_2. any_expression_tame ⊳ (λ x_3. expect_tame plain k.Semicolon refl refl ⊳ (λ x_4. pure_tame plain (s.delay_statement x_1 x_2 x_3)))))

pub abort_statement_tame : Tame plain abort_statement
unfolding abort_statement
abort_statement_tame = expect_tame plain k.Abort refl refl ⊳ (λ x_1. listed_tame plain name (name_tame plain) k.Comma refl refl ⊳ (λ x_2. expect_tame plain k.Semicolon refl refl ⊳ (λ x_3. pure_tame plain _)))

with_abort_tame : Tame plain with_abort
unfolding with_abort
with_abort_tame = eat_tame plain k.With refl refl ⊳ (λ seen. if_tame plain seen _ _ (expect_tame plain k.Abort refl refl ⊳ (λ _. pure_tame plain true)) (pure_tame plain false))

pub requeue_statement_tame : Tame plain requeue_statement
unfolding requeue_statement
requeue_statement_tame = expect_tame plain k.Requeue refl refl ⊳ (λ x_1. name_tame plain ⊳ (λ x_2. with_abort_tame ⊳ (λ x_3. expect_tame plain k.Semicolon refl refl ⊳ (λ x_4. pure_tame plain _))))

pub guard_tame : Tame plain guard
unfolding guard
guard_tame = expect_tame plain k.When refl refl ⊳ (λ x_1. any_expression_tame ⊳ (λ x_2. expect_tame plain k.Arrow refl refl ⊳ (λ x_3. pure_tame plain _)))

simple_by_tame : (what : Kind) → Tame plain (simple_by what)
simple_by_tame k.Identifier = named_statement_tame
simple_by_tame k.Null = null_statement_tame
simple_by_tame k.Exit = exit_statement_tame
simple_by_tame k.Return = return_statement_tame
simple_by_tame k.Raise = raise_statement_tame
simple_by_tame k.Delay = delay_statement_tame
simple_by_tame k.Abort = abort_statement_tame
simple_by_tame k.Requeue = requeue_statement_tame
simple_by_tame _ = refuse_tame plain s.Statement

pub simple_statement_tame : Tame plain simple_statement
unfolding simple_statement
simple_statement_tame = by_kind_tame plain simple_by simple_by_tame
