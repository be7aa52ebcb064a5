-- A declaration of the grammar is read, unless its parentheses nest too deep.
use Rattle.std.proofs.Common.{◌≡◌, ◌<◌, Bool, true, false, ◌&&◌, List, [], ◌∷◌, Option, Some, None, refl, sym, ap, ◌∙◌, subst, arith}
use Rattle.rv_lex.specs.declared.kind.Kind.{Kind}
use Rattle.rv_lex.specs.declared.kind.Kind.TheVariants as k
use Rattle.rv_lex.specs.Lexes.{Lexeme}
use Rattle.rv_tree.specs.declared.declaration.Mode.{Mode}
use Rattle.rv_tree.specs.declared.declaration.Mode.TheVariants.{NotWritten, In, Out, InOut}
use Rattle.rv_tree.specs.declared.expression.LogicalOperator.{LogicalOperator}
use Rattle.rv_tree.specs.declared.expression.LogicalOperator.TheVariants as logic
use Rattle.rv_tree.specs.declared.expression.RelationalOperator.{RelationalOperator}
use Rattle.rv_tree.specs.declared.expression.RelationalOperator.TheVariants as relates
use Rattle.rv_tree.specs.declared.expression.AddingOperator.{AddingOperator}
use Rattle.rv_tree.specs.declared.expression.AddingOperator.TheVariants as adds
use Rattle.rv_tree.specs.declared.expression.MultiplyingOperator.{MultiplyingOperator}
use Rattle.rv_tree.specs.declared.expression.MultiplyingOperator.TheVariants as multiplies
use Rattle.rv_tree.specs.declared.expression.HighestOperator.{HighestOperator}
use Rattle.rv_tree.specs.declared.expression.HighestOperator.TheVariants as before
use Rattle.rv_tree.specs.Phrases.{Is, Maybe, After, EachAfter}
use Rattle.rv_tree.specs.Names.{Identifier, Name}
use Rattle.rv_tree.specs.NameGrammar.{IsIdentifier, IsName, AreIdentifiers, IsEnd}
use Rattle.rv_tree.specs.Expressions as e
use Rattle.rv_tree.specs.ExpressionGrammar.{IsExpression, IsRange, AreArguments, highest_word, adding, multiplying, relational, IsLogical}
use Rattle.rv_tree.specs.Declarations as t
use Rattle.rv_tree.specs.DeclarationGrammar.{IsNamed, IsPragmaArgument, IsPragma, IsInitial, IsAspect, AreAspects, IsMode, IsParameter, AreParameters, IsEntry, IsOperation, IsElement, IsPrivatePart, IsProtectedUnit, IsTaskItem, IsTaskDefinition, IsTask, IsDeclaration}
use Rattle.rv_grammar.specs.Reading.{Outcome, Parser, and_then, pure, same_kind, sees, next, by_kind, starts_by, many, listed, enclosed, optional, optional_after}
use Rattle.rv_grammar.specs.NameRules.{identifier, name, end_name}
use Rattle.rv_grammar.specs.ExpressionRules.{expression}
use Rattle.rv_grammar.specs.DeclarationRules.{any_expression, range, argument_name, pragma_argument, a_pragma, aspect, aspects, mode, parameter, parameters, entry, function, procedure, begins_operation, operation_by, operation, component, begins_element, element, private_part, protected_unit, begins_task_item, task_item, task_definition, task, a_subtype, constant, variable, object, begins_declaration, declaration_by, declaration}
use Rattle.rv_grammar.proofs.Forward.{Answers, answers_then, if_true, if_false, sees_it, next_it, after_it, not_after, is_of, not_both, at_then, word_then, eaten_then, uneaten_then, flag_seen, flag_after, identifier_it, Shorter, NotLonger, is_shorter, at_shorter, identifier_shorter, nothing_shorter, flag_shorter, maybe_shorter, each_shorter, after_shorter, listed_shorter, enclosed_shorter, Complete, many_it, optional_it, optional_after_it, listed_it, enclosed_it}
use Rattle.rv_grammar.proofs.ExpressionComplete.{goes_on, name_shorter, name_it, Ends, ends_at, rule_top, expression_shorter, expression_it}

abbrev pub Unseen : Kind → List Lexeme → Type 0
Unseen what ts = sees what ts ≡ false

-- nothing is asked of what follows
abbrev pub Anything : List Lexeme → Type 0
Anything ts = Unit {0}

pub starts_is : (begins : Kind → Bool) (what : Kind) (ts a : List Lexeme) → Is what ts a → starts_by begins ts ≡ begins what
unfolding starts_by
starts_is begins what ts a h = rw (h.1, h.2) refl

pub by_kind_is : {A : Type 0} (by : Kind → Parser A) (what : Kind) (ts a : List Lexeme) → Is what ts a → by_kind by ts ≡ by what ts
by_kind_is by what ts a h = rw (h.1, h.2) refl

pub by_kind_it : {A : Type 0} (by : Kind → Parser A) (what : Kind) (ts a : List Lexeme) (y : A) (rest : List Lexeme) → Is what ts a → Answers (by what ts) y rest → Answers (by_kind by ts) y rest
by_kind_it {A = A} by what ts a y rest h g = let P : Outcome A → Type 0 = λ o. Answers o y rest in subst P (sym (by_kind_is by what ts a h)) g

pub any_it : (x : e.Expression) (ts rest : List Lexeme) → IsExpression x ts rest → Ends 6 rest → Answers (any_expression ts) x rest
any_it x ts rest h ends = expression_it 64 x ts rest (rule_top x) h ends

pub identifiers_it : (xs : List Identifier) (ts rest : List Lexeme) → AreIdentifiers xs ts rest → Unseen k.Comma rest → Answers (listed k.Comma identifier ts) xs rest
identifiers_it xs ts rest h ends = listed_it IsIdentifier identifier Anything (λ i us vs g _. identifier_it i us vs g) identifier_shorter k.Comma (λ _ _ _. tt) xs ts rest h ends tt

pub identifiers_shorter : (xs : List Identifier) (old new : List Lexeme) → AreIdentifiers xs old new → Shorter old new
identifiers_shorter xs old new h = listed_shorter IsIdentifier identifier_shorter k.Comma xs old new h

pub maybe_identifier_it : (o : Option Identifier) (ts rest : List Lexeme) → Maybe IsIdentifier o ts rest → Unseen k.Identifier rest → Answers (optional (sees k.Identifier) identifier ts) o rest
maybe_identifier_it o ts rest h ends = optional_it IsIdentifier identifier Anything (λ i us vs g _. identifier_it i us vs g) identifier_shorter (sees k.Identifier) (λ i us vs g. sees_it k.Identifier us vs (g.0, g.1, g.2)) (λ _ _ _ _. tt) o ts rest h ends tt

pub maybe_name_it : (o : Option Name) (ts rest : List Lexeme) → Maybe IsName o ts rest → Unseen k.Identifier rest → Unseen k.Dot rest → Answers (optional (sees k.Identifier) name ts) o rest
unfolding same_kind
maybe_name_it o ts rest h ends dot = optional_it IsName name (Unseen k.Dot) name_it name_shorter (sees k.Identifier) (λ n us vs g. sees_it k.Identifier us g.0 (g.1.0, g.1.1, g.1.2)) (λ n us vs g. not_both k.Identifier k.Dot us g.0 (g.1.0, g.1.1, g.1.2) refl) o ts rest h ends dot

pub end_it : (o : Option Identifier) (ts rest : List Lexeme) → IsEnd o ts rest → Answers (end_name ts) o rest
unfolding end_name same_kind
end_it o ts rest h =
    word_then k.End ts h.0 _ _ _ h.1
    (answers_then (optional (sees k.Identifier) identifier h.0) _ o h.2.0 _ _ (maybe_identifier_it o h.0 h.2.0 h.2.1 (not_both k.Semicolon k.Identifier h.2.0 rest h.2.2 refl))
    (word_then k.Semicolon h.2.0 rest _ _ _ h.2.2 refl))

pub end_shorter : (o : Option Identifier) (old new : List Lexeme) → IsEnd o old new → Shorter old new
end_shorter o old new h = omega (arith, is_shorter _ old h.0 h.1, maybe_shorter IsIdentifier identifier_shorter o h.0 h.2.0 h.2.1, is_shorter _ h.2.0 new h.2.2)

pub range_it : (r : e.RangeConstraint) (ts rest : List Lexeme) → IsRange r ts rest → Ends 6 rest → Answers (range ts) r rest
unfolding range
range_it r ts rest h ends =
    at_then k.Range r.at ts h.0 _ _ _ h.1
    (answers_then (any_expression h.0) _ r.low h.2.0 _ _ (any_it r.low h.0 h.2.0 h.2.1 (ends_at 6 k.DoubleDot h.2.0 h.2.2.0 h.2.2.1 (omega arith)))
    (word_then k.DoubleDot h.2.0 h.2.2.0 _ _ _ h.2.2.1
    (answers_then (any_expression h.2.2.0) _ r.high rest _ _ (any_it r.high h.2.2.0 rest h.2.2.2 ends) refl)))

pub range_shorter : (r : e.RangeConstraint) (old new : List Lexeme) → IsRange r old new → Shorter old new
range_shorter r old new h = omega (arith, at_shorter _ _ old h.0 h.1, expression_shorter r.low h.0 h.2.0 h.2.1, is_shorter _ h.2.0 h.2.2.0 h.2.2.1, expression_shorter r.high h.2.2.0 new h.2.2.2)

pub maybe_range_it : (o : Option e.RangeConstraint) (ts rest : List Lexeme) → Maybe IsRange o ts rest → Unseen k.Range rest → Ends 6 rest → Answers (optional (sees k.Range) range ts) o rest
maybe_range_it o ts rest h ends goes = optional_it IsRange range (Ends 6) range_it range_shorter (sees k.Range) (λ r us vs g. sees_it k.Range us g.0 (is_of k.Range r.at us g.0 g.1)) (λ r us vs g. ends_at 6 k.Range us g.0 (is_of k.Range r.at us g.0 g.1) (omega arith)) o ts rest h ends goes

pub initial_it : (o : Option e.Expression) (ts rest : List Lexeme) → Maybe IsInitial o ts rest → Unseen k.Becomes rest → Ends 6 rest → Answers (optional_after k.Becomes any_expression ts) o rest
initial_it o ts rest h ends goes = optional_after_it IsExpression any_expression (Ends 6) any_it expression_shorter k.Becomes o ts rest h ends goes

pub initial_shorter : (o : Option e.Expression) (old new : List Lexeme) → Maybe IsInitial o old new → NotLonger old new
initial_shorter o old new h = maybe_shorter (After k.Becomes IsExpression) (after_shorter IsExpression expression_shorter k.Becomes) o old new h

pub maybe_range_shorter : (o : Option e.RangeConstraint) (old new : List Lexeme) → Maybe IsRange o old new → NotLonger old new
maybe_range_shorter o old new h = maybe_shorter IsRange range_shorter o old new h

-- PRAGMAS

and_none : (b c : Bool) → c ≡ false → (b && c) ≡ false
and_none true c h = h
and_none false c h = refl

none_and : (b c : Bool) → b ≡ false → (b && c) ≡ false
none_and true c h = absurd cc
none_and false c h = refl

-- no "=>" comes second
abbrev Plain : List Lexeme → Type 0
Plain ts = (sees k.Identifier ts && sees k.Arrow (next ts)) ≡ false

more_plain : (xs : List Identifier) (ts rest : List Lexeme) → EachAfter k.Dot IsIdentifier xs ts rest → Unseen k.Arrow rest → Unseen k.Arrow ts
unfolding same_kind
more_plain [] ts rest h ends = ap (λ us. sees k.Arrow us) h ∙ ends
more_plain (x ∷ xs) ts rest h ends = not_both k.Dot k.Arrow ts h.1.0 h.1.1 refl

name_plain : (n : Name) (ts rest : List Lexeme) → IsName n ts rest → Unseen k.Arrow rest → Plain ts
name_plain n ts rest h ends =
    let second : Unseen k.Arrow (next ts) = ap (λ us. sees k.Arrow us) (next_it k.Identifier ts h.0 (h.1.0, h.1.1, h.1.2)) ∙ more_plain n.more h.0 rest h.2 ends in
    and_none (sees k.Identifier ts) (sees k.Arrow (next ts)) second

other_plain : (what : Kind) (ts a : List Lexeme) → Is what ts a → same_kind what k.Identifier ≡ false → Plain ts
other_plain what ts a h apart = none_and (sees k.Identifier ts) (sees k.Arrow (next ts)) (not_both what k.Identifier ts a h apart)

arguments_plain : (es : e.Expressions) (ts rest : List Lexeme) → AreArguments es ts rest → Unseen k.Arrow ts
unfolding same_kind
arguments_plain e.no_expressions ts rest h = absurd h
arguments_plain (e.and_expression x es) ts rest h = not_both k.LeftParenthesis k.Arrow ts h.0 h.1 refl

highest_word_is : (op : HighestOperator) → same_kind (highest_word op) k.Identifier ≡ false
unfolding same_kind
highest_word_is before.Abs = refl
highest_word_is before.Not = refl

adding_is : (op : AddingOperator) → (same_kind (adding op) k.Identifier ≡ false) × (same_kind (adding op) k.Arrow ≡ false)
unfolding same_kind
adding_is adds.Plus = (refl, refl)
adding_is adds.Minus = (refl, refl)

multiplying_is : (op : MultiplyingOperator) → same_kind (multiplying op) k.Arrow ≡ false
unfolding same_kind
multiplying_is multiplies.Times = refl
multiplying_is multiplies.Divide = refl
multiplying_is multiplies.Mod = refl
multiplying_is multiplies.Rem = refl

relational_is : (op : RelationalOperator) → same_kind (relational op) k.Arrow ≡ false
unfolding same_kind
relational_is relates.Equal = refl
relational_is relates.NotEqual = refl
relational_is relates.Less = refl
relational_is relates.LessEqual = refl
relational_is relates.Greater = refl
relational_is relates.GreaterEqual = refl

logical_plain : (op : LogicalOperator) (ts rest : List Lexeme) → IsLogical op ts rest → Unseen k.Arrow ts
unfolding same_kind
logical_plain logic.And ts rest h = not_both k.And k.Arrow ts rest h refl
logical_plain logic.Or ts rest h = not_both k.Or k.Arrow ts rest h refl
logical_plain logic.Xor ts rest h = not_both k.Xor k.Arrow ts rest h refl
logical_plain logic.AndThen ts rest h = not_both k.And k.Arrow ts h.0 h.1 refl
logical_plain logic.OrElse ts rest h = not_both k.Or k.Arrow ts h.0 h.1 refl

expression_plain : (x : e.Expression) (ts rest : List Lexeme) → IsExpression x ts rest → Unseen k.Arrow rest → Plain ts
unfolding same_kind
expression_plain (e.literal at v) ts rest h ends = other_plain k.Literal ts rest (h.0, h.1, h.2) refl
expression_plain (e.name n) ts rest h ends = name_plain n ts rest h ends
expression_plain (e.attribute n i) ts rest h ends = name_plain n ts h.0 h.1 (not_both k.Apostrophe k.Arrow h.0 h.2.0 h.2.1 refl)
expression_plain (e.call n es) ts rest h ends = name_plain n ts h.0 h.1 (arguments_plain es h.0 rest h.2)
expression_plain (e.parenthesized at x) ts rest h ends = other_plain k.LeftParenthesis ts h.0 (is_of k.LeftParenthesis at ts h.0 h.1) refl
expression_plain (e.highest at op x) ts rest h ends = other_plain (highest_word op) ts h.0 (is_of (highest_word op) at ts h.0 h.1) (highest_word_is op)
expression_plain (e.product x e.no_factors) ts rest h ends = absurd h
expression_plain (e.product x (e.and_factor op f fs)) ts rest h ends = expression_plain x ts h.0 h.1.1 (not_both (multiplying op) k.Arrow h.0 h.2.0 h.2.1 (multiplying_is op))
expression_plain (e.signed at op x) ts rest h ends = other_plain (adding op) ts h.0 (is_of (adding op) at ts h.0 h.1) (adding_is op).0
expression_plain (e.sum x e.no_terms) ts rest h ends = absurd h
expression_plain (e.sum x (e.and_term op s ss)) ts rest h ends = expression_plain x ts h.0 h.1.1 (not_both (adding op) k.Arrow h.0 h.2.0 h.2.1 (adding_is op).1)
expression_plain (e.relation x op y) ts rest h ends = expression_plain x ts h.0 h.1.1 (not_both (relational op) k.Arrow h.0 h.2.0 h.2.1 (relational_is op))
expression_plain (e.logical op x e.no_expressions) ts rest h ends = absurd h
expression_plain (e.logical op x (e.and_expression f fs)) ts rest h ends = expression_plain x ts h.0 h.1.1 (logical_plain op h.0 h.2.0 h.2.1)

-- what may follow an argument of a pragma
abbrev pub AfterArgument : List Lexeme → Type 0
AfterArgument ts = Ends 6 ts × Unseen k.Arrow ts

argument_it : Complete IsPragmaArgument pragma_argument AfterArgument
unfolding pragma_argument argument_name
argument_it a ts rest h ends = by_name a.name a.value h.0 h.1 h.2
  where
    by_name : (o : Option Identifier) (x : e.Expression) (mid : List Lexeme) → Maybe IsNamed o ts mid → IsExpression x mid rest → Answers {A = t.PragmaArgument} (and_then (argument_name ts) (λ n. λ i. and_then (expression 63 i) (λ v. pure (record { name = n; value = v })))) (record { name = o; value = x }) rest
    by_name None x mid g m =
        let here : IsExpression x ts rest = subst (λ us. IsExpression x us rest) (sym g) m in
        answers_then (argument_name ts) _ None ts _ _ (if_false (sees k.Identifier ts && sees k.Arrow (next ts)) _ _ _ _ (expression_plain x ts rest here ends.1) refl)
        (answers_then (expression 63 ts) _ x rest _ _ (expression_it 63 x ts rest (rule_top x) here ends.0) refl)
    by_name (Some i) x mid g m =
        answers_then (argument_name ts) _ (Some i) mid _ _
        (if_true (sees k.Identifier ts && sees k.Arrow (next ts)) _ _ _ _
        (rw (sees_it k.Identifier ts g.0 (g.1.0, g.1.1, g.1.2), next_it k.Identifier ts g.0 (g.1.0, g.1.1, g.1.2), sees_it k.Arrow g.0 mid g.2) refl)
        (answers_then (identifier ts) _ i g.0 _ _ (identifier_it i ts g.0 g.1) (word_then k.Arrow g.0 mid _ _ _ g.2 refl)))
        (answers_then (expression 63 mid) _ x rest _ _ (expression_it 63 x mid rest (rule_top x) m ends.0) refl)

named_shorter : (o : Option Identifier) (old new : List Lexeme) → Maybe IsNamed o old new → NotLonger old new
named_shorter None old new h = nothing_shorter old new h
named_shorter (Some i) old new h = omega (arith, identifier_shorter i old h.0 h.1, is_shorter _ h.0 new h.2)

argument_shorter : (a : t.PragmaArgument) (old new : List Lexeme) → IsPragmaArgument a old new → Shorter old new
argument_shorter a old new h = omega (arith, named_shorter a.name old h.0 h.1, expression_shorter a.value h.0 new h.2)

pub pragma_it : Complete IsPragma a_pragma Anything
unfolding a_pragma same_kind
pragma_it p ts rest h _ =
    at_then k.Pragma p.at ts h.0 _ _ _ h.1
    (answers_then (identifier h.0) _ p.name h.2.0 _ _ (identifier_it p.name h.0 h.2.0 h.2.1)
    (answers_then (enclosed k.Comma pragma_argument h.2.0) _ p.arguments h.2.2.0 _ _
    (enclosed_it IsPragmaArgument pragma_argument AfterArgument argument_it argument_shorter k.Comma
    (λ us vs g. (ends_at 6 k.Comma us vs g (omega arith), not_both k.Comma k.Arrow us vs g refl)) refl
    (λ us vs g. (ends_at 6 k.RightParenthesis us vs g (omega arith), not_both k.RightParenthesis k.Arrow us vs g refl))
    p.arguments h.2.0 h.2.2.0 h.2.2.1 (not_both k.Semicolon k.LeftParenthesis h.2.2.0 rest h.2.2.2 refl))
    (word_then k.Semicolon h.2.2.0 rest _ _ _ h.2.2.2 refl)))

pub pragma_shorter : (p : t.Pragma) (old new : List Lexeme) → IsPragma p old new → Shorter old new
pragma_shorter p old new h = omega (arith, at_shorter _ _ old h.0 h.1, identifier_shorter p.name h.0 h.2.0 h.2.1, enclosed_shorter IsPragmaArgument argument_shorter k.Comma p.arguments h.2.0 h.2.2.0 h.2.2.1, is_shorter _ h.2.2.0 new h.2.2.2)

-- ASPECTS AND PARAMETERS

-- what may follow an aspect
abbrev pub AfterAspect : List Lexeme → Type 0
AfterAspect ts = Ends 6 ts × Unseen k.Arrow ts

aspect_it : Complete IsAspect aspect AfterAspect
unfolding aspect
aspect_it a ts rest h ends =
    answers_then (identifier ts) _ a.name h.0 _ _ (identifier_it a.name ts h.0 h.1)
    (answers_then (optional_after k.Arrow any_expression h.0) _ a.value rest _ _ (optional_after_it IsExpression any_expression (Ends 6) any_it expression_shorter k.Arrow a.value h.0 rest h.2 ends.1 ends.0) refl)

aspect_shorter : (a : t.Aspect) (old new : List Lexeme) → IsAspect a old new → Shorter old new
aspect_shorter a old new h = omega (arith, identifier_shorter a.name old h.0 h.1, maybe_shorter (After k.Arrow IsExpression) (after_shorter IsExpression expression_shorter k.Arrow) a.value h.0 new h.2)

-- what may follow aspects
abbrev pub AfterAspects : List Lexeme → Type 0
AfterAspects ts = Ends 6 ts × Unseen k.Arrow ts × Unseen k.Comma ts × Unseen k.With ts

pub after_aspects : (what : Kind) (ts a : List Lexeme) → Is what ts a → 6 < goes_on what → same_kind what k.Arrow ≡ false → same_kind what k.Comma ≡ false → same_kind what k.With ≡ false → AfterAspects ts
after_aspects what ts a h le x y z = (ends_at 6 what ts a h le, not_both what k.Arrow ts a h x, not_both what k.Comma ts a h y, not_both what k.With ts a h z)

pub aspects_it : Complete AreAspects aspects AfterAspects
unfolding aspects same_kind
aspects_it [] ts rest h ends = uneaten_then k.With ts _ _ _ _ (ap (λ us. sees k.With us) h ∙ ends.3) (ap (λ us. ([], us)) h)
aspects_it (a ∷ more) ts rest h ends =
    eaten_then k.With ts h.0 _ _ _ _ h.1
    (listed_it IsAspect aspect AfterAspect aspect_it aspect_shorter k.Comma (λ us vs g. (ends_at 6 k.Comma us vs g (omega arith), not_both k.Comma k.Arrow us vs g refl)) (a ∷ more) h.0 rest h.2 ends.2 (ends.0, ends.1))

pub aspects_shorter : (xs : List t.Aspect) (old new : List Lexeme) → AreAspects xs old new → NotLonger old new
aspects_shorter [] old new h = nothing_shorter old new h
aspects_shorter (a ∷ more) old new h = omega (arith, is_shorter _ old h.0 h.1, listed_shorter IsAspect aspect_shorter k.Comma (a ∷ more) h.0 new h.2)

-- a name follows
mode_it : (m : Mode) (ts mid rest : List Lexeme) → IsMode m ts mid → Is k.Identifier mid rest → Answers (mode ts) m mid
unfolding mode same_kind
mode_it NotWritten ts mid rest h g =
    let unseen : Unseen k.In ts = ap (λ us. sees k.In us) h ∙ not_both k.Identifier k.In mid rest g refl in
    let unseen_2 : Unseen k.Out ts = ap (λ us. sees k.Out us) h ∙ not_both k.Identifier k.Out mid rest g refl in
    rw (unseen, not_after k.In ts unseen, unseen_2, not_after k.Out ts unseen_2) (ap (λ us. (NotWritten, us)) h)
mode_it In ts mid rest h g =
    let unseen = not_both k.Identifier k.Out mid rest g refl in
    rw (sees_it k.In ts mid h, after_it k.In ts mid h, unseen, not_after k.Out mid unseen) refl
mode_it Out ts mid rest h g =
    let unseen = not_both k.Out k.In ts mid h refl in
    rw (unseen, not_after k.In ts unseen, sees_it k.Out ts mid h, after_it k.Out ts mid h) refl
mode_it InOut ts mid rest h g =
    rw (sees_it k.In ts h.0 h.1, after_it k.In ts h.0 h.1, sees_it k.Out h.0 mid h.2, after_it k.Out h.0 mid h.2) refl

mode_shorter : (m : Mode) (old new : List Lexeme) → IsMode m old new → NotLonger old new
mode_shorter NotWritten old new h = nothing_shorter old new h
mode_shorter In old new h = omega (arith, is_shorter _ old new h)
mode_shorter Out old new h = omega (arith, is_shorter _ old new h)
mode_shorter InOut old new h = omega (arith, is_shorter _ old h.0 h.1, is_shorter _ h.0 new h.2)

parameter_it : Complete IsParameter parameter (Unseen k.Dot)
unfolding parameter same_kind
parameter_it p ts rest h ends =
    answers_then (listed k.Comma identifier ts) _ p.names h.0 _ _ (identifiers_it p.names ts h.0 h.1 (not_both k.Colon k.Comma h.0 h.2.0 h.2.1 refl))
    (word_then k.Colon h.0 h.2.0 _ _ _ h.2.1
    (answers_then (mode h.2.0) _ p.mode h.2.2.0 _ _ (mode_it p.mode h.2.0 h.2.2.0 h.2.2.2.0 h.2.2.1 (h.2.2.2.1.0, h.2.2.2.1.1, h.2.2.2.1.2))
    (answers_then (name h.2.2.0) _ p.mark rest _ _ (name_it p.mark h.2.2.0 rest h.2.2.2 ends) refl)))

parameter_shorter : (p : t.Parameter) (old new : List Lexeme) → IsParameter p old new → Shorter old new
parameter_shorter p old new h = omega (arith, identifiers_shorter p.names old h.0 h.1, is_shorter _ h.0 h.2.0 h.2.1, mode_shorter p.mode h.2.0 h.2.2.0 h.2.2.1, name_shorter p.mark h.2.2.0 new h.2.2.2)

pub parameters_it : (xs : List t.Parameter) (ts rest : List Lexeme) → AreParameters xs ts rest → Unseen k.LeftParenthesis rest → Answers (parameters ts) xs rest
unfolding parameters same_kind
parameters_it xs ts rest h ends =
    enclosed_it IsParameter parameter (Unseen k.Dot) parameter_it parameter_shorter k.Semicolon (λ us vs g. not_both k.Semicolon k.Dot us vs g refl) refl (λ us vs g. not_both k.RightParenthesis k.Dot us vs g refl) xs ts rest h ends

pub parameters_shorter : (xs : List t.Parameter) (old new : List Lexeme) → AreParameters xs old new → NotLonger old new
parameters_shorter xs old new h = enclosed_shorter IsParameter parameter_shorter k.Semicolon xs old new h

-- OPERATIONS

pub entry_it : Complete IsEntry entry Anything
unfolding entry same_kind
entry_it x ts rest h _ =
    at_then k.Entry x.at ts h.0 _ _ _ h.1
    (answers_then (identifier h.0) _ x.name h.2.0 _ _ (identifier_it x.name h.0 h.2.0 h.2.1)
    (answers_then (parameters h.2.0) _ x.parameters h.2.2.0 _ _ (parameters_it x.parameters h.2.0 h.2.2.0 h.2.2.1 (not_both k.Semicolon k.LeftParenthesis h.2.2.0 rest h.2.2.2 refl))
    (word_then k.Semicolon h.2.2.0 rest _ _ _ h.2.2.2 refl)))

pub entry_shorter : (x : t.EntryDeclaration) (old new : List Lexeme) → IsEntry x old new → Shorter old new
entry_shorter x old new h = omega (arith, at_shorter _ _ old h.0 h.1, identifier_shorter x.name h.0 h.2.0 h.2.1, parameters_shorter x.parameters h.2.0 h.2.2.0 h.2.2.1, is_shorter _ h.2.2.0 new h.2.2.2)

after_parameters : (xs : List t.Aspect) (ts rest a : List Lexeme) → AreAspects xs ts rest → Is k.Semicolon rest a → Unseen k.LeftParenthesis ts
unfolding same_kind
after_parameters [] ts rest a h g = ap (λ us. sees k.LeftParenthesis us) h ∙ not_both k.Semicolon k.LeftParenthesis rest a g refl
after_parameters (x ∷ xs) ts rest a h g = not_both k.With k.LeftParenthesis ts h.0 h.1 refl

operation_it : Complete IsOperation operation Anything
unfolding operation function procedure same_kind
operation_it (t.a_pragma p) ts rest h _ =
    by_kind_it operation_by k.Pragma ts h.0 _ _ (is_of k.Pragma p.at ts h.0 h.1) (answers_then (a_pragma ts) _ p rest _ _ (pragma_it p ts rest h tt) refl)
operation_it (t.a_function at n ps mark) ts rest h _ =
    by_kind_it operation_by k.Function ts h.0 _ _ (is_of k.Function at ts h.0 h.1)
    (at_then k.Function at ts h.0 _ _ _ h.1
    (answers_then (identifier h.0) _ n h.2.0 _ _ (identifier_it n h.0 h.2.0 h.2.1)
    (answers_then (parameters h.2.0) _ ps h.2.2.0 _ _ (parameters_it ps h.2.0 h.2.2.0 h.2.2.1 (not_both k.Return k.LeftParenthesis h.2.2.0 h.2.2.2.0 h.2.2.2.1 refl))
    (word_then k.Return h.2.2.0 h.2.2.2.0 _ _ _ h.2.2.2.1
    (answers_then (name h.2.2.2.0) _ mark h.2.2.2.2.0 _ _ (name_it mark h.2.2.2.0 h.2.2.2.2.0 h.2.2.2.2.1 (not_both k.Semicolon k.Dot h.2.2.2.2.0 rest h.2.2.2.2.2 refl))
    (word_then k.Semicolon h.2.2.2.2.0 rest _ _ _ h.2.2.2.2.2 refl))))))
operation_it (t.a_procedure at n ps xs) ts rest h _ =
    by_kind_it operation_by k.Procedure ts h.0 _ _ (is_of k.Procedure at ts h.0 h.1)
    (at_then k.Procedure at ts h.0 _ _ _ h.1
    (answers_then (identifier h.0) _ n h.2.0 _ _ (identifier_it n h.0 h.2.0 h.2.1)
    (answers_then (parameters h.2.0) _ ps h.2.2.0 _ _ (parameters_it ps h.2.0 h.2.2.0 h.2.2.1 (after_parameters xs h.2.2.0 h.2.2.2.0 rest h.2.2.2.1 h.2.2.2.2))
    (answers_then (aspects h.2.2.0) _ xs h.2.2.2.0 _ _ (aspects_it xs h.2.2.0 h.2.2.2.0 h.2.2.2.1 (after_aspects k.Semicolon h.2.2.2.0 rest h.2.2.2.2 (omega arith) refl refl refl))
    (word_then k.Semicolon h.2.2.2.0 rest _ _ _ h.2.2.2.2 refl)))))
operation_it (t.an_entry x) ts rest h _ =
    by_kind_it operation_by k.Entry ts h.0 _ _ (is_of k.Entry x.at ts h.0 h.1) (answers_then (entry ts) _ x rest _ _ (entry_it x ts rest h tt) refl)

operation_starts : (o : t.OperationDeclaration) (ts rest : List Lexeme) → IsOperation o ts rest → starts_by begins_operation ts ≡ true
operation_starts (t.a_pragma p) ts rest h = starts_is begins_operation k.Pragma ts h.0 (is_of k.Pragma p.at ts h.0 h.1)
operation_starts (t.a_function at n ps mark) ts rest h = starts_is begins_operation k.Function ts h.0 (is_of k.Function at ts h.0 h.1)
operation_starts (t.a_procedure at n ps xs) ts rest h = starts_is begins_operation k.Procedure ts h.0 (is_of k.Procedure at ts h.0 h.1)
operation_starts (t.an_entry x) ts rest h = starts_is begins_operation k.Entry ts h.0 (is_of k.Entry x.at ts h.0 h.1)

operation_shorter : (o : t.OperationDeclaration) (old new : List Lexeme) → IsOperation o old new → Shorter old new
operation_shorter (t.a_pragma p) old new h = pragma_shorter p old new h
operation_shorter (t.a_function at n ps mark) old new h = omega (arith, at_shorter _ _ old h.0 h.1, identifier_shorter n h.0 h.2.0 h.2.1, parameters_shorter ps h.2.0 h.2.2.0 h.2.2.1, is_shorter _ h.2.2.0 h.2.2.2.0 h.2.2.2.1, name_shorter mark h.2.2.2.0 h.2.2.2.2.0 h.2.2.2.2.1, is_shorter _ h.2.2.2.2.0 new h.2.2.2.2.2)
operation_shorter (t.a_procedure at n ps xs) old new h = omega (arith, at_shorter _ _ old h.0 h.1, identifier_shorter n h.0 h.2.0 h.2.1, parameters_shorter ps h.2.0 h.2.2.0 h.2.2.1, aspects_shorter xs h.2.2.0 h.2.2.2.0 h.2.2.2.1, is_shorter _ h.2.2.2.0 new h.2.2.2.2)
operation_shorter (t.an_entry x) old new h = entry_shorter x old new h

not_identifier : (o : t.OperationDeclaration) (ts rest : List Lexeme) → IsOperation o ts rest → Unseen k.Identifier ts
unfolding same_kind
not_identifier (t.a_pragma p) ts rest h = not_both k.Pragma k.Identifier ts h.0 (is_of k.Pragma p.at ts h.0 h.1) refl
not_identifier (t.a_function at n ps mark) ts rest h = not_both k.Function k.Identifier ts h.0 (is_of k.Function at ts h.0 h.1) refl
not_identifier (t.a_procedure at n ps xs) ts rest h = not_both k.Procedure k.Identifier ts h.0 (is_of k.Procedure at ts h.0 h.1) refl
not_identifier (t.an_entry x) ts rest h = not_both k.Entry k.Identifier ts h.0 (is_of k.Entry x.at ts h.0 h.1) refl

-- the first of identifiers
pub first_identifier : (xs : List Identifier) (ts rest : List Lexeme) → AreIdentifiers xs ts rest → (a : List Lexeme) × Is k.Identifier ts a
first_identifier [] ts rest h = absurd h
first_identifier (x ∷ xs) ts rest h = (h.0, (h.1.0, h.1.1, h.1.2))

-- what may follow a range, and what may follow a mark before it
pub after_mark : (r : Option e.RangeConstraint) (v : Option e.Expression) (ts mid rest a : List Lexeme) → Maybe IsRange r ts mid → Maybe IsInitial v mid rest → Is k.Semicolon rest a → Unseen k.Dot ts
unfolding same_kind
after_mark None None ts mid rest a r v h = ap (λ us. sees k.Dot us) (r ∙ v) ∙ not_both k.Semicolon k.Dot rest a h refl
after_mark None (Some x) ts mid rest a r v h = ap (λ us. sees k.Dot us) r ∙ not_both k.Becomes k.Dot mid v.0 v.1 refl
after_mark (Some x) v ts mid rest a r w h = not_both k.Range k.Dot ts r.0 (is_of k.Range x.at ts r.0 r.1) refl

pub after_range : (v : Option e.Expression) (ts rest a : List Lexeme) → Maybe IsInitial v ts rest → Is k.Semicolon rest a → Unseen k.Range ts × Ends 6 ts
unfolding same_kind
after_range None ts rest a v h = (ap (λ us. sees k.Range us) v ∙ not_both k.Semicolon k.Range rest a h refl, subst (λ us. Ends 6 us) (sym v) (ends_at 6 k.Semicolon rest a h (omega arith)))
after_range (Some x) ts rest a v h = (not_both k.Becomes k.Range ts v.0 v.1 refl, ends_at 6 k.Becomes ts v.0 v.1 (omega arith))

element_it : Complete IsElement element Anything
unfolding element component same_kind
element_it (t.an_operation o) ts rest h _ =
    if_false (sees k.Identifier ts) _ _ _ _ (not_identifier o ts rest h) (answers_then (operation ts) _ o rest _ _ (operation_it o ts rest h tt) refl)
element_it (t.a_component names mark r v) ts rest h _ =
    let first = first_identifier names ts h.0 h.1 in
    let tail = h.2.2.2 in
    let goes = after_range v tail.0 tail.2.0 rest tail.2.1 tail.2.2 in
    if_true (sees k.Identifier ts) _ _ _ _ (sees_it k.Identifier ts first.0 first.1)
    (answers_then (listed k.Comma identifier ts) _ names h.0 _ _ (identifiers_it names ts h.0 h.1 (not_both k.Colon k.Comma h.0 h.2.0 h.2.1 refl))
    (word_then k.Colon h.0 h.2.0 _ _ _ h.2.1
    (answers_then (name h.2.0) _ mark h.2.2.0 _ _ (name_it mark h.2.0 h.2.2.0 h.2.2.1 (after_mark r v h.2.2.0 tail.0 tail.2.0 rest tail.1 tail.2.1 tail.2.2))
    (answers_then (optional (sees k.Range) range h.2.2.0) _ r tail.0 _ _ (maybe_range_it r h.2.2.0 tail.0 tail.1 goes.0 goes.1)
    (answers_then (optional_after k.Becomes any_expression tail.0) _ v tail.2.0 _ _ (initial_it v tail.0 tail.2.0 tail.2.1 (not_both k.Semicolon k.Becomes tail.2.0 rest tail.2.2 refl) (ends_at 6 k.Semicolon tail.2.0 rest tail.2.2 (omega arith)))
    (word_then k.Semicolon tail.2.0 rest _ _ _ tail.2.2 refl))))))

element_starts : (x : t.ProtectedElement) (ts rest : List Lexeme) → IsElement x ts rest → starts_by begins_element ts ≡ true
element_starts (t.an_operation (t.a_pragma p)) ts rest h = starts_is begins_element k.Pragma ts h.0 (is_of k.Pragma p.at ts h.0 h.1)
element_starts (t.an_operation (t.a_function at n ps mark)) ts rest h = starts_is begins_element k.Function ts h.0 (is_of k.Function at ts h.0 h.1)
element_starts (t.an_operation (t.a_procedure at n ps xs)) ts rest h = starts_is begins_element k.Procedure ts h.0 (is_of k.Procedure at ts h.0 h.1)
element_starts (t.an_operation (t.an_entry x)) ts rest h = starts_is begins_element k.Entry ts h.0 (is_of k.Entry x.at ts h.0 h.1)
element_starts (t.a_component names mark r v) ts rest h = let first = first_identifier names ts h.0 h.1 in starts_is begins_element k.Identifier ts first.0 first.1

element_shorter : (x : t.ProtectedElement) (old new : List Lexeme) → IsElement x old new → Shorter old new
element_shorter (t.an_operation o) old new h = operation_shorter o old new h
element_shorter (t.a_component names mark r v) old new h = omega (arith, identifiers_shorter names old h.0 h.1, is_shorter _ h.0 h.2.0 h.2.1, name_shorter mark h.2.0 h.2.2.0 h.2.2.1, maybe_range_shorter r h.2.2.0 h.2.2.2.0 h.2.2.2.1, initial_shorter v h.2.2.2.0 h.2.2.2.2.0 h.2.2.2.2.1, is_shorter _ h.2.2.2.2.0 new h.2.2.2.2.2)

private_it : (o : Option (List t.ProtectedElement)) (ts rest a : List Lexeme) → Maybe IsPrivatePart o ts rest → Is k.End rest a → Answers (private_part ts) o rest
unfolding private_part same_kind
private_it None ts rest a h g = uneaten_then k.Private ts _ _ _ _ (ap (λ us. sees k.Private us) h ∙ not_both k.End k.Private rest a g refl) (ap (λ us. (None, us)) h)
private_it (Some xs) ts rest a h g =
    eaten_then k.Private ts h.0 _ _ _ _ h.1
    (answers_then (many (starts_by begins_element) element h.0) _ xs rest _ _ (many_it IsElement element Anything element_it element_shorter (starts_by begins_element) element_starts (λ _ _ _ _. tt) xs h.0 rest h.2 (starts_is begins_element k.End rest a g) tt) refl)

private_shorter : (o : Option (List t.ProtectedElement)) (old new : List Lexeme) → Maybe IsPrivatePart o old new → NotLonger old new
private_shorter None old new h = nothing_shorter old new h
private_shorter (Some xs) old new h = omega (arith, is_shorter _ old h.0 h.1, each_shorter IsElement element_shorter xs h.0 new h.2)

after_operations : (o : Option (List t.ProtectedElement)) (ts rest a : List Lexeme) → Maybe IsPrivatePart o ts rest → Is k.End rest a → starts_by begins_operation ts ≡ false
after_operations None ts rest a h g = ap (λ us. starts_by begins_operation us) h ∙ starts_is begins_operation k.End rest a g
after_operations (Some xs) ts rest a h g = starts_is begins_operation k.Private ts h.0 h.1

pub protected_it : Complete IsProtectedUnit protected_unit Anything
unfolding protected_unit same_kind
protected_it u ts rest h _ =
    let d = h.2.2.2 in
    let x = d.2.2 in
    let end = x.2.2.1 in
    let typed = not_both k.Identifier k.Type h.2.0 h.2.2.0 (h.2.2.1.0, h.2.2.1.1, h.2.2.1.2) refl in
    at_then k.Protected u.at ts h.0 _ _ _ h.1
    (rw (flag_seen k.Type u.is_type h.0 h.2.0 h.2.1 typed, flag_after k.Type u.is_type h.0 h.2.0 h.2.1 typed)
    (answers_then (identifier h.2.0) _ u.name h.2.2.0 _ _ (identifier_it u.name h.2.0 h.2.2.0 h.2.2.1)
    (answers_then (aspects h.2.2.0) _ u.aspects d.0 _ _ (aspects_it u.aspects h.2.2.0 d.0 d.1 (after_aspects k.Is d.0 d.2.0 d.2.1 (omega arith) refl refl refl))
    (word_then k.Is d.0 d.2.0 _ _ _ d.2.1
    (answers_then (many (starts_by begins_operation) operation d.2.0) _ u.operations x.0 _ _
    (many_it IsOperation operation Anything operation_it operation_shorter (starts_by begins_operation) operation_starts (λ _ _ _ _. tt) u.operations d.2.0 x.0 x.1 (after_operations u.private x.0 x.2.0 x.2.2.0 x.2.1 end) tt)
    (answers_then (private_part x.0) _ u.private x.2.0 _ _ (private_it u.private x.0 x.2.0 x.2.2.0 x.2.1 end)
    (answers_then (end_name x.2.0) _ u.end_name rest _ _ (end_it u.end_name x.2.0 rest x.2.2) refl)))))))

pub protected_shorter : (u : t.ProtectedUnit) (old new : List Lexeme) → IsProtectedUnit u old new → Shorter old new
protected_shorter u old new h =
    let d = h.2.2.2 in
    let x = d.2.2 in
    omega (arith, at_shorter _ _ old h.0 h.1, flag_shorter k.Type u.is_type h.0 h.2.0 h.2.1, identifier_shorter u.name h.2.0 h.2.2.0 h.2.2.1, aspects_shorter u.aspects h.2.2.0 d.0 d.1, is_shorter _ d.0 d.2.0 d.2.1, each_shorter IsOperation operation_shorter u.operations d.2.0 x.0 x.1, private_shorter u.private x.0 x.2.0 x.2.1, end_shorter u.end_name x.2.0 new x.2.2)

-- TASKS

task_item_it : Complete IsTaskItem task_item Anything
unfolding task_item same_kind
task_item_it (t.task_pragma p) ts rest h _ =
    if_true (sees k.Pragma ts) _ _ _ _ (sees_it k.Pragma ts h.0 (is_of k.Pragma p.at ts h.0 h.1)) (answers_then (a_pragma ts) _ p rest _ _ (pragma_it p ts rest h tt) refl)
task_item_it (t.task_entry x) ts rest h _ =
    if_false (sees k.Pragma ts) _ _ _ _ (not_both k.Entry k.Pragma ts h.0 (is_of k.Entry x.at ts h.0 h.1) refl) (answers_then (entry ts) _ x rest _ _ (entry_it x ts rest h tt) refl)

task_item_starts : (x : t.TaskItem) (ts rest : List Lexeme) → IsTaskItem x ts rest → starts_by begins_task_item ts ≡ true
task_item_starts (t.task_pragma p) ts rest h = starts_is begins_task_item k.Pragma ts h.0 (is_of k.Pragma p.at ts h.0 h.1)
task_item_starts (t.task_entry x) ts rest h = starts_is begins_task_item k.Entry ts h.0 (is_of k.Entry x.at ts h.0 h.1)

task_item_shorter : (x : t.TaskItem) (old new : List Lexeme) → IsTaskItem x old new → Shorter old new
task_item_shorter (t.task_pragma p) old new h = pragma_shorter p old new h
task_item_shorter (t.task_entry x) old new h = entry_shorter x old new h

definition_it : (o : Option t.TaskDefinition) (ts rest : List Lexeme) → IsTaskDefinition o ts rest → Answers (task_definition ts) o rest
unfolding task_definition same_kind
definition_it None ts rest h = uneaten_then k.Is ts _ _ _ _ (not_both k.Semicolon k.Is ts rest h refl) (word_then k.Semicolon ts rest _ _ _ h refl)
definition_it (Some d) ts rest h =
    eaten_then k.Is ts h.0 _ _ _ _ h.1
    (answers_then (many (starts_by begins_task_item) task_item h.0) _ d.items h.2.0 _ _
    (many_it IsTaskItem task_item Anything task_item_it task_item_shorter (starts_by begins_task_item) task_item_starts (λ _ _ _ _. tt) d.items h.0 h.2.0 h.2.1 (starts_is begins_task_item k.End h.2.0 h.2.2.0 h.2.2.1) tt)
    (answers_then (end_name h.2.0) _ d.end_name rest _ _ (end_it d.end_name h.2.0 rest h.2.2) refl))

definition_shorter : (o : Option t.TaskDefinition) (old new : List Lexeme) → IsTaskDefinition o old new → Shorter old new
definition_shorter None old new h = is_shorter _ old new h
definition_shorter (Some d) old new h = omega (arith, is_shorter _ old h.0 h.1, each_shorter IsTaskItem task_item_shorter d.items h.0 h.2.0 h.2.1, end_shorter d.end_name h.2.0 new h.2.2)

before_definition : (o : Option t.TaskDefinition) (ts rest : List Lexeme) → IsTaskDefinition o ts rest → AfterAspects ts
unfolding same_kind
before_definition None ts rest h = after_aspects k.Semicolon ts rest h (omega arith) refl refl refl
before_definition (Some d) ts rest h = after_aspects k.Is ts h.0 h.1 (omega arith) refl refl refl

pub task_it : Complete IsTask task Anything
unfolding task
task_it u ts rest h _ =
    at_then k.Task u.at ts h.0 _ _ _ h.1
    (answers_then (identifier h.0) _ u.name h.2.0 _ _ (identifier_it u.name h.0 h.2.0 h.2.1)
    (answers_then (aspects h.2.0) _ u.aspects h.2.2.0 _ _ (aspects_it u.aspects h.2.0 h.2.2.0 h.2.2.1 (before_definition u.definition h.2.2.0 rest h.2.2.2))
    (answers_then (task_definition h.2.2.0) _ u.definition rest _ _ (definition_it u.definition h.2.2.0 rest h.2.2.2) refl)))

pub task_shorter : (u : t.TaskUnit) (old new : List Lexeme) → IsTask u old new → Shorter old new
task_shorter u old new h = omega (arith, at_shorter _ _ old h.0 h.1, identifier_shorter u.name h.0 h.2.0 h.2.1, aspects_shorter u.aspects h.2.0 h.2.2.0 h.2.2.1, definition_shorter u.definition h.2.2.0 new h.2.2.2)

-- DECLARATIONS

after_subtype_mark : (r : Option e.RangeConstraint) (ts rest a : List Lexeme) → Maybe IsRange r ts rest → Is k.Semicolon rest a → Unseen k.Dot ts
unfolding same_kind
after_subtype_mark None ts rest a r h = ap (λ us. sees k.Dot us) r ∙ not_both k.Semicolon k.Dot rest a h refl
after_subtype_mark (Some x) ts rest a r h = not_both k.Range k.Dot ts r.0 (is_of k.Range x.at ts r.0 r.1) refl

pub declaration_it : Complete IsDeclaration declaration Anything
unfolding declaration a_subtype object constant variable same_kind
declaration_it (t.package_pragma p) ts rest h _ =
    by_kind_it declaration_by k.Pragma ts h.0 _ _ (is_of k.Pragma p.at ts h.0 h.1) (answers_then (a_pragma ts) _ p rest _ _ (pragma_it p ts rest h tt) refl)
declaration_it (t.a_subtype at n mark r) ts rest h _ =
    let d = h.2.2.2 in
    by_kind_it declaration_by k.Subtype ts h.0 _ _ (is_of k.Subtype at ts h.0 h.1)
    (at_then k.Subtype at ts h.0 _ _ _ h.1
    (answers_then (identifier h.0) _ n h.2.0 _ _ (identifier_it n h.0 h.2.0 h.2.1)
    (word_then k.Is h.2.0 h.2.2.0 _ _ _ h.2.2.1
    (answers_then (name h.2.2.0) _ mark d.0 _ _ (name_it mark h.2.2.0 d.0 d.1 (after_subtype_mark r d.0 d.2.0 rest d.2.1 d.2.2))
    (answers_then (optional (sees k.Range) range d.0) _ r d.2.0 _ _ (maybe_range_it r d.0 d.2.0 d.2.1 (not_both k.Semicolon k.Range d.2.0 rest d.2.2 refl) (ends_at 6 k.Semicolon d.2.0 rest d.2.2 (omega arith)))
    (word_then k.Semicolon d.2.0 rest _ _ _ d.2.2 refl))))))
declaration_it (t.a_protected_unit u) ts rest h _ =
    by_kind_it declaration_by k.Protected ts h.0 _ _ (is_of k.Protected u.at ts h.0 h.1) (answers_then (protected_unit ts) _ u rest _ _ (protected_it u ts rest h tt) refl)
declaration_it (t.a_task u) ts rest h _ =
    by_kind_it declaration_by k.Task ts h.0 _ _ (is_of k.Task u.at ts h.0 h.1) (answers_then (task ts) _ u rest _ _ (task_it u ts rest h tt) refl)
declaration_it (t.a_variable names mark) ts rest h _ =
    let first = first_identifier names ts h.0 h.1 in
    let n = h.2.2.1 in
    by_kind_it declaration_by k.Identifier ts first.0 _ _ first.1
    (answers_then (listed k.Comma identifier ts) _ names h.0 _ _ (identifiers_it names ts h.0 h.1 (not_both k.Colon k.Comma h.0 h.2.0 h.2.1 refl))
    (word_then k.Colon h.0 h.2.0 _ _ _ h.2.1
    (if_false (sees k.Constant h.2.0) _ _ _ _ (not_both k.Identifier k.Constant h.2.0 n.0 (n.1.0, n.1.1, n.1.2) refl)
    (answers_then (name h.2.0) _ mark h.2.2.0 _ _ (name_it mark h.2.0 h.2.2.0 n (not_both k.Semicolon k.Dot h.2.2.0 rest h.2.2.2 refl))
    (word_then k.Semicolon h.2.2.0 rest _ _ _ h.2.2.2 refl)))))
declaration_it (t.a_constant names mark v) ts rest h _ =
    let first = first_identifier names ts h.0 h.1 in
    let c = h.2.2 in
    let d = c.2 in
    let x = d.2 in
    by_kind_it declaration_by k.Identifier ts first.0 _ _ first.1
    (answers_then (listed k.Comma identifier ts) _ names h.0 _ _ (identifiers_it names ts h.0 h.1 (not_both k.Colon k.Comma h.0 h.2.0 h.2.1 refl))
    (word_then k.Colon h.0 h.2.0 _ _ _ h.2.1
    (if_true (sees k.Constant h.2.0) _ _ _ _ (sees_it k.Constant h.2.0 c.0 c.1)
    (word_then k.Constant h.2.0 c.0 _ _ _ c.1
    (answers_then (optional (sees k.Identifier) name c.0) _ mark d.0 _ _ (maybe_name_it mark c.0 d.0 d.1 (not_both k.Becomes k.Identifier d.0 x.1.0 x.1.1 refl) (not_both k.Becomes k.Dot d.0 x.1.0 x.1.1 refl))
    (word_then k.Becomes d.0 x.1.0 _ _ _ x.1.1
    (answers_then (any_expression x.1.0) _ v x.0 _ _ (any_it v x.1.0 x.0 x.1.2 (ends_at 6 k.Semicolon x.0 rest x.2 (omega arith)))
    (word_then k.Semicolon x.0 rest _ _ _ x.2 refl))))))))

pub declaration_starts : (x : t.Declaration) (ts rest : List Lexeme) → IsDeclaration x ts rest → starts_by begins_declaration ts ≡ true
declaration_starts (t.package_pragma p) ts rest h = starts_is begins_declaration k.Pragma ts h.0 (is_of k.Pragma p.at ts h.0 h.1)
declaration_starts (t.a_subtype at n mark r) ts rest h = starts_is begins_declaration k.Subtype ts h.0 (is_of k.Subtype at ts h.0 h.1)
declaration_starts (t.a_protected_unit u) ts rest h = starts_is begins_declaration k.Protected ts h.0 (is_of k.Protected u.at ts h.0 h.1)
declaration_starts (t.a_task u) ts rest h = starts_is begins_declaration k.Task ts h.0 (is_of k.Task u.at ts h.0 h.1)
declaration_starts (t.a_variable names mark) ts rest h = let first = first_identifier names ts h.0 h.1 in starts_is begins_declaration k.Identifier ts first.0 first.1
declaration_starts (t.a_constant names mark v) ts rest h = let first = first_identifier names ts h.0 h.1 in starts_is begins_declaration k.Identifier ts first.0 first.1

pub maybe_name_shorter : (o : Option Name) (old new : List Lexeme) → Maybe IsName o old new → NotLonger old new
maybe_name_shorter o old new h = maybe_shorter IsName name_shorter o old new h

pub declaration_shorter : (x : t.Declaration) (old new : List Lexeme) → IsDeclaration x old new → Shorter old new
declaration_shorter (t.package_pragma p) old new h = pragma_shorter p old new h
declaration_shorter (t.a_subtype at n mark r) old new h = omega (arith, at_shorter _ _ old h.0 h.1, identifier_shorter n h.0 h.2.0 h.2.1, is_shorter _ h.2.0 h.2.2.0 h.2.2.1, name_shorter mark h.2.2.0 h.2.2.2.0 h.2.2.2.1, maybe_range_shorter r h.2.2.2.0 h.2.2.2.2.0 h.2.2.2.2.1, is_shorter _ h.2.2.2.2.0 new h.2.2.2.2.2)
declaration_shorter (t.a_protected_unit u) old new h = protected_shorter u old new h
declaration_shorter (t.a_task u) old new h = task_shorter u old new h
declaration_shorter (t.a_variable names mark) old new h = omega (arith, identifiers_shorter names old h.0 h.1, is_shorter _ h.0 h.2.0 h.2.1, name_shorter mark h.2.0 h.2.2.0 h.2.2.1, is_shorter _ h.2.2.0 new h.2.2.2)
declaration_shorter (t.a_constant names mark v) old new h = omega (arith, identifiers_shorter names old h.0 h.1, is_shorter _ h.0 h.2.0 h.2.1, is_shorter _ h.2.0 h.2.2.0 h.2.2.1, maybe_name_shorter mark h.2.2.0 h.2.2.2.0 h.2.2.2.1, after_shorter IsExpression expression_shorter k.Becomes v h.2.2.2.0 h.2.2.2.2.0 h.2.2.2.2.1, is_shorter _ h.2.2.2.2.0 new h.2.2.2.2.2)
