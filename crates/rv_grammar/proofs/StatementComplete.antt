-- A statement of the grammar is read, unless statements or parentheses nest too deep.
use Rattle.std.proofs.Common.{◌≡◌, ◌<◌, ℕ, Bool, true, false, List, [], Option, Some, None, refl, sym, ap, ◌∙◌, subst, arith}
use Rattle.rv_lex.specs.declared.kind.Kind.{Kind}
use Rattle.rv_lex.specs.declared.kind.Kind.TheVariants as k
use Rattle.rv_lex.specs.Lexes.{Lexeme}
use Rattle.rv_tree.specs.Phrases.{◌⨾◌, Is, Maybe, After}
use Rattle.rv_tree.specs.Names.{Identifier, Name}
use Rattle.rv_tree.specs.NameGrammar.{IsIdentifier, IsName, AreNames}
use Rattle.rv_tree.specs.Expressions as e
use Rattle.rv_tree.specs.ExpressionGrammar.{IsExpression}
use Rattle.rv_tree.specs.Statements as t
use Rattle.rv_tree.specs.StatementGrammar.{IsChoice, AreBounds, IsIteration, IsCondition, IsGuard, MaybeArguments, IsWithAbort, IsStatement, AreStatements, MoreStatements, AreElsifParts, IsElse, AreAlternatives, IsAcceptBody, IsSelective, AreSelectives, MoreSelectives, IsThenAbort}
use Rattle.rv_grammar.specs.Reading.{Outcome, same_kind, sees, place, starts_by, listed, optional, optional_after}
use Rattle.rv_grammar.specs.NameRules.{identifier, name}
use Rattle.rv_grammar.specs.ExpressionRules.{begins_expression, opening, inside}
use Rattle.rv_grammar.specs.DeclarationRules.{any_expression, range}
use Rattle.rv_grammar.specs.StatementRules.{choice, two_from, bounds_from, bounds, for_loop, while_loop, iteration, null_statement, call_arguments, named_statement, exit_statement, return_statement, raise_statement, delay_statement, abort_statement, with_abort, requeue_statement, guard, simple_by, simple_statement, begins_statement, sees_statement}
use Rattle.rv_grammar.proofs.Steps.{same_means}
use Rattle.rv_grammar.proofs.Forward.{Answers, answers_then, if_true, if_false, sees_it, place_it, is_of, not_both, at_then, word_then, eaten_then, uneaten_then, flag_seen, flag_after, identifier_it, Shorter, NotLonger, is_shorter, at_shorter, identifier_shorter, nothing_shorter, flag_shorter, maybe_shorter, after_shorter, listed_shorter, Complete, optional_after_it, listed_it}
use Rattle.rv_grammar.proofs.ExpressionComplete.{name_shorter, name_it, Ends, ends_at, begins_at, begins_not, expression_starts, expression_shorter, arguments_shorter, expressions_list, expressions_of_list, arguments_it, opens_at}
use Rattle.rv_grammar.proofs.DeclarationComplete.{Unseen, Anything, starts_is, by_kind_it, any_it, maybe_name_it, range_it, range_shorter, parameters_shorter, maybe_name_shorter}

-- CHOICES AND BOUNDS

-- what may follow an expression that may go on with ".."
abbrev pub AfterBounds : List Lexeme → Type 0
AfterBounds ts = Ends 6 ts × Unseen k.DoubleDot ts

pub choice_it : Complete IsChoice choice AfterBounds
unfolding choice same_kind
choice_it (t.others at) ts rest h ends =
    if_true (sees k.Others ts) _ _ _ _ (sees_it k.Others ts rest (h.0, h.1, h.2)) (at_then k.Others at ts rest _ _ _ h refl)
choice_it (t.value x) ts rest h ends =
    if_false (sees k.Others ts) _ _ _ _ (begins_not k.Others x ts rest (omega arith) h)
    (answers_then (any_expression ts) _ x rest _ _ (any_it x ts rest h ends.0) (uneaten_then k.DoubleDot rest _ _ _ _ ends.1 refl))
choice_it (t.between low high) ts rest h ends =
    if_false (sees k.Others ts) _ _ _ _ (begins_not k.Others low ts h.0 (omega arith) h.1)
    (answers_then (any_expression ts) _ low h.0 _ _ (any_it low ts h.0 h.1 (ends_at 6 k.DoubleDot h.0 h.2.0 h.2.1 (omega arith)))
    (eaten_then k.DoubleDot h.0 h.2.0 _ _ _ _ h.2.1 (answers_then (any_expression h.2.0) _ high rest _ _ (any_it high h.2.0 rest h.2.2 ends.0) refl)))

pub choice_shorter : (c : t.Choice) (old new : List Lexeme) → IsChoice c old new → Shorter old new
choice_shorter (t.others at) old new h = at_shorter _ _ old new h
choice_shorter (t.value x) old new h = expression_shorter x old new h
choice_shorter (t.between low high) old new h = omega (arith, expression_shorter low old h.0 h.1, is_shorter _ h.0 h.2.0 h.2.1, expression_shorter high h.2.0 new h.2.2)

whole_from : (x : e.Expression) (ts : List Lexeme) → Unseen k.DoubleDot ts → Answers (two_from x ts) (t.whole_bounds x) ts
whole_from x ts h = uneaten_then k.DoubleDot ts _ _ _ _ h refl

between_from : (x y : e.Expression) (ts mid rest : List Lexeme) → Is k.DoubleDot ts mid → IsExpression y mid rest → Ends 6 rest → Answers (two_from x ts) (t.two_bounds x y) rest
between_from x y ts mid rest h g ends = eaten_then k.DoubleDot ts mid _ _ _ _ h (answers_then (any_expression mid) _ y rest _ _ (any_it y mid rest g ends) refl)

-- where no range follows, all expressions go on alike
bounds_are : (x : e.Expression) (ts : List Lexeme) → Unseen k.Range ts → bounds_from x ts ≡ two_from x ts
bounds_are (e.name n) ts h = rw h refl
bounds_are (e.literal at v) ts h = refl
bounds_are (e.attribute n i) ts h = refl
bounds_are (e.call n es) ts h = refl
bounds_are (e.parenthesized at x) ts h = refl
bounds_are (e.highest at op x) ts h = refl
bounds_are (e.product x fs) ts h = refl
bounds_are (e.signed at op x) ts h = refl
bounds_are (e.sum x ss) ts h = refl
bounds_are (e.relation x op y) ts h = refl
bounds_are (e.logical op x es) ts h = refl

alike : (x : e.Expression) (ts rest : List Lexeme) (y : t.LoopBounds) → Unseen k.Range ts → Answers (two_from x ts) y rest → Answers (bounds_from x ts) y rest
alike x ts rest y h g = let P : Outcome t.LoopBounds → Type 0 = λ o. Answers o y rest in subst P (sym (bounds_are x ts h)) g

-- "loop" follows
bounds_it : (b : t.LoopBounds) (ts rest a : List Lexeme) → AreBounds b ts rest → Is k.Loop rest a → Answers (bounds ts) b rest
unfolding bounds same_kind
bounds_it (t.whole_bounds x) ts rest a h g =
    answers_then (any_expression ts) _ x rest _ _ (any_it x ts rest h (ends_at 6 k.Loop rest a g (omega arith)))
    (alike x rest rest _ (not_both k.Loop k.Range rest a g refl) (whole_from x rest (not_both k.Loop k.DoubleDot rest a g refl)))
bounds_it (t.two_bounds x y) ts rest a h g =
    answers_then (any_expression ts) _ x h.0 _ _ (any_it x ts h.0 h.1 (ends_at 6 k.DoubleDot h.0 h.2.0 h.2.1 (omega arith)))
    (alike x h.0 rest _ (not_both k.DoubleDot k.Range h.0 h.2.0 h.2.1 refl) (between_from x y h.0 h.2.0 rest h.2.1 h.2.2 (ends_at 6 k.Loop rest a g (omega arith))))
bounds_it (t.constrained_bounds n r) ts rest a h g =
    let w = is_of k.Range r.at h.0 h.2.0 h.2.1 in
    answers_then (any_expression ts) _ (e.name n) h.0 _ _ (any_it (e.name n) ts h.0 h.1 (ends_at 6 k.Range h.0 h.2.0 w (omega arith)))
    (if_true (sees k.Range h.0) _ _ _ _ (sees_it k.Range h.0 h.2.0 w) (answers_then (range h.0) _ r rest _ _ (range_it r h.0 rest h.2 (ends_at 6 k.Loop rest a g (omega arith))) refl))

bounds_shorter : (b : t.LoopBounds) (old new : List Lexeme) → AreBounds b old new → Shorter old new
bounds_shorter (t.whole_bounds x) old new h = expression_shorter x old new h
bounds_shorter (t.two_bounds x y) old new h = omega (arith, expression_shorter x old h.0 h.1, is_shorter _ h.0 h.2.0 h.2.1, expression_shorter y h.2.0 new h.2.2)
bounds_shorter (t.constrained_bounds n r) old new h = omega (arith, name_shorter n old h.0 h.1, range_shorter r h.0 new h.2)

-- bounds begin with an expression
bounds_not : (what : Kind) (b : t.LoopBounds) (ts rest : List Lexeme) → 6 < begins_at what → AreBounds b ts rest → Unseen what ts
bounds_not what (t.whole_bounds x) ts rest le h = begins_not what x ts rest le h
bounds_not what (t.two_bounds x y) ts rest le h = begins_not what x ts h.0 le h.1
bounds_not what (t.constrained_bounds n r) ts rest le h = begins_not what (e.name n) ts h.0 le h.1

pub loop_place : (at : ℕ) (x : t.Iteration) (ts rest : List Lexeme) → IsIteration at x ts rest → place ts ≡ at
loop_place at t.forever ts rest h = place_it k.Loop at ts rest h
loop_place at (t.while_true x) ts rest h = place_it k.While at ts h.0 h.1
loop_place at (t.for_each i r b) ts rest h = place_it k.For at ts h.0 h.1

pub iteration_it : (at : ℕ) (x : t.Iteration) (ts rest : List Lexeme) → IsIteration at x ts rest → Answers (iteration ts) x rest
unfolding iteration while_loop for_loop same_kind
iteration_it at t.forever ts rest h =
    let w = is_of k.Loop at ts rest h in
    uneaten_then k.While ts _ _ _ _ (not_both k.Loop k.While ts rest w refl)
    (uneaten_then k.For ts _ _ _ _ (not_both k.Loop k.For ts rest w refl) (word_then k.Loop ts rest _ _ _ w refl))
iteration_it at (t.while_true x) ts rest h =
    eaten_then k.While ts h.0 _ _ _ _ (is_of k.While at ts h.0 h.1)
    (answers_then (any_expression h.0) _ x h.2.0 _ _ (any_it x h.0 h.2.0 h.2.1 (ends_at 6 k.Loop h.2.0 rest h.2.2 (omega arith)))
    (word_then k.Loop h.2.0 rest _ _ _ h.2.2 refl))
iteration_it at (t.for_each i is_reverse b) ts rest h =
    let w = is_of k.For at ts h.0 h.1 in
    let c = h.2.2 in
    let d = c.2 in
    let l = d.2 in
    let forward = bounds_not k.Reverse b d.0 l.0 (omega arith) l.1 in
    uneaten_then k.While ts _ _ _ _ (not_both k.For k.While ts h.0 w refl)
    (eaten_then k.For ts h.0 _ _ _ _ w
    (answers_then (identifier h.0) _ i h.2.0 _ _ (identifier_it i h.0 h.2.0 h.2.1)
    (word_then k.In h.2.0 c.0 _ _ _ c.1
    (rw (flag_seen k.Reverse is_reverse c.0 d.0 d.1 forward, flag_after k.Reverse is_reverse c.0 d.0 d.1 forward)
    (answers_then (bounds d.0) _ b l.0 _ _ (bounds_it b d.0 l.0 rest l.1 l.2)
    (word_then k.Loop l.0 rest _ _ _ l.2 refl))))))

iteration_shorter : (at : ℕ) (x : t.Iteration) (old new : List Lexeme) → IsIteration at x old new → Shorter old new
iteration_shorter at t.forever old new h = at_shorter _ _ old new h
iteration_shorter at (t.while_true x) old new h = omega (arith, at_shorter _ _ old h.0 h.1, expression_shorter x h.0 h.2.0 h.2.1, is_shorter _ h.2.0 new h.2.2)
iteration_shorter at (t.for_each i r b) old new h = omega (arith, at_shorter _ _ old h.0 h.1, identifier_shorter i h.0 h.2.0 h.2.1, is_shorter _ h.2.0 h.2.2.0 h.2.2.1, flag_shorter k.Reverse r h.2.2.0 h.2.2.2.0 h.2.2.2.1, bounds_shorter b h.2.2.2.0 h.2.2.2.2.0 h.2.2.2.2.1, is_shorter _ h.2.2.2.2.0 new h.2.2.2.2.2)

-- SIMPLE STATEMENTS

call_arguments_it : (es : e.Expressions) (ts rest : List Lexeme) → MaybeArguments es ts rest → Unseen k.LeftParenthesis rest → Answers (call_arguments ts) (expressions_list es) rest
unfolding call_arguments expressions_list
call_arguments_it e.no_expressions ts rest h ends = if_false (sees k.LeftParenthesis ts) _ _ _ _ (ap (λ us. sees k.LeftParenthesis us) h ∙ ends) (ap (λ us. ([], us)) h)
call_arguments_it (e.and_expression x es) ts rest h ends =
    if_true (sees k.LeftParenthesis ts) _ _ _ _ (sees_it k.LeftParenthesis ts h.0 h.1) (arguments_it (opening 64) (inside 64) (opens_at 64) (e.and_expression x es) ts rest h)

before_arguments : (what : Kind) (es : e.Expressions) (ts rest a : List Lexeme) → same_kind k.LeftParenthesis what ≡ false → same_kind k.Semicolon what ≡ false → MaybeArguments es ts rest → Is k.Semicolon rest a → Unseen what ts
before_arguments what e.no_expressions ts rest a x y h g = ap (λ us. sees what us) h ∙ not_both k.Semicolon what rest a g y
before_arguments what (e.and_expression f fs) ts rest a x y h g = not_both k.LeftParenthesis what ts h.0 h.1 x

maybe_arguments_shorter : (es : e.Expressions) (old new : List Lexeme) → MaybeArguments es old new → NotLonger old new
maybe_arguments_shorter e.no_expressions old new h = nothing_shorter old new h
maybe_arguments_shorter (e.and_expression x es) old new h = omega (arith, arguments_shorter (e.and_expression x es) old new h)

with_abort_it : (b : Bool) (ts rest : List Lexeme) → IsWithAbort b ts rest → Unseen k.With rest → Answers (with_abort ts) b rest
unfolding with_abort
with_abort_it true ts rest h ends = eaten_then k.With ts h.0 _ _ _ _ h.1 (word_then k.Abort h.0 rest _ _ _ h.2 refl)
with_abort_it false ts rest h ends = uneaten_then k.With ts _ _ _ _ (ap (λ us. sees k.With us) h ∙ ends) (ap (λ us. (false, us)) h)

with_abort_dot : (b : Bool) (ts rest a : List Lexeme) → IsWithAbort b ts rest → Is k.Semicolon rest a → Unseen k.Dot ts
unfolding same_kind
with_abort_dot true ts rest a h g = not_both k.With k.Dot ts h.0 h.1 refl
with_abort_dot false ts rest a h g = ap (λ us. sees k.Dot us) h ∙ not_both k.Semicolon k.Dot rest a g refl

with_abort_shorter : (b : Bool) (old new : List Lexeme) → IsWithAbort b old new → NotLonger old new
with_abort_shorter true old new h = omega (arith, is_shorter _ old h.0 h.1, is_shorter _ h.0 new h.2)
with_abort_shorter false old new h = nothing_shorter old new h

pub guard_it : Complete IsGuard guard Anything
unfolding guard
guard_it g ts rest h _ =
    at_then k.When g.at ts h.0 _ _ _ h.1
    (answers_then (any_expression h.0) _ g.condition h.2.0 _ _ (any_it g.condition h.0 h.2.0 h.2.1 (ends_at 6 k.Arrow h.2.0 rest h.2.2 (omega arith)))
    (word_then k.Arrow h.2.0 rest _ _ _ h.2.2 refl))

pub guard_shorter : (g : t.Guard) (old new : List Lexeme) → IsGuard g old new → Shorter old new
guard_shorter g old new h = omega (arith, at_shorter _ _ old h.0 h.1, expression_shorter g.condition h.0 h.2.0 h.2.1, is_shorter _ h.2.0 new h.2.2)

pub names_it : (xs : List Name) (ts rest a : List Lexeme) → AreNames xs ts rest → Is k.Semicolon rest a → Answers (listed k.Comma name ts) xs rest
unfolding same_kind
names_it xs ts rest a h g = listed_it IsName name (Unseen k.Dot) name_it name_shorter k.Comma (λ us vs x. not_both k.Comma k.Dot us vs x refl) xs ts rest h (not_both k.Semicolon k.Comma rest a g refl) (not_both k.Semicolon k.Dot rest a g refl)

condition_shorter : (o : Option e.Expression) (old new : List Lexeme) → Maybe IsCondition o old new → NotLonger old new
condition_shorter o old new h = maybe_shorter (After k.When IsExpression) (after_shorter IsExpression expression_shorter k.When) o old new h

-- SIMPLE STATEMENTS, WHOLE

-- statements that hold no others
pub simple_it : (s : t.Statement) (what : Kind) (ts a rest : List Lexeme) → Is what ts a → Answers (simple_by what ts) s rest → Answers (simple_statement ts) s rest
unfolding simple_statement
simple_it s what ts a rest h g = by_kind_it simple_by what ts a s rest h g

pub null_it : (at : ℕ) (ts rest : List Lexeme) → IsStatement (t.null_statement at) ts rest → Answers (null_statement ts) (t.null_statement at) rest
unfolding null_statement
null_it at ts rest h = at_then k.Null at ts h.0 _ _ _ h.1 (word_then k.Semicolon h.0 rest _ _ _ h.2 refl)

pub assignment_it : (n : Name) (x : e.Expression) (ts rest : List Lexeme) → IsStatement (t.assignment n x) ts rest → Answers (named_statement ts) (t.assignment n x) rest
unfolding named_statement same_kind
assignment_it n x ts rest h =
    let v = h.2.1 in
    answers_then (name ts) _ n h.0 _ _ (name_it n ts h.0 h.1 (not_both k.Becomes k.Dot h.0 v.0 v.1 refl))
    (eaten_then k.Becomes h.0 v.0 _ _ _ _ v.1
    (answers_then (any_expression v.0) _ x h.2.0 _ _ (any_it x v.0 h.2.0 v.2 (ends_at 6 k.Semicolon h.2.0 rest h.2.2 (omega arith)))
    (word_then k.Semicolon h.2.0 rest _ _ _ h.2.2 refl)))

pub call_it : (n : Name) (es : e.Expressions) (ts rest : List Lexeme) → IsStatement (t.call_statement n es) ts rest → Answers (named_statement ts) (t.call_statement n es) rest
unfolding named_statement same_kind
call_it n es ts rest h =
    answers_then (name ts) _ n h.0 _ _ (name_it n ts h.0 h.1 (before_arguments k.Dot es h.0 h.2.0 rest refl refl h.2.1 h.2.2))
    (uneaten_then k.Becomes h.0 _ _ _ _ (before_arguments k.Becomes es h.0 h.2.0 rest refl refl h.2.1 h.2.2)
    (answers_then (call_arguments h.0) _ (expressions_list es) h.2.0 _ _ (call_arguments_it es h.0 h.2.0 h.2.1 (not_both k.Semicolon k.LeftParenthesis h.2.0 rest h.2.2 refl))
    (word_then k.Semicolon h.2.0 rest _ _ _ h.2.2 (ap (λ l. (t.call_statement n l, rest)) (expressions_of_list es)))))

pub exit_it : (at : ℕ) (o : Option e.Expression) (ts rest : List Lexeme) → IsStatement (t.exit_statement at o) ts rest → Answers (exit_statement ts) (t.exit_statement at o) rest
unfolding exit_statement same_kind
exit_it at o ts rest h =
    at_then k.Exit at ts h.0 _ _ _ h.1
    (answers_then (optional_after k.When any_expression h.0) _ o h.2.0 _ _ (optional_after_it IsExpression any_expression (Ends 6) any_it expression_shorter k.When o h.0 h.2.0 h.2.1 (not_both k.Semicolon k.When h.2.0 rest h.2.2 refl) (ends_at 6 k.Semicolon h.2.0 rest h.2.2 (omega arith)))
    (word_then k.Semicolon h.2.0 rest _ _ _ h.2.2 refl))

maybe_expression_it : (o : Option e.Expression) (ts rest a : List Lexeme) → Maybe IsExpression o ts rest → Is k.Semicolon rest a → Answers (optional (starts_by begins_expression) any_expression ts) o rest
unfolding optional
maybe_expression_it None ts rest a h g = if_false (starts_by begins_expression ts) _ _ _ _ (ap (λ us. starts_by begins_expression us) h ∙ starts_is begins_expression k.Semicolon rest a g) (ap (λ us. (None, us)) h)
maybe_expression_it (Some x) ts rest a h g =
    if_true (starts_by begins_expression ts) _ _ _ _ (expression_starts x ts rest h)
    (answers_then (any_expression ts) _ x rest _ _ (any_it x ts rest h (ends_at 6 k.Semicolon rest a g (omega arith))) refl)

pub return_it : (at : ℕ) (o : Option e.Expression) (ts rest : List Lexeme) → IsStatement (t.return_statement at o) ts rest → Answers (return_statement ts) (t.return_statement at o) rest
unfolding return_statement
return_it at o ts rest h =
    at_then k.Return at ts h.0 _ _ _ h.1
    (answers_then (optional (starts_by begins_expression) any_expression h.0) _ o h.2.0 _ _ (maybe_expression_it o h.0 h.2.0 rest h.2.1 h.2.2)
    (word_then k.Semicolon h.2.0 rest _ _ _ h.2.2 refl))

pub raise_it : (at : ℕ) (o : Option Name) (ts rest : List Lexeme) → IsStatement (t.raise_statement at o) ts rest → Answers (raise_statement ts) (t.raise_statement at o) rest
unfolding raise_statement same_kind
raise_it at o ts rest h =
    at_then k.Raise at ts h.0 _ _ _ h.1
    (answers_then (optional (sees k.Identifier) name h.0) _ o h.2.0 _ _ (maybe_name_it o h.0 h.2.0 h.2.1 (not_both k.Semicolon k.Identifier h.2.0 rest h.2.2 refl) (not_both k.Semicolon k.Dot h.2.0 rest h.2.2 refl))
    (word_then k.Semicolon h.2.0 rest _ _ _ h.2.2 refl))

pub delay_it : (at : ℕ) (b : Bool) (x : e.Expression) (ts rest : List Lexeme) → IsStatement (t.delay_statement at b x) ts rest → Answers (delay_statement ts) (t.delay_statement at b x) rest
unfolding delay_statement
delay_it at b x ts rest h =
    let v = h.2.2 in
    let relative = begins_not k.Until x h.2.0 v.0 (omega arith) v.1 in
    at_then k.Delay at ts h.0 _ _ _ h.1
    (rw (flag_seen k.Until b h.0 h.2.0 h.2.1 relative, flag_after k.Until b h.0 h.2.0 h.2.1 relative)
    (answers_then (any_expression h.2.0) _ x v.0 _ _ (any_it x h.2.0 v.0 v.1 (ends_at 6 k.Semicolon v.0 rest v.2 (omega arith)))
    (word_then k.Semicolon v.0 rest _ _ _ v.2 refl)))

pub abort_it : (at : ℕ) (xs : List Name) (ts rest : List Lexeme) → IsStatement (t.abort_statement at xs) ts rest → Answers (abort_statement ts) (t.abort_statement at xs) rest
unfolding abort_statement
abort_it at xs ts rest h =
    at_then k.Abort at ts h.0 _ _ _ h.1
    (answers_then (listed k.Comma name h.0) _ xs h.2.0 _ _ (names_it xs h.0 h.2.0 rest h.2.1 h.2.2)
    (word_then k.Semicolon h.2.0 rest _ _ _ h.2.2 refl))

pub requeue_it : (at : ℕ) (n : Name) (b : Bool) (ts rest : List Lexeme) → IsStatement (t.requeue_statement at n b) ts rest → Answers (requeue_statement ts) (t.requeue_statement at n b) rest
unfolding requeue_statement same_kind
requeue_it at n b ts rest h =
    let v = h.2.2 in
    at_then k.Requeue at ts h.0 _ _ _ h.1
    (answers_then (name h.0) _ n h.2.0 _ _ (name_it n h.0 h.2.0 h.2.1 (with_abort_dot b h.2.0 v.0 rest v.1 v.2))
    (answers_then (with_abort h.2.0) _ b v.0 _ _ (with_abort_it b h.2.0 v.0 v.1 (not_both k.Semicolon k.With v.0 rest v.2 refl))
    (word_then k.Semicolon v.0 rest _ _ _ v.2 refl)))

-- HOW STATEMENTS BEGIN

true_not_false : true ≡ false → ⊥
true_not_false h = cc

-- a statement begins with a word of this kind, as its form is
abbrev pub Begun : Kind → List Lexeme → Type 0
Begun what ts = (a : List Lexeme) × Is what ts a

-- the word that a loop begins with
unfoldable pub loop_word : t.Iteration → Kind
loop_word t.forever = k.Loop
loop_word (t.while_true x) = k.While
loop_word (t.for_each i r b) = k.For

unfoldable pub first_word : t.Statement → Kind
first_word (t.null_statement at) = k.Null
first_word (t.assignment n x) = k.Identifier
first_word (t.call_statement n es) = k.Identifier
first_word (t.if_statement at c ss ps es) = k.If
first_word (t.case_statement at x xs') = k.Case
first_word (t.loop_statement at i ss) = loop_word i
first_word (t.exit_statement at o) = k.Exit
first_word (t.return_statement at o) = k.Return
first_word (t.raise_statement at o) = k.Raise
first_word (t.delay_statement at b x) = k.Delay
first_word (t.abort_statement at xs) = k.Abort
first_word (t.requeue_statement at n b) = k.Requeue
first_word (t.accept_statement at i ps ss o) = k.Accept
first_word (t.select_statement at ys es ss) = k.Select

pub loop_begun : (at : ℕ) (i : t.Iteration) (ts rest : List Lexeme) → IsIteration at i ts rest → Begun (loop_word i) ts
unfolding loop_word
loop_begun at t.forever ts rest h = (rest, is_of k.Loop at ts rest h)
loop_begun at (t.while_true x) ts rest h = (h.0, is_of k.While at ts h.0 h.1)
loop_begun at (t.for_each i r b) ts rest h = (h.0, is_of k.For at ts h.0 h.1)

pub begun : (s : t.Statement) (ts rest : List Lexeme) → IsStatement s ts rest → Begun (first_word s) ts
unfolding first_word
begun (t.null_statement at) ts rest h = (h.0, is_of k.Null at ts h.0 h.1)
begun (t.assignment n x) ts rest h = (h.1.0, (h.1.1.0, h.1.1.1, h.1.1.2))
begun (t.call_statement n es) ts rest h = (h.1.0, (h.1.1.0, h.1.1.1, h.1.1.2))
begun (t.if_statement at c ss ps es) ts rest h = (h.0, is_of k.If at ts h.0 h.1)
begun (t.case_statement at x xs') ts rest h = (h.0, is_of k.Case at ts h.0 h.1)
begun (t.loop_statement at i ss) ts rest h = loop_begun at i ts h.0 h.1
begun (t.exit_statement at o) ts rest h = (h.0, is_of k.Exit at ts h.0 h.1)
begun (t.return_statement at o) ts rest h = (h.0, is_of k.Return at ts h.0 h.1)
begun (t.raise_statement at o) ts rest h = (h.0, is_of k.Raise at ts h.0 h.1)
begun (t.delay_statement at b x) ts rest h = (h.0, is_of k.Delay at ts h.0 h.1)
begun (t.abort_statement at xs) ts rest h = (h.0, is_of k.Abort at ts h.0 h.1)
begun (t.requeue_statement at n b) ts rest h = (h.0, is_of k.Requeue at ts h.0 h.1)
begun (t.accept_statement at i ps ss o) ts rest h = (h.0, is_of k.Accept at ts h.0 h.1)
begun (t.select_statement at ys es ss) ts rest h = (h.0, is_of k.Select at ts h.0 h.1)

loop_begins : (i : t.Iteration) → begins_statement (loop_word i) ≡ true
unfolding loop_word
loop_begins t.forever = refl
loop_begins (t.while_true x) = refl
loop_begins (t.for_each i r b) = refl

word_begins : (s : t.Statement) → begins_statement (first_word s) ≡ true
unfolding first_word
word_begins (t.null_statement at) = refl
word_begins (t.assignment n x) = refl
word_begins (t.call_statement n es) = refl
word_begins (t.if_statement at c ss ps es) = refl
word_begins (t.case_statement at x xs') = refl
word_begins (t.loop_statement at i ss) = loop_begins i
word_begins (t.exit_statement at o) = refl
word_begins (t.return_statement at o) = refl
word_begins (t.raise_statement at o) = refl
word_begins (t.delay_statement at b x) = refl
word_begins (t.abort_statement at xs) = refl
word_begins (t.requeue_statement at n b) = refl
word_begins (t.accept_statement at i ps ss o) = refl
word_begins (t.select_statement at ys es ss) = refl

pub statement_starts : (s : t.Statement) (ts rest : List Lexeme) → IsStatement s ts rest → sees_statement ts ≡ true
statement_starts s ts rest h = let b = begun s ts rest h in starts_is begins_statement (first_word s) ts b.0 b.1 ∙ word_begins s

-- a statement does not begin with such a word
pub statement_not : (what : Kind) (s : t.Statement) (ts rest : List Lexeme) → begins_statement what ≡ false → IsStatement s ts rest → Unseen what ts
statement_not what s ts rest none h =
    let b = begun s ts rest h in
    not_both (first_word s) what ts b.0 b.1 (unlike (same_kind (first_word s) what) refl)
  where
    unlike : (x : Bool) → same_kind (first_word s) what ≡ x → x ≡ false
    unlike true g = absurd (true_not_false (sym (word_begins s) ∙ ap (λ w. begins_statement w) (same_means (first_word s) what g) ∙ none))
    unlike false g = refl

-- STATEMENTS USE TOKENS UP

end_word : (word : Kind) (old new : List Lexeme) → (Is k.End ⨾ Is word ⨾ Is k.Semicolon) old new → Shorter old new
end_word word old new h = omega (arith, is_shorter _ old h.0 h.1, is_shorter _ h.0 h.2.0 h.2.1, is_shorter _ h.2.0 new h.2.2)

mutual
  pub statement_shorter : (s : t.Statement) (old new : List Lexeme) → IsStatement s old new → Shorter old new
  statement_shorter (t.null_statement at) old new h = omega (arith, at_shorter _ _ old h.0 h.1, is_shorter _ h.0 new h.2)
  statement_shorter (t.assignment n x) old new h = omega (arith, name_shorter n old h.0 h.1, after_shorter IsExpression expression_shorter k.Becomes x h.0 h.2.0 h.2.1, is_shorter _ h.2.0 new h.2.2)
  statement_shorter (t.call_statement n es) old new h = omega (arith, name_shorter n old h.0 h.1, maybe_arguments_shorter es h.0 h.2.0 h.2.1, is_shorter _ h.2.0 new h.2.2)
  statement_shorter (t.if_statement at c ss ps es) old new h =
      let d = h.2.2.2 in
      omega (arith, at_shorter _ _ old h.0 h.1, expression_shorter c h.0 h.2.0 h.2.1, is_shorter _ h.2.0 h.2.2.0 h.2.2.1, sequence_shorter ss h.2.2.0 d.0 d.1, elsifs_shorter ps d.0 d.2.0 d.2.1, else_shorter es d.2.0 d.2.2.0 d.2.2.1, end_word k.If d.2.2.0 new d.2.2.2)
  statement_shorter (t.case_statement at x xs') old new h = omega (arith, at_shorter _ _ old h.0 h.1, expression_shorter x h.0 h.2.0 h.2.1, is_shorter _ h.2.0 h.2.2.0 h.2.2.1, alternatives_shorter xs' h.2.2.0 h.2.2.2.0 h.2.2.2.1, end_word k.Case h.2.2.2.0 new h.2.2.2.2)
  statement_shorter (t.loop_statement at i ss) old new h = omega (arith, iteration_shorter at i old h.0 h.1, sequence_shorter ss h.0 h.2.0 h.2.1, end_word k.Loop h.2.0 new h.2.2)
  statement_shorter (t.exit_statement at o) old new h = omega (arith, at_shorter _ _ old h.0 h.1, condition_shorter o h.0 h.2.0 h.2.1, is_shorter _ h.2.0 new h.2.2)
  statement_shorter (t.return_statement at o) old new h = omega (arith, at_shorter _ _ old h.0 h.1, maybe_shorter IsExpression expression_shorter o h.0 h.2.0 h.2.1, is_shorter _ h.2.0 new h.2.2)
  statement_shorter (t.raise_statement at o) old new h = omega (arith, at_shorter _ _ old h.0 h.1, maybe_name_shorter o h.0 h.2.0 h.2.1, is_shorter _ h.2.0 new h.2.2)
  statement_shorter (t.delay_statement at b x) old new h = omega (arith, at_shorter _ _ old h.0 h.1, flag_shorter k.Until b h.0 h.2.0 h.2.1, expression_shorter x h.2.0 h.2.2.0 h.2.2.1, is_shorter _ h.2.2.0 new h.2.2.2)
  statement_shorter (t.abort_statement at xs) old new h = omega (arith, at_shorter _ _ old h.0 h.1, listed_shorter IsName name_shorter k.Comma xs h.0 h.2.0 h.2.1, is_shorter _ h.2.0 new h.2.2)
  statement_shorter (t.requeue_statement at n b) old new h = omega (arith, at_shorter _ _ old h.0 h.1, name_shorter n h.0 h.2.0 h.2.1, with_abort_shorter b h.2.0 h.2.2.0 h.2.2.1, is_shorter _ h.2.2.0 new h.2.2.2)
  statement_shorter (t.accept_statement at i ps ss o) old new h = omega (arith, at_shorter _ _ old h.0 h.1, identifier_shorter i h.0 h.2.0 h.2.1, parameters_shorter ps h.2.0 h.2.2.0 h.2.2.1, accept_shorter ss o h.2.2.0 h.2.2.2.0 h.2.2.2.1, is_shorter _ h.2.2.2.0 new h.2.2.2.2)
  statement_shorter (t.select_statement at ys es ss) old new h =
      let d = h.2.2.2 in
      omega (arith, at_shorter _ _ old h.0 h.1, selectives_shorter ys h.0 h.2.0 h.2.1, else_shorter es h.2.0 h.2.2.0 h.2.2.1, abort_shorter ss h.2.2.0 d.0 d.1, end_word k.Select d.0 new d.2)

  pub sequence_shorter : (ss : t.Statements) (old new : List Lexeme) → AreStatements ss old new → Shorter old new
  sequence_shorter t.no_statements old new h = absurd h
  sequence_shorter (t.and_statement s ss) old new h = omega (arith, statement_shorter s old h.0 h.1, more_shorter ss h.0 new h.2)

  more_shorter : (ss : t.Statements) (old new : List Lexeme) → MoreStatements ss old new → NotLonger old new
  more_shorter t.no_statements old new h = nothing_shorter old new h
  more_shorter (t.and_statement s ss) old new h = omega (arith, statement_shorter s old h.0 h.1, more_shorter ss h.0 new h.2)

  elsifs_shorter : (ps : t.ElsifParts) (old new : List Lexeme) → AreElsifParts ps old new → NotLonger old new
  elsifs_shorter t.no_elsif_parts old new h = nothing_shorter old new h
  elsifs_shorter (t.and_elsif_part at c ss ps) old new h = omega (arith, at_shorter _ _ old h.0 h.1, expression_shorter c h.0 h.2.0 h.2.1, is_shorter _ h.2.0 h.2.2.0 h.2.2.1, sequence_shorter ss h.2.2.0 h.2.2.2.0 h.2.2.2.1, elsifs_shorter ps h.2.2.2.0 new h.2.2.2.2)

  else_shorter : (ss : t.Statements) (old new : List Lexeme) → IsElse ss old new → NotLonger old new
  else_shorter t.no_statements old new h = nothing_shorter old new h
  else_shorter (t.and_statement s ss) old new h = omega (arith, is_shorter _ old h.0 h.1, statement_shorter s h.0 h.2.0 h.2.1, more_shorter ss h.2.0 new h.2.2)

  alternatives_shorter : (xs' : t.Alternatives) (old new : List Lexeme) → AreAlternatives xs' old new → NotLonger old new
  alternatives_shorter t.no_alternatives old new h = nothing_shorter old new h
  alternatives_shorter (t.and_alternative at cs ss more) old new h = omega (arith, at_shorter _ _ old h.0 h.1, listed_shorter IsChoice choice_shorter k.Bar cs h.0 h.2.0 h.2.1, is_shorter _ h.2.0 h.2.2.0 h.2.2.1, sequence_shorter ss h.2.2.0 h.2.2.2.0 h.2.2.2.1, alternatives_shorter more h.2.2.2.0 new h.2.2.2.2)

  accept_shorter : (ss : t.Statements) (o : Option Identifier) (old new : List Lexeme) → IsAcceptBody ss o old new → NotLonger old new
  accept_shorter t.no_statements None old new h = nothing_shorter old new h
  accept_shorter t.no_statements (Some i) old new h = absurd h
  accept_shorter (t.and_statement s ss) o old new h =
      let d = h.2.2.2 in
      omega (arith, is_shorter _ old h.0 h.1, statement_shorter s h.0 h.2.0 h.2.1, more_shorter ss h.2.0 h.2.2.0 h.2.2.1, is_shorter _ h.2.2.0 d.0 d.1, maybe_shorter IsIdentifier identifier_shorter o d.0 new d.2)

  pub selective_shorter : (x : t.Selective) (old new : List Lexeme) → IsSelective x old new → Shorter old new
  selective_shorter (t.some_statements g ss) old new h = omega (arith, maybe_shorter IsGuard guard_shorter g old h.0 h.1, sequence_shorter ss h.0 new h.2)
  selective_shorter (t.terminate g at) old new h = omega (arith, maybe_shorter IsGuard guard_shorter g old h.0 h.1, at_shorter _ _ h.0 h.2.0 h.2.1, is_shorter _ h.2.0 new h.2.2)

  selectives_shorter : (xs : t.Selectives) (old new : List Lexeme) → AreSelectives xs old new → Shorter old new
  selectives_shorter t.no_selectives old new h = absurd h
  selectives_shorter (t.and_selective x xs) old new h = omega (arith, selective_shorter x old h.0 h.1, more_selectives_shorter xs h.0 new h.2)

  more_selectives_shorter : (xs : t.Selectives) (old new : List Lexeme) → MoreSelectives xs old new → NotLonger old new
  more_selectives_shorter t.no_selectives old new h = nothing_shorter old new h
  more_selectives_shorter (t.and_selective x xs) old new h = omega (arith, is_shorter _ old h.0 h.1, selective_shorter x h.0 h.2.0 h.2.1, more_selectives_shorter xs h.2.0 new h.2.2)

  abort_shorter : (ss : t.Statements) (old new : List Lexeme) → IsThenAbort ss old new → NotLonger old new
  abort_shorter t.no_statements old new h = nothing_shorter old new h
  abort_shorter (t.and_statement s ss) old new h =
      let d = h.2.2.2 in
      omega (arith, is_shorter _ old h.0 h.1, is_shorter _ h.0 h.2.0 h.2.1, statement_shorter s h.2.0 h.2.2.0 h.2.2.1, more_shorter ss h.2.2.0 new h.2.2.2)
