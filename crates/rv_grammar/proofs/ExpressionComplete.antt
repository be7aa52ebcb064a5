-- An expression of the grammar is read, unless its parentheses nest too deep.
use Rattle.std.proofs.Common.{◌≡◌, ◌≤◌, ◌<◌, ◌⊎◌, inl, inr, ℕ, zero, suc, Bool, true, false, List, [], ◌∷◌, ◌++◌, length, map, Option, Some, None, Ok, Err, refl, sym, ap, ◌∙◌, subst, arith, append_assoc, append-nil}
use Rattle.rv_lex.specs.declared.kind.Kind.{Kind}
use Rattle.rv_lex.specs.declared.kind.Kind.TheVariants as k
use Rattle.rv_lex.specs.Lexes.{Lexeme}
use Rattle.rv_tree.specs.declared.expression.LogicalOperator.{LogicalOperator}
use Rattle.rv_tree.specs.declared.expression.LogicalOperator.TheVariants as logic
use Rattle.rv_tree.specs.declared.expression.RelationalOperator.{RelationalOperator}
use Rattle.rv_tree.specs.declared.expression.RelationalOperator.TheVariants as relates
use Rattle.rv_tree.specs.declared.expression.AddingOperator.{AddingOperator}
use Rattle.rv_tree.specs.declared.expression.AddingOperator.TheVariants as adds
use Rattle.rv_tree.specs.declared.expression.MultiplyingOperator.{MultiplyingOperator}
use Rattle.rv_tree.specs.declared.expression.MultiplyingOperator.TheVariants as multiplies
use Rattle.rv_tree.specs.declared.expression.HighestOperator.{HighestOperator}
use Rattle.rv_tree.specs.declared.expression.HighestOperator.TheVariants as before
use Rattle.rv_tree.specs.Phrases.{Phrase, ◌⨾◌, Is, IsAt, Nothing, When}
use Rattle.rv_tree.specs.Names.{Identifier, Name}
use Rattle.rv_tree.specs.NameGrammar.{IsIdentifier, IsName}
use Rattle.rv_tree.specs.Expressions as t
use Rattle.rv_tree.specs.ExpressionGrammar.{IsLogical, relational, adding, multiplying, highest_word, IsLiteral, rule_of, IsExpression, AreArguments, MoreArguments, MoreFactors, MoreTerms, MoreRelations}
use Rattle.rv_grammar.specs.Reading.{too_deep, Parser, and_then, pure, same_kind, sees, next, eat, place, value, expect, kind, starts_by, more_after}
use Rattle.rv_grammar.specs.NameRules.{identifier, name}
use Rattle.rv_grammar.specs.ExpressionRules.{begins_expression, operator, relational_of, adding_of, multiplying_of, highest_of, joining, both_words, joined, literal, opening, inside, arguments_from, arguments, parenthesized, named, primary, linked_from, linked, factor, factors, term, signed_term, terms, simple, relation, relations_from, relations, whole, expression}
use Rattle.rv_grammar.proofs.Steps.{same_means}
use Rattle.rv_grammar.proofs.Forward.{Answers, answers_then, if_true, if_false, sees_it, next_it, place_it, after_it, not_after, is_of, not_both, word_then, eaten_then, uneaten_then, identifier_it, Shorter, NotLonger, is_shorter, at_shorter, identifier_shorter, nothing_shorter, each_after_shorter, more_after_it}

-- NAMES

pub name_shorter : (n : Name) (old new : List Lexeme) → IsName n old new → Shorter old new
name_shorter n old new h = omega (arith, identifier_shorter n.first old h.0 h.1, each_after_shorter IsIdentifier identifier_shorter k.Dot n.more h.0 new h.2)

pub name_it : (n : Name) (ts rest : List Lexeme) → IsName n ts rest → sees k.Dot rest ≡ false → Answers (name ts) n rest
unfolding name
name_it n ts rest h ends =
    answers_then (identifier ts) _ n.first h.0 _ _ (identifier_it n.first ts h.0 h.1)
    (answers_then (more_after k.Dot identifier [] h.0) _ n.more rest _ _
    (more_after_it IsIdentifier identifier (λ _. Unit {0}) (λ i us vs g _. identifier_it i us vs g) identifier_shorter k.Dot (λ _ _ _. tt) n.more h.0 rest h.2 ends tt) refl)

-- HOW EXPRESSIONS GO ON

-- the least of the rules whose trees go on with a token of this kind
abbrev pub goes_on : Kind → ℕ
goes_on k.LeftParenthesis = 0
goes_on k.Apostrophe = 0
goes_on k.Dot = 0
goes_on k.Times = 2
goes_on k.Divide = 2
goes_on k.Mod = 2
goes_on k.Rem = 2
goes_on k.Plus = 4
goes_on k.Minus = 4
goes_on k.Equal = 5
goes_on k.NotEqual = 5
goes_on k.Less = 5
goes_on k.LessEqual = 5
goes_on k.Greater = 5
goes_on k.GreaterEqual = 5
goes_on k.And = 6
goes_on k.Or = 6
goes_on k.Xor = 6
goes_on _ = 7

-- an expression of this rule does not go on here
abbrev pub Ends : ℕ → List Lexeme → Type 0
Ends n [] = Unit {0}
Ends n (x ∷ ts) = n < goes_on x.kind

pub ends_less : (m n : ℕ) (ts : List Lexeme) → m ≤ n → Ends n ts → Ends m ts
ends_less m n [] le h = tt
ends_less m n (x ∷ ts) le h = omega arith

pub ends_at : (n : ℕ) (what : Kind) (ts a : List Lexeme) → Is what ts a → n < goes_on what → Ends n ts
ends_at n what ts a h below = subst (λ us. Ends n us) (sym h.1) (subst (λ w. n < goes_on w) (sym h.2) below)

not_seen : (what : Kind) (n : ℕ) (ts : List Lexeme) → goes_on what ≤ n → Ends n ts → sees what ts ≡ false
unfolding sees
not_seen what n [] le h = refl
not_seen what n (x ∷ ts) le h = by_test (same_kind x.kind what) refl
  where
    by_test : (b : Bool) → same_kind x.kind what ≡ b → b ≡ false
    by_test true g = let e = same_means x.kind what g in let below : n < goes_on what = subst (λ w. n < goes_on w) e h in absurd (omega arith)
    by_test false g = refl

multiplying_none : (w : Kind) → 2 < goes_on w → multiplying_of w ≡ None
multiplying_none k.Times h = absurd (omega arith)
multiplying_none k.Divide h = absurd (omega arith)
multiplying_none k.Mod h = absurd (omega arith)
multiplying_none k.Rem h = absurd (omega arith)
multiplying_none _ h = refl

adding_none : (w : Kind) → 4 < goes_on w → adding_of w ≡ None
adding_none k.Plus h = absurd (omega arith)
adding_none k.Minus h = absurd (omega arith)
adding_none _ h = refl

relational_none : (w : Kind) → 5 < goes_on w → relational_of w ≡ None
relational_none k.Equal h = absurd (omega arith)
relational_none k.NotEqual h = absurd (omega arith)
relational_none k.Less h = absurd (omega arith)
relational_none k.LessEqual h = absurd (omega arith)
relational_none k.Greater h = absurd (omega arith)
relational_none k.GreaterEqual h = absurd (omega arith)
relational_none _ h = refl

no_operator : {A : Type 0} (of : Kind → Option A) (n : ℕ) → ((w : Kind) → n < goes_on w → of w ≡ None) → (ts : List Lexeme) → Ends n ts → operator of ts ≡ None
unfolding operator kind
no_operator of n none [] h = refl
no_operator of n none (x ∷ ts) h = none x.kind h

an_operator : {A : Type 0} (of : Kind → Option A) (what : Kind) (op : A) (ts a : List Lexeme) → Is what ts a → of what ≡ Some op → operator of ts ≡ Some op
unfolding operator kind
an_operator of what op ts a h e = rw (h.1, h.2) e

relational_it : (op : RelationalOperator) → relational_of (relational op) ≡ Some op
relational_it relates.Equal = refl
relational_it relates.NotEqual = refl
relational_it relates.Less = refl
relational_it relates.LessEqual = refl
relational_it relates.Greater = refl
relational_it relates.GreaterEqual = refl

adding_it : (op : AddingOperator) → adding_of (adding op) ≡ Some op
adding_it adds.Plus = refl
adding_it adds.Minus = refl

multiplying_it : (op : MultiplyingOperator) → multiplying_of (multiplying op) ≡ Some op
multiplying_it multiplies.Times = refl
multiplying_it multiplies.Divide = refl
multiplying_it multiplies.Mod = refl
multiplying_it multiplies.Rem = refl

highest_it : (op : HighestOperator) → highest_of (highest_word op) ≡ Some op
highest_it before.Abs = refl
highest_it before.Not = refl

relational_goes_on : (op : RelationalOperator) → goes_on (relational op) ≡ 5
relational_goes_on relates.Equal = refl
relational_goes_on relates.NotEqual = refl
relational_goes_on relates.Less = refl
relational_goes_on relates.LessEqual = refl
relational_goes_on relates.Greater = refl
relational_goes_on relates.GreaterEqual = refl

adding_goes_on : (op : AddingOperator) → goes_on (adding op) ≡ 4
adding_goes_on adds.Plus = refl
adding_goes_on adds.Minus = refl

multiplying_goes_on : (op : MultiplyingOperator) → goes_on (multiplying op) ≡ 2
multiplying_goes_on multiplies.Times = refl
multiplying_goes_on multiplies.Divide = refl
multiplying_goes_on multiplies.Mod = refl
multiplying_goes_on multiplies.Rem = refl

-- HOW EXPRESSIONS BEGIN

-- the least of the rules whose trees begin with a token of this kind
abbrev pub begins_at : Kind → ℕ
begins_at k.Literal = 0
begins_at k.Identifier = 0
begins_at k.LeftParenthesis = 0
begins_at k.Abs = 1
begins_at k.Not = 1
begins_at k.Plus = 3
begins_at k.Minus = 3
begins_at _ = 7

-- an expression of one of the rules up to this one may begin here
abbrev pub Begins : ℕ → List Lexeme → Type 0
Begins n [] = ⊥
Begins n (x ∷ ts) = begins_at x.kind ≤ n

begins_is : (n : ℕ) (what : Kind) (ts a : List Lexeme) → Is what ts a → begins_at what ≤ n → Begins n ts
begins_is n what ts a h low = subst (λ us. Begins n us) (sym h.1) (subst (λ w. begins_at w ≤ n) (sym h.2) low)

highest_begins : (op : HighestOperator) → begins_at (highest_word op) ≤ 1
highest_begins before.Abs = omega arith
highest_begins before.Not = omega arith

adding_begins : (op : AddingOperator) → begins_at (adding op) ≤ 3
adding_begins adds.Plus = omega arith
adding_begins adds.Minus = omega arith

pub begins : (e : t.Expression) (n : ℕ) (ts rest : List Lexeme) → rule_of e ≤ n → IsExpression e ts rest → Begins n ts
begins (t.literal at v) n ts rest low h = begins_is n k.Literal ts rest (h.0, h.1, h.2) (omega arith)
begins (t.name x) n ts rest low h = begins_is n k.Identifier ts h.0 (h.1.0, h.1.1, h.1.2) (omega arith)
begins (t.attribute x i) n ts rest low h = begins_is n k.Identifier ts h.1.0 (h.1.1.0, h.1.1.1, h.1.1.2) (omega arith)
begins (t.call x es) n ts rest low h = begins_is n k.Identifier ts h.1.0 (h.1.1.0, h.1.1.1, h.1.1.2) (omega arith)
begins (t.parenthesized at e) n ts rest low h = begins_is n k.LeftParenthesis ts h.0 (h.1.0, h.1.1, h.1.2) (omega arith)
begins (t.highest at op e) n ts rest low h = begins_is n (highest_word op) ts h.0 (h.1.0, h.1.1, h.1.2) (omega (arith, highest_begins op))
begins (t.product e t.no_factors) n ts rest low h = absurd h
begins (t.product e (t.and_factor op f fs)) n ts rest low h = begins e n ts h.0 (omega (arith, h.1.0)) h.1.1
begins (t.signed at op e) n ts rest low h = begins_is n (adding op) ts h.0 (h.1.0, h.1.1, h.1.2) (omega (arith, adding_begins op))
begins (t.sum e t.no_terms) n ts rest low h = absurd h
begins (t.sum e (t.and_term op s ss)) n ts rest low h = begins e n ts h.0 (omega (arith, h.1.0)) h.1.1
begins (t.relation e op f) n ts rest low h = begins e n ts h.0 (omega (arith, h.1.0)) h.1.1
begins (t.logical op e t.no_expressions) n ts rest low h = absurd h
begins (t.logical op e (t.and_expression f fs)) n ts rest low h = begins e n ts h.0 (omega (arith, h.1.0)) h.1.1

pub rule_top : (e : t.Expression) → rule_of e ≤ 6
rule_top (t.logical op e es) = omega arith
rule_top _ = omega arith

begins_unlike : (n : ℕ) (what : Kind) (ts : List Lexeme) → n < begins_at what → Begins n ts → sees what ts ≡ false
unfolding sees
begins_unlike n what [] below h = refl
begins_unlike n what (x ∷ ts) below h = by_test (same_kind x.kind what) refl
  where
    by_test : (b : Bool) → same_kind x.kind what ≡ b → b ≡ false
    by_test true g = let e = same_means x.kind what g in let low : begins_at what ≤ n = subst (λ w. begins_at w ≤ n) e h in absurd (omega arith)
    by_test false g = refl

-- an expression does not begin with such a token
pub begins_not : (what : Kind) (e : t.Expression) (ts rest : List Lexeme) → 6 < begins_at what → IsExpression e ts rest → sees what ts ≡ false
begins_not what e ts rest below h = begins_unlike 6 what ts below (begins e 6 ts rest (rule_top e) h)

starts_kind : (w : Kind) → begins_at w ≤ 6 → begins_expression w ≡ true
starts_kind k.Literal h = refl
starts_kind k.Identifier h = refl
starts_kind k.LeftParenthesis h = refl
starts_kind k.Abs h = refl
starts_kind k.Not h = refl
starts_kind k.Plus h = refl
starts_kind k.Minus h = refl
starts_kind _ h = absurd (omega arith)

starts_by_kind : (ts : List Lexeme) → Begins 6 ts → starts_by begins_expression ts ≡ true
unfolding starts_by
starts_by_kind [] h = absurd h
starts_by_kind (x ∷ ts) h = starts_kind x.kind h

pub expression_starts : (e : t.Expression) (ts rest : List Lexeme) → IsExpression e ts rest → starts_by begins_expression ts ≡ true
expression_starts e ts rest h = starts_by_kind ts (begins e 6 ts rest (rule_top e) h)

highest_none : (w : Kind) → begins_at w ≤ 0 → highest_of w ≡ None
highest_none k.Abs h = absurd (omega arith)
highest_none k.Not h = absurd (omega arith)
highest_none _ h = refl

sign_none : (w : Kind) → begins_at w ≤ 2 → adding_of w ≡ None
sign_none k.Plus h = absurd (omega arith)
sign_none k.Minus h = absurd (omega arith)
sign_none _ h = refl

no_operator_before : {A : Type 0} (of : Kind → Option A) (n : ℕ) → ((w : Kind) → begins_at w ≤ n → of w ≡ None) → (ts : List Lexeme) → Begins n ts → operator of ts ≡ None
unfolding operator kind
no_operator_before of n none [] h = absurd h
no_operator_before of n none (x ∷ ts) h = none x.kind h

-- EXPRESSIONS USE TOKENS UP

logical_shorter : (op : LogicalOperator) (old new : List Lexeme) → IsLogical op old new → Shorter old new
logical_shorter logic.And old new h = is_shorter k.And old new h
logical_shorter logic.Or old new h = is_shorter k.Or old new h
logical_shorter logic.Xor old new h = is_shorter k.Xor old new h
logical_shorter logic.AndThen old new h = omega (arith, is_shorter k.And old h.0 h.1, is_shorter k.Then h.0 new h.2)
logical_shorter logic.OrElse old new h = omega (arith, is_shorter k.Or old h.0 h.1, is_shorter k.Else h.0 new h.2)

mutual
  pub expression_shorter : (e : t.Expression) (old new : List Lexeme) → IsExpression e old new → Shorter old new
  expression_shorter (t.literal at v) old new h = omega (arith, ap length h.1)
  expression_shorter (t.name n) old new h = name_shorter n old new h
  expression_shorter (t.attribute n i) old new h = omega (arith, name_shorter n old h.0 h.1, is_shorter _ h.0 h.2.0 h.2.1, identifier_shorter i h.2.0 new h.2.2)
  expression_shorter (t.call n es) old new h = omega (arith, name_shorter n old h.0 h.1, arguments_shorter es h.0 new h.2)
  expression_shorter (t.parenthesized at e) old new h = omega (arith, at_shorter _ _ old h.0 h.1, expression_shorter e h.0 h.2.0 h.2.1, is_shorter _ h.2.0 new h.2.2)
  expression_shorter (t.highest at op e) old new h = omega (arith, at_shorter _ _ old h.0 h.1, expression_shorter e h.0 new h.2.1)
  expression_shorter (t.product e t.no_factors) old new h = absurd h
  expression_shorter (t.product e (t.and_factor op f fs)) old new h = omega (arith, expression_shorter e old h.0 h.1.1, factors_shorter (t.and_factor op f fs) h.0 new h.2)
  expression_shorter (t.signed at op e) old new h = omega (arith, at_shorter _ _ old h.0 h.1, expression_shorter e h.0 new h.2.1)
  expression_shorter (t.sum e t.no_terms) old new h = absurd h
  expression_shorter (t.sum e (t.and_term op s ss)) old new h = omega (arith, expression_shorter e old h.0 h.1.1, terms_shorter (t.and_term op s ss) h.0 new h.2)
  expression_shorter (t.relation e op f) old new h = omega (arith, expression_shorter e old h.0 h.1.1, is_shorter _ h.0 h.2.0 h.2.1, expression_shorter f h.2.0 new h.2.2.1)
  expression_shorter (t.logical op e t.no_expressions) old new h = absurd h
  expression_shorter (t.logical op e (t.and_expression f fs)) old new h = omega (arith, expression_shorter e old h.0 h.1.1, relations_shorter op (t.and_expression f fs) h.0 new h.2)

  pub arguments_shorter : (es : t.Expressions) (old new : List Lexeme) → AreArguments es old new → Shorter old new
  arguments_shorter t.no_expressions old new h = absurd h
  arguments_shorter (t.and_expression e es) old new h = omega (arith, is_shorter _ old h.0 h.1, expression_shorter e h.0 h.2.0 h.2.1, more_shorter es h.2.0 new h.2.2)

  more_shorter : (es : t.Expressions) (old new : List Lexeme) → MoreArguments es old new → Shorter old new
  more_shorter t.no_expressions old new h = is_shorter _ old new h
  more_shorter (t.and_expression e es) old new h = omega (arith, is_shorter _ old h.0 h.1, expression_shorter e h.0 h.2.0 h.2.1, more_shorter es h.2.0 new h.2.2)

  factors_shorter : (fs : t.Factors) (old new : List Lexeme) → MoreFactors fs old new → NotLonger old new
  factors_shorter t.no_factors old new h = nothing_shorter old new h
  factors_shorter (t.and_factor op e fs) old new h = omega (arith, is_shorter _ old h.0 h.1, expression_shorter e h.0 h.2.0 h.2.1.1, factors_shorter fs h.2.0 new h.2.2)

  terms_shorter : (ss : t.Terms) (old new : List Lexeme) → MoreTerms ss old new → NotLonger old new
  terms_shorter t.no_terms old new h = nothing_shorter old new h
  terms_shorter (t.and_term op e ss) old new h = omega (arith, is_shorter _ old h.0 h.1, expression_shorter e h.0 h.2.0 h.2.1.1, terms_shorter ss h.2.0 new h.2.2)

  relations_shorter : (op : LogicalOperator) (es : t.Expressions) (old new : List Lexeme) → MoreRelations op es old new → NotLonger old new
  relations_shorter op t.no_expressions old new h = nothing_shorter old new h
  relations_shorter op (t.and_expression e es) old new h = omega (arith, logical_shorter op old h.0 h.1, expression_shorter e h.0 h.2.0 h.2.1.1, relations_shorter op es h.2.0 new h.2.2)

-- LISTS OF PARTS

unfoldable pub expressions_list : t.Expressions → List t.Expression
expressions_list t.no_expressions = []
expressions_list (t.and_expression e es) = e ∷ expressions_list es

pub expressions_of_list : (es : t.Expressions) → t.expressions_of (expressions_list es) ≡ es
unfolding expressions_list
expressions_of_list t.no_expressions = refl
expressions_of_list (t.and_expression e es) = ap (t.and_expression e) (expressions_of_list es)

factor_pairs : t.Factors → List (MultiplyingOperator × t.Expression)
factor_pairs t.no_factors = []
factor_pairs (t.and_factor op e fs) = (op, e) ∷ factor_pairs fs

term_pairs : t.Terms → List (AddingOperator × t.Expression)
term_pairs t.no_terms = []
term_pairs (t.and_term op e ss) = (op, e) ∷ term_pairs ss

-- the parts that pairs make
abbrev parts : {O A : Type 0} → (O → t.Expression → A) → List (O × t.Expression) → List A
parts part = map (λ p. part p.0 p.1)

factors_of_pairs : (fs : t.Factors) → t.factors_of (parts t.factor_by (factor_pairs fs)) ≡ fs
unfolding factor_pairs
factors_of_pairs t.no_factors = refl
factors_of_pairs (t.and_factor op e fs) = ap (t.and_factor op e) (factors_of_pairs fs)

terms_of_pairs : (ss : t.Terms) → t.terms_of (parts t.term_by (term_pairs ss)) ≡ ss
unfolding term_pairs
terms_of_pairs t.no_terms = refl
terms_of_pairs (t.and_term op e ss) = ap (t.and_term op e) (terms_of_pairs ss)

-- {operator x}, each x of one of the rules up to this one
abbrev Links : {O : Type 0} → (O → Kind) → ℕ → List (O × t.Expression) → Phrase
Links word low [] = Nothing
Links word low (p ∷ more) = Is (word p.0) ⨾ When (rule_of p.1 ≤ low) (IsExpression p.1) ⨾ Links word low more

factor_links : (fs : t.Factors) (ts rest : List Lexeme) → MoreFactors fs ts rest → Links multiplying 1 (factor_pairs fs) ts rest
unfolding factor_pairs
factor_links t.no_factors ts rest h = h
factor_links (t.and_factor op e fs) ts rest h = (h.0, h.1, (h.2.0, h.2.1, factor_links fs h.2.0 rest h.2.2))

term_links : (ss : t.Terms) (ts rest : List Lexeme) → MoreTerms ss ts rest → Links adding 2 (term_pairs ss) ts rest
unfolding term_pairs
term_links t.no_terms ts rest h = h
term_links (t.and_term op e ss) ts rest h = (h.0, h.1, (h.2.0, h.2.1, term_links ss h.2.0 rest h.2.2))

-- THE RULES

abbrev pub CompleteAt : ℕ → Parser t.Expression → Type 0
CompleteAt n p = (e : t.Expression) (ts rest : List Lexeme) → rule_of e ≤ n → IsExpression e ts rest → Ends n rest → Answers (p ts) e rest

-- an opening parenthesis is one too many, or is taken, and what stands inside is read
abbrev pub Opens : Parser ℕ → Parser t.Expression → Type 0
Opens opens inner = (at : ℕ) (ts mid : List Lexeme) → IsAt k.LeftParenthesis at ts mid → (opens ts ≡ Err too_deep) ⊎ ((opens ts ≡ Ok (at, mid)) × CompleteAt 6 inner)

literal_it : (at v : ℕ) (ts rest : List Lexeme) → IsLiteral at v ts rest → Answers (literal ts) (t.literal at v) rest
unfolding literal place value next
literal_it at v ts rest h = rw (h.1, h.3, h.4) refl

after_argument : (es : t.Expressions) (ts rest : List Lexeme) → MoreArguments es ts rest → Ends 6 ts
after_argument t.no_expressions ts rest h = ends_at 6 k.RightParenthesis ts rest h (omega arith)
after_argument (t.and_expression e es) ts rest h = ends_at 6 k.Comma ts h.0 h.1 (omega arith)

logical_ends : (op : LogicalOperator) (ts rest : List Lexeme) → IsLogical op ts rest → Ends 5 ts
logical_ends logic.And ts rest h = ends_at 5 k.And ts rest h (omega arith)
logical_ends logic.Or ts rest h = ends_at 5 k.Or ts rest h (omega arith)
logical_ends logic.Xor ts rest h = ends_at 5 k.Xor ts rest h (omega arith)
logical_ends logic.AndThen ts rest h = ends_at 5 k.And ts h.0 h.1 (omega arith)
logical_ends logic.OrElse ts rest h = ends_at 5 k.Or ts h.0 h.1 (omega arith)

after_relation : (op : LogicalOperator) (es : t.Expressions) (ts rest : List Lexeme) → MoreRelations op es ts rest → Ends 6 rest → Ends 5 ts
after_relation op t.no_expressions ts rest h ends = subst (λ us. Ends 5 us) (sym h) (ends_less 5 6 rest (omega arith) ends)
after_relation op (t.and_expression e es) ts rest h ends = logical_ends op ts h.0 h.1

-- the operator is taken; a relation follows, which begins with neither "then" nor "else"
joining_it : (op : LogicalOperator) (ts rest : List Lexeme) → IsLogical op ts rest → Begins 6 rest → Answers (joining ts) (Some op) rest
unfolding joining same_kind
joining_it logic.And ts rest h b =
    eaten_then k.And ts rest _ _ _ _ h (rw (begins_unlike 6 k.Then rest (omega arith) b, not_after k.Then rest (begins_unlike 6 k.Then rest (omega arith) b)) refl)
joining_it logic.AndThen ts rest h b =
    eaten_then k.And ts h.0 _ _ _ _ h.1 (rw (sees_it k.Then h.0 rest h.2, after_it k.Then h.0 rest h.2) refl)
joining_it logic.Or ts rest h b =
    uneaten_then k.And ts _ _ _ _ (not_both k.Or k.And ts rest h refl)
    (eaten_then k.Or ts rest _ _ _ _ h (rw (begins_unlike 6 k.Else rest (omega arith) b, not_after k.Else rest (begins_unlike 6 k.Else rest (omega arith) b)) refl))
joining_it logic.OrElse ts rest h b =
    uneaten_then k.And ts _ _ _ _ (not_both k.Or k.And ts h.0 h.1 refl)
    (eaten_then k.Or ts h.0 _ _ _ _ h.1 (rw (sees_it k.Else h.0 rest h.2, after_it k.Else h.0 rest h.2) refl))
joining_it logic.Xor ts rest h b =
    uneaten_then k.And ts _ _ _ _ (not_both k.Xor k.And ts rest h refl)
    (uneaten_then k.Or ts _ _ _ _ (not_both k.Xor k.Or ts rest h refl)
    (rw (sees_it k.Xor ts rest h, after_it k.Xor ts rest h) refl))

joining_none : (ts : List Lexeme) → Ends 6 ts → Answers (joining ts) None ts
unfolding joining
joining_none ts ends =
    uneaten_then k.And ts _ _ _ _ (not_seen k.And 6 ts (omega arith) ends)
    (uneaten_then k.Or ts _ _ _ _ (not_seen k.Or 6 ts (omega arith) ends)
    (rw (not_seen k.Xor 6 ts (omega arith) ends, not_after k.Xor ts (not_seen k.Xor 6 ts (omega arith) ends)) refl))

eat_it : (what : Kind) (ts rest : List Lexeme) → Is what ts rest → Answers (eat what ts) true rest
eat_it what ts rest h = rw (sees_it what ts rest h, after_it what ts rest h) refl

eat_none : (what : Kind) (ts : List Lexeme) → sees what ts ≡ false → Answers (eat what ts) false ts
eat_none what ts h = rw (h, not_after what ts h) refl

both_it : (first second : Kind) (ts rest : List Lexeme) → (Is first ⨾ Is second) ts rest → Answers (both_words first second ts) true rest
unfolding both_words
both_it first second ts rest h = eaten_then first ts h.0 _ _ _ _ h.1 (word_then second h.0 rest _ _ _ h.2 refl)

both_none : (first second : Kind) (ts : List Lexeme) → sees first ts ≡ false → Answers (both_words first second ts) false ts
unfolding both_words
both_none first second ts h = uneaten_then first ts _ _ _ _ h refl

joined_it : (op : LogicalOperator) (ts rest : List Lexeme) → IsLogical op ts rest → Answers (joined op ts) true rest
joined_it logic.And ts rest h = eat_it k.And ts rest h
joined_it logic.Or ts rest h = eat_it k.Or ts rest h
joined_it logic.Xor ts rest h = eat_it k.Xor ts rest h
joined_it logic.AndThen ts rest h = both_it k.And k.Then ts rest h
joined_it logic.OrElse ts rest h = both_it k.Or k.Else ts rest h

joined_none : (op : LogicalOperator) (ts : List Lexeme) → Ends 6 ts → Answers (joined op ts) false ts
joined_none logic.And ts h = eat_none k.And ts (not_seen k.And 6 ts (omega arith) h)
joined_none logic.Or ts h = eat_none k.Or ts (not_seen k.Or 6 ts (omega arith) h)
joined_none logic.Xor ts h = eat_none k.Xor ts (not_seen k.Xor 6 ts (omega arith) h)
joined_none logic.AndThen ts h = both_none k.And k.Then ts (not_seen k.And 6 ts (omega arith) h)
joined_none logic.OrElse ts h = both_none k.Or k.Else ts (not_seen k.Or 6 ts (omega arith) h)

-- {operator x}, where what follows an x is an operator of these, or ends the whole
module _ {O A : Type 0} (of : Kind → Option O) (word : O → Kind) (word_it : (op : O) → of (word op) ≡ Some op) (part : O → t.Expression → A) (low mid top : ℕ) (below : mid < top) (none : (w : Kind) → top < goes_on w → of w ≡ None) (goes : (op : O) → goes_on (word op) ≡ top) (item : Parser t.Expression) (item_it : (e : t.Expression) (ts rest : List Lexeme) → rule_of e ≤ low → IsExpression e ts rest → Ends mid rest → Answers (item ts) e rest) where
  after_links : (ps : List (O × t.Expression)) (ts rest : List Lexeme) → Links word low ps ts rest → Ends top rest → Ends mid ts
  after_links [] ts rest h ends = subst (λ us. Ends mid us) (sym h) (ends_less mid top rest (omega (arith, below)) ends)
  after_links (p ∷ more) ts rest h ends = ends_at mid (word p.0) ts h.0 h.1 (omega (arith, goes p.0, below))

  linked_from_it : (ps : List (O × t.Expression)) (n : ℕ) (found : List A) (ts rest : List Lexeme) → length ts ≤ n → Links word low ps ts rest → Ends top rest → Answers (linked_from of item part n found ts) (found ++ parts part ps) rest
  unfolding linked_from
  linked_from_it [] zero found ts rest enough h ends = rw (append-nil found) (ap (λ us. (found, us)) h)
  linked_from_it [] (suc n) found ts rest enough h ends =
      let nothing : operator of ts ≡ None = ap (λ us. operator of us) h ∙ no_operator of top none rest ends in
      rw (nothing, append-nil found) (ap (λ us. (found, us)) h)
  linked_from_it (p ∷ more) zero found ts rest enough h ends = absurd (omega (arith, is_shorter _ _ _ h.1))
  linked_from_it (p ∷ more) (suc n) found ts rest enough h ends =
      rw (an_operator of (word p.0) p.0 ts h.0 h.1 (word_it p.0), next_it (word p.0) ts h.0 h.1)
      (answers_then (item h.0) _ p.1 h.2.0 _ _ (item_it p.1 h.0 h.2.0 h.2.1.0 h.2.1.1 (after_links more h.2.0 rest h.2.2 ends))
      (subst (λ l. Answers (linked_from of item part n (found ++ part p.0 p.1 ∷ []) h.2.0) l rest) (append_assoc found (part p.0 p.1 ∷ []) (parts part more))
      (linked_from_it more n (found ++ part p.0 p.1 ∷ []) h.2.0 rest (omega (arith, is_shorter _ _ _ h.1, expression_shorter p.1 h.0 h.2.0 h.2.1.1)) h.2.2 ends)))

  -- the x before them ends where they begin
  linked_it : (ps : List (O × t.Expression)) (ts rest : List Lexeme) → Links word low ps ts rest → Ends top rest → Ends mid ts × Answers (linked of item part ts) (parts part ps) rest
  unfolding linked
  linked_it ps ts rest h ends = (after_links ps ts rest h ends, linked_from_it ps (length ts) [] ts rest (omega arith) h ends)

module _ (opens : Parser ℕ) (inner : Parser t.Expression) (opens_it : Opens opens inner) where
  opened_then : {B : Type 0} (at : ℕ) (ts mid : List Lexeme) (f : ℕ → Parser B) (y : B) (rest : List Lexeme) → IsAt k.LeftParenthesis at ts mid → (CompleteAt 6 inner → Answers (f at mid) y rest) → Answers (and_then (opens ts) f) y rest
  opened_then at ts mid f y rest h g = elim (opens_it at ts mid h) [ inl e ↦ rw e tt | inr e ↦ rw e.0 (g e.1) ]

  parenthesized_it : (at : ℕ) (e : t.Expression) (ts rest : List Lexeme) → IsExpression (t.parenthesized at e) ts rest → Answers (parenthesized opens inner ts) (t.parenthesized at e) rest
  unfolding parenthesized
  parenthesized_it at e ts rest h =
      opened_then at ts h.0 _ _ _ h.1 (λ inner_it.
      answers_then (inner h.0) _ e h.2.0 _ _ (inner_it e h.0 h.2.0 (rule_top e) h.2.1 (ends_at 6 k.RightParenthesis h.2.0 rest h.2.2 (omega arith)))
      (word_then k.RightParenthesis h.2.0 rest _ _ _ h.2.2 refl))

  arguments_from_it : CompleteAt 6 inner → (es : t.Expressions) (n : ℕ) (found : List t.Expression) (ts rest : List Lexeme) → length ts ≤ n → MoreArguments es ts rest → Answers (arguments_from opens inner n found ts) (found ++ expressions_list es) rest
  unfolding arguments_from expressions_list same_kind
  arguments_from_it inner_it t.no_expressions zero found ts rest enough h = absurd (omega (arith, is_shorter _ _ _ h))
  arguments_from_it inner_it (t.and_expression e es) zero found ts rest enough h = absurd (omega (arith, is_shorter _ _ _ h.1))
  arguments_from_it inner_it t.no_expressions (suc n) found ts rest enough h =
      uneaten_then k.Comma ts _ _ _ _ (not_both k.RightParenthesis k.Comma ts rest h refl)
      (word_then k.RightParenthesis ts rest _ _ _ h (ap (λ l. (l, rest)) (sym (append-nil found))))
  arguments_from_it inner_it (t.and_expression e es) (suc n) found ts rest enough h =
      eaten_then k.Comma ts h.0 _ _ _ _ h.1
      (answers_then (inner h.0) _ e h.2.0 _ _ (inner_it e h.0 h.2.0 (rule_top e) h.2.1 (after_argument es h.2.0 rest h.2.2))
      (subst (λ l. Answers (arguments_from opens inner n (found ++ e ∷ []) h.2.0) l rest) (append_assoc found (e ∷ []) (expressions_list es))
      (arguments_from_it inner_it es n (found ++ e ∷ []) h.2.0 rest (omega (arith, is_shorter _ _ _ h.1, expression_shorter e h.0 h.2.0 h.2.1)) h.2.2)))

  pub arguments_it : (es : t.Expressions) (ts rest : List Lexeme) → AreArguments es ts rest → Answers (arguments opens inner ts) (expressions_list es) rest
  unfolding arguments expressions_list
  arguments_it t.no_expressions ts rest h = absurd h
  arguments_it (t.and_expression e es) ts rest h =
      elim (opens_it h.1.0.place ts h.0 (h.1.0, h.1.1, h.1.2, refl)) [
        | inl g ↦ rw g tt
        | inr g ↦ rw g.0
            (answers_then (inner h.0) _ e h.2.0 _ _ (g.1 e h.0 h.2.0 (rule_top e) h.2.1 (after_argument es h.2.0 rest h.2.2))
            (arguments_from_it g.1 es (length h.2.0) (e ∷ []) h.2.0 rest (omega arith) h.2.2))
      ]

  argument_opens : (es : t.Expressions) (ts rest : List Lexeme) → AreArguments es ts rest → (b : List Lexeme) × Is k.LeftParenthesis ts b
  argument_opens t.no_expressions ts rest h = absurd h
  argument_opens (t.and_expression e es) ts rest h = (h.0, h.1)

  name_read : (n : Name) (ts rest : List Lexeme) → IsName n ts rest → Ends 0 rest → Answers (named opens inner ts) (t.name n) rest
  unfolding named
  name_read n ts rest h ends =
      answers_then (name ts) _ n rest _ _ (name_it n ts rest h (not_seen k.Dot 0 rest (omega arith) ends))
      (uneaten_then k.Apostrophe rest _ _ _ _ (not_seen k.Apostrophe 0 rest (omega arith) ends)
      (if_false (sees k.LeftParenthesis rest) _ _ _ _ (not_seen k.LeftParenthesis 0 rest (omega arith) ends) refl))

  attribute_read : (n : Name) (i : Identifier) (ts rest : List Lexeme) → IsExpression (t.attribute n i) ts rest → Answers (named opens inner ts) (t.attribute n i) rest
  unfolding named same_kind
  attribute_read n i ts rest h =
      answers_then (name ts) _ n h.0 _ _ (name_it n ts h.0 h.1 (not_both k.Apostrophe k.Dot h.0 h.2.0 h.2.1 refl))
      (eaten_then k.Apostrophe h.0 h.2.0 _ _ _ _ h.2.1
      (answers_then (identifier h.2.0) _ i rest _ _ (identifier_it i h.2.0 rest h.2.2) refl))

  call_read : (n : Name) (es : t.Expressions) (ts rest : List Lexeme) → IsExpression (t.call n es) ts rest → Answers (named opens inner ts) (t.call n es) rest
  unfolding named same_kind
  call_read n es ts rest h =
      let o = argument_opens es h.0 rest h.2 in
      answers_then (name ts) _ n h.0 _ _ (name_it n ts h.0 h.1 (not_both k.LeftParenthesis k.Dot h.0 o.0 o.1 refl))
      (uneaten_then k.Apostrophe h.0 _ _ _ _ (not_both k.LeftParenthesis k.Apostrophe h.0 o.0 o.1 refl)
      (if_true (sees k.LeftParenthesis h.0) _ _ _ _ (sees_it k.LeftParenthesis h.0 o.0 o.1)
      (answers_then (arguments opens inner h.0) _ (expressions_list es) rest _ _ (arguments_it es h.0 rest h.2) (ap (λ l. (t.call n l, rest)) (expressions_of_list es)))))

  named_primary : (e : t.Expression) (ts a rest : List Lexeme) → Is k.Identifier ts a → Answers (named opens inner ts) e rest → Answers (primary opens inner ts) e rest
  unfolding primary same_kind
  named_primary e ts a rest h g =
      if_false (sees k.Literal ts) _ _ _ _ (not_both k.Identifier k.Literal ts a h refl) (if_true (sees k.Identifier ts) _ _ _ _ (sees_it k.Identifier ts a h) g)

  primary_it : CompleteAt 0 (primary opens inner)
  unfolding primary same_kind
  primary_it (t.literal at v) ts rest low h ends = if_true (sees k.Literal ts) _ _ _ _ (sees_it k.Literal ts rest (h.0, h.1, h.2)) (literal_it at v ts rest h)
  primary_it (t.name n) ts rest low h ends = named_primary (t.name n) ts h.0 rest (h.1.0, h.1.1, h.1.2) (name_read n ts rest h ends)
  primary_it (t.attribute n i) ts rest low h ends = named_primary (t.attribute n i) ts h.1.0 rest (h.1.1.0, h.1.1.1, h.1.1.2) (attribute_read n i ts rest h)
  primary_it (t.call n es) ts rest low h ends = named_primary (t.call n es) ts h.1.0 rest (h.1.1.0, h.1.1.1, h.1.1.2) (call_read n es ts rest h)
  primary_it (t.parenthesized at e) ts rest low h ends =
      let o = is_of k.LeftParenthesis at ts h.0 h.1 in
      if_false (sees k.Literal ts) _ _ _ _ (not_both k.LeftParenthesis k.Literal ts h.0 o refl)
      (if_false (sees k.Identifier ts) _ _ _ _ (not_both k.LeftParenthesis k.Identifier ts h.0 o refl) (parenthesized_it at e ts rest h))
  primary_it _ ts rest low h ends = absurd (omega arith)

  factor_primary : (e : t.Expression) (ts rest : List Lexeme) → rule_of e ≤ 0 → IsExpression e ts rest → Ends 1 rest → Answers (factor opens inner ts) e rest
  unfolding factor
  factor_primary e ts rest low h ends =
      rw (no_operator_before highest_of 0 highest_none ts (begins e 0 ts rest low h)) (primary_it e ts rest low h (ends_less 0 1 rest (omega arith) ends))

  factor_it : CompleteAt 1 (factor opens inner)
  unfolding factor
  factor_it (t.highest at op e) ts rest low h ends =
      let w = is_of (highest_word op) at ts h.0 h.1 in
      rw (an_operator highest_of (highest_word op) op ts h.0 w (highest_it op), next_it (highest_word op) ts h.0 w, place_it (highest_word op) at ts h.0 h.1)
      (answers_then (primary opens inner h.0) _ e rest _ _ (primary_it e h.0 rest h.2.0 h.2.1 (ends_less 0 1 rest (omega arith) ends)) refl)
  factor_it e ts rest low h ends = factor_primary e ts rest (omega arith) h ends

  factors_it : (fs : t.Factors) (ts rest : List Lexeme) → MoreFactors fs ts rest → Ends 2 rest → Ends 1 ts × Answers (factors opens inner ts) (parts t.factor_by (factor_pairs fs)) rest
  factors_it fs ts rest h ends =
      linked_it multiplying_of multiplying multiplying_it t.factor_by 1 1 2 (omega arith) multiplying_none multiplying_goes_on (factor opens inner) factor_it (factor_pairs fs) ts rest (factor_links fs ts rest h) ends

  one_factor : (e : t.Expression) (ts rest : List Lexeme) → rule_of e ≤ 1 → IsExpression e ts rest → Ends 2 rest → Answers (term opens inner ts) e rest
  unfolding term factor_pairs
  one_factor e ts rest low h ends =
      let m = factors_it t.no_factors rest rest refl ends in
      answers_then (factor opens inner ts) _ e rest _ _ (factor_it e ts rest low h m.0) (answers_then (factors opens inner rest) _ [] rest _ _ m.1 refl)

  term_it : CompleteAt 2 (term opens inner)
  unfolding term factor_pairs
  term_it (t.product e t.no_factors) ts rest low h ends = absurd h
  term_it (t.product e (t.and_factor op f fs)) ts rest low h ends =
      let m = factors_it (t.and_factor op f fs) h.0 rest h.2 ends in
      answers_then (factor opens inner ts) _ e h.0 _ _ (factor_it e ts h.0 h.1.0 h.1.1 m.0)
      (answers_then (factors opens inner h.0) _ (parts t.factor_by (factor_pairs (t.and_factor op f fs))) rest _ _ m.1
      (ap (λ l. (t.product e l, rest)) (factors_of_pairs (t.and_factor op f fs))))
  term_it e ts rest low h ends = one_factor e ts rest (omega arith) h ends

  unsigned : (e : t.Expression) (ts rest : List Lexeme) → rule_of e ≤ 2 → IsExpression e ts rest → Ends 3 rest → Answers (signed_term opens inner ts) e rest
  unfolding signed_term
  unsigned e ts rest low h ends =
      rw (no_operator_before adding_of 2 sign_none ts (begins e 2 ts rest low h)) (term_it e ts rest low h (ends_less 2 3 rest (omega arith) ends))

  signed_term_it : CompleteAt 3 (signed_term opens inner)
  unfolding signed_term
  signed_term_it (t.signed at op e) ts rest low h ends =
      let w = is_of (adding op) at ts h.0 h.1 in
      rw (an_operator adding_of (adding op) op ts h.0 w (adding_it op), next_it (adding op) ts h.0 w, place_it (adding op) at ts h.0 h.1)
      (answers_then (term opens inner h.0) _ e rest _ _ (term_it e h.0 rest h.2.0 h.2.1 (ends_less 2 3 rest (omega arith) ends)) refl)
  signed_term_it e ts rest low h ends = unsigned e ts rest (omega arith) h ends

  terms_it : (ss : t.Terms) (ts rest : List Lexeme) → MoreTerms ss ts rest → Ends 4 rest → Ends 3 ts × Answers (terms opens inner ts) (parts t.term_by (term_pairs ss)) rest
  terms_it ss ts rest h ends =
      linked_it adding_of adding adding_it t.term_by 2 3 4 (omega arith) adding_none adding_goes_on (term opens inner)
      (λ e us vs low h ends. term_it e us vs low h (ends_less 2 3 vs (omega arith) ends)) (term_pairs ss) ts rest (term_links ss ts rest h) ends

  one_term : (e : t.Expression) (ts rest : List Lexeme) → rule_of e ≤ 3 → IsExpression e ts rest → Ends 4 rest → Answers (simple opens inner ts) e rest
  unfolding simple term_pairs
  one_term e ts rest low h ends =
      let m = terms_it t.no_terms rest rest refl ends in
      answers_then (signed_term opens inner ts) _ e rest _ _ (signed_term_it e ts rest low h m.0) (answers_then (terms opens inner rest) _ [] rest _ _ m.1 refl)

  simple_it : CompleteAt 4 (simple opens inner)
  unfolding simple term_pairs
  simple_it (t.sum e t.no_terms) ts rest low h ends = absurd h
  simple_it (t.sum e (t.and_term op s ss)) ts rest low h ends =
      let m = terms_it (t.and_term op s ss) h.0 rest h.2 ends in
      answers_then (signed_term opens inner ts) _ e h.0 _ _ (signed_term_it e ts h.0 h.1.0 h.1.1 m.0)
      (answers_then (terms opens inner h.0) _ (parts t.term_by (term_pairs (t.and_term op s ss))) rest _ _ m.1
      (ap (λ l. (t.sum e l, rest)) (terms_of_pairs (t.and_term op s ss))))
  simple_it e ts rest low h ends = one_term e ts rest (omega arith) h ends

  one_simple : (e : t.Expression) (ts rest : List Lexeme) → rule_of e ≤ 4 → IsExpression e ts rest → Ends 5 rest → Answers (relation opens inner ts) e rest
  unfolding relation
  one_simple e ts rest low h ends =
      answers_then (simple opens inner ts) _ e rest _ _ (simple_it e ts rest low h (ends_less 4 5 rest (omega arith) ends))
      (rw (no_operator relational_of 5 relational_none rest ends) refl)

  relation_it : CompleteAt 5 (relation opens inner)
  unfolding relation
  relation_it (t.relation e op f) ts rest low h ends =
      answers_then (simple opens inner ts) _ e h.0 _ _ (simple_it e ts h.0 h.1.0 h.1.1 (ends_at 4 (relational op) h.0 h.2.0 h.2.1 (omega (arith, relational_goes_on op))))
      (rw (an_operator relational_of (relational op) op h.0 h.2.0 h.2.1 (relational_it op), next_it (relational op) h.0 h.2.0 h.2.1)
      (answers_then (simple opens inner h.2.0) _ f rest _ _ (simple_it f h.2.0 rest h.2.2.0 h.2.2.1 (ends_less 4 5 rest (omega arith) ends)) refl))
  relation_it e ts rest low h ends = one_simple e ts rest (omega arith) h ends

  -- the relations behind an operator
  relations_from_it : (op : LogicalOperator) (e : t.Expression) (es : t.Expressions) (n : ℕ) (found : List t.Expression) (ts mid rest : List Lexeme) → length ts ≤ n → When (rule_of e ≤ 5) (IsExpression e) ts mid → MoreRelations op es mid rest → Ends 6 rest → Answers (relations_from opens inner op n found ts) (found ++ e ∷ expressions_list es) rest
  unfolding relations_from expressions_list
  relations_from_it op e es zero found ts mid rest enough h m ends = absurd (omega (arith, expression_shorter e ts mid h.1))
  relations_from_it op e t.no_expressions (suc n) found ts mid rest enough h m ends =
      answers_then (relation opens inner ts) _ e mid _ _ (relation_it e ts mid h.0 h.1 (after_relation op t.no_expressions mid rest m ends))
      (answers_then (joined op mid) _ false mid _ _ (joined_none op mid (subst (λ us. Ends 6 us) (sym m) ends)) (ap (λ us. (found ++ e ∷ [], us)) m))
  relations_from_it op e (t.and_expression f fs) (suc n) found ts mid rest enough h m ends =
      answers_then (relation opens inner ts) _ e mid _ _ (relation_it e ts mid h.0 h.1 (after_relation op (t.and_expression f fs) mid rest m ends))
      (answers_then (joined op mid) _ true m.0 _ _ (joined_it op mid m.0 m.1)
      (subst (λ l. Answers (relations_from opens inner op n (found ++ e ∷ []) m.0) l rest) (append_assoc found (e ∷ []) (f ∷ expressions_list fs))
      (relations_from_it op f fs n (found ++ e ∷ []) m.0 m.2.0 rest (omega (arith, expression_shorter e ts mid h.1, logical_shorter op mid m.0 m.1)) m.2.1 m.2.2 ends)))

  one_relation : (e : t.Expression) (ts rest : List Lexeme) → rule_of e ≤ 5 → IsExpression e ts rest → Ends 6 rest → Answers (whole opens inner ts) e rest
  unfolding whole
  one_relation e ts rest low h ends =
      answers_then (relation opens inner ts) _ e rest _ _ (relation_it e ts rest low h (ends_less 5 6 rest (omega arith) ends))
      (answers_then (joining rest) _ None rest _ _ (joining_none rest ends) refl)

  whole_it : CompleteAt 6 (whole opens inner)
  unfolding whole relations expressions_list
  whole_it (t.logical op e t.no_expressions) ts rest low h ends = absurd h
  whole_it (t.logical op e (t.and_expression f fs)) ts rest low h ends =
      let m = h.2 in
      answers_then (relation opens inner ts) _ e h.0 _ _ (relation_it e ts h.0 h.1.0 h.1.1 (after_relation op (t.and_expression f fs) h.0 rest m ends))
      (answers_then (joining h.0) _ (Some op) m.0 _ _ (joining_it op h.0 m.0 m.1 (begins f 6 m.0 m.2.0 (rule_top f) m.2.1.1))
      (answers_then (relations_from opens inner op (length m.0) [] m.0) _ (f ∷ expressions_list fs) rest _ _ (relations_from_it op f fs (length m.0) [] m.0 m.2.0 rest (omega arith) m.2.1 m.2.2 ends)
      (ap (λ l. (t.logical op e l, rest)) (expressions_of_list (t.and_expression f fs)))))
  whole_it e ts rest low h ends = one_relation e ts rest (omega arith) h ends

  pub maybe_list : (es : t.Expressions) (ts rest : List Lexeme) → AreArguments es ts rest → Answers (and_then (arguments opens inner ts) (λ xs. pure (t.expressions_of xs))) es rest
  maybe_list es ts rest h = answers_then (arguments opens inner ts) _ (expressions_list es) rest _ _ (arguments_it es ts rest h) (ap (λ l. (l, rest)) (expressions_of_list es))

expect_is : (what : Kind) (at : ℕ) (ts a : List Lexeme) → IsAt what at ts a → expect what ts ≡ Ok (at, a)
unfolding expect place next
expect_is what at ts a h = rw (sees_it what ts a (h.0, h.1, h.2)) (rw (h.1, h.3))

too_many : (at : ℕ) (ts mid : List Lexeme) → IsAt k.LeftParenthesis at ts mid → opening zero ts ≡ Err too_deep
unfolding opening
too_many at ts mid h = rw (sees_it k.LeftParenthesis ts mid (h.0, h.1, h.2))

opening_is : (n at : ℕ) (ts mid : List Lexeme) → IsAt k.LeftParenthesis at ts mid → opening (suc n) ts ≡ Ok (at, mid)
unfolding opening
opening_is n at ts mid h = expect_is k.LeftParenthesis at ts mid h

pub expression_it : (n : ℕ) → CompleteAt 6 (expression n)
unfolding expression
expression_it zero = whole_it (opening zero) _ (λ at ts mid h. inl (too_many at ts mid h))
expression_it (suc n) = whole_it (opening (suc n)) (expression n) (λ at ts mid h. inr (opening_is n at ts mid h, expression_it n))

-- at a depth, whatever stands inside
pub opens_at : (n : ℕ) → Opens (opening n) (inside n)
unfolding inside
opens_at zero at ts mid h = inl (too_many at ts mid h)
opens_at (suc n) at ts mid h = inr (opening_is n at ts mid h, expression_it n)
