-- How expressions are read, by recursive descent.
use Rattle.std.specs.Prelude.{ℕ, zero, suc, Bool, true, false, if◌then◌else◌, List, [], ◌∷◌, ◌++◌, length, Option, Some, None, Ok, Err}
use Rattle.rv_lex.specs.declared.kind.Kind.{Kind}
use Rattle.rv_lex.specs.declared.kind.Kind.TheVariants as k
use Rattle.rv_lex.specs.Lexes.{Lexeme}
use Rattle.rv_tree.specs.declared.expression.LogicalOperator.{LogicalOperator}
use Rattle.rv_tree.specs.declared.expression.LogicalOperator.TheVariants as logic
use Rattle.rv_tree.specs.declared.expression.RelationalOperator.{RelationalOperator}
use Rattle.rv_tree.specs.declared.expression.RelationalOperator.TheVariants as relates
use Rattle.rv_tree.specs.declared.expression.AddingOperator.{AddingOperator}
use Rattle.rv_tree.specs.declared.expression.AddingOperator.TheVariants as adds
use Rattle.rv_tree.specs.declared.expression.MultiplyingOperator.{MultiplyingOperator}
use Rattle.rv_tree.specs.declared.expression.MultiplyingOperator.TheVariants as multiplies
use Rattle.rv_tree.specs.declared.expression.HighestOperator.{HighestOperator}
use Rattle.rv_tree.specs.declared.expression.HighestOperator.TheVariants as before
use Rattle.rv_tree.specs.Expressions as t
use Rattle.rv_grammar.specs.Reading.{Parser, unexpected, too_deep, ◌>>=◌, ◌>>◌, pure, refuse, sees, next, place, value, kind, of_kind, eat, expect}
use Rattle.rv_grammar.specs.NameRules.{identifier, name}

abbrev pub relational_of : Kind → Option RelationalOperator
relational_of k.Equal = Some relates.Equal
relational_of k.NotEqual = Some relates.NotEqual
relational_of k.Less = Some relates.Less
relational_of k.LessEqual = Some relates.LessEqual
relational_of k.Greater = Some relates.Greater
relational_of k.GreaterEqual = Some relates.GreaterEqual
relational_of _ = None

abbrev pub adding_of : Kind → Option AddingOperator
adding_of k.Plus = Some adds.Plus
adding_of k.Minus = Some adds.Minus
adding_of _ = None

abbrev pub multiplying_of : Kind → Option MultiplyingOperator
multiplying_of k.Times = Some multiplies.Times
multiplying_of k.Divide = Some multiplies.Divide
multiplying_of k.Mod = Some multiplies.Mod
multiplying_of k.Rem = Some multiplies.Rem
multiplying_of _ = None

abbrev pub highest_of : Kind → Option HighestOperator
highest_of k.Abs = Some before.Abs
highest_of k.Not = Some before.Not
highest_of _ = None

abbrev pub begins_expression : Kind → Bool
begins_expression k.Literal = true
begins_expression k.Identifier = true
begins_expression k.LeftParenthesis = true
begins_expression k.Plus = true
begins_expression k.Minus = true
begins_expression k.Abs = true
begins_expression k.Not = true
begins_expression _ = false

-- the operator that comes next, by the function of the kinds that may be one
unfoldable pub operator : {A : Type 0} → (Kind → Option A) → List Lexeme → Option A
operator of ts = of_kind of (kind ts)

-- and, or, xor, and then, or else, which is taken
unfoldable pub joining : Parser (Option LogicalOperator)
joining = do
  is_and ← eat k.And
  if is_and then (do is_short ← eat k.Then; pure (Some (if is_short then logic.AndThen else logic.And))) else (do
    is_or ← eat k.Or
    if is_or then (do is_short ← eat k.Else; pure (Some (if is_short then logic.OrElse else logic.Or))) else (do
      is_xor ← eat k.Xor
      pure (if is_xor then Some logic.Xor else None)))

-- the first word, and where it is there the second
unfoldable pub both_words : Kind → Kind → Parser Bool
both_words first second = do
  is_there ← eat first
  if is_there then (expect second >> pure true) else pure false

-- whether that operator comes next, which is taken
abbrev pub joined : LogicalOperator → Parser Bool
joined logic.And = eat k.And
joined logic.Or = eat k.Or
joined logic.Xor = eat k.Xor
joined logic.AndThen = both_words k.And k.Then
joined logic.OrElse = both_words k.Or k.Else

unfoldable pub literal : Parser t.Expression
literal = λ i. Ok (t.literal (place i) (value i), next i)

-- an opening parenthesis, of which so many may still be open
unfoldable pub opening : ℕ → Parser ℕ
opening zero = λ i. if sees k.LeftParenthesis i then Err too_deep else Err unexpected
opening (suc n) = expect k.LeftParenthesis

-- {operator x}, each operator and the x behind it as one part
module _ {O A : Type 0} (of : Kind → Option O) (item : Parser t.Expression) (part : O → t.Expression → A) where
  abbrev pub linked_by : (List A → Parser (List A)) → List A → Option O → Parser (List A)
  linked_by again found None = pure found
  linked_by again found (Some op) = λ i. (item >>= λ e. again (found ++ part op e ∷ [])) (next i)

  -- at most so many, behind those that were found
  unfoldable pub linked_from : ℕ → List A → Parser (List A)
  linked_from zero found = pure found
  linked_from (suc n) found = λ i. linked_by (linked_from n) found (operator of i) i

  unfoldable pub linked : Parser (List A)
  linked = λ i. linked_from (length i) [] i

module _ (opening : Parser ℕ) (inner : Parser t.Expression) where
  -- {"," expr} ")", after those that were found
  unfoldable pub arguments_from : ℕ → List t.Expression → Parser (List t.Expression)
  arguments_from zero found = refuse
  arguments_from (suc n) found = do
    more ← eat k.Comma
    if more then (do e ← inner; arguments_from n (found ++ e ∷ [])) else (do expect k.RightParenthesis; pure found)

  -- "(" expr {"," expr} ")"
  unfoldable pub arguments : Parser (List t.Expression)
  arguments = opening >> inner >>= λ e. λ i. arguments_from (length i) (e ∷ []) i

  unfoldable pub parenthesized : Parser t.Expression
  parenthesized = do
    at ← opening
    e ← inner
    expect k.RightParenthesis
    pure (t.parenthesized at e)

  -- name | name "'" id | name args
  unfoldable pub named : Parser t.Expression
  named = do
    n ← name
    is_attribute ← eat k.Apostrophe
    if is_attribute then (do i ← identifier; pure (t.attribute n i)) else
        (λ i. if sees k.LeftParenthesis i then (do es ← arguments; pure (t.call n (t.expressions_of es))) i else Ok (t.name n, i))

  unfoldable pub primary : Parser t.Expression
  primary = λ i. if sees k.Literal i then literal i else (if sees k.Identifier i then named i else parenthesized i)

  abbrev pub factor_by : Option HighestOperator → Parser t.Expression
  factor_by None = primary
  factor_by (Some op) = λ i. (primary >>= λ e. pure (t.highest (place i) op e)) (next i)

  unfoldable pub factor : Parser t.Expression
  factor = λ i. factor_by (operator highest_of i) i

  -- {multiplying factor}
  abbrev pub factors : Parser (List t.Factor)
  factors = linked multiplying_of factor t.factor_by

  abbrev pub product_of : t.Expression → List t.Factor → t.Expression
  product_of e [] = e
  product_of e (f ∷ fs) = t.product e (t.factors_of (f ∷ fs))

  unfoldable pub term : Parser t.Expression
  term = do
    first ← factor
    more ← factors
    pure (product_of first more)

  abbrev pub signed_term_by : Option AddingOperator → Parser t.Expression
  signed_term_by None = term
  signed_term_by (Some op) = λ i. (term >>= λ e. pure (t.signed (place i) op e)) (next i)

  unfoldable pub signed_term : Parser t.Expression
  signed_term = λ i. signed_term_by (operator adding_of i) i

  -- {adding term}
  abbrev pub terms : Parser (List t.Term)
  terms = linked adding_of term t.term_by

  abbrev pub sum_of : t.Expression → List t.Term → t.Expression
  sum_of e [] = e
  sum_of e (s ∷ ss) = t.sum e (t.terms_of (s ∷ ss))

  unfoldable pub simple : Parser t.Expression
  simple = do
    first ← signed_term
    more ← terms
    pure (sum_of first more)

  abbrev pub relation_by : t.Expression → Option RelationalOperator → Parser t.Expression
  relation_by first None = pure first
  relation_by first (Some op) = λ i. (simple >>= λ second. pure (t.relation first op second)) (next i)

  unfoldable pub relation : Parser t.Expression
  relation = simple >>= λ first. λ i. relation_by first (operator relational_of i) i

  -- relations that the operator joins, behind those that were found
  unfoldable pub relations_from : LogicalOperator → ℕ → List t.Expression → Parser (List t.Expression)
  relations_from op zero found = refuse
  relations_from op (suc n) found = do
    e ← relation
    goes_on ← joined op
    if goes_on then relations_from op n (found ++ e ∷ []) else pure (found ++ e ∷ [])

  unfoldable pub relations : LogicalOperator → Parser (List t.Expression)
  relations op = λ i. relations_from op (length i) [] i

  abbrev pub whole_by : t.Expression → Option LogicalOperator → Parser t.Expression
  whole_by first None = pure first
  whole_by first (Some op) = do
    more ← relations op
    pure (t.logical op first (t.expressions_of more))

  unfoldable pub whole : Parser t.Expression
  whole = do
    first ← relation
    op ← joining
    whole_by first op

-- an expression in which at most so many parentheses are open one inside another
unfoldable pub expression : ℕ → Parser t.Expression
expression zero = whole (opening zero) refuse
expression (suc n) = whole (opening (suc n)) (expression n)

-- what stands inside a parenthesis
unfoldable pub inside : ℕ → Parser t.Expression
inside zero = refuse
inside (suc n) = expression n
