-- What is read as an expression is one of the grammar.
use Rattle.std.proofs.Common.{◌≡◌, ◌≤◌, inl, inr, ℕ, zero, suc, Bool, true, false, cond, List, [], ◌∷◌, ◌++◌, length, Option, Some, None, Ok, refl, sym, ap, ◌∙◌, subst, arith, append_assoc, append-nil}
use Rattle.rv_lex.specs.declared.kind.Kind.{Kind}
use Rattle.rv_lex.specs.declared.kind.Kind.TheVariants as k
use Rattle.rv_lex.specs.Lexes.{Lexeme}
use Rattle.rv_lex.specs.Literals.{value_of}
use Rattle.rv_tree.specs.declared.expression.LogicalOperator.{LogicalOperator}
use Rattle.rv_tree.specs.declared.expression.RelationalOperator.{RelationalOperator}
use Rattle.rv_tree.specs.declared.expression.AddingOperator.{AddingOperator}
use Rattle.rv_tree.specs.declared.expression.HighestOperator.{HighestOperator}
use Rattle.rv_tree.specs.Phrases.{Phrase, ◌⨾◌, Is, IsAt, When}
use Rattle.rv_tree.specs.NameGrammar.{IsIdentifier, IsName}
use Rattle.rv_tree.specs.Expressions as t
use Rattle.rv_tree.specs.ExpressionGrammar.{a_primary, a_factor, a_term, a_signed_term, a_simple_expression, a_relation, rule_of, IsExpression, AreArguments, MoreArguments, MoreFactors, MoreTerms, MoreRelations}
use Rattle.rv_grammar.specs.Reading.{Parser, and_then, pure, sees, next, after, place, value, expect, more_after}
use Rattle.rv_grammar.specs.NameRules.{identifier, name}
use Rattle.rv_grammar.specs.ExpressionRules.{operator, relational_of, adding_of, multiplying_of, highest_of, joining, joined, linked_by, linked_from, linked, literal, opening, inside, arguments_from, arguments, parenthesized, named, primary, factor_by, factor, factors, product_of, term, signed_term_by, signed_term, terms, sum_of, simple, relation_by, relation, relations_from, relations, whole_by, whole, expression}
use Rattle.rv_grammar.proofs.Steps.{Sound, bind_ok, ok_is, given, branch_ok, chosen, sees_means, eaten, not_eaten, expected, expected_at, identifier_sound, more_after_sound}
use Rattle.rv_grammar.proofs.Operators.{relational_at, adding_at, multiplying_at, highest_at, IsJoining, joining_sound, IsJoined, joined_sound}

pub name_sound : Sound IsName name
unfolding name
name_sound ts r h =
    let a = bind_ok (identifier ts) _ r h in
    let b = bind_ok (more_after k.Dot identifier [] a.0.1) _ r a.2 in
    given IsName ts _ r b.2 (a.0.1, identifier_sound ts a.0 a.1, more_after_sound IsIdentifier identifier identifier_sound k.Dot a.0.1 b.0 b.1)

-- an expression of one of the rules up to this one
abbrev pub UpTo : ℕ → t.Expression → Phrase
UpTo n e = When (rule_of e ≤ n) (IsExpression e)

literal_sound : (ts : List Lexeme) (r : t.Expression × List Lexeme) → sees k.Literal ts ≡ true → literal ts ≡ Ok r → UpTo a_primary r.0 ts r.1
unfolding literal value
literal_sound [] r seen h = let s = sees_means k.Literal [] seen in absurd (omega (arith, ap length s.1))
literal_sound (x ∷ ts) r seen h =
    let s = sees_means k.Literal (x ∷ ts) seen in
    let same : x ≡ s.0 = cc in
    let read : UpTo a_primary (t.literal (place (x ∷ ts)) (value (x ∷ ts))) (x ∷ ts) (next (x ∷ ts)) = (omega arith, (s.0, s.1, s.2, s.3, ap (λ (y : Lexeme). value_of y.text) (sym same))) in
    given (UpTo a_primary) (x ∷ ts) _ r h read

-- {operator x}, where one more operator and x are one more part
module _ {O A : Type 0} (of : Kind → Option O) (item : Parser t.Expression) (part : O → t.Expression → A) (is : t.Expression → Phrase) (sound : Sound is item) (More : List A → Phrase) (none : (ts : List Lexeme) → More [] ts ts) (one_more : (op : O) (e : t.Expression) (more : List A) (ts rest : List Lexeme) → operator of ts ≡ Some op → (is e ⨾ More more) (next ts) rest → More (part op e ∷ more) ts rest) where
  -- what was found, and more of it
  abbrev LinkedSound : (List A → Parser (List A)) → Type 0
  LinkedSound p = (found : List A) (ts : List Lexeme) (r : List A × List Lexeme) → p found ts ≡ Ok r → (more : List A) × (r.0 ≡ found ++ more) × More more ts r.1

  no_more_sound : LinkedSound (λ found. pure found)
  no_more_sound found ts r h =
      let e = ok_is _ _ h in
      ([], sym (append-nil found ∙ ap (λ (q : List A × List Lexeme). q.0) e), subst (λ us. More [] ts us) (ap (λ (q : List A × List Lexeme). q.1) e) (none ts))

  linked_by_sound : (again : List A → Parser (List A)) → LinkedSound again → (found : List A) (ts : List Lexeme) (r : List A × List Lexeme) (o : Option O) → operator of ts ≡ o → linked_by of item part again found o ts ≡ Ok r → (more : List A) × (r.0 ≡ found ++ more) × More more ts r.1
  linked_by_sound again ih found ts r None e h = no_more_sound found ts r h
  linked_by_sound again ih found ts r (Some op) e h =
      let a = bind_ok (item (next ts)) _ r h in
      let p = part op a.0.0 in
      let b = ih (found ++ p ∷ []) a.0.1 r a.2 in
      (p ∷ b.0, b.1 ∙ append_assoc found (p ∷ []) b.0, one_more op a.0.0 b.0 ts r.1 e (a.0.1, sound _ a.0 a.1, b.2))

  linked_from_sound : (n : ℕ) → LinkedSound (linked_from of item part n)
  unfolding linked_from
  linked_from_sound zero found ts r h = no_more_sound found ts r h
  linked_from_sound (suc n) found ts r h = linked_by_sound (linked_from of item part n) (linked_from_sound n) found ts r (operator of ts) refl h

  linked_sound : Sound More (linked of item part)
  unfolding linked
  linked_sound ts r h =
      let m = linked_from_sound (length ts) [] ts r h in
      subst (λ l. More l ts r.1) (sym m.1) m.2

module _ (opens : Parser ℕ) (opens_sound : Sound (IsAt k.LeftParenthesis) opens) (inner : Parser t.Expression) (inner_sound : Sound IsExpression inner) where
  opened : (ts : List Lexeme) (p : ℕ × List Lexeme) → opens ts ≡ Ok p → Is k.LeftParenthesis ts p.1
  opened ts p h = let s = opens_sound ts p h in (s.0, s.1, s.2)

  parenthesized_sound : Sound (UpTo a_primary) (parenthesized opens inner)
  unfolding parenthesized
  parenthesized_sound ts r h =
      let a = bind_ok (opens ts) _ r h in
      let b = bind_ok (inner a.0.1) _ r a.2 in
      let c = bind_ok (expect k.RightParenthesis b.0.1) _ r b.2 in
      given (UpTo a_primary) ts _ r c.2 (omega arith, (a.0.1, opens_sound ts a.0 a.1, (b.0.1, inner_sound _ b.0 b.1, expected k.RightParenthesis _ c.0 c.1)))

  arguments_from_sound : (n : ℕ) (found : List t.Expression) (ts : List Lexeme) (r : List t.Expression × List Lexeme) → arguments_from opens inner n found ts ≡ Ok r → (more : List t.Expression) × (r.0 ≡ found ++ more) × MoreArguments (t.expressions_of more) ts r.1
  unfolding arguments_from
  arguments_from_sound zero found ts r h = absurd cc
  arguments_from_sound (suc n) found ts r h = elim (branch_ok (sees k.Comma ts) _ _ _ r h) [
    | inl g ↦
        let a = bind_ok (inner (after k.Comma ts)) _ r g.1 in
        let b = arguments_from_sound n (found ++ a.0.0 ∷ []) a.0.1 r a.2 in
        (a.0.0 ∷ b.0, b.1 ∙ append_assoc found (a.0.0 ∷ []) b.0, (after k.Comma ts, eaten k.Comma ts g.0, (a.0.1, inner_sound _ a.0 a.1, b.2)))
    | inr g ↦
        let a = bind_ok (expect k.RightParenthesis (after k.Comma ts)) _ r g.1 in
        let e = ok_is _ _ a.2 in
        let close = expected k.RightParenthesis (after k.Comma ts) a.0 a.1 in
        let at_end : Is k.RightParenthesis ts r.1 = subst (λ us. Is k.RightParenthesis us r.1) (not_eaten k.Comma ts g.0) (subst (λ us. Is k.RightParenthesis (after k.Comma ts) us) (ap (λ (q : List t.Expression × List Lexeme). q.1) e) close) in
        ([], sym (append-nil found ∙ ap (λ (q : List t.Expression × List Lexeme). q.0) e), at_end)
  ]

  pub arguments_sound : Sound (λ es. AreArguments (t.expressions_of es)) (arguments opens inner)
  unfolding arguments
  arguments_sound ts r h =
      let a = bind_ok (and_then (opens ts) (λ _. inner)) _ r h in
      let b = bind_ok (opens ts) (λ _. inner) a.0 a.1 in
      let d = arguments_from_sound (length a.0.1) (a.0.0 ∷ []) a.0.1 r a.2 in
      subst (λ es. AreArguments (t.expressions_of es) ts r.1) (sym d.1) (b.0.1, opened ts b.0 b.1, (a.0.1, inner_sound _ a.0 b.2, d.2))

  named_sound : Sound (UpTo a_primary) (named opens inner)
  unfolding named
  named_sound ts r h =
      let a = bind_ok (name ts) _ r h in
      let n = name_sound ts a.0 a.1 in
      elim (branch_ok (sees k.Apostrophe a.0.1) _ _ _ r a.2) [
        | inl g ↦
            let b = bind_ok (identifier (after k.Apostrophe a.0.1)) _ r g.1 in
            given (UpTo a_primary) ts _ r b.2 (omega arith, (a.0.1, n, (after k.Apostrophe a.0.1, eaten k.Apostrophe a.0.1 g.0, identifier_sound _ b.0 b.1)))
        | inr g ↦
            let same = not_eaten k.Apostrophe a.0.1 g.0 in
            let n_2 : IsName a.0.0 ts (after k.Apostrophe a.0.1) = subst (λ us. IsName a.0.0 ts us) (sym same) n in
            elim (chosen (sees k.LeftParenthesis (after k.Apostrophe a.0.1)) _ _ _ g.1) [
              | inl m ↦
                  let b = bind_ok (arguments opens inner (after k.Apostrophe a.0.1)) _ r m.1 in
                  given (UpTo a_primary) ts _ r b.2 (omega arith, (after k.Apostrophe a.0.1, n_2, arguments_sound _ b.0 b.1))
              | inr m ↦ given (UpTo a_primary) ts _ r m.1 (omega arith, n_2)
            ]
      ]

  primary_sound : Sound (UpTo a_primary) (primary opens inner)
  unfolding primary
  primary_sound ts r h = elim (chosen (sees k.Literal ts) _ _ _ h) [
    | inl g ↦ literal_sound ts r g.0 g.1
    | inr g ↦ elim (chosen (sees k.Identifier ts) _ _ _ g.1) [
      | inl m ↦ named_sound ts r m.1
      | inr m ↦ parenthesized_sound ts r m.1
    ]
  ]

  factor_sound : Sound (UpTo a_factor) (factor opens inner)
  unfolding factor
  factor_sound ts r h = by_operator (operator highest_of ts) refl h
    where
      by_operator : (o : Option HighestOperator) → operator highest_of ts ≡ o → factor_by opens inner o ts ≡ Ok r → UpTo a_factor r.0 ts r.1
      by_operator None e h = let p = primary_sound ts r h in (omega arith, p.1)
      by_operator (Some op) e h =
          let a = bind_ok (primary opens inner (next ts)) _ r h in
          let p = primary_sound _ a.0 a.1 in
          given (UpTo a_factor) ts _ r a.2 (omega arith, (next ts, highest_at ts op e, p))

  factors_sound : Sound (λ fs. MoreFactors (t.factors_of fs)) (factors opens inner)
  factors_sound = linked_sound multiplying_of (factor opens inner) t.factor_by (UpTo a_factor) factor_sound (λ fs. MoreFactors (t.factors_of fs)) (λ ts. refl) (λ op e more ts rest o h. (next ts, multiplying_at ts op o, h))

  product_sound : (e : t.Expression) (fs : List t.Factor) (ts a rest : List Lexeme) → UpTo a_factor e ts a → MoreFactors (t.factors_of fs) a rest → UpTo a_term (product_of opens inner e fs) ts rest
  product_sound e [] ts a rest h m = (omega (arith, h.0), subst (λ us. IsExpression e ts us) m h.1)
  product_sound e (f ∷ fs) ts a rest h m = (omega arith, (a, h, m))

  term_sound : Sound (UpTo a_term) (term opens inner)
  unfolding term
  term_sound ts r h =
      let a = bind_ok (factor opens inner ts) _ r h in
      let b = bind_ok (factors opens inner a.0.1) _ r a.2 in
      given (UpTo a_term) ts _ r b.2 (product_sound a.0.0 b.0.0 ts a.0.1 b.0.1 (factor_sound ts a.0 a.1) (factors_sound a.0.1 b.0 b.1))

  signed_term_sound : Sound (UpTo a_signed_term) (signed_term opens inner)
  unfolding signed_term
  signed_term_sound ts r h = by_operator (operator adding_of ts) refl h
    where
      by_operator : (o : Option AddingOperator) → operator adding_of ts ≡ o → signed_term_by opens inner o ts ≡ Ok r → UpTo a_signed_term r.0 ts r.1
      by_operator None e h = let p = term_sound ts r h in (omega arith, p.1)
      by_operator (Some op) e h =
          let a = bind_ok (term opens inner (next ts)) _ r h in
          given (UpTo a_signed_term) ts _ r a.2 (omega arith, (next ts, adding_at ts op e, term_sound _ a.0 a.1))

  terms_sound : Sound (λ ss. MoreTerms (t.terms_of ss)) (terms opens inner)
  terms_sound = linked_sound adding_of (term opens inner) t.term_by (UpTo a_term) term_sound (λ ss. MoreTerms (t.terms_of ss)) (λ ts. refl) (λ op e more ts rest o h. let w = adding_at ts op o in (next ts, (w.0, w.1, w.2), h))

  sum_sound : (e : t.Expression) (ss : List t.Term) (ts a rest : List Lexeme) → UpTo a_signed_term e ts a → MoreTerms (t.terms_of ss) a rest → UpTo a_simple_expression (sum_of opens inner e ss) ts rest
  sum_sound e [] ts a rest h m = (omega (arith, h.0), subst (λ us. IsExpression e ts us) m h.1)
  sum_sound e (s ∷ ss) ts a rest h m = (omega arith, (a, h, m))

  simple_sound : Sound (UpTo a_simple_expression) (simple opens inner)
  unfolding simple
  simple_sound ts r h =
      let a = bind_ok (signed_term opens inner ts) _ r h in
      let b = bind_ok (terms opens inner a.0.1) _ r a.2 in
      given (UpTo a_simple_expression) ts _ r b.2 (sum_sound a.0.0 b.0.0 ts a.0.1 b.0.1 (signed_term_sound ts a.0 a.1) (terms_sound a.0.1 b.0 b.1))

  relation_sound : Sound (UpTo a_relation) (relation opens inner)
  unfolding relation
  relation_sound ts r h =
      let a = bind_ok (simple opens inner ts) _ r h in
      by_operator a.0 (simple_sound ts a.0 a.1) (operator relational_of a.0.1) refl a.2
    where
      by_operator : (p : t.Expression × List Lexeme) → UpTo a_simple_expression p.0 ts p.1 → (o : Option RelationalOperator) → operator relational_of p.1 ≡ o → relation_by opens inner p.0 o p.1 ≡ Ok r → UpTo a_relation r.0 ts r.1
      by_operator p x None e h = given (UpTo a_relation) ts _ r h (omega (arith, x.0), x.1)
      by_operator p x (Some op) e h =
          let b = bind_ok (simple opens inner (next p.1)) _ r h in
          given (UpTo a_relation) ts _ r b.2 (omega arith, (p.1, x, (next p.1, relational_at p.1 op e, simple_sound _ b.0 b.1)))

  -- the relations behind an operator that was read
  abbrev RelationsSound : LogicalOperator → (List t.Expression → Parser (List t.Expression)) → Type 0
  RelationsSound op p = (found : List t.Expression) (ts : List Lexeme) (r : List t.Expression × List Lexeme) → p found ts ≡ Ok r → (first : t.Expression) × (more : List t.Expression) × (r.0 ≡ found ++ first ∷ more) × (UpTo a_relation first ⨾ MoreRelations op (t.expressions_of more)) ts r.1

  goes_on_sound : (op : LogicalOperator) (again : List t.Expression → Parser (List t.Expression)) → RelationsSound op again → (found : List t.Expression) (ts : List Lexeme) (r : List t.Expression × List Lexeme) (p : t.Expression × List Lexeme) → UpTo a_relation p.0 ts p.1 → (more : Bool) (rest : List Lexeme) → IsJoined op more p.1 rest → cond more (again (found ++ p.0 ∷ [])) (pure (found ++ p.0 ∷ [])) rest ≡ Ok r → (first : t.Expression) × (more : List t.Expression) × (r.0 ≡ found ++ first ∷ more) × (UpTo a_relation first ⨾ MoreRelations op (t.expressions_of more)) ts r.1
  goes_on_sound op again ih found ts r p x true rest j h =
      let m = ih (found ++ p.0 ∷ []) rest r h in
      (p.0, m.0 ∷ m.1, m.2 ∙ append_assoc found (p.0 ∷ []) (m.0 ∷ m.1), (p.1, x, (rest, j, m.3)))
  goes_on_sound op again ih found ts r p x false rest j h =
      let e = ok_is _ _ h in
      (p.0, [], sym (ap (λ (q : List t.Expression × List Lexeme). q.0) e), (p.1, x, j ∙ ap (λ (q : List t.Expression × List Lexeme). q.1) e))

  relations_from_sound : (op : LogicalOperator) (n : ℕ) → RelationsSound op (relations_from opens inner op n)
  unfolding relations_from
  relations_from_sound op zero found ts r h = absurd cc
  relations_from_sound op (suc n) found ts r h =
      let a = bind_ok (relation opens inner ts) _ r h in
      let b = bind_ok (joined op a.0.1) _ r a.2 in
      goes_on_sound op (relations_from opens inner op n) (relations_from_sound op n) found ts r a.0 (relation_sound ts a.0 a.1) b.0.0 b.0.1 (joined_sound op a.0.1 b.0 b.1) b.2

  whole_sound : Sound IsExpression (whole opens inner)
  unfolding whole relations
  whole_sound ts r h =
      let a = bind_ok (relation opens inner ts) _ r h in
      let b = bind_ok (joining a.0.1) _ r a.2 in
      by_operator a.0 (relation_sound ts a.0 a.1) b.0.0 b.0.1 (joining_sound a.0.1 b.0 b.1) b.2
    where
      by_operator : (p : t.Expression × List Lexeme) → UpTo a_relation p.0 ts p.1 → (o : Option LogicalOperator) (rest : List Lexeme) → IsJoining o p.1 rest → whole_by opens inner p.0 o rest ≡ Ok r → IsExpression r.0 ts r.1
      by_operator p x None rest j h = given IsExpression ts _ r h (subst (λ us. IsExpression p.0 ts us) j x.1)
      by_operator p x (Some op) rest j h =
          let b = bind_ok (relations opens inner op rest) _ r h in
          let m = relations_from_sound op (length rest) [] rest b.0 b.1 in
          let read : IsExpression (t.logical op p.0 (t.expressions_of (m.0 ∷ m.1))) ts b.0.1 = (p.1, x, (rest, j, m.3)) in
          given IsExpression ts _ r b.2 (subst (λ es. IsExpression (t.logical op p.0 (t.expressions_of es)) ts b.0.1) (sym m.2) read)

pub opening_sound : (n : ℕ) → Sound (IsAt k.LeftParenthesis) (opening n)
unfolding opening
opening_sound zero ts r h = elim (chosen (sees k.LeftParenthesis ts) _ _ _ h) [ inl g ↦ absurd cc | inr g ↦ absurd cc ]
opening_sound (suc n) ts r h = expected_at k.LeftParenthesis ts r h

pub expression_sound : (n : ℕ) → Sound IsExpression (expression n)
unfolding expression
expression_sound zero ts r h = whole_sound (opening zero) (opening_sound zero) _ (λ us p g. absurd cc) ts r h
expression_sound (suc n) ts r h = whole_sound (opening (suc n)) (opening_sound (suc n)) (expression n) (expression_sound n) ts r h

pub inside_sound : (n : ℕ) → Sound IsExpression (inside n)
unfolding inside
inside_sound zero ts r h = absurd cc
inside_sound (suc n) ts r h = expression_sound n ts r h
