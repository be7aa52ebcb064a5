-- A statement that holds others is read, unless it nests too deep.
use Rattle.std.proofs.Common.{◌≡◌, ◌≤◌, ℕ, zero, suc, false, List, [], ◌∷◌, ◌++◌, length, Option, Some, None, refl, ap, ◌∙◌, subst, arith, append_assoc, append-nil}
use Rattle.rv_lex.specs.declared.kind.Kind.{Kind}
use Rattle.rv_lex.specs.declared.kind.Kind.TheVariants as k
use Rattle.rv_lex.specs.Lexes.{Lexeme}
use Rattle.rv_tree.specs.Phrases.{◌⨾◌, Is, IsAt, Maybe, Each, Listed}
use Rattle.rv_tree.specs.Names.{Identifier}
use Rattle.rv_tree.specs.Expressions as e
use Rattle.rv_tree.specs.ExpressionGrammar.{IsExpression}
use Rattle.rv_tree.specs.Declarations.{Parameter}
use Rattle.rv_tree.specs.Statements as t
use Rattle.rv_tree.specs.StatementGrammar.{IsChoice, IsGuard, IsStatement, AreStatements, MoreStatements, AreElsifParts, IsElse, AreAlternatives, IsAcceptBody, IsSelective, AreSelectives, MoreSelectives, IsThenAbort}
use Rattle.rv_grammar.specs.Reading.{Parser, and_then, pure, same_kind, sees, expect, many_from, more_of, many, listed, optional}
use Rattle.rv_grammar.specs.NameRules.{identifier}
use Rattle.rv_grammar.specs.DeclarationRules.{any_expression, parameters}
use Rattle.rv_grammar.specs.StatementRules.{choice, iteration, guard, begins_statement, sees_statement, statements, statements_after, elsif_part, elsif_parts, if_statement, alternative, alternatives, case_statement, loop_statement, accept_body, accept_statement, selective, selectives_from, selectives, then_abort, select_statement, statement_by, any_statement, statement}
use Rattle.rv_grammar.proofs.Forward.{Answers, answers_then, if_true, if_false, sees_it, is_of, not_both, at_then, word_then, eaten_then, uneaten_then, identifier_it, Shorter, is_shorter, at_shorter, Complete, at_least_one_it, optional_it, listed_it, listed_shorter}
use Rattle.rv_grammar.proofs.ExpressionComplete.{ends_at, expression_shorter}
use Rattle.rv_grammar.proofs.DeclarationComplete.{Unseen, Anything, starts_is, by_kind_it, any_it, maybe_identifier_it, parameters_it}
use Rattle.rv_grammar.proofs.StatementComplete.{AfterBounds, choice_it, choice_shorter, iteration_it, loop_place, guard_it, guard_shorter, simple_it, null_it, assignment_it, call_it, exit_it, return_it, raise_it, delay_it, abort_it, requeue_it, loop_word, begun, first_word, statement_starts, statement_not, statement_shorter, sequence_shorter, selective_shorter}

-- LISTS OF PARTS

unfoldable pub statements_list : t.Statements → List t.Statement
statements_list t.no_statements = []
statements_list (t.and_statement s ss) = s ∷ statements_list ss

pub statements_of_list : (ss : t.Statements) → t.statements_of (statements_list ss) ≡ ss
unfolding statements_list
statements_of_list t.no_statements = refl
statements_of_list (t.and_statement s ss) = ap (t.and_statement s) (statements_of_list ss)

elsif_of : (at : ℕ) → e.Expression → t.Statements → t.ElsifPart
elsif_of at c ss = record { at = at; condition = c; statements = ss }

elsif_list : t.ElsifParts → List t.ElsifPart
elsif_list t.no_elsif_parts = []
elsif_list (t.and_elsif_part at c ss ps) = elsif_of at c ss ∷ elsif_list ps

elsif_of_list : (ps : t.ElsifParts) → t.elsif_parts_of (elsif_list ps) ≡ ps
unfolding elsif_list elsif_of
elsif_of_list t.no_elsif_parts = refl
elsif_of_list (t.and_elsif_part at c ss ps) = ap (t.and_elsif_part at c ss) (elsif_of_list ps)

alternative_of : (at : ℕ) → List t.Choice → t.Statements → t.CaseAlternative
alternative_of at cs ss = record { at = at; choices = cs; statements = ss }

alternatives_list : t.Alternatives → List t.CaseAlternative
alternatives_list t.no_alternatives = []
alternatives_list (t.and_alternative at cs ss more) = alternative_of at cs ss ∷ alternatives_list more

alternatives_of_list : (xs : t.Alternatives) → t.alternatives_of (alternatives_list xs) ≡ xs
unfolding alternatives_list alternative_of
alternatives_of_list t.no_alternatives = refl
alternatives_of_list (t.and_alternative at cs ss more) = ap (t.and_alternative at cs ss) (alternatives_of_list more)

selectives_list : t.Selectives → List t.Selective
selectives_list t.no_selectives = []
selectives_list (t.and_selective x xs) = x ∷ selectives_list xs

selectives_of_list : (xs : t.Selectives) → t.selectives_of (selectives_list xs) ≡ xs
unfolding selectives_list
selectives_of_list t.no_selectives = refl
selectives_of_list (t.and_selective x xs) = ap (t.and_selective x) (selectives_of_list xs)

-- no statement begins here
abbrev pub NoStatement : List Lexeme → Type 0
NoStatement ts = sees_statement ts ≡ false

pub no_statement : (what : Kind) (ts a : List Lexeme) → Is what ts a → begins_statement what ≡ false → NoStatement ts
no_statement what ts a h none = starts_is begins_statement what ts a h ∙ none

-- statements begin with none of the words that may come after them
sequence_not : (what : Kind) (ss : t.Statements) (ts rest : List Lexeme) → begins_statement what ≡ false → AreStatements ss ts rest → Unseen what ts
sequence_not what t.no_statements ts rest none h = absurd h
sequence_not what (t.and_statement s ss) ts rest none h = statement_not what s ts h.0 none h.1

-- WHAT COMES BEHIND STATEMENTS

behind_else : (what : Kind) (es : t.Statements) (ts rest a : List Lexeme) → same_kind k.Else what ≡ false → same_kind k.End what ≡ false → IsElse es ts rest → Is k.End rest a → Unseen what ts
behind_else what t.no_statements ts rest a x y h g = ap (λ us. sees what us) h ∙ not_both k.End what rest a g y
behind_else what (t.and_statement s ss) ts rest a x y h g = not_both k.Else what ts h.0 h.1 x

behind_sequence : (es : t.Statements) (ts rest a : List Lexeme) → IsElse es ts rest → Is k.End rest a → NoStatement ts
behind_sequence t.no_statements ts rest a h g = ap (λ us. sees_statement us) h ∙ no_statement k.End rest a g refl
behind_sequence (t.and_statement s ss) ts rest a h g = no_statement k.Else ts h.0 h.1 refl

behind_part : (ps : t.ElsifParts) (es : t.Statements) (ts mid rest a : List Lexeme) → AreElsifParts ps ts mid → IsElse es mid rest → Is k.End rest a → NoStatement ts
behind_part t.no_elsif_parts es ts mid rest a p h g = ap (λ us. sees_statement us) p ∙ behind_sequence es mid rest a h g
behind_part (t.and_elsif_part at c ss ps) es ts mid rest a p h g = no_statement k.Elsif ts p.0 (is_of k.Elsif at ts p.0 p.1) refl

behind_alternative : (xs : t.Alternatives) (ts rest a : List Lexeme) → AreAlternatives xs ts rest → Is k.End rest a → NoStatement ts
behind_alternative t.no_alternatives ts rest a h g = ap (λ us. sees_statement us) h ∙ no_statement k.End rest a g refl
behind_alternative (t.and_alternative at cs ss more) ts rest a h g = no_statement k.When ts h.0 (is_of k.When at ts h.0 h.1) refl

behind_abort : (ss : t.Statements) (ts rest a : List Lexeme) → IsThenAbort ss ts rest → Is k.End rest a → NoStatement ts × Unseen k.Or ts × Unseen k.Else ts
unfolding same_kind
behind_abort t.no_statements ts rest a h g = (ap (λ us. sees_statement us) h ∙ no_statement k.End rest a g refl, ap (λ us. sees k.Or us) h ∙ not_both k.End k.Or rest a g refl, ap (λ us. sees k.Else us) h ∙ not_both k.End k.Else rest a g refl)
behind_abort (t.and_statement s ss) ts rest a h g = (no_statement k.Then ts h.0 h.1 refl, not_both k.Then k.Or ts h.0 h.1 refl, not_both k.Then k.Else ts h.0 h.1 refl)

behind_selectives : (es ss : t.Statements) (ts mid rest a : List Lexeme) → IsElse es ts mid → IsThenAbort ss mid rest → Is k.End rest a → NoStatement ts × Unseen k.Or ts
unfolding same_kind
behind_selectives t.no_statements ss ts mid rest a h i g = let b = behind_abort ss mid rest a i g in (ap (λ us. sees_statement us) h ∙ b.0, ap (λ us. sees k.Or us) h ∙ b.1)
behind_selectives (t.and_statement s es) ss ts mid rest a h i g = (no_statement k.Else ts h.0 h.1 refl, not_both k.Else k.Or ts h.0 h.1 refl)

more_selectives : (xs : t.Selectives) (ts rest : List Lexeme) → MoreSelectives xs ts rest → NoStatement rest → NoStatement ts
more_selectives t.no_selectives ts rest h g = ap (λ us. sees_statement us) h ∙ g
more_selectives (t.and_selective x xs) ts rest h g = no_statement k.Or ts h.0 h.1 refl

behind_entry : (ss : t.Statements) (o : Option Identifier) (ts rest a : List Lexeme) → IsAcceptBody ss o ts rest → Is k.Semicolon rest a → Unseen k.LeftParenthesis ts
unfolding same_kind
behind_entry t.no_statements None ts rest a h g = ap (λ us. sees k.LeftParenthesis us) h ∙ not_both k.Semicolon k.LeftParenthesis rest a g refl
behind_entry t.no_statements (Some i) ts rest a h g = absurd h
behind_entry (t.and_statement s ss) o ts rest a h g = not_both k.Do k.LeftParenthesis ts h.0 h.1 refl

-- THE RULES

end_it : {B : Type 0} (word : Kind) (y : B) (ts rest : List Lexeme) → (Is k.End ⨾ Is word ⨾ Is k.Semicolon) ts rest → Answers (and_then (expect k.End ts) (λ _. λ i. and_then (expect word i) (λ _. λ j. and_then (expect k.Semicolon j) (λ _. pure y)))) y rest
end_it word y ts rest h = word_then k.End ts h.0 _ _ _ h.1 (word_then word h.0 h.2.0 _ _ _ h.2.1 (word_then k.Semicolon h.2.0 rest _ _ _ h.2.2 refl))

one_shorter : (at : ℕ) (cs : List t.Choice) (ss : t.Statements) (old new : List Lexeme) → (IsAt k.When at ⨾ Listed k.Bar IsChoice cs ⨾ Is k.Arrow ⨾ AreStatements ss) old new → Shorter old new
one_shorter at cs ss old new h = omega (arith, at_shorter _ _ old h.0 h.1, listed_shorter IsChoice choice_shorter k.Bar cs h.0 h.2.0 h.2.1, is_shorter _ h.2.0 h.2.2.0 h.2.2.1, sequence_shorter ss h.2.2.0 new h.2.2.2)

module _ (inner : Parser t.Statement) (inner_it : Complete IsStatement inner Anything) where
  each_of : (ss : t.Statements) (ts rest : List Lexeme) → MoreStatements ss ts rest → Each IsStatement (statements_list ss) ts rest
  unfolding statements_list
  each_of t.no_statements ts rest h = h
  each_of (t.and_statement s ss) ts rest h = (h.0, h.1, each_of ss h.0 rest h.2)

  pub sequence_it : (ss : t.Statements) (ts rest : List Lexeme) → AreStatements ss ts rest → NoStatement rest → Answers (statements inner ts) (statements_list ss) rest
  unfolding statements statements_list
  sequence_it t.no_statements ts rest h ends = absurd h
  sequence_it (t.and_statement s ss) ts rest h ends =
      at_least_one_it IsStatement inner Anything inner_it statement_shorter sees_statement statement_starts (λ a us vs g. tt) (s ∷ statements_list ss) ts rest (h.0, h.1, each_of ss h.0 rest h.2) ends tt

  else_it : (es : t.Statements) (ts rest : List Lexeme) → IsElse es ts rest → NoStatement rest → Unseen k.Else rest → Answers (statements_after inner k.Else ts) (statements_list es) rest
  unfolding statements_after statements_list
  else_it t.no_statements ts rest h ends unseen = uneaten_then k.Else ts _ _ _ _ (ap (λ us. sees k.Else us) h ∙ unseen) (ap (λ us. ([], us)) h)
  else_it (t.and_statement s ss) ts rest h ends unseen = eaten_then k.Else ts h.0 _ _ _ _ h.1 (sequence_it (t.and_statement s ss) h.0 rest h.2 ends)

  elsif_it : (at : ℕ) (c : e.Expression) (ss : t.Statements) (ts rest : List Lexeme) → (IsAt k.Elsif at ⨾ IsExpression c ⨾ Is k.Then ⨾ AreStatements ss) ts rest → NoStatement rest → Answers (elsif_part inner ts) (elsif_of at c ss) rest
  unfolding elsif_part elsif_of
  elsif_it at c ss ts rest h ends =
      at_then k.Elsif at ts h.0 _ _ _ h.1
      (answers_then (any_expression h.0) _ c h.2.0 _ _ (any_it c h.0 h.2.0 h.2.1 (ends_at 6 k.Then h.2.0 h.2.2.0 h.2.2.1 (omega arith)))
      (word_then k.Then h.2.0 h.2.2.0 _ _ _ h.2.2.1
      (answers_then (statements inner h.2.2.0) _ (statements_list ss) rest _ _ (sequence_it ss h.2.2.0 rest h.2.2.2 ends) (ap (λ l. (elsif_of at c l, rest)) (statements_of_list ss)))))

  elsif_from_it : (ps : t.ElsifParts) (es : t.Statements) (n : ℕ) (found : List t.ElsifPart) (ts mid rest a : List Lexeme) → length ts ≤ n → AreElsifParts ps ts mid → IsElse es mid rest → Is k.End rest a → Answers (many_from (sees k.Elsif) (elsif_part inner) n found ts) (found ++ elsif_list ps) mid
  unfolding many_from elsif_list same_kind
  elsif_from_it t.no_elsif_parts es zero found ts mid rest a enough h i g = rw (append-nil found) (ap (λ us. (found, us)) h)
  elsif_from_it t.no_elsif_parts es (suc n) found ts mid rest a enough h i g =
      if_false (sees k.Elsif ts) _ _ _ _ (ap (λ us. sees k.Elsif us) h ∙ behind_else k.Elsif es mid rest a refl refl i g) (rw (append-nil found) (ap (λ us. (found, us)) h))
  elsif_from_it (t.and_elsif_part at c ss ps) es zero found ts mid rest a enough h i g = absurd (omega (arith, at_shorter _ _ ts h.0 h.1))
  elsif_from_it (t.and_elsif_part at c ss ps) es (suc n) found ts mid rest a enough h i g =
      let d = h.2.2.2 in
      let ends = behind_part ps es d.0 mid rest a d.2 i g in
      if_true (sees k.Elsif ts) _ _ _ _ (sees_it k.Elsif ts h.0 (is_of k.Elsif at ts h.0 h.1))
      (answers_then (elsif_part inner ts) _ (elsif_of at c ss) d.0 _ _ (elsif_it at c ss ts d.0 (h.0, h.1, (h.2.0, h.2.1, (h.2.2.0, h.2.2.1, d.1))) ends)
      (subst (λ l. Answers (many_from (sees k.Elsif) (elsif_part inner) n (found ++ elsif_of at c ss ∷ []) d.0) l mid) (append_assoc found (elsif_of at c ss ∷ []) (elsif_list ps))
      (elsif_from_it ps es n (found ++ elsif_of at c ss ∷ []) d.0 mid rest a (omega (arith, at_shorter _ _ ts h.0 h.1, expression_shorter c h.0 h.2.0 h.2.1, is_shorter _ h.2.0 h.2.2.0 h.2.2.1, sequence_shorter ss h.2.2.0 d.0 d.1)) d.2 i g)))

  if_it : (at : ℕ) (c : e.Expression) (ss : t.Statements) (ps : t.ElsifParts) (es : t.Statements) (ts rest : List Lexeme) → IsStatement (t.if_statement at c ss ps es) ts rest → Answers (if_statement inner ts) (t.if_statement at c ss ps es) rest
  unfolding if_statement elsif_parts many more_of same_kind
  if_it at c ss ps es ts rest h =
      let d = h.2.2.2 in
      let f = d.2.2 in
      let end = f.2 in
      at_then k.If at ts h.0 _ _ _ h.1
      (answers_then (any_expression h.0) _ c h.2.0 _ _ (any_it c h.0 h.2.0 h.2.1 (ends_at 6 k.Then h.2.0 h.2.2.0 h.2.2.1 (omega arith)))
      (word_then k.Then h.2.0 h.2.2.0 _ _ _ h.2.2.1
      (answers_then (statements inner h.2.2.0) _ (statements_list ss) d.0 _ _ (sequence_it ss h.2.2.0 d.0 d.1 (behind_part ps es d.0 d.2.0 f.0 end.0 d.2.1 f.1 end.1))
      (answers_then (many_from (sees k.Elsif) (elsif_part inner) (length d.0) [] d.0) _ (elsif_list ps) d.2.0 _ _ (elsif_from_it ps es (length d.0) [] d.0 d.2.0 f.0 end.0 (omega arith) d.2.1 f.1 end.1)
      (answers_then (statements_after inner k.Else d.2.0) _ (statements_list es) f.0 _ _ (else_it es d.2.0 f.0 f.1 (no_statement k.End f.0 end.0 end.1 refl) (not_both k.End k.Else f.0 end.0 end.1 refl))
      (rw (statements_of_list ss, elsif_of_list ps, statements_of_list es) (end_it k.If (t.if_statement at c ss ps es) f.0 rest end)))))))

  alternative_it : (at : ℕ) (cs : List t.Choice) (ss : t.Statements) (ts rest : List Lexeme) → (IsAt k.When at ⨾ Listed k.Bar IsChoice cs ⨾ Is k.Arrow ⨾ AreStatements ss) ts rest → NoStatement rest → Answers (alternative inner ts) (alternative_of at cs ss) rest
  unfolding alternative alternative_of same_kind
  alternative_it at cs ss ts rest h ends =
      let arrow = h.2.2.1 in
      at_then k.When at ts h.0 _ _ _ h.1
      (answers_then (listed k.Bar choice h.0) _ cs h.2.0 _ _
      (listed_it IsChoice choice AfterBounds choice_it choice_shorter k.Bar (λ us vs g. (ends_at 6 k.Bar us vs g (omega arith), not_both k.Bar k.DoubleDot us vs g refl)) cs h.0 h.2.0 h.2.1 (not_both k.Arrow k.Bar h.2.0 h.2.2.0 arrow refl) (ends_at 6 k.Arrow h.2.0 h.2.2.0 arrow (omega arith), not_both k.Arrow k.DoubleDot h.2.0 h.2.2.0 arrow refl))
      (word_then k.Arrow h.2.0 h.2.2.0 _ _ _ arrow
      (answers_then (statements inner h.2.2.0) _ (statements_list ss) rest _ _ (sequence_it ss h.2.2.0 rest h.2.2.2 ends) (ap (λ l. (alternative_of at cs l, rest)) (statements_of_list ss)))))

  alternatives_from_it : (xs : t.Alternatives) (n : ℕ) (found : List t.CaseAlternative) (ts rest a : List Lexeme) → length ts ≤ n → AreAlternatives xs ts rest → Is k.End rest a → Answers (many_from (sees k.When) (alternative inner) n found ts) (found ++ alternatives_list xs) rest
  unfolding many_from alternatives_list same_kind
  alternatives_from_it t.no_alternatives zero found ts rest a enough h g = rw (append-nil found) (ap (λ us. (found, us)) h)
  alternatives_from_it t.no_alternatives (suc n) found ts rest a enough h g =
      if_false (sees k.When ts) _ _ _ _ (ap (λ us. sees k.When us) h ∙ not_both k.End k.When rest a g refl) (rw (append-nil found) (ap (λ us. (found, us)) h))
  alternatives_from_it (t.and_alternative at cs ss more) zero found ts rest a enough h g = absurd (omega (arith, at_shorter _ _ ts h.0 h.1))
  alternatives_from_it (t.and_alternative at cs ss more) (suc n) found ts rest a enough h g =
      let d = h.2.2.2 in
      let one : (IsAt k.When at ⨾ Listed k.Bar IsChoice cs ⨾ Is k.Arrow ⨾ AreStatements ss) ts d.0 = (h.0, h.1, (h.2.0, h.2.1, (h.2.2.0, h.2.2.1, d.1))) in
      if_true (sees k.When ts) _ _ _ _ (sees_it k.When ts h.0 (is_of k.When at ts h.0 h.1))
      (answers_then (alternative inner ts) _ (alternative_of at cs ss) d.0 _ _ (alternative_it at cs ss ts d.0 one (behind_alternative more d.0 rest a d.2 g))
      (subst (λ l. Answers (many_from (sees k.When) (alternative inner) n (found ++ alternative_of at cs ss ∷ []) d.0) l rest) (append_assoc found (alternative_of at cs ss ∷ []) (alternatives_list more))
      (alternatives_from_it more n (found ++ alternative_of at cs ss ∷ []) d.0 rest a (omega (arith, one_shorter at cs ss ts d.0 one)) d.2 g)))

  case_it : (at : ℕ) (x : e.Expression) (xs : t.Alternatives) (ts rest : List Lexeme) → IsStatement (t.case_statement at x xs) ts rest → Answers (case_statement inner ts) (t.case_statement at x xs) rest
  unfolding case_statement alternatives many more_of
  case_it at x xs ts rest h =
      let d = h.2.2.2 in
      at_then k.Case at ts h.0 _ _ _ h.1
      (answers_then (any_expression h.0) _ x h.2.0 _ _ (any_it x h.0 h.2.0 h.2.1 (ends_at 6 k.Is h.2.0 h.2.2.0 h.2.2.1 (omega arith)))
      (word_then k.Is h.2.0 h.2.2.0 _ _ _ h.2.2.1
      (answers_then (many_from (sees k.When) (alternative inner) (length h.2.2.0) [] h.2.2.0) _ (alternatives_list xs) d.0 _ _ (alternatives_from_it xs (length h.2.2.0) [] h.2.2.0 d.0 d.2.0 (omega arith) d.1 d.2.1)
      (rw (alternatives_of_list xs) (end_it k.Case (t.case_statement at x xs) d.0 rest d.2)))))

  loop_it : (at : ℕ) (i : t.Iteration) (ss : t.Statements) (ts rest : List Lexeme) → IsStatement (t.loop_statement at i ss) ts rest → Answers (loop_statement inner ts) (t.loop_statement at i ss) rest
  unfolding loop_statement
  loop_it at i ss ts rest h =
      rw (loop_place at i ts h.0 h.1)
      (answers_then (iteration ts) _ i h.0 _ _ (iteration_it at i ts h.0 h.1)
      (answers_then (statements inner h.0) _ (statements_list ss) h.2.0 _ _ (sequence_it ss h.0 h.2.0 h.2.1 (no_statement k.End h.2.0 h.2.2.0 h.2.2.1 refl))
      (rw (statements_of_list ss) (end_it k.Loop (t.loop_statement at i ss) h.2.0 rest h.2.2))))

  accept_body_it : (ss : t.Statements) (o : Option Identifier) (ts rest a : List Lexeme) → IsAcceptBody ss o ts rest → Is k.Semicolon rest a → Answers (accept_body inner ts) (statements_list ss, o) rest
  unfolding accept_body statements_list same_kind
  accept_body_it t.no_statements None ts rest a h g = uneaten_then k.Do ts _ _ _ _ (ap (λ us. sees k.Do us) h ∙ not_both k.Semicolon k.Do rest a g refl) (ap (λ us. (([], None), us)) h)
  accept_body_it t.no_statements (Some i) ts rest a h g = absurd h
  accept_body_it (t.and_statement s ss) o ts rest a h g =
      let d = h.2.2.2 in
      eaten_then k.Do ts h.0 _ _ _ _ h.1
      (answers_then (statements inner h.0) _ (s ∷ statements_list ss) h.2.2.0 _ _ (sequence_it (t.and_statement s ss) h.0 h.2.2.0 (h.2.0, h.2.1, h.2.2.1) (no_statement k.End h.2.2.0 d.0 d.1 refl))
      (word_then k.End h.2.2.0 d.0 _ _ _ d.1
      (answers_then (optional (sees k.Identifier) identifier d.0) _ o rest _ _ (maybe_identifier_it o d.0 rest d.2 (not_both k.Semicolon k.Identifier rest a g refl)) refl)))

  accept_it : (at : ℕ) (i : Identifier) (ps : List Parameter) (ss : t.Statements) (o : Option Identifier) (ts rest : List Lexeme) → IsStatement (t.accept_statement at i ps ss o) ts rest → Answers (accept_statement inner ts) (t.accept_statement at i ps ss o) rest
  unfolding accept_statement
  accept_it at i ps ss o ts rest h =
      let d = h.2.2.2 in
      at_then k.Accept at ts h.0 _ _ _ h.1
      (answers_then (identifier h.0) _ i h.2.0 _ _ (identifier_it i h.0 h.2.0 h.2.1)
      (answers_then (parameters h.2.0) _ ps h.2.2.0 _ _ (parameters_it ps h.2.0 h.2.2.0 h.2.2.1 (behind_entry ss o h.2.2.0 d.0 rest d.1 d.2))
      (answers_then (accept_body inner h.2.2.0) _ (statements_list ss, o) d.0 _ _ (accept_body_it ss o h.2.2.0 d.0 rest d.1 d.2)
      (word_then k.Semicolon d.0 rest _ _ _ d.2 (ap (λ l. (t.accept_statement at i ps l o, rest)) (statements_of_list ss))))))

  guards_it : (o : Option t.Guard) (ts rest : List Lexeme) → Maybe IsGuard o ts rest → Unseen k.When rest → Answers (optional (sees k.When) guard ts) o rest
  guards_it o ts rest h ends = optional_it IsGuard guard Anything guard_it guard_shorter (sees k.When) (λ g us vs x. sees_it k.When us x.0 (is_of k.When g.at us x.0 x.1)) (λ _ _ _ _. tt) o ts rest h ends tt

  selective_it : (x : t.Selective) (ts rest : List Lexeme) → IsSelective x ts rest → NoStatement rest → Answers (selective inner ts) x rest
  unfolding selective same_kind
  selective_it (t.some_statements g ss) ts rest h ends =
      answers_then (optional (sees k.When) guard ts) _ g h.0 _ _ (guards_it g ts h.0 h.1 (sequence_not k.When ss h.0 rest refl h.2))
      (if_false (sees k.Terminate h.0) _ _ _ _ (sequence_not k.Terminate ss h.0 rest refl h.2)
      (answers_then (statements inner h.0) _ (statements_list ss) rest _ _ (sequence_it ss h.0 rest h.2 ends) (ap (λ l. (t.some_statements g l, rest)) (statements_of_list ss))))
  selective_it (t.terminate g at) ts rest h ends =
      let w = is_of k.Terminate at h.0 h.2.0 h.2.1 in
      answers_then (optional (sees k.When) guard ts) _ g h.0 _ _ (guards_it g ts h.0 h.1 (not_both k.Terminate k.When h.0 h.2.0 w refl))
      (if_true (sees k.Terminate h.0) _ _ _ _ (sees_it k.Terminate h.0 h.2.0 w)
      (at_then k.Terminate at h.0 h.2.0 _ _ _ h.2.1 (word_then k.Semicolon h.2.0 rest _ _ _ h.2.2 refl)))

  selectives_from_it : (x : t.Selective) (xs : t.Selectives) (n : ℕ) (found : List t.Selective) (ts mid rest : List Lexeme) → length ts ≤ n → IsSelective x ts mid → MoreSelectives xs mid rest → NoStatement rest → Unseen k.Or rest → Answers (selectives_from inner n found ts) (found ++ x ∷ selectives_list xs) rest
  unfolding selectives_from selectives_list
  selectives_from_it x xs zero found ts mid rest enough h m ends unseen = absurd (omega (arith, selective_shorter x ts mid h))
  selectives_from_it x t.no_selectives (suc n) found ts mid rest enough h m ends unseen =
      answers_then (selective inner ts) _ x mid _ _ (selective_it x ts mid h (more_selectives t.no_selectives mid rest m ends))
      (uneaten_then k.Or mid _ _ _ _ (ap (λ us. sees k.Or us) m ∙ unseen) (ap (λ us. (found ++ x ∷ [], us)) m))
  selectives_from_it x (t.and_selective y ys) (suc n) found ts mid rest enough h m ends unseen =
      answers_then (selective inner ts) _ x mid _ _ (selective_it x ts mid h (more_selectives (t.and_selective y ys) mid rest m ends))
      (eaten_then k.Or mid m.0 _ _ _ _ m.1
      (subst (λ l. Answers (selectives_from inner n (found ++ x ∷ []) m.0) l rest) (append_assoc found (x ∷ []) (y ∷ selectives_list ys))
      (selectives_from_it y ys n (found ++ x ∷ []) m.0 m.2.0 rest (omega (arith, selective_shorter x ts mid h, is_shorter _ mid m.0 m.1)) m.2.1 m.2.2 ends unseen)))

  selectives_it : (xs : t.Selectives) (ts rest : List Lexeme) → AreSelectives xs ts rest → NoStatement rest → Unseen k.Or rest → Answers (selectives inner ts) (selectives_list xs) rest
  unfolding selectives selectives_list
  selectives_it t.no_selectives ts rest h ends unseen = absurd h
  selectives_it (t.and_selective x xs) ts rest h ends unseen = selectives_from_it x xs (length ts) [] ts h.0 rest (omega arith) h.1 h.2 ends unseen

  then_abort_it : (ss : t.Statements) (ts rest a : List Lexeme) → IsThenAbort ss ts rest → Is k.End rest a → Answers (then_abort inner ts) (statements_list ss) rest
  unfolding then_abort statements_list same_kind
  then_abort_it t.no_statements ts rest a h g = uneaten_then k.Then ts _ _ _ _ (ap (λ us. sees k.Then us) h ∙ not_both k.End k.Then rest a g refl) (ap (λ us. ([], us)) h)
  then_abort_it (t.and_statement s ss) ts rest a h g =
      eaten_then k.Then ts h.0 _ _ _ _ h.1 (word_then k.Abort h.0 h.2.0 _ _ _ h.2.1 (sequence_it (t.and_statement s ss) h.2.0 rest h.2.2 (no_statement k.End rest a g refl)))

  select_it : (at : ℕ) (xs : t.Selectives) (es ss : t.Statements) (ts rest : List Lexeme) → IsStatement (t.select_statement at xs es ss) ts rest → Answers (select_statement inner ts) (t.select_statement at xs es ss) rest
  unfolding select_statement
  select_it at xs es ss ts rest h =
      let d = h.2.2.2 in
      let b = behind_selectives es ss h.2.0 h.2.2.0 d.0 d.2.0 h.2.2.1 d.1 d.2.1 in
      let c = behind_abort ss h.2.2.0 d.0 d.2.0 d.1 d.2.1 in
      at_then k.Select at ts h.0 _ _ _ h.1
      (answers_then (selectives inner h.0) _ (selectives_list xs) h.2.0 _ _ (selectives_it xs h.0 h.2.0 h.2.1 b.0 b.1)
      (answers_then (statements_after inner k.Else h.2.0) _ (statements_list es) h.2.2.0 _ _ (else_it es h.2.0 h.2.2.0 h.2.2.1 c.0 c.2)
      (answers_then (then_abort inner h.2.2.0) _ (statements_list ss) d.0 _ _ (then_abort_it ss h.2.2.0 d.0 d.2.0 d.1 d.2.1)
      (rw (selectives_of_list xs, statements_of_list es, statements_of_list ss) (end_it k.Select (t.select_statement at xs es ss) d.0 rest d.2)))))

  loop_any : (at : ℕ) (i : t.Iteration) (ss : t.Statements) (ts rest : List Lexeme) → IsStatement (t.loop_statement at i ss) ts rest → Answers (statement_by inner (loop_word i) ts) (t.loop_statement at i ss) rest
  unfolding loop_word
  loop_any at t.forever ss ts rest h = loop_it at t.forever ss ts rest h
  loop_any at (t.while_true x) ss ts rest h = loop_it at (t.while_true x) ss ts rest h
  loop_any at (t.for_each i r b) ss ts rest h = loop_it at (t.for_each i r b) ss ts rest h

  any_statement_it : Complete IsStatement (any_statement inner) Anything
  unfolding any_statement first_word
  any_statement_it s ts rest h _ = let b = begun s ts rest h in by_kind_it (statement_by inner) (first_word s) ts b.0 _ _ b.1 (by_form s h)
    where
      by_form : (s : t.Statement) → IsStatement s ts rest → Answers (statement_by inner (first_word s) ts) s rest
      by_form (t.null_statement at) h = simple_it _ k.Null ts h.0 rest (is_of k.Null at ts h.0 h.1) (null_it at ts rest h)
      by_form (t.assignment n x) h = simple_it _ k.Identifier ts h.1.0 rest (h.1.1.0, h.1.1.1, h.1.1.2) (assignment_it n x ts rest h)
      by_form (t.call_statement n es) h = simple_it _ k.Identifier ts h.1.0 rest (h.1.1.0, h.1.1.1, h.1.1.2) (call_it n es ts rest h)
      by_form (t.if_statement at c ss ps es) h = if_it at c ss ps es ts rest h
      by_form (t.case_statement at x xs) h = case_it at x xs ts rest h
      by_form (t.loop_statement at i ss) h = loop_any at i ss ts rest h
      by_form (t.exit_statement at o) h = simple_it _ k.Exit ts h.0 rest (is_of k.Exit at ts h.0 h.1) (exit_it at o ts rest h)
      by_form (t.return_statement at o) h = simple_it _ k.Return ts h.0 rest (is_of k.Return at ts h.0 h.1) (return_it at o ts rest h)
      by_form (t.raise_statement at o) h = simple_it _ k.Raise ts h.0 rest (is_of k.Raise at ts h.0 h.1) (raise_it at o ts rest h)
      by_form (t.delay_statement at b x) h = simple_it _ k.Delay ts h.0 rest (is_of k.Delay at ts h.0 h.1) (delay_it at b x ts rest h)
      by_form (t.abort_statement at xs) h = simple_it _ k.Abort ts h.0 rest (is_of k.Abort at ts h.0 h.1) (abort_it at xs ts rest h)
      by_form (t.requeue_statement at n b) h = simple_it _ k.Requeue ts h.0 rest (is_of k.Requeue at ts h.0 h.1) (requeue_it at n b ts rest h)
      by_form (t.accept_statement at i ps ss o) h = accept_it at i ps ss o ts rest h
      by_form (t.select_statement at xs es ss) h = select_it at xs es ss ts rest h

pub statement_it : (n : ℕ) → Complete IsStatement (statement n) Anything
unfolding statement
statement_it zero s ts rest h _ = if_true (sees_statement ts) _ _ _ _ (statement_starts s ts rest h) tt
statement_it (suc n) s ts rest h _ = any_statement_it (statement n) (statement_it n) s ts rest h tt
