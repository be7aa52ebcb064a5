-- A statement is refused as too deep only where its words nest too deep.
use Rattle.std.proofs.Common.{◌≡◌, inl, inr, ℕ, zero, suc, Bool, List, [], ◌∷◌, ◌++◌, length, Option, Ok, Err, refl}
use Rattle.rv_lex.specs.declared.kind.Kind.{Kind}
use Rattle.rv_lex.specs.declared.kind.Kind.TheVariants as k
use Rattle.rv_lex.specs.Lexes.{Lexeme}
use Rattle.rv_tree.specs.Phrases.{Phrase, ◌⨾◌, Is, Nothing, Maybe, Listed}
use Rattle.rv_tree.specs.Expressions as e
use Rattle.rv_tree.specs.ExpressionGrammar.{IsExpression}
use Rattle.rv_tree.specs.Statements as t
use Rattle.rv_tree.specs.StatementGrammar.{IsChoice, IsGuard, IsStatement, MoreStatements, AreElsifParts, AreAlternatives}
use Rattle.rv_grammar.specs.Reading.{too_deep, Parser, sees, after, place, expect, many_from, more_of, many as several, at_least_one, listed, optional}
use Rattle.rv_grammar.specs.NameRules.{identifier}
use Rattle.rv_grammar.specs.DeclarationRules.{any_expression, parameters}
use Rattle.rv_grammar.specs.StatementRules.{choice, iteration, guard, simple_statement, sees_statement, statements, statements_after, elsif_part, elsif_parts, if_statement, alternative, alternatives, case_statement, loop_statement, accept_body, accept_statement, selective, selectives_from, selectives, then_abort, select_statement, statement_by, any_statement, statement}
use Rattle.rv_grammar.specs.Nesting.{Reaches, in_if, in_elsif, in_else, in_case, in_loop, in_accept, in_select, in_select_else, in_abort, EachWithOr, Nested}
use Rattle.rv_grammar.proofs.Steps.{Sound, chosen, eaten, expected, expected_at, identifier_sound, listed_sound, optional_sound}
use Rattle.rv_grammar.proofs.DeclarationSound.{any_expression_sound, parameters_sound}
use Rattle.rv_grammar.proofs.StatementSound.{choice_sound, guard_sound, iteration_sound, statements_sound, else_sound, elsif_part_sound, elsif_parts_on, elsif_parts_sound, alternative_sound, alternatives_on, selective_sound, selectives_sound, statement_sound}
use Rattle.rv_grammar.proofs.Tame.{Tame, told, expect_tame, identifier_tame, optional_tame, listed_tame}
use Rattle.rv_grammar.proofs.TameRules.{ends_on, plain, after_ends, any_expression_tame, choice_of_tame, iteration_tame, guard_tame, parameters_tame, simple_statement_tame}
use Rattle.rv_grammar.proofs.TameStatements.{free, deep_side, Deep, parens, reached, step, holding, last, here, statements_free, statements_after_free, elsif_part_free, elsif_parts_free, alternative_free, alternatives_free, accept_body_free, selective_free, selectives_free, then_abort_free, statement_free}

-- up to a statement of a list
abbrev pub InStatements : Phrase
InStatements ts j = (ss : t.Statements) × MoreStatements ss ts j

abbrev InElse : Phrase
InElse ts j = (ss : t.Statements) × (Is k.Else ⨾ MoreStatements ss) ts j

abbrev InElsifPart : Phrase
InElsifPart ts j = (other : e.Expression) × (ss : t.Statements) × (Is k.Elsif ⨾ IsExpression other ⨾ Is k.Then ⨾ MoreStatements ss) ts j

abbrev InElsifParts : Phrase
InElsifParts ts j = (parts : t.ElsifParts) × (other : e.Expression) × (ss : t.Statements) × (AreElsifParts parts ⨾ Is k.Elsif ⨾ IsExpression other ⨾ Is k.Then ⨾ MoreStatements ss) ts j

abbrev InAlternative : Phrase
InAlternative ts j = (choices : List t.Choice) × (ss : t.Statements) × (Is k.When ⨾ Listed k.Bar IsChoice choices ⨾ Is k.Arrow ⨾ MoreStatements ss) ts j

abbrev InAlternatives : Phrase
InAlternatives ts j = (before : t.Alternatives) × (choices : List t.Choice) × (ss : t.Statements) × (AreAlternatives before ⨾ Is k.When ⨾ Listed k.Bar IsChoice choices ⨾ Is k.Arrow ⨾ MoreStatements ss) ts j

abbrev InAccept : Phrase
InAccept ts j = (ss : t.Statements) × (Is k.Do ⨾ MoreStatements ss) ts j

abbrev InSelective : Phrase
InSelective ts j = (g : Option t.Guard) × (ss : t.Statements) × (Maybe IsGuard g ⨾ MoreStatements ss) ts j

abbrev InSelectives : Phrase
InSelectives ts j = (before : t.Selectives) × (g : Option t.Guard) × (ss : t.Statements) × (EachWithOr before ⨾ Maybe IsGuard g ⨾ MoreStatements ss) ts j

abbrev InAbort : Phrase
InAbort ts j = (ss : t.Statements) × (Is k.Then ⨾ Is k.Abort ⨾ MoreStatements ss) ts j

-- of several, one nests too deep
module _ {A : Type 0} (limit : ℕ) (item : Parser A) (item_free : Tame free item) (inside reach : Phrase) (deep : (ts : List Lexeme) → item ts ≡ Err too_deep → Deep limit inside ts)
    (in_first : (ts j : List Lexeme) → inside ts j → reach ts j) (in_next : (ts : List Lexeme) (a : A × List Lexeme) → item ts ≡ Ok a → (j : List Lexeme) → reach a.1 j → reach ts j) where
  many_deep : (begins : List Lexeme → Bool) (n : ℕ) (found : List A) (ts : List Lexeme) → many_from begins item n found ts ≡ Err too_deep → Deep limit reach ts
  unfolding many_from
  many_deep begins zero found ts h = absurd cc
  many_deep begins (suc n) found ts h = elim (chosen (begins ts) _ _ _ h) [
    | inl g ↦ holding limit reach ts item item_free inside deep ts (here ts) _ g.1 (in_first ts)
        (λ a ea va ha. last limit reach ts (many_from begins item n (found ++ a.0 ∷ [])) reach (many_deep begins n (found ++ a.0 ∷ [])) a.1 va ha (in_next ts a ea))
    | inr g ↦ absurd cc
  ]

module _ (many : ℕ) (inner : Parser t.Statement) (inner_sound : Sound IsStatement inner) (inner_free : Tame free inner) (inner_deep : (ts : List Lexeme) → inner ts ≡ Err too_deep → Deep many Nothing ts) where
  in_next_statement : (ts : List Lexeme) (a : t.Statement × List Lexeme) → inner ts ≡ Ok a → (j : List Lexeme) → InStatements a.1 j → InStatements ts j
  in_next_statement ts a ea j m = (t.and_statement a.0 m.0, (a.1, inner_sound ts a ea, m.1))

  pub statements_deep : (ts : List Lexeme) → statements inner ts ≡ Err too_deep → Deep many InStatements ts
  unfolding statements at_least_one more_of
  statements_deep ts h = holding many InStatements ts inner inner_free Nothing inner_deep ts (here ts) _ h (λ j m. (t.no_statements, m))
      (λ a ea va ha. last many InStatements ts (many_from sees_statement inner (length a.1) (a.0 ∷ [])) InStatements
      (many_deep many inner inner_free Nothing InStatements inner_deep (λ us j m. (t.no_statements, m)) in_next_statement sees_statement (length a.1) (a.0 ∷ []))
      a.1 va ha (in_next_statement ts a ea))

  else_deep : (ts : List Lexeme) → statements_after inner k.Else ts ≡ Err too_deep → Deep many InElse ts
  unfolding statements_after
  else_deep ts h = elim (deep_side (sees k.Else ts) _ _ _ h) [
    | inl g ↦ last many InElse ts (statements inner) InStatements statements_deep (after k.Else ts) (after_ends k.Else ts) g.1 (λ j m. (m.0, (after k.Else ts, eaten k.Else ts g.0, m.1)))
    | inr g ↦ absurd cc
  ]

  elsif_part_deep : (ts : List Lexeme) → elsif_part inner ts ≡ Err too_deep → Deep many InElsifPart ts
  unfolding elsif_part
  elsif_part_deep ts h = step many InElsifPart ts (expect k.Elsif) (expect_tame plain k.Elsif refl refl) ts (here ts) _ h (λ a ea va ha. step many InElsifPart ts any_expression any_expression_tame a.1 va _ ha (λ b eb vb hb. step many InElsifPart ts (expect k.Then) (expect_tame plain k.Then refl refl) b.1 vb _ hb (λ c ec vc hc. holding many InElsifPart ts (statements inner) (statements_free inner inner_free) InStatements statements_deep c.1 vc _ hc (λ j m. (b.0, m.0, (a.1, expected k.Elsif ts a ea, (b.1, any_expression_sound a.1 b eb, (c.1, expected k.Then b.1 c ec, m.1))))) (λ s es vs hs. absurd cc))))

  in_next_part : (ts : List Lexeme) (a : t.ElsifPart × List Lexeme) → elsif_part inner ts ≡ Ok a → (j : List Lexeme) → InElsifParts a.1 j → InElsifParts ts j
  in_next_part ts a ea j m =
      (t.and_elsif_part a.0.at a.0.condition a.0.statements m.0, m.1, m.2, (m.3.0, elsif_parts_on a.0 m.0 ts a.1 m.3.0 (elsif_part_sound inner inner_sound ts a ea) m.3.1, m.3.2))

  elsif_parts_deep : (ts : List Lexeme) → elsif_parts inner ts ≡ Err too_deep → Deep many InElsifParts ts
  unfolding elsif_parts several more_of
  elsif_parts_deep ts h = many_deep many (elsif_part inner) (elsif_part_free inner inner_free) InElsifPart InElsifParts elsif_part_deep
      (λ us j m. (t.no_elsif_parts, m.0, m.1, (us, refl, m.2))) in_next_part (sees k.Elsif) (length ts) [] ts h

  if_deep : (ts : List Lexeme) → if_statement inner ts ≡ Err too_deep → Deep many Reaches ts
  unfolding if_statement
  if_deep ts h = step many Reaches ts (expect k.If) (expect_tame plain k.If refl refl) ts (here ts) _ h (λ a ea va ha. step many Reaches ts any_expression any_expression_tame a.1 va _ ha (λ b eb vb hb. step many Reaches ts (expect k.Then) (expect_tame plain k.Then refl refl) b.1 vb _ hb (λ c ec vc hc.
      holding many Reaches ts (statements inner) (statements_free inner inner_free) InStatements statements_deep c.1 vc _ hc (λ j m. in_if a.0 b.0 m.0 (a.1, expected_at k.If ts a ea, (b.1, any_expression_sound a.1 b eb, (c.1, expected k.Then b.1 c ec, m.1)))) (λ s es vs hs.
      holding many Reaches ts (elsif_parts inner) (elsif_parts_free inner inner_free) InElsifParts elsif_parts_deep s.1 vs _ hs (λ j m. in_elsif a.0 b.0 m.1 (t.statements_of s.0) m.2 m.0 (a.1, expected_at k.If ts a ea, (b.1, any_expression_sound a.1 b eb, (c.1, expected k.Then b.1 c ec, (s.1, statements_sound inner inner_sound c.1 s es, m.3))))) (λ p ep vp hp.
      holding many Reaches ts (statements_after inner k.Else) (statements_after_free inner inner_free k.Else refl refl) InElse else_deep p.1 vp _ hp (λ j m. in_else a.0 b.0 (t.statements_of s.0) m.0 (t.elsif_parts_of p.0) (a.1, expected_at k.If ts a ea, (b.1, any_expression_sound a.1 b eb, (c.1, expected k.Then b.1 c ec, (s.1, statements_sound inner inner_sound c.1 s es, (p.1, elsif_parts_sound inner inner_sound s.1 p ep, m.1)))))) (λ o eo vo ho.
      step many Reaches ts (expect k.End) (expect_tame plain k.End refl refl) o.1 vo _ ho (λ x ex vx hx. step many Reaches ts (expect k.If) (expect_tame plain k.If refl refl) x.1 vx _ hx (λ y ey vy hy. step many Reaches ts (expect k.Semicolon) (expect_tame plain k.Semicolon refl refl) y.1 vy _ hy (λ z ez vz hz. absurd cc)))))))))

  alternative_deep : (ts : List Lexeme) → alternative inner ts ≡ Err too_deep → Deep many InAlternative ts
  unfolding alternative
  alternative_deep ts h = step many InAlternative ts (expect k.When) (expect_tame plain k.When refl refl) ts (here ts) _ h (λ a ea va ha. step many InAlternative ts (listed k.Bar choice) (listed_tame plain choice choice_of_tame k.Bar refl refl) a.1 va _ ha (λ b eb vb hb. step many InAlternative ts (expect k.Arrow) (expect_tame plain k.Arrow refl refl) b.1 vb _ hb (λ c ec vc hc. holding many InAlternative ts (statements inner) (statements_free inner inner_free) InStatements statements_deep c.1 vc _ hc (λ j m. (b.0, m.0, (a.1, expected k.When ts a ea, (b.1, listed_sound IsChoice choice choice_sound k.Bar a.1 b eb, (c.1, expected k.Arrow b.1 c ec, m.1))))) (λ s es vs hs. absurd cc))))

  in_next_alternative : (ts : List Lexeme) (a : t.CaseAlternative × List Lexeme) → alternative inner ts ≡ Ok a → (j : List Lexeme) → InAlternatives a.1 j → InAlternatives ts j
  in_next_alternative ts a ea j m =
      (t.and_alternative a.0.at a.0.choices a.0.statements m.0, m.1, m.2, (m.3.0, alternatives_on a.0 m.0 ts a.1 m.3.0 (alternative_sound inner inner_sound ts a ea) m.3.1, m.3.2))

  alternatives_deep : (ts : List Lexeme) → alternatives inner ts ≡ Err too_deep → Deep many InAlternatives ts
  unfolding alternatives several more_of
  alternatives_deep ts h = many_deep many (alternative inner) (alternative_free inner inner_free) InAlternative InAlternatives alternative_deep
      (λ us j m. (t.no_alternatives, m.0, m.1, (us, refl, m.2))) in_next_alternative (sees k.When) (length ts) [] ts h

  case_deep : (ts : List Lexeme) → case_statement inner ts ≡ Err too_deep → Deep many Reaches ts
  unfolding case_statement
  case_deep ts h = step many Reaches ts (expect k.Case) (expect_tame plain k.Case refl refl) ts (here ts) _ h (λ a ea va ha. step many Reaches ts any_expression any_expression_tame a.1 va _ ha (λ b eb vb hb. step many Reaches ts (expect k.Is) (expect_tame plain k.Is refl refl) b.1 vb _ hb (λ c ec vc hc.
      holding many Reaches ts (alternatives inner) (alternatives_free inner inner_free) InAlternatives alternatives_deep c.1 vc _ hc (λ j m. in_case a.0 b.0 m.0 m.1 m.2 (a.1, expected_at k.Case ts a ea, (b.1, any_expression_sound a.1 b eb, (c.1, expected k.Is b.1 c ec, m.3)))) (λ s es vs hs.
      step many Reaches ts (expect k.End) (expect_tame plain k.End refl refl) s.1 vs _ hs (λ x ex vx hx. step many Reaches ts (expect k.Case) (expect_tame plain k.Case refl refl) x.1 vx _ hx (λ y ey vy hy. step many Reaches ts (expect k.Semicolon) (expect_tame plain k.Semicolon refl refl) y.1 vy _ hy (λ z ez vz hz. absurd cc)))))))

  loop_deep : (ts : List Lexeme) → loop_statement inner ts ≡ Err too_deep → Deep many Reaches ts
  unfolding loop_statement
  loop_deep ts h = step many Reaches ts iteration iteration_tame ts (here ts) _ h (λ a ea va ha.
      holding many Reaches ts (statements inner) (statements_free inner inner_free) InStatements statements_deep a.1 va _ ha (λ j m. in_loop (place ts) a.0 m.0 (a.1, iteration_sound ts a ea, m.1)) (λ s es vs hs.
      step many Reaches ts (expect k.End) (expect_tame plain k.End refl refl) s.1 vs _ hs (λ x ex vx hx. step many Reaches ts (expect k.Loop) (expect_tame plain k.Loop refl refl) x.1 vx _ hx (λ y ey vy hy. step many Reaches ts (expect k.Semicolon) (expect_tame plain k.Semicolon refl refl) y.1 vy _ hy (λ z ez vz hz. absurd cc)))))

  accept_body_deep : (ts : List Lexeme) → accept_body inner ts ≡ Err too_deep → Deep many InAccept ts
  unfolding accept_body
  accept_body_deep ts h = elim (deep_side (sees k.Do ts) _ _ _ h) [
    | inl g ↦ holding many InAccept ts (statements inner) (statements_free inner inner_free) InStatements statements_deep (after k.Do ts) (after_ends k.Do ts) _ g.1 (λ j m. (m.0, (after k.Do ts, eaten k.Do ts g.0, m.1))) (λ s es vs hs. step many InAccept ts (expect k.End) (expect_tame plain k.End refl refl) s.1 vs _ hs (λ x ex vx hx. step many InAccept ts (optional (sees k.Identifier) identifier) (optional_tame plain identifier (identifier_tame plain) (sees k.Identifier)) x.1 vx _ hx (λ y ey vy hy. absurd cc)))
    | inr g ↦ absurd cc
  ]

  accept_deep : (ts : List Lexeme) → accept_statement inner ts ≡ Err too_deep → Deep many Reaches ts
  unfolding accept_statement
  accept_deep ts h = step many Reaches ts (expect k.Accept) (expect_tame plain k.Accept refl refl) ts (here ts) _ h (λ a ea va ha. step many Reaches ts identifier (identifier_tame plain) a.1 va _ ha (λ b eb vb hb. step many Reaches ts parameters parameters_tame b.1 vb _ hb (λ c ec vc hc.
      holding many Reaches ts (accept_body inner) (accept_body_free inner inner_free) InAccept accept_body_deep c.1 vc _ hc (λ j m. in_accept a.0 b.0 c.0 m.0 (a.1, expected_at k.Accept ts a ea, (b.1, identifier_sound a.1 b eb, (c.1, parameters_sound b.1 c ec, m.1)))) (λ s es vs hs.
      step many Reaches ts (expect k.Semicolon) (expect_tame plain k.Semicolon refl refl) s.1 vs _ hs (λ x ex vx hx. absurd cc)))))

  selective_deep : (ts : List Lexeme) → selective inner ts ≡ Err too_deep → Deep many InSelective ts
  unfolding selective
  selective_deep ts h = step many InSelective ts (optional (sees k.When) guard) (optional_tame plain guard guard_tame (sees k.When)) ts (here ts) _ h (λ a ea va ha. elim (chosen (sees k.Terminate a.1) _ _ _ ha) [
    | inl g ↦ step many InSelective ts (expect k.Terminate) (expect_tame plain k.Terminate refl refl) a.1 va _ g.1 (λ b eb vb hb. step many InSelective ts (expect k.Semicolon) (expect_tame plain k.Semicolon refl refl) b.1 vb _ hb (λ c ec vc hc. absurd cc))
    | inr g ↦ holding many InSelective ts (statements inner) (statements_free inner inner_free) InStatements statements_deep a.1 va _ g.1 (λ j m. (a.0, m.0, (a.1, optional_sound IsGuard guard guard_sound (sees k.When) ts a ea, m.1))) (λ s es vs hs. absurd cc)
  ])

  selectives_from_deep : (n : ℕ) (found : List t.Selective) (ts : List Lexeme) → selectives_from inner n found ts ≡ Err too_deep → Deep many InSelectives ts
  unfolding selectives_from
  selectives_from_deep zero found ts h = absurd cc
  selectives_from_deep (suc n) found ts h = holding many InSelectives ts (selective inner) (selective_free inner inner_free) InSelective selective_deep ts (here ts) _ h (λ j m. (t.no_selectives, m.0, m.1, (ts, refl, m.2)))
      (λ a ea va ha. elim (deep_side (sees k.Or a.1) _ _ _ ha) [
        | inl g ↦ last many InSelectives ts (selectives_from inner n (found ++ a.0 ∷ [])) InSelectives (selectives_from_deep n (found ++ a.0 ∷ [])) (after k.Or a.1) (ends_on ts a.1 (after k.Or a.1) va (after_ends k.Or a.1)) g.1
            (λ j m. (t.and_selective a.0 m.0, m.1, m.2, (m.3.0, (a.1, selective_sound inner inner_sound ts a ea, (after k.Or a.1, eaten k.Or a.1 g.0, m.3.1)), m.3.2)))
        | inr g ↦ absurd cc
      ])

  selectives_deep : (ts : List Lexeme) → selectives inner ts ≡ Err too_deep → Deep many InSelectives ts
  unfolding selectives
  selectives_deep ts h = selectives_from_deep (length ts) [] ts h

  then_abort_deep : (ts : List Lexeme) → then_abort inner ts ≡ Err too_deep → Deep many InAbort ts
  unfolding then_abort
  then_abort_deep ts h = elim (deep_side (sees k.Then ts) _ _ _ h) [
    | inl g ↦ step many InAbort ts (expect k.Abort) (expect_tame plain k.Abort refl refl) (after k.Then ts) (after_ends k.Then ts) _ g.1 (λ a ea va ha.
        last many InAbort ts (statements inner) InStatements statements_deep a.1 va ha (λ j m. (m.0, (after k.Then ts, eaten k.Then ts g.0, (a.1, expected k.Abort (after k.Then ts) a ea, m.1)))))
    | inr g ↦ absurd cc
  ]

  select_deep : (ts : List Lexeme) → select_statement inner ts ≡ Err too_deep → Deep many Reaches ts
  unfolding select_statement
  select_deep ts h = step many Reaches ts (expect k.Select) (expect_tame plain k.Select refl refl) ts (here ts) _ h (λ a ea va ha.
      holding many Reaches ts (selectives inner) (selectives_free inner inner_free) InSelectives selectives_deep a.1 va _ ha (λ j m. in_select a.0 m.0 m.1 m.2 (a.1, expected_at k.Select ts a ea, m.3)) (λ b eb vb hb.
      holding many Reaches ts (statements_after inner k.Else) (statements_after_free inner inner_free k.Else refl refl) InElse else_deep b.1 vb _ hb (λ j m. in_select_else a.0 (t.selectives_of b.0) m.0 (a.1, expected_at k.Select ts a ea, (b.1, selectives_sound inner inner_sound a.1 b eb, m.1))) (λ c ec vc hc.
      holding many Reaches ts (then_abort inner) (then_abort_free inner inner_free) InAbort then_abort_deep c.1 vc _ hc (λ j m. in_abort a.0 (t.selectives_of b.0) (t.statements_of c.0) m.0 (a.1, expected_at k.Select ts a ea, (b.1, selectives_sound inner inner_sound a.1 b eb, (c.1, else_sound inner inner_sound b.1 c ec, m.1)))) (λ d ed vd hd.
      step many Reaches ts (expect k.End) (expect_tame plain k.End refl refl) d.1 vd _ hd (λ x ex vx hx. step many Reaches ts (expect k.Select) (expect_tame plain k.Select refl refl) x.1 vx _ hx (λ y ey vy hy. step many Reaches ts (expect k.Semicolon) (expect_tame plain k.Semicolon refl refl) y.1 vy _ hy (λ z ez vz hz. absurd cc)))))))

  statement_by_deep : (what : Kind) (ts : List Lexeme) → statement_by inner what ts ≡ Err too_deep → Deep many Reaches ts
  statement_by_deep k.If ts h = if_deep ts h
  statement_by_deep k.Case ts h = case_deep ts h
  statement_by_deep k.While ts h = loop_deep ts h
  statement_by_deep k.For ts h = loop_deep ts h
  statement_by_deep k.Loop ts h = loop_deep ts h
  statement_by_deep k.Accept ts h = accept_deep ts h
  statement_by_deep k.Select ts h = select_deep ts h
  statement_by_deep _ ts h = parens many Reaches ts ts (here ts) (told plain simple_statement ts simple_statement_tame h)

  any_statement_deep : (ts : List Lexeme) → any_statement inner ts ≡ Err too_deep → Deep many Reaches ts
  unfolding any_statement
  any_statement_deep [] h = absurd cc
  any_statement_deep (x ∷ ts) h = statement_by_deep x.kind (x ∷ ts) h

-- one more statement around
around : (n : ℕ) (ts : List Lexeme) → Deep n Reaches ts → Deep (suc n) Nothing ts
unfolding Deep Nested
around n ts (inl m) = inl m
around n ts (inr q) = inr (ts, refl, (q.0, q.1, q.2), here ts)

pub statement_deep : (n : ℕ) (ts : List Lexeme) → statement n ts ≡ Err too_deep → Deep n Nothing ts
unfolding statement Nested
statement_deep zero ts h = elim (chosen (sees_statement ts) _ _ _ h) [ inl g ↦ reached zero Nothing ts ts refl g.0 (here ts) | inr g ↦ absurd cc ]
statement_deep (suc n) ts h = around n ts (any_statement_deep n (statement n) (statement_sound n) (statement_free n) (statement_deep n) ts h)
