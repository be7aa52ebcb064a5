-- Statements are refused only where too many are open, or too many parentheses.
use Rattle.std.proofs.Common.{◌≡◌, ◌⊎◌, inl, inr, ℕ, zero, suc, Bool, true, false, cond, List, [], ◌∷◌, ◌++◌, length, None, Ok, Err, refl}
use Rattle.rv_lex.specs.declared.kind.Kind.{Kind}
use Rattle.rv_lex.specs.declared.kind.Kind.TheVariants as k
use Rattle.rv_lex.specs.Lexes.{Lexeme}
use Rattle.rv_tree.specs.Phrases.{Phrase}
use Rattle.rv_tree.specs.Statements as t
use Rattle.rv_grammar.specs.Reading.{unexpected, too_deep, Outcome, Parser, and_then, sees, place}
use Rattle.rv_grammar.specs.NameRules.{identifier}
use Rattle.rv_grammar.specs.StatementRules.{choice, guard, sees_statement, statements, statements_after, elsif_part, elsif_parts, if_statement, alternative, alternatives, case_statement, loop_statement, accept_body, accept_statement, selective, selectives_from, selectives, then_abort, select_statement, statement_by, any_statement, statement}
use Rattle.rv_grammar.specs.Nesting.{opens, closes, ManyParentheses, Nested}
use Rattle.rv_grammar.proofs.Tame.{Walk, Tamed, Tame, went, told, tame_too, ◌⊳◌, pure_tame, refuse_tame, if_tamed, if_tame, choice_tame, expect_tame, eat_tame, identifier_tame, by_kind_tame, many_tame, at_least_one_tame, optional_tame, listed_tame}
use Rattle.rv_grammar.proofs.TameRules.{Ends, ends_on, more_before, telling, plain, any_expression_tame, choice_of_tame, iteration_tame, guard_tame, parameters_tame, simple_statement_tame}

-- over any words, with nothing told of words that nest too deep
abbrev pub free : Walk
free = telling (λ ts. Unit {0}) (λ a b h g. tt)

free_of : {A : Type 0} (p : Parser A) → Tame plain p → Tame free p
free_of = tame_too plain free (λ a b h. h) (λ ts h. tt)

-- the part of a sequence that nests too deep
deep_then : {A B : Type 0} (r : Outcome A) (f : A → Parser B) → and_then r f ≡ Err too_deep → (r ≡ Err too_deep) ⊎ ((p : A × List Lexeme) × (r ≡ Ok p) × (f p.0 p.1 ≡ Err too_deep))
deep_then (Ok p) f h = inr (p, refl, h)
deep_then (Err too_deep) f h = inl refl
deep_then (Err unexpected) f h = absurd cc

-- the side of a choice that nests too deep
pub deep_side : {A : Type 0} (b : Bool) (p q : Parser A) (i : List Lexeme) → cond b p q i ≡ Err too_deep → ((b ≡ true) × (p i ≡ Err too_deep)) ⊎ ((b ≡ false) × (q i ≡ Err too_deep))
deep_side true p q i h = inl (refl, h)
deep_side false p q i h = inr (refl, h)

-- from these words on, too many parentheses, or as many statements as may be, behind words of this form
unfoldable pub Deep : ℕ → Phrase → List Lexeme → Type 0
Deep many reach ts = ManyParentheses ts ⊎ ((j : List Lexeme) × reach ts j × Nested many j × Ends ts j)

-- one more part of a sequence: it nests too deep by itself, or what follows does
module _ (many : ℕ) (reach : Phrase) (start : List Lexeme) where
  pub parens : (ts : List Lexeme) → Ends start ts → ManyParentheses ts → Deep many reach start
  unfolding Deep
  parens ts v h = inl (more_before start ts v h)

  pub reached : (j : List Lexeme) → reach start j → Nested many j → Ends start j → Deep many reach start
  unfolding Deep
  reached j h g v = inr (j, h, g, v)

  pub step : {A B : Type 0} (p : Parser A) (p_tame : Tame plain p) (ts : List Lexeme) (v : Ends start ts) (f : A → Parser B) → and_then (p ts) f ≡ Err too_deep
      → ((q : A × List Lexeme) → p ts ≡ Ok q → Ends start q.1 → f q.0 q.1 ≡ Err too_deep → Deep many reach start) → Deep many reach start
  step p p_tame ts v f h g = elim (deep_then (p ts) f h) [
    | inl e ↦ parens ts v (told plain p ts p_tame e)
    | inr q ↦ g q.0 q.1 (ends_on start ts q.0.1 v (went free p ts q.0 (free_of p p_tame) q.1)) q.2
  ]

  pub holding : {A B : Type 0} (p : Parser A) (p_free : Tame free p) (inside : Phrase) → ((ts : List Lexeme) → p ts ≡ Err too_deep → Deep many inside ts) → (ts : List Lexeme) (v : Ends start ts) (f : A → Parser B) → and_then (p ts) f ≡ Err too_deep
      → ((j : List Lexeme) → inside ts j → reach start j)
      → ((q : A × List Lexeme) → p ts ≡ Ok q → Ends start q.1 → f q.0 q.1 ≡ Err too_deep → Deep many reach start) → Deep many reach start
  unfolding Deep
  holding p p_free inside deep ts v f h put g = elim (deep_then (p ts) f h) [
    | inl e ↦ elim (deep ts e) [
      | inl m ↦ parens ts v m
      | inr n ↦ reached n.0 (put n.0 n.1) n.2 (ends_on start ts n.0 v n.3)
    ]
    | inr q ↦ g q.0 q.1 (ends_on start ts q.0.1 v (went free p ts q.0 p_free q.1)) q.2
  ]

  -- the last part
  pub last : {A : Type 0} (p : Parser A) (inside : Phrase) → ((ts : List Lexeme) → p ts ≡ Err too_deep → Deep many inside ts) → (ts : List Lexeme) (v : Ends start ts) → p ts ≡ Err too_deep → ((j : List Lexeme) → inside ts j → reach start j) → Deep many reach start
  unfolding Deep
  last p inside deep ts v h put = elim (deep ts h) [
    | inl m ↦ parens ts v m
    | inr n ↦ reached n.0 (put n.0 n.1) n.2 (ends_on start ts n.0 v n.3)
  ]

pub here : (ts : List Lexeme) → Ends ts ts
here ts = record { front = []; whole = refl }

module _ (inner : Parser t.Statement) (inner_free : Tame free inner) where
  pub statements_free : Tame free (statements inner)
  unfolding statements
  statements_free = at_least_one_tame free inner inner_free sees_statement

  pub statements_after_free : (word : Kind) → opens word ≡ 0 → closes word ≡ 0 → Tame free (statements_after inner word)
  unfolding statements_after
  statements_after_free word o c = eat_tame free word o c ⊳ (λ seen. if_tame free seen _ _ statements_free (pure_tame free []))

  pub elsif_part_free : Tame free (elsif_part inner)
  unfolding elsif_part
  elsif_part_free = expect_tame free k.Elsif refl refl ⊳ (λ at. free_of _ any_expression_tame ⊳ (λ condition. expect_tame free k.Then refl refl ⊳ (λ _. statements_free ⊳ (λ ss. pure_tame free _))))

  pub elsif_parts_free : Tame free (elsif_parts inner)
  unfolding elsif_parts
  elsif_parts_free = many_tame free (elsif_part inner) elsif_part_free (sees k.Elsif)

  if_free : Tame free (if_statement inner)
  unfolding if_statement
  if_free = expect_tame free k.If refl refl ⊳ (λ at. free_of _ any_expression_tame ⊳ (λ condition. expect_tame free k.Then refl refl ⊳ (λ _. statements_free ⊳ (λ ss. elsif_parts_free ⊳ (λ parts. statements_after_free k.Else refl refl ⊳ (λ otherwise. expect_tame free k.End refl refl ⊳ (λ _. expect_tame free k.If refl refl ⊳ (λ _. expect_tame free k.Semicolon refl refl ⊳ (λ _. pure_tame free _)))))))))

  pub alternative_free : Tame free (alternative inner)
  unfolding alternative
  alternative_free = expect_tame free k.When refl refl ⊳ (λ at. listed_tame free choice (free_of _ choice_of_tame) k.Bar refl refl ⊳ (λ choices. expect_tame free k.Arrow refl refl ⊳ (λ _. statements_free ⊳ (λ ss. pure_tame free _))))

  pub alternatives_free : Tame free (alternatives inner)
  unfolding alternatives
  alternatives_free = many_tame free (alternative inner) alternative_free (sees k.When)

  case_free : Tame free (case_statement inner)
  unfolding case_statement
  case_free = expect_tame free k.Case refl refl ⊳ (λ at. free_of _ any_expression_tame ⊳ (λ selector. expect_tame free k.Is refl refl ⊳ (λ _. alternatives_free ⊳ (λ choices. expect_tame free k.End refl refl ⊳ (λ _. expect_tame free k.Case refl refl ⊳ (λ _. expect_tame free k.Semicolon refl refl ⊳ (λ _. pure_tame free _)))))))

  loop_free : Tame free (loop_statement inner)
  unfolding loop_statement
  loop_free = record { at = λ ts. (free_of _ iteration_tame ⊳ (λ turns. statements_free ⊳ (λ ss. expect_tame free k.End refl refl ⊳ (λ _. expect_tame free k.Loop refl refl ⊳ (λ _. expect_tame free k.Semicolon refl refl ⊳ (λ _. pure_tame free (t.loop_statement (place ts) turns (t.statements_of ss)))))))).at ts }

  pub accept_body_free : Tame free (accept_body inner)
  unfolding accept_body
  accept_body_free = eat_tame free k.Do refl refl ⊳ (λ seen. if_tame free seen _ _
      (statements_free ⊳ (λ ss. expect_tame free k.End refl refl ⊳ (λ _. optional_tame free identifier (identifier_tame free) (sees k.Identifier) ⊳ (λ end. pure_tame free (ss, end))))) (pure_tame free ([], None)))

  accept_free : Tame free (accept_statement inner)
  unfolding accept_statement
  accept_free = expect_tame free k.Accept refl refl ⊳ (λ at. identifier_tame free ⊳ (λ called. free_of _ parameters_tame ⊳ (λ ps. accept_body_free ⊳ (λ body. expect_tame free k.Semicolon refl refl ⊳ (λ _. pure_tame free (t.accept_statement at called ps (t.statements_of body.0) body.1))))))

  pub selective_free : Tame free (selective inner)
  unfolding selective
  selective_free = optional_tame free guard (free_of _ guard_tame) (sees k.When) ⊳ (λ g. choice_tame free (sees k.Terminate) _ _
      (expect_tame free k.Terminate refl refl ⊳ (λ at. expect_tame free k.Semicolon refl refl ⊳ (λ _. pure_tame free (t.terminate g at)))) (statements_free ⊳ (λ ss. pure_tame free (t.some_statements g (t.statements_of ss)))))

  selectives_from_free : (n : ℕ) (found : List t.Selective) → Tame free (selectives_from inner n found)
  unfolding selectives_from
  selectives_from_free zero found = refuse_tame free (List t.Selective)
  selectives_from_free (suc n) found = selective_free ⊳ (λ a. eat_tame free k.Or refl refl ⊳ (λ goes_on. if_tame free goes_on _ _ (selectives_from_free n (found ++ a ∷ [])) (pure_tame free (found ++ a ∷ []))))

  pub selectives_free : Tame free (selectives inner)
  unfolding selectives
  selectives_free = record { at = λ ts. (selectives_from_free (length ts) []).at ts }

  pub then_abort_free : Tame free (then_abort inner)
  unfolding then_abort
  then_abort_free = eat_tame free k.Then refl refl ⊳ (λ seen. if_tame free seen _ _ (expect_tame free k.Abort refl refl ⊳ (λ _. statements_free)) (pure_tame free []))

  select_free : Tame free (select_statement inner)
  unfolding select_statement
  select_free = expect_tame free k.Select refl refl ⊳ (λ at. selectives_free ⊳ (λ chosen. statements_after_free k.Else refl refl ⊳ (λ otherwise. then_abort_free ⊳ (λ aborted. expect_tame free k.End refl refl ⊳ (λ _. expect_tame free k.Select refl refl ⊳ (λ _. expect_tame free k.Semicolon refl refl ⊳ (λ _. pure_tame free _)))))))

  statement_by_free : (what : Kind) → Tame free (statement_by inner what)
  statement_by_free k.If = if_free
  statement_by_free k.Case = case_free
  statement_by_free k.While = loop_free
  statement_by_free k.For = loop_free
  statement_by_free k.Loop = loop_free
  statement_by_free k.Accept = accept_free
  statement_by_free k.Select = select_free
  statement_by_free _ = free_of _ simple_statement_tame

  any_statement_free : Tame free (any_statement inner)
  unfolding any_statement
  any_statement_free = by_kind_tame free (statement_by inner) statement_by_free

pub statement_free : (n : ℕ) → Tame free (statement n)
unfolding statement Tamed
statement_free zero = record { at = λ ts. if_tamed free (sees_statement ts) _ _ ts (λ g. tt) (λ g. tt) }
statement_free (suc n) = any_statement_free (statement n) (statement_free n)
