-- What is read as a statement is one of the grammar.
use Rattle.std.proofs.Common.{◌≡◌, inl, inr, ℕ, zero, suc, true, List, [], ◌∷◌, ◌++◌, length, Option, Ok, refl, sym, ap, ◌∙◌, subst, append_assoc}
use Rattle.rv_lex.specs.declared.kind.Kind.{Kind}
use Rattle.rv_lex.specs.declared.kind.Kind.TheVariants as k
use Rattle.rv_lex.specs.Lexes.{Lexeme}
use Rattle.rv_tree.specs.Phrases.{Phrase, ◌⨾◌, Is, IsAt, Maybe, Each, AtLeastOne, Listed}
use Rattle.rv_tree.specs.Names.{Identifier}
use Rattle.rv_tree.specs.NameGrammar.{IsIdentifier, IsName}
use Rattle.rv_tree.specs.Expressions as e
use Rattle.rv_tree.specs.ExpressionGrammar.{IsExpression, AreArguments}
use Rattle.rv_tree.specs.Statements as t
use Rattle.rv_tree.specs.StatementGrammar.{IsChoice, AreBounds, IsIteration, IsGuard, MaybeArguments, IsWithAbort, IsStatement, AreStatements, MoreStatements, AreElsifParts, IsElse, AreAlternatives, IsAcceptBody, IsSelective, AreSelectives, MoreSelectives, IsThenAbort}
use Rattle.rv_grammar.specs.Reading.{Parser, sees, after, place, starts_by, expect, listed, optional, optional_after}
use Rattle.rv_grammar.specs.NameRules.{identifier, name}
use Rattle.rv_grammar.specs.ExpressionRules.{begins_expression, opening, inside}
use Rattle.rv_grammar.specs.DeclarationRules.{any_expression, range, parameters}
use Rattle.rv_grammar.specs.StatementRules.{choice, two_from, bounds_from, bounds, for_loop, while_loop, iteration, null_statement, call_arguments, named_statement, exit_statement, return_statement, raise_statement, delay_statement, abort_statement, with_abort, requeue_statement, guard, simple_by, simple_statement, sees_statement, statements, statements_after, elsif_part, elsif_parts, if_statement, alternative, alternatives, case_statement, loop_statement, accept_body, accept_statement, selective, selectives_from, selectives, then_abort, select_statement, statement_by, any_statement, statement}
use Rattle.rv_grammar.proofs.Steps.{Sound, bind_ok, ok_is, given, branch_ok, chosen, sees_means, eaten, not_eaten, expected, expected_at, flag_sound, identifier_sound, many_sound, at_least_one_sound, listed_sound, optional_sound, optional_after_sound}
use Rattle.rv_grammar.proofs.ExpressionSound.{name_sound, arguments_sound, opening_sound, inside_sound}
use Rattle.rv_grammar.proofs.DeclarationSound.{any_expression_sound, range_sound, parameters_sound, kind_sound}

pub choice_sound : Sound IsChoice choice
unfolding choice
choice_sound ts r h = elim (chosen (sees k.Others ts) _ _ _ h) [
  | inl g ↦ let a = bind_ok (expect k.Others ts) _ r g.1 in given IsChoice ts _ r a.2 (expected_at k.Others ts a.0 a.1)
  | inr g ↦
      let a = bind_ok (any_expression ts) _ r g.1 in
      let low = any_expression_sound ts a.0 a.1 in
      elim (branch_ok (sees k.DoubleDot a.0.1) _ _ _ r a.2) [
        | inl m ↦
            let b = bind_ok (any_expression (after k.DoubleDot a.0.1)) _ r m.1 in
            given IsChoice ts _ r b.2 (a.0.1, low, (after k.DoubleDot a.0.1, eaten k.DoubleDot a.0.1 m.0, any_expression_sound _ b.0 b.1))
        | inr m ↦ given IsChoice ts _ r m.1 (subst (λ us. IsExpression a.0.0 ts us) (sym (not_eaten k.DoubleDot a.0.1 m.0)) low)
      ]
]

two_sound : (low : e.Expression) (ts us : List Lexeme) (r : t.LoopBounds × List Lexeme) → IsExpression low ts us → two_from low us ≡ Ok r → AreBounds r.0 ts r.1
two_sound low ts us r is h = elim (branch_ok (sees k.DoubleDot us) _ _ _ r h) [
  | inl m ↦
      let b = bind_ok (any_expression (after k.DoubleDot us)) _ r m.1 in
      given AreBounds ts _ r b.2 (us, is, (after k.DoubleDot us, eaten k.DoubleDot us m.0, any_expression_sound _ b.0 b.1))
  | inr m ↦ given AreBounds ts _ r m.1 (subst (λ vs. IsExpression low ts vs) (sym (not_eaten k.DoubleDot us m.0)) is)
]

bounds_from_sound : (low : e.Expression) (ts us : List Lexeme) (r : t.LoopBounds × List Lexeme) → IsExpression low ts us → bounds_from low us ≡ Ok r → AreBounds r.0 ts r.1
bounds_from_sound (e.name n) ts us r is h = elim (chosen (sees k.Range us) _ _ _ h) [
  | inl g ↦
      let b = bind_ok (range us) _ r g.1 in
      given AreBounds ts _ r b.2 (us, is, range_sound us b.0 b.1)
  | inr g ↦ two_sound (e.name n) ts us r is g.1
]
bounds_from_sound (e.literal at v) ts us r is h = two_sound (e.literal at v) ts us r is h
bounds_from_sound (e.attribute n i) ts us r is h = two_sound (e.attribute n i) ts us r is h
bounds_from_sound (e.call n es) ts us r is h = two_sound (e.call n es) ts us r is h
bounds_from_sound (e.parenthesized at x) ts us r is h = two_sound (e.parenthesized at x) ts us r is h
bounds_from_sound (e.highest at op x) ts us r is h = two_sound (e.highest at op x) ts us r is h
bounds_from_sound (e.product x fs) ts us r is h = two_sound (e.product x fs) ts us r is h
bounds_from_sound (e.signed at op x) ts us r is h = two_sound (e.signed at op x) ts us r is h
bounds_from_sound (e.sum x ss) ts us r is h = two_sound (e.sum x ss) ts us r is h
bounds_from_sound (e.relation x op y) ts us r is h = two_sound (e.relation x op y) ts us r is h
bounds_from_sound (e.logical op x es) ts us r is h = two_sound (e.logical op x es) ts us r is h

bounds_sound : Sound AreBounds bounds
unfolding bounds
bounds_sound ts r h =
    let a = bind_ok (any_expression ts) _ r h in
    bounds_from_sound a.0.0 ts a.0.1 r (any_expression_sound ts a.0 a.1) a.2

eaten_at : (what : Kind) (us : List Lexeme) → sees what us ≡ true → IsAt what (place us) us (after what us)
unfolding after
eaten_at what us g = let s = sees_means what us g in rw g (s.0, s.1, s.2, s.3)

loop_at : (us : List Lexeme) (p : ℕ × List Lexeme) → expect k.Loop us ≡ Ok p → IsAt k.Loop (place us) us p.1
unfolding expect
loop_at us p g = elim (chosen (sees k.Loop us) _ _ _ g) [
  | inl m ↦ let s = sees_means k.Loop us m.0 in subst (λ (q : ℕ × List Lexeme). IsAt k.Loop (place us) us q.1) (ok_is _ _ m.1) (s.0, s.1, s.2, s.3)
  | inr m ↦ absurd cc
]

pub iteration_sound : (ts : List Lexeme) (r : t.Iteration × List Lexeme) → iteration ts ≡ Ok r → IsIteration (place ts) r.0 ts r.1
unfolding iteration while_loop for_loop
iteration_sound ts r h = elim (branch_ok (sees k.While ts) _ _ _ r h) [
  | inl g ↦
      let s = sees_means k.While ts g.0 in
      let w = eaten_at k.While ts g.0 in
      let a = bind_ok (any_expression (after k.While ts)) _ r g.1 in
      let b = bind_ok (expect k.Loop a.0.1) _ r a.2 in
      given (IsIteration (place ts)) ts _ r b.2 (after k.While ts, w, (a.0.1, any_expression_sound _ a.0 a.1, expected k.Loop _ b.0 b.1))
  | inr g ↦
      let same = not_eaten k.While ts g.0 in
      elim (branch_ok (sees k.For (after k.While ts)) _ _ _ r g.1) [
        | inl m ↦
            let us = after k.For (after k.While ts) in
            let f : IsAt k.For (place ts) ts us = subst (λ vs. IsAt k.For (place vs) vs us) same (eaten_at k.For (after k.While ts) m.0) in
            let a = bind_ok (identifier us) _ r m.1 in
            let b = bind_ok (expect k.In a.0.1) _ r a.2 in
            let c = bind_ok (bounds (after k.Reverse b.0.1)) _ r b.2 in
            let d = bind_ok (expect k.Loop c.0.1) _ r c.2 in
            given (IsIteration (place ts)) ts _ r d.2 (us, f, (a.0.1, identifier_sound _ a.0 a.1, (b.0.1, expected k.In _ b.0 b.1, (after k.Reverse b.0.1, flag_sound k.Reverse b.0.1, (c.0.1, bounds_sound _ c.0 c.1, expected k.Loop _ d.0 d.1)))))
        | inr m ↦
            let same_2 = not_eaten k.For (after k.While ts) m.0 ∙ same in
            let a = bind_ok (expect k.Loop (after k.For (after k.While ts))) _ r m.1 in
            let l : IsAt k.Loop (place ts) ts a.0.1 = subst (λ vs. IsAt k.Loop (place vs) vs a.0.1) same_2 (loop_at (after k.For (after k.While ts)) a.0 a.1) in
            given (IsIteration (place ts)) ts _ r a.2 l
      ]
]

null_sound : Sound IsStatement null_statement
unfolding null_statement
null_sound ts r h =
    let a = bind_ok (expect k.Null ts) _ r h in
    let b = bind_ok (expect k.Semicolon a.0.1) _ r a.2 in
    given IsStatement ts _ r b.2 (a.0.1, expected_at k.Null ts a.0 a.1, expected k.Semicolon _ b.0 b.1)

maybe_arguments : (es : List e.Expression) (ts us : List Lexeme) → AreArguments (e.expressions_of es) ts us → MaybeArguments (e.expressions_of es) ts us
maybe_arguments [] ts us h = absurd h
maybe_arguments (x ∷ es) ts us h = h

call_arguments_sound : Sound (λ es. MaybeArguments (e.expressions_of es)) call_arguments
unfolding call_arguments
call_arguments_sound ts r h = elim (chosen (sees k.LeftParenthesis ts) _ _ _ h) [
  | inl g ↦ maybe_arguments r.0 ts r.1 (arguments_sound (opening 64) (opening_sound 64) (inside 64) (inside_sound 64) ts r g.1)
  | inr g ↦ given (λ es. MaybeArguments (e.expressions_of es)) ts _ r g.1 refl
]

named_sound : Sound IsStatement named_statement
unfolding named_statement
named_sound ts r h =
    let a = bind_ok (name ts) _ r h in
    let n = name_sound ts a.0 a.1 in
    elim (branch_ok (sees k.Becomes a.0.1) _ _ _ r a.2) [
      | inl g ↦
          let b = bind_ok (any_expression (after k.Becomes a.0.1)) _ r g.1 in
          let c = bind_ok (expect k.Semicolon b.0.1) _ r b.2 in
          given IsStatement ts _ r c.2 (a.0.1, n, (b.0.1, (after k.Becomes a.0.1, eaten k.Becomes a.0.1 g.0, any_expression_sound _ b.0 b.1), expected k.Semicolon _ c.0 c.1))
      | inr g ↦
          let n_2 : IsName a.0.0 ts (after k.Becomes a.0.1) = subst (λ us. IsName a.0.0 ts us) (sym (not_eaten k.Becomes a.0.1 g.0)) n in
          let b = bind_ok (call_arguments (after k.Becomes a.0.1)) _ r g.1 in
          let c = bind_ok (expect k.Semicolon b.0.1) _ r b.2 in
          given IsStatement ts _ r c.2 (after k.Becomes a.0.1, n_2, (b.0.1, call_arguments_sound _ b.0 b.1, expected k.Semicolon _ c.0 c.1))
    ]

exit_sound : Sound IsStatement exit_statement
unfolding exit_statement
exit_sound ts r h =
    let a = bind_ok (expect k.Exit ts) _ r h in
    let b = bind_ok (optional_after k.When any_expression a.0.1) _ r a.2 in
    let c = bind_ok (expect k.Semicolon b.0.1) _ r b.2 in
    given IsStatement ts _ r c.2 (a.0.1, expected_at k.Exit ts a.0 a.1, (b.0.1, optional_after_sound IsExpression any_expression any_expression_sound k.When _ b.0 b.1, expected k.Semicolon _ c.0 c.1))

return_sound : Sound IsStatement return_statement
unfolding return_statement
return_sound ts r h =
    let a = bind_ok (expect k.Return ts) _ r h in
    let b = bind_ok (optional (starts_by begins_expression) any_expression a.0.1) _ r a.2 in
    let c = bind_ok (expect k.Semicolon b.0.1) _ r b.2 in
    given IsStatement ts _ r c.2 (a.0.1, expected_at k.Return ts a.0 a.1, (b.0.1, optional_sound IsExpression any_expression any_expression_sound (starts_by begins_expression) _ b.0 b.1, expected k.Semicolon _ c.0 c.1))

raise_sound : Sound IsStatement raise_statement
unfolding raise_statement
raise_sound ts r h =
    let a = bind_ok (expect k.Raise ts) _ r h in
    let b = bind_ok (optional (sees k.Identifier) name a.0.1) _ r a.2 in
    let c = bind_ok (expect k.Semicolon b.0.1) _ r b.2 in
    given IsStatement ts _ r c.2 (a.0.1, expected_at k.Raise ts a.0 a.1, (b.0.1, optional_sound IsName name name_sound (sees k.Identifier) _ b.0 b.1, expected k.Semicolon _ c.0 c.1))

delay_sound : Sound IsStatement delay_statement
unfolding delay_statement
delay_sound ts r h =
    let a = bind_ok (expect k.Delay ts) _ r h in
    let b = bind_ok (any_expression (after k.Until a.0.1)) _ r a.2 in
    let c = bind_ok (expect k.Semicolon b.0.1) _ r b.2 in
    given IsStatement ts _ r c.2 (a.0.1, expected_at k.Delay ts a.0 a.1, (after k.Until a.0.1, flag_sound k.Until a.0.1, (b.0.1, any_expression_sound _ b.0 b.1, expected k.Semicolon _ c.0 c.1)))

abort_sound : Sound IsStatement abort_statement
unfolding abort_statement
abort_sound ts r h =
    let a = bind_ok (expect k.Abort ts) _ r h in
    let b = bind_ok (listed k.Comma name a.0.1) _ r a.2 in
    let c = bind_ok (expect k.Semicolon b.0.1) _ r b.2 in
    given IsStatement ts _ r c.2 (a.0.1, expected_at k.Abort ts a.0 a.1, (b.0.1, listed_sound IsName name name_sound k.Comma _ b.0 b.1, expected k.Semicolon _ c.0 c.1))

with_abort_sound : Sound IsWithAbort with_abort
unfolding with_abort
with_abort_sound ts r h = elim (branch_ok (sees k.With ts) _ _ _ r h) [
  | inl g ↦ let a = bind_ok (expect k.Abort (after k.With ts)) _ r g.1 in given IsWithAbort ts _ r a.2 (after k.With ts, eaten k.With ts g.0, expected k.Abort _ a.0 a.1)
  | inr g ↦ given IsWithAbort ts _ r g.1 (sym (not_eaten k.With ts g.0))
]

requeue_sound : Sound IsStatement requeue_statement
unfolding requeue_statement
requeue_sound ts r h =
    let a = bind_ok (expect k.Requeue ts) _ r h in
    let b = bind_ok (name a.0.1) _ r a.2 in
    let c = bind_ok (with_abort b.0.1) _ r b.2 in
    let d = bind_ok (expect k.Semicolon c.0.1) _ r c.2 in
    given IsStatement ts _ r d.2 (a.0.1, expected_at k.Requeue ts a.0 a.1, (b.0.1, name_sound _ b.0 b.1, (c.0.1, with_abort_sound _ c.0 c.1, expected k.Semicolon _ d.0 d.1)))

pub guard_sound : Sound IsGuard guard
unfolding guard
guard_sound ts r h =
    let a = bind_ok (expect k.When ts) _ r h in
    let b = bind_ok (any_expression a.0.1) _ r a.2 in
    let c = bind_ok (expect k.Arrow b.0.1) _ r b.2 in
    given IsGuard ts _ r c.2 (a.0.1, expected_at k.When ts a.0 a.1, (b.0.1, any_expression_sound _ b.0 b.1, expected k.Arrow _ c.0 c.1))

simple_by_sound : (w : Kind) → Sound IsStatement (simple_by w)
simple_by_sound k.Identifier ts r h = named_sound ts r h
simple_by_sound k.Null ts r h = null_sound ts r h
simple_by_sound k.Exit ts r h = exit_sound ts r h
simple_by_sound k.Return ts r h = return_sound ts r h
simple_by_sound k.Raise ts r h = raise_sound ts r h
simple_by_sound k.Delay ts r h = delay_sound ts r h
simple_by_sound k.Abort ts r h = abort_sound ts r h
simple_by_sound k.Requeue ts r h = requeue_sound ts r h
simple_by_sound _ ts r h = absurd cc

simple_sound : Sound IsStatement simple_statement
unfolding simple_statement
simple_sound = kind_sound IsStatement simple_by simple_by_sound

-- LISTS OF STATEMENTS AND THEIR PARTS

more_sound : (ss : List t.Statement) (ts us : List Lexeme) → Each IsStatement ss ts us → MoreStatements (t.statements_of ss) ts us
more_sound [] ts us h = h
more_sound (s ∷ ss) ts us h = (h.0, h.1, more_sound ss h.0 us h.2)

-- the first of them, and the others
abbrev pub Sequence : List t.Statement → Phrase
Sequence ss = AreStatements (t.statements_of ss)

sequence_of : (ss : List t.Statement) (ts us : List Lexeme) → AtLeastOne IsStatement ss ts us → Sequence ss ts us
sequence_of [] ts us h = h
sequence_of (s ∷ ss) ts us h = (h.0, h.1, more_sound ss h.0 us h.2)

abbrev pub IsElsifPart : t.ElsifPart → Phrase
IsElsifPart p = IsAt k.Elsif p.at ⨾ IsExpression p.condition ⨾ Is k.Then ⨾ AreStatements p.statements

-- a part in front of parts
pub elsif_parts_on : (p : t.ElsifPart) (more : t.ElsifParts) (a b c : List Lexeme) → IsElsifPart p a b → AreElsifParts more b c → AreElsifParts (t.and_elsif_part p.at p.condition p.statements more) a c
elsif_parts_on p more a b c h g = (h.0, h.1, (h.2.0, h.2.1, (h.2.2.0, h.2.2.1, (b, h.2.2.2, g))))

elsif_parts_each : (ps : List t.ElsifPart) (ts us : List Lexeme) → Each IsElsifPart ps ts us → AreElsifParts (t.elsif_parts_of ps) ts us
elsif_parts_each [] ts us h = h
elsif_parts_each (p ∷ ps) ts us h = elsif_parts_on p (t.elsif_parts_of ps) ts h.0 us h.1 (elsif_parts_each ps h.0 us h.2)

abbrev pub IsAlternative : t.CaseAlternative → Phrase
IsAlternative x = IsAt k.When x.at ⨾ Listed k.Bar IsChoice x.choices ⨾ Is k.Arrow ⨾ AreStatements x.statements

-- an alternative in front of alternatives
pub alternatives_on : (x : t.CaseAlternative) (more : t.Alternatives) (a b c : List Lexeme) → IsAlternative x a b → AreAlternatives more b c → AreAlternatives (t.and_alternative x.at x.choices x.statements more) a c
alternatives_on x more a b c h g = (h.0, h.1, (h.2.0, h.2.1, (h.2.2.0, h.2.2.1, (b, h.2.2.2, g))))

alternatives_each : (xs : List t.CaseAlternative) (ts us : List Lexeme) → Each IsAlternative xs ts us → AreAlternatives (t.alternatives_of xs) ts us
alternatives_each [] ts us h = h
alternatives_each (x ∷ xs) ts us h = alternatives_on x (t.alternatives_of xs) ts h.0 us h.1 (alternatives_each xs h.0 us h.2)

module _ (inner : Parser t.Statement) (inner_sound : Sound IsStatement inner) where
  pub statements_sound : Sound Sequence (statements inner)
  unfolding statements
  statements_sound ts r h = sequence_of r.0 ts r.1 (at_least_one_sound IsStatement inner inner_sound sees_statement ts r h)

  else_list : (ss : List t.Statement) (a b c : List Lexeme) → Is k.Else a b → Sequence ss b c → IsElse (t.statements_of ss) a c
  else_list [] a b c w h = absurd h
  else_list (s ∷ ss) a b c w h = (b, w, h)

  pub else_sound : Sound (λ ss. IsElse (t.statements_of ss)) (statements_after inner k.Else)
  unfolding statements_after
  else_sound ts r h = elim (branch_ok (sees k.Else ts) _ _ _ r h) [
    | inl g ↦ else_list r.0 ts (after k.Else ts) r.1 (eaten k.Else ts g.0) (statements_sound _ r g.1)
    | inr g ↦ given (λ ss. IsElse (t.statements_of ss)) ts _ r g.1 (sym (not_eaten k.Else ts g.0))
  ]

  pub elsif_part_sound : Sound IsElsifPart (elsif_part inner)
  unfolding elsif_part
  elsif_part_sound ts r h =
      let a = bind_ok (expect k.Elsif ts) _ r h in
      let b = bind_ok (any_expression a.0.1) _ r a.2 in
      let c = bind_ok (expect k.Then b.0.1) _ r b.2 in
      let d = bind_ok (statements inner c.0.1) _ r c.2 in
      given IsElsifPart ts _ r d.2 (a.0.1, expected_at k.Elsif ts a.0 a.1, (b.0.1, any_expression_sound _ b.0 b.1, (c.0.1, expected k.Then _ c.0 c.1, statements_sound _ d.0 d.1)))

  pub elsif_parts_sound : Sound (λ ps. AreElsifParts (t.elsif_parts_of ps)) (elsif_parts inner)
  unfolding elsif_parts
  elsif_parts_sound ts r h = elsif_parts_each r.0 ts r.1 (many_sound IsElsifPart (elsif_part inner) elsif_part_sound (sees k.Elsif) ts r h)

  if_sound : Sound IsStatement (if_statement inner)
  unfolding if_statement
  if_sound ts r h =
      let a = bind_ok (expect k.If ts) _ r h in
      let b = bind_ok (any_expression a.0.1) _ r a.2 in
      let c = bind_ok (expect k.Then b.0.1) _ r b.2 in
      let d = bind_ok (statements inner c.0.1) _ r c.2 in
      let e = bind_ok (elsif_parts inner d.0.1) _ r d.2 in
      let f = bind_ok (statements_after inner k.Else e.0.1) _ r e.2 in
      let x = bind_ok (expect k.End f.0.1) _ r f.2 in
      let y = bind_ok (expect k.If x.0.1) _ r x.2 in
      let z = bind_ok (expect k.Semicolon y.0.1) _ r y.2 in
      given IsStatement ts _ r z.2 (a.0.1, expected_at k.If ts a.0 a.1, (b.0.1, any_expression_sound _ b.0 b.1, (c.0.1, expected k.Then _ c.0 c.1, (d.0.1, statements_sound _ d.0 d.1, (e.0.1, elsif_parts_sound _ e.0 e.1, (f.0.1, else_sound _ f.0 f.1, (x.0.1, expected k.End _ x.0 x.1, (y.0.1, expected k.If _ y.0 y.1, expected k.Semicolon _ z.0 z.1))))))))

  pub alternative_sound : Sound IsAlternative (alternative inner)
  unfolding alternative
  alternative_sound ts r h =
      let a = bind_ok (expect k.When ts) _ r h in
      let b = bind_ok (listed k.Bar choice a.0.1) _ r a.2 in
      let c = bind_ok (expect k.Arrow b.0.1) _ r b.2 in
      let d = bind_ok (statements inner c.0.1) _ r c.2 in
      given IsAlternative ts _ r d.2 (a.0.1, expected_at k.When ts a.0 a.1, (b.0.1, listed_sound IsChoice choice choice_sound k.Bar _ b.0 b.1, (c.0.1, expected k.Arrow _ c.0 c.1, statements_sound _ d.0 d.1)))

  pub alternatives_sound : Sound (λ xs. AreAlternatives (t.alternatives_of xs)) (alternatives inner)
  unfolding alternatives
  alternatives_sound ts r h = alternatives_each r.0 ts r.1 (many_sound IsAlternative (alternative inner) alternative_sound (sees k.When) ts r h)

  case_sound : Sound IsStatement (case_statement inner)
  unfolding case_statement
  case_sound ts r h =
      let a = bind_ok (expect k.Case ts) _ r h in
      let b = bind_ok (any_expression a.0.1) _ r a.2 in
      let c = bind_ok (expect k.Is b.0.1) _ r b.2 in
      let d = bind_ok (alternatives inner c.0.1) _ r c.2 in
      let x = bind_ok (expect k.End d.0.1) _ r d.2 in
      let y = bind_ok (expect k.Case x.0.1) _ r x.2 in
      let z = bind_ok (expect k.Semicolon y.0.1) _ r y.2 in
      given IsStatement ts _ r z.2 (a.0.1, expected_at k.Case ts a.0 a.1, (b.0.1, any_expression_sound _ b.0 b.1, (c.0.1, expected k.Is _ c.0 c.1, (d.0.1, alternatives_sound _ d.0 d.1, (x.0.1, expected k.End _ x.0 x.1, (y.0.1, expected k.Case _ y.0 y.1, expected k.Semicolon _ z.0 z.1))))))

  loop_sound : Sound IsStatement (loop_statement inner)
  unfolding loop_statement
  loop_sound ts r h =
      let a = bind_ok (iteration ts) _ r h in
      let b = bind_ok (statements inner a.0.1) _ r a.2 in
      let x = bind_ok (expect k.End b.0.1) _ r b.2 in
      let y = bind_ok (expect k.Loop x.0.1) _ r x.2 in
      let z = bind_ok (expect k.Semicolon y.0.1) _ r y.2 in
      given IsStatement ts _ r z.2 (a.0.1, iteration_sound ts a.0 a.1, (b.0.1, statements_sound _ b.0 b.1, (x.0.1, expected k.End _ x.0 x.1, (y.0.1, expected k.Loop _ y.0 y.1, expected k.Semicolon _ z.0 z.1))))

  do_list : (ss : List t.Statement) (end : Option Identifier) (a b c d f : List Lexeme) → Is k.Do a b → Sequence ss b c → Is k.End c d → Maybe IsIdentifier end d f → IsAcceptBody (t.statements_of ss) end a f
  do_list [] end a b c d f w h x y = absurd h
  do_list (s ∷ ss) end a b c d f w h x y = (b, w, (h.0, h.1, (c, h.2, (d, x, y))))

  accept_body_sound : (ts : List Lexeme) (r : (List t.Statement × Option Identifier) × List Lexeme) → accept_body inner ts ≡ Ok r → IsAcceptBody (t.statements_of r.0.0) r.0.1 ts r.1
  unfolding accept_body
  accept_body_sound ts r h =
      let is : List t.Statement × Option Identifier → Phrase = λ p. IsAcceptBody (t.statements_of p.0) p.1 in
      elim (branch_ok (sees k.Do ts) _ _ _ r h) [
        | inl g ↦
            let a = bind_ok (statements inner (after k.Do ts)) _ r g.1 in
            let b = bind_ok (expect k.End a.0.1) _ r a.2 in
            let c = bind_ok (optional (sees k.Identifier) identifier b.0.1) _ r b.2 in
            given is ts _ r c.2 (do_list a.0.0 c.0.0 ts (after k.Do ts) a.0.1 b.0.1 c.0.1 (eaten k.Do ts g.0) (statements_sound _ a.0 a.1) (expected k.End _ b.0 b.1) (optional_sound IsIdentifier identifier identifier_sound (sees k.Identifier) _ c.0 c.1))
        | inr g ↦ given is ts _ r g.1 (sym (not_eaten k.Do ts g.0))
      ]

  accept_sound : Sound IsStatement (accept_statement inner)
  unfolding accept_statement
  accept_sound ts r h =
      let a = bind_ok (expect k.Accept ts) _ r h in
      let b = bind_ok (identifier a.0.1) _ r a.2 in
      let c = bind_ok (parameters b.0.1) _ r b.2 in
      let d = bind_ok (accept_body inner c.0.1) _ r c.2 in
      let z = bind_ok (expect k.Semicolon d.0.1) _ r d.2 in
      given IsStatement ts _ r z.2 (a.0.1, expected_at k.Accept ts a.0 a.1, (b.0.1, identifier_sound _ b.0 b.1, (c.0.1, parameters_sound _ c.0 c.1, (d.0.1, accept_body_sound _ d.0 d.1, expected k.Semicolon _ z.0 z.1))))

  pub selective_sound : Sound IsSelective (selective inner)
  unfolding selective
  selective_sound ts r h =
      let a = bind_ok (optional (sees k.When) guard ts) _ r h in
      let g = optional_sound IsGuard guard guard_sound (sees k.When) ts a.0 a.1 in
      elim (chosen (sees k.Terminate a.0.1) _ _ _ a.2) [
        | inl m ↦
            let b = bind_ok (expect k.Terminate a.0.1) _ r m.1 in
            let c = bind_ok (expect k.Semicolon b.0.1) _ r b.2 in
            given IsSelective ts _ r c.2 (a.0.1, g, (b.0.1, expected_at k.Terminate _ b.0 b.1, expected k.Semicolon _ c.0 c.1))
        | inr m ↦
            let b = bind_ok (statements inner a.0.1) _ r m.1 in
            given IsSelective ts _ r b.2 (a.0.1, g, statements_sound _ b.0 b.1)
      ]

  -- what was found, and the alternatives behind it
  selectives_from_sound : (n : ℕ) (found : List t.Selective) (ts : List Lexeme) (r : List t.Selective × List Lexeme) → selectives_from inner n found ts ≡ Ok r → (more : List t.Selective) × (r.0 ≡ found ++ more) × AreSelectives (t.selectives_of more) ts r.1
  unfolding selectives_from
  selectives_from_sound zero found ts r h = absurd cc
  selectives_from_sound (suc n) found ts r h =
      let a = bind_ok (selective inner ts) _ r h in
      let s = selective_sound ts a.0 a.1 in
      elim (branch_ok (sees k.Or a.0.1) _ _ _ r a.2) [
        | inl g ↦
            let b = selectives_from_sound n (found ++ a.0.0 ∷ []) (after k.Or a.0.1) r g.1 in
            let all : AreSelectives (t.selectives_of (a.0.0 ∷ b.0)) ts r.1 = (a.0.1, s, more_list b.0 a.0.1 (after k.Or a.0.1) r.1 (eaten k.Or a.0.1 g.0) b.2) in
            (a.0.0 ∷ b.0, b.1 ∙ append_assoc found (a.0.0 ∷ []) b.0, all)
        | inr g ↦
            let e = ok_is _ _ g.1 in
            (a.0.0 ∷ [], sym (ap (λ (q : List t.Selective × List Lexeme). q.0) e), (a.0.1, s, sym (not_eaten k.Or a.0.1 g.0) ∙ ap (λ (q : List t.Selective × List Lexeme). q.1) e))
      ]
    where
      more_list : (xs : List t.Selective) (a b c : List Lexeme) → Is k.Or a b → AreSelectives (t.selectives_of xs) b c → MoreSelectives (t.selectives_of xs) a c
      more_list [] a b c w h = absurd h
      more_list (x ∷ xs) a b c w h = (b, w, h)

  pub selectives_sound : Sound (λ xs. AreSelectives (t.selectives_of xs)) (selectives inner)
  unfolding selectives
  selectives_sound ts r h =
      let d = selectives_from_sound (length ts) [] ts r h in
      subst (λ xs. AreSelectives (t.selectives_of xs) ts r.1) (sym d.1) d.2

  abort_list : (ss : List t.Statement) (a b c d : List Lexeme) → Is k.Then a b → Is k.Abort b c → Sequence ss c d → IsThenAbort (t.statements_of ss) a d
  abort_list [] a b c d w x h = absurd h
  abort_list (s ∷ ss) a b c d w x h = (b, w, (c, x, h))

  then_abort_sound : Sound (λ ss. IsThenAbort (t.statements_of ss)) (then_abort inner)
  unfolding then_abort
  then_abort_sound ts r h = elim (branch_ok (sees k.Then ts) _ _ _ r h) [
    | inl g ↦
        let a = bind_ok (expect k.Abort (after k.Then ts)) _ r g.1 in
        abort_list r.0 ts (after k.Then ts) a.0.1 r.1 (eaten k.Then ts g.0) (expected k.Abort _ a.0 a.1) (statements_sound _ r a.2)
    | inr g ↦ given (λ ss. IsThenAbort (t.statements_of ss)) ts _ r g.1 (sym (not_eaten k.Then ts g.0))
  ]

  select_sound : Sound IsStatement (select_statement inner)
  unfolding select_statement
  select_sound ts r h =
      let a = bind_ok (expect k.Select ts) _ r h in
      let b = bind_ok (selectives inner a.0.1) _ r a.2 in
      let c = bind_ok (statements_after inner k.Else b.0.1) _ r b.2 in
      let d = bind_ok (then_abort inner c.0.1) _ r c.2 in
      let x = bind_ok (expect k.End d.0.1) _ r d.2 in
      let y = bind_ok (expect k.Select x.0.1) _ r x.2 in
      let z = bind_ok (expect k.Semicolon y.0.1) _ r y.2 in
      given IsStatement ts _ r z.2 (a.0.1, expected_at k.Select ts a.0 a.1, (b.0.1, selectives_sound _ b.0 b.1, (c.0.1, else_sound _ c.0 c.1, (d.0.1, then_abort_sound _ d.0 d.1, (x.0.1, expected k.End _ x.0 x.1, (y.0.1, expected k.Select _ y.0 y.1, expected k.Semicolon _ z.0 z.1))))))

  statement_by_sound : (w : Kind) → Sound IsStatement (statement_by inner w)
  statement_by_sound k.If ts r h = if_sound ts r h
  statement_by_sound k.Case ts r h = case_sound ts r h
  statement_by_sound k.While ts r h = loop_sound ts r h
  statement_by_sound k.For ts r h = loop_sound ts r h
  statement_by_sound k.Loop ts r h = loop_sound ts r h
  statement_by_sound k.Accept ts r h = accept_sound ts r h
  statement_by_sound k.Select ts r h = select_sound ts r h
  statement_by_sound _ ts r h = simple_sound ts r h

  any_statement_sound : Sound IsStatement (any_statement inner)
  unfolding any_statement
  any_statement_sound = kind_sound IsStatement (statement_by inner) statement_by_sound

pub statement_sound : (n : ℕ) → Sound IsStatement (statement n)
unfolding statement
statement_sound zero ts r h = elim (chosen (sees_statement ts) _ _ _ h) [ inl g ↦ absurd cc | inr g ↦ absurd cc ]
statement_sound (suc n) ts r h = any_statement_sound (statement n) (statement_sound n) ts r h
