-- Expressions close the parentheses that they open, and are refused only where too many are open.
use Rattle.std.proofs.Common.{◌≡◌, ◌≤◌, ℕ, zero, suc, ◌+◌, Bool, true, false, cond, if◌then◌else◌, List, [], ◌∷◌, ◌++◌, length, Option, Some, None, Ok, Err, refl, sym, ap, ◌∙◌, arith, append_assoc}
use Rattle.rv_lex.specs.declared.kind.Kind.{Kind}
use Rattle.rv_lex.specs.declared.kind.Kind.TheVariants as k
use Rattle.rv_lex.specs.Lexes.{Lexeme}
use Rattle.rv_tree.specs.declared.expression.LogicalOperator.{LogicalOperator}
use Rattle.rv_tree.specs.declared.expression.LogicalOperator.TheVariants as logic
use Rattle.rv_tree.specs.declared.expression.RelationalOperator.{RelationalOperator}
use Rattle.rv_tree.specs.declared.expression.RelationalOperator.TheVariants as relates
use Rattle.rv_tree.specs.declared.expression.AddingOperator.{AddingOperator}
use Rattle.rv_tree.specs.declared.expression.AddingOperator.TheVariants as adds
use Rattle.rv_tree.specs.declared.expression.MultiplyingOperator.{MultiplyingOperator}
use Rattle.rv_tree.specs.declared.expression.MultiplyingOperator.TheVariants as multiplies
use Rattle.rv_tree.specs.declared.expression.HighestOperator.{HighestOperator}
use Rattle.rv_tree.specs.declared.expression.HighestOperator.TheVariants as before
use Rattle.rv_tree.specs.Phrases.{Is}
use Rattle.rv_tree.specs.Expressions as t
use Rattle.rv_tree.specs.ExpressionGrammar.{relational, adding, multiplying, highest_word}
use Rattle.rv_grammar.specs.Reading.{unexpected, too_deep, Outcome, Parser, and_then, pure, refuse, sees, next, after, place, expect}
use Rattle.rv_grammar.specs.ExpressionRules.{operator, relational_of, adding_of, multiplying_of, highest_of, joining, both_words, joined, linked_by, linked_from, linked, literal, opening, inside, arguments_from, arguments, parenthesized, named, primary, factor_by, factor, factors, product_of, term, signed_term_by, signed_term, terms, sum_of, simple, relation_by, relation, relations_from, relations, whole_by, whole, expression}
use Rattle.rv_grammar.specs.Nesting.{opens, closes, opened, closed}
use Rattle.rv_grammar.proofs.Steps.{taken}
use Rattle.rv_grammar.proofs.Operators.{relational_at, adding_at, multiplying_at, highest_at}
use Rattle.rv_grammar.proofs.Tame.{Walk, Tamed, Tame, from_there, then_tamed, ◌⊳◌, pure_tame, refuse_tame, here_tamed, word_tamed, if_tamed, if_tame, choice_tame, expect_tame, after_via, eat_tame, identifier_tame, name_tame}

pub opened_append : (a b : List Lexeme) → opened (a ++ b) ≡ opened a + opened b
opened_append [] b = omega arith
opened_append (t ∷ a) b = omega (arith, opened_append a b)

pub closed_append : (a b : List Lexeme) → closed (a ++ b) ≡ closed a + closed b
closed_append [] b = omega arith
closed_append (t ∷ a) b = omega (arith, closed_append a b)

-- words that close what they open
pub record Even (ts us : List Lexeme) : Type 0 where
  pub front : List Lexeme
  pub whole : ts ≡ front ++ us
  pub even : closed front ≡ opened front

-- words that close one parenthesis more than they open
pub record Closing (ts us : List Lexeme) : Type 0 where
  front : List Lexeme
  whole : ts ≡ front ++ us
  more : closed front ≡ opened front + 1

-- a front of the words opens so many that it doesn't close
pub record Fronts (many : ℕ) (ts : List Lexeme) : Type 0 where
  pub front : List Lexeme
  pub rest : List Lexeme
  pub whole : ts ≡ front ++ rest
  pub count : closed front + many ≤ opened front

pub joined_up : (a b c x y : List Lexeme) → a ≡ x ++ b → b ≡ y ++ c → a ≡ (x ++ y) ++ c
joined_up a b c x y h g = h ∙ ap (λ l. x ++ l) g ∙ sym (append_assoc x y c)

pub even_on : (a b c : List Lexeme) → Even a b → Even b c → Even a c
even_on a b c h g = record {
  front = h.front ++ g.front;
  whole = joined_up a b c h.front g.front h.whole g.whole;
  even = omega (arith, opened_append h.front g.front, closed_append h.front g.front, h.even, g.even);
}

pub fronts_back : (many : ℕ) (a b : List Lexeme) → Even a b → Fronts many b → Fronts many a
fronts_back many a b h g = record {
  front = h.front ++ g.front;
  rest = g.rest;
  whole = joined_up a b g.rest h.front g.front h.whole g.whole;
  count = omega (arith, opened_append h.front g.front, closed_append h.front g.front, h.even, g.count);
}

pub even_word : (what : Kind) (a b : List Lexeme) → opens what ≡ 0 → closes what ≡ 0 → Is what a b → Even a b
even_word what a b o c h = record {
  front = h.0 ∷ [];
  whole = h.1;
  even = omega (arith, ap opens h.2, ap closes h.2, o, c);
}

-- over words that close what they open
abbrev pub walk : ℕ → Walk
walk many = record {
  via = Even;
  fails = Fronts many;
  same = λ a. record { front = []; whole = refl; even = refl };
  on = even_on;
  back = fronts_back many;
  word = even_word;
}

closing_on : (a b c : List Lexeme) → Even a b → Closing b c → Closing a c
closing_on a b c h g = record {
  front = h.front ++ g.front;
  whole = joined_up a b c h.front g.front h.whole g.whole;
  more = omega (arith, opened_append h.front g.front, closed_append h.front g.front, h.even, g.more);
}

closing_word : (a b : List Lexeme) → Is k.RightParenthesis a b → Closing a b
closing_word a b h = record {
  front = h.0 ∷ [];
  whole = h.1;
  more = let o : opens k.RightParenthesis ≡ 0 = refl in let c : closes k.RightParenthesis ≡ 1 = refl in omega (arith, ap opens h.2, ap closes h.2, o, c);
}

-- behind an opening parenthesis
even_closed : (a b c : List Lexeme) → Is k.LeftParenthesis a b → Closing b c → Even a c
even_closed a b c h g = record {
  front = h.0 ∷ g.front;
  whole = h.1 ∙ ap (λ l. h.0 ∷ l) g.whole;
  even = let o : opens k.LeftParenthesis ≡ 1 = refl in let c : closes k.LeftParenthesis ≡ 0 = refl in omega (arith, ap opens h.2, ap closes h.2, o, c, g.more);
}

pub one_more_open : (many : ℕ) (a b : List Lexeme) → Is k.LeftParenthesis a b → Fronts many b → Fronts (suc many) a
one_more_open many a b h g = record {
  front = h.0 ∷ g.front;
  rest = g.rest;
  whole = h.1 ∙ ap (λ l. h.0 ∷ l) g.whole;
  count = let o : opens k.LeftParenthesis ≡ 1 = refl in let c : closes k.LeftParenthesis ≡ 0 = refl in omega (arith, ap opens h.2, ap closes h.2, o, c, g.count);
}

-- an outcome where a parenthesis is to be opened
pub Opened : {A : Type 0} → ℕ → List Lexeme → Outcome A → Type 0
Opened many ts (Ok r) = Is k.LeftParenthesis ts r.1
Opened many ts (Err too_deep) = Fronts (suc many) ts
Opened many ts (Err unexpected) = Unit {0}

-- an outcome where one is to be closed
pub Closed : {A : Type 0} → ℕ → List Lexeme → Outcome A → Type 0
Closed many ts (Ok r) = Closing ts r.1
Closed many ts (Err too_deep) = Fronts many ts
Closed many ts (Err unexpected) = Unit {0}

-- an outcome where one stays open
pub record OneOpen (ts us : List Lexeme) : Type 0 where
  mid : List Lexeme
  left : Is k.LeftParenthesis ts mid
  even : Even mid us

pub Started : {A : Type 0} → ℕ → List Lexeme → Outcome A → Type 0
Started many ts (Ok r) = OneOpen ts r.1
Started many ts (Err too_deep) = Fronts (suc many) ts
Started many ts (Err unexpected) = Unit {0}

opening_opened : (many : ℕ) (ts : List Lexeme) → Opened many ts (opening many ts)
unfolding opening Opened expect
opening_opened zero ts = by_test (sees k.LeftParenthesis ts) refl
  where
    by_test : (b : Bool) → sees k.LeftParenthesis ts ≡ b → Opened {A = ℕ} zero ts (cond b (Err too_deep) (Err unexpected))
    by_test true g = one_more_open zero ts (next ts) (taken k.LeftParenthesis ts g) (record { front = []; rest = next ts; whole = refl; count = omega arith })
    by_test false g = tt
opening_opened (suc n) ts = by_test (sees k.LeftParenthesis ts) refl
  where
    by_test : (b : Bool) → sees k.LeftParenthesis ts ≡ b → Opened {A = ℕ} (suc n) ts (cond b (Ok (place ts, next ts)) (Err unexpected))
    by_test true g = taken k.LeftParenthesis ts g
    by_test false g = tt

module _ (many : ℕ) where
  closed_from : {A : Type 0} (ts us : List Lexeme) (r : Outcome A) → Even ts us → Closed many us r → Closed many ts r
  unfolding Closed
  closed_from ts us (Ok r) v h = closing_on ts us r.1 v h
  closed_from ts us (Err too_deep) v h = fronts_back many ts us v h
  closed_from ts us (Err unexpected) v h = tt

  closed_then : {A B : Type 0} (ts : List Lexeme) (r : Outcome A) (f : A → Parser B) → Tamed (walk many) ts r → ((a : A) (us : List Lexeme) → Closed many us (f a us)) → Closed many ts (and_then r f)
  unfolding Closed Tamed
  closed_then ts (Ok p) f h g = closed_from ts p.1 (f p.0 p.1) h (g p.0 p.1)
  closed_then ts (Err too_deep) f h g = h
  closed_then ts (Err unexpected) f h g = tt

  close_here : {A : Type 0} (a : A) (ts : List Lexeme) → Closed many ts (and_then (expect k.RightParenthesis ts) (λ _. pure a))
  unfolding Closed expect
  close_here a ts = by_test (sees k.RightParenthesis ts) refl
    where
      by_test : (b : Bool) → sees k.RightParenthesis ts ≡ b → Closed many ts (and_then (cond b (Ok (place ts, next ts)) (Err unexpected)) (λ _. pure a))
      by_test true g = closing_word ts (next ts) (taken k.RightParenthesis ts g)
      by_test false g = tt

  if_closed : {A : Type 0} (b : Bool) (p q : Parser A) (ts : List Lexeme) → Closed many ts (p ts) → Closed many ts (q ts) → Closed many ts (cond b p q ts)
  if_closed true p q ts h g = h
  if_closed false p q ts h g = g

  enclose : {A : Type 0} (ts us : List Lexeme) (r : Outcome A) → Is k.LeftParenthesis ts us → Closed many us r → Tamed (walk (suc many)) ts r
  unfolding Closed Tamed
  enclose ts us (Ok r) h g = even_closed ts us r.1 h g
  enclose ts us (Err too_deep) h g = one_more_open many ts us h g
  enclose ts us (Err unexpected) h g = tt

  opened_then : {A B : Type 0} (ts : List Lexeme) (r : Outcome A) (f : A → Parser B) → Opened many ts r → ((a : A) (us : List Lexeme) → Closed many us (f a us)) → Tamed (walk (suc many)) ts (and_then r f)
  unfolding Opened Tamed
  opened_then ts (Ok p) f h g = enclose ts p.1 (f p.0 p.1) h (g p.0 p.1)
  opened_then ts (Err too_deep) f h g = h
  opened_then ts (Err unexpected) f h g = tt

  start : {A : Type 0} (ts us : List Lexeme) (r : Outcome A) → Is k.LeftParenthesis ts us → Tamed (walk many) us r → Started many ts r
  unfolding Started Tamed
  start ts us (Ok r) h g = record { mid = us; left = h; even = g }
  start ts us (Err too_deep) h g = one_more_open many ts us h g
  start ts us (Err unexpected) h g = tt

  opened_start : {A B : Type 0} (ts : List Lexeme) (r : Outcome A) (f : A → Parser B) → Opened many ts r → ((a : A) (us : List Lexeme) → Tamed (walk many) us (f a us)) → Started many ts (and_then r f)
  unfolding Opened Started
  opened_start ts (Ok p) f h g = start ts p.1 (f p.0 p.1) h (g p.0 p.1)
  opened_start ts (Err too_deep) f h g = h
  opened_start ts (Err unexpected) f h g = tt

  started_then : {A B : Type 0} (ts : List Lexeme) (r : Outcome A) (f : A → Parser B) → Started many ts r → ((a : A) (us : List Lexeme) → Closed many us (f a us)) → Tamed (walk (suc many)) ts (and_then r f)
  unfolding Started Tamed
  started_then ts (Ok p) f h g = enclose ts h.mid (f p.0 p.1) h.left (closed_from h.mid p.1 (f p.0 p.1) h.even (g p.0 p.1))
  started_then ts (Err too_deep) f h g = h
  started_then ts (Err unexpected) f h g = tt

highest_plain : (op : HighestOperator) → (opens (highest_word op) ≡ 0) × (closes (highest_word op) ≡ 0)
highest_plain before.Abs = (refl, refl)
highest_plain before.Not = (refl, refl)

multiplying_plain : (op : MultiplyingOperator) → (opens (multiplying op) ≡ 0) × (closes (multiplying op) ≡ 0)
multiplying_plain multiplies.Times = (refl, refl)
multiplying_plain multiplies.Divide = (refl, refl)
multiplying_plain multiplies.Mod = (refl, refl)
multiplying_plain multiplies.Rem = (refl, refl)

adding_plain : (op : AddingOperator) → (opens (adding op) ≡ 0) × (closes (adding op) ≡ 0)
adding_plain adds.Plus = (refl, refl)
adding_plain adds.Minus = (refl, refl)

multiplying_even : (op : MultiplyingOperator) (ts : List Lexeme) → operator multiplying_of ts ≡ Some op → Even ts (next ts)
multiplying_even op ts e = even_word (multiplying op) ts (next ts) (multiplying_plain op).0 (multiplying_plain op).1 (multiplying_at ts op e)

adding_even : (op : AddingOperator) (ts : List Lexeme) → operator adding_of ts ≡ Some op → Even ts (next ts)
adding_even op ts e = let h = adding_at ts op e in even_word (adding op) ts (next ts) (adding_plain op).0 (adding_plain op).1 (h.0, h.1, h.2)

relational_plain : (op : RelationalOperator) → (opens (relational op) ≡ 0) × (closes (relational op) ≡ 0)
relational_plain relates.Equal = (refl, refl)
relational_plain relates.NotEqual = (refl, refl)
relational_plain relates.Less = (refl, refl)
relational_plain relates.LessEqual = (refl, refl)
relational_plain relates.Greater = (refl, refl)
relational_plain relates.GreaterEqual = (refl, refl)

module _ (w : Walk) where
  joining_tame : Tame w joining
  unfolding joining
  joining_tame = eat_tame w k.And refl refl ⊳ (λ a. if_tame w a _ _
      (eat_tame w k.Then refl refl ⊳ (λ s. pure_tame w (Some (if s then logic.AndThen else logic.And))))
      (eat_tame w k.Or refl refl ⊳ (λ o. if_tame w o _ _
      (eat_tame w k.Else refl refl ⊳ (λ s. pure_tame w (Some (if s then logic.OrElse else logic.Or))))
      (eat_tame w k.Xor refl refl ⊳ (λ x. pure_tame w (if x then Some logic.Xor else None))))))

  both_words_tame : (first second : Kind) → opens first ≡ 0 → closes first ≡ 0 → opens second ≡ 0 → closes second ≡ 0 → Tame w (both_words first second)
  unfolding both_words
  both_words_tame first second o c p d = eat_tame w first o c ⊳ (λ a. if_tame w a _ _ (expect_tame w second p d ⊳ (λ _. pure_tame w true)) (pure_tame w false))

  joined_tame : (op : LogicalOperator) → Tame w (joined op)
  joined_tame logic.And = eat_tame w k.And refl refl
  joined_tame logic.Or = eat_tame w k.Or refl refl
  joined_tame logic.Xor = eat_tame w k.Xor refl refl
  joined_tame logic.AndThen = both_words_tame k.And k.Then refl refl refl refl
  joined_tame logic.OrElse = both_words_tame k.Or k.Else refl refl refl refl

-- {operator x}
module _ (w : Walk) {O A : Type 0} (of : Kind → Option O) (item : Parser t.Expression) (part : O → t.Expression → A) (item_tame : Tame w item) (over : (op : O) (ts : List Lexeme) → operator of ts ≡ Some op → w.via ts (next ts)) where
  linked_by_tame : (again : List A → Parser (List A)) → ((found : List A) → Tame w (again found)) → (found : List A) (ts : List Lexeme) (o : Option O) → operator of ts ≡ o → Tamed w ts (linked_by of item part again found o ts)
  linked_by_tame again again_tame found ts None e = here_tamed w found ts
  linked_by_tame again again_tame found ts (Some op) e =
      from_there w ts (next ts) _ (over op ts e)
      (then_tamed w (next ts) (item (next ts)) _ (item_tame.at (next ts)) (λ e. again_tame (found ++ part op e ∷ [])))

  linked_from_tame : (n : ℕ) (found : List A) → Tame w (linked_from of item part n found)
  unfolding linked_from
  linked_from_tame zero found = pure_tame w found
  linked_from_tame (suc n) found = record { at = λ ts. linked_by_tame (linked_from of item part n) (linked_from_tame n) found ts (operator of ts) refl }

  linked_tame : Tame w (linked of item part)
  unfolding linked
  linked_tame = record { at = λ ts. (linked_from_tame (length ts) []).at ts }

module _ (many : ℕ) (opens_here : Parser ℕ) (opens_it : (ts : List Lexeme) → Opened many ts (opens_here ts)) (inner : Parser t.Expression) (inner_tame : Tame (walk many) inner) where
  parenthesized_tame : Tame (walk (suc many)) (parenthesized opens_here inner)
  unfolding parenthesized
  parenthesized_tame = record { at = λ ts. opened_then many ts (opens_here ts) _ (opens_it ts) (λ at us. closed_then many us (inner us) _ (inner_tame.at us) (λ e vs. close_here many _ vs)) }

  arguments_from_closed : (n : ℕ) (found : List t.Expression) (ts : List Lexeme) → Closed many ts (arguments_from opens_here inner n found ts)
  unfolding arguments_from Closed
  arguments_from_closed zero found ts = tt
  arguments_from_closed (suc n) found ts = closed_from many ts (after k.Comma ts) _ (after_via (walk many) k.Comma ts refl refl)
      (if_closed many (sees k.Comma ts) _ _ (after k.Comma ts)
      (closed_then many (after k.Comma ts) (inner (after k.Comma ts)) _ (inner_tame.at (after k.Comma ts)) (λ e us. arguments_from_closed n (found ++ e ∷ []) us))
      (close_here many found (after k.Comma ts)))

  pub arguments_tame : Tame (walk (suc many)) (arguments opens_here inner)
  unfolding arguments
  arguments_tame = record {
    at = λ ts. started_then many ts (and_then (opens_here ts) (λ _. inner)) _ (opened_start many ts (opens_here ts) (λ _. inner) (opens_it ts) (λ _ us. inner_tame.at us))
        (λ e us. arguments_from_closed (length us) (e ∷ []) us);
  }

  abbrev w : Walk
  w = walk (suc many)

  named_tame : Tame w (named opens_here inner)
  unfolding named
  named_tame = name_tame w ⊳ (λ n. eat_tame w k.Apostrophe refl refl ⊳ (λ is_attribute. if_tame w is_attribute _ _ (identifier_tame w ⊳ (λ i. pure_tame w (t.attribute n i)))
      (choice_tame w (sees k.LeftParenthesis) _ _ (arguments_tame ⊳ (λ es. pure_tame w (t.call n (t.expressions_of es)))) (pure_tame w (t.name n)))))

  primary_tame : Tame w (primary opens_here inner)
  unfolding primary literal
  primary_tame = record {
    at = λ ts. if_tamed w (sees k.Literal ts) _ _ ts (λ g. word_tamed w k.Literal _ ts (next ts) refl refl (taken k.Literal ts g))
        (λ g. if_tamed w (sees k.Identifier ts) _ _ ts (λ g. named_tame.at ts) (λ g. parenthesized_tame.at ts));
  }

  factor_tame : Tame w (factor opens_here inner)
  unfolding factor
  factor_tame = record { at = λ ts. by_operator ts (operator highest_of ts) refl }
    where
      by_operator : (ts : List Lexeme) (o : Option HighestOperator) → operator highest_of ts ≡ o → Tamed w ts (factor_by opens_here inner o ts)
      by_operator ts None e = primary_tame.at ts
      by_operator ts (Some op) e =
          let h = highest_at ts op e in
          from_there w ts (next ts) _ (even_word (highest_word op) ts (next ts) (highest_plain op).0 (highest_plain op).1 (h.0, h.1, h.2))
          (then_tamed w (next ts) (primary opens_here inner (next ts)) _ (primary_tame.at (next ts)) (λ e. pure_tame w _))

  factors_tame : Tame w (factors opens_here inner)
  factors_tame = linked_tame w multiplying_of (factor opens_here inner) t.factor_by factor_tame multiplying_even

  term_tame : Tame w (term opens_here inner)
  unfolding term
  term_tame = factor_tame ⊳ (λ first. factors_tame ⊳ (λ more. pure_tame w (product_of opens_here inner first more)))

  signed_term_by_tame : (ts : List Lexeme) (o : Option AddingOperator) → operator adding_of ts ≡ o → Tamed w ts (signed_term_by opens_here inner o ts)
  signed_term_by_tame ts None e = term_tame.at ts
  signed_term_by_tame ts (Some op) e =
      from_there w ts (next ts) _ (adding_even op ts e)
      (then_tamed w (next ts) (term opens_here inner (next ts)) _ (term_tame.at (next ts)) (λ e. pure_tame w _))

  signed_term_tame : Tame w (signed_term opens_here inner)
  unfolding signed_term
  signed_term_tame = record { at = λ ts. signed_term_by_tame ts (operator adding_of ts) refl }

  terms_tame : Tame w (terms opens_here inner)
  terms_tame = linked_tame w adding_of (term opens_here inner) t.term_by term_tame adding_even

  simple_tame : Tame w (simple opens_here inner)
  unfolding simple
  simple_tame = signed_term_tame ⊳ (λ first. terms_tame ⊳ (λ more. pure_tame w (sum_of opens_here inner first more)))

  relation_by_tame : (first : t.Expression) (ts : List Lexeme) (o : Option RelationalOperator) → operator relational_of ts ≡ o → Tamed w ts (relation_by opens_here inner first o ts)
  relation_by_tame first ts None e = here_tamed w first ts
  relation_by_tame first ts (Some op) e =
      from_there w ts (next ts) _ (even_word (relational op) ts (next ts) (relational_plain op).0 (relational_plain op).1 (relational_at ts op e))
      (then_tamed w (next ts) (simple opens_here inner (next ts)) _ (simple_tame.at (next ts)) (λ e. pure_tame w _))

  relation_tame : Tame w (relation opens_here inner)
  unfolding relation
  relation_tame = simple_tame ⊳ (λ first. record { at = λ ts. relation_by_tame first ts (operator relational_of ts) refl })

  relations_from_tame : (op : LogicalOperator) (n : ℕ) (found : List t.Expression) → Tame w (relations_from opens_here inner op n found)
  unfolding relations_from
  relations_from_tame op zero found = refuse_tame w (List t.Expression)
  relations_from_tame op (suc n) found = relation_tame ⊳ (λ e. joined_tame w op ⊳ (λ goes_on. if_tame w goes_on _ _ (relations_from_tame op n (found ++ e ∷ [])) (pure_tame w (found ++ e ∷ []))))

  relations_tame : (op : LogicalOperator) → Tame w (relations opens_here inner op)
  unfolding relations
  relations_tame op = record { at = λ ts. (relations_from_tame op (length ts) []).at ts }

  whole_by_tame : (first : t.Expression) (o : Option LogicalOperator) → Tame w (whole_by opens_here inner first o)
  whole_by_tame first None = pure_tame w first
  whole_by_tame first (Some op) = relations_tame op ⊳ (λ more. pure_tame w _)

  pub whole_tame : Tame w (whole opens_here inner)
  unfolding whole
  whole_tame = relation_tame ⊳ (λ first. joining_tame w ⊳ (λ op. whole_by_tame first op))

pub expression_tame : (n : ℕ) → Tame (walk (suc n)) (expression n)
unfolding expression
expression_tame zero = whole_tame zero (opening zero) (opening_opened zero) refuse (refuse_tame (walk zero) t.Expression)
expression_tame (suc n) = whole_tame (suc n) (opening (suc n)) (opening_opened (suc n)) (expression n) (expression_tame n)

pub inside_tame : (n : ℕ) → Tame (walk n) (inside n)
unfolding inside
inside_tame zero = refuse_tame (walk zero) t.Expression
inside_tame (suc n) = expression_tame n

-- arguments where so many parentheses may be open
pub arguments_within : (n : ℕ) → Tame (walk (suc n)) (arguments (opening n) (inside n))
arguments_within n = arguments_tame n (opening n) (opening_opened n) (inside n) (inside_tame n)
