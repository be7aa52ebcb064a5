-- What the kinds of operators stand for.
use Rattle.std.proofs.Common.{◌≡◌, inl, inr, Bool, true, false, cond, List, [], ◌∷◌, Option, Some, None, Ok, refl, sym, ap, ◌∙◌, subst}
use Rattle.rv_lex.specs.declared.kind.Kind.{Kind}
use Rattle.rv_lex.specs.declared.kind.Kind.TheVariants as k
use Rattle.rv_lex.specs.Lexes.{Lexeme}
use Rattle.rv_tree.specs.declared.expression.LogicalOperator.{LogicalOperator}
use Rattle.rv_tree.specs.declared.expression.LogicalOperator.TheVariants as logic
use Rattle.rv_tree.specs.declared.expression.RelationalOperator.{RelationalOperator}
use Rattle.rv_tree.specs.declared.expression.RelationalOperator.TheVariants as relates
use Rattle.rv_tree.specs.declared.expression.AddingOperator.{AddingOperator}
use Rattle.rv_tree.specs.declared.expression.AddingOperator.TheVariants as adds
use Rattle.rv_tree.specs.declared.expression.MultiplyingOperator.{MultiplyingOperator}
use Rattle.rv_tree.specs.declared.expression.MultiplyingOperator.TheVariants as multiplies
use Rattle.rv_tree.specs.declared.expression.HighestOperator.{HighestOperator}
use Rattle.rv_tree.specs.declared.expression.HighestOperator.TheVariants as before
use Rattle.rv_tree.specs.Phrases.{Phrase, ◌⨾◌, Is, IsAt, Nothing}
use Rattle.rv_tree.specs.ExpressionGrammar.{IsLogical, relational, adding, multiplying, highest_word}
use Rattle.rv_grammar.specs.Reading.{sees, next, after, place, eat, expect, kind}
use Rattle.rv_grammar.specs.ExpressionRules.{operator, relational_of, adding_of, multiplying_of, highest_of, joining, both_words, joined}
use Rattle.rv_grammar.proofs.Steps.{bind_ok, ok_is, branch_ok, eaten, not_eaten, expected}

relational_means : (w : Kind) (op : RelationalOperator) → relational_of w ≡ Some op → w ≡ relational op
relational_means k.Equal op h = let e : relates.Equal ≡ op = cc in ap relational e
relational_means k.NotEqual op h = let e : relates.NotEqual ≡ op = cc in ap relational e
relational_means k.Less op h = let e : relates.Less ≡ op = cc in ap relational e
relational_means k.LessEqual op h = let e : relates.LessEqual ≡ op = cc in ap relational e
relational_means k.Greater op h = let e : relates.Greater ≡ op = cc in ap relational e
relational_means k.GreaterEqual op h = let e : relates.GreaterEqual ≡ op = cc in ap relational e
relational_means _ op h = absurd cc

adding_means : (w : Kind) (op : AddingOperator) → adding_of w ≡ Some op → w ≡ adding op
adding_means k.Plus op h = let e : adds.Plus ≡ op = cc in ap adding e
adding_means k.Minus op h = let e : adds.Minus ≡ op = cc in ap adding e
adding_means _ op h = absurd cc

multiplying_means : (w : Kind) (op : MultiplyingOperator) → multiplying_of w ≡ Some op → w ≡ multiplying op
multiplying_means k.Times op h = let e : multiplies.Times ≡ op = cc in ap multiplying e
multiplying_means k.Divide op h = let e : multiplies.Divide ≡ op = cc in ap multiplying e
multiplying_means k.Mod op h = let e : multiplies.Mod ≡ op = cc in ap multiplying e
multiplying_means k.Rem op h = let e : multiplies.Rem ≡ op = cc in ap multiplying e
multiplying_means _ op h = absurd cc

highest_means : (w : Kind) (op : HighestOperator) → highest_of w ≡ Some op → w ≡ highest_word op
highest_means k.Abs op h = let e : before.Abs ≡ op = cc in ap highest_word e
highest_means k.Not op h = let e : before.Not ≡ op = cc in ap highest_word e
highest_means _ op h = absurd cc

operator_at : {A : Type 0} (of : Kind → Option A) (word : A → Kind) → ((w : Kind) (op : A) → of w ≡ Some op → w ≡ word op) → (ts : List Lexeme) (op : A) → operator of ts ≡ Some op → IsAt (word op) (place ts) ts (next ts)
unfolding operator kind next place
operator_at of word means [] op h = absurd cc
operator_at of word means (t ∷ ts) op h = (t, refl, means t.kind op h, refl)

pub relational_at : (ts : List Lexeme) (op : RelationalOperator) → operator relational_of ts ≡ Some op → Is (relational op) ts (next ts)
relational_at ts op h = let s = operator_at relational_of relational relational_means ts op h in (s.0, s.1, s.2)

pub adding_at : (ts : List Lexeme) (op : AddingOperator) → operator adding_of ts ≡ Some op → IsAt (adding op) (place ts) ts (next ts)
adding_at ts op h = operator_at adding_of adding adding_means ts op h

pub multiplying_at : (ts : List Lexeme) (op : MultiplyingOperator) → operator multiplying_of ts ≡ Some op → Is (multiplying op) ts (next ts)
multiplying_at ts op h = let s = operator_at multiplying_of multiplying multiplying_means ts op h in (s.0, s.1, s.2)

pub highest_at : (ts : List Lexeme) (op : HighestOperator) → operator highest_of ts ≡ Some op → IsAt (highest_word op) (place ts) ts (next ts)
highest_at ts op h = operator_at highest_of highest_word highest_means ts op h

-- what an operator that may be there is
abbrev pub IsJoining : Option LogicalOperator → Phrase
IsJoining None = Nothing
IsJoining (Some op) = IsLogical op

short_by : (first second : Kind) (long short : LogicalOperator) → IsLogical long ≡ Is first → IsLogical short ≡ (Is first ⨾ Is second) → (a b : List Lexeme) → Is first a b → (seen : Bool) → sees second b ≡ seen → IsLogical (cond seen short long) a (after second b)
short_by first second long short l s a b h true g = let P : Phrase → Type 0 = λ p. p a (after second b) in subst P (sym s) (b, h, eaten second b g)
short_by first second long short l s a b h false g = let P : Phrase → Type 0 = λ p. p a (after second b) in subst P (sym l) (subst (λ us. Is first a us) (sym (not_eaten second b g)) h)

pub joining_sound : (ts : List Lexeme) (r : Option LogicalOperator × List Lexeme) → joining ts ≡ Ok r → IsJoining r.0 ts r.1
unfolding joining
joining_sound ts r h = elim (branch_ok (sees k.And ts) _ _ _ r h) [
  | inl g ↦ subst (λ (q : Option LogicalOperator × List Lexeme). IsJoining q.0 ts q.1) (ok_is _ _ g.1)
      (short_by k.And k.Then logic.And logic.AndThen refl refl ts (after k.And ts) (eaten k.And ts g.0) (sees k.Then (after k.And ts)) refl)
  | inr g ↦
      let same = not_eaten k.And ts g.0 in
      elim (branch_ok (sees k.Or (after k.And ts)) _ _ _ r g.1) [
        | inl m ↦ subst (λ (q : Option LogicalOperator × List Lexeme). IsJoining q.0 ts q.1) (ok_is _ _ m.1)
            (short_by k.Or k.Else logic.Or logic.OrElse refl refl ts (after k.Or (after k.And ts)) (subst (λ us. Is k.Or us (after k.Or (after k.And ts))) same (eaten k.Or _ m.0)) (sees k.Else (after k.Or (after k.And ts))) refl)
        | inr m ↦
            let same_2 = not_eaten k.Or (after k.And ts) m.0 ∙ same in
            subst (λ (q : Option LogicalOperator × List Lexeme). IsJoining q.0 ts q.1) (ok_is _ _ m.1)
            (xor_by (after k.Or (after k.And ts)) same_2 (sees k.Xor (after k.Or (after k.And ts))) refl)
      ]
]
  where
    xor_by : (us : List Lexeme) → us ≡ ts → (seen : Bool) → sees k.Xor us ≡ seen → IsJoining (cond seen (Some logic.Xor) None) ts (after k.Xor us)
    xor_by us same true g = subst (λ vs. Is k.Xor vs (after k.Xor us)) same (eaten k.Xor us g)
    xor_by us same false g = sym same ∙ sym (not_eaten k.Xor us g)

-- what was read where an operator was looked for
abbrev pub IsJoined : LogicalOperator → Bool → Phrase
IsJoined op true = IsLogical op
IsJoined op false = Nothing

eat_sound : (what : Kind) (op : LogicalOperator) → IsLogical op ≡ Is what → (ts : List Lexeme) (r : Bool × List Lexeme) → eat what ts ≡ Ok r → IsJoined op r.0 ts r.1
eat_sound what op l ts r h = subst (λ (q : Bool × List Lexeme). IsJoined op q.0 ts q.1) (ok_is _ _ h) (by_test (sees what ts) refl)
  where
    by_test : (b : Bool) → sees what ts ≡ b → IsJoined op b ts (after what ts)
    by_test true g = let P : Phrase → Type 0 = λ p. p ts (after what ts) in subst P (sym l) (eaten what ts g)
    by_test false g = sym (not_eaten what ts g)

both_sound : (first second : Kind) (op : LogicalOperator) → IsLogical op ≡ (Is first ⨾ Is second) → (ts : List Lexeme) (r : Bool × List Lexeme) → both_words first second ts ≡ Ok r → IsJoined op r.0 ts r.1
unfolding both_words
both_sound first second op l ts r h = elim (branch_ok (sees first ts) _ _ _ r h) [
  | inl g ↦
      let a = bind_ok (expect second (after first ts)) _ r g.1 in
      let P : Phrase → Type 0 = λ p. p ts a.0.1 in
      subst (λ (q : Bool × List Lexeme). IsJoined op q.0 ts q.1) (ok_is _ _ a.2) (subst P (sym l) (after first ts, eaten first ts g.0, expected second _ a.0 a.1))
  | inr g ↦ subst (λ (q : Bool × List Lexeme). IsJoined op q.0 ts q.1) (ok_is _ _ g.1) (sym (not_eaten first ts g.0))
]

pub joined_sound : (op : LogicalOperator) (ts : List Lexeme) (r : Bool × List Lexeme) → joined op ts ≡ Ok r → IsJoined op r.0 ts r.1
joined_sound logic.And ts r h = eat_sound k.And logic.And refl ts r h
joined_sound logic.Or ts r h = eat_sound k.Or logic.Or refl ts r h
joined_sound logic.Xor ts r h = eat_sound k.Xor logic.Xor refl ts r h
joined_sound logic.AndThen ts r h = both_sound k.And k.Then logic.AndThen refl ts r h
joined_sound logic.OrElse ts r h = both_sound k.Or k.Else logic.OrElse refl ts r h
