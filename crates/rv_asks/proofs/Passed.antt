-- Values of arguments.
use Rattle.std.proofs.Common.{◌≡◌, ℕ, ◌+◌, ◌≤◌, ◌<◌, ℤ, Bool, true, false, cond, List, [], ◌∷◌, ◌++◌, length, map, filter, Option, Some, None, refl, sym, ap, ◌∙◌, subst, arith, append_assoc, append-nil}
use Rattle.std.specs.Prelude.{nat_le, nat_lt}
use Rattle.std.proofs.lemmas.List.{length-append}
use Rattle.std.proofs.lemmas.Bool.Decides.{nat_tests}
use Rattle.rv_shape.specs.declared.kind.Parameter.{Parameter}
use Rattle.rv_shape.specs.declared.kind.Range.{Range}
use Rattle.rv_shape.specs.Catalogue.{numbered, target}
use Rattle.rv_shape.specs.Kinds.{holds, goes_in}
use Rattle.rv_shape.specs.Objects.{OperationShape}
use Rattle.rv_shape.specs.Shape.{Shape}
use Rattle.rv_code.specs.declared.expression.Callee.{Callee}
use Rattle.rv_code.specs.declared.expression.Callee.TheVariants as callee
use Rattle.rv_code.specs.Expressions.{Expression, Expressions, no_expressions, and_expression}
use Rattle.rv_history.specs.Fitting.{all_fit, ranges_in}
use Rattle.rv_fits.proofs.Both.{first_of_both, second_of_both, both_hold}
use Rattle.rv_ranged.specs.Ranged.{gives, all_give, given_ranges, time_parameter, of_operation, of_target, take, suit}
use Rattle.rv_exec.specs.Activations.{joined}

-- an expression gave a value of each range that it gives values of alone
abbrev pub GivesSo : Expression → ℤ → Type 0
GivesSo e v = (range : Range) → gives range e ≡ true → holds range v ≡ true

-- expressions that give one value of each range gave them, behind those before
abbrev pub Passed : List ℤ → Expressions → List ℤ → Type 0
Passed before es values =
    (ranges : List Range) → all_give ranges es ≡ true → length before + length ranges ≤ 4 → (more : List ℤ) × (values ≡ before ++ more) × (all_fit ranges more ≡ true)

-- values are of the ranges that are wanted
abbrev pub SuitsValues : Option (List Parameter) → List ℤ → Type 0
SuitsValues None values = Unit {0}
SuitsValues (Some parameters) values = all_fit (ranges_in parameters) values ≡ true

pub passed_none : (before : List ℤ) → Passed before no_expressions before
passed_none before [] given few = ([], sym (append-nil before), refl)
passed_none before (range ∷ ranges) given few = absurd (cc given)

pub is_less : (n : ℕ) → n < 4 → nat_lt n 4 ≡ true
is_less n less = grind (arith, nat_tests)

pub joined_is : (before : List ℤ) (v : ℤ) → length before < 4 → joined before v ≡ before ++ v ∷ []
joined_is before v less = ap (λ (k : Bool). cond k (before ++ v ∷ []) before) (is_less (length before) less)

one_longer : (before : List ℤ) (v : ℤ) → length (before ++ v ∷ []) ≡ length before + 1
one_longer before v = length-append before (v ∷ [])

pub passed_more : (before : List ℤ) (e : Expression) (es : Expressions) (v : ℤ) → GivesSo e v → (values : List ℤ) → Passed (joined before v) es values → Passed before (and_expression e es) values
passed_more before e es v g values p [] given few = absurd (cc given)
passed_more before e es v g values p (range ∷ ranges) given few =
    let less : length before < 4 = omega (arith, few) in
    let is = joined_is before v less in
    let long : length (joined before v) ≡ length before + 1 = ap length is ∙ one_longer before v in
    let rest = p ranges (second_of_both (gives range e) (all_give ranges es) given) (omega (arith, long, few)) in (
      v ∷ rest.0,
      rest.1 ∙ (ap (λ (vs : List ℤ). vs ++ rest.0) is ∙ append_assoc before (v ∷ []) rest.0),
      both_hold (holds range v) (all_fit ranges rest.0) (g range (first_of_both (gives range e) (all_give ranges es) given)) rest.2,
    )

no_more : (ps : List Parameter) → length (given_ranges ps) ≤ length ps
no_more [] = omega arith
no_more (p ∷ ps) = by_mode (goes_in p.mode) (no_more ps) where
  by_mode : (k : Bool) → length (given_ranges ps) ≤ length ps → length (map (λ (q : Parameter). q.range) (cond k (p ∷ filter (λ (q : Parameter). goes_in q.mode) ps) (filter (λ (q : Parameter). goes_in q.mode) ps))) ≤ length (p ∷ ps)
  by_mode true less = omega (arith, less)
  by_mode false less = omega (arith, less)

pub four : (n : ℕ) → nat_le n 4 ≡ true → n ≤ 4
four n e = grind (arith, nat_tests)

take_passed : (wanted : Option (List Parameter)) (es : Expressions) (values : List ℤ) → take wanted es ≡ true → Passed [] es values → SuitsValues wanted values
take_passed None es values e p = tt
take_passed (Some ps) es values e p =
    let few = four (length ps) (first_of_both (nat_le (length ps) 4) (all_give (given_ranges ps) es) e) in
    let less = no_more ps in
    let got = p (given_ranges ps) (second_of_both (nat_le (length ps) 4) (all_give (given_ranges ps) es) e) (omega (arith, few, less)) in
    subst (λ (vs : List ℤ). all_fit (ranges_in ps) vs ≡ true) (sym got.1) got.2

-- the parameters of what is called, where these are the operations of the same object
abbrev pub wanted : List Shape → List OperationShape → Callee → Option (List Parameter)
wanted shapes own (callee.Internal operation) = of_operation (numbered own operation)
wanted shapes own (callee.OwnEntry operation) = of_operation (numbered own operation)
wanted shapes own (callee.Function object operation) = of_target (target shapes object operation)
wanted shapes own (callee.Procedure object operation) = of_target (target shapes object operation)
wanted shapes own (callee.Entry object operation) = of_target (target shapes object operation)
wanted shapes own callee.DelayUntil = Some (time_parameter ∷ [])
wanted shapes own other = None

-- so arguments that suit gave values that do
pub suits_passed : (shapes : List Shape) (own : List OperationShape) (c : Callee) (es : Expressions) (values : List ℤ) → suit shapes own c es ≡ true → Passed [] es values → SuitsValues (wanted shapes own c) values
suits_passed shapes own (callee.Internal operation) es values e p = take_passed (of_operation (numbered own operation)) es values e p
suits_passed shapes own (callee.OwnEntry operation) es values e p = take_passed (of_operation (numbered own operation)) es values e p
suits_passed shapes own (callee.Function object operation) es values e p = take_passed (of_target (target shapes object operation)) es values e p
suits_passed shapes own (callee.Procedure object operation) es values e p = take_passed (of_target (target shapes object operation)) es values e p
suits_passed shapes own (callee.Entry object operation) es values e p = take_passed (of_target (target shapes object operation)) es values e p
suits_passed shapes own callee.DelayUntil es values e p = take_passed (Some (time_parameter ∷ [])) es values e p
suits_passed shapes own c es values e p = tt
