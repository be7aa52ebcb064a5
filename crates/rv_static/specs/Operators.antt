-- What operators give on numbers that are evaluated; False is 0, and True is 1 (ISO/IEC 8652:2012, 4.5).
use Rattle.std.specs.Prelude.{ℤ, pos, neg_ℤ, unsigned_abs, ◌+ℤ◌, ◌-ℤ◌, ◌*ℤ◌, int_le, int_lt, Bool, true, false, ◌&&◌, ◌||◌, not, if◌then◌else◌, Option, Some, None, Result, Ok, Err}
use Rattle.std.specs.Int.RustNames.{int_div, int_rem}
use Rattle.rv_tree.specs.declared.expression.AddingOperator.{AddingOperator}
use Rattle.rv_tree.specs.declared.expression.AddingOperator.TheVariants as adding
use Rattle.rv_tree.specs.declared.expression.MultiplyingOperator.{MultiplyingOperator}
use Rattle.rv_tree.specs.declared.expression.MultiplyingOperator.TheVariants as multiplying
use Rattle.rv_tree.specs.declared.expression.RelationalOperator.{RelationalOperator}
use Rattle.rv_tree.specs.declared.expression.RelationalOperator.TheVariants as relational
use Rattle.rv_tree.specs.declared.expression.LogicalOperator.{LogicalOperator}
use Rattle.rv_tree.specs.declared.expression.LogicalOperator.TheVariants as logical
use Rattle.rv_value.specs.declared.arithmetic.Arith.{Arith}
use Rattle.rv_value.specs.Arithmetic.{whole, divided, modulus, is_zero}
use Rattle.rv_static.specs.declared.meaning.Number.{Number}
use Rattle.rv_static.specs.declared.meaning.Number.TheVariants.{Known, Skipped}

-- the whole number that an operator gives, if there is one
abbrev pub known : Result ℤ Arith → Option Number
known (Ok z) = Some (Known z)
known (Err fault) = None

-- a sign (4.5.4)
abbrev pub signed_number : AddingOperator → Number → Option Number
signed_number op Skipped = Some Skipped
signed_number adding.Plus (Known z) = Some (Known z)
signed_number adding.Minus (Known z) = known (whole (neg_ℤ z))

-- `abs` (4.5.6)
abbrev pub absolute : Number → Option Number
absolute Skipped = Some Skipped
absolute (Known z) = known (whole (pos (unsigned_abs z)))

-- `+` and `-` (4.5.3)
abbrev pub adds : AddingOperator → ℤ → ℤ → Result ℤ Arith
adds adding.Plus a b = whole (a +ℤ b)
adds adding.Minus a b = whole (a -ℤ b)

-- `*`, `/`, `mod` and `rem` (4.5.5)
abbrev pub multiplies : MultiplyingOperator → ℤ → ℤ → Result ℤ Arith
multiplies multiplying.Times a b = whole (a *ℤ b)
multiplies multiplying.Divide a b = divided b (int_div a b)
multiplies multiplying.Mod a b = divided b (modulus a b)
multiplies multiplying.Rem a b = divided b (int_rem a b)

-- two numbers, where both are evaluated
abbrev pub both : Number → Number → Option (ℤ × ℤ)
both Skipped n = None
both (Known a) Skipped = None
both (Known a) (Known b) = Some (a, b)

-- what an operator gives on both, where they are evaluated
abbrev pub given : (ℤ → ℤ → Result ℤ Arith) → Option (ℤ × ℤ) → Option Number
given operator None = Some Skipped
given operator (Some pair) = known (operator pair.0 pair.1)

abbrev pub added : AddingOperator → Number → Number → Option Number
added op a b = given (adds op) (both a b)

abbrev pub multiplied : MultiplyingOperator → Number → Number → Option Number
multiplied op a b = given (multiplies op) (both a b)

-- the number of a truth value
abbrev pub truth : Bool → ℤ
truth true = pos 1
truth false = pos 0

-- a truth value is True
abbrev pub is_true : ℤ → Bool
is_true z = not (is_zero z)

-- whether a relation holds (4.5.2)
abbrev pub holds : RelationalOperator → ℤ → ℤ → Bool
holds relational.Equal a b = int_le a b && int_le b a
holds relational.NotEqual a b = not (int_le a b && int_le b a)
holds relational.Less a b = int_lt a b
holds relational.LessEqual a b = int_le a b
holds relational.Greater a b = int_lt b a
holds relational.GreaterEqual a b = int_le b a

-- the truth of a relation of both, where they are evaluated
abbrev pub held : RelationalOperator → Option (ℤ × ℤ) → Number
held op None = Skipped
held op (Some pair) = Known (truth (holds op pair.0 pair.1))

abbrev pub related : RelationalOperator → Number → Number → Number
related op a b = held op (both a b)

-- `not` (4.5.6)
abbrev pub negated : Number → Number
negated Skipped = Skipped
negated (Known z) = Known (truth (not (is_true z)))

-- `and`, `or`, `xor` on two truth values, and the short-circuit forms on a left one that doesn't decide (4.5.1)
abbrev pub joins : LogicalOperator → Bool → Bool → Bool
joins logical.And a b = a && b
joins logical.Or a b = a || b
joins logical.Xor a b = (a && not b) || (b && not a)
joins logical.AndThen a b = a && b
joins logical.OrElse a b = a || b

-- whether the left operand decides a short-circuit form
abbrev pub decides : LogicalOperator → Number → Bool
decides logical.And n = false
decides logical.Or n = false
decides logical.Xor n = false
decides logical.AndThen Skipped = false
decides logical.AndThen (Known z) = not (is_true z)
decides logical.OrElse Skipped = false
decides logical.OrElse (Known z) = is_true z

-- the right operand isn't evaluated where the left one decides
abbrev pub joined : LogicalOperator → Number → Number → Number
joined op Skipped n = Skipped
joined op (Known a) Skipped = if decides op (Known a) then Known a else Skipped
joined op (Known a) (Known b) = if decides op (Known a) then Known a else Known (truth (joins op (is_true a) (is_true b)))
