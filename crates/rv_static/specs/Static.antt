-- The type and the value of a static expression (ISO/IEC 8652:2012, 4.9). An operand that a short-circuit form
-- doesn't evaluate has a type and no value. There is none at all where a type or a name doesn't fit, or where
-- a value that is evaluated isn't one of its type (own).
use Rattle.std.specs.Prelude.{ℕ, pos, Bool, true, false, codes, ◌&&◌, not, if◌then◌else◌, List, Option, Some, None}
use Rattle.rv_text.specs.Names.{is_same_name}
use Rattle.rv_tree.specs.Names.{Name}
use Rattle.rv_tree.specs.Expressions.{Expression, literal, name, attribute, call, parenthesized, highest, product, signed, sum, relation, logical, Expressions, no_expressions, and_expression, Factors, no_factors, and_factor, Terms, no_terms, and_term}
use Rattle.rv_tree.specs.declared.expression.HighestOperator.{HighestOperator}
use Rattle.rv_tree.specs.declared.expression.HighestOperator.TheVariants as operator
use Rattle.rv_tree.specs.declared.expression.LogicalOperator.{LogicalOperator}
use Rattle.rv_tree.specs.declared.expression.RelationalOperator.{RelationalOperator}
use Rattle.rv_shape.specs.declared.kind.ValueType.{ValueType}
use Rattle.rv_shape.specs.declared.kind.ValueType.TheVariants.{Integer, Boolean, Time, TimeSpan}
use Rattle.rv_value.specs.Arithmetic.{whole}
use Rattle.rv_static.specs.declared.meaning.Meaning.{Meaning}
use Rattle.rv_static.specs.declared.meaning.Meaning.TheVariants.{Subtype, Constant, Milliseconds, NotStatic}
use Rattle.rv_static.specs.declared.meaning.Number.{Number}
use Rattle.rv_static.specs.declared.meaning.Number.TheVariants.{Skipped}
use Rattle.rv_static.specs.declared.meaning.Static.{Static}
use Rattle.rv_static.specs.Meanings.{same_type, static_of_type, shown, constant_in, placed}
use Rattle.rv_static.specs.Operators.{known, signed_number, absolute, added, multiplied, related, negated, decides, joined}

-- a number of a type, if there is a number
abbrev pub of_type : ValueType → Option Number → Option Static
of_type t None = None
of_type t (Some n) = Some (static_of_type t n)

-- the number of a value of this type
abbrev pub number_in : ValueType → Option Static → Option Number
number_in t None = None
number_in t (Some v) = if same_type v.of t then Some v.number else None

-- a literal is an Integer (2.4)
abbrev pub literal_number : Bool → ℕ → Option Number
literal_number true n = known (whole (pos n))
literal_number false n = Some Skipped

-- the bound of a subtype of Integer that an attribute asks for: `First` or `Last` (3.5)
abbrev pub bound_of : Bool → Meaning → List ℕ → Option Number
bound_of ev (Subtype r) asked =
    if same_type r.of Integer then
    (if is_same_name asked (codes "First") then Some (shown ev r.low)
    else if is_same_name asked (codes "Last") then Some (shown ev r.high)
    else None)
    else None
bound_of ev (Constant t z) asked = None
bound_of ev Milliseconds asked = None
bound_of ev NotStatic asked = None

-- what is made of what was found, if it was found
infixl 10 ◌>>=◌
abbrev pub ◌>>=◌ : {A B : Type 0} → Option A → (A → Option B) → Option B
None >>= made = None
(Some found) >>= made = made found

-- a conversion to a subtype of Integer (4.6), or `Milliseconds` (D.8), of an Integer
abbrev pub converted : Meaning → Option Number → Option Static
converted (Subtype r) number = if same_type r.of Integer then of_type Integer (number >>= placed r) else None
converted (Constant t z) number = None
converted Milliseconds number = of_type TimeSpan number
converted NotStatic number = None

-- `not` of a truth value, if there is one
abbrev pub maybe_negated : Option Number → Option Number
maybe_negated None = None
maybe_negated (Some n) = Some (negated n)

-- `abs` or `not` of a value
abbrev pub highest_of : HighestOperator → Option Static → Option Static
highest_of operator.Abs v = of_type Integer (number_in Integer v >>= absolute)
highest_of operator.Not v = of_type Boolean (maybe_negated (number_in Boolean v))

-- a discrete type (3.2)
abbrev pub is_discrete : ValueType → Bool
is_discrete Integer = true
is_discrete Boolean = true
is_discrete Time = false
is_discrete TimeSpan = false

-- a value that is compared (own: no two values of Time or Time_Span are static together)
abbrev pub comparable : Option Static → Option Static
comparable None = None
comparable (Some v) = if is_discrete v.of then Some v else None

abbrev pub compared : RelationalOperator → Static → Static → Option Number
compared op left right = if same_type right.of left.of then Some (related op left.number right.number) else None

-- the value of a first argument behind which there is no other
abbrev pub only : Expressions → Option Static → Option Static
only no_expressions v = v
only (and_expression e more) v = None

-- the type and the value of an expression, which is evaluated or not
abbrev mutual
  pub static_of : (Name → Meaning) → Bool → Expression → Option Static
  static_of means ev (literal at number) = of_type Integer (literal_number ev number)
  static_of means ev (name n) = constant_in ev (means n)
  static_of means ev (attribute n i) = of_type Integer (bound_of ev (means n) i.text)
  static_of means ev (call n es) = converted (means n) (number_in Integer (argument_of means ev es))
  static_of means ev (parenthesized at e) = static_of means ev e
  static_of means ev (highest at op e) = highest_of op (static_of means ev e)
  static_of means ev (product e fs) =
      of_type Integer (number_in Integer (static_of means ev e) >>= λ left. product_of means ev left fs)
  static_of means ev (signed at op e) = of_type Integer (number_in Integer (static_of means ev e) >>= signed_number op)
  static_of means ev (sum e ts) =
      of_type Integer (number_in Integer (static_of means ev e) >>= λ left. sum_of means ev left ts)
  static_of means ev (relation e op f) =
      of_type Boolean (comparable (static_of means ev e) >>= λ left. static_of means ev f >>= compared op left)
  static_of means ev (logical op e es) =
      of_type Boolean (number_in Boolean (static_of means ev e) >>= λ left. logic_of means ev op left es)

  pub argument_of : (Name → Meaning) → Bool → Expressions → Option Static
  argument_of means ev no_expressions = None
  argument_of means ev (and_expression e more) = only more (static_of means ev e)

  -- what factors make of the product of those before them
  pub product_of : (Name → Meaning) → Bool → Number → Factors → Option Number
  product_of means ev left no_factors = Some left
  product_of means ev left (and_factor op e fs) =
      number_in Integer (static_of means ev e) >>= λ right.
      multiplied op left right >>= λ product. product_of means ev product fs

  pub sum_of : (Name → Meaning) → Bool → Number → Terms → Option Number
  sum_of means ev left no_terms = Some left
  sum_of means ev left (and_term op e ts) =
      number_in Integer (static_of means ev e) >>= λ right.
      added op left right >>= λ total. sum_of means ev total ts

  -- a right operand isn't evaluated where those before it decide
  pub logic_of : (Name → Meaning) → Bool → LogicalOperator → Number → Expressions → Option Number
  logic_of means ev op left no_expressions = Some left
  logic_of means ev op left (and_expression e es) =
      number_in Boolean (static_of means (ev && not (decides op left)) e) >>= λ right.
      logic_of means ev op (joined op left right) es
