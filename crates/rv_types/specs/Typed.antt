-- The type of an expression and the code that gives its value (ISO/IEC 8652:2012, 4.4, 4.5, 4.6, 6.4, D.8, D.10). There is
-- none where a type, a number of arguments or a static value doesn't fit.
use Rattle.std.specs.Prelude.{ℕ, ℤ, pos, Bool, true, false, ◌&&◌, not, if◌then◌else◌, List, [], ◌∷◌, ◌++◌, Option, Some, None}
use Rattle.rv_tree.specs.Expressions.{Expression, literal, name, attribute, call, parenthesized, highest, product, signed, sum, relation, logical, Expressions, no_expressions, and_expression, Factors, no_factors, and_factor, Terms, no_terms, and_term}
use Rattle.rv_tree.specs.declared.expression.HighestOperator.{HighestOperator}
use Rattle.rv_tree.specs.declared.expression.HighestOperator.TheVariants as highest_operator
use Rattle.rv_tree.specs.declared.expression.AddingOperator.{AddingOperator}
use Rattle.rv_tree.specs.declared.expression.AddingOperator.TheVariants.{Plus, Minus}
use Rattle.rv_tree.specs.declared.expression.MultiplyingOperator.{MultiplyingOperator}
use Rattle.rv_tree.specs.declared.expression.MultiplyingOperator.TheVariants as multiplying
use Rattle.rv_tree.specs.declared.expression.RelationalOperator.{RelationalOperator}
use Rattle.rv_tree.specs.declared.expression.RelationalOperator.TheVariants as relational
use Rattle.rv_tree.specs.declared.expression.LogicalOperator.{LogicalOperator}
use Rattle.rv_tree.specs.declared.expression.LogicalOperator.TheVariants as logical_operator
use Rattle.rv_shape.specs.declared.kind.Range.{Range}
use Rattle.rv_shape.specs.declared.kind.Parameter.{Parameter}
use Rattle.rv_shape.specs.declared.kind.ValueType.{ValueType}
use Rattle.rv_shape.specs.declared.kind.ValueType.TheVariants.{Integer, Boolean, Time, TimeSpan}
use Rattle.rv_static.specs.declared.meaning.Meaning.{Meaning}
use Rattle.rv_static.specs.declared.meaning.Meaning.TheVariants as m
use Rattle.rv_static.specs.declared.meaning.Number.{Number}
use Rattle.rv_static.specs.declared.meaning.Number.TheVariants.{Known, Skipped}
use Rattle.rv_static.specs.declared.meaning.Static.{Static}
use Rattle.rv_static.specs.Meanings.{same_type}
use Rattle.rv_static.specs.Operators.{decides, added, multiplied}
use Rattle.rv_static.specs.Static.{◌>>=◌, static_of}
use Rattle.rv_code.specs.Expressions as code
use Rattle.rv_code.specs.declared.expression.Prefix.TheVariants as prefix
use Rattle.rv_code.specs.declared.expression.Operator.{Operator}
use Rattle.rv_code.specs.declared.expression.Operator.TheVariants as operator
use Rattle.rv_code.specs.declared.expression.Callee.TheVariants as callee
use Rattle.rv_types.specs.declared.denoted.Denoted.{Denoted}
use Rattle.rv_types.specs.declared.denoted.Denoted.TheVariants as d
use Rattle.rv_types.specs.declared.operators.Adder.{Adder}
use Rattle.rv_types.specs.Points.{PointView, static_meaning, denotes, profile, shows_times}
use Rattle.rv_types.specs.StaticForm.{is_static}

pub record Typed : Type 0 where
  pub of : ValueType
  pub code : code.Expression

abbrev pub value_of : ValueType → code.Expression → Typed
value_of t c = record { of = t; code = c }

-- the code of a value that has to be of this type
unfoldable pub of_type : ValueType → Typed → Option code.Expression
of_type wanted typed = if same_type typed.of wanted then Some typed.code else None

-- Static expressions (4.9)

-- a static value; one that is never evaluated may be any
abbrev pub static_code : Number → code.Expression
static_code (Known z) = code.literal z
static_code Skipped = code.literal (pos 0)

abbrev pub static_typed : Option Static → Option Typed
static_typed None = None
static_typed (Some v) = Some (value_of v.of (static_code v.number))

-- the value of an expression that is static, else what is computed
unfoldable pub unless_static : PointView → Bool → Expression → Option Typed → Option Typed
unless_static p ev e computed =
    if is_static (static_meaning p) true e then static_typed (static_of (static_meaning p) ev e) else computed

-- Names and calls (4.1, 6.4)

-- an object, or a function without parameters
abbrev pub named : Denoted → List Parameter → Option Typed
named (d.Variable slot r is_written) params = Some (value_of r.of (code.variable slot))
named (d.Component index r) params = Some (value_of r.of (code.component index))
named (d.Function callee r) [] = Some (value_of r.of (code.call callee code.no_expressions))
named (d.Function callee r) (q ∷ qs) = None
named d.Clock params = Some (value_of Time (code.call callee.Clock code.no_expressions))
named found params = None

-- a call of a function with these arguments, or of Current_State with this suspension object
abbrev pub function_call : Denoted → Option (List code.Expression) → Option ℕ → Option Typed
function_call (d.Function callee r) args object = args >>= λ es. Some (value_of r.of (code.call callee (code.expressions_of es)))
function_call d.CurrentState args object = object >>= λ k. Some (value_of Boolean (code.call (callee.CurrentState k) code.no_expressions))
function_call found args object = None

-- a conversion to a subtype of Integer (4.6)
abbrev pub conversion : Range → Option Typed → Option Typed
conversion r one = if same_type r.of Integer then (one >>= of_type Integer >>= λ c. Some (value_of Integer (code.within r c))) else None

-- a conversion, `Milliseconds` of an Integer, of which a tick is one (D.8), or a call
abbrev pub call_of : Meaning → Denoted → Option Typed → Option (List code.Expression) → Option ℕ → Option Typed
call_of (m.Subtype r) denoted one args object = conversion r one
call_of (m.Constant t z) denoted one args object = None
call_of m.Milliseconds denoted one args object = one >>= of_type Integer >>= λ c. Some (value_of TimeSpan c)
call_of m.NotStatic denoted one args object = function_call denoted args object

abbrev pub suspension_in : Denoted → Option ℕ
suspension_in (d.Suspension k) = Some k
suspension_in found = None

-- the suspension object that an argument names
abbrev pub suspension_named : PointView → Expression → Option ℕ
suspension_named p (name n) = suspension_in (denotes p n)
suspension_named p other = None

-- the suspension object that is the one argument (D.10)
abbrev pub suspension_of : PointView → Expressions → Option ℕ
suspension_of p no_expressions = None
suspension_of p (and_expression e no_expressions) = suspension_named p e
suspension_of p (and_expression e (and_expression f more)) = None

-- an argument for a parameter (6.4.1)
abbrev pub argument_for : Parameter → code.Expression → code.Expression
argument_for q c = code.within q.range c

-- what stands before no other
abbrev pub alone : Expressions → Option Typed → Option Typed
alone no_expressions typed = typed
alone (and_expression e more) typed = None

-- Operators (4.5)

abbrev pub highest_code : HighestOperator → Option Typed → Option Typed
highest_code highest_operator.Abs e = e >>= of_type Integer >>= λ c. Some (value_of Integer (code.prefixed prefix.Absolute c))
highest_code highest_operator.Not e = e >>= of_type Boolean >>= λ c. Some (value_of Boolean (code.prefixed prefix.Not c))

abbrev pub signed_code : AddingOperator → code.Expression → code.Expression
signed_code Plus c = c
signed_code Minus c = code.prefixed prefix.Negate c

abbrev pub multiplying_operator : MultiplyingOperator → Operator
multiplying_operator multiplying.Times = operator.Multiply
multiplying_operator multiplying.Divide = operator.Divide
multiplying_operator multiplying.Mod = operator.Modulo
multiplying_operator multiplying.Rem = operator.Remainder

abbrev pub relational_operator : RelationalOperator → Operator
relational_operator relational.Equal = operator.Equal
relational_operator relational.NotEqual = operator.NotEqual
relational_operator relational.Less = operator.Less
relational_operator relational.LessEqual = operator.LessEqual
relational_operator relational.Greater = operator.Greater
relational_operator relational.GreaterEqual = operator.GreaterEqual

abbrev pub logical_code : LogicalOperator → Operator
logical_code logical_operator.And = operator.And
logical_code logical_operator.Or = operator.Or
logical_code logical_operator.Xor = operator.Xor
logical_code logical_operator.AndThen = operator.AndThen
logical_code logical_operator.OrElse = operator.OrElse

abbrev pub link : Operator → code.Expression → code.Link
link op c = record { operator = op; operand = c }

-- the type of a sum or a difference, and what adds its operands
abbrev pub adds_by : ValueType → Operator → Adder
adds_by t op = record { of = t; operator = op }

-- `+` and `-` of two Integers (4.5.3), and where Ada.Real_Time is visible `+` of a Time and a Time_Span in either order (D.8)
unfoldable pub adds : Bool → ValueType → AddingOperator → ValueType → Option Adder
adds times Integer Plus Integer = Some (adds_by Integer operator.Add)
adds times Integer Minus Integer = Some (adds_by Integer operator.Subtract)
adds times Time Plus TimeSpan = if times then Some (adds_by Time operator.AddTime) else None
adds times TimeSpan Plus Time = if times then Some (adds_by Time operator.AddTime) else None
adds times left op right = None

-- a relation takes two Integers, two Booleans, or where Ada.Real_Time is visible two Times (4.5.2, D.8)
unfoldable pub is_related : Bool → ValueType → Bool
is_related times Integer = true
is_related times Boolean = true
is_related times Time = times
is_related times TimeSpan = false

abbrev pub relation_code : Bool → RelationalOperator → Typed → Typed → Option Typed
relation_code times op left right =
    if is_related times left.of then
    (of_type left.of right >>= λ c.
    Some (value_of Boolean (code.chain left.code (code.and_link (relational_operator op) c code.no_links))))
    else None

-- the value of a static operand that was evaluated
abbrev pub literal_in : code.Expression → Option ℤ
literal_in (code.literal z) = Some z
literal_in other = None

-- a static value decides a short-circuit form, so that what stands behind it isn't evaluated (4.5.1)
abbrev pub is_decided : LogicalOperator → Option ℤ → Bool
is_decided op None = false
is_decided op (Some z) = decides op (Known z)

-- the value of a short-circuit form of two operands, where both are static
abbrev pub joined_value : LogicalOperator → Option ℤ → Option ℤ → Option ℤ
joined_value op None right = None
joined_value op (Some z) None = None
joined_value op (Some z) (Some u) = if decides op (Known z) then Some z else Some u

-- the number of an operand that is static and evaluated; of another it isn't asked
abbrev pub number_of : Bool → code.Expression → Number
number_of false c = Skipped
number_of true (code.literal z) = Known z
number_of true other = Skipped

-- a first operand and the links behind it, of a type
abbrev pub chained : ValueType → code.Expression → List code.Link → Option Typed
chained t first links = Some (value_of t (code.chain first (code.links_of links)))

-- terms behind a first one, and the type of the sum
pub record Sum : Type 0 where
  pub of : ValueType
  pub links : List code.Link

abbrev pub sum_with : ValueType → List code.Link → Sum
sum_with t links = record { of = t; links = links }

abbrev pub summed : code.Expression → Sum → Option Typed
summed first s = chained s.of first s.links

-- Expressions

abbrev mutual
  -- the type and the code of an expression that isn't static
  pub computed : PointView → Bool → Expression → Option Typed
  computed p ev (literal at number) = None
  computed p ev (name n) = named (denotes p n) (profile p n)
  computed p ev (attribute n i) = None
  computed p ev (call n es) =
      call_of (static_meaning p n) (denotes p n) (first_of p ev es) (arguments_onto p ev (profile p n) es []) (suspension_of p es)
  computed p ev (parenthesized at e) = unless_static p ev e (computed p ev e)
  computed p ev (highest at op e) = highest_code op (unless_static p ev e (computed p ev e))
  computed p ev (product e fs) =
      unless_static p ev e (computed p ev e) >>= of_type Integer >>= λ c.
      factors_onto p ev (number_of ev c) fs [] >>= chained Integer c
  computed p ev (signed at op e) =
      unless_static p ev e (computed p ev e) >>= of_type Integer >>= λ c. Some (value_of Integer (signed_code op c))
  computed p ev (sum e ts) = unless_static p ev e (computed p ev e) >>= λ first.
      terms_onto p ev first.of (number_of ev first.code) ts [] >>= summed first.code
  computed p ev (relation e op f) =
      unless_static p ev e (computed p ev e) >>= λ left.
      unless_static p ev f (computed p ev f) >>= relation_code (shows_times p) op left
  computed p ev (logical op e es) =
      unless_static p ev e (computed p ev e) >>= of_type Boolean >>= λ c.
      logic_onto p ev op (literal_in c) es [] >>= chained Boolean c

  -- the first argument, behind which there is no other
  pub first_of : PointView → Bool → Expressions → Option Typed
  first_of p ev no_expressions = None
  first_of p ev (and_expression e more) = alone more (unless_static p ev e (computed p ev e))

  -- arguments for these parameters, behind those before them
  pub arguments_onto : PointView → Bool → List Parameter → Expressions → List code.Expression → Option (List code.Expression)
  arguments_onto p ev [] no_expressions done = Some done
  arguments_onto p ev [] (and_expression e es) done = None
  arguments_onto p ev (q ∷ qs) no_expressions done = None
  arguments_onto p ev (q ∷ qs) (and_expression e es) done =
      unless_static p ev e (computed p ev e) >>= of_type q.range.of >>= λ c. arguments_onto p ev qs es (done ++ argument_for q c ∷ [])

  -- factors behind others, whose product is known where they are static: it is a static expression of its own (4.4, 4.9)
  pub factors_onto : PointView → Bool → Number → Factors → List code.Link → Option (List code.Link)
  factors_onto p ev left no_factors done = Some done
  factors_onto p ev left (and_factor op e fs) done =
      unless_static p ev e (computed p ev e) >>= of_type Integer >>= λ c. multiplied op left (number_of ev c) >>= λ product.
      factors_onto p ev product fs (done ++ link (multiplying_operator op) c ∷ [])

  -- terms behind others, whose sum has a type, and is known where they are static
  pub terms_onto : PointView → Bool → ValueType → Number → Terms → List code.Link → Option Sum
  terms_onto p ev t left no_terms done = Some (sum_with t done)
  terms_onto p ev t left (and_term op e ts) done =
      unless_static p ev e (computed p ev e) >>= λ right. adds (shows_times p) t op right.of >>= λ adder.
      added op left (number_of ev right.code) >>= λ total.
      terms_onto p ev adder.of total ts (done ++ link adder.operator right.code ∷ [])

  -- relations behind others, of which the value is known where they are static
  pub logic_onto : PointView → Bool → LogicalOperator → Option ℤ → Expressions → List code.Link → Option (List code.Link)
  logic_onto p ev op before no_expressions done = Some done
  logic_onto p ev op before (and_expression e es) done =
      unless_static p (ev && not (is_decided op before)) e (computed p (ev && not (is_decided op before)) e) >>= of_type Boolean >>= λ c.
      logic_onto p ev op (joined_value op before (literal_in c)) es (done ++ link (logical_code op) c ∷ [])

-- the type of an expression and the code that gives its value; nothing is asked of the value of one that isn't evaluated
abbrev pub typed : PointView → Bool → Expression → Option Typed
typed p ev e = unless_static p ev e (computed p ev e)

-- what stands behind a first operand
abbrev pub product_of : PointView → Bool → code.Expression → Factors → Option Typed
product_of p ev first fs = factors_onto p ev (number_of ev first) fs [] >>= chained Integer first

abbrev pub sum_of : PointView → Bool → ValueType → code.Expression → Terms → Option Typed
sum_of p ev t first ts = terms_onto p ev t (number_of ev first) ts [] >>= summed first

abbrev pub relation_of : PointView → Bool → RelationalOperator → Typed → Expression → Option Typed
relation_of p ev op left e = typed p ev e >>= relation_code (shows_times p) op left

abbrev pub logic_of : PointView → Bool → LogicalOperator → code.Expression → Expressions → Option Typed
logic_of p ev op first es = logic_onto p ev op (literal_in first) es [] >>= chained Boolean first

-- the code of an expression of this type
abbrev pub operand_of : PointView → Bool → ValueType → Expression → Option code.Expression
operand_of p ev t e = typed p ev e >>= of_type t

-- the code of the one argument, an Integer
abbrev pub only_integer : PointView → Bool → Expressions → Option code.Expression
only_integer p ev es = first_of p ev es >>= of_type Integer

-- the same of an expression that is evaluated
unfoldable pub typed_as : PointView → ValueType → Expression → Option code.Expression
typed_as p t e = operand_of p true t e
