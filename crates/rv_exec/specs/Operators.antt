-- What operators give (ISO/IEC 8652:2012, 4.5).
use Rattle.std.specs.Prelude.{ℤ, pos, negsuc, ◌+ℤ◌, ◌-ℤ◌, ◌*ℤ◌, neg_ℤ, unsigned_abs, Bool, true, false, ◌&&◌, ◌||◌, not, int_le, int_lt, if◌then◌else◌, Result, Ok, Err}
use Rattle.std.specs.Int.RustNames.{int_div, int_rem}
use Rattle.rv_value.specs.Arithmetic.{whole, divided, modulus, is_zero}
use Rattle.rv_value.specs.declared.arithmetic.Arith.{Arith}
use Rattle.rv_event.specs.declared.entry.Exception.TheVariants.{ConstraintError}
use Rattle.rv_shape.specs.declared.kind.Range.{Range}
use Rattle.rv_code.specs.declared.expression.Prefix.{Prefix}
use Rattle.rv_code.specs.declared.expression.Prefix.TheVariants as prefix
use Rattle.rv_code.specs.declared.expression.Operator.{Operator}
use Rattle.rv_code.specs.declared.expression.Operator.TheVariants as operator
use Rattle.rv_exec.specs.declared.end.Cause.{Cause}
use Rattle.rv_exec.specs.declared.end.Cause.TheVariants.{Raised}

-- the value of a truth: 1 for True
abbrev pub truth : Bool → ℤ
truth true = pos 1
truth false = pos 0

-- whether a value is True
abbrev pub is_true : ℤ → Bool
is_true v = not (is_zero v)

-- a result that is no Integer, or a divisor that is 0, raises Constraint_Error (4.5)
abbrev pub checked : Result ℤ Arith → Result ℤ Cause
checked (Ok v) = Ok v
checked (Err why) = Err (Raised ConstraintError)

-- the value, where it lies in the range; else Constraint_Error is raised (3.5, 4.6)
abbrev pub in_bounds : ℤ → ℤ → ℤ → Result ℤ Cause
in_bounds low high v = if int_le low v && int_le v high then Ok v else Err (Raised ConstraintError)

abbrev pub within : Range → ℤ → Result ℤ Cause
within range v = in_bounds range.low range.high v

-- a Time is a count of ticks, -10^15 .. 10^15 (own)
abbrev pub time : ℤ → Result ℤ Cause
time v = in_bounds (negsuc 999999999999999) (pos 1000000000000000) v

abbrev pub prefix_of : Prefix → ℤ → Result ℤ Cause
prefix_of prefix.Negate v = checked (whole (neg_ℤ v))
prefix_of prefix.Absolute v = checked (whole (pos (unsigned_abs v)))
prefix_of prefix.Not v = Ok (truth (not (is_true v)))

-- whether the left operand alone decides (4.5.1)
abbrev pub decides : Operator → ℤ → Bool
decides operator.AndThen v = not (is_true v)
decides operator.OrElse v = is_true v
decides op v = false

abbrev pub equal : ℤ → ℤ → Bool
equal v u = int_le v u && int_le u v

abbrev pub result_of : Operator → ℤ → ℤ → Result ℤ Cause
result_of operator.Add v u = checked (whole (v +ℤ u))
result_of operator.Subtract v u = checked (whole (v -ℤ u))
result_of operator.Multiply v u = checked (whole (v *ℤ u))
result_of operator.Divide v u = checked (divided u (int_div v u))
result_of operator.Modulo v u = checked (divided u (modulus v u))
result_of operator.Remainder v u = checked (divided u (int_rem v u))
result_of operator.AddTime v u = time (v +ℤ u)
result_of operator.And v u = Ok (truth (is_true v && is_true u))
result_of operator.Or v u = Ok (truth (is_true v || is_true u))
result_of operator.Xor v u = Ok (truth (if is_true v then not (is_true u) else is_true u))
result_of operator.AndThen v u = Ok u
result_of operator.OrElse v u = Ok u
result_of operator.Equal v u = Ok (truth (equal v u))
result_of operator.NotEqual v u = Ok (truth (not (equal v u)))
result_of operator.Less v u = Ok (truth (int_lt v u))
result_of operator.LessEqual v u = Ok (truth (int_le v u))
result_of operator.Greater v u = Ok (truth (int_lt u v))
result_of operator.GreaterEqual v u = Ok (truth (int_le u v))
