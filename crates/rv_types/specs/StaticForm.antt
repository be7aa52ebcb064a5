-- Which expressions are static: they hold literals, constants with static values, attributes, conversions, `Milliseconds`
-- and operators (ISO/IEC 8652:2012, 4.9; own). No operator takes two static operands of which one is a Time_Span, so
-- that a Time_Span is static alone.
use Rattle.std.specs.Prelude.{Bool, true, false, ◌&&◌, ◌||◌, not}
use Rattle.rv_tree.specs.Names.{Name}
use Rattle.rv_tree.specs.Expressions.{Expression, literal, name, attribute, call, parenthesized, highest, product, signed, sum, relation, logical, Expressions, no_expressions, and_expression, Factors, no_factors, and_factor, Terms, no_terms, and_term}
use Rattle.rv_shape.specs.declared.kind.ValueType.TheVariants.{TimeSpan}
use Rattle.rv_static.specs.declared.meaning.Meaning.{Meaning}
use Rattle.rv_static.specs.declared.meaning.Meaning.TheVariants.{Subtype, Constant, Milliseconds, NotStatic}
use Rattle.rv_static.specs.Meanings.{same_type}

-- a constant with a static value, which may be a Time_Span or not
abbrev pub is_static_constant : Bool → Meaning → Bool
is_static_constant spans (Subtype r) = false
is_static_constant spans (Constant t z) = spans || not (same_type t TimeSpan)
is_static_constant spans Milliseconds = false
is_static_constant spans NotStatic = false

-- a conversion, or `Milliseconds` where a Time_Span may stand
abbrev pub is_static_call : Bool → Meaning → Bool
is_static_call spans (Subtype r) = true
is_static_call spans (Constant t z) = false
is_static_call spans Milliseconds = spans
is_static_call spans NotStatic = false

abbrev mutual
  pub is_static : (Name → Meaning) → Bool → Expression → Bool
  is_static means spans (literal at number) = true
  is_static means spans (name n) = is_static_constant spans (means n)
  is_static means spans (attribute n i) = true
  is_static means spans (call n es) = is_static_call spans (means n) && are_static means es
  is_static means spans (parenthesized at e) = is_static means spans e
  is_static means spans (highest at op e) = is_static means false e
  is_static means spans (product e fs) = is_static means false e && are_factors_static means fs
  is_static means spans (signed at op e) = is_static means false e
  is_static means spans (sum e ts) = is_static means false e && are_terms_static means ts
  is_static means spans (relation e op f) = is_static means false e && is_static means false f
  is_static means spans (logical op e es) = is_static means false e && are_static means es

  pub are_static : (Name → Meaning) → Expressions → Bool
  are_static means no_expressions = true
  are_static means (and_expression e es) = is_static means false e && are_static means es

  pub are_factors_static : (Name → Meaning) → Factors → Bool
  are_factors_static means no_factors = true
  are_factors_static means (and_factor op e fs) = is_static means false e && are_factors_static means fs

  pub are_terms_static : (Name → Meaning) → Terms → Bool
  are_terms_static means no_terms = true
  are_terms_static means (and_term op e ts) = is_static means false e && are_terms_static means ts
