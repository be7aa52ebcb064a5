-- Simple barriers (ISO/IEC 8652:2012, D.7): a component of the protected unit, or an expression that never changes. The exact form is our own.
use Rattle.std.specs.Prelude.{ℕ, Bool, true, false, codes, ◌||◌, ◌&&◌, not, List, [], ◌∷◌, Option, Some, None}
use Rattle.rv_text.specs.Names.{is_same_name}
use Rattle.rv_tree.specs.Names.{Identifier, Name}
use Rattle.rv_tree.specs.Expressions.{Expression, literal, name, attribute, call, parenthesized, highest, product, signed, sum, relation, logical, Expressions, no_expressions, and_expression, Factors, no_factors, and_factor, Terms, no_terms, and_term}
use Rattle.rv_tree.specs.Declarations.{Parameter, Declaration}
use Rattle.rv_tree.specs.Units.{UnitTree}
use Rattle.rv_restrict.specs.Scope.{is_parameter, declared, unit_of, is_fixed, has_component, is_hidden, is_package_name}

-- `C`, `P.C` or `Unit.P.C` for a component C of the protected unit P
abbrev pub component_named : UnitTree → List ℕ → List Parameter → List ℕ → List Identifier → Bool
component_named tree unit parameters first [] =
    has_component (unit_of (declared tree unit)) first && not (is_parameter first parameters)
component_named tree unit parameters first (c ∷ []) =
    is_same_name first unit && has_component (unit_of (declared tree unit)) c.text
    && not (is_hidden tree unit parameters first)
component_named tree unit parameters first (p ∷ c ∷ []) =
    is_same_name first tree.specification.name.text && is_same_name p.text unit
    && has_component (unit_of (declared tree unit)) c.text && is_package_name tree unit parameters first
component_named tree unit parameters first (p ∷ c ∷ i ∷ more) = false

-- True, False and the subtypes of Standard (A.1)
abbrev pub is_of_standard : List ℕ → Bool
is_of_standard n =
    is_same_name n (codes "True") || is_same_name n (codes "False") || is_same_name n (codes "Boolean")
    || is_same_name n (codes "Integer") || is_same_name n (codes "Natural") || is_same_name n (codes "Positive")

-- the constant and the subtypes of System (13.7)
abbrev pub is_of_system : List ℕ → Bool
is_of_system n =
    is_same_name n (codes "Priority") || is_same_name n (codes "Interrupt_Priority")
    || is_same_name n (codes "Any_Priority") || is_same_name n (codes "Default_Priority")

-- a constant or subtype of the package, or of Standard or System where the package has no such name
abbrev pub is_fixed_or_library : Option Declaration → List ℕ → Bool
is_fixed_or_library None n = is_of_standard n || is_of_system n
is_fixed_or_library (Some d) n = is_fixed (Some d)

-- a constant or subtype of the package of this name
abbrev pub is_fixed_of : UnitTree → List ℕ → List ℕ → Bool
is_fixed_of tree package_name n =
    (is_same_name package_name tree.specification.name.text && is_fixed (declared tree n))
    || (is_same_name package_name (codes "Standard") && is_of_standard n)
    || (is_same_name package_name (codes "System") && is_of_system n)

-- a constant or subtype, by its simple name or behind that of its package
abbrev pub constant_named : UnitTree → List ℕ → List Parameter → List ℕ → List Identifier → Bool
constant_named tree unit parameters first [] =
    not (is_hidden tree unit parameters first) && is_fixed_or_library (declared tree first) first
constant_named tree unit parameters first (i ∷ []) =
    is_package_name tree unit parameters first && is_fixed_of tree first i.text
constant_named tree unit parameters first (i ∷ j ∷ more) = false

-- the name is that of True, False, a constant or a subtype
unfoldable pub is_constant : UnitTree → List ℕ → List Parameter → Name → Bool
is_constant tree unit parameters n = constant_named tree unit parameters n.first.text n.more

-- all names of an expression are such
abbrev mutual
  pub never_changes : (Name → Bool) → Expression → Bool
  never_changes fixed (literal at number) = true
  never_changes fixed (name n) = fixed n
  never_changes fixed (attribute n i) = fixed n
  never_changes fixed (call n es) = fixed n && never_change fixed es
  never_changes fixed (parenthesized at e) = never_changes fixed e
  never_changes fixed (highest at op e) = never_changes fixed e
  never_changes fixed (product e fs) = never_changes fixed e && factors_never_change fixed fs
  never_changes fixed (signed at op e) = never_changes fixed e
  never_changes fixed (sum e ts) = never_changes fixed e && terms_never_change fixed ts
  never_changes fixed (relation e op f) = never_changes fixed e && never_changes fixed f
  never_changes fixed (logical op e es) = never_changes fixed e && never_change fixed es

  pub never_change : (Name → Bool) → Expressions → Bool
  never_change fixed no_expressions = true
  never_change fixed (and_expression e es) = never_changes fixed e && never_change fixed es

  pub factors_never_change : (Name → Bool) → Factors → Bool
  factors_never_change fixed no_factors = true
  factors_never_change fixed (and_factor op e fs) = never_changes fixed e && factors_never_change fixed fs

  pub terms_never_change : (Name → Bool) → Terms → Bool
  terms_never_change fixed no_terms = true
  terms_never_change fixed (and_term op e ts) = never_changes fixed e && terms_never_change fixed ts

-- one of the three forms of a component's name
abbrev pub is_component_name : UnitTree → List ℕ → List Parameter → Expression → Bool
is_component_name tree unit parameters (literal at number) = false
is_component_name tree unit parameters (name n) = component_named tree unit parameters n.first.text n.more
is_component_name tree unit parameters (attribute n i) = false
is_component_name tree unit parameters (call n es) = false
is_component_name tree unit parameters (parenthesized at e) = false
is_component_name tree unit parameters (highest at op e) = false
is_component_name tree unit parameters (product e fs) = false
is_component_name tree unit parameters (signed at op e) = false
is_component_name tree unit parameters (sum e ts) = false
is_component_name tree unit parameters (relation e op f) = false
is_component_name tree unit parameters (logical op e es) = false

-- a barrier of an entry with these parameters, in the body of the protected unit of this name
unfoldable pub is_simple_barrier : UnitTree → List ℕ → List Parameter → Expression → Bool
is_simple_barrier tree unit parameters e =
    is_component_name tree unit parameters e || never_changes (is_constant tree unit parameters) e
