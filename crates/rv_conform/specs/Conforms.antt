-- The bodies of operations conform to declarations (ISO/IEC 8652:2012, 6.3.1, 9.4, 9.5.2): the profiles have the same parameters,
-- of the same modes, and their marks match statically (4.9.1).
use Rattle.std.specs.Prelude.{ℕ, ◌==◌, int_le, Bool, true, false, ◌&&◌, ◌||◌, List, [], ◌∷◌, ◌++◌, Option, Some, None, slice_get}
use Rattle.std.specs.List.{list_any, list_all}
use Rattle.rv_text.specs.Names.{is_same_name}
use Rattle.rv_tree.specs.declared.declaration.Mode.{Mode}
use Rattle.rv_tree.specs.declared.declaration.Mode.TheVariants as mode
use Rattle.rv_tree.specs.Declarations.{ProtectedUnit, Declaration, a_subtype, a_protected_unit, a_constant}
use Rattle.rv_tree.specs.Bodies.{OperationBody, ProtectedBody}
use Rattle.rv_tree.specs.Units.{BodyItem, body_declaration, body_protected, body_task, UnitTree}
use Rattle.rv_shape.specs.Shape.{Shape}
use Rattle.rv_shape.specs.declared.kind.Range.{Range}
use Rattle.rv_static.specs.Meanings.{same_type}
use Rattle.rv_scope.specs.declared.declared.OperationKind.{OperationKind}
use Rattle.rv_scope.specs.declared.declared.OperationKind.TheVariants as kind
use Rattle.rv_scope.specs.Scope.{ScopeView, hiding, hiding_all, within_unit}
use Rattle.rv_scope.specs.Statics.{Table, means}
use Rattle.rv_scope.specs.Subtypes.{subtype_known, constant_known, knowing_if}
use Rattle.rv_scope.specs.DeclarationUses.{with_declaration, naming_unit}
use Rattle.rv_scope.specs.UnitUses.{in_protected_unit, unit_of_body, package_scope, protected_units}
use Rattle.rv_conform.specs.declared.mark.Mark.{Mark}
use Rattle.rv_conform.specs.Profiles.{Formal, Operation, body_operation, unit_declared}

-- Profiles (6.3.1)

abbrev pub is_same_kind : OperationKind → OperationKind → Bool
is_same_kind kind.Function kind.Function = true
is_same_kind kind.Procedure kind.Procedure = true
is_same_kind kind.Entry kind.Entry = true
is_same_kind one other = false

-- a mode that isn't written is `in` (6.1)
abbrev pub is_in : Mode → Bool
is_in mode.NotWritten = true
is_in mode.In = true
is_in other = false

abbrev pub is_same_mode : Mode → Mode → Bool
is_same_mode mode.Out mode.Out = true
is_same_mode mode.InOut mode.InOut = true
is_same_mode one other = is_in one && is_in other

-- both are the subtype of one place of the text
abbrev pub is_one_subtype : Option ℕ → Option ℕ → Bool
is_one_subtype None other = false
is_one_subtype (Some at) None = false
is_one_subtype (Some at) (Some other) = at == other

-- ranges of one type with the same bounds, null ranges too
abbrev pub is_same_range : Range → Range → Bool
is_same_range one other =
    same_type one.of other.of && (int_le one.low other.low && int_le other.low one.low)
    && (int_le one.high other.high && int_le other.high one.high)

abbrev pub have_same_range : Option Range → Option Range → Bool
have_same_range None other = false
have_same_range (Some range) None = false
have_same_range (Some range) (Some other) = is_same_range range other

-- two marks match statically: they denote one subtype, or static ranges of one type with the same bounds (4.9.1)
abbrev pub match_statically : Mark → Mark → Bool
match_statically one other = is_one_subtype one.declared other.declared || have_same_range one.range other.range

abbrev pub formal_conforms : Formal → Formal → Bool
formal_conforms one other =
    is_same_name one.name other.name && is_same_mode one.mode other.mode && match_statically one.mark other.mark

-- as many parameters, each like the other in its place
abbrev pub formals_conform : List Formal → List Formal → Bool
formals_conform [] [] = true
formals_conform [] (other ∷ others) = false
formals_conform (one ∷ more) [] = false
formals_conform (one ∷ more) (other ∷ others) = formal_conforms one other && formals_conform more others

abbrev pub results_conform : Option Mark → Option Mark → Bool
results_conform None None = true
results_conform None (Some other) = false
results_conform (Some mark) None = false
results_conform (Some mark) (Some other) = match_statically mark other

-- a body of this name, kind and profile completes what is declared
abbrev pub completes : (body declared : Operation) → Bool
completes body declared =
    is_same_name declared.name.text body.name.text && is_same_kind declared.kind body.kind
    && formals_conform declared.formals body.formals && results_conform declared.result_mark body.result_mark

-- Packages

-- a package, up to a point of the text
pub record PackageView : Type 0 where
  -- what is declared
  pub scope : ScopeView
  -- what of it is static
  pub statics : Table
  -- the operations of the protected units that are declared so far, by the numbers of these
  pub units : List (List Operation)

abbrev pub package_at : List Shape → UnitTree → PackageView
package_at shapes tree = record { scope = package_scope shapes tree; statics = []; units = [] }

-- the operations of a protected unit that is declared at this point
abbrev pub operations_of : ScopeView → Table → ProtectedUnit → List Operation
operations_of scope statics unit = unit_declared statics (within_unit unit.name.at (naming_unit unit scope)) unit

abbrev pub with_unit : ScopeView → Table → Declaration → List (List Operation) → List (List Operation)
with_unit scope statics (a_protected_unit unit) units = units ++ operations_of scope statics unit ∷ []
with_unit scope statics other units = units

-- what is static behind a declaration, at its point. What is wrong with the types of one leaves it out
abbrev pub with_static : ScopeView → Declaration → Table → Table
with_static scope (a_subtype at i mark range) statics =
    knowing_if (subtype_known (means (hiding i scope) statics) mark range) (i ∷ []) statics
with_static scope (a_constant names mark initial) statics =
    knowing_if (constant_known (means (hiding_all names scope) statics) mark initial) names statics
with_static scope other statics = statics

-- the package behind a declaration
abbrev pub behind : Declaration → PackageView → PackageView
behind one seen = record {
  scope = with_declaration one seen.scope;
  statics = with_static seen.scope one seen.statics;
  units = with_unit seen.scope seen.statics one seen.units;
}

abbrev pub behind_all : List Declaration → PackageView → PackageView
behind_all [] seen = seen
behind_all (one ∷ more) seen = behind_all more (behind one seen)

-- one of these operations is declared as the body has it
abbrev pub is_declared : List Operation → Operation → Bool
is_declared operations body = list_any (completes body) operations

-- the body completes one of these operations, at a point in the body of their protected unit
unfoldable pub completes_one : List Operation → Table → ScopeView → OperationBody → Bool
completes_one operations statics scope body = is_declared operations (body_operation statics scope body)

-- each of these bodies completes one of these operations of the protected unit, if they are known
abbrev pub complete_in : PackageView → List OperationBody → ProtectedUnit → Option (List Operation) → Bool
complete_in seen bodies unit None = false
complete_in seen bodies unit (Some operations) =
    list_all (completes_one operations seen.statics (in_protected_unit unit seen.scope)) bodies

-- each of these bodies completes an operation of the protected unit with its number, if there is one
abbrev pub complete : PackageView → List OperationBody → Option (ℕ × ProtectedUnit) → Bool
complete seen bodies None = false
complete seen bodies (Some numbered) = complete_in seen bodies numbered.1 (slice_get seen.units numbered.0)

-- each body of an operation in a protected body completes an operation of the protected unit
abbrev pub item_conforms : List ProtectedUnit → PackageView → BodyItem → Bool
item_conforms units seen (body_declaration one) = true
item_conforms units seen (body_protected body) = complete seen body.operations (unit_of_body units seen.scope body.name)
item_conforms units seen (body_task body) = true

abbrev pub behind_item : BodyItem → PackageView → PackageView
behind_item (body_declaration one) seen = behind one seen
behind_item (body_protected body) seen = seen
behind_item (body_task body) seen = seen

abbrev pub items_conform : List ProtectedUnit → PackageView → List BodyItem → Bool
items_conform units seen [] = true
items_conform units seen (item ∷ more) = item_conforms units seen item && items_conform units (behind_item item seen) more

-- each body of an operation in a text conforms to a declaration of its name in its protected unit
abbrev pub bodies_conform : List Shape → UnitTree → Bool
bodies_conform shapes tree =
    items_conform (protected_units tree) (behind_all tree.specification.declarations (package_at shapes tree)) tree.body.items
