-- What begins at a place of a text or before it (own).
use Rattle.std.specs.Prelude.{ℕ, nat_le, Bool, false, List, [], ◌∷◌}
use Rattle.rv_tree.specs.Statements.{Statements, no_statements, and_statement, ElsifParts, no_elsif_parts, and_elsif_part, Alternatives, no_alternatives, and_alternative}
use Rattle.rv_tree.specs.Declarations.{Parameter, ProtectedElement, an_operation, a_component}
use Rattle.rv_tree.specs.Bodies.{OperationBody, function_body, procedure_body, entry_body}
use Rattle.rv_tree.specs.Units.{BodyItem, body_declaration, body_protected, body_task}
use Rattle.rv_tree.specs.Operations.{operation_place}
use Rattle.rv_tree.specs.Places.{names_place, declaration_place, statement_place}

-- the first of these begins there
abbrev pub has_begun : {X : Type 0} → (X → ℕ) → ℕ → List X → Bool
has_begun place_of place [] = false
has_begun place_of place (x ∷ more) = nat_le (place_of x) place

abbrev pub are_begun : ℕ → Statements → Bool
are_begun place no_statements = false
are_begun place (and_statement s ss) = nat_le (statement_place s) place

abbrev pub parts_are_begun : ℕ → ElsifParts → Bool
parts_are_begun place no_elsif_parts = false
parts_are_begun place (and_elsif_part at condition ss parts) = nat_le at place

abbrev pub alternatives_are_begun : ℕ → Alternatives → Bool
alternatives_are_begun place no_alternatives = false
alternatives_are_begun place (and_alternative at choices ss more) = nat_le at place

-- places

abbrev pub parameter_place : Parameter → ℕ
parameter_place p = names_place p.names

abbrev pub element_place : ProtectedElement → ℕ
element_place (an_operation o) = operation_place o
element_place (a_component names mark range initial) = names_place names

abbrev pub operation_body_place : OperationBody → ℕ
operation_body_place (function_body at i parameters mark block) = at
operation_body_place (procedure_body at i parameters block) = at
operation_body_place (entry_body at i parameters barrier block) = at

abbrev pub item_place : BodyItem → ℕ
item_place (body_declaration one) = declaration_place one
item_place (body_protected body) = body.at
item_place (body_task body) = body.at
