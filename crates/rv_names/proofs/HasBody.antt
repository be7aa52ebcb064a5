-- A name among those of the bodies of a package, or of a protected unit's operations, has a body.
use Rattle.std.specs.Prelude.{ℕ, Bool, true, false, ◌&&◌, ◌||◌, List, [], ◌∷◌, Option, Some, None, is_some, if◌then◌else◌}
use Rattle.std.proofs.Common.{◌≡◌, ◌∙◌, ap, sym, refl}
use Rattle.std.specs.List.{list_all, list_any}
use Rattle.std.specs.Map.{lookup}
use Rattle.indexmap.specs.IndexMap.{insert_entry}
use Rattle.rv_text.specs.Names.{is_same_name}
use Rattle.rv_tree.specs.Declarations.{OperationDeclaration, a_pragma, a_function, a_procedure, an_entry, ProtectedElement, an_operation, a_component, ProtectedUnit, Declaration, package_pragma, a_subtype, a_protected_unit, a_task, a_variable, a_constant}
use Rattle.rv_tree.specs.Bodies.{OperationBody}
use Rattle.rv_tree.specs.Units.{BodyItem, body_declaration, body_protected, body_task, UnitTree}
use Rattle.rv_scope.specs.declared.declared.Declared.{Declared}
use Rattle.rv_scope.specs.Scope.{Region}
use Rattle.rv_scope.specs.Predefined.{named}
use Rattle.rv_tree.specs.Operations.{operation_body_name}
use Rattle.rv_names.specs.Completed.{is_body_of, wants_among, item_wants_among, has_body, unit_is_completed, has_operation_body, operation_wants, element_wants, private_wants, unit_wants, with_body, with_bodies, with_operation_bodies, with_bodies_of, with_all_bodies_of, is_in}

-- a name that is noted
abbrev noted : Option (Option Declared)
noted = Some None

or_right : (a b : Bool) → b ≡ true → (a || b) ≡ true
or_right true b e = refl
or_right false b e = e

-- a name that is found behind an insertion is the inserted one, or was found before
found_behind : (n k : List ℕ) (names : Region) → is_in (insert_entry is_same_name names k None) n ≡ true → (is_same_name n k || is_in names n) ≡ true
found_behind n k [] h = by-test (is_same_name n k) h where
  by-test : (b : Bool) → is_some (if b then noted else None) ≡ true → (b || false) ≡ true
  by-test true h = refl
  by-test false h = h
found_behind n k (e ∷ es) h = at-key (is_same_name k e.0) (found_behind n k es) h where
  at-name : (b : Bool) → (is_in (insert_entry is_same_name es k None) n ≡ true → (is_same_name n k || is_in es n) ≡ true) →
      is_some (if b then Some e.1 else lookup (is_same_name n) (insert_entry is_same_name es k None)) ≡ true →
      (is_same_name n k || is_some (if b then Some e.1 else lookup (is_same_name n) es)) ≡ true
  at-name true further h = or_right (is_same_name n k) true refl
  at-name false further h = further h

  same-name : (b : Bool) → is_some (if b then noted else lookup (is_same_name n) es) ≡ true →
      (is_same_name n k || is_some (if b then Some e.1 else lookup (is_same_name n) es)) ≡ true
  same-name true h = or_right (is_same_name n k) true refl
  same-name false h = or_right (is_same_name n k) (is_some (lookup (is_same_name n) es)) h

  at-key : (b : Bool) → (is_in (insert_entry is_same_name es k None) n ≡ true → (is_same_name n k || is_in es n) ≡ true) →
      is_in (if b then (e.0, None) ∷ es else e ∷ insert_entry is_same_name es k None) n ≡ true →
      (is_same_name n k || is_in (e ∷ es) n) ≡ true
  at-key true further h = same-name (is_same_name n e.0) h
  at-key false further h = at-name (is_same_name n e.0) further h

-- the same behind all of them
swapped : (a b c : Bool) → (a || (b || c)) ≡ true → ((b || a) || c) ≡ true
swapped true true c e = refl
swapped true false c e = refl
swapped false true c e = refl
swapped false false c e = e

either : (a b c : Bool) → (b ≡ true → c ≡ true) → (a || b) ≡ true → (a || c) ≡ true
either true b c f e = refl
either false b c f e = f e

among : (n : List ℕ) (items : List BodyItem) (names : Region) → is_in (with_bodies items names) n ≡ true → (has_body items n || is_in names n) ≡ true
among n [] names h = h
among n (body_declaration one ∷ more) names h = among n more names h
among n (body_protected body ∷ more) names h =
    swapped (has_body more n) (is_same_name n body.name.text) (is_in names n)
    (either (has_body more n) (is_in (insert_entry is_same_name names body.name.text None) n) (is_same_name n body.name.text || is_in names n)
    (found_behind n body.name.text names) (among n more (insert_entry is_same_name names body.name.text None) h))
among n (body_task body ∷ more) names h =
    swapped (has_body more n) (is_same_name n body.name.text) (is_in names n)
    (either (has_body more n) (is_in (insert_entry is_same_name names body.name.text None) n) (is_same_name n body.name.text || is_in names n)
    (found_behind n body.name.text names) (among n more (insert_entry is_same_name names body.name.text None) h))

only : (a : Bool) → (a || false) ≡ true → a ≡ true
only true e = refl
only false e = e

has : (items : List BodyItem) (n : List ℕ) → is_in (with_bodies items []) n ≡ true → has_body items n ≡ true
has items n h = only (has_body items n) (among n items [] h)

-- what wants a name among some wants it among more
wider : (f g : List ℕ → Bool) → ((n : List ℕ) → f n ≡ true → g n ≡ true) → (one : Declaration) → wants_among f one ≡ true → wants_among g one ≡ true
wider f g on (package_pragma pragma) h = refl
wider f g on (a_subtype at i mark range) h = refl
wider f g on (a_protected_unit unit) h = on unit.name.text h
wider f g on (a_task task) h = on task.name.text h
wider f g on (a_variable names mark) h = refl
wider f g on (a_constant names mark initial) h = refl

item_wider : (f g : List ℕ → Bool) → ((n : List ℕ) → f n ≡ true → g n ≡ true) → (one : BodyItem) → item_wants_among f one ≡ true → item_wants_among g one ≡ true
item_wider f g on (body_declaration one) h = wider f g on one h
item_wider f g on (body_protected body) h = refl
item_wider f g on (body_task body) h = refl

and_both : (a b c d : Bool) → (a ≡ true → c ≡ true) → (b ≡ true → d ≡ true) → (a && b) ≡ true → (c && d) ≡ true
and_both false b c d f g e = cc
and_both true b true d f g e = g e
and_both true b false d f g e = f refl

all_wider : {X : Type 0} (f g : X → Bool) → ((x : X) → f x ≡ true → g x ≡ true) → (xs : List X) → list_all f xs ≡ true → list_all g xs ≡ true
all_wider f g on [] h = refl
all_wider f g on (x ∷ xs) h = and_both (f x) (list_all f xs) (g x) (list_all g xs) (on x) (all_wider f g on xs) h

pub completed : (tree : UnitTree) (names : Region) → names ≡ with_bodies tree.body.items [] →
    list_all (wants_among (is_in names)) tree.specification.declarations ≡ true →
    list_all (item_wants_among (is_in names)) tree.body.items ≡ true → unit_is_completed tree ≡ true
completed tree names is h e =
    let on : (n : List ℕ) → is_in names n ≡ true → has_body tree.body.items n ≡ true =
    λ n found. has tree.body.items n (ap (λ (r : Region). is_in r n) (sym is) ∙ found) in
    and_both true (list_all (item_wants_among (is_in names)) tree.body.items)
    (list_all (wants_among (has_body tree.body.items)) tree.specification.declarations)
    (list_all (item_wants_among (has_body tree.body.items)) tree.body.items)
    (λ u. all_wider (wants_among (is_in names)) (wants_among (has_body tree.body.items)) (wider (is_in names) (has_body tree.body.items) on) tree.specification.declarations h)
    (all_wider (item_wants_among (is_in names)) (item_wants_among (has_body tree.body.items)) (item_wider (is_in names) (has_body tree.body.items) on) tree.body.items)
    e

-- Operations of protected units

-- the body of an operation has this name
abbrev names_it : List ℕ → OperationBody → Bool
names_it n body = is_same_name n (operation_body_name body).text

among_operations : (n : List ℕ) (bodies : List OperationBody) (names : Region) → is_in (with_operation_bodies bodies names) n ≡ true →
    (list_any (names_it n) bodies || is_in names n) ≡ true
among_operations n [] names h = h
among_operations n (body ∷ more) names h =
    let k = (operation_body_name body).text in
    swapped (list_any (names_it n) more) (is_same_name n k) (is_in names n)
    (either (list_any (names_it n) more) (is_in (insert_entry is_same_name names k None) n) (is_same_name n k || is_in names n)
    (found_behind n k names) (among_operations n more (insert_entry is_same_name names k None) h))

-- those of one protected body, where it is one of the unit
in_body : (same : Bool) (n : List ℕ) (bodies : List OperationBody) (names : Region) →
    is_in (if same then with_operation_bodies bodies names else names) n ≡ true → ((same && list_any (names_it n) bodies) || is_in names n) ≡ true
in_body true n bodies names h = among_operations n bodies names h
in_body false n bodies names h = h

among_items : (unit n : List ℕ) (items : List BodyItem) (names : Region) → is_in (with_all_bodies_of unit items names) n ≡ true →
    (has_operation_body items unit n || is_in names n) ≡ true
among_items unit n [] names h = h
among_items unit n (body_declaration one ∷ more) names h = among_items unit n more names h
among_items unit n (body_protected body ∷ more) names h =
    let same = is_same_name unit body.name.text in
    let here = same && list_any (names_it n) body.operations in
    let behind = if same then with_operation_bodies body.operations names else names in
    swapped (has_operation_body more unit n) here (is_in names n)
    (either (has_operation_body more unit n) (is_in behind n) (here || is_in names n)
    (in_body same n body.operations names) (among_items unit n more behind h))
among_items unit n (body_task body ∷ more) names h = among_items unit n more names h

operation_wider : (f g : List ℕ → Bool) → ((n : List ℕ) → f n ≡ true → g n ≡ true) → (one : OperationDeclaration) → operation_wants f one ≡ true → operation_wants g one ≡ true
operation_wider f g on (a_pragma pragma) h = refl
operation_wider f g on (a_function at i parameters mark) h = on i.text h
operation_wider f g on (a_procedure at i parameters aspects) h = on i.text h
operation_wider f g on (an_entry entry) h = on entry.name.text h

element_wider : (f g : List ℕ → Bool) → ((n : List ℕ) → f n ≡ true → g n ≡ true) → (one : ProtectedElement) → element_wants f one ≡ true → element_wants g one ≡ true
element_wider f g on (an_operation operation) h = operation_wider f g on operation h
element_wider f g on (a_component names mark range initial) h = refl

private_wider : (f g : List ℕ → Bool) → ((n : List ℕ) → f n ≡ true → g n ≡ true) → (part : Option (List ProtectedElement)) → private_wants f part ≡ true → private_wants g part ≡ true
private_wider f g on None h = refl
private_wider f g on (Some elements) h = all_wider (element_wants f) (element_wants g) (element_wider f g on) elements h

pub operations_completed : (items : List BodyItem) (unit : ProtectedUnit) (names : Region) → names ≡ with_all_bodies_of unit.name.text items [] →
    unit_wants (is_in names) unit ≡ true → unit_wants (has_operation_body items unit.name.text) unit ≡ true
operations_completed items unit names is h =
    let has : List ℕ → Bool = has_operation_body items unit.name.text in
    let on : (n : List ℕ) → is_in names n ≡ true → has n ≡ true =
    λ n found. only (has n) (among_items unit.name.text n items [] (ap (λ (r : Region). is_in r n) (sym is) ∙ found)) in
    and_both (list_all (operation_wants (is_in names)) unit.operations) (private_wants (is_in names) unit.private)
    (list_all (operation_wants has) unit.operations) (private_wants has unit.private)
    (all_wider (operation_wants (is_in names)) (operation_wants has) (operation_wider (is_in names) has on) unit.operations)
    (private_wider (is_in names) has on unit.private)
    h
