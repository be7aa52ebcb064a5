-- What stands in a table behind what was added.
use Rattle.std.proofs.Common.{◌≡◌, refl, ap, sym, ◌∙◌, subst, arith, ℕ, zero, suc, ◌-◌, ◌≤◌, ◌<◌, List, [], ◌∷◌, ◌++◌, length, Option, Some, None, length-append, ℤ, Bool, drop, get_or, rules}
use Rattle.rv_code.specs.declared.expression.Expression.{the_lemmas as expression_lemmas}
use Rattle.rv_code.specs.declared.expression.Link.{Link as RustLink}
use Rattle.rv_code.specs.declared.statement.Statement.{the_lemmas as statement_lemmas}
use Rattle.rv_code.specs.declared.statement.Branch.{Branch as RustBranch}
use Rattle.rv_code.specs.declared.statement.Alternative.{Alternative as RustAlternative}
use Rattle.rv_code.specs.StatementView.{statements_view, branch_view, branches_view, alternative_view, alternatives_view}
use Rattle.rv_code.specs.ExpressionView.{expression_view, link_view, links_view}
use Rattle.std.proofs.Math.Seq.{drop-cons, drop-length}
use Rattle.rv_shape.specs.declared.kind.Range.{Range}
use Rattle.rv_event.specs.declared.entry.Exception.{Exception}
use Rattle.rv_code.specs.declared.body.ExceptionChoice.{ExceptionChoice}
use Rattle.rv_code.specs.declared.expression.Callee.{Callee}
use Rattle.rv_code.specs.declared.expression.Prefix.{Prefix}
use Rattle.rv_code.specs.declared.expression.Operator.{Operator}
use Rattle.rv_code.specs.declared.statement.Choice.{Choice}
use Rattle.rv_code.specs.declared.statement.Target.{Target}
use Rattle.rv_flat.specs.declared.code.Kind.TheVariants as kind
use Rattle.rv_flat.specs.declared.code.Node.{Node}
use Rattle.rv_code.specs.Expressions as e
use Rattle.rv_code.specs.Expressions.{Expression, Expressions, Links}
use Rattle.rv_code.specs.Statements as s
use Rattle.rv_code.specs.Statements.{Statement, Statements, Branches, Alternatives}
use Rattle.rv_code.specs.Bodies.{Declaration, Handler}
use Rattle.rv_flat.specs.Trees.{Tree, tree_at, tree_of, IsAdded, Stands, as_expression, as_expressions, as_links, as_statement, as_statements, as_branches, as_alternatives, as_choices, as_targets, as_declarations, as_handlers, as_exceptions}
use Rattle.rv_flat.proofs.Tables.{front_in, seam}

at_kept : (ts us : List Tree) (c : ℕ) → c ≤ length ts → tree_at (ts ++ us) c ≡ tree_at ts c
at_kept ts us zero le = refl
at_kept ts us (suc n) le = front_in ts us n (omega (arith, le))

-- what was added stands at its number
pub added_stands : {X : Type 0} (as_kind : Option Tree → X) (before between after : List Tree) (node : Node) (number : ℕ) (x : X) → length before ≤ length between → ((c : ℕ) → c ≤ length before → tree_at between c ≡ tree_at before c) → IsAdded between node after number → as_kind (Some (tree_of between node)) ≡ x → Stands as_kind before after number x
added_stands as_kind before between after node number x le same added is =
    let g = added.grown in
    let l = length-append between (tree_of between node ∷ []) in
    let m : length after ≡ length (between ++ tree_of between node ∷ []) = ap length g in
    let k = added.last in
    let at : tree_at after number ≡ Some (tree_of between node) =
    (λ i. tree_at (g i) (k i)) ∙ seam between [] (tree_of between node) in
    record {
      longer = omega (arith, le, l, m);
      same = λ c lt. ap (λ (ts : List Tree). tree_at ts c) g ∙ (at_kept between (tree_of between node ∷ []) c (omega (arith, lt, le)) ∙ same c lt);
      within = omega (arith, k, l, m);
      is = ap as_kind at ∙ is;
    }

-- nothing is added yet
pub nothing_stands : {X : Type 0} (as_kind : Option Tree → X) (ts : List Tree) → Stands as_kind ts ts 0 (as_kind None)
nothing_stands as_kind ts = record { longer = omega arith; same = λ c le. refl; within = omega arith; is = refl }

-- what stood still stands behind more
pub kept : {X Y : Type 0} (as_kind : Option Tree → X) (as_other : Option Tree → Y) (a b c : List Tree) (n m : ℕ) (x : X) (y : Y) → Stands as_kind a b n x → Stands as_other b c m y → Stands as_kind a c n x
kept as_kind as_other a b c n m x y h g =
    let p = h.longer in let q = g.longer in let w = h.within in
    record {
      longer = omega (arith, p, q);
      same = λ k le. g.same k (omega (arith, le, p)) ∙ h.same k le;
      within = omega (arith, w, q);
      is = ap as_kind (g.same n h.within) ∙ h.is;
    }

-- what stands behind more stands behind all
pub behind_all : {X Y : Type 0} (as_kind : Option Tree → X) (as_other : Option Tree → Y) (a b c : List Tree) (n m : ℕ) (x : X) (y : Y) → Stands as_kind a b n x → Stands as_other b c m y → Stands as_other a c m y
behind_all as_kind as_other a b c n m x y h g =
    let p = h.longer in let q = g.longer in let w = g.within in
    record {
      longer = omega (arith, p, q);
      same = λ k le. g.same k (omega (arith, le, p)) ∙ h.same k le;
      within = w;
      is = g.is;
    }

pub value_stands : (before after : List Tree) (v : ℤ) (n : ℕ) → IsAdded before (record { kind = kind.Value v; first = 0; second = 0; third = 0 }) after n → Stands as_expression before after n (e.literal v)
unfolding as_expression
value_stands before after v n added = added_stands as_expression before before after _ n _ (omega arith) (λ c le. refl) added (refl)

pub variable_stands : (before after : List Tree) (slot : ℕ) (n : ℕ) → IsAdded before (record { kind = kind.Variable slot; first = 0; second = 0; third = 0 }) after n → Stands as_expression before after n (e.variable slot)
unfolding as_expression
variable_stands before after slot n added = added_stands as_expression before before after _ n _ (omega arith) (λ c le. refl) added (refl)

pub component_stands : (before after : List Tree) (index : ℕ) (n : ℕ) → IsAdded before (record { kind = kind.Component index; first = 0; second = 0; third = 0 }) after n → Stands as_expression before after n (e.component index)
unfolding as_expression
component_stands before after index n added = added_stands as_expression before before after _ n _ (omega arith) (λ c le. refl) added (refl)

pub prefixed_stands : (before between after : List Tree) (op : Prefix) (c : ℕ) (x : Expression) (n : ℕ) → Stands as_expression before between c x → IsAdded between (record { kind = kind.Prefixed op; first = c; second = 0; third = 0 }) after n → Stands as_expression before after n (e.prefixed op x)
unfolding as_expression
prefixed_stands before between after op c x n h added = added_stands as_expression before between after _ n _ h.longer h.same added (λ i. e.prefixed op (h.is i))

pub chain_stands : (before between after : List Tree) (c : ℕ) (d : ℕ) (x : Expression) (ls : Links) (n : ℕ) → Stands as_expression before between c x → Stands as_links before between d ls → IsAdded between (record { kind = kind.Chain; first = c; second = d; third = 0 }) after n → Stands as_expression before after n (e.chain x ls)
unfolding as_expression
chain_stands before between after c d x ls n h g added = added_stands as_expression before between after _ n _ h.longer h.same added (λ i. e.chain (h.is i) (g.is i))

pub within_stands : (before between after : List Tree) (range : Range) (c : ℕ) (x : Expression) (n : ℕ) → Stands as_expression before between c x → IsAdded between (record { kind = kind.Within range; first = c; second = 0; third = 0 }) after n → Stands as_expression before after n (e.within range x)
unfolding as_expression
within_stands before between after range c x n h added = added_stands as_expression before between after _ n _ h.longer h.same added (λ i. e.within range (h.is i))

pub call_stands : (before between after : List Tree) (callee : Callee) (c : ℕ) (xs : Expressions) (n : ℕ) → Stands as_expressions before between c xs → IsAdded between (record { kind = kind.Call callee; first = c; second = 0; third = 0 }) after n → Stands as_expression before after n (e.call callee xs)
unfolding as_expression
call_stands before between after callee c xs n h added = added_stands as_expression before between after _ n _ h.longer h.same added (λ i. e.call callee (h.is i))

pub expressions_stand : (before between after : List Tree) (c : ℕ) (d : ℕ) (x : Expression) (xs : Expressions) (n : ℕ) → Stands as_expression before between c x → Stands as_expressions before between d xs → IsAdded between (record { kind = kind.Expressions; first = c; second = d; third = 0 }) after n → Stands as_expressions before after n (e.and_expression x xs)
unfolding as_expressions
expressions_stand before between after c d x xs n h g added = added_stands as_expressions before between after _ n _ h.longer h.same added (λ i. e.and_expression (h.is i) (g.is i))

pub links_stand : (before between after : List Tree) (op : Operator) (c : ℕ) (d : ℕ) (x : Expression) (ls : Links) (n : ℕ) → Stands as_expression before between c x → Stands as_links before between d ls → IsAdded between (record { kind = kind.Links op; first = c; second = d; third = 0 }) after n → Stands as_links before after n (e.and_link op x ls)
unfolding as_links
links_stand before between after op c d x ls n h g added = added_stands as_links before between after _ n _ h.longer h.same added (λ i. e.and_link op (h.is i) (g.is i))

pub null_stands : (before after : List Tree) (n : ℕ) → IsAdded before (record { kind = kind.Null; first = 0; second = 0; third = 0 }) after n → Stands as_statement before after n (s.null_statement)
unfolding as_statement
null_stands before after n added = added_stands as_statement before before after _ n _ (omega arith) (λ c le. refl) added (refl)

pub assign_stands : (before between after : List Tree) (target : Target) (c : ℕ) (x : Expression) (n : ℕ) → Stands as_expression before between c x → IsAdded between (record { kind = kind.Assign target; first = c; second = 0; third = 0 }) after n → Stands as_statement before after n (s.assign target x)
unfolding as_statement
assign_stands before between after target c x n h added = added_stands as_statement before between after _ n _ h.longer h.same added (λ i. s.assign target (h.is i))

pub if_stands : (before between after : List Tree) (c : ℕ) (d : ℕ) (bs : Branches) (ss : Statements) (n : ℕ) → Stands as_branches before between c bs → Stands as_statements before between d ss → IsAdded between (record { kind = kind.If; first = c; second = d; third = 0 }) after n → Stands as_statement before after n (s.choice bs ss)
unfolding as_statement
if_stands before between after c d bs ss n h g added = added_stands as_statement before between after _ n _ h.longer h.same added (λ i. s.choice (h.is i) (g.is i))

pub case_stands : (before between after : List Tree) (c : ℕ) (d : ℕ) (x : Expression) (more : Alternatives) (n : ℕ) → Stands as_expression before between c x → Stands as_alternatives before between d more → IsAdded between (record { kind = kind.Case; first = c; second = d; third = 0 }) after n → Stands as_statement before after n (s.selection x more)
unfolding as_statement
case_stands before between after c d x more n h g added = added_stands as_statement before between after _ n _ h.longer h.same added (λ i. s.selection (h.is i) (g.is i))

pub while_stands : (before between after : List Tree) (c : ℕ) (d : ℕ) (x : Expression) (ss : Statements) (n : ℕ) → Stands as_expression before between c x → Stands as_statements before between d ss → IsAdded between (record { kind = kind.While; first = c; second = d; third = 0 }) after n → Stands as_statement before after n (s.while_loop x ss)
unfolding as_statement
while_stands before between after c d x ss n h g added = added_stands as_statement before between after _ n _ h.longer h.same added (λ i. s.while_loop (h.is i) (g.is i))

pub for_stands : (before between after : List Tree) (slot : ℕ) (is_reverse : Bool) (range : Range) (c : ℕ) (d : ℕ) (f : ℕ) (low : Expression) (high : Expression) (ss : Statements) (n : ℕ) → Stands as_expression before between c low → Stands as_expression before between d high → Stands as_statements before between f ss → IsAdded between (record { kind = kind.For slot is_reverse range; first = c; second = d; third = f }) after n → Stands as_statement before after n (s.for_loop slot is_reverse range low high ss)
unfolding as_statement
for_stands before between after slot is_reverse range c d f low high ss n h g k added = added_stands as_statement before between after _ n _ h.longer h.same added (λ i. s.for_loop slot is_reverse range (h.is i) (g.is i) (k.is i))

pub exit_stands : (before between after : List Tree) (c : ℕ) (x : Expression) (n : ℕ) → Stands as_expression before between c x → IsAdded between (record { kind = kind.ExitWhen; first = c; second = 0; third = 0 }) after n → Stands as_statement before after n (s.exit_when x)
unfolding as_statement
exit_stands before between after c x n h added = added_stands as_statement before between after _ n _ h.longer h.same added (λ i. s.exit_when (h.is i))

pub return_stands : (before after : List Tree) (n : ℕ) → IsAdded before (record { kind = kind.Return; first = 0; second = 0; third = 0 }) after n → Stands as_statement before after n (s.returns)
unfolding as_statement
return_stands before after n added = added_stands as_statement before before after _ n _ (omega arith) (λ c le. refl) added (refl)

pub return_value_stands : (before between after : List Tree) (c : ℕ) (x : Expression) (n : ℕ) → Stands as_expression before between c x → IsAdded between (record { kind = kind.ReturnValue; first = c; second = 0; third = 0 }) after n → Stands as_statement before after n (s.returns_value x)
unfolding as_statement
return_value_stands before between after c x n h added = added_stands as_statement before between after _ n _ h.longer h.same added (λ i. s.returns_value (h.is i))

pub raise_stands : (before after : List Tree) (exception : Exception) (n : ℕ) → IsAdded before (record { kind = kind.Raise exception; first = 0; second = 0; third = 0 }) after n → Stands as_statement before after n (s.raises exception)
unfolding as_statement
raise_stands before after exception n added = added_stands as_statement before before after _ n _ (omega arith) (λ c le. refl) added (refl)

pub reraise_stands : (before after : List Tree) (n : ℕ) → IsAdded before (record { kind = kind.Reraise; first = 0; second = 0; third = 0 }) after n → Stands as_statement before after n (s.reraises)
unfolding as_statement
reraise_stands before after n added = added_stands as_statement before before after _ n _ (omega arith) (λ c le. refl) added (refl)

pub call_statement_stands : (before between after : List Tree) (callee : Callee) (c : ℕ) (d : ℕ) (xs : Expressions) (targets : List Target) (n : ℕ) → Stands as_expressions before between c xs → Stands as_targets before between d targets → IsAdded between (record { kind = kind.CallStatement callee; first = c; second = d; third = 0 }) after n → Stands as_statement before after n (s.calls callee xs targets)
unfolding as_statement
call_statement_stands before between after callee c d xs targets n h g added = added_stands as_statement before between after _ n _ h.longer h.same added (λ i. s.calls callee (h.is i) (g.is i))

pub statements_stand : (before between after : List Tree) (c : ℕ) (d : ℕ) (st : Statement) (ss : Statements) (n : ℕ) → Stands as_statement before between c st → Stands as_statements before between d ss → IsAdded between (record { kind = kind.Statements; first = c; second = d; third = 0 }) after n → Stands as_statements before after n (s.and_statement st ss)
unfolding as_statements
statements_stand before between after c d st ss n h g added = added_stands as_statements before between after _ n _ h.longer h.same added (λ i. s.and_statement (h.is i) (g.is i))

pub branches_stand : (before between after : List Tree) (c : ℕ) (d : ℕ) (f : ℕ) (x : Expression) (ss : Statements) (bs : Branches) (n : ℕ) → Stands as_expression before between c x → Stands as_statements before between d ss → Stands as_branches before between f bs → IsAdded between (record { kind = kind.Branches; first = c; second = d; third = f }) after n → Stands as_branches before after n (s.and_branch x ss bs)
unfolding as_branches
branches_stand before between after c d f x ss bs n h g k added = added_stands as_branches before between after _ n _ h.longer h.same added (λ i. s.and_branch (h.is i) (g.is i) (k.is i))

pub alternatives_stand : (before between after : List Tree) (c : ℕ) (d : ℕ) (f : ℕ) (choices : List Choice) (ss : Statements) (more : Alternatives) (n : ℕ) → Stands as_choices before between c choices → Stands as_statements before between d ss → Stands as_alternatives before between f more → IsAdded between (record { kind = kind.Alternatives; first = c; second = d; third = f }) after n → Stands as_alternatives before after n (s.and_alternative choices ss more)
unfolding as_alternatives
alternatives_stand before between after c d f choices ss more n h g k added = added_stands as_alternatives before between after _ n _ h.longer h.same added (λ i. s.and_alternative (h.is i) (g.is i) (k.is i))

pub choices_stand : (before between after : List Tree) (choice : Choice) (c : ℕ) (more : List Choice) (n : ℕ) → Stands as_choices before between c more → IsAdded between (record { kind = kind.Choices choice; first = c; second = 0; third = 0 }) after n → Stands as_choices before after n (choice ∷ more)
unfolding as_choices
choices_stand before between after choice c more n h added = added_stands as_choices before between after _ n _ h.longer h.same added (λ i. choice ∷ (h.is i))

pub targets_stand : (before between after : List Tree) (target : Target) (c : ℕ) (more : List Target) (n : ℕ) → Stands as_targets before between c more → IsAdded between (record { kind = kind.Targets target; first = c; second = 0; third = 0 }) after n → Stands as_targets before after n (target ∷ more)
unfolding as_targets
targets_stand before between after target c more n h added = added_stands as_targets before between after _ n _ h.longer h.same added (λ i. target ∷ (h.is i))

pub declarations_stand : (before between after : List Tree) (target : Target) (c : ℕ) (d : ℕ) (x : Expression) (more : List Declaration) (n : ℕ) → Stands as_expression before between c x → Stands as_declarations before between d more → IsAdded between (record { kind = kind.Declarations target; first = c; second = d; third = 0 }) after n → Stands as_declarations before after n (record { target = target; initial = x } ∷ more)
unfolding as_declarations
declarations_stand before between after target c d x more n h g added = added_stands as_declarations before between after _ n _ h.longer h.same added (λ i. record { target = target; initial = (h.is i) } ∷ (g.is i))

pub handlers_stand : (before between after : List Tree) (c : ℕ) (d : ℕ) (f : ℕ) (named : List ExceptionChoice) (ss : Statements) (more : List Handler) (n : ℕ) → Stands as_exceptions before between c named → Stands as_statements before between d ss → Stands as_handlers before between f more → IsAdded between (record { kind = kind.Handlers; first = c; second = d; third = f }) after n → Stands as_handlers before after n (record { choices = named; statements = ss } ∷ more)
unfolding as_handlers
handlers_stand before between after c d f named ss more n h g k added = added_stands as_handlers before between after _ n _ h.longer h.same added (λ i. record { choices = (h.is i); statements = (g.is i) } ∷ (k.is i))

pub exceptions_stand : (before between after : List Tree) (choice : ExceptionChoice) (c : ℕ) (more : List ExceptionChoice) (n : ℕ) → Stands as_exceptions before between c more → IsAdded between (record { kind = kind.Exceptions choice; first = c; second = 0; third = 0 }) after n → Stands as_exceptions before after n (choice ∷ more)
unfolding as_exceptions
exceptions_stand before between after choice c more n h added = added_stands as_exceptions before between after _ n _ h.longer h.same added (λ i. choice ∷ (h.is i))

-- a list that is added from its end: nothing of it at first
pub none_left : {R X : Type 0} (as_kind : Option Tree → X) (view : List R → X) (ts : List Tree) (xs : List R) (left : ℕ) → as_kind None ≡ view [] → left ≡ length xs → (left ≤ length xs) × Stands as_kind ts ts 0 (view (drop left xs))
none_left as_kind view ts xs left is full =
    let none : drop left xs ≡ [] = ap (λ (k : ℕ). drop k xs) full ∙ drop-length xs in
    (omega (arith, full), subst (λ x. Stands as_kind ts ts 0 x) (is ∙ ap view (sym none)) (nothing_stands as_kind ts))

-- and then one more
pub one_more : {R : Type 0} (xs : List R) (left : ℕ) (x : R) → 0 < left → left ≤ length xs → x ≡ get_or xs (left - 1) x → drop (left - 1) xs ≡ x ∷ drop left xs
one_more xs zero x lt le is = absurd (omega (arith, lt))
one_more xs (suc k) x lt le is =
    let z : suc k - 1 ≡ k = omega arith in
    let is' : x ≡ get_or xs k x = subst (λ (n : ℕ). x ≡ get_or xs n x) z is in
    ap (λ (n : ℕ). drop n xs) z ∙ (drop-cons xs k x (omega (arith, le)) ∙ ap (λ (y : _). y ∷ drop (suc k) xs) (sym is'))

pub list_grows : {R X : Type 0} (as_kind : Option Tree → X) (view : List R → X) (before after : List Tree) (xs : List R) (left n : ℕ) (x : R) → 0 < left → left ≤ length xs → x ≡ get_or xs (left - 1) x → Stands as_kind before after n (view (x ∷ drop left xs)) → (left - 1 ≤ length xs) × Stands as_kind before after n (view (drop (left - 1) xs))
list_grows as_kind view before after xs left n x lt le is h =
    (omega (arith, le), subst (λ l. Stands as_kind before after n (view l)) (sym (one_more xs left x lt le is)) h)

link_operator : (x : RustLink) → (link_view x).operator ≡ x.operator
link_operator x = Prim.first_of (Prim.search (rules, expression_lemmas), Prim.grind (arith, expression_lemmas))

link_operand : (x : RustLink) → (link_view x).operand ≡ expression_view x.operand
link_operand x = Prim.first_of (Prim.search (rules, expression_lemmas), Prim.grind (arith, expression_lemmas))

-- a link in front of others
pub link_stands : (before between after : List Tree) (c d : ℕ) (x : RustLink) (xs : List RustLink) (n : ℕ) → Stands as_expression before between c (expression_view x.operand) → Stands as_links before between d (links_view xs) → IsAdded between (record { kind = kind.Links x.operator; first = c; second = d; third = 0 }) after n → Stands as_links before after n (links_view (x ∷ xs))
link_stands before between after c d x xs n h g added =
    subst (λ l. Stands as_links before after n l) (λ i. e.and_link (sym (link_operator x) i) (sym (link_operand x) i) (links_view xs))
    (links_stand before between after x.operator c d (expression_view x.operand) (links_view xs) n h g added)

branch_condition : (x : RustBranch) → (branch_view x).condition ≡ expression_view x.condition
branch_condition x = Prim.first_of (Prim.search (rules, statement_lemmas), Prim.grind (arith, statement_lemmas))

branch_statements : (x : RustBranch) → (branch_view x).statements ≡ statements_view x.statements.items
branch_statements x = Prim.first_of (Prim.search (rules, statement_lemmas), Prim.grind (arith, statement_lemmas))

-- a branch in front of others
pub branch_stands : (before between after : List Tree) (c d f : ℕ) (x : RustBranch) (xs : List RustBranch) (n : ℕ) → Stands as_expression before between c (expression_view x.condition) → Stands as_statements before between d (statements_view x.statements.items) → Stands as_branches before between f (branches_view xs) → IsAdded between (record { kind = kind.Branches; first = c; second = d; third = f }) after n → Stands as_branches before after n (branches_view (x ∷ xs))
branch_stands before between after c d f x xs n h g k added =
    subst (λ l. Stands as_branches before after n l) (λ i. s.and_branch (sym (branch_condition x) i) (sym (branch_statements x) i) (branches_view xs))
    (branches_stand before between after c d f (expression_view x.condition) (statements_view x.statements.items) (branches_view xs) n h g k added)

alternative_choices : (x : RustAlternative) → (alternative_view x).choices ≡ x.choices.items
alternative_choices x = Prim.first_of (Prim.search (rules, statement_lemmas), Prim.grind (arith, statement_lemmas))

alternative_statements : (x : RustAlternative) → (alternative_view x).statements ≡ statements_view x.statements.items
alternative_statements x = Prim.first_of (Prim.search (rules, statement_lemmas), Prim.grind (arith, statement_lemmas))

-- an alternative in front of others
pub alternative_stands : (before between after : List Tree) (c d f : ℕ) (x : RustAlternative) (xs : List RustAlternative) (n : ℕ) → Stands as_choices before between c x.choices.items → Stands as_statements before between d (statements_view x.statements.items) → Stands as_alternatives before between f (alternatives_view xs) → IsAdded between (record { kind = kind.Alternatives; first = c; second = d; third = f }) after n → Stands as_alternatives before after n (alternatives_view (x ∷ xs))
alternative_stands before between after c d f x xs n h g k added =
    subst (λ l. Stands as_alternatives before after n l) (λ i. s.and_alternative (sym (alternative_choices x) i) (sym (alternative_statements x) i) (alternatives_view xs))
    (alternatives_stand before between after c d f x.choices.items (statements_view x.statements.items) (alternatives_view xs) n h g k added)
