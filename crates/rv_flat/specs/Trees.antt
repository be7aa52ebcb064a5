-- The trees that a table of nodes stands for.
use Rattle.std.specs.Prelude.{◌≡◌, ℕ, zero, suc, ◌≤◌, List, [], ◌∷◌, ◌++◌, length, Option, Some, None, slice_get, pos}
use Rattle.rv_code.specs.declared.body.ExceptionChoice.{ExceptionChoice}
use Rattle.rv_code.specs.declared.statement.Choice.{Choice}
use Rattle.rv_code.specs.declared.statement.Target.{Target}
use Rattle.rv_flat.specs.declared.code.Kind.{Kind}
use Rattle.rv_flat.specs.declared.code.Kind.TheVariants as kind
use Rattle.rv_flat.specs.declared.code.Node.{Node}
use Rattle.rv_code.specs.Expressions as e
use Rattle.rv_code.specs.Expressions.{Expression, Expressions, Links}
use Rattle.rv_code.specs.Statements as s
use Rattle.rv_code.specs.Statements.{Statement, Statements, Branches, Alternatives}
use Rattle.rv_code.specs.Bodies.{Declaration, Handler}

-- what a node stands for
pub data Tree : Type 0 where
  expression : Expression → Tree
  expressions : Expressions → Tree
  links : Links → Tree
  statement : Statement → Tree
  statements : Statements → Tree
  branches : Branches → Tree
  alternatives : Alternatives → Tree
  choices : List Choice → Tree
  targets : List Target → Tree
  declarations : List Declaration → Tree
  handlers : List Handler → Tree
  exceptions : List ExceptionChoice → Tree

-- the tree of a number, which counts from 1
abbrev pub tree_at : List Tree → ℕ → Option Tree
tree_at ts zero = None
tree_at ts (suc n) = slice_get ts n

-- the tree as one of a kind, or an empty one
unfoldable pub as_expression : Option Tree → Expression
as_expression (Some (expression x)) = x
as_expression other = e.literal (pos 0)

unfoldable pub as_expressions : Option Tree → Expressions
as_expressions (Some (expressions xs)) = xs
as_expressions other = e.no_expressions

unfoldable pub as_links : Option Tree → Links
as_links (Some (links xs)) = xs
as_links other = e.no_links

unfoldable pub as_statement : Option Tree → Statement
as_statement (Some (statement x)) = x
as_statement other = s.null_statement

unfoldable pub as_statements : Option Tree → Statements
as_statements (Some (statements xs)) = xs
as_statements other = s.no_statements

unfoldable pub as_branches : Option Tree → Branches
as_branches (Some (branches xs)) = xs
as_branches other = s.no_branches

unfoldable pub as_alternatives : Option Tree → Alternatives
as_alternatives (Some (alternatives xs)) = xs
as_alternatives other = s.no_alternatives

unfoldable pub as_choices : Option Tree → List Choice
as_choices (Some (choices xs)) = xs
as_choices other = []

unfoldable pub as_targets : Option Tree → List Target
as_targets (Some (targets xs)) = xs
as_targets other = []

unfoldable pub as_declarations : Option Tree → List Declaration
as_declarations (Some (declarations xs)) = xs
as_declarations other = []

unfoldable pub as_handlers : Option Tree → List Handler
as_handlers (Some (handlers xs)) = xs
as_handlers other = []

unfoldable pub as_exceptions : Option Tree → List ExceptionChoice
as_exceptions (Some (exceptions xs)) = xs
as_exceptions other = []

-- what a node of a kind stands for, by its children
abbrev pub tree_by : Kind → (first second third : Option Tree) → Tree
tree_by (kind.Value n) a b c = expression (e.literal n)
tree_by (kind.Variable slot) a b c = expression (e.variable slot)
tree_by (kind.Component index) a b c = expression (e.component index)
tree_by (kind.Prefixed op) a b c = expression (e.prefixed op (as_expression a))
tree_by kind.Chain a b c = expression (e.chain (as_expression a) (as_links b))
tree_by (kind.Within range) a b c = expression (e.within range (as_expression a))
tree_by (kind.Call callee) a b c = expression (e.call callee (as_expressions a))
tree_by kind.Expressions a b c = expressions (e.and_expression (as_expression a) (as_expressions b))
tree_by (kind.Links op) a b c = links (e.and_link op (as_expression a) (as_links b))
tree_by kind.Null a b c = statement s.null_statement
tree_by (kind.Assign target) a b c = statement (s.assign target (as_expression a))
tree_by kind.If a b c = statement (s.choice (as_branches a) (as_statements b))
tree_by kind.Case a b c = statement (s.selection (as_expression a) (as_alternatives b))
tree_by kind.While a b c = statement (s.while_loop (as_expression a) (as_statements b))
tree_by (kind.For slot is_reverse range) a b c = statement (s.for_loop slot is_reverse range (as_expression a) (as_expression b) (as_statements c))
tree_by kind.ExitWhen a b c = statement (s.exit_when (as_expression a))
tree_by kind.Return a b c = statement s.returns
tree_by kind.ReturnValue a b c = statement (s.returns_value (as_expression a))
tree_by (kind.Raise exception) a b c = statement (s.raises exception)
tree_by kind.Reraise a b c = statement s.reraises
tree_by (kind.CallStatement callee) a b c = statement (s.calls callee (as_expressions a) (as_targets b))
tree_by kind.Statements a b c = statements (s.and_statement (as_statement a) (as_statements b))
tree_by kind.Branches a b c = branches (s.and_branch (as_expression a) (as_statements b) (as_branches c))
tree_by kind.Alternatives a b c = alternatives (s.and_alternative (as_choices a) (as_statements b) (as_alternatives c))
tree_by (kind.Choices choice) a b c = choices (choice ∷ as_choices a)
tree_by (kind.Targets target) a b c = targets (target ∷ as_targets a)
tree_by (kind.Declarations target) a b c = declarations (record { target = target; initial = as_expression a } ∷ as_declarations b)
tree_by kind.Handlers a b c = handlers (record { choices = as_exceptions a; statements = as_statements b } ∷ as_handlers c)
tree_by (kind.Exceptions choice) a b c = exceptions (choice ∷ as_exceptions a)

-- what a node stands for behind these trees
abbrev pub tree_of : List Tree → Node → Tree
tree_of ts n = tree_by n.kind (tree_at ts n.first) (tree_at ts n.second) (tree_at ts n.third)

-- these trees, and those of nodes behind them
unfoldable pub grown : List Tree → List Node → List Tree
grown ts [] = ts
grown ts (n ∷ ns) = grown (ts ++ tree_of ts n ∷ []) ns

-- what the nodes of a table stand for, each by those before it
abbrev pub trees_of : List Node → List Tree
trees_of nodes = grown [] nodes

-- the children of a node are among so many
abbrev pub IsBackward : ℕ → Node → Type 0
IsBackward count n = (n.first ≤ count) × (n.second ≤ count) × (n.third ≤ count)

-- the children of each node stand before it
abbrev pub IsTable : List Node → Type 0
IsTable nodes = (i : ℕ) (n : Node) → slice_get nodes i ≡ Some n → IsBackward i n

-- a node was added behind these trees, with the number of the last
pub record IsAdded (before : List Tree) (n : Node) (after : List Tree) (number : ℕ) : Type 0 where
  pub grown : after ≡ before ++ tree_of before n ∷ []
  pub last : number ≡ suc (length before)

-- behind trees that were added to, a number stands for this, as one of a kind
pub record Stands {X : Type 0} (as_kind : Option Tree → X) (before after : List Tree) (number : ℕ) (x : X) : Type 0 where
  pub longer : length before ≤ length after
  pub same : (c : ℕ) → c ≤ length before → tree_at after c ≡ tree_at before c
  pub within : number ≤ length after
  pub is : as_kind (tree_at after number) ≡ x
