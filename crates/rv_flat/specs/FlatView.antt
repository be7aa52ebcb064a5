-- The bodies that stand in a table.
use Rattle.std.specs.Prelude.{◌≡◌, ◌≤◌, ℕ, List, length}
use Rattle.rv_code.specs.Bodies as t
use Rattle.rv_flat.specs.declared.body.FlatBody.{FlatBody}
use Rattle.rv_flat.specs.Trees.{Tree, tree_at, as_declarations, as_statements, as_handlers}

-- a body whose declarations, statements and handlers stand in a table
abbrev pub body_in : List Tree → FlatBody → t.Body
body_in ts b = record {
  parameters = b.parameters.items;
  is_function = b.is_function;
  declarations = as_declarations (tree_at ts b.declarations);
  statements = as_statements (tree_at ts b.statements);
  handlers = as_handlers (tree_at ts b.handlers);
}

-- the numbers of a body are among so many
abbrev pub IsAmong : ℕ → FlatBody → Type 0
IsAmong count b = (b.declarations ≤ count) × (b.statements ≤ count) × (b.handlers ≤ count)

-- behind trees that were added to, a body stands for this; what stood before stands as it did
pub record BodyStands (before after : List Tree) (flat : FlatBody) (body : t.Body) : Type 0 where
  pub longer : length before ≤ length after
  pub same : (c : ℕ) → c ≤ length before → tree_at after c ≡ tree_at before c
  pub within : IsAmong (length after) flat
  pub is : body_in after flat ≡ body
