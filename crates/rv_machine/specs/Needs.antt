-- What memory the runs of a unit's bodies take, by the heights of the trees of its table (own).
use Rattle.std.specs.Prelude.{◌≤◌, ◌<◌, ◌+◌, ℕ, max, List, Option, Some, None, slice_index}
use Rattle.rv_flat.specs.declared.code.Kind.{Kind}
use Rattle.rv_flat.specs.declared.code.Kind.TheVariants as kind
use Rattle.rv_flat.specs.declared.unit.FlatUnit.{FlatUnit}
use Rattle.rv_flat.specs.FlatUnits.{flat_view}
use Rattle.rv_flat.specs.Trees as t
use Rattle.rv_flat.specs.Trees.{Tree, tree_at}
use Rattle.rv_machine.specs.Heights.{expression_height, expressions_height, links_height, statement_height, statements_height, branches_height, alternatives_height, declarations_height, handlers_height, any_height}
use Rattle.rv_machine.specs.declared.needs.Need.{Need}
use Rattle.rv_machine.specs.declared.needs.Shape.{Shape}
use Rattle.rv_machine.specs.declared.needs.Shape.TheVariants as shape

-- above a tree, if there is one
abbrev pub height_of : ℕ → ℕ → Option Tree → ℕ
height_of one call None = 0
height_of one call (Some (t.expression x)) = expression_height one call x
height_of one call (Some (t.expressions es)) = expressions_height one call es
height_of one call (Some (t.links ls)) = links_height one call ls
height_of one call (Some (t.statement x)) = statement_height one call x
height_of one call (Some (t.statements ss)) = statements_height one call ss
height_of one call (Some (t.branches bs)) = branches_height one call bs
height_of one call (Some (t.alternatives more)) = alternatives_height one call more
height_of one call (Some (t.choices cs)) = 0
height_of one call (Some (t.targets ts)) = 0
height_of one call (Some (t.declarations ds)) = declarations_height one call ds
height_of one call (Some (t.handlers hs)) = handlers_height one call hs
height_of one call (Some (t.exceptions es)) = 0

-- what the height of a node's tree is made of
abbrev pub shape_of : Kind → Shape
shape_of kind.While = shape.Loop
shape_of (kind.For slot is_reverse range) = shape.Loop
shape_of (kind.Call callee) = shape.Call
shape_of (kind.CallStatement callee) = shape.Call
shape_of other = shape.Parts

-- above a node whose children are so high: a loop waits while each of them runs, a call's values are awaited while its arguments
-- are evaluated and while it runs, and the first part of another node is awaited while those behind it are not
abbrev pub height_by : Shape → ℕ → ℕ → ℕ → ℕ → ℕ → ℕ
height_by shape.Parts one call a b c = max (one + a) (max b c)
height_by shape.Loop one call a b c = one + max a (max b c)
height_by shape.Call one call a b c = one + one + max a (1 + call)

-- the trees of so many numbers are no higher than these say
abbrev pub AreHeightsTo : ℕ → ℕ → ℕ → List Tree → List ℕ → Type 0
AreHeightsTo count one call ts heights = (n : ℕ) → n < count → height_of one call (tree_at ts n) ≤ slice_index heights n

-- all trees are
abbrev pub AreHeights : ℕ → ℕ → List Tree → List ℕ → Type 0
AreHeights one call ts heights = (n : ℕ) → height_of one call (tree_at ts n) ≤ slice_index heights n

-- each run of these bodies fits in so much memory
pub record IsNeed (u : FlatUnit) (need : Need) : Type 0 where
  pub frames : any_height 1 (flat_view u) + 4 ≤ need.frames
  pub activations : any_height 0 (flat_view u) < need.activations
