-- What a table of the code stands for.
use Rattle.std.specs.Prelude.{List}
use Rattle.rv_flat.specs.declared.code.Code.{Code}
use Rattle.rv_flat.specs.Trees.{Tree, trees_of}

-- the trees of its nodes, in their order
abbrev pub trees : Code → List Tree
trees code = trees_of code.nodes.items
