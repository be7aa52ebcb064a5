use Rattle.std.proofs.Common.{rules, ap, ◌∙◌, List, [], ◌∷◌, ◌++◌}
use Rattle.rv_flat.specs.declared.code.Node.{Node}
use Rattle.rv_flat.proofs.Tables.{table_added, added_as}
use Rattle.rv_flat.proofs.code.Code.add.Goals as goal

pub invariant_of-self-2 : goal.invariant_of-self-2
invariant_of-self-2 c = let a = c.push_reserved.ensures.items in let b = c.reserve.ensures.items in record { backward = table_added c.args.self.now.nodes.items c.push_reserved.new.self.items c.args.node (a ∙ ap (λ (l : List Node). l ++ c.args.node ∷ []) b) c.args.self.now.backward c.requires }

pub returns : goal.returns
returns c = let a = c.push_reserved.ensures.items in let b = c.reserve.ensures.items in added_as c.args.self.now.nodes.items c.push_reserved.new.self.items c.args.node c.len.result (a ∙ ap (λ (l : List Node). l ++ c.args.node ∷ []) b) (Prim.search rules)
