use Rattle.std.proofs.Common.{rules, arith}
use Rattle.std.proofs.lemmas.Option.{slice_get_past, slice_get_read}
use Rattle.rv_flat.proofs.Tables.{read, read_past}
use Rattle.rv_flat.proofs.code.Code.node.Goals as goal

pub returns-then-index-len-clause-found : goal.returns-then-index-len-clause-found
returns-then-index-len-clause-found c = read c.args.self.now.nodes.items c.args.number c.index.result.now c.args.self.now.backward (omega arith) (slice_get_read c.args.self.now.nodes.items c.len.result _ _ (Prim.search rules) (Prim.search rules) (Prim.search (rules, c.index.ensures)))

pub returns-else-index-len-clause-none : goal.returns-else-index-len-clause-none
returns-else-index-len-clause-none c = λ is. read_past c.args.self.now.nodes.items c.args.number (omega arith) (slice_get_past c.args.self.now.nodes.items _ (Prim.search rules))
