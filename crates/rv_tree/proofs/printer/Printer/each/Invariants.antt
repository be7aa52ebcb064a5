use Rattle.std.proofs.Common.{◌≡◌, length, map}
use Rattle.rv_tree.specs.Onto.{each_onto}
use Rattle.rv_tree.proofs.printer.Printer.each.Given as goal

abbrev pub invariant-loop-parts : goal.invariant-loop-parts
invariant-loop-parts g l = each_onto g.T.Printed.onto (map g.T.Printed.view l.parts) l.self ≡ each_onto g.T.Printed.onto (map g.T.Printed.view l.initial.parts) l.initial.self

abbrev pub decreases-loop-parts : goal.decreases-loop-parts
decreases-loop-parts g l = length l.parts
