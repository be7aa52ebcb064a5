use Rattle.std.proofs.Common.{ap, ◌∙◌, string_bytes}
use Rattle.rv_tree.specs.UnitView.{unit_view}
use Rattle.rv_tree.specs.UnitPrint.{unit_onto}
use Rattle.rv_tree.proofs.PrintsUnit.{finish_derives}
use Rattle.rv_tree.proofs.print_unit.print.Goals as goal

pub returns-clause-derives : goal.returns-clause-derives
returns-clause-derives c =
    finish_derives string_bytes c.finish.result c.print.new.out (unit_view c.args.tree.now)
    (c.in_ok-print.ensures ∙ ap (unit_onto (unit_view c.args.tree.now)) c.new-out.ensures) c.finish.ensures
