use Rattle.std.proofs.Common.{◌∙◌, ap}
use Rattle.rv_machine.proofs.Needing.{node_low}
use Rattle.rv_machine.specs.declared.needs.Shape.{Shape}
use Rattle.rv_machine.specs.Needs.{height_by}
use Rattle.rv_machine.proofs.needs.height_of.Goals as goal

pub returns : goal.returns
returns c = λ ts are.
    node_low c.args.one c.args.call c.height_in-a.result c.height_in-b.result c.height_in-c.result c.height_by.result c.args.heights.now.items ts c.args.node c.requires.children c.requires.some
    c.height_in-a.ensures c.height_in-b.ensures c.height_in-c.ensures
    (c.height_by.ensures ∙ ap (λ (x : Shape). height_by x c.args.one c.args.call c.height_in-a.result c.height_in-b.result c.height_in-c.result) c.shape_of.ensures) are
