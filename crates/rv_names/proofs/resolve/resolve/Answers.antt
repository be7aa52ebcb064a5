use Rattle.rv_tree.specs.UnitView.{unit_view}
use Rattle.rv_names.proofs.Bound.{all_bound}
use Rattle.rv_names.proofs.resolve.resolve.Goals as goal

pub returns-in-None-clause-bound : goal.returns-in-None-clause-bound
returns-in-None-clause-bound c =
    all_bound c.args.catalogue.now (unit_view c.args.tree.now) (c.in_ok-first_fault.ensures.bound c.in-None.is)
