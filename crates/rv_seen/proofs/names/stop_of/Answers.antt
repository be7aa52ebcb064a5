use Rattle.std.proofs.Common.{◌∙◌, sym}
use Rattle.rv_tree.specs.NameView.{name_view}
use Rattle.rv_seen.proofs.Stops.{denotes_the_visible}
use Rattle.rv_seen.proofs.names.stop_of.Goals as goal

pub returns-clause-visible : goal.returns-clause-visible
returns-clause-visible c =
    λ found is. denotes_the_visible c.args.scope.now (name_view c.args.name.now) found (sym c.stop_at.ensures ∙ is)
