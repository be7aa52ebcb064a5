use Rattle.std.proofs.Common.{◌≡◌, drop}
use Rattle.rv_tree.specs.NameView.{identifiers_view}
use Rattle.rv_outline.specs.Profiles.{for_each_name}
use Rattle.rv_outline.proofs.profile.push_parameters.Given as goal

abbrev pub invariant-loop-name : goal.invariant-loop-name
invariant-loop-name l =
    for_each_name l.parameter (identifiers_view (drop l._name-index l._name-items)) l.done.items
    ≡ for_each_name l.parameter (identifiers_view l._name-items) l.initial.done.items
