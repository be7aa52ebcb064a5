use Rattle.std.proofs.Common.{◌≡◌, ◌++◌, drop, map}
use Rattle.rv_tree.specs.NameView.{identifiers_view}
use Rattle.rv_conform.specs.Profiles.{formal_of}
use Rattle.rv_conform.proofs.operation.push_formals.Given as goal

abbrev pub invariant-loop-identifier : goal.invariant-loop-identifier
invariant-loop-identifier l =
    l.done.items ++ map (formal_of l.mode l.mark) (identifiers_view (drop l.identifier-index l.identifier-items))
    ≡ l.initial.done.items ++ map (formal_of l.mode l.mark) (identifiers_view l.identifier-items)
