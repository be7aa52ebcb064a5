use Rattle.std.proofs.Common.{◌≡◌, drop, map}
use Rattle.rv_tree.specs.BodyView.{exception_choice_view}
use Rattle.rv_types.specs.Blocks.{exceptions_onto}
use Rattle.rv_types.proofs.block.exceptions.Given as goal

abbrev pub invariant-loop-one : goal.invariant-loop-one
invariant-loop-one l =
    exceptions_onto l.point (map exception_choice_view (drop l.one-index l.one-items)) l.done.items
    ≡ exceptions_onto l.point (map exception_choice_view l.one-items) l.initial.done.items
