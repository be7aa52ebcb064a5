use Rattle.std.proofs.Common.{◌≡◌, ◌+◌, drop, map}
use Rattle.rv_tree.specs.NameView.{identifier_view}
use Rattle.rv_seen.specs.Names.{stop_behind}
use Rattle.rv_seen.proofs.names.stop_at.Given as goal

abbrev pub invariant-loop-index : goal.invariant-loop-index
invariant-loop-index l =
    stop_behind l.scope (1 + l.index) l.found (map identifier_view (drop l.index l.name.more.items))
    ≡ stop_behind l.scope 1 l.initial.found (map identifier_view l.name.more.items)
