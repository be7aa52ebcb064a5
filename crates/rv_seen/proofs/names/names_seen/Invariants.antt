use Rattle.std.proofs.Common.{◌≡◌, ◌++◌, drop, map}
use Rattle.std.specs.List.{filter}
use Rattle.rv_seen.specs.Names.{is_seen}
use Rattle.rv_seen.proofs.names.names_seen.Given as goal

abbrev pub invariant-loop-name : goal.invariant-loop-name
invariant-loop-name l =
    map (λ n. n.now) l.seen.items ++ filter (is_seen l.scope l.prefix) (map (λ n. n.now) (drop l.name-index l.names))
    ≡ filter (is_seen l.scope l.prefix) (map (λ n. n.now) l.names)
