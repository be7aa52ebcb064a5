use Rattle.std.proofs.Common.{◌≡◌, ◌<◌, ◌^◌, List, length}
use Rattle.rv_event.specs.declared.entry.Entry.{Entry}
use Rattle.rv_tally.specs.Tallying.{IsTally}
use Rattle.rv_tally.proofs.Tallies.{below}
use Rattle.rv_tally.proofs.tally.Tally.of_unit.Given as goal

-- the sum so far
abbrev pub invariant-loop-actor : goal.invariant-loop-actor
invariant-loop-actor l =
    (entries : List Entry) → length entries < 2 ^ 64 → IsTally entries l.self → l.sum ≡ below l.catalogue l.unit l.actor entries
