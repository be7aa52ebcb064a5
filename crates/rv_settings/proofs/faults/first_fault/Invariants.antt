use Rattle.toml.specs.View.{members_view}
use Rattle.rv_settings.specs.Settings.{OnlyKeys, is_key}
use Rattle.rv_settings.proofs.faults.first_fault.Given as goal

abbrev pub invariant-loop-key : goal.invariant-loop-key
invariant-loop-key l =
    (goal.iterator-loop-key).can_next l.key-iterator × (goal.iterator-loop-key).is_finite l.key-iterator
    × (OnlyKeys is_key (members_view l.key-iterator) → OnlyKeys is_key (members_view l.table.entries))
