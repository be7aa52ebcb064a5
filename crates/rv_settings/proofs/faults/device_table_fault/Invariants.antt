use Rattle.toml.specs.View.{members_view}
use Rattle.rv_settings.specs.Settings.{OnlyKeys, is_key_of_device}
use Rattle.rv_settings.proofs.faults.device_table_fault.Given as goal

abbrev pub invariant-loop-key : goal.invariant-loop-key
invariant-loop-key l =
    (goal.iterator-loop-key).can_next l.key-iterator × (goal.iterator-loop-key).is_finite l.key-iterator
    × (OnlyKeys is_key_of_device (members_view l.key-iterator) → OnlyKeys is_key_of_device (members_view l.table.entries))
