use Rattle.std.specs.Prelude.{List, ◌++◌, drop}
use Rattle.toml.specs.View.{items_view}
use Rattle.rv_settings.specs.Settings.{AreDevices, DeviceText}
use Rattle.rv_settings.proofs.reading.devices_in.Given as goal

abbrev pub invariant-each : goal.invariant-each
invariant-each l =
    (more : List DeviceText) → AreDevices (items_view (drop l.value-index l.value-items)) more → AreDevices (items_view l.value-items) (l.devices.items ++ more)
