use Rattle.std.proofs.Common.{◌≡◌, drop}
use Rattle.rv_check.specs.DeviceFaults.{devices_fault, with_devices}
use Rattle.rv_check.proofs.devices.load_devices.Given as goal

-- nothing stands against the devices so far, and their units are loaded
abbrev pub invariant-each : goal.invariant-each
invariant-each l =
    (devices_fault l.fn.catalogue l.devices ≡ devices_fault l.catalogue (drop l.device-index l.devices))
    × (with_devices l.fn.catalogue l.devices ≡ with_devices l.catalogue (drop l.device-index l.devices))
