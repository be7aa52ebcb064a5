use Rattle.std.specs.Prelude.{drop}
use Rattle.rv_run.proofs.Prepared.{DevicesSoFar}
use Rattle.rv_run.proofs.devices.load_devices.Given as goal

abbrev pub invariant-each : goal.invariant-each
invariant-each g l = DevicesSoFar l.fn.control l.control l.line (drop l.device-index l.devices) l.devices
