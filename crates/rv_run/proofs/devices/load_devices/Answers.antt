use Rattle.std.proofs.Common.{◌≡◌, ◌<◌, ◌≤◌, ◌+◌, [], drop, length, arith}
use Rattle.std.proofs.lemmas.List.{drop_all}
use Rattle.rv_run.proofs.Prepared.{devices_end, devices_first, devices_further, devices_stop, next_device}
use Rattle.rv_run.proofs.devices.load_devices.Goals as goal

pub each-init : goal.each-init
each-init g c = devices_first _ _ _

pub each-preserved : goal.each-preserved
each-preserved g c =
    let within : c.each.device-index < length c.args.devices.now = omega arith in
    devices_further c.args.control.now c.each.control c.load_device.new.control c.args.line c.device-item.result
    (drop c.each.device-index c.args.devices.now) (drop (c.each.device-index + 1) c.args.devices.now) c.args.devices.now
    (next_device c.args.devices.now c.each.device-index c.device-item.result within c.device-item.is) c.each.invariant c.in-Ok.ensures

pub returns-in-Err : goal.returns-in-Err
returns-in-Err g c =
    let within : c.each.device-index < length c.args.devices.now = omega arith in
    devices_stop c.args.control.now c.each.control c.load_device.new.control c.args.line c.device-item.result
    (drop c.each.device-index c.args.devices.now) (drop (c.each.device-index + 1) c.args.devices.now) c.args.devices.now c.in-Err.failure
    (next_device c.args.devices.now c.each.device-index c.device-item.result within c.device-item.is) c.each.invariant c.in-Err.ensures

pub returns : goal.returns
returns g c =
    let past : length c.args.devices.now ≤ c.each.device-index = omega arith in
    let none : drop c.each.device-index c.args.devices.now ≡ [] = drop_all c.each.device-index c.args.devices.now past in
    devices_end c.args.control.now c.each.control c.args.line (drop c.each.device-index c.args.devices.now) c.args.devices.now none c.each.invariant
