use Rattle.std.proofs.Common.{◌≡◌, ◌<◌, ◌≤◌, ◌+◌, [], drop, length, arith, refl}
use Rattle.std.proofs.lemmas.List.{drop_all}
use Rattle.rv_check.proofs.Loaded.{all_loaded, device_stops, fault_next, next_device, with_next}
use Rattle.rv_check.proofs.devices.load_devices.Goals as goal

pub each-init : goal.each-init
each-init c = (refl, refl)

pub each-preserved : goal.each-preserved
each-preserved c =
    let within : c.each.device-index < length c.args.devices.now = omega arith in
    let next = next_device c.args.devices.now c.each.device-index c.device-item.result within c.device-item.is in
    let left = drop c.each.device-index c.args.devices.now in
    let rest = drop (c.each.device-index + 1) c.args.devices.now in (
      fault_next c.args.catalogue.now c.each.catalogue c.load_device.new.catalogue c.device-item.result c.args.devices.now left rest next c.each.invariant.0 c.in-Ok.ensures.0 c.in-Ok.ensures.1,
      with_next c.args.catalogue.now c.each.catalogue c.load_device.new.catalogue c.device-item.result c.args.devices.now left rest next c.each.invariant.1 c.in-Ok.ensures.1,
    )

pub returns-in-Err : goal.returns-in-Err
returns-in-Err c =
    let within : c.each.device-index < length c.args.devices.now = omega arith in
    let next = next_device c.args.devices.now c.each.device-index c.device-item.result within c.device-item.is in
    device_stops c.args.line c.args.catalogue.now c.each.catalogue c.load_device.new.catalogue c.device-item.result c.args.devices.now (drop c.each.device-index c.args.devices.now) (drop (c.each.device-index + 1) c.args.devices.now)
    c.in-Err.failure next c.each.invariant.0 c.in-Err.ensures

pub returns : goal.returns
returns c =
    let past : length c.args.devices.now ≤ c.each.device-index = omega arith in
    let none : drop c.each.device-index c.args.devices.now ≡ [] = drop_all c.each.device-index c.args.devices.now past in
    all_loaded c.args.catalogue.now c.each.catalogue c.args.devices.now (drop c.each.device-index c.args.devices.now) none c.each.invariant.0 c.each.invariant.1
