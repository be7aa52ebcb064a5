-- What stands against the devices of settings, as a run loads them behind its sections (own).
use Rattle.std.specs.Prelude.{◌≡◌, ℕ, List, [], ◌∷◌, ◌++◌, map, Option, Some, None, Ok, Err}
use Rattle.rv_shape.specs.Shape.{Shape}
use Rattle.rv_settings.specs.Settings.{DeviceText}
use Rattle.rv_fault.specs.Devices.{RefusesDevice, device_fault}
use Rattle.rv_fault.specs.Sections.{device_shape}
use Rattle.rv_fault.specs.declared.failure.Failure.TheVariants.{Refused, Memory, Io}
use Rattle.rv_fault.specs.declared.fault.What.{What}
use Rattle.rv_fault.specs.Written.{Ended}

-- what stands against the first of them that something stands against
abbrev pub or_next : Option What → Option What → Option What
or_next None next = next
or_next (Some what) next = Some what

abbrev pub devices_fault : List Shape → List DeviceText → Option What
devices_fault shapes [] = None
devices_fault shapes (device ∷ devices) = or_next (device_fault shapes device) (devices_fault (shapes ++ device_shape device ∷ []) devices)

-- the units that are loaded then
abbrev pub with_devices : List Shape → List DeviceText → List Shape
with_devices shapes devices = shapes ++ map device_shape devices

-- a device is loaded, or what stands against it is told at a line, unless memory ran out
abbrev pub DeviceEnds : ℕ → List Shape → List Shape → DeviceText → Ended → Type 0
DeviceEnds line shapes after device (Ok x) = (device_fault shapes device ≡ None) × (after ≡ shapes ++ device_shape device ∷ [])
DeviceEnds line shapes after device (Err failure) = RefusesDevice line shapes device failure

-- so it is of devices one after another
abbrev pub LoadsAll : ℕ → List Shape → List Shape → List DeviceText → Ended → Type 0
LoadsAll line shapes after devices (Ok x) = (devices_fault shapes devices ≡ None) × (after ≡ with_devices shapes devices)
LoadsAll line shapes after devices (Err (Refused told)) = (devices_fault shapes devices ≡ Some told.what) × (told.line ≡ line)
LoadsAll line shapes after devices (Err Memory) = Unit {0}
LoadsAll line shapes after devices (Err (Io error)) = ⊥
