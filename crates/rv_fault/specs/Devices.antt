-- What a device of settings calls, and what stands against it (own).
use Rattle.std.specs.Prelude.{◌≡◌, ℕ, Bool, true, false, if◌then◌else◌, List, length, ◌==◌, Option, Some, None, option_map}
use Rattle.rv_shape.specs.Shape.{Shape}
use Rattle.rv_shape.specs.Fits.{fault}
use Rattle.rv_shape.specs.Names.{object_number, operation_number}
use Rattle.rv_shape.specs.Catalogue.{Target, Nowhere, OnProtected, OnSuspension, target}
use Rattle.rv_shape.specs.declared.fault.ShapeFault.{ShapeFault}
use Rattle.rv_settings.specs.Settings.{DeviceText}
use Rattle.rv_fault.specs.Sections.{device_shape}
use Rattle.rv_fault.specs.declared.devices.FittingDevice.{FittingDevice}
use Rattle.rv_fault.specs.declared.failure.Failure.{Failure}
use Rattle.rv_fault.specs.declared.failure.Failure.TheVariants.{Refused, Memory, Io}
use Rattle.rv_fault.specs.declared.fault.What.{What}
use Rattle.rv_fault.specs.declared.fault.What.TheVariants as Whats

-- a call takes no values
abbrev pub is_plain : Target → Bool
is_plain Nowhere = false
is_plain (OnProtected site) = length site.operation.parameters == 0
is_plain (OnSuspension unit object operation) = true

-- an operation of a number, of an object of a number, if it is called without values
abbrev pub called_at : List Shape → ℕ → Option ℕ → Option (ℕ × ℕ)
called_at shapes object None = None
called_at shapes object (Some operation) = if is_plain (target shapes object operation) then Some (object, operation) else None

abbrev pub called_in : List Shape → Option ℕ → List ℕ → Option (ℕ × ℕ)
called_in shapes None operation = None
called_in shapes (Some object) operation = called_at shapes object (operation_number shapes object operation)

-- what a device calls, by the numbers of an object and of an operation that is called without values, if they are loaded
abbrev pub called : List Shape → DeviceText → Option (ℕ × ℕ)
called shapes device = called_in shapes (object_number shapes device.object) device.operation

-- what it calls is looked for first, then whether its unit fits
abbrev pub fault_with : Option (ℕ × ℕ) → Option ShapeFault → Option What
fault_with None clash = Some Whats.UnknownName
fault_with (Some call) clash = option_map Whats.Shape clash

abbrev pub device_fault : List Shape → DeviceText → Option What
device_fault shapes device = fault_with (called shapes device) (fault shapes (device_shape device))

-- a device fits, with its unit, and calls this
abbrev pub FitsDevice : List Shape → DeviceText → FittingDevice → Type 0
FitsDevice shapes device found =
    (found.shape ≡ device_shape device) × (called shapes device ≡ Some (found.object, found.operation)) × (device_fault shapes device ≡ None)

-- a device is refused at a line, or memory was
abbrev pub RefusesDevice : ℕ → List Shape → DeviceText → Failure → Type 0
RefusesDevice line shapes device (Refused told) = (device_fault shapes device ≡ Some told.what) × (told.line ≡ line)
RefusesDevice line shapes device Memory = Unit {0}
RefusesDevice line shapes device (Io error) = ⊥
