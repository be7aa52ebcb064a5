-- Devices that are loaded one after another.
use Rattle.std.proofs.Common.{◌≡◌, ◌<◌, ◌+◌, ℕ, suc, length, get_or, drop, drop-cons, add-one, List, [], ◌∷◌, ◌++◌, map, Some, None, Option, Err, Result, refl, sym, ap, ◌∙◌, subst, append_assoc, append-nil}
use Rattle.rv_shape.specs.Shape.{Shape}
use Rattle.rv_shape.specs.Fits.{fault}
use Rattle.rv_shape.specs.declared.fault.ShapeFault.{ShapeFault}
use Rattle.rv_settings.specs.Settings.{DeviceText}
use Rattle.rv_fault.specs.Devices.{FitsDevice, called, device_fault, fault_with}
use Rattle.rv_fault.specs.Sections.{device_shape}
use Rattle.rv_fault.specs.declared.devices.FittingDevice.{FittingDevice}
use Rattle.rv_fault.specs.declared.failure.Failure.{Failure}
use Rattle.rv_fault.specs.declared.failure.Failure.TheVariants.{Refused, Memory, Io}
use Rattle.rv_fault.specs.declared.fault.What.{What}
use Rattle.rv_check.specs.DeviceFaults.{DeviceEnds, LoadsAll, devices_fault, or_next, with_devices}

-- nothing stands against the unit of a device that fits
no_clash : (call : Option (ℕ × ℕ)) (clash : Option ShapeFault) → fault_with call clash ≡ None → clash ≡ None
no_clash None clash e = absurd (cc)
no_clash (Some call) None e = refl
no_clash (Some call) (Some told) e = absurd (cc)

pub unit_fits : (shapes : List Shape) (device : DeviceText) (found : FittingDevice) → FitsDevice shapes device found → fault shapes found.shape ≡ None
unit_fits shapes device found fits = ap (fault shapes) fits.0 ∙ no_clash (called shapes device) (fault shapes (device_shape device)) fits.2

-- the next of those that are left
pub next_device : (all : List DeviceText) (i : ℕ) (device : DeviceText) → i < length all → device ≡ get_or all i device → drop i all ≡ device ∷ drop (i + 1) all
next_device all i device within is =
    subst (λ (n : ℕ). drop i all ≡ device ∷ drop n all) (sym (add-one i))
    (subst (λ (d : DeviceText). drop i all ≡ d ∷ drop (suc i) all) (sym is) (drop-cons all i device within))

-- what stands against those from the first on
first_fault : (shapes : List Shape) (device : DeviceText) (left rest : List DeviceText) (found : Option What) → left ≡ device ∷ rest → device_fault shapes device ≡ found
    → devices_fault shapes left ≡ or_next found (devices_fault (shapes ++ device_shape device ∷ []) rest)
first_fault shapes device left rest found e h = ap (devices_fault shapes) e ∙ ap (λ (o : Option What). or_next o (devices_fault (shapes ++ device_shape device ∷ []) rest)) h

-- one more is loaded
pub fault_next : (first shapes after : List Shape) (device : DeviceText) (all left rest : List DeviceText) → left ≡ device ∷ rest → devices_fault first all ≡ devices_fault shapes left → device_fault shapes device ≡ None → after ≡ shapes ++ device_shape device ∷ []
    → devices_fault first all ≡ devices_fault after rest
fault_next first shapes after device all left rest e same none is =
    same ∙ first_fault shapes device left rest None e none ∙ ap (λ (ss : List Shape). devices_fault ss rest) (sym is)

pub with_next : (first shapes after : List Shape) (device : DeviceText) (all left rest : List DeviceText) → left ≡ device ∷ rest → with_devices first all ≡ with_devices shapes left → after ≡ shapes ++ device_shape device ∷ [] → with_devices first all ≡ with_devices after rest
with_next first shapes after device all left rest e same is =
    same ∙ ap (with_devices shapes) e ∙ sym (append_assoc shapes (device_shape device ∷ []) (map device_shape rest)) ∙ ap (λ (ss : List Shape). with_devices ss rest) (sym is)

-- something stands against the next, or memory ran out
pub device_stops : (line : ℕ) (first shapes after : List Shape) (device : DeviceText) (all left rest : List DeviceText) (e : Failure) → left ≡ device ∷ rest → devices_fault first all ≡ devices_fault shapes left
    → (let r : Result (Unit {0}) Failure = Err e in DeviceEnds line shapes after device r) → let r : Result (Unit {0}) Failure = Err e in LoadsAll line first after all r
device_stops line first shapes after device all left rest (Refused told) e same h = (same ∙ first_fault shapes device left rest (Some told.what) e h.0, h.1)
device_stops line first shapes after device all left rest Memory e same h = tt
device_stops line first shapes after device all left rest (Io error) e same h = absurd h

-- none is left
pub all_loaded : (first shapes : List Shape) (all left : List DeviceText) → left ≡ [] → devices_fault first all ≡ devices_fault shapes left → with_devices first all ≡ with_devices shapes left → (devices_fault first all ≡ None) × (shapes ≡ with_devices first all)
all_loaded first shapes all left e faults same =
    (faults ∙ ap (devices_fault shapes) e, sym (same ∙ ap (with_devices shapes) e ∙ append-nil shapes))
