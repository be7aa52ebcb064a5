-- The settings of a host, as the table of a text has them (own). As in every section, the carriage return before a line feed
-- is none of the text.
use Rattle.std.specs.Prelude.{◌≡◌, ◌≤◌, ℕ, ℤ, pos, Bool, true, ◌||◌, List, [], ◌∷◌, codes, Option, Some, None, IsSome, ⊤}
use Rattle.std.specs.Str.{bytes_eq}
use Rattle.toml.specs.Data.{Data, Items, no_items, item, Members, no_members, member, get_member, as_integer, as_str, as_table, as_array}
use Rattle.toml.specs.Parse.{parse_document}
use Rattle.rv_text.specs.Names.{is_identifier, dotted_parts}
use Rattle.rv_script.specs.UnitTexts.{without_returns}
use Rattle.rv_settings.specs.declared.fault.SettingsFault.{SettingsFault}
use Rattle.rv_settings.specs.declared.fault.SettingsFault.TheVariants.{NotToml, UnknownKey, BadValue, NoMemory}

-- a device: its unit and task, the priority of the task, and the operation that it calls so many times
pub record DeviceText : Type 0 where
  pub unit : List ℕ
  pub task : List ℕ
  pub priority : ℕ
  pub object : List ℕ
  pub operation : List ℕ
  pub calls : ℕ

-- the greatest number of entries, the requests of a task's own body, the callers in a queue at most, and the devices
pub record SettingsText : Type 0 where
  pub capacity : ℕ
  pub budget : ℕ
  pub queue_limit : ℕ
  pub devices : List DeviceText

-- where nothing else is set
abbrev pub default_capacity : ℕ
default_capacity = 4096

abbrev pub default_budget : ℕ
default_budget = 1000

-- as under the profile (D.7, D.13)
abbrev pub default_queue_limit : ℕ
default_queue_limit = 1

abbrev pub default_settings : SettingsText
default_settings = record {
  capacity = default_capacity;
  budget = default_budget;
  queue_limit = default_queue_limit;
  devices = [];
}

-- What stands at a key

-- the number of a value, or this one where there is no value
abbrev pub number_of : ℤ → Option Data → Option ℤ
number_of default None = Some default
number_of default (Some value) = as_integer value

-- the number at a key, or this one where the key isn't set
abbrev pub number_at : List ℕ → ℤ → Members → Option ℤ
number_at key default table = number_of default (get_member key table)

-- the text of a value, if there is one
abbrev pub text_of : Option Data → Option (List ℕ)
text_of None = None
text_of (Some value) = as_str value

-- the text at a key
abbrev pub text_at : List ℕ → Members → Option (List ℕ)
text_at key table = text_of (get_member key table)

-- The keys

-- the keys of a device, each of which it has
abbrev pub is_key_of_device : List ℕ → Bool
is_key_of_device key =
    bytes_eq key (codes "calls") || bytes_eq key (codes "object") || bytes_eq key (codes "operation")
    || bytes_eq key (codes "priority") || bytes_eq key (codes "task") || bytes_eq key (codes "unit")

-- the keys of settings
abbrev pub is_key : List ℕ → Bool
is_key key =
    bytes_eq key (codes "budget") || bytes_eq key (codes "capacity") || bytes_eq key (codes "device")
    || bytes_eq key (codes "queue_limit")

-- each key of a table is one of these
abbrev pub OnlyKeys : (List ℕ → Bool) → Members → Type 0
OnlyKeys is_known no_members = ⊤
OnlyKeys is_known (member key value others) = (is_known key ≡ true) × OnlyKeys is_known others

-- Devices

-- a name at a key, which is an identifier
pub record IsName (key : List ℕ) (table : Members) (name : List ℕ) : Type 0 where
  pub stands : text_at key table ≡ Some name
  pub named : is_identifier name ≡ true

-- a device is that of a table, which has its six keys and no other
pub record IsDevice (table : Members) (device : DeviceText) : Type 0 where
  pub known : OnlyKeys is_key_of_device table
  pub unit : IsName (codes "unit") table device.unit
  pub task : IsName (codes "task") table device.task
  pub object : text_at (codes "object") table ≡ Some device.object
  pub dotted : IsSome (dotted_parts device.object)
  pub operation : IsName (codes "operation") table device.operation
  pub priority : number_at (codes "priority") (pos 0) table ≡ Some (pos device.priority)
  pub lowest : 1 ≤ device.priority
  pub highest : device.priority ≤ 40
  pub calls : number_at (codes "calls") (pos 0) table ≡ Some (pos device.calls)
  pub fewest : 1 ≤ device.calls
  pub most : device.calls ≤ 1000000

-- a device is that of a value, which is a table
abbrev pub IsDeviceOf : Option Members → DeviceText → Type 0
IsDeviceOf None device = ⊥
IsDeviceOf (Some table) device = IsDevice table device

-- devices are those of an array, one after another
abbrev pub AreDevices : Items → List DeviceText → Type 0
AreDevices no_items [] = ⊤
AreDevices no_items (device ∷ devices) = ⊥
AreDevices (item value values) [] = ⊥
AreDevices (item value values) (device ∷ devices) = IsDeviceOf (as_table value) device × AreDevices values devices

-- devices are those of a value, which is an array
abbrev pub AreDevicesOf : Option Items → List DeviceText → Type 0
AreDevicesOf None devices = ⊥
AreDevicesOf (Some values) devices = AreDevices values devices

-- devices are those of what stands at their key; there are none where it isn't set
abbrev pub AreDevicesAt : Option Data → List DeviceText → Type 0
AreDevicesAt None devices = devices ≡ []
AreDevicesAt (Some value) devices = AreDevicesOf (as_array value) devices

-- Settings

-- settings are those of a table, which has no other keys
pub record AreSettings (table : Members) (settings : SettingsText) : Type 0 where
  pub known : OnlyKeys is_key table
  pub capacity : number_at (codes "capacity") (pos default_capacity) table ≡ Some (pos settings.capacity)
  pub least : 16 ≤ settings.capacity
  pub most : settings.capacity ≤ 1048576
  pub budget : number_at (codes "budget") (pos default_budget) table ≡ Some (pos settings.budget)
  pub fewest : 1 ≤ settings.budget
  pub greatest : settings.budget ≤ 1000000
  pub queue_limit : number_at (codes "queue_limit") (pos default_queue_limit) table ≡ Some (pos settings.queue_limit)
  pub shortest : 1 ≤ settings.queue_limit
  pub longest : settings.queue_limit ≤ 8
  pub devices : AreDevicesAt (get_member (codes "device") table) settings.devices

-- settings are those of a table that was read
pub record AreOfTable (read : Option Members) (settings : SettingsText) : Type 0 where
  pub table : Members
  pub is_table : read ≡ Some table
  pub values : AreSettings table settings

-- a fault that a table may have
abbrev pub IsOfValue : SettingsFault → Type 0
IsOfValue NotToml = ⊥
IsOfValue UnknownKey = Unit {0}
IsOfValue BadValue = Unit {0}
IsOfValue NoMemory = Unit {0}

-- only where no table was read it is told that there is none; which of the other faults is told is shown by tests
abbrev pub IsRefusedTable : Option Members → SettingsFault → Type 0
IsRefusedTable read NotToml = read ≡ None
IsRefusedTable read UnknownKey = (table : Members) × (read ≡ Some table)
IsRefusedTable read BadValue = (table : Members) × (read ≡ Some table)
IsRefusedTable read NoMemory = Unit {0}

-- the table that a text is, if it is TOML
abbrev pub table_of : List ℕ → Option Members
table_of text = parse_document (without_returns text)

-- settings are those of a text
abbrev pub IsSettings : List ℕ → SettingsText → Type 0
IsSettings text settings = AreOfTable (table_of text) settings

-- a text is refused by this fault
abbrev pub IsRefused : List ℕ → SettingsFault → Type 0
IsRefused text fault = IsRefusedTable (table_of text) fault
