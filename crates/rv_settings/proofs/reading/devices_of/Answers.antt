use Rattle.std.proofs.Common.{◌≡◌, Some, Option, IfOk, codes, subst}
use Rattle.toml.specs.Data.{Data, Items, as_array}
use Rattle.toml.specs.View.{array_view, view}
use Rattle.toml.proofs.Views.{table_get}
use Rattle.rv_settings.specs.Settings.{AreDevicesAt, AreDevicesOf}
use Rattle.rv_settings.proofs.reading.devices_of.Goals as goal

pub returns-in_default-clause-ok : goal.returns-in_default-clause-ok
returns-in_default-clause-ok c =
    let found = table_get c.get.result (codes "device") c.args.table.now.entries c.get.ensures.value in
    rw (← (rw c.in_default.is at found)) c.new.ensures.items

pub returns-in-Some-as_array-clause-ok : goal.returns-in-Some-as_array-clause-ok
returns-in-Some-as_array-clause-ok c =
    let found = table_get c.get.result (codes "device") c.args.table.now.entries c.get.ensures.value in
    let array : Some (array_view c.in-Some-as_array.array.now) ≡ as_array (view c.in-Some.value.now) = rw c.in-Some-as_array.is at c.as_array.ensures in
    subst (λ (o : Option Data). IfOk c.devices_in.result (λ ds. AreDevicesAt o ds.items)) (rw c.in-Some.is at found)
    (subst (λ (a : Option Items). IfOk c.devices_in.result (λ ds. AreDevicesOf a ds.items)) array c.devices_in.ensures.ok)
