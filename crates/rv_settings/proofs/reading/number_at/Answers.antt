use Rattle.std.proofs.Common.{◌≡◌, ◌∙◌, ℤ, Some, Option, ap}
use Rattle.std.proofs.lemmas.Int.{to_z-of_z}
use mir.Syntax.{w64}
use mir.Val.{to_z, of_z}
use Rattle.toml.specs.Data.{Data}
use Rattle.toml.proofs.Views.{table_get}
use Rattle.rv_settings.specs.Settings.{number_of}
use Rattle.rv_settings.proofs.reading.number_at.Goals as goal

pub returns-in-Some : goal.returns-in-Some
returns-in-Some c =
    let found = table_get c.get.result c.args.key.now c.args.table.now.entries c.get.ensures.value in
    c.as_integer.ensures ∙ ap (λ (o : Option Data). number_of c.args.default o) (rw c.in-Some.is at found)

pub returns-in-None : goal.returns-in-None
returns-in-None c =
    let found = table_get c.get.result c.args.key.now c.args.table.now.entries c.get.ensures.value in
    let same : to_z w64 (of_z w64 c.args.default) ≡ c.args.default = to_z-of_z w64 c.args.default c.ranges.default in
    let some : Option ℤ → Option ℤ = λ o. o in
    ap (λ (z : ℤ). some (Some z)) same ∙ ap (λ (o : Option Data). number_of c.args.default o) (rw c.in-None.is at found)
