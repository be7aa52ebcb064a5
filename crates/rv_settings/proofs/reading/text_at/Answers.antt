use Rattle.std.proofs.Common.{◌≡◌, ◌∙◌, Some, Option, List, ℕ, ap, sym}
use Rattle.toml.specs.Data.{get_member, as_str}
use Rattle.toml.specs.View.{table_view, view}
use Rattle.toml.proofs.Views.{table_get}
use Rattle.rv_settings.specs.Settings.{text_of}
use Rattle.rv_settings.proofs.reading.text_at.Goals as goal

pub returns-in-Ok-clause-ok : goal.returns-in-Ok-clause-ok
returns-in-Ok-clause-ok c =
    let found = table_get c.get.result c.args.key.now c.args.table.now.entries c.get.ensures.value in
    let value : Some (view c.in-Some.value.now) ≡ get_member c.args.key.now (table_view c.args.table.now) = rw c.in-Some.is at found in
    let text : Some c.in-Some-as_str.text.now ≡ as_str (view c.in-Some.value.now) = rw c.in-Some-as_str.is at c.as_str.ensures in
    let some : Option (List ℕ) → Option (List ℕ) = λ o. o in
    sym (ap text_of value) ∙ sym text ∙ ap (λ (t : List ℕ). some (Some t)) (sym c.in-Ok.ensures.ok)
