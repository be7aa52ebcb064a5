use Rattle.std.proofs.Common.{ℕ, List, ◌++◌, ap, sym, subst, ◌∙◌}
use Rattle.std.specs.Prelude.{String, Vec, string_bytes}
use Rattle.std.specs.Global.{Global}
use Rattle.std.proofs.lemmas.Result.{on_ok_weaker}
use Rattle.rv_shape.specs.Catalogue.{Target, target}
use Rattle.rv_shape.specs.Shape.{Shape}
use Rattle.rv_export.specs.Exports.{target_fields}
use Rattle.rv_export.specs.Said.{AreCalls}
use Rattle.rv_export.proofs.said.Said.put_call.Goals as goal

pub returns-in-Some : goal.returns-in-Some
returns-in-Some c =
    let old = string_bytes c.args.text.now in
    on_ok_weaker c.put_found.result
    (λ put h names is. put ∙ ap (λ (t : List ℕ). old ++ t) (c.in-Some.ensures h.shapes (subst (λ (xs : List (Vec (String Global) Global)). AreCalls xs h.shapes) (sym c.as_slice.ensures.value) is.calls)))
    c.put_found.ensures

pub returns-in-None : goal.returns-in-None
returns-in-None c =
    let old = string_bytes c.args.text.now in
    on_ok_weaker c.put_target.result
    (λ put h names is. put ∙ ap (λ (t : Target). old ++ target_fields t) (c.callee.ensures ∙ ap (λ (ss : List Shape). target ss c.args.object c.args.operation) names))
    c.put_target.ensures
