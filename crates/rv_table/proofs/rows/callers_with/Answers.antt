use Rattle.std.proofs.Common.{◌≡◌, ◌∙◌, ◌++◌, ◌∷◌, [], ℕ, List, ap, subst, sym}
use Rattle.std.specs.List.{AllZip}
use Rattle.rv_table.specs.Tables.{IsCaller}
use Rattle.rv_table.proofs.Zips.{zip_push}
use Rattle.rv_table.proofs.rows.callers_with.Goals as goal

pub returns : goal.returns
returns c = λ names all.
    let list = c.args.list.now in
    let copied : c.in_ok-rows.rows.items ≡ c.args.rows.now = c.in_ok-rows.ensures in
    let row : IsCaller list c.args.shape.now.name c.caller_row.result = subst (λ (name : List ℕ). IsCaller list name c.caller_row.result) c.name.ensures c.caller_row.ensures in
    let longer : c.push.new.self.items ≡ c.args.rows.now ++ c.caller_row.result ∷ [] =
    c.in_ok-push.ensures.items ∙ ap (λ (rows : List (List ℕ)). rows ++ c.caller_row.result ∷ []) copied in
    subst (λ (rows : List (List ℕ)). AllZip (IsCaller list) (names ++ c.args.shape.now.name ∷ []) rows) (sym longer)
    (zip_push (IsCaller list) names c.args.rows.now c.args.shape.now.name c.caller_row.result all row)
