use Rattle.std.proofs.Common.{ℕ, List, [], ◌∷◌, ◌++◌, ap, ◌∙◌, codes}
use Rattle.std.proofs.lemmas.Result.{on_ok_weaker}
use Rattle.std.specs.Prelude.{string_bytes}
use Rattle.std.specs.Fmt.{decimal}
use Rattle.rv_shape.specs.Catalogue.{ceiling}
use Rattle.rv_shape.specs.Shape.{Shape}
use Rattle.rv_history.specs.Subject.{active}
use Rattle.rv_explained.proofs.bodies.put_priorities.Goals as goal

pub returns : goal.returns
returns c =
    let h = c.args.host.now in
    let old = string_bytes c.args.text.now in
    on_ok_weaker c.put_two.result
    (λ put are. put
    ∙ ap (λ (n : ℕ). old ++ (codes "active priority " ++ (decimal n ++ (codes ", ceiling " ++ (decimal c.ceiling-ceiling.result ++ 10 ∷ []))))) (c.active-active.ensures are)
    ∙ ap (λ (n : ℕ). old ++ (codes "active priority " ++ (decimal (active h c.args.actor) ++ (codes ", ceiling " ++ (decimal n ++ 10 ∷ []))))) (c.ceiling-ceiling.ensures ∙ ap (λ (ss : List Shape). ceiling ss c.args.object) c.catalogue.ensures))
    c.put_two.ensures
