use Rattle.std.proofs.Common.{ℕ, [], ◌∷◌, ◌++◌, Option, sym, ap, ◌∙◌, codes}
use Rattle.std.proofs.lemmas.Result.{on_ok_weaker}
use Rattle.std.specs.Prelude.{string_bytes}
use Rattle.rv_shape.specs.Catalogue.{Who}
use Rattle.rv_shape.specs.Printed.{actor_text}
use Rattle.rv_explained.specs.Explanations.{waiter_line}
use Rattle.rv_explained.proofs.refusals.put_waiter.Goals as goal

pub returns-in-Some : goal.returns-in-Some
returns-in-Some c =
    let old = string_bytes c.args.text.now in
    on_ok_weaker c.put_named.result
    (λ put. put ∙ ap (λ (w : Who). old ++ (codes "waiting there: " ++ (actor_text w ++ 10 ∷ []))) c.who.ensures
    ∙ sym (ap (λ (o : Option ℕ). old ++ waiter_line c.args.catalogue.now o) c.in-Some.is)) c.put_named.ensures
