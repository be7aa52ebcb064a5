use Rattle.std.proofs.Common.{◌≡◌, ◌∙◌, ◌++◌, ◌∷◌, ap, subst, ℕ, List, IfOk, string_bytes}
use Rattle.rv_tally.specs.Tallying.{added}
use Rattle.rv_tally.specs.Wording.{grouped}
use Rattle.rv_tally.proofs.words.unit_part.Goals as goal

pub returns : goal.returns
returns c = λ entries few t.
    let count : c.of_unit.result ≡ added c.args.catalogue.now c.args.shape.now.name entries =
    c.of_unit.ensures entries few t ∙ ap (λ (name : List ℕ). added c.args.catalogue.now name entries) c.name-name.ensures in
    let named = subst (λ (name : List ℕ). IfOk c.named_number.result (λ text. string_bytes text ≡ name ++ 32 ∷ grouped c.of_unit.result))
    c.name-name.ensures c.named_number.ensures in
    subst (λ (n : ℕ). IfOk c.named_number.result (λ text. string_bytes text ≡ c.args.shape.now.name ++ 32 ∷ grouped n)) count named
