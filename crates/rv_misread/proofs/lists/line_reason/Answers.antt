use Rattle.std.proofs.Common.{ℕ, List, IfSome, sym, subst}
use Rattle.rv_misread.specs.Lists.{Says}
use Rattle.rv_misread.proofs.lists.line_reason.Goals as goal

pub returns-clause-says : goal.returns-clause-says
returns-clause-says c =
    subst (λ (found : List (List ℕ)). IfSome c.reason_behind.result (λ reason. Says reason found))
    (sym c.in-Some.ensures.words) (c.reason_behind.ensures.says c.in-Some.verb.now)
