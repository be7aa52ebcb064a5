use Rattle.std.proofs.Common.{◌≡◌, ◌<◌, arith, ap, subst, sym, List, ℕ, length}
use Rattle.std.proofs.lemmas.Bool.Decides.{nat_tests}
use Rattle.rv_lists.specs.Kept.{lists_of}
use Rattle.rv_lists.specs.declared.kept.Kept.{Kept}
use Rattle.rv_lists.proofs.Leaving.{some_left}
use Rattle.rv_lists.proofs.series.Series.give_up.Goals as goal

pub returns-clause-some : goal.returns-clause-some
returns-clause-some c = λ some.
    let kept : List Kept = c.self.inside.kept.items in
    let count : ℕ = c.alone_before-count.result in
    let counts : 0 < count = grind (arith, nat_tests, c.if-count-eq0.false) in
    let there : count < length kept = subst (λ (all : List Kept). count < length all) c.as_slice.ensures.value (c.alone_before-count.ensures.there counts) in
    subst (λ (left : List Kept). 0 < length (lists_of left)) (sym c.drop_front.ensures) (some_left kept count there)
