use Rattle.std.proofs.Common.{◌≡◌, ◌∙◌, ◌-◌, List, ap, subst, get_or, drop}
use Rattle.std.specs.Prelude.{◌↔◌, IsTrue}
use Rattle.rv_access.specs.Words.{Words}
use Rattle.rv_notes.specs.Covered.{IsSpanned}
use Rattle.rv_notes.proofs.Covering.{at_number}
use Rattle.rv_notes.proofs.covered.is_covered.Goals as goal

pub returns : goal.returns
returns c =
    let list = c.args.list.now in
    let number = c.args.number in
    let line = c.index-lines-number.result in
    let later : c.split_at.result.1.now ≡ drop number list = c.split_at.ensures.back ∙ ap (λ (ls : List Words). drop number ls) c.lines-lines.ensures in
    let both : IsTrue c.in_ok-spanned.spanned ↔ IsSpanned (drop number list) line =
    subst (λ (ls : List Words). IsTrue c.in_ok-spanned.spanned ↔ IsSpanned ls line) later c.in_ok-spanned.ensures in
    at_number list number line c.in_ok-spanned.spanned c.requires.counted c.requires.there
    (c.index-lines-number.is ∙ ap (λ (ls : List Words). get_or ls (number - 1) line) c.lines-lines.ensures) c.spelled.ensures both
