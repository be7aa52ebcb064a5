use Rattle.std.proofs.Common.{◌≡◌, ◌*◌, ◌∙◌, length, true, ap, sym}
use Rattle.std.specs.Prelude.{nat_le}
use Rattle.rv_near.specs.Near.{is_near}
use Rattle.rv_near.proofs.Best.{first_near, kept, none_near}
use Rattle.rv_near.proofs.nearer.Goals as goal

pub returns-then-is_few : goal.returns-then-is_few
returns-then-is_few c = λ names is.
    let near : is_near c.args.word.now c.args.name.now ≡ true =
    ap (λ n. nat_le (3 * n) (length c.args.word.now)) (sym c.in_ok-edits.ensures) ∙ sym c.is_few.ensures ∙ c.if-is_few.true in
    (c.in_ok-edits.ensures, first_near c.args.word.now names c.args.name.now (none_near (λ p. (p.0, p.1.now)) c.args.best c.args.word.now names c.in-None.is is) near)

pub returns-else-edits-least : goal.returns-else-edits-least
returns-else-edits-least c = λ names is.
    kept (λ p. (p.0, p.1.now)) c.args.best _ c.args.word.now names c.args.name.now c.in_ok-edits.edits c.in-Some.is c.in_ok-edits.ensures c.if-edits-least.false is
