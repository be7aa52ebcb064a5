use Rattle.std.proofs.Common.{◌+◌, ◌∙◌, ℕ, ap, max}
use Rattle.rv_machine.proofs.Needing.{body_low}
use Rattle.rv_machine.proofs.needs.body_high.Goals as goal

pub returns : goal.returns
returns c = λ ts call are.
    body_low c.args.one call c.height_in-declarations.result c.height_in-statements.result c.height_in-handlers.result _ ts c.args.heights.now.items c.args.body.now
    c.height_in-declarations.ensures c.height_in-statements.ensures c.height_in-handlers.ensures
    (ap (λ (n : ℕ). c.args.one + c.args.one + n) (c.higher-2.ensures ∙ ap (λ (n : ℕ). max c.height_in-declarations.result n) c.higher.ensures)) are
