use Rattle.std.proofs.Common.{◌<◌, length, rules, ◌∙◌, ap}
use Rattle.rv_input.specs.Coming.{Reading}
use Rattle.rv_input.proofs.Told.{some_ahead}
use Rattle.rv_input.proofs.input.Input.look_ahead.Goals as goal

pub returns-then-self-len-clause-end : goal.returns-then-self-len-clause-end
returns-then-self-len-clause-end g c none =
    let h : c.self.inside.next < length c.self.inside.ahead.items = search rules in
    absurd (some_ahead c.self.inside.next c.self.inside.ahead.items h (ap (λ (v : Reading). v.ahead) c.self.view_is ∙ none))
