use Rattle.std.proofs.Common.{List, nat_eq, ap, sym, ◌∙◌}
use Rattle.std.specs.List.{list_any}
use Rattle.rv_prio.specs.declared.held.Held.{Held}
use Rattle.rv_prio.proofs.Reversed.{list_any_reverse}
use Rattle.rv_prio.proofs.stack.Stack.holds.Goals as goal

pub returns : goal.returns
returns c =
    let has = λ (xs : List Held). list_any (λ (held : Held). nat_eq held.object c.args.object) xs in
    c.is_among.ensures ∙ ap has c.as_slice.ensures.value
    ∙ sym (list_any_reverse (λ (held : Held). nat_eq held.object c.args.object) c.self.inside.held.items)
    ∙ ap has c.self.view_is
