use Rattle.std.proofs.Common.{◌∷◌, List, ap, sym, ◌∙◌}
use Rattle.rv_object.specs.Actions.{actions_of, excludes}
use Rattle.rv_object.specs.declared.action.Action.{Action}
use Rattle.rv_object.specs.declared.action.Action.TheVariants.{Exclusive}
use Rattle.rv_object.proofs.ActionsLemmas.{actions_of-free}
use Rattle.rv_object.proofs.action.State.started.Goals as goal

pub returns-in-Exclusive-default-clause-actions : goal.returns-in-Exclusive-default-clause-actions
returns-in-Exclusive-default-clause-actions c =
    let actor = c.in-Exclusive-default.actor in
    let action_is = c.in-Exclusive-default.is-0 in
    let free = ap (λ (a : Action). excludes (actions_of c.args.self) a) (sym action_is) ∙ c.requires.free in
    ap (λ (xs : List Action). Exclusive actor ∷ xs) (sym (actions_of-free c.args.self actor c.requires.counted free))
    ∙ ap (λ (a : Action). a ∷ actions_of c.args.self) (sym action_is)
