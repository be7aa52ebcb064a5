use Rattle.std.proofs.Common.{◌∷◌, List, length, ap, sym, ◌∙◌}
use Rattle.std.specs.Prelude.{replicate}
use Rattle.rv_object.specs.Actions.{ObjectView, is_under_way}
use Rattle.rv_object.specs.declared.action.Action.{Action}
use Rattle.rv_object.proofs.ActionsLemmas.{actions_of-alike, actions_of-newest}
use Rattle.rv_object.proofs.object.Object.finish.Goals as goal

pub returns-in-Exclusive-clause-actions : goal.returns-in-Exclusive-clause-actions
returns-in-Exclusive-clause-actions c =
    let some = ap (λ (o : ObjectView). is_under_way c.args.action o.actions) c.self.view_is ∙ c.requires in
    sym (ap (λ (o : ObjectView). o.actions) c.self.view_is) ∙ actions_of-newest c.self.inside.state c.args.action some
    ∙ ap (λ (xs : List Action). c.args.action ∷ xs) (sym c.finished-self-inside.ensures.actions)

pub returns-in-Exclusive-clause-alike : goal.returns-in-Exclusive-clause-alike
returns-in-Exclusive-clause-alike c =
    let some = ap (λ (o : ObjectView). is_under_way c.args.action o.actions) c.self.view_is ∙ c.requires in
    sym (ap (λ (o : ObjectView). o.actions) c.self.view_is) ∙ actions_of-alike c.self.inside.state c.args.action some
    ∙ ap (λ (o : ObjectView). replicate (length o.actions) c.args.action) c.self.view_is

pub returns-in_default-clause-actions : goal.returns-in_default-clause-actions
returns-in_default-clause-actions c =
    let some = ap (λ (o : ObjectView). is_under_way c.args.action o.actions) c.self.view_is ∙ c.requires in
    sym (ap (λ (o : ObjectView). o.actions) c.self.view_is) ∙ actions_of-newest c.self.inside.state c.args.action some
    ∙ ap (λ (xs : List Action). c.args.action ∷ xs) (sym c.finished-self-inside.ensures.actions)

pub returns-in_default-clause-alike : goal.returns-in_default-clause-alike
returns-in_default-clause-alike c =
    let some = ap (λ (o : ObjectView). is_under_way c.args.action o.actions) c.self.view_is ∙ c.requires in
    sym (ap (λ (o : ObjectView). o.actions) c.self.view_is) ∙ actions_of-alike c.self.inside.state c.args.action some
    ∙ ap (λ (o : ObjectView). replicate (length o.actions) c.args.action) c.self.view_is
