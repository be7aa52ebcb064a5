use Rattle.std.proofs.Common.{◌≡◌, ◌∙◌, ap, get_or, sym, List, Bool, true, false, refl}
use Rattle.std.specs.Prelude.{◌||◌, not}
use Rattle.std.specs.List.{list_any}
use Rattle.rv_object.specs.Actions.{ObjectView, excludes}
use Rattle.rv_object.specs.declared.action.Action.{Action}
use Rattle.rv_event.specs.Past.{is_unsettled, under_way, unsettled}
use Rattle.rv_history.specs.Exclusion.{conflicts}
use Rattle.rv_present.specs.Holdings.{idle}
use Rattle.rv_present.proofs.Leaving.{any_counted}
use Rattle.rv_present.proofs.Starting.{excludes_is}
use Rattle.rv_present.proofs.present.Present.is_busy.Goals as goal

not_not : (t : Bool) → not (not t) ≡ t
not_not true = refl
not_not false = refl

pub returns : goal.returns
returns c = λ h k.
    let o = c.args.object in
    let asked : Action = c.action_of_kind.result in
    let bs = under_way h.shapes h.past in
    let held : excludes c.of.result.now.actions asked ≡ list_any (conflicts h.shapes o c.args.function) bs =
    ap (λ (xs : List Action). excludes xs asked) (ap (λ (x : ObjectView). x.actions) c.of.ensures ∙ k.bodies_are.actions o)
    ∙ excludes_is h.shapes o asked bs ∙ ap (λ t. list_any (conflicts h.shapes o t) bs) c.action_of_kind.ensures in
    let left : c.of.result.now.unsettled ≡ is_unsettled h.shapes o h.past =
    ap (λ (x : ObjectView). x.unsettled) c.of.ensures ∙ sym (any_counted o (unsettled h.shapes h.past) (get_or c.args.self.now.bodies.objects o idle).unsettled (k.unsettled_are.on o)) in
    ap not c.may_start.ensures ∙ not_not (excludes c.of.result.now.actions asked || c.of.result.now.unsettled) ∙ (λ i. held i || left i)
