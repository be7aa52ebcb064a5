use Rattle.std.proofs.Common.{◌≡◌, drop, map}
use Rattle.rv_tree.specs.BodyView.{operation_body_view}
use Rattle.rv_types.specs.BodiesOf.{body_named}
use Rattle.rv_types.proofs.body.body_named.Given as goal

abbrev pub invariant-loop-body : goal.invariant-loop-body
invariant-loop-body l =
    body_named l.name (map operation_body_view (drop l.body-index l.body-items)) ≡ body_named l.name (map operation_body_view l.body-items)
