use Rattle.std.proofs.Common.{◌≡◌, take, false}
use Rattle.std.specs.Prelude.{is_some}
use Rattle.std.specs.List.{list_any}
use Rattle.rv_shape.specs.Catalogue.{all_objects}
use Rattle.rv_shape.specs.Names.{number_from, operation_names}
use Rattle.rv_notes.proofs.names.has_somewhere.Given as goal

-- none of the objects so far has such an operation
abbrev pub invariant-loop-place : goal.invariant-loop-place
invariant-loop-place l =
    list_any (λ at. is_some (number_from l.name 1 (operation_names at.object))) (take l.place (all_objects l.catalogue)) ≡ false
