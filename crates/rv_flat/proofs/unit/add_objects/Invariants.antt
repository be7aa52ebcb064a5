use Rattle.std.proofs.Common.{List, ◌++◌, map, take}
use Rattle.rv_code.specs.Bodies as t
use Rattle.rv_code.specs.BodyView.{list_at}
use Rattle.rv_flat.specs.FlatUnits.{Standing, Every, IsObjectAmong, object_in}
use Rattle.rv_flat.specs.Tables.{trees}
use Rattle.rv_flat.specs.Trees.{Tree}
use Rattle.rv_flat.proofs.unit.add_objects.Given as goal

abbrev pub invariant-loop-list : goal.invariant-loop-list
invariant-loop-list l =
    (a : List Tree) (xs : List (List t.Body)) → Standing (λ n. Every (IsObjectAmong n)) (λ ts. map (object_in ts)) a (trees l.fn.code) l.initial.flat.items xs
    → Standing (λ n. Every (IsObjectAmong n)) (λ ts. map (object_in ts)) a (trees l.code) l.flat.items (xs ++ map (list_at l.unit.lists.items) (take l.list-index l.unit.objects.items))
