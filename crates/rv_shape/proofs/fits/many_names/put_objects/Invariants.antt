use Rattle.std.proofs.Common.{◌≡◌, ◌++◌, drop, map}
use Rattle.rv_shape.specs.Fits.{object_name}
use Rattle.rv_shape.proofs.fits.many_names.put_objects.Given as goal

-- with the names that are still to come
abbrev pub invariant-loop-object : goal.invariant-loop-object
invariant-loop-object l =
    map (λ n. n.text.now) l.names.items ++ map object_name (drop l.object-index l.objects) ≡ map (λ n. n.text.now) l.initial.names.items ++ map object_name l.objects
