use Rattle.std.proofs.Common.{◌≡◌, drop}
use Rattle.std.specs.List.{list_all}
use Rattle.rv_fits.specs.Passing.{passes}
use Rattle.rv_fits.proofs.body.all_fit.Given as goal

abbrev pub invariant-loop-part : goal.invariant-loop-part
invariant-loop-part g l =
    list_all (g.T.Part.calls (passes l.test)) (drop l.part-index l.parts)
    ≡ list_all (g.T.Part.calls (passes l.test)) l.parts
