use Rattle.std.proofs.Common.{◌≡◌, map, drop}
use Rattle.rv_restrict.specs.Found.{each_noted}
use Rattle.rv_restrict.proofs.first.First.each.Given as goal

abbrev pub invariant-loop-part : goal.invariant-loop-part
invariant-loop-part g l =
    each_noted g.T.Judged.noted (map g.T.Judged.view (drop l.part-index l.parts)) l.self
    ≡ each_noted g.T.Judged.noted (map g.T.Judged.view l.parts) l.initial.self
