use Rattle.std.proofs.Common.{ap, sym, ◌∙◌, map}
use Rattle.std.proofs.lemmas.Option.{slice_get_past}
use Rattle.rv_flat.specs.FlatView.{body_in}
use Rattle.rv_flat.specs.FlatUnits.{IsObjectAmong, listed_in}
use Rattle.rv_flat.proofs.Units.{every_get}
use Rattle.rv_flat.proofs.unit.copy_of.Goals as goal

pub returns-in_ok-operations-in-Some-clause-among : goal.returns-in_ok-operations-in-Some-clause-among
returns-in_ok-operations-in-Some-clause-among c = λ n all.
    c.in_ok-operations-in-Some.ensures.among n
    (every_get (IsObjectAmong n) c.args.lists.now c.args.list c.in-Some.object.now c.in-Some.ensures.lookup.3.0 c.in-Some.ensures.lookup.1 all)

pub returns-in-None-clause-bodies : goal.returns-in-None-clause-bodies
returns-in-None-clause-bodies c = λ ts.
    ap (map (body_in ts)) c.new.ensures.items
    ∙ ap (listed_in ts) (sym (slice_get_past c.args.lists.now c.args.list c.in-None.ensures.lookup.3))
