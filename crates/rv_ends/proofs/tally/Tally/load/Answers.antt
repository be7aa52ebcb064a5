use Rattle.std.proofs.Common.{refl, sym, ◌∙◌}
use Rattle.rv_code.specs.BodyView.{unit_view}
use Rattle.rv_ends.proofs.Counting.{loads_nothing, took_load}
use Rattle.rv_ends.proofs.tally.Tally.load.Goals as goal

pub returns-then-not-goes_on : goal.returns-then-not-goes_on
returns-then-not-goes_on c = loads_nothing c.args.self.now (unit_view c.args.bodies) (sym c.goes_on.ensures ∙ c.if-not-goes_on.true)

pub returns : goal.returns
returns c =
    took_load c.args.self.now (record c.args.self.now { ends = c.load.new.self }) (unit_view c.args.bodies)
    (sym c.goes_on.ensures ∙ c.if-not-goes_on.false) c.in_ok-load.ensures.whole refl refl c.in_ok-load.ensures.texts
