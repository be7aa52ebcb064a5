use Rattle.std.proofs.Common.{◌≡◌, ◌++◌, ◌∷◌, [], ap, rules}
use Rattle.rv_code.specs.BodyView.{unit_view}
use Rattle.rv_exec.proofs.Units.{added}
use Rattle.rv_exec.proofs.bodies.Bodies.add.Goals as goal

pub returns-clause-ok : goal.returns-clause-ok
returns-clause-ok c = let items : c.push.new.self.items ≡ c.args.self.now.units.items ++ c.in_ok-unit.unit ∷ [] = search rules in
    added c.args.self.now.units.items c.push.new.self.items c.in_ok-unit.unit (unit_view c.args.unit) items (ap unit_view c.in_ok-unit.ensures)
