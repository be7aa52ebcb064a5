use Rattle.rv_port.proofs.Performances.{performed_explained}
use Rattle.rv_port.proofs.Performing.{performed_stays}
use Rattle.rv_port.proofs.Tying.{tied}
use Rattle.rv_port.proofs.asker.Asker.perform.Goals as goal

pub returns-clause-tied : goal.returns-clause-tied
returns-clause-tied g c = tied c.args.self.now.pass c.go.new.self.pass c.args.self.now.is_refused c.go.new.self.is_refused c.args.request.now c.go.result c.args.self.now.handles c.requires c.go.ensures

pub returns-clause-stays : goal.returns-clause-stays
returns-clause-stays g c = performed_stays c.args.self.now.pass c.go.new.self.pass c.args.self.now.is_refused c.go.new.self.is_refused c.args.request.now c.go.result c.go.ensures

pub returns-clause-explains : goal.returns-clause-explains
returns-clause-explains g c = performed_explained c.args.self.now.pass c.go.new.self.pass c.args.self.now.is_refused c.go.new.self.is_refused c.args.request.now c.go.result c.requires c.args.self.now.handles c.args.self.now.owns c.go.new.self.owns c.go.ensures
