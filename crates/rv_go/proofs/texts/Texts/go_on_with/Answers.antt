use Rattle.std.proofs.Common.{◌-◌}
use Rattle.rv_exec.specs.Bodies.{bodies_view}
use Rattle.rv_go.proofs.Keeping.{kept_stopped}
use Rattle.rv_go.proofs.texts.Texts.go_on_with.Goals as goal

pub invariant_of-self : goal.invariant_of-self
invariant_of-self c =
    let old = c.args.self.now in
    record {
      kept = kept_stopped (bodies_view old.bodies) (bodies_view c.args.more) old.budget old.awaited (old.awaited - 1) old.heard.items old.running old.listeners.items c.stop.new.listeners.items
          c.requires c.stop.ensures old.kept;
    }
