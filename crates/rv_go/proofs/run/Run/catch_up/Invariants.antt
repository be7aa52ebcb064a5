use Rattle.std.proofs.Common.{◌≡◌, ◌≤◌, ◌-◌, ℕ, List, length}
use Rattle.rv_event.specs.declared.entry.Answer.{Answer}
use Rattle.rv_go.specs.Runs.{IsRun}
use Rattle.rv_machine.specs.Machines.{Fits}
use Rattle.rv_go.proofs.run.Run.catch_up.Given as goal

abbrev pub invariant-kept : goal.invariant-kept
invariant-kept l =
    record {
      run : (budget : ℕ) (before : List Answer) → IsRun l.table budget before l.answers l.initial.self → IsRun l.table budget before l.answers l.self;
      fits : Fits l.table l.self.machine;
      within : l.self.looked ≤ length l.answers;
      text : l.self.text ≡ l.initial.self.text;
    }

abbrev pub decreases-kept : goal.decreases-kept
decreases-kept l = length l.answers - l.self.looked
