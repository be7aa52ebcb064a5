use Rattle.std.proofs.Common.{◌≡◌, ◌≤◌, ◌+◌, ◌++◌, [], false, length, map, reverse}
use Rattle.std.specs.Prelude.{vec_len}
use Rattle.std.specs.Vec.{vec_capacity}
use Rattle.rv_turn.specs.Histories.{Each}
use Rattle.rv_port.specs.Ports.{pass_of}
use Rattle.rv_port.proofs.control.closing.take_passes.Given as goal

abbrev pub invariant-loop-done : goal.invariant-loop-done
invariant-loop-done l = record {
  all : map pass_of l.fn.finished.items ≡ map pass_of l.finished.items ++ reverse l.passes.items;
  room : length l.finished.items + vec_len l.passes ≤ vec_capacity l.passes;
  given : Each (λ p. (p.first ≡ false) × (p.base ≡ [])) l.passes.items;
}

abbrev pub decreases-loop-done : goal.decreases-loop-done
decreases-loop-done l = length l.finished.items
