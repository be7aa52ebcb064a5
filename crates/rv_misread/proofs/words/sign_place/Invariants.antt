use Rattle.std.proofs.Common.{◌≡◌, ◌+◌, ◌-◌, ◌≤◌, ◌==◌, not, length, drop}
use Rattle.std.specs.List.{prefix_len}
use Rattle.rv_misread.proofs.words.sign_place.Given as goal

abbrev pub invariant-loop-end : goal.invariant-loop-end
invariant-loop-end l = (l.end + prefix_len (λ b. not (b == 35)) (drop l.end l.text) ≡ prefix_len (λ b. not (b == 35)) l.text) × (l.end ≤ length l.text)

abbrev pub decreases-loop-end : goal.decreases-loop-end
decreases-loop-end l = length l.text - l.end
