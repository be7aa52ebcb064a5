use Rattle.std.proofs.Common.{◌≡◌, ◌+◌, drop}
use Rattle.std.specs.Prelude.{◌==◌, if◌then◌else◌}
use Rattle.rv_text.specs.Names.{dotted}
use Rattle.rv_access.specs.Lines.{decides}
use Rattle.rv_access.proofs.decision.last_match.Given as goal

-- the last match is the one in what is left, else the last so far
abbrev pub invariant-loop-i : goal.invariant-loop-i
invariant-loop-i l =
    let name = dotted l.unit l.object in
    let later = decides (drop l.i l.lines) l.caller name l.operation l.tick in
    (if later == 0 then l.last else l.i + later) ≡ decides l.lines l.caller name l.operation l.tick
