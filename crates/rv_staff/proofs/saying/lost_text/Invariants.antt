use Rattle.std.proofs.Common.{◌≡◌, ◌++◌, string_bytes, drop}
use Rattle.std.specs.List.{flat_map}
use Rattle.rv_staff.specs.Saying.{lost_line}
use Rattle.rv_staff.proofs.saying.lost_text.Given as goal

abbrev pub invariant-each : goal.invariant-each
invariant-each l =
    string_bytes l.text ++ flat_map (lost_line l.catalogue) (drop l.actor-index l.lost) ≡ flat_map (lost_line l.catalogue) l.lost
