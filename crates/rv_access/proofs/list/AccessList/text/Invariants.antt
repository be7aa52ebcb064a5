use Rattle.std.proofs.Common.{◌≡◌, ◌++◌, drop, string_bytes}
use Rattle.std.specs.Prelude.{◌==◌, if◌then◌else◌}
use Rattle.rv_access.specs.Text.{list_text, more_text}
use Rattle.rv_access.proofs.list.AccessList.text.Given as goal

abbrev pub invariant-loop-i : goal.invariant-loop-i
invariant-loop-i l =
    string_bytes l.text ++ (if l.i == 0 then list_text (drop l.i l.self) else more_text (drop l.i l.self)) ≡ list_text l.self
