use Rattle.std.proofs.Common.{◌≡◌, ◌++◌}
use Rattle.std.specs.Prelude.{option_copied, string_bytes}
use Rattle.rv_rights.specs.Rights.{rights_on}
use Rattle.rv_rights.proofs.listing.put_rights_on.Given as goal

abbrev pub invariant-loop-operation : goal.invariant-loop-operation
invariant-loop-operation l = string_bytes l.text ≡ string_bytes l.initial.text ++ rights_on l.wish l.list (option_copied l.other) l.catalogue l.object l.operation
