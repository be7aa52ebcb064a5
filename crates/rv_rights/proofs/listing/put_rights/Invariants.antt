use Rattle.std.proofs.Common.{◌≡◌, ◌++◌}
use Rattle.std.specs.Prelude.{option_copied, string_bytes}
use Rattle.rv_rights.specs.Rights.{rights_below}
use Rattle.rv_rights.proofs.listing.put_rights.Given as goal

abbrev pub invariant-loop-object : goal.invariant-loop-object
invariant-loop-object l = string_bytes l.text ≡ string_bytes l.initial.text ++ rights_below l.wish l.list (option_copied l.other) l.catalogue l.object
