use Rattle.std.proofs.Common.{◌≡◌, drop}
use Rattle.std.specs.List.{position_from}
use Rattle.rv_text.specs.Names.{is_same_name}
use Rattle.rv_scope.proofs.region.index_among.Given as goal

abbrev pub invariant-loop-index : goal.invariant-loop-index
invariant-loop-index l = position_from (is_same_name l.name) l.index (drop l.index l.keys) ≡ position_from (is_same_name l.name) 0 l.keys
