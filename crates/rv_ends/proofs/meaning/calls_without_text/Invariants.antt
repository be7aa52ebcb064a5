use Rattle.std.proofs.Common.{◌≡◌, drop}
use Rattle.rv_flat.specs.FlatUnits.{flat_view}
use Rattle.rv_ends.specs.Explained.{calls_without_text}
use Rattle.rv_ends.proofs.meaning.calls_without_text.Given as goal

abbrev pub invariant-loop-pair : goal.invariant-loop-pair
invariant-loop-pair l = calls_without_text (flat_view l.unit) l.asked ≡ calls_without_text (flat_view l.unit) (drop l.pair-index l.asked)
