use Rattle.std.proofs.Common.{◌≡◌, ◌++◌, drop}
use Rattle.std.specs.Prelude.{string_bytes}
use Rattle.rv_picture.specs.Letters.{rows_text}
use Rattle.rv_picture.proofs.letters.put_rows.Given as goal

abbrev pub invariant-loop-lane : goal.invariant-loop-lane
invariant-loop-lane l =
    string_bytes l.text ++ rows_text l.catalogue l.bars l.block (drop l.lane-index l.lanes) ≡ string_bytes l.initial.text ++ rows_text l.catalogue l.bars l.block l.lanes
