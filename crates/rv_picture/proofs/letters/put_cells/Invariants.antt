use Rattle.std.proofs.Common.{◌≡◌, ◌++◌, drop}
use Rattle.std.specs.Prelude.{string_bytes}
use Rattle.rv_picture.specs.Letters.{cells}
use Rattle.rv_picture.proofs.letters.put_cells.Given as goal

abbrev pub invariant-loop-moment : goal.invariant-loop-moment
invariant-loop-moment l =
    string_bytes l.text ++ cells l.bars (drop l.moment-index l.block) ≡ string_bytes l.initial.text ++ cells l.bars l.block
