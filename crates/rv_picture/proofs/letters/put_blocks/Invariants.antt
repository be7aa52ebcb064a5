use Rattle.std.proofs.Common.{◌≡◌, ◌++◌}
use Rattle.std.specs.Prelude.{string_bytes}
use Rattle.rv_picture.specs.Letters.{blocks_text}
use Rattle.rv_picture.proofs.letters.put_blocks.Given as goal

abbrev pub invariant-loop-number : goal.invariant-loop-number
invariant-loop-number l =
    string_bytes l.text ≡ string_bytes l.initial.text ++ blocks_text l.catalogue l.lanes l.bars l.moments l.number
