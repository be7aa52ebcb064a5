use Rattle.std.proofs.Common.{◌≡◌, ◌++◌, ◌/◌, ℕ, suc, length, ap, ◌∙◌, arith}
use Rattle.std.specs.Prelude.{string_bytes}
use Rattle.rv_picture.specs.Letters.{blocks_text}
use Rattle.rv_picture.proofs.letters.put_blocks.Goals as goal

pub returns : goal.returns
returns c =
    let all : c.loop-number.number ≡ suc (length c.args.moments.now / 60) = omega arith in
    c.loop-number.invariant
    ∙ ap (λ (n : ℕ). string_bytes c.args.text.now ++ blocks_text c.args.catalogue.now c.args.lanes.now c.args.bars.now c.args.moments.now n) all
