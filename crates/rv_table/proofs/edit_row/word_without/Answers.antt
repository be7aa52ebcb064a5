use Rattle.std.proofs.Common.{ap, ◌∙◌}
use Rattle.std.specs.Int.{bit_at}
use Rattle.rv_table.proofs.Bits.{word_less}
use Rattle.rv_table.proofs.edit_row.word_without.Goals as goal

pub returns-then-place-w-2 : goal.returns-then-place-w-2
returns-then-place-w-2 c =
    word_less c.args.words.now c.args.w c.args.place c.moved_down-moved.result c.joined.result c.if-place-w-2.true c.moved_down-moved.ensures.others
    (c.moved_down-moved.ensures.last ∙ ap (λ n. bit_at n 0) c.next_word.ensures) c.joined.ensures.before c.joined.ensures.behind
