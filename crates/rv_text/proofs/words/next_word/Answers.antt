use Rattle.std.proofs.Common.{◌<◌, length, arith}
use Rattle.std.specs.List.{position_or_len}
use Rattle.rv_text.specs.Words.{is_blank}
use Rattle.rv_text.proofs.FirstParts.{before_blank, behind_blank, word_from, last_from}
use Rattle.rv_text.proofs.words.next_word.Goals as goal

pub split_at-requires : goal.split_at-requires
split_at-requires c = rw c.blank_at-at.ensures (before_blank c.loop-rest.rest.now)

pub split_at-requires-in-loop-rest : goal.split_at-requires-in-loop-rest
split_at-requires-in-loop-rest c =
    let rest = c.loop-rest.rest.now in
    let at = c.blank_at-at.ensures in
    let inside : position_or_len is_blank rest < length rest = omega arith in
    rw at (behind_blank rest c.loop-rest.invariant.0 inside)

pub returns-then-at-rest-clause-words : goal.returns-then-at-rest-clause-words
returns-then-at-rest-clause-words c =
    last_from c.args.text.now c.loop-rest.rest.now c.blank_at-at.result c.loop-rest.invariant.1 c.blank_at-at.ensures (omega arith) (omega arith)

pub returns-then-at-gt0-clause-words : goal.returns-then-at-gt0-clause-words
returns-then-at-gt0-clause-words c =
    word_from c.args.text.now c.loop-rest.rest.now c.split_at.result.0.now c.split_at-in-loop-rest.result.1.now c.blank_at-at.result c.loop-rest.invariant.1 c.blank_at-at.ensures (omega arith) (omega arith) c.split_at.ensures.front c.split_at-in-loop-rest.ensures.back
