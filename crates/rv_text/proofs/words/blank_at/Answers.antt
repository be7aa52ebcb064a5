use Rattle.std.proofs.Common.{length, sym, arith, rules}
use Rattle.std.proofs.lemmas.List.Sums.{position_or_len_is}
use Rattle.rv_text.specs.Words.{is_blank}
use Rattle.rv_text.proofs.words.blank_at.Goals as goal

pub returns : goal.returns
returns c =
    let text = c.args.text.now in
    sym (position_or_len_is is_blank text (length text) 0 (omega arith) (λ k h. c.loop-i.invariant k (omega arith)) (λ h. absurd (omega arith)))

pub returns-then-is_blank : goal.returns-then-is_blank
returns-then-is_blank c = sym (position_or_len_is is_blank c.args.text.now c.loop-i.i 0 (omega arith) c.loop-i.invariant (λ h. search rules))
