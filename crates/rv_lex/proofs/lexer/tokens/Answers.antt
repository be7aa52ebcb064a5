use Rattle.std.proofs.Common.{◌≡◌, ◌+◌, inr, ap, ◌∙◌, arith}
use Rattle.rv_lex.specs.Characters.{gap_len}
use Rattle.rv_lex.proofs.Leads.{word_more, refuses, first_fault, finish}
use Rattle.rv_lex.proofs.Lexing.{lexes_one, lexes_refuses}
use Rattle.rv_lex.proofs.Standing.{lexes_stand}
use Rattle.rv_lex.proofs.lexer.tokens.Goals as goal

pub words-preserved : goal.words-preserved
words-preserved c = let gap : c.gap-skipped.result ≡ gap_len c.words.rest.now = c.gap-skipped.ensures.value ∙ ap gap_len c.as_bytes.ensures.value in (
  rw c.in_ok-push.ensures (word_more _ _ _ _ _ _ _ _ c.words.invariant.0 gap c.in-Ok.ensures.word c.in-Ok.ensures.text c.in-Ok.ensures.after),
  omega (arith, c.in-Ok.ensures.all),
  c.in-Ok.ensures.utf8,
)

pub returns-in-Err-clause-fault : goal.returns-in-Err-clause-fault
returns-in-Err-clause-fault c =
    let gap : c.gap-skipped.result ≡ gap_len c.words.rest.now = c.gap-skipped.ensures.value ∙ ap gap_len c.as_bytes.ensures.value in
    rw c.at.ensures (refuses c.in-Err.fault _ _ _ _ _ c.words.invariant.0 gap (omega arith) c.in-Err.ensures.fault)

pub returns-then-skipped-rest-clause-only : goal.returns-then-skipped-rest-clause-only
returns-then-skipped-rest-clause-only c =
    let gap : c.gap-skipped.result ≡ gap_len c.words.rest.now = c.gap-skipped.ensures.value ∙ ap gap_len c.as_bytes.ensures.value in
    λ ts h. lexes_one c.args.text.now ts c.words.found h (finish _ _ _ _ _ c.words.invariant.0 gap (omega arith))

pub returns-then-skipped-rest-clause-stand : goal.returns-then-skipped-rest-clause-stand
returns-then-skipped-rest-clause-stand c =
    let gap : c.gap-skipped.result ≡ gap_len c.words.rest.now = c.gap-skipped.ensures.value ∙ ap gap_len c.as_bytes.ensures.value in
    lexes_stand c.args.text.now c.words.found (finish _ _ _ _ _ c.words.invariant.0 gap (omega arith))

pub returns-in-Err-clause-none : goal.returns-in-Err-clause-none
returns-in-Err-clause-none c =
    let gap : c.gap-skipped.result ≡ gap_len c.words.rest.now = c.gap-skipped.ensures.value ∙ ap gap_len c.as_bytes.ensures.value in
    inr (λ ts h. lexes_refuses c.args.text.now ts c.in-Err.fault (c.words.place + c.gap-skipped.result) h (first_fault _ _ _ _ _ c.in-Err.fault c.words.invariant.0 gap (omega arith) c.in-Err.ensures.fault))
