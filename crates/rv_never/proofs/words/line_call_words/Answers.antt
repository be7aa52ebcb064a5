use Rattle.std.proofs.Common.{◌≡◌, ◌∙◌, ◌++◌, ℕ, List, subst}
use Rattle.std.specs.Prelude.{IfOk, codes, string_bytes}
use Rattle.rv_shape.specs.Readers.{target_of}
use Rattle.rv_never.specs.Telling as says
use Rattle.rv_never.proofs.words.line_call_words.Goals as goal

pub returns : goal.returns
returns c =
    let name : c.as_str-name.result.now ≡ says.line_name c.args.line = c.as_str-name.ensures.value ∙ c.in_ok-name.ensures in
    let call : c.as_str-call.result.now ≡ says.call_text (target_of c.args.callee.now) = c.as_str-call.ensures.value ∙ c.in_ok-call.ensures in
    subst (λ (bytes : List ℕ). IfOk c.format.result (λ text. string_bytes text ≡ bytes)) (λ i. name i ++ (codes " calls " ++ (call i ++ codes " as Interrupts"))) c.format.ensures.ok
