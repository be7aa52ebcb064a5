use Rattle.std.proofs.lemmas.Result.{IfOk-weaker}
use Rattle.std.specs.Prelude.{string_bytes, ◌++◌, ◌∷◌}
use Rattle.std.proofs.Common.{◌≡◌}
use Rattle.rv_shape.specs.Printed.{target_text}
use Rattle.rv_shape.specs.Readers.{target_of}
use Rattle.rv_asked.specs.Holding.{Keeps}
use Rattle.rv_whatif.specs.Changes.{call_text}
use Rattle.rv_whatif.proofs.Judging.{words_are}
use Rattle.rv_whatif.proofs.whatif.WhatIf.words_of.Goals as goal

pub returns : goal.returns
returns c =
    IfOk-weaker c.call_words.result (λ words. string_bytes words ≡ c.subject.result.now ++ 32 ∷ target_text (target_of c.callee.result)) (λ words. Keeps c.args.self.now.holding c.args.host.now.shapes c.args.host.now.past → string_bytes words ≡ call_text c.args.host.now c.args.call.now)
    (λ words is keeps. words_are c.args.host.now c.args.call.now c.catalogue-catalogue.result.now c.subject.result.now (target_of c.callee.result) (string_bytes words) c.catalogue-catalogue.ensures (c.subject.ensures c.args.host.now c.catalogue-catalogue.ensures keeps) c.callee.ensures is) c.call_words.ensures
