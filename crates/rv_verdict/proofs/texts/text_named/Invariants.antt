use Rattle.std.proofs.Common.{◌≡◌, drop}
use Rattle.rv_verdict.specs.Texts.{text_named, texts_now}
use Rattle.rv_verdict.proofs.texts.text_named.Given as goal

-- what is left of both has the text that is looked for
abbrev pub invariant-loop-index : goal.invariant-loop-index
invariant-loop-index l = text_named (drop l.index l.units) (texts_now (drop l.index l.texts)) l.name ≡ text_named l.units (texts_now l.texts) l.name
