use Rattle.std.proofs.Common.{◌≡◌, ◌++◌, length}
use Rattle.rv_verdict.specs.Texts.{texts_now, unit_texts}
use Rattle.rv_verdict.proofs.texts.unit_texts.Given as goal

-- the texts so far, and those of the parts that are left
abbrev pub invariant-each : goal.invariant-each
invariant-each l = texts_now l.texts.items ++ unit_texts l.parts ≡ unit_texts l.fn.parts

abbrev pub decreases-each : goal.decreases-each
decreases-each l = length l.parts
