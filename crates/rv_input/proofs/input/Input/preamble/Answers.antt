use Rattle.std.proofs.Common.{◌≡◌, ◌<◌, ◌++◌, true, false, List, ℕ, length, sym, ap, ◌∙◌, rules}
use Rattle.rv_input.specs.Coming.{content, is_run}
use Rattle.rv_input.proofs.Told.{taken_both, taken_as}
use Rattle.rv_input.proofs.Passing.{one_passed, run_comes}
use Rattle.rv_input.proofs.input.Input.preamble.Goals as goal

pub returns-then-is_run-clause-comes : goal.returns-then-is_run-clause-comes
returns-then-is_run-clause-comes g c =
    let line = c.in_ok-line.line.items in
    let some : 0 < length line = search rules in
    let runs : is_run (content line) ≡ true = ap (λ (l : List ℕ). is_run (content l)) (sym c.as_slice.ensures.value) ∙ (sym c.is_run.ensures ∙ c.if-is_run.true) in
    run_comes _ _ _ c.loop-bytes.bytes.items line some runs c.loop-bytes.invariant.passed c.in_ok-line.ensures.comes

pub returns-then-is_run-clause-taken : goal.returns-then-is_run-clause-taken
returns-then-is_run-clause-taken g c = taken_both _ _ _ c.loop-bytes.bytes.items c.in_ok-line.line.items c.loop-bytes.invariant.taken c.in_ok-line.ensures.taken

pub loop-bytes-preserved : goal.loop-bytes-preserved
loop-bytes-preserved g c =
    let line = c.in_ok-line.line.items in
    let some : 0 < length line = search rules in
    let passes : is_run (content line) ≡ false = ap (λ (l : List ℕ). is_run (content l)) (sym c.as_slice.ensures.value) ∙ (sym c.is_run.ensures ∙ c.if-is_run.false) in
    let whole : c.keep_line.new.bytes.items ≡ c.loop-bytes.bytes.items ++ line = c.in_ok-keep_line.ensures ∙ ap (λ (l : List ℕ). c.loop-bytes.bytes.items ++ l) c.as_slice-in-loop-bytes.ensures.value in
    record {
      passed = one_passed _ _ _ c.loop-bytes.bytes.items line _ some passes whole c.loop-bytes.invariant.passed c.in_ok-line.ensures.comes;
      taken = taken_as _ _ _ _ (sym whole) (taken_both _ _ _ c.loop-bytes.bytes.items line c.loop-bytes.invariant.taken c.in_ok-line.ensures.taken);
    }
