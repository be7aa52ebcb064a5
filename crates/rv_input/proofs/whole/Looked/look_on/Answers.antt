use Rattle.std.proofs.Common.{◌∙◌, sym, inl}
use Rattle.rv_input.specs.Whole.{IsRunLine}
use Rattle.rv_input.proofs.WholeLines.{left_behind, one_behind, one_of_first}
use Rattle.rv_input.proofs.whole.Looked.look_on.Goals as goal

pub returns-then-is_run_line-clause-found : goal.returns-then-is_run_line-clause-found
returns-then-is_run_line-clause-found c = λ _.
    let left = c.loop-line.invariant.left in
    let found = one_of_first IsRunLine c.loop-line.rest.now c.in-Some-first_line.line.now c.in-Some-first_line.behind.now c.in-Some-first_line.ensures.lines
    (inl (sym c.is_run_line.ensures ∙ c.if-is_run_line.true)) in
    one_behind IsRunLine c.args.bytes.now left.front c.loop-line.rest.now left.whole left.ends found

pub loop-line-preserved : goal.loop-line-preserved
loop-line-preserved c = record {
  left = left_behind c.args.bytes.now c.loop-line.rest.now c.in-Some-first_line.line.now c.in-Some-first_line.behind.now c.in-Some-first_line.ensures.whole
      c.loop-line.invariant.left;
  begins = c.loop-line.invariant.begins;
}
