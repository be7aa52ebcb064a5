use Rattle.std.proofs.Common.{◌≡◌, ◌∙◌, ◌≤◌, length, ap, sym, subst, false, arith}
use Rattle.std.specs.Prelude.{◌&&◌}
use Rattle.rv_access.specs.Lines.{fits}
use Rattle.rv_access.specs.Words.{Words}
use Rattle.rv_text.specs.Names.{dotted}
use Rattle.rv_never.specs.Denied.{IsSteady}
use Rattle.rv_never.proofs.Steady.{all_taken, either_of, none_steady, skipped, taken}
use Rattle.rv_never.proofs.denied.next_change.Goals as goal

pub loop-line-init : goal.loop-line-init
loop-line-init c = record {
  later = tt;
  steady = none_steady c.args.caller.now (dotted c.args.unit.now c.args.object.now) c.args.operation.now c.args.tick;
}

pub loop-line-preserved-then-not-fits_call : goal.loop-line-preserved-then-not-fits_call
loop-line-preserved-then-not-fits_call c =
    let object = dotted c.args.unit.now c.args.object.now in
    let unfit : (fits (c.line-item.result).unit c.args.caller.now && fits (c.line-item.result).object object && fits (c.line-item.result).operation c.args.operation.now) ≡ false =
    sym c.fits_call.ensures ∙ c.if-not-fits_call.true in
    let there = ap (λ (l : Words). fits l.unit c.args.caller.now && fits l.object object && fits l.operation c.args.operation.now) (sym c.line-item.is) in
    record {
      later = c.loop-line.invariant.later;
      steady = skipped c.args.lines.now c.args.caller.now object c.args.operation.now c.args.tick c.loop-line.next c.loop-line.line-index c.line-item.result c.loop-line-test.true
          (there ∙ unfit) c.loop-line.invariant.steady;
    }

pub loop-line-preserved : goal.loop-line-preserved
loop-line-preserved c =
    let object = dotted c.args.unit.now c.args.object.now in
    record {
      later = either_of c.args.tick c.earlier-next.result c.loop-line.next c.change_of.result c.earlier-next.ensures.either c.loop-line.invariant.later c.change_of.ensures.later;
      steady = taken c.args.lines.now c.args.caller.now object c.args.operation.now c.args.tick c.loop-line.next c.change_of.result c.earlier-next.result c.loop-line.line-index c.line-item.result
          c.loop-line-test.true c.earlier-next.ensures.both (subst (λ (l : Words). IsSteady l.window c.args.tick c.change_of.result) c.line-item.is c.change_of.ensures.steady)
          c.loop-line.invariant.steady;
    }

pub returns : goal.returns
returns c =
    let past : length c.args.lines.now ≤ c.loop-line.line-index = omega (arith, c.loop-line-test.false) in
    record {
      later = c.loop-line.invariant.later;
      steady = all_taken c.args.lines.now c.args.caller.now (dotted c.args.unit.now c.args.object.now) c.args.operation.now c.args.tick c.loop-line.next c.loop-line.line-index past c.loop-line.invariant.steady;
    }
