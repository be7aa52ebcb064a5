use Rattle.std.proofs.Common.{◌∙◌, List, Some, None, subst, sym, refl, arith}
use Rattle.rv_access.specs.Words.{Words}
use Rattle.rv_text.specs.Names.{dotted}
use Rattle.rv_never.specs.Denied.{AreSteady}
use Rattle.rv_never.proofs.Steady.{for_good, further, granted_once, none_before}
use Rattle.rv_never.proofs.denied.is_denied.Goals as goal

pub ticks-init : goal.ticks-init
ticks-init c = record {
  since = omega arith;
  denied = none_before c.args.list.now c.args.clock c.args.caller.now (dotted c.args.unit.now c.args.object.now) c.args.operation.now;
}

pub ticks-preserved : goal.ticks-preserved
ticks-preserved c =
    let object = dotted c.args.unit.now c.args.object.now in
    let steady = subst (λ (ls : List Words). AreSteady ls c.args.caller.now object c.args.operation.now c.ticks.tick (Some c.in-Some.next)) c.lines.ensures c.in-Some.ensures.steady in
    record {
      since = omega (arith, c.in-Some.ensures.later.0, c.ticks.invariant.since);
      denied = further c.args.list.now c.args.clock c.ticks.tick c.in-Some.next c.args.caller.now object c.args.operation.now c.ticks.invariant.denied steady
          (sym c.decide-granted.ensures.granted ∙ c.if-granted.false);
    }

pub ticks-smaller : goal.ticks-smaller
ticks-smaller c = omega (arith, c.in-Some.ensures.later.0, c.in-Some.ensures.later.1)

pub returns-then-granted : goal.returns-then-granted
returns-then-granted c = (
  λ none. absurd (cc),
  λ denied.
      absurd (granted_once c.args.list.now c.args.clock c.ticks.tick c.args.caller.now (dotted c.args.unit.now c.args.object.now) c.args.operation.now c.ticks.invariant.since
      (sym c.decide-granted.ensures.granted ∙ c.if-granted.true) denied),
)

pub returns-in-None : goal.returns-in-None
returns-in-None c =
    let object = dotted c.args.unit.now c.args.object.now in
    let steady = subst (λ (ls : List Words). AreSteady ls c.args.caller.now object c.args.operation.now c.ticks.tick None) c.lines.ensures c.in-None.ensures.steady in (
      λ t.
          for_good c.args.list.now c.args.clock c.ticks.tick c.args.caller.now object c.args.operation.now c.ticks.invariant.denied steady
          (sym c.decide-granted.ensures.granted ∙ c.if-granted.false),
      λ denied. refl,
    )
