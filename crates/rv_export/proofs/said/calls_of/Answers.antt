use Rattle.std.proofs.Common.{ℕ, List, sym, subst}
use Rattle.std.specs.Prelude.{String, Vec}
use Rattle.std.specs.Global.{Global}
use Rattle.rv_export.specs.Said.{AreCalls, AreCallsOn}
use Rattle.rv_export.proofs.Finding.{each_more, long_more}
use Rattle.rv_export.proofs.said.calls_of.Goals as goal

pub loop-object-preserved : goal.loop-object-preserved
loop-object-preserved c =
    let shapes = c.args.catalogue.now in
    let before = c.loop-object.calls.items in
    record {
      are = subst (λ (xs : List (Vec (String Global) Global)). AreCalls xs shapes) (sym c.in_ok-push.ensures.items)
          (each_more (λ (n : ℕ) (x : (Vec (String Global) Global)). AreCallsOn x.items shapes n) before c.in_ok-calls_on.field-0 c.loop-object.object c.loop-object.invariant.are c.loop-object.invariant.long c.in_ok-calls_on.ensures);
      long = long_more before c.push.new.self.items c.in_ok-calls_on.field-0 c.loop-object.object c.in_ok-push.ensures.items c.loop-object.invariant.long;
    }
