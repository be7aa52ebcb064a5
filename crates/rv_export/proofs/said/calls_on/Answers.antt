use Rattle.std.proofs.Common.{◌≡◌, ℕ, List, sym, subst}
use Rattle.std.specs.Prelude.{String, string_bytes}
use Rattle.std.specs.Global.{Global}
use Rattle.rv_shape.specs.Catalogue.{target}
use Rattle.rv_export.specs.Exports.{target_fields}
use Rattle.rv_export.specs.Said.{AreCallsOn}
use Rattle.rv_export.proofs.Finding.{each_more, long_more}
use Rattle.rv_export.proofs.said.calls_on.Goals as goal

pub loop-operation-preserved : goal.loop-operation-preserved
loop-operation-preserved c =
    let shapes = c.args.catalogue.now in
    let before = c.loop-operation.calls.items in
    record {
      are = subst (λ (xs : List (String Global)). AreCallsOn xs shapes c.args.object) (sym c.in_ok-push.ensures.items)
          (each_more (λ (n : ℕ) (x : (String Global)). string_bytes x ≡ target_fields (target shapes c.args.object n)) before c.in_ok-call_of.field-0 c.loop-operation.operation c.loop-operation.invariant.are c.loop-operation.invariant.long c.in_ok-call_of.ensures);
      long = long_more before c.push.new.self.items c.in_ok-call_of.field-0 c.loop-operation.operation c.in_ok-push.ensures.items c.loop-operation.invariant.long;
    }
