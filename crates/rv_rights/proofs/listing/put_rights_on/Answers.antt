use Rattle.std.specs.Prelude.{option_copied, string_bytes}
use Rattle.rv_shape.specs.Readers.{target_of}
use Rattle.rv_rights.proofs.Keeping.{one_operation}
use Rattle.rv_rights.proofs.listing.put_rights_on.Goals as goal

pub loop-operation-preserved : goal.loop-operation-preserved
loop-operation-preserved c =
    one_operation c.args.wish.now c.args.list.now (option_copied c.args.other) c.args.catalogue.now c.shapes.result.now c.args.object c.loop-operation.operation (target_of c.callee-callee.result) (string_bytes c.args.text.now) (string_bytes c.loop-operation.text) (string_bytes c.put_rights_at.new.text)
    c.shapes.ensures.value c.callee-callee.ensures c.loop-operation.invariant c.in_ok-put_rights_at.ensures
