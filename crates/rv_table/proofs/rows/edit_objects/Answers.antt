use Rattle.std.proofs.Common.{◌∙◌, arith}
use Rattle.rv_shape.specs.Catalogue.{all_objects}
use Rattle.rv_table.specs.Edits.{edited}
use Rattle.rv_table.specs.Tables.{AreSites}
use Rattle.rv_table.proofs.Callers.{numbered_next}
use Rattle.rv_table.proofs.Halves.{half_none, half_step, half_all}
use Rattle.rv_table.proofs.rows.edit_objects.Goals as goal

pub loop-i-init : goal.loop-i-init
loop-i-init c = λ list long all. half_none (AreSites list) (AreSites (edited c.args.edit list)) (all_objects c.args.catalogue.now) c.args.rows.now all

pub loop-i-preserved : goal.loop-i-preserved
loop-i-preserved c = λ list long all.
    half_step (AreSites list) (AreSites (edited c.args.edit list)) (all_objects c.args.catalogue.now) c.loop-i.rows c.loop-i.i c.edit_object.new.rows (c.loop-i.invariant list long all) (omega arith)
    (λ at here old. c.edit_object.ensures list at long (c.object.ensures ∙ numbered_next (all_objects c.args.catalogue.now) c.loop-i.i ∙ here) (old c.index-rows-i.result))

pub returns : goal.returns
returns c = λ list long all. half_all (AreSites list) (AreSites (edited c.args.edit list)) (all_objects c.args.catalogue.now) c.loop-i.rows c.loop-i.i (c.loop-i.invariant list long all) (omega arith)
