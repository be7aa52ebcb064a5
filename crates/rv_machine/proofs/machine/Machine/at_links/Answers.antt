use Rattle.std.proofs.Common.{rules, ◌≡◌, sym, ap, refl, arith, to_z, of_z, w64, ℤ}
use Rattle.rv_flat.specs.Tables.{trees}
use Rattle.rv_flat.specs.Trees.{tree_at, as_links}
use Rattle.rv_frames.specs.Frames.{links}
use Rattle.rv_machine.proofs.Meetings.{moved, in_each, from_as}
use Rattle.rv_machine.specs.declared.point.Point.TheVariants as point
use Rattle.rv_machine.specs.declared.point.Step.TheVariants as step
use Rattle.rv_machine.proofs.machine.Machine.at_links.Goals as goal

pub returns-clause-moves : goal.returns-clause-moves
returns-clause-moves c =
    let item : to_z w64 (of_z w64 c.args.value) ≡ c.args.value = Prim.first_of (Prim.search rules, Prim.grind arith) in
    moved c.args.unit.now c.args.self.now (record c.args.self.now { point = point.At c.link-step.result; stack = c.link-step.new.stack }) (point.At (step.Links c.args.links c.args.value)) refl (in_each _ _ _ _ _ (from_as _ _ _ _ _ (ap (λ (z : ℤ). links (as_links (tree_at (trees c.args.unit.now.code) c.args.links)) z c.args.self.now.activation) (sym item)) c.link-step.ensures.leads))
