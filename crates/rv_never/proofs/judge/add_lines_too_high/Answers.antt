use Rattle.std.proofs.Common.{◌≡◌, ℕ, subst, arith}
use Rattle.rv_never.specs.Nevers.{Adds, DueBelow, IsLineTooHigh}
use Rattle.rv_never.proofs.Adding.{none_below, one_more}
use Rattle.rv_never.proofs.judge.add_lines_too_high.Goals as goal

pub loop-line-init : goal.loop-line-init
loop-line-init c = none_below (IsLineTooHigh c.args.before.now c.args.catalogue.now) c.args.notes.now.items

pub loop-line-preserved : goal.loop-line-preserved
loop-line-preserved c =
    one_more (IsLineTooHigh c.args.before.now c.args.catalogue.now) c.loop-line.line c.args.notes.now.items c.loop-line.notes.items c.add_line_too_high.new.notes.items c.loop-line.invariant c.in_ok-add_line_too_high.ensures

pub returns : goal.returns
returns c =
    let all : c.loop-line.line ≡ 10 = omega (arith, c.loop-line-test.false) in
    subst (λ (n : ℕ). Adds (DueBelow (IsLineTooHigh c.args.before.now c.args.catalogue.now) n) c.args.notes.now.items c.loop-line.notes.items) all c.loop-line.invariant
