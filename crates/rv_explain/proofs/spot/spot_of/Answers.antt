use Rattle.std.proofs.Common.{◌+◌, ◌-◌, length, arith, rules}
use Rattle.rv_explain.proofs.Walked.{on_next, past_next, at_end}
use Rattle.rv_explain.proofs.spot.spot_of.Goals as goal

pub returns-then-left-line : goal.returns-then-left-line
returns-then-left-line c within =
    on_next _ c.args.at c.each.spot.number c.each.spot.line.now c.each.spot.offset _ c.each.left c.in-Some.line.now _ c.each.invariant.2 c.in-Some.ensures.lines (search (rules, arith))

pub each-preserved : goal.each-preserved
each-preserved c =
    let ahead = past_next _ c.args.at c.each.spot.number c.each.spot.line.now c.each.spot.offset _ c.each.left c.in-Some.line.now _ (c.each.left - (length c.in-Some.line.now + 1)) c.each.invariant.2 c.in-Some.ensures.lines (search (rules, arith)) in
    (search rules, search (rules, arith), ahead)

pub returns : goal.returns
returns c within =
    at_end _ c.args.at c.each.spot.number c.each.spot.line.now c.each.spot.offset _ c.each.left c.each.invariant.2 c.in_default.ensures.lines within
