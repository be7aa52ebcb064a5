use Rattle.std.proofs.Common.{◌≡◌, ◌∙◌, refl, rules, sym}
use Rattle.rv_attend.specs.declared.room.Then.TheVariants.{End}
use Rattle.rv_attend.proofs.GoingOn.{low_as}
use Rattle.rv_attend.proofs.room.keep_room.Goals as goal

pub loop-init : goal.loop-init
loop-init g c = c.is_due.ensures

pub loop-preserved : goal.loop-preserved
loop-preserved g c = c.do_due.ensures.capacity ∙ c.loop.invariant

pub returns-in-End-clause-ends : goal.returns-in-End-clause-ends
returns-in-End-clause-ends g c = λ out.
    let ends : c.do_due.result ≡ End = search rules in
    low_as c.args.asked.now c.loop.room.capacity c.args.room.now.capacity c.args.used c.args.used (sym c.loop.invariant) refl (c.do_due.ensures.ends ends)
