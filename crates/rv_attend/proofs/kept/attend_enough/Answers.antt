use Rattle.std.proofs.Common.{inl, inr, refl}
use Rattle.rv_attend.proofs.Beginning.{fails_first}
use Rattle.rv_attend.proofs.Keeping.{nothing_kept}
use Rattle.rv_attend.proofs.kept.attend_enough.Goals as goal

pub returns-then-not-is_capacity : goal.returns-then-not-is_capacity
returns-then-not-is_capacity g c = λ first. inr (inl refl)

pub returns-in-Err : goal.returns-in-Err
returns-in-Err g c = λ first. inr (inl refl)

pub returns-in-Ok : goal.returns-in-Ok
returns-in-Ok g c = λ first.
    let kept = nothing_kept (g.F.Write.contents c.args.follower.now.keeper.file) _ c.args.session.staff.control _ refl first in
    inl (
      c.begin.new.session.staff,
      c.begin.ensures.begins,
      rw (c.begin.ensures.asked, c.begin.ensures.source, c.begin.ensures.capacity)
          at c.attend_session.ensures (g.F.Write.contents c.args.follower.now.keeper.file) (c.in-Ok.ensures.keeps _ kept),
    )

pub returns-in-Err-begin : goal.returns-in-Err-begin
returns-in-Err-begin g c = λ first.
    let kept = nothing_kept (g.F.Write.contents c.args.follower.now.keeper.file) _ c.args.session.staff.control _ refl first in
    inr (inr (fails_first _ _ _ _ c.begin.new.session.staff c.begin.new.follower.keeper.next c.in-Err-begin.failure c.in-Err-begin.ensures.lasting c.begin.ensures.begins (c.in-Err-begin.ensures.keeps _ kept)))
