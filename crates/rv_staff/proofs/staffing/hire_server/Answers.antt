use Rattle.std.proofs.Common.{◌≡◌, subst}
use Rattle.std.specs.Prelude.{Result}
use Rattle.rv_crew.specs.declared.hiring.HireFault.{HireFault}
use Rattle.rv_crew.specs.Hiring.{hired}
use Rattle.rv_staff.specs.Staffs.{Staffed}
use Rattle.rv_staff.specs.declared.work.Work.{Work}
use Rattle.rv_staff.proofs.staffing.hire_server.Goals as goal

pub returns-in-Err : goal.returns-in-Err
returns-in-Err g c =
    let staff : Staffed = c.args.session.now.staff in
    subst (λ (r : Result (Unit {0}) HireFault). (x : Work) × (c.hire.new.self ≡ record staff { crew = hired staff.crew c.args.port x r })) c.in-Err.is (_, c.hire.ensures)
