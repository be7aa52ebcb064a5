use Rattle.rv_run.proofs.Opened.{is_prepared}
use Rattle.rv_run.proofs.run.session_of.Goals as goal

pub returns-clause-prepared : goal.returns-clause-prepared
returns-clause-prepared g c =
    is_prepared c.args.allowance _ c.args.settings.now c.in-Some.control c.opened.new.control _ c.in-Some.ensures
    c.in_ok-opened.ensures.ok c.new.ensures.staff
