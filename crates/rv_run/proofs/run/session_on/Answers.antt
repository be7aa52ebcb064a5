use Rattle.rv_run.proofs.Opened.{both_ok, opens_for}
use Rattle.rv_run.proofs.run.session_on.Goals as goal

pub returns-clause-opened : goal.returns-clause-opened
returns-clause-opened g c =
    both_ok c.session_of.result _ _ _
    (λ s prepared long.
    opens_for c.args.allowance c.args.bytes.now c.in-Ok.text.now _ c.in_ok-settings.settings s.staff s.capacity c.in-Ok.ensures.ok.0 c.in-Ok-open.ensures.ok c.in_ok-settings.ensures prepared long)
    c.session_of.ensures.prepared c.session_of.ensures.capacity
