use Rattle.rv_attend.proofs.GoingOn.{if_ok}
use Rattle.rv_attend.proofs.kept.take_sections.Goals as goal

pub returns-in-Ok : goal.returns-in-Ok
returns-in-Ok g c =
    if_ok c.take_preamble.result _ _
    (λ before gives. record { came = c.hear_sections.new.input; hears = c.in-Ok.ensures.hears; come = c.in-Ok.ensures.come; before = gives }) c.take_preamble.ensures
