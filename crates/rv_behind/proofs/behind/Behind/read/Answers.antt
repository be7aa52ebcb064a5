use Rattle.std.proofs.Common.{refl, sym, ap, subst, ◌∙◌}
use Rattle.std.specs.Arc.{arc_value}
use Rattle.rv_exec.specs.Bodies.{units_of}
use Rattle.rv_history.specs.History.{History}
use Rattle.rv_history.specs.Legal.{Legal}
use Rattle.rv_host.specs.Pages.{page}
use Rattle.rv_behind.proofs.Zips.{rebuilt}
use Rattle.rv_behind.proofs.Doing.{legal_log, fits_log}
use Rattle.rv_behind.proofs.behind.Behind.read.Goals as goal

pub returns-in-Ok-clause-does : goal.returns-in-Ok-clause-does
returns-in-Ok-clause-does c = let s = c.args.self.now in let us = units_of (arc_value s.bodies).bodies in
    (legal_log s.host.value us (subst Legal c.deref-host.ensures c.replays.ensures.legal), fits_log s.host.value (arc_value s.bodies).bodies (subst Legal c.deref-host.ensures c.replays.ensures.legal) s.brought, (c.in-Ok.ensures.ok ∙ ap (λ (z : History). page z c.args.from) c.deref-host.ensures ∙ ap (λ (z : History). page z c.args.from) (sym (rebuilt s.host.value us (subst Legal c.deref-host.ensures c.replays.ensures.legal))), refl))

pub returns-in-Err-clause-does : goal.returns-in-Err-clause-does
returns-in-Err-clause-does c = let s = c.args.self.now in (legal_log s.host.value (units_of (arc_value s.bodies).bodies) (subst Legal c.deref-host.ensures c.replays.ensures.legal), fits_log s.host.value (arc_value s.bodies).bodies (subst Legal c.deref-host.ensures c.replays.ensures.legal) s.brought, refl)
