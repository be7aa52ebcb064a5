-- Full is never what is due: it stands in for what is due and has no room.
use Rattle.std.proofs.Common.{◌≡◌, ℕ, subst}
use Rattle.rv_event.specs.declared.entry.Answer.TheVariants.{Full}
use Rattle.rv_event.specs.declared.entry.Request.{Request}
use Rattle.rv_history.specs.Due.{due}
use Rattle.rv_history.specs.History.{History}
use Rattle.rv_history.proofs.Tells.{Tells, due_tells}

pub never_due : (h : History) (a : ℕ) (r : Request) → due h a r ≡ Full → ⊥
never_due h a r e = subst (Tells h a r) e (due_tells h a r)
