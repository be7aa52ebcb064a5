use Rattle.std.proofs.Common.{Bool, false, ap, sym}
use Rattle.std.specs.Prelude.{not, ◌||◌}
use Rattle.rv_object.proofs.ActionsLemmas.{excludes-shared}
use Rattle.rv_object.proofs.action.State.admits.Goals as goal

pub returns-in-Readers-Shared : goal.returns-in-Readers-Shared
returns-in-Readers-Shared c =
    rw (c.in-Readers-Shared.is-0, c.in-Readers-Shared.is-1) (ap (λ (b : Bool). not (b || false)) (sym (excludes-shared c.in-Readers-Shared.field-0-0)))
