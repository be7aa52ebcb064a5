use Rattle.std.proofs.Common.{◌≡◌, ◌∷◌, List, ℕ, length, subst, sym}
use Rattle.rv_waiting.specs.Limits.{most_actors}
use Rattle.rv_waiting.specs.Versions.{AreVersions}
use Rattle.rv_waiting.proofs.Plain.{versions_told}
use Rattle.rv_waiting.proofs.versions.Versions.note_own.Goals as goal

pub returns : goal.returns
returns c = λ past e own names now are.
    subst (λ (vs : List ℕ). AreVersions (e ∷ past) vs) (sym c.tell.ensures)
    (versions_told past e c.args.actor c.args.version c.args.self.now own names now c.requires (subst (λ (vs : List ℕ). length vs ≡ most_actors) c.self.view_is c.self.invariant) are)
