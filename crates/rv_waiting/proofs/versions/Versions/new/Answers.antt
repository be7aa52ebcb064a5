use Rattle.std.proofs.Common.{[], refl, subst, sym}
use Rattle.rv_waiting.specs.Versions.{AreVersions}
use Rattle.rv_waiting.proofs.Telling.{fresh_are}
use Rattle.rv_waiting.proofs.versions.Versions.new.Goals as goal

pub returns : goal.returns
returns c = subst (AreVersions []) (sym (c.in_ok-items.ensures.items_if_clones_equal (λ y e. e))) (fresh_are 0 refl)
