-- A host that was made behind a handle (own).
use Rattle.std.specs.Prelude.{◌≡◌, ℕ, Option, Some, None}
use Rattle.rv_go.specs.Texts.{no_texts, texts_view}
use Rattle.rv_history.specs.Legal as legal
use Rattle.rv_history.specs.Limits.{limits_with}
use Rattle.rv_kept.specs.declared.kept.Kept.{Kept}

-- the history of this capacity and limit of queues without entries, and no texts; a task's own body may make a million requests
abbrev pub IsNew : ℕ → ℕ → Option Kept → Type 0
IsNew capacity limit None = ⊥
IsNew capacity limit (Some k) = (k.host ≡ legal.empty (limits_with capacity limit)) × (texts_view k.texts ≡ no_texts 1000000)
