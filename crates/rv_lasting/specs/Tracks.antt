-- What began and hasn't ended, and how long what ended lasted (own).
use Rattle.std.specs.Prelude.{ℕ, ◌-◌, Bool, ◌==◌, if◌then◌else◌, List, [], ◌∷◌, Option, Some, None}
use Rattle.rv_lasting.specs.declared.track.Begun.{Begun}
use Rattle.rv_lasting.specs.declared.track.Span.{Span}

-- it is this actor's
abbrev pub is_of : ℕ → Begun → Bool
is_of actor it = it.call.actor == actor

-- the newest of an actor
abbrev pub newest_of : ℕ → List Begun → Option Begun
newest_of actor [] = None
newest_of actor (it ∷ rest) = if is_of actor it then Some it else newest_of actor rest

-- the others
abbrev pub without : ℕ → List Begun → List Begun
without actor [] = []
without actor (it ∷ rest) = if is_of actor it then rest else it ∷ without actor rest

-- the one that ends, of an actor, if one does
abbrev pub ended : Option ℕ → List Begun → Option Begun
ended None begun = None
ended (Some actor) begun = newest_of actor begun

-- those that are left
abbrev pub closed : Option ℕ → List Begun → List Begun
closed None begun = begun
closed (Some actor) begun = without actor begun

-- with one that begins, if one does, as the newest
abbrev pub opened : Option Begun → List Begun → List Begun
opened None begun = begun
opened (Some it) begun = it ∷ begun

-- how long it has lasted at a tick
abbrev pub span_at : Begun → ℕ → Span
span_at it tick = record { actor = it.call.actor; object = it.call.object; ticks = tick - it.tick }

-- what contracts see of a track: what began and hasn't ended, the newest first, and how long what ended lasted
pub record Tracked : Type 0 where
  pub begun : List Begun
  pub spans : List Span

abbrev pub nothing : Tracked
nothing = record { begun = []; spans = [] }
