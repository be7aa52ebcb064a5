-- A crew gives up the threads that don't end in time. (own)
use Rattle.std.specs.Prelude.{◌≡◌, ◌⊎◌, ℕ, List, [], ◌∷◌, ◌++◌, length, map}
use Rattle.rv_crew.specs.Teams.{Owed, Team}

-- of these threads, in order, some stay and the others are gone
abbrev pub Parts : {D : Type 0} → List (Owed D) → List (Owed D) → List (Owed D) → Type 0
Parts [] stay gone = (stay ≡ []) × (gone ≡ [])
Parts {D} (thread ∷ threads) stay gone =
    ((others : List (Owed D)) × (stay ≡ thread ∷ others) × Parts threads others gone) ⊎ ((others : List (Owed D)) × (gone ≡ thread ∷ others) × Parts threads stay others)

-- whose ports these threads have
abbrev pub actors_out : {D : Type 0} → List (Owed D) → List ℕ
actors_out gone = map (λ owed. owed.port.actor) gone

-- those that stay are put behind others, and so are the actors of those that are gone
abbrev pub PartsInto : {D : Type 0} → List (Owed D) → List (Owed D) → List ℕ → List (Owed D) → List ℕ → Type 0
PartsInto {D} threads before lost stay lost' =
    (more : List (Owed D)) × (gone : List (Owed D)) × Parts threads more gone × (stay ≡ before ++ more) × (lost' ≡ lost ++ actors_out gone)

-- some threads of the crew stay, and the actors of the others are lost
pub record Abandons {D : Type 0} (crew after : Team D) : Type 0 where
  pub stay : List (Owed D)
  pub gone : List (Owed D)
  pub parts : Parts crew.running stay gone
  pub is : after ≡ record crew { running = stay; lost = crew.lost ++ actors_out gone; abandoned = length gone }
