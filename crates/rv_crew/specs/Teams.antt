-- What contracts see of a crew. (own)
use Rattle.std.specs.Prelude.{◌≡◌, ℕ, List, [], ◌∷◌}
use Rattle.atomic_table.specs.Seated.{TableId}
use Rattle.rv_turn.specs.Histories.{Each}
use Rattle.rv_turn.specs.Passes.{Noted}
use Rattle.rv_port.specs.Ports.{Porting}
use Rattle.rv_behind.specs.declared.event.Event.{Event}

-- what a thread owes: this port, with which its job has done its duty (own)
pub record Owed (D : Type 0) : Type 0 where
  pub port : Porting
  pub duty : D

abbrev pub owing : {D : Type 0} → Porting → D → Owed D
owing port duty = record { port = port; duty = duty }

-- It is paid by a port that comes back: of the same turn and the same actor, and the duty is done with it. (own)
abbrev pub Pays : {D : Type 0} → (does : D → Porting → Porting → Type 0) → Owed D → Porting → Type 0
Pays does owed back = (back.turn ≡ owed.port.turn) × (back.actor ≡ owed.port.actor) × does owed.duty owed.port back

-- so much is true of each two at the same place of two lists, which are of one length (own)
abbrev pub EachTwo : {A B : Type 0} → (A → B → Type 0) → List A → List B → Type 0
EachTwo P [] [] = Unit {0}
EachTwo P [] (y ∷ ys) = ⊥
EachTwo P (x ∷ xs) [] = ⊥
EachTwo P (x ∷ xs) (y ∷ ys) = P x y × EachTwo P xs ys

pub record Team (D : Type 0) : Type 0 where
  -- of each thread that was started and isn't joined yet, in order, what it owes
  pub running : List (Owed D)
  -- the ports that came back, in the order in which they were joined
  pub joined : List Porting
  -- of each of these ports, in the same order, what was owed that it paid
  pub paid : List (Owed D)
  -- the actors whose ports were lost: with their jobs, given up, or left to threads that didn't end in time
  pub lost : List ℕ
  -- of each of these ports but those left to threads, in the same order, what it had seen when it was lost
  pub noted : List (Noted Event)
  -- which of the coming starts makes no thread, counted from 1; none where it is 0
  pub refuses : ℕ
  -- how many threads were given up that didn't end in time
  pub abandoned : ℕ

-- a crew without threads (own)
abbrev pub no_threads : {D : Type 0} → ℕ → Team D
no_threads refuses = record { running = []; joined = []; paid = []; lost = []; noted = []; refuses = refuses; abandoned = 0 }

-- All ports of a crew are of one turn: those that are out, those that came back, and those that were lost. It is what `close`
-- asks of a crew. (own)
pub record IsOfTurn {D : Type 0} (turn : TableId) (crew : Team D) : Type 0 where
  pub out : Each (λ owed. owed.port.turn ≡ turn) crew.running
  pub back : Each (λ port. port.turn ≡ turn) crew.joined
  pub gone : Each (λ note. note.turn ≡ turn) crew.noted
