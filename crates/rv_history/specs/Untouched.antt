-- What a refused call leaves as it was (own).
use Rattle.std.specs.Prelude.{◌≡◌, ℕ, Bool}
use Rattle.rv_event.specs.Past.{scalars, queue, held}
use Rattle.rv_history.specs.History.{History}
use Rattle.rv_history.specs.Exclusion.{excluded, is_open}

-- no scalars, no queue, no barrier, nothing that is held and nobody's exclusion is another after than before
pub record Untouched (before after : History) : Type 0 where
  pub scalars_stay : (object : ℕ) → scalars after.shapes object after.past ≡ scalars before.shapes object before.past
  pub queues_stay : (object : ℕ) → queue object after.past ≡ queue object before.past
  pub barriers_stay : (object : ℕ) → is_open after object ≡ is_open before object
  pub held_stays : (actor : ℕ) → held after.shapes actor after.past ≡ held before.shapes actor before.past
  pub exclusion_stays : (object : ℕ) → (function : Bool) → excluded after object function ≡ excluded before object function
