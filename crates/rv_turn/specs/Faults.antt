-- Why a pass is not split. (own)
use Rattle.std.specs.Prelude.{ℕ, ◌<◌, ◌≤◌}
use Rattle.rv_turn.specs.declared.split.SplitFault.{SplitFault}
use Rattle.rv_turn.specs.declared.split.SplitFault.TheVariants.{TooFew, NoMemory}

-- TooFew exactly where more acts are asked than are left (own)
abbrev pub IsFault : ℕ → ℕ → SplitFault → Type 0
IsFault left asked TooFew = left < asked
IsFault left asked NoMemory = asked ≤ left
