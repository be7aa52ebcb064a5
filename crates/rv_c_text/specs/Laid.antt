-- What a caller's buffer holds once all that is said was laid into it (own).
use Rattle.std.specs.Prelude.{◌≡◌, ℕ, List, ◌++◌, length, take, drop}
use Rattle.rv_c_text.specs.declared.text.Text.{Text}

-- the first of these, as many as the buffer has room for, and behind them what the buffer had there
abbrev pub laid : {X : Type 0} → List X → List X → List X
laid all buffer = take (length buffer) all ++ drop (length all) buffer

-- the caller gets the first bytes of all that is told, how long all is, and where the line of the fault begins
pub record Gets (all : List ℕ) (before : ℕ) (old new : Text) : Type 0 where
  pub bytes : new.bytes.now ≡ laid all old.bytes.now
  pub whole : new.length ≡ length all
  pub fault : new.fault ≡ before
