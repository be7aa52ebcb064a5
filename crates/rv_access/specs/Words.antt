-- What contracts see of a line of an access list.
use Rattle.std.specs.Prelude.{ℕ, Bool, List, Option}

-- a window of ticks: the words `from` and `until`, each with the number behind it, as written (own)
pub record WindowWords : Type 0 where
  pub from : List ℕ
  pub opening : List ℕ
  pub until : List ℕ
  pub closing : List ℕ

-- a line of an access list: allow or deny, its three words as written, and its window if it has one (own)
pub record Words : Type 0 where
  pub allow : Bool
  pub unit : List ℕ
  pub object : List ℕ
  pub operation : List ℕ
  pub window : Option WindowWords
