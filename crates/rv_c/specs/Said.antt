-- What is said to a caller (own).
use Rattle.std.specs.Prelude.{ℕ, ℤ, List}
use Rattle.rv_c.specs.declared.told.Told.{Told}

-- a status, a text, and how much of the text stands before the line of a fault: all of it where there is no such line
pub record Said : Type 0 where
  pub status : ℤ
  pub text : List ℕ
  pub fault : ℕ

abbrev pub said_of : Told → Said
said_of told = record { status = told.status; text = told.text.items; fault = told.fault }
