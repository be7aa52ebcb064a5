-- What is read of a pipe (own).
use Rattle.std.specs.Prelude.{◌≡◌, ◌≤◌, ◌⊎◌, ℕ, List, [], ◌∷◌, ◌++◌, length, IfSome, Option, Result, Ok, Err, ⊤}
use Rattle.std.specs.declared.io.Error.{Error}
use Rattle.rv_pipes.specs.Lines.{next_bytes}
use Rattle.rv_pipes.specs.declared.lines.Next.{Next}
use Rattle.rv_pipes.specs.declared.lines.Next.TheVariants as Nexts

-- what comes of a pipe whose reader has these bytes left, where it tells: those are the line, or lack its line feed; or they are as many
-- as a line may have, and more stand behind; or there are none
abbrev pub ReadsNext : Option (List ℕ) → Result Next Error → Type 0
ReadsNext left (Ok (Nexts.Line line)) =
    IfSome left (λ xs. (line.bytes.items ≡ next_bytes xs) ⊎ (line.bytes.items ≡ next_bytes xs ++ 10 ∷ []))
ReadsNext left (Ok Nexts.TooLong) = IfSome left (λ xs. 4096 ≤ length (next_bytes xs))
ReadsNext left (Ok Nexts.Over) = IfSome left (λ xs. next_bytes xs ≡ [])
ReadsNext left (Err error) = ⊤
