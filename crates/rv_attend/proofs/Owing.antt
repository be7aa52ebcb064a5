-- What may be owed is a small number.
use Rattle.std.proofs.Common.{ℕ, ◌+◌, ◌*◌, ◌≤◌, max, arith}
use Rattle.std.proofs.lemmas.Nat.{mul-le}

pub fewer_tasks : (tasks depth : ℕ) → tasks ≤ 128 → depth ≤ 16 → tasks * (1 + max depth 2) ≤ 2176
fewer_tasks tasks depth few deep = mul-le tasks (1 + max depth 2) 128 17 few (omega (arith, deep))

pub fewer_lines : (depth lines : ℕ) → depth ≤ 16 → lines ≤ 10 → depth * lines ≤ 160
fewer_lines depth lines deep few = mul-le depth lines 16 10 deep few
