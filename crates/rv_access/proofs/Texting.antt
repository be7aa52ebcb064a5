-- A line without a window has nothing behind its words.
use Rattle.std.proofs.Common.{◌≡◌, ℕ, List, [], ◌++◌, append-nil}

pub no_more : (text : List ℕ) → text ++ [] ≡ text
no_more text = append-nil text
