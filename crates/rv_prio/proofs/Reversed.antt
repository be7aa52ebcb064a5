-- What is read off a list from either end.
use Rattle.std.proofs.Common.{◌≡◌, List, Bool, sym}
use Rattle.std.specs.Prelude.{reverse}
use Rattle.std.specs.List.{list_any}
use Rattle.std.proofs.lemmas.List.Sorted.{list_any-IsPermutation, IsPermutation-reverse}
use Rattle.rv_prio.specs.declared.held.Held.{Held}

-- a list and its reverse pass a test alike
pub list_any_reverse : (p : Held → Bool) (xs : List Held) → list_any p (reverse xs) ≡ list_any p xs
list_any_reverse p xs = sym (list_any-IsPermutation p xs (reverse xs) (IsPermutation-reverse xs))
