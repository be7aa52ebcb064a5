-- One write after another.
use Rattle.std.proofs.Common.{ℕ, List, [], ◌++◌, Some, None, Option, append_assoc, append-nil, refl, sym, ap, ◌∙◌}
use Rattle.std.specs.Io.KnownBytes.{Appends}
use Rattle.rv_script.specs.Prefixes.{WritesPrefix}

pub appends_more : (a b c : Option (List ℕ)) (xs ys : List ℕ) → Appends a b xs → Appends b c ys → Appends a c (xs ++ ys)
appends_more None b c xs ys p q = tt
appends_more (Some u) None c xs ys p q = absurd p
appends_more (Some u) (Some v) None xs ys p q = absurd q
appends_more (Some u) (Some v) (Some w) xs ys p q = q ∙ ap (λ l. l ++ ys) p ∙ append_assoc u xs ys

pub keeps_nothing : (a : Option (List ℕ)) → Appends a a []
keeps_nothing None = tt
keeps_nothing (Some xs) = sym (append-nil xs)

-- nothing is a prefix of any text
pub nothing_yet : (a : Option (List ℕ)) (xs : List ℕ) → WritesPrefix a a xs
nothing_yet a xs = record { prefix = []; rest = xs; whole = refl; written = keeps_nothing a }

-- a prefix behind all of another text
pub prefix_behind : (a b c : Option (List ℕ)) (xs ys : List ℕ) → Appends a b xs → WritesPrefix b c ys → WritesPrefix a c (xs ++ ys)
prefix_behind a b c xs ys all part = record {
  prefix = xs ++ part.prefix;
  rest = part.rest;
  whole = ap (λ (l : List ℕ). xs ++ l) part.whole ∙ sym (append_assoc xs part.prefix part.rest);
  written = appends_more a b c xs part.prefix all part.written;
}
