-- The index of a name in a region, and what it denotes there.
use Rattle.std.proofs.Common.{◌≡◌, ◌∙◌, refl, sym, ap, ℕ, Bool, true, false, List, Option, Some, None, true≢false}
use Rattle.std.specs.Prelude.{is_some, slice_get}
use Rattle.std.specs.List.{position, position_from}
use Rattle.std.specs.Map.{keys_of, values_of, lookup}
use Rattle.std.proofs.lemmas.Iterator.Adapters.{position_from-zero}
use Rattle.indexmap.specs.IndexMap.{insert_entry}
use Rattle.indexmap.specs.Layout.{set_value_at}
use Rattle.indexmap.proofs.MapLemmas.{some_index, Found-position, insert_entry-first}

pub position_is : {K : Type 0} (test : K → Bool) (xs : List K) → position test xs ≡ position_from test 0 xs
position_is test xs = position_from-zero test xs

nothing : {X : Type 0} (o : Option X) → is_some o ≡ false → o ≡ None
nothing None e = refl
nothing (Some x) e = absurd (true≢false e)

pub is_absent : {K X : Type 0} (test : K → Bool) (es : List (K × X)) → position test (keys_of es) ≡ None → lookup test es ≡ None
is_absent test es none = nothing (lookup test es) (sym (some_index test es) ∙ ap is_some none)

pub value_there : {K X : Type 0} (test : K → Bool) (es : List (K × X)) (i : ℕ) → position test (keys_of es) ≡ Some i → lookup test es ≡ slice_get (values_of es) i
value_there test es i there = (Found-position test es i there).value

pub written_there : {K X : Type 0} (same : K → K → Bool) (es : List (K × X)) (name : K) (meaning : X) (i : ℕ) →
    position (same name) (keys_of es) ≡ Some i → insert_entry same es name meaning ≡ set_value_at es i meaning
written_there same es name meaning i there = insert_entry-first same name meaning es i (Found-position (same name) es i there).first
